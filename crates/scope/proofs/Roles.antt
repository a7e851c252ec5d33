-- What a name reaches, by the role of its node.
use Rattle.std.proofs.Common.{◌≡◌, ℕ, false, List, [], get_or, None, sym, ap, ◌∙◌}
use Rattle.model.specs.declared.kinds.KindRow.{KindRow}
use Rattle.model.specs.declared.kinds.Role.{Role}
use Rattle.model.specs.declared.kinds.Role.TheVariants.{Refers}
use Rattle.model.specs.declared.nodes.Node.{Node}
use Rattle.model.specs.declared.nodes.Entry.{Entry}
use Rattle.model.specs.Kinds.{row, has_name}
use Rattle.model.specs.Table.{RowOf, shown, row_of}
use Rattle.model.specs.Names.{kind_at, name_at, entry_at, nodes}
use Rattle.model.specs.Forest.{Shape, shape}
use Rattle.model.specs.Scopes.{Order, order_of, by_role, reach_in, reach}
use Rattle.model.specs.Rules.{Visible}
use Rattle.laws.proofs.Entries.{node_of}
use Rattle.laws.proofs.Reaches.{shape_kind}
use Rattle.scope.specs.Seeking.{sought}

-- the role that the row of a place's kind shows
pub role_at : (x : KindRow) (es : List Entry) (at : ℕ) (r : Role) → shown x ≡ row_of (entry_at es at).node.kind → x.role ≡ r → (row (kind_at (nodes es) at)).role ≡ r
role_at x es at r e h = ap (λ (n : Node). (row n.kind).role) (sym (node_of es at)) ∙ (sym (ap (λ (t : RowOf). t.row.role) e) ∙ h)

pub of_nameless : (order : Order) → Visible order → (p : List Node) (at : ℕ) → has_name (kind_at p at) ≡ false → reach order p at ≡ None
of_nameless order vis p at h = ap (reach_in p (name_at p at)) (vis.nothing (shape p) at (ap has_name (shape_kind p at) ∙ h))

pub of_reference : (scopes : Shape → List (List ℕ)) (p : List Node) (at : ℕ) → (row (kind_at p at)).role ≡ Refers → reach (order_of scopes) p at ≡ sought scopes p at
of_reference scopes p at h =
    ap (λ r. reach_in p (name_at p at) (by_role r at (get_or (scopes (shape p)) at []))) (ap (λ k. (row k).role) (shape_kind p at) ∙ h)
