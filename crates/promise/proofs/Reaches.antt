-- Reaches: of each name as of the list of all, and of declarations only.
use Rattle.std.proofs.Common.{◌≡◌, ℕ, ◌<◌, true, List, length, get_or, Some, None, ap, subst, ⊎_elim}
use Rattle.std.proofs.lemmas.Bool.{cases_lt, both_ways}
use Rattle.std.proofs.lemmas.List.{get_or_past}
use Rattle.model.specs.declared.nodes.Node.{Node}
use Rattle.model.specs.Kinds.{has_name, declares}
use Rattle.model.specs.Names.{kind_at, blank}
use Rattle.model.specs.Forest.{shape}
use Rattle.model.specs.Scopes.{Order, reach, reach_by, reaches}
use Rattle.model.specs.Rules.{Visible}
use Rattle.laws.specs.Orders.{Reach}
use Rattle.laws.proofs.Reaches.{reach_is}
use Rattle.promise.proofs.Lists.{get_or_places}

pub named_in : (p : List Node) (i : ℕ) → has_name (kind_at p i) ≡ true → i < length p
named_in p i h = ⊎_elim (λ l. l) (λ l. absurd (both_ways _ (ap (λ n. has_name n.kind) (get_or_past p i blank l)) h)) (cases_lt i (length p))

pub reaches_at : (order : Order) (p : List Node) (i : ℕ) → i < length p → get_or (reaches order p) i None ≡ reach order p i
reaches_at order p i l = get_or_places (reach_by (order (shape p)) p) p i None l

pub reached_declares : (order : Order) → Visible order → (p : List Node) (i x : ℕ) → reach order p i ≡ Some x → declares (kind_at p x) ≡ true
reached_declares order V p i x h = (subst (Reach order p i) h (reach_is order V p i)).declaration
