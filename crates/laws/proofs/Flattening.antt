-- flatten's plan: it reads no names, and its nodes are those that each node of the tree brings.
use Rattle.std.proofs.Common.{◌≡◌, ℕ, ◌+◌, Bool, true, false, cond, ◌||◌, List, [], ◌∷◌, get_or, refl, ap, ◌∙◌, ap₂}
use Rattle.std.specs.List.{AllByRecursion as All}
use Rattle.std.proofs.lemmas.Bool.{false≢true}
use Rattle.model.specs.declared.kinds.Kind.{Kind}
use Rattle.model.specs.declared.kinds.Kind.TheVariants.{Let, Put, End, Slot, Label, Set, Goto, Skip, Emit, Ref, If, Bind}
use Rattle.model.specs.declared.nodes.Node.{Node}
use Rattle.model.specs.Kinds.{is, has_name, declares}
use Rattle.model.specs.Names.{node_at, kind_at, blank}
use Rattle.model.specs.Forest.{Forest, nil, tree, grow, size, children}
use Rattle.model.specs.Plans.{like, Planned, Plan, plain, named, copy}
use Rattle.model.specs.Flatten.{Flattened, nothing, all_steps, all_values, stored, result, no_label, fin_label, branches, Turn, slot_let, emit_put, slot_bind, branch_if, end_here, as_it_is, turn, flattened_node, of_children, flattened, over_steps, flatten}
use Rattle.model.proofs.KindTables.{is_same}
use Rattle.laws.proofs.Forests.{blanked, fmap, children_fmap, size_fmap, Throughout, throughout_map, placed_grown, Every, every_beside}
use Rattle.laws.proofs.Orders.{all_at}
use Rattle.laws.proofs.Planning.{Sourced, Planner, copy_sourced}

-- what a turn says of the kind
abbrev pub TurnFact : Turn → Kind → Type 0
TurnFact slot_let k = k ≡ Let
TurnFact emit_put k = k ≡ Put
TurnFact slot_bind k = k ≡ Bind
TurnFact branch_if k = k ≡ If
TurnFact end_here k = k ≡ End
TurnFact as_it_is k = (is k Let || is k Put || is k Bind || is k If || is k End) ≡ false

pub turn_fact : (k : Kind) → TurnFact (turn k) k
turn_fact k = go (is k Let) (is k Put) (is k Bind) (is k If) (is k End) refl refl refl refl refl
  where
    go : (a b c d e : Bool) → is k Let ≡ a → is k Put ≡ b → is k Bind ≡ c → is k If ≡ d → is k End ≡ e → TurnFact (cond a slot_let (cond b emit_put (cond c slot_bind (cond d branch_if (cond e end_here as_it_is))))) k
    go true b c d e x y z v w = is_same k Let x
    go false true c d e x y z v w = is_same k Put y
    go false false true d e x y z v w = is_same k Bind z
    go false false false true e x y z v w = is_same k If v
    go false false false false true x y z v w = is_same k End w
    go false false false false false x y z v w = rw (x, y, z, v, w) refl

-- No names are read

node_blank : (t : Turn) (i : ℕ) (n : Node) (x y z : Flattened) (all : List Flattened) → flattened_node t i (blanked n) x y z all ≡ flattened_node t i n x y z all
node_blank slot_let i n x y z all = refl
node_blank emit_put i n x y z all = refl
node_blank slot_bind i n x y z all = refl
node_blank branch_if i n x y z all = refl
node_blank end_here i n x y z all = refl
node_blank as_it_is i n x y z all = refl

flattened_blank : (i : ℕ) (f : Forest Node) → flattened i (fmap blanked f) ≡ flattened i f
flattened_blank i nil = refl
flattened_blank i (tree n cs rest) =
    ap₂ (λ a b. a ∷ b)
    (node_blank (turn n.kind) i n _ _ _ (flattened (i + 1) (fmap blanked cs)) ∙ ap (of_children i n) (flattened_blank (i + 1) cs))
    (ap (λ z. flattened (i + 1 + z) (fmap blanked rest)) (size_fmap blanked cs) ∙ flattened_blank (i + 1 + size cs) rest)

abbrev pub flattening : Forest Node → Plan
flattening f = over_steps (all_steps (flattened 1 (children f)))

flattening_blank : (f : Forest Node) → flattening (fmap blanked f) ≡ flattening f
flattening_blank f = ap (λ z. over_steps (all_steps z)) (ap (flattened 1) (children_fmap blanked f) ∙ flattened_blank 1 (children f))

-- What holds of every node that the tree brings holds of every node of the steps and values

abbrev pub brought : Turn → ℕ → Node → List Planned
brought slot_let i n = named Slot (like i) ∷ named Set (like i) ∷ []
brought emit_put i n = plain Emit ∷ []
brought slot_bind i n = named Slot (like i) ∷ named Set (like i) ∷ []
brought branch_if i n =
    named Slot (result i) ∷ named Skip (no_label i) ∷ named Set (result i) ∷ named Goto (fin_label i) ∷ named Label (no_label i) ∷ named Label (fin_label i) ∷ named Ref (result i) ∷ []
brought end_here i n = []
brought as_it_is i n = copy i n ∷ []

module _ (P : Planned → Type 0) where
  abbrev Both : Flattened → Type 0
  Both x = Every P x.steps × Every P x.value

  steps_every : (xs : List Flattened) → All Both xs → Every P (all_steps xs)
  steps_every [] h = tt
  steps_every (x ∷ xs) h = every_beside P x.steps (all_steps xs) h.0.0 (steps_every xs h.1)

  values_every : (xs : List Flattened) → All Both xs → Every P (all_values xs)
  values_every [] h = tt
  values_every (x ∷ xs) h = every_beside P x.value (all_values xs) h.0.1 (values_every xs h.1)

  stored_every : (i : ℕ) (x : Flattened) (next : Plan) → P (named Slot (like i)) → P (named Set (like i)) → Both x → Every P next → Every P (stored i x next)
  stored_every i x next a b h k = every_beside P x.steps _ h.0 (a, tt, (b, h.1, k))

  branches_every : (i : ℕ) (n : Node) (c a b : Flattened) → All P (brought branch_if i n) → Both c → Both a → Both b → Every P (branches i c a b)
  branches_every i n c a b h hc ha hb =
      let later = h.1.1 in
      every_beside P c.steps _ hc.0 (
        h.0,
        tt,
        (
          h.1.0,
          hc.1,
          every_beside P a.steps _ ha.0 (
            later.0,
            ha.1,
            (later.1.0, tt, (later.1.1.0, tt, every_beside P b.steps _ hb.0 (later.0, hb.1, (later.1.1.1.0, tt, tt)))),
          ),
        ),
      )

  node_every : (t : Turn) (i : ℕ) (n : Node) (x y z : Flattened) (all : List Flattened) → All P (brought t i n) → Both x → Both y → Both z → All Both all → Both (flattened_node t i n x y z all)
  node_every slot_let i n x y z all b hx hy hz h = (stored_every i x y.steps b.0 b.1.0 hx hy.0, tt)
  node_every emit_put i n x y z all b hx hy hz h = (every_beside P x.steps _ hx.0 (b.0, hx.1, hy.0), tt)
  node_every slot_bind i n x y z all b hx hy hz h = (stored_every i x y.steps b.0 b.1.0 hx hy.0, hy.1)
  node_every branch_if i n x y z all b hx hy hz h = (branches_every i n x y z b hx hy hz, (b.1.1.1.1.1.1.0, tt, tt))
  node_every end_here i n x y z all b hx hy hz h = (tt, tt)
  node_every as_it_is i n x y z all b hx hy hz h = (steps_every all h, (b.0, values_every all h, tt))

  flattened_every : (i : ℕ) (f : Forest Node) → Throughout (λ j n. All P (brought (turn n.kind) j n)) i f → All Both (flattened i f)
  flattened_every i nil h = tt
  flattened_every i (tree n cs rest) h =
      let ps = flattened (i + 1) cs in
      let a = flattened_every (i + 1) cs h.1 in
      let at : (k : ℕ) → Both (get_or ps k nothing) = λ k. all_at Both ps nothing k a (tt, tt) in
      (node_every (turn n.kind) i n (get_or ps 0 nothing) (get_or ps 1 nothing) (get_or ps 2 nothing) ps h.0 (at 0) (at 1) (at 2) a, flattened_every (i + 1 + size cs) rest h.2)

  pub all_steps_every : (Q : ℕ → Node → Type 0) → ((i : ℕ) (n : Node) → Q i n → All P (brought (turn n.kind) i n)) → (f : Forest Node) → Throughout Q 1 f → Every P (all_steps (flattened 1 f))
  all_steps_every Q b f h = steps_every (flattened 1 f) (flattened_every 1 f (throughout_map Q (λ j n. All P (brought (turn n.kind) j n)) b 1 f h))

-- Where names come from

module _ (p : List Node) where
  stored_sourced : (i : ℕ) (k : Kind) → kind_at p i ≡ k → has_name k ≡ true → declares k ≡ true → All (Sourced p) (named Slot (like i) ∷ named Set (like i) ∷ [])
  stored_sourced i k e h d = let a = ap has_name e ∙ h in ((refl, a, λ _. ap declares e ∙ d), ((refl, a, λ f. absurd (false≢true f)), tt))

  node_sourced : (t : Turn) (i : ℕ) (n : Node) → kind_at p i ≡ n.kind → TurnFact t n.kind → All (Sourced p) (brought t i n)
  node_sourced slot_let i n e f = stored_sourced i Let (e ∙ f) refl refl
  node_sourced emit_put i n e f = (refl, tt)
  node_sourced slot_bind i n e f = stored_sourced i Bind (e ∙ f) refl refl
  node_sourced branch_if i n e f = ((refl, refl), ((refl, refl), ((refl, refl), ((refl, refl), ((refl, refl), ((refl, refl), ((refl, refl), tt)))))))
  node_sourced end_here i n e f = tt
  node_sourced as_it_is i n e f = (copy_sourced p i n e, tt)

  flattening_sourced : Every (Sourced p) (flattening (grow p))
  flattening_sourced =
      (refl, all_steps_every (Sourced p) (λ i n. node_at p i ≡ n) (λ i n e. node_sourced (turn n.kind) i n (ap (λ m. m.kind) e) (turn_fact n.kind)) (children (grow p)) (placed_grown blank p), tt)

pub flatten_planner : Planner flatten flattening
flatten_planner = record { drafts = λ s. refl; nameless = flattening_blank; sourced = flattening_sourced }
