-- A row with other nodes and its own origins, and one class of it respelled.
use Rattle.std.proofs.Common.{◌≡◌, ℕ, zero, suc, ◌+◌, ◌<◌, ◌≤◌, Bool, true, false, cond, List, [], ◌∷◌, ◌++◌, length, get_or, take, drop, set, None, Option, sym, refl, ap, ◌∙◌, ap₂, append-nil, arith}
use Rattle.std.proofs.lemmas.List.{get_or_at, take_all, drop_all, drop_more, length-take-le}
use Rattle.std.proofs.lemmas.Bool.{cond-true, cond-false}
use Rattle.model.specs.declared.nodes.Name.{Name}
use Rattle.model.specs.declared.nodes.Node.{Node}
use Rattle.model.specs.declared.nodes.Entry.{Entry}
use Rattle.model.specs.Names.{with_mark, name_at, respelled, nodes, blank_entry, entry_at}
use Rattle.model.specs.declared.classes.Class.{Class}
use Rattle.model.specs.Classes.{together}
use Rattle.model.specs.Repair.{marks, unused, fresh, respell}
use Rattle.model.specs.Stages.{with_origins}
use Rattle.laws.proofs.Entries.{node_of}
use Rattle.laws.proofs.RoundTrips.{length_nodes}
use Rattle.promise.proofs.Respelling.{same_length, respell_same}
use Rattle.scope.proofs.Overlays.{overlay_more}

pub length_origins : (es : List Entry) (p : List Node) → length p ≡ length es → length (with_origins es p) ≡ length es
length_origins [] p l = refl
length_origins (e ∷ es) [] l = absurd (omega arith)
length_origins (e ∷ es) (n ∷ ns) l = ap suc (length_origins es ns (omega arith))

-- with its own nodes it is as it was
pub own_nodes : (es : List Entry) → with_origins es (nodes es) ≡ es
own_nodes [] = refl
own_nodes (e ∷ es) = ap (◌∷◌ e) (own_nodes es)

-- only the last nodes stay
pub origins_again : (es : List Entry) (p q : List Node) → length p ≡ length es → with_origins (with_origins es p) q ≡ with_origins es q
origins_again [] p q l = refl
origins_again (e ∷ es) [] q l = absurd (omega arith)
origins_again (e ∷ es) (n ∷ ns) [] l = refl
origins_again (e ∷ es) (n ∷ ns) (m ∷ ms) l = ap (◌∷◌ (record { node = m; origin = e.origin })) (origins_again es ns ms (omega arith))

-- a row in which the class is respelled
abbrev pub spelled : Option Class → Name → List (Option Class) → List Entry → List Entry
spelled c a cs es = with_origins es (respell c a cs (nodes es))

abbrev pub renamed : Entry → Name → Entry
renamed e a = record { node = respelled e.node a; origin = e.origin }

length_spelled : (c : Option Class) (a : Name) (cs : List (Option Class)) (es : List Entry) → length (spelled c a cs es) ≡ length es
length_spelled c a cs es = length_origins es _ (same_length (nodes es) _ (respell_same c a cs (nodes es)) ∙ length_nodes es)

spelled_at : (c : Option Class) (a : Name) (cs : List (Option Class)) (es : List Entry) (i : ℕ) → length cs ≡ length es → i < length es → entry_at (spelled c a cs es) i ≡ cond (together c (get_or cs i None)) (renamed (entry_at es i) a) (entry_at es i)
spelled_at c a cs [] i l h = absurd (omega arith)
spelled_at c a [] (e ∷ es) i l h = absurd (omega arith)
spelled_at c a (k ∷ ks) (e ∷ es) zero l h = go (together c k)
  where
    go : (b : Bool) → record { node = cond b (respelled e.node a) e.node; origin = e.origin } ≡ cond b (renamed e a) e
    go true = refl
    go false = refl
spelled_at c a (k ∷ ks) (e ∷ es) (suc i) l h = spelled_at c a ks es i (omega arith) (omega arith)

-- place by place: the first i places are done
module _ (c : Option Class) (a : Name) (cs : List (Option Class)) (es : List Entry) where
  abbrev pub SpelledFront : ℕ → List Entry → Type 0
  SpelledFront i so_far = so_far ≡ take i (spelled c a cs es) ++ drop i es

  module _ (i : ℕ) (so_far : List Entry) (r : Bool) (long : length cs ≡ length es) (here : i < length es) (front : SpelledFront i so_far) (is : r ≡ together c (get_or cs i None)) where
    not_yet : entry_at so_far i ≡ entry_at es i
    not_yet =
        ap (λ (row : List Entry). entry_at row i) (front ∙ ap (λ (row : List Entry). take i (spelled c a cs es) ++ row) (drop_more es i blank_entry here))
        ∙ get_or_at (take i (spelled c a cs es)) _ _ blank_entry i (length-take-le i (spelled c a cs es) (omega (arith, length_spelled c a cs es)))

    step : (e : Entry) → e ≡ entry_at (spelled c a cs es) i → SpelledFront (i + 1) (set so_far i e)
    step e h = overlay_more (spelled c a cs es) es so_far i blank_entry e (omega (arith, length_spelled c a cs es)) here front h

    pub spelled_here : r ≡ true → SpelledFront (i + 1) (set so_far i (renamed (entry_at so_far i) a))
    spelled_here s =
        step _ (ap (λ (e : Entry). renamed e a) not_yet ∙ sym (spelled_at c a cs es i long here ∙ cond-true (together c (get_or cs i None)) _ _ (sym is ∙ s)))

    pub spelled_past : r ≡ false → SpelledFront (i + 1) (set so_far i (entry_at so_far i))
    spelled_past s =
        step (entry_at so_far i) (not_yet ∙ sym (spelled_at c a cs es i long here ∙ cond-false (together c (get_or cs i None)) _ _ (sym is ∙ s)))

  pub spelled_all : (i : ℕ) (so_far : List Entry) → length es ≤ i → SpelledFront i so_far → so_far ≡ spelled c a cs es
  spelled_all i so_far l front =
      front
      ∙ (ap₂ ◌++◌ (take_all i (spelled c a cs es) (omega (arith, length_spelled c a cs es))) (drop_all i es l)
      ∙ append-nil (spelled c a cs es))

-- the class of the name at a place, with a fresh spelling of that name
pub freshly_spelled : (cs : List (Option Class)) (es next : List Entry) (i : ℕ) (a : Name) (mark : ℕ) → mark ≡ unused (marks (entry_at es i).node.name (nodes es)) → a ≡ with_mark (entry_at es i).node.name mark → next ≡ spelled (get_or cs i None) a cs es → next ≡ spelled (get_or cs i None) (fresh (name_at (nodes es) i) (nodes es)) cs es
freshly_spelled cs es next i a mark m e h =
    let same : a ≡ fresh (name_at (nodes es) i) (nodes es) = e ∙ (ap (with_mark (entry_at es i).node.name) m ∙ ap (λ (n : Node). fresh n.name (nodes es)) (node_of es i)) in
    h ∙ ap (λ (b : Name). spelled (get_or cs i None) b cs es) same
