-- Trees in turn: what stands after them, and what lower and flatten make of them.
use Rattle.std.proofs.Common.{◌≡◌, ℕ, zero, suc, ◌+◌, ◌<◌, List, [], ◌∷◌, ◌++◌, map, length, get_or, take, drop, sym, refl, ap, ◌∙◌, add-zero, zero-add, arith}
use Rattle.std.proofs.lemmas.List.{take_at, drop_more, drop-drop, map-append}
use Rattle.model.specs.declared.nodes.Node.{Node}
use Rattle.model.specs.Forest.{Forest, nil, tree, first, after, beside, arity, grow, pre, size}
use Rattle.model.specs.Plans.{Plan, spell, spell_out}
use Rattle.model.specs.Lower.{Turn, bound_first, above_datum, as_it_is, turn, lowered_node, lowered}
use Rattle.model.specs.Flatten.{of_children, flattened}
use Rattle.laws.specs.Walks.{WalkLaws, beyond, lowered_from, StepsAt, WalkSteps}
use Rattle.laws.proofs.Forests.{first_after, pre_grow, size_pre, pre_beside}

after_nil : {A : Type 0} (k : ℕ) → after {A = A} k nil ≡ nil
after_nil zero = refl
after_nil (suc k) = refl

pub first_nil : {A : Type 0} (k : ℕ) → first {A = A} k nil ≡ nil
first_nil zero = refl
first_nil (suc k) = refl

after_after : {A : Type 0} (a k : ℕ) (f : Forest A) → after k (after a f) ≡ after (a + k) f
after_after zero k f = ap (λ n. after n f) (sym (zero-add k))
after_after (suc a) k nil = after_nil k ∙ sym (after_nil (suc a + k))
after_after (suc a) k (tree x cs rest) = let e : suc a + k ≡ suc (a + k) = omega arith in after_after a k rest ∙ ap (λ n. after n (tree x cs rest)) (sym e)

pub first_size : {A : Type 0} (a k : ℕ) (f : Forest A) → size (first a f) + size (first k (after a f)) ≡ size (first (a + k) f)
first_size zero k f = zero-add (size (first k f)) ∙ ap (λ n. size (first n f)) (sym (zero-add k))
first_size {A} (suc a) k nil = ap (λ (x : Forest A). 0 + size x) (first_nil k) ∙ ap (λ (x : Forest A). size x) (sym (first_nil (suc a + k)))
first_size (suc a) k (tree x cs rest) =
    let e : suc a + k ≡ suc (a + k) = omega arith in
    let h = first_size a k rest in
    let z : 1 + (size cs + size (first a rest)) + size (first k (after a rest)) ≡ 1 + (size cs + size (first (a + k) rest)) = omega arith in
    z ∙ ap (λ n. size (first n (tree x cs rest))) (sym e)

pub after_grow : (k : ℕ) (p : List Node) → after k (grow p) ≡ grow (drop (size (first k (grow p))) p)
after_grow zero p = refl
after_grow (suc k) [] = refl
after_grow (suc k) (n ∷ ns) =
    let a = arity n in
    let e : 1 + (size (first a (grow ns)) + size (first k (after a (grow ns)))) ≡ suc (size (first (a + k) (grow ns))) = (let h = first_size a k (grow ns) in omega arith) in
    after_after a k (grow ns) ∙ (after_grow (a + k) ns ∙ ap (λ m. grow (drop m (n ∷ ns))) (sym e))

pub first_grow : (k : ℕ) (p : List Node) → pre (first k (grow p)) ≡ take (size (first k (grow p))) p
first_grow k p =
    sym (take_at (pre (first k (grow p))) (pre (after k (grow p))) (size (first k (grow p))) (sym (size_pre (first k (grow p)))))
    ∙ ap (take (size (first k (grow p)))) (first_after k (grow p) ∙ pre_grow p)

node_first : (t : Turn) (k i : ℕ) (n : Node) (cs rest : Plan) → lowered_node t i n cs (first k rest) ≡ first (suc k) (lowered_node t i n cs rest)
node_first bound_first k i n cs rest = refl
node_first above_datum k i n cs rest = refl
node_first as_it_is k i n cs rest = refl

node_after : (t : Turn) (k i : ℕ) (n : Node) (cs rest : Plan) → after k rest ≡ after (suc k) (lowered_node t i n cs rest)
node_after bound_first k i n cs rest = refl
node_after above_datum k i n cs rest = refl
node_after as_it_is k i n cs rest = refl

pub lowered_first : (k i : ℕ) (f : Forest Node) → lowered i (first k f) ≡ first k (lowered i f)
lowered_first zero i f = refl
lowered_first (suc k) i nil = refl
lowered_first (suc k) i (tree n cs rest) =
    ap (lowered_node (turn n.kind) i n (lowered (i + 1) cs)) (lowered_first k (i + 1 + size cs) rest)
    ∙ node_first (turn n.kind) k i n (lowered (i + 1) cs) (lowered (i + 1 + size cs) rest)

pub lowered_after : (k i : ℕ) (f : Forest Node) → lowered (i + size (first k f)) (after k f) ≡ after k (lowered i f)
lowered_after zero i f = ap (λ j. lowered j f) (add-zero i)
lowered_after (suc k) i nil = refl
lowered_after (suc k) i (tree n cs rest) =
    let e : i + (1 + (size cs + size (first k rest))) ≡ i + 1 + size cs + size (first k rest) = omega arith in
    ap (λ j. lowered j (after k rest)) e
    ∙ (lowered_after k (i + 1 + size cs) rest ∙ node_after (turn n.kind) k i n (lowered (i + 1) cs) (lowered (i + 1 + size cs) rest))

pub flattened_first : (k i : ℕ) (f : Forest Node) → flattened i (first k f) ≡ take k (flattened i f)
flattened_first zero i f = refl
flattened_first (suc k) i nil = refl
flattened_first (suc k) i (tree n cs rest) = ap (λ r. of_children i n (flattened (i + 1) cs) ∷ r) (flattened_first k (i + 1 + size cs) rest)

pub flattened_after : (k i : ℕ) (f : Forest Node) → flattened (i + size (first k f)) (after k f) ≡ drop k (flattened i f)
flattened_after zero i f = ap (λ j. flattened j f) (add-zero i)
flattened_after (suc k) i nil = refl
flattened_after (suc k) i (tree n cs rest) =
    let e : i + (1 + (size cs + size (first k rest))) ≡ i + 1 + size cs + size (first k rest) = omega arith in
    ap (λ j. flattened j (after k rest)) e ∙ flattened_after k (i + 1 + size cs) rest

pub spelled_beside : (p : List Node) (f g : Plan) → spell_out p (beside f g) ≡ spell_out p f ++ spell_out p g
spelled_beside p f g = ap (map (spell p)) (pre_beside f g) ∙ map-append (spell p) (pre f) (pre g)

pub walk_laws_lem : WalkLaws
walk_laws_lem =
    record {
      after_grown = after_grow;
      first_grown = first_grow;
      lowered_first = lowered_first;
      lowered_after = lowered_after;
      flattened_first = flattened_first;
      flattened_after = flattened_after;
      spelled_beside = spelled_beside;
    }

-- One node on

first_first : {A : Type 0} (a b : ℕ) (f : Forest A) → first a (first (a + b) f) ≡ first a f
first_first zero b f = refl
first_first (suc a) b nil = ap (first (suc a)) (first_nil (suc a + b))
first_first (suc a) b (tree x cs rest) =
    let e : suc a + b ≡ suc (a + b) = omega arith in
    ap (λ n. first (suc a) (first n (tree x cs rest))) e ∙ ap (tree x cs) (first_first a b rest)

after_first : {A : Type 0} (a b : ℕ) (f : Forest A) → after a (first (a + b) f) ≡ first b (after a f)
after_first zero b f = ap (λ n. first n f) (zero-add b)
after_first (suc a) b nil = ap (after (suc a)) (first_nil (suc a + b)) ∙ sym (first_nil b)
after_first (suc a) b (tree x cs rest) =
    let e : suc a + b ≡ suc (a + b) = omega arith in
    ap (λ n. after (suc a) (first n (tree x cs rest))) e ∙ after_first a b rest

-- what stands after k trees from place i on
pub after_from : (p : List Node) (i k : ℕ) → after k (grow (drop i p)) ≡ grow (drop (beyond p i k) p)
after_from p i k = after_grow k (drop i p) ∙ ap grow (drop-drop (size (first k (grow (drop i p)))) i p)

-- after a trees, k more
pub beyond_more : (p : List Node) (i a k : ℕ) → beyond p (beyond p i a) k ≡ beyond p i (a + k)
beyond_more p i a k =
    let h = ap (λ (f : Forest Node). size (first k f)) (after_from p i a) in
    let g = first_size a k (grow (drop i p)) in
    omega arith

module _ (p : List Node) (i k : ℕ) (d : Node) (l : i < length p) where
  abbrev n : Node
  n = get_or p i d

  abbrev G : Forest Node
  G = grow (drop (i + 1) p)

  here : first (suc k) (grow (drop i p)) ≡ tree n (first (arity n) G) (first k (grow (drop (beyond p (i + 1) (arity n)) p)))
  here =
      ap (λ q. first (suc k) (grow q)) (drop_more p i d l)
      ∙ ap (λ f. tree n (first (arity n) G) (first k f)) (after_from p (i + 1) (arity n))

  pub steps_at : StepsAt p i k n
  steps_at =
      record {
        on = let h = ap (λ (f : Forest Node). size f) here in omega arith;
        lowers = ap (lowered i) here;
        flattens = ap (flattened i) here;
      }

lowered_front : (p : List Node) (i a b : ℕ) → first a (lowered_from p i (a + b)) ≡ lowered_from p i a
lowered_front p i a b = sym (lowered_first a i (first (a + b) (grow (drop i p)))) ∙ ap (lowered i) (first_first a b (grow (drop i p)))

lowered_back : (p : List Node) (i a b : ℕ) → after a (lowered_from p i (a + b)) ≡ lowered_from p (beyond p i a) b
lowered_back p i a b =
    let f = grow (drop i p) in
    sym (lowered_after a i (first (a + b) f))
    ∙ (ap (λ (g : Forest Node). lowered (i + size g) (after a (first (a + b) f))) (first_first a b f)
    ∙ ap (lowered (beyond p i a)) (after_first a b f ∙ ap (first b) (after_from p i a)))

pub walk_steps : WalkSteps
walk_steps = record { step = steps_at; lowered_front = lowered_front; lowered_back = lowered_back }
