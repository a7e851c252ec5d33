-- Where trees end, as a walk over the entries counts the nodes that are wanted.
use Rattle.std.proofs.Common.{◌≡◌, ℕ, zero, suc, ◌+◌, ◌-◌, ◌^◌, ◌<◌, ◌≤◌, min, List, length, get_or, take, drop, sym, refl, ap, ap₂, ◌∙◌, inl, inr, arith}
use Rattle.std.proofs.lemmas.List.{get_or-drop, take_all, drop_all, length-drop}
use Rattle.std.proofs.lemmas.Bool.{cases_lt}
use Rattle.model.specs.declared.nodes.Node.{Node}
use Rattle.model.specs.declared.nodes.Entry.{Entry}
use Rattle.model.specs.Names.{blank, blank_entry, node_at, nodes}
use Rattle.model.specs.Forest.{Forest, nil, tree, arity, first, size, width, grow}
use Rattle.laws.specs.Walks.{beyond}
use Rattle.laws.proofs.Entries.{node_of}
use Rattle.laws.proofs.Forests.{size_grow}
use Rattle.laws.proofs.RoundTrips.{length_nodes}
use Rattle.laws.proofs.Walks.{first_nil, beyond_more, steps_at}

width_size : {A : Type 0} (f : Forest A) → width f ≤ size f
width_size nil = omega arith
width_size (tree a cs rest) = let h = width_size rest in omega arith

first_all : {A : Type 0} (k : ℕ) (f : Forest A) → width f ≤ k → first k f ≡ f
first_all zero nil l = refl
first_all zero (tree a cs rest) l = absurd (omega arith)
first_all (suc k) nil l = refl
first_all (suc k) (tree a cs rest) l = ap (tree a cs) (first_all k rest (omega arith))

-- no more trees than there are nodes
pub beyond_all : (p : List Node) (i k most : ℕ) → length p ≤ most → beyond p i (min k most) ≡ beyond p i k
beyond_all p i k most l =
    elim (cases_lt most k) [
      | inl h ↦
          (let f = grow (drop i p) in
          let w : width f ≤ most = (let a = width_size f in let b = size_grow (drop i p) in let c = length-drop i p in omega arith) in
          let e : min k most ≡ most = omega arith in
          ap (beyond p i) e ∙ ap (λ (g : Forest Node). i + size g) (first_all most f w ∙ sym (first_all k f (omega arith))))
      | inr h ↦ (let e : min k most ≡ k = omega arith in ap (beyond p i) e)
    ]

-- one node on, of so many trees that are wanted: as many more as it has children, as far as a count goes
pub wanted_on : (p : List Node) (at wanted below cap most : ℕ) → at < length p → 0 < wanted → below ≡ arity (node_at p at) → length p ≤ most → most ≤ cap → beyond p (at + 1) (min (min (wanted - 1 + below) cap) most) ≡ beyond p at wanted
wanted_on p at wanted below cap most l w b m c =
    let e : min (min (wanted - 1 + below) cap) most ≡ min (below + (wanted - 1)) most = omega arith in
    let n : suc (wanted - 1) ≡ wanted = omega arith in
    ap (beyond p (at + 1)) e
    ∙ (beyond_all p (at + 1) (below + (wanted - 1)) most m
    ∙ (ap (λ k. beyond p (at + 1) (k + (wanted - 1))) b
    ∙ (sym (beyond_more p (at + 1) (arity (node_at p at)) (wanted - 1))
    ∙ (sym (steps_at p at (wanted - 1) blank l).on ∙ ap (beyond p at) n))))

pub none_left : (p : List Node) (at k : ℕ) → length p ≤ at → beyond p at k ≡ at
none_left p at k l =
    let e = ap (λ (f : Forest Node). size f) (ap (λ (ns : List Node). first k (grow ns)) (drop_all at p l) ∙ first_nil k) in
    omega arith

pub none_wanted : (p : List Node) (at k : ℕ) → k ≡ 0 → beyond p at k ≡ at
none_wanted p at k z = ap (beyond p at) z ∙ omega arith

-- the entries from a place on

rest_is : (es : List Entry) (from : ℕ) → take (length es - from) (drop from es) ≡ drop from es
rest_is es from = take_all (length es - from) (drop from es) (let z = length-drop from es in omega arith)

pub rest_long : (es : List Entry) (from : ℕ) → length (take (length es - from) (drop from es)) ≡ length es - from
rest_long es from = ap (λ (xs : List Entry). length xs) (rest_is es from) ∙ length-drop from es

pub entry_on : (es : List Entry) (from i : ℕ) → (get_or (take (length es - from) (drop from es)) i blank_entry).node ≡ node_at (nodes es) (from + i)
entry_on es from i =
    ap (λ (xs : List Entry). (get_or xs i blank_entry).node) (rest_is es from)
    ∙ (ap (λ (e : Entry). e.node) (get_or-drop from es i blank_entry) ∙ node_of es (from + i))

-- the walk one entry further, where trees were wanted
pub walked_on : (es : List Entry) (from passed wanted below next end : ℕ) → length es ≤ 2 ^ 64 - 1 → from + passed < length es → 0 < wanted → below ≡ arity (get_or (take (length es - from) (drop from es)) passed blank_entry).node → next ≡ min (wanted - 1 + below) (2 ^ 64 - 1) → beyond (nodes es) (from + passed) wanted ≡ end → beyond (nodes es) (from + (passed + 1)) next ≡ end
walked_on es from passed wanted below next end fits l w b n before =
    let on : from + (passed + 1) ≡ from + passed + 1 = omega arith in
    let long = length_nodes es in
    let inside : from + passed < length (nodes es) = omega (arith, long) in
    let sum : next ≡ min (min (wanted - 1 + below) (2 ^ 64 - 1)) (2 ^ 64 - 1) = omega (arith, n) in
    ap₂ (beyond (nodes es)) on sum
    ∙ (wanted_on (nodes es) (from + passed) wanted below (2 ^ 64 - 1) (2 ^ 64 - 1) inside w (b ∙ ap arity (entry_on es from passed)) (omega (arith, long, fits)) (omega arith)
    ∙ before)
