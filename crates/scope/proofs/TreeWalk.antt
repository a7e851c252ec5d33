-- Trees: the scope of a name, by a walk from the name back to the root. From each node on, what follows is a row of
-- trees; the walk counts those that stand before the one which holds the name.
use Rattle.std.proofs.Common.{◌≡◌, ℕ, zero, suc, ◌+◌, ◌-◌, ◌<◌, ◌≤◌, Bool, true, false, cond, ◌&&◌, eqb, List, [], ◌∷◌, ◌++◌, length, get_or, take, drop, Some, None, sym, refl, ap, ◌∙◌, subst, inl, inr, append_assoc, add-zero, add-one, arith}
use Rattle.std.proofs.lemmas.List.{length-append, length-take-le, take-append-drop, get_or_append_left, get_or-append_right}
use Rattle.std.proofs.lemmas.Bool.{cases_lt, ne_eqb}
use Rattle.std.specs.Iterator.Adapters.{rev_source, enumerate_count}
use Rattle.std.specs.declared.iter.Rev.{Rev}
use Rattle.std.specs.declared.iter.Enumerate.{Enumerate}
use Rattle.std.specs.declared.slice.Iter.{Iter}
use Rattle.model.specs.declared.kinds.Kind.{Kind}
use Rattle.model.specs.declared.nodes.Name.{Name}
use Rattle.model.specs.declared.nodes.Node.{Node}
use Rattle.model.specs.declared.nodes.Entry.{Entry}
use Rattle.model.specs.Names.{alike, blank_entry, node_at, kind_at, name_at, entry_at, nodes}
use Rattle.model.specs.Forest.{nil, tree, Shape, shape, arity, first, after, size}
use Rattle.model.specs.Scopes.{more, scopes_its_last, tree_nodes, reach_in}
use Rattle.laws.proofs.Entries.{node_of}
use Rattle.laws.proofs.RoundTrips.{length_nodes}
use Rattle.laws.proofs.Forests.{shape_at}
use Rattle.laws.proofs.Walks.{first_size}
use Rattle.scope.proofs.Scoping.{reach_here, reach_past, tested}
use Rattle.scope.proofs.Backward.{left, Back, Steps, up_left, one_more, there, back}

-- The scopes of trees in a row

length_nodes_scoped : (at : ℕ) (Γ Λ : List ℕ) (f : Shape) → length (tree_nodes at Γ Λ f) ≡ size f
length_nodes_scoped at Γ Λ nil = refl
length_nodes_scoped at Γ Λ (tree k cs rest) =
    let a = length_nodes_scoped (at + 1) Γ (more (scopes_its_last k) at Γ) cs in
    let b = length_nodes_scoped (at + 1 + size cs) Λ Λ rest in
    simp length-append (omega arith)

-- of a row of trees the first ones, the first of all seeing Γ, and those after them
abbrev Split : ℕ → ℕ → List ℕ → List ℕ → Shape → Type 0
Split a at Γ Λ f = tree_nodes at Γ Λ f ≡ tree_nodes at Γ Λ (first a f) ++ tree_nodes (at + size (first a f)) Λ Λ (after a f)

split_more : (a at : ℕ) (Γ Λ : List ℕ) (k : Kind) (cs rest : Shape) → Split a (at + 1 + size cs) Λ Λ rest → Split (suc a) at Γ Λ (tree k cs rest)
split_more a at Γ Λ k cs rest h =
    let X = tree_nodes (at + 1) Γ (more (scopes_its_last k) at Γ) cs in
    let e : at + 1 + size cs + size (first a rest) ≡ at + (1 + (size cs + size (first a rest))) = omega arith in
    ap (λ r. Γ ∷ r)
    (ap (λ r. X ++ r) (h ∙ ap (λ n. tree_nodes (at + 1 + size cs) Λ Λ (first a rest) ++ tree_nodes n Λ Λ (after a rest)) e)
    ∙ sym (append_assoc X (tree_nodes (at + 1 + size cs) Λ Λ (first a rest)) (tree_nodes (at + (1 + (size cs + size (first a rest)))) Λ Λ (after a rest))))

split_same : (a at : ℕ) (Λ : List ℕ) (f : Shape) → Split a at Λ Λ f
split_same zero at Λ f = ap (λ n. tree_nodes n Λ Λ f) (sym (add-zero at))
split_same (suc a) at Λ nil = refl
split_same (suc a) at Λ (tree k cs rest) = split_more a at Λ Λ k cs rest (split_same a (at + 1 + size cs) Λ rest)

split_first : (a at : ℕ) (Γ Λ : List ℕ) (f : Shape) → Split (suc a) at Γ Λ f
split_first a at Γ Λ nil = refl
split_first a at Γ Λ (tree k cs rest) = split_more a at Γ Λ k cs rest (split_same a (at + 1 + size cs) Λ rest)

-- the scope of the node that stands m places after `at`
abbrev pub scope : ℕ → List ℕ → List ℕ → Shape → ℕ → List ℕ
scope at Γ Λ f m = get_or (tree_nodes at Γ Λ f) m []

in_first : (a at : ℕ) (Γ Λ : List ℕ) (f : Shape) (m : ℕ) → m < size (first a f) → scope at Γ Λ (first a f) m ≡ scope at Γ Λ f m
in_first zero at Γ Λ f m l = absurd (omega arith)
in_first (suc a) at Γ Λ f m l =
    let X = tree_nodes at Γ Λ (first (suc a) f) in
    let Y = tree_nodes (at + size (first (suc a) f)) Λ Λ (after (suc a) f) in
    sym (ap (λ (r : List (List ℕ)). get_or r m []) (split_first a at Γ Λ f) ∙ get_or_append_left X Y [] m (let z = length_nodes_scoped at Γ Λ (first (suc a) f) in omega arith))

past_first : (a at : ℕ) (Λ : List ℕ) (f : Shape) (m : ℕ) → size (first a f) ≤ m → scope (at + size (first a f)) Λ Λ (after a f) (m - size (first a f)) ≡ scope at Λ Λ f m
past_first a at Λ f m l =
    let X = tree_nodes at Λ Λ (first a f) in
    let Y = tree_nodes (at + size (first a f)) Λ Λ (after a f) in
    sym (ap (λ (r : List (List ℕ)). get_or r m []) (split_same a at Λ f) ∙ get_or-append_right X Y (size (first a f)) m [] (length_nodes_scoped at Λ Λ (first a f)) l)

-- A node before a row of trees, which takes the first a of them for its children

abbrev over : Kind → ℕ → Shape → Shape
over k a f = tree k (first a f) (after a f)

-- in a child of the node
below : (k : Kind) (a at : ℕ) (Γ Λ : List ℕ) (f : Shape) (m : ℕ) → m < size (first a f) → scope at Γ Λ (over k a f) (suc m) ≡ scope (at + 1) Γ (more (scopes_its_last k) at Γ) f m
below k a at Γ Λ f m l =
    let Θ = more (scopes_its_last k) at Γ in
    let X = tree_nodes (at + 1) Γ Θ (first a f) in
    get_or_append_left X (tree_nodes (at + 1 + size (first a f)) Λ Λ (after a f)) [] m (let z = length_nodes_scoped (at + 1) Γ Θ (first a f) in omega arith)
    ∙ in_first a (at + 1) Γ Θ f m l

-- in a tree after it
beside : (k : Kind) (a at : ℕ) (Γ Λ : List ℕ) (f : Shape) (m : ℕ) → size (first a f) ≤ m → scope at Γ Λ (over k a f) (suc m) ≡ scope (at + 1) Λ Λ f m
beside k a at Γ Λ f m l =
    let Θ = more (scopes_its_last k) at Γ in
    let X = tree_nodes (at + 1) Γ Θ (first a f) in
    get_or-append_right X (tree_nodes (at + 1 + size (first a f)) Λ Λ (after a f)) (size (first a f)) m [] (length_nodes_scoped (at + 1) Γ Θ (first a f)) l
    ∙ past_first a (at + 1) Λ f m l

-- the node m places on stands in tree number c of the row
pub record StandsIn (c m : ℕ) (f : Shape) : Type 0 where
  pub low : size (first c f) ≤ m
  pub high : m < size (first (suc c) f)

-- of so many trees and more
wider : (c a : ℕ) (f : Shape) → c ≤ a → size (first c f) ≤ size (first a f)
wider c a f l = let e : c + (a - c) ≡ a = omega arith in let h = first_size c (a - c) f in let g = ap (λ n. size (first n f)) e in omega arith

stands_first : (k : Kind) (a c m : ℕ) (f : Shape) → c < a → StandsIn c m f → StandsIn 0 (suc m) (over k a f)
stands_first k a c m f l s = record { low = omega arith; high = let h = s.high in let w = wider (suc c) a f (omega arith) in omega arith }

stands_later : (k : Kind) (a c m : ℕ) (f : Shape) → a ≤ c → StandsIn c m f → StandsIn (c - a + 1) (suc m) (over k a f)
stands_later k a c m f l s =
    let e : c - a + 1 ≡ suc (c - a) = omega arith in
    let u : a + (c - a) ≡ c = omega arith in
    let v : a + suc (c - a) ≡ suc c = omega arith in
    let x = first_size a (c - a) f in
    let y = first_size a (suc (c - a)) f in
    let xu = ap (λ n. size (first n f)) u in
    let yv = ap (λ n. size (first n f)) v in
    let lo = s.low in
    let hi = s.high in
    subst (λ n. StandsIn n (suc m) (over k a f)) (sym e) (record { low = omega arith; high = omega arith })

-- The walk

module _ (p : List Node) (at : ℕ) where
  abbrev trees_from : ℕ → Shape
  trees_from j = shape (drop j p)

  -- what the name sees is what it sees in the row from place j on, for some scopes that come from before
  record Seen (j : ℕ) : Type 0 where
    first_sees : List ℕ
    others_see : List ℕ
    same : scope 0 [] [] (shape p) at ≡ scope j first_sees others_see (trees_from j) (at - j)

  seen_next : (j : ℕ) → j < at → at < length p → Seen j → Seen (j + 1)
  seen_next j l h s =
      let Γ = s.first_sees in
      let Λ = s.others_see in
      let k = kind_at p j in
      let a = arity (node_at p j) in
      let f = trees_from (j + 1) in
      let m = at - (j + 1) in
      let n : at - j ≡ suc m = omega arith in
      let e : scope 0 [] [] (shape p) at ≡ scope j Γ Λ (over k a f) (suc m) = s.same ∙ (ap (λ (t : Shape). scope j Γ Λ t (at - j)) (shape_at p j (omega arith)) ∙ ap (scope j Γ Λ (over k a f)) n) in
      elim (cases_lt m (size (first a f))) [
        | inl i ↦ record { first_sees = Γ; others_see = more (scopes_its_last k) j Γ; same = e ∙ below k a j Γ Λ f m i }
        | inr i ↦ record { first_sees = Λ; others_see = Λ; same = e ∙ beside k a j Γ Λ f m i }
      ]

  seen : (j : ℕ) → j ≤ at → at < length p → Seen j
  seen zero l h = record { first_sees = []; others_see = []; same = let e : at ≡ at - 0 = omega arith in ap (scope 0 [] [] (shape p)) e }
  seen (suc j) l h = rw (← add-one) (seen_next j (omega arith) h (seen j (omega arith) h))

  -- the walk has come to place j: the name stands in tree number c from there,
  -- and no declaration passed on the way is spelled as it is, so that what it reaches is in the scope which comes from before
  pub record Walked (name : Name) (j c : ℕ) : Type 0 where
    pub few : c + j ≤ at
    pub stands : StandsIn c (at - j) (trees_from j)
    pub reaches : (Γ Λ : List ℕ) → reach_in p name (scope j Γ Λ (trees_from j) (at - j)) ≡ reach_in p name (cond (eqb c 0) Γ Λ)

  walk_begins : (name : Name) → at < length p → Walked name at 0
  walk_begins name l =
      let a = arity (node_at p at) in
      let f = trees_from (at + 1) in
      let n : 0 ≡ at - at = omega arith in
      let e : over (kind_at p at) a f ≡ trees_from at = sym (shape_at p at l) in
      record {
        few = omega arith;
        stands = subst (λ i. StandsIn 0 i (trees_from at)) n (subst (StandsIn 0 0) e (record { low = omega arith; high = omega arith }));
        reaches = λ Γ Λ. sym (ap (λ (t : Shape). reach_in p name (scope at Γ Λ t 0)) e ∙ ap (λ i. reach_in p name (scope at Γ Λ (trees_from at) i)) n);
      }

  module _ (name : Name) (j c : ℕ) (before : j < at) (inside : at < length p) (w : Walked name (j + 1) c) where
    abbrev kind : Kind
    kind = kind_at p j

    abbrev wants : ℕ
    wants = arity (node_at p j)

    abbrev rest : Shape
    rest = trees_from (j + 1)

    abbrev on : ℕ
    on = at - (j + 1)

    one_on : suc on ≡ at - j
    one_on = omega arith

    planted : over kind wants rest ≡ trees_from j
    planted = sym (shape_at p j (omega arith))

    stands_at : (d : ℕ) → StandsIn d (suc on) (over kind wants rest) → StandsIn d (at - j) (trees_from j)
    stands_at d s = subst (λ i. StandsIn d i (trees_from j)) one_on (subst (StandsIn d (suc on)) planted s)

    scope_at : (Γ Λ : List ℕ) → scope j Γ Λ (trees_from j) (at - j) ≡ scope j Γ Λ (over kind wants rest) (suc on)
    scope_at Γ Λ = sym (ap (λ (t : Shape). scope j Γ Λ t (suc on)) planted ∙ ap (scope j Γ Λ (trees_from j)) one_on)

    -- node j holds the name in child number c
    module _ (child : c < wants) where
      in_child : (Γ Λ : List ℕ) → reach_in p name (scope j Γ Λ (trees_from j) (at - j)) ≡ reach_in p name (cond (eqb c 0) Γ (more (scopes_its_last kind) j Γ))
      in_child Γ Λ =
          ap (reach_in p name) (scope_at Γ Λ ∙ below kind wants j Γ Λ rest on (let h = w.stands.high in let q = wider (suc c) wants rest (omega arith) in omega arith))
          ∙ w.reaches Γ (more (scopes_its_last kind) j Γ)

      walk_up : (passed : (Γ : List ℕ) → reach_in p name (cond (eqb c 0) Γ (more (scopes_its_last kind) j Γ)) ≡ reach_in p name Γ) → Walked name j 0
      walk_up passed = record { few = omega arith; stands = stands_at 0 (stands_first kind wants c on rest child w.stands); reaches = λ Γ Λ. in_child Γ Λ ∙ passed Γ }

      walk_from_first : c ≡ 0 → Walked name j 0
      walk_from_first z = walk_up (λ Γ. ap (λ n. reach_in p name (cond (eqb n 0) Γ (more (scopes_its_last kind) j Γ))) z)

      last_of : 0 < c → (Γ : List ℕ) → reach_in p name (cond (eqb c 0) Γ (more (scopes_its_last kind) j Γ)) ≡ reach_in p name (more (scopes_its_last kind) j Γ)
      last_of z Γ = ap (λ b. reach_in p name (cond b Γ (more (scopes_its_last kind) j Γ))) (ne_eqb c 0 (λ e. omega arith))

      walk_unlike : 0 < c → (scopes_its_last kind && alike name (name_at p j)) ≡ false → Walked name j 0
      walk_unlike z u = walk_up (λ Γ. last_of z Γ ∙ reach_past p name (scopes_its_last kind) j Γ u)

      walk_finds : 0 < c → (scopes_its_last kind && alike name (name_at p j)) ≡ true → reach_in p name (scope 0 [] [] (shape p) at) ≡ Some j
      walk_finds z h =
          let s = seen j (omega arith) inside in
          ap (reach_in p name) s.same ∙ (in_child s.first_sees s.others_see ∙ (last_of z s.first_sees ∙ reach_here p name (scopes_its_last kind) j s.first_sees h))

    -- node j and its children stand before the name
    walk_past : wants ≤ c → Walked name j (c - wants + 1)
    walk_past l =
        record {
          few = let q = w.few in omega arith;
          stands = stands_at (c - wants + 1) (stands_later kind wants c on rest l w.stands);
          reaches = λ Γ Λ.
              ap (reach_in p name) (scope_at Γ Λ ∙ beside kind wants j Γ Λ rest on (let h = w.stands.low in let q = wider wants c rest l in omega arith))
              ∙ (w.reaches Λ Λ ∙ (same_either (eqb c 0) Λ ∙ sym (ap (λ b. reach_in p name (cond b Γ Λ)) (ne_eqb (c - wants + 1) 0 (λ e. omega arith)))));
        }
      where
        same_either : (b : Bool) (Λ : List ℕ) → reach_in p name (cond b Λ Λ) ≡ reach_in p name Λ
        same_either true Λ = refl
        same_either false Λ = refl

  walk_ends : (name : Name) (c : ℕ) → Walked name 0 c → reach_in p name (scope 0 [] [] (shape p) at) ≡ None
  walk_ends name c w =
      let e : at ≡ at - 0 = omega arith in
      ap (λ i. reach_in p name (scope 0 [] [] (shape p) i)) e ∙ (w.reaches [] [] ∙ nothing (eqb c 0))
    where
      nothing : (b : Bool) → reach_in p name (cond b [] []) ≡ None
      nothing true = refl
      nothing false = refl

-- The same over a row of entries, from its back

-- the walk has come to where the iterator is
pub record Walking (es : List Entry) (at : ℕ) (name : Name) (s : Rev (Enumerate (Iter Entry))) (c : ℕ) : Type 0 where
  pub back : Back es s
  pub walked : Walked (nodes es) at name (length (left s)) c

pub walking_begins : (es : List Entry) (at : ℕ) (name : Name) (s : Rev (Enumerate (Iter Entry))) → at < length es → enumerate_count (rev_source s) ≡ 0 → left s ≡ take at es → Walking es at name s 0
walking_begins es at name s l z e =
    let long : at ≡ length (left s) = sym (ap (λ (xs : List Entry). length xs) e ∙ length-take-le at es (omega arith)) in
    record {
      back = record { counted = z; gone = drop at es; whole = sym (ap (λ (xs : List Entry). xs ++ drop at es) e ∙ take-append-drop at es) };
      walked = subst (λ (j : ℕ). Walked (nodes es) at name j 0) long (walk_begins (nodes es) at name (let y = length_nodes es in omega arith));
    }

pub walking_ends : (es : List Entry) (at : ℕ) (name : Name) (s : Rev (Enumerate (Iter Entry))) (c : ℕ) → length (left s) ≡ 0 → Walking es at name s c → reach_in (nodes es) name (scope 0 [] [] (shape (nodes es)) at) ≡ None
walking_ends es at name s c z w = walk_ends (nodes es) at name c (subst (λ (j : ℕ). Walked (nodes es) at name j c) z w.walked)

module _ (es : List Entry) (at : ℕ) (name : Name) (inside : at < length es) (s t : Rev (Enumerate (Iter Entry))) (c up wants : ℕ) (e : Entry) (w : Walking es at name s c) (step : Steps s up e t) (wanted : wants ≡ arity e.node) where
  was : Walked (nodes es) at name (up + 1) c
  was = subst (λ (j : ℕ). Walked (nodes es) at name j c) (one_more es s t up e w.back step) w.walked

  before : up < at
  before = let f = was.few in omega arith

  inside_nodes : at < length (nodes es)
  inside_nodes = let z = length_nodes es in omega arith

  there_is : e ≡ entry_at es up
  there_is = there es s t up e w.back step blank_entry

  wanted_there : wants ≡ arity (node_at (nodes es) up)
  wanted_there = wanted ∙ ap arity (ap (λ (x : Entry). x.node) there_is ∙ node_of es up)

  go_on : (d : ℕ) → Walked (nodes es) at name up d → Walking es at name t d
  go_on d v = record { back = back es s t up e w.back step; walked = subst (λ (j : ℕ). Walked (nodes es) at name j d) (up_left es s t up e w.back step) v }

  pub goes_past : wants ≤ c → Walking es at name t (c - wants + 1)
  goes_past l =
      go_on (c - wants + 1)
      (subst (λ a. Walked (nodes es) at name up (c - a + 1)) (sym wanted_there)
      (walk_past (nodes es) at name up c before inside_nodes was (let z = wanted_there in omega arith)))

  module _ (child : c < wants) where
    holds : c < arity (node_at (nodes es) up)
    holds = let z = wanted_there in omega arith

    pub goes_up_from_first : c ≤ 0 → Walking es at name t 0
    goes_up_from_first z = go_on 0 (walk_from_first (nodes es) at name up c before inside_nodes was holds (omega arith))

    module _ (later : 0 < c) (b : Bool) (test : b ≡ (scopes_its_last e.node.kind && alike name e.node.name)) where
      test_there : (scopes_its_last (kind_at (nodes es) up) && alike name (name_at (nodes es) up)) ≡ b
      test_there = tested scopes_its_last es name up b (test ∙ ap (λ (x : Entry). scopes_its_last x.node.kind && alike name x.node.name) there_is)

      pub goes_up_unlike : b ≡ false → Walking es at name t 0
      goes_up_unlike u = go_on 0 (walk_unlike (nodes es) at name up c before inside_nodes was holds later (test_there ∙ u))

      pub goes_up_to : b ≡ true → reach_in (nodes es) name (scope 0 [] [] (shape (nodes es)) at) ≡ Some up
      goes_up_to h = walk_finds (nodes es) at name up c before inside_nodes was holds later (test_there ∙ h)
