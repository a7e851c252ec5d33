-- What is found of a name: in a program of a grammar every declaration has one of the grammar's kind rows.
use Rattle.std.proofs.Common.{◌≡◌, ℕ, zero, suc, ◌-◌, ◌<◌, ◌≤◌, Bool, true, false, cond, not, eqb, ltb, List, [], ◌∷◌, ◌++◌, length, get_or, Some, None, Option, sym, refl, ap, ◌∙◌, subst, arith}
use Rattle.std.proofs.lemmas.List.{get_or-map, get_or_default, get_or_past, length-map}
use Rattle.std.proofs.lemmas.Bool.{false≢true, and_parts, not-true, ltb-true, eqb-true, cond-true}
use Rattle.model.specs.declared.kinds.Kind.{Kind}
use Rattle.model.specs.declared.kinds.Kind.TheVariants.{Card}
use Rattle.model.specs.declared.kinds.KindRow.{KindRow}
use Rattle.model.specs.declared.kinds.Role.{Role}
use Rattle.model.specs.declared.kinds.Role.TheVariants.{Plain, Declares, Refers}
use Rattle.model.specs.declared.kinds.Sort.{Sort}
use Rattle.model.specs.declared.kinds.Sort.TheVariants.{Root}
use Rattle.model.specs.declared.nodes.Node.{Node}
use Rattle.model.specs.declared.nodes.Entry.{Entry}
use Rattle.model.specs.Lists.{keep}
use Rattle.model.specs.Kinds.{row, kinds, kind_number, sort_number, same_sort, has_name, role_named, role_declares, declares, child_sorts, Grammar, rows_below, allowed}
use Rattle.model.specs.Table.{shown, row_of}
use Rattle.model.specs.Names.{blank, kind_at, root_of, entry_at, nodes}
use Rattle.model.specs.Forest.{Shape}
use Rattle.model.specs.Fitting.{fits}
use Rattle.model.specs.Scopes.{Order, order_of, reach}
use Rattle.model.specs.Rules.{Visible}
use Rattle.model.proofs.KindTables.{by_table, every_kind, kind_back}
use Rattle.laws.specs.Orders.{Reach, Reached}
use Rattle.laws.proofs.Reaches.{reach_is, reaches_itself}
use Rattle.laws.proofs.RoundTrips.{length_nodes}
use Rattle.scope.specs.Finding.{Declaring, Found}
use Rattle.scope.specs.Seeking.{sought}
use Rattle.scope.proofs.Roles.{role_at, of_nameless, of_reference}

-- the root's sort is no declaration's
below_at : (g : Grammar) (root : Kind) (s : Sort) (k : Kind) → allowed g root s k ≡ true → declares k ≡ true → g.below root k ≡ true
below_at g root s k a h =
    let q = and_parts (same_sort (row k).sort s) (cond (same_sort s Root) (g.roots k) (g.below root k)) a in
    let e : same_sort (row k).sort Root ≡ same_sort s Root = ap (λ n. eqb n (sort_number Root)) (eqb-true (sort_number (row k).sort) (sort_number s) q.0) in
    let f = not-true (same_sort (row k).sort Root) (by_table declares (λ j. not (same_sort (row j).sort Root)) refl k h) in
    subst (λ b. cond b (g.roots k) (g.below root k) ≡ true) (sym e ∙ f) q.1

declared_below : (g : Grammar) (root : Kind) (ss : List Sort) (p : List Node) (i : ℕ) → fits g root ss p ≡ true → declares (kind_at p i) ≡ true → g.below root (kind_at p i) ≡ true
declared_below g root ss [] i f h = absurd (false≢true h)
declared_below g root [] (n ∷ ns) i f h = absurd (false≢true f)
declared_below g root (s ∷ ss) (n ∷ ns) zero f h = below_at g root s n.kind (and_parts (allowed g root s n.kind) (fits g root (child_sorts n.kind n.number ++ ss) ns) f).0 h
declared_below g root (s ∷ ss) (n ∷ ns) (suc i) f h =
    declared_below g root (child_sorts n.kind n.number ++ ss) ns i (and_parts (allowed g root s n.kind) (fits g root (child_sorts n.kind n.number ++ ss) ns) f).1 h

-- it stands in the list
record Stands {A : Type 0} (x : A) (xs : List A) : Type 0 where
  place : ℕ
  within : place < length xs
  there : get_or xs place x ≡ x

stands_later : {A : Type 0} (x y : A) (xs : List A) (b : Bool) → Stands x xs → Stands x (cond b (y ∷ xs) xs)
stands_later x y xs true s = record { place = suc s.place; within = let l = s.within in omega arith; there = s.there }
stands_later x y xs false s = s

-- what passes the test is kept
kept : {A : Type 0} (t : A → Bool) (xs : List A) (i : ℕ) (x : A) → i < length xs → get_or xs i x ≡ x → t x ≡ true → Stands x (keep t xs)
kept t [] i x l e h = absurd (omega arith)
kept t (y ∷ xs) zero x l e h =
    subst (Stands x) (sym (cond-true (t y) (y ∷ keep t xs) (keep t xs) (ap t e ∙ h))) (record { place = 0; within = omega arith; there = e })
kept t (y ∷ xs) (suc i) x l e h = stands_later x y (keep t xs) (t y) (kept t xs i x (omega arith) e h)

-- a kind below the root has its row there
row_stands : (g : Grammar) (root k : Kind) → g.below root k ≡ true → declares k ≡ true → Declaring (rows_below g root) k
row_stands g root k b h =
    let i : kind_number k - 1 < length kinds = ltb-true (kind_number k - 1) 25 (every_kind (λ l. ltb (kind_number l - 1) 25) refl k) in
    let s = kept (g.below root) kinds (kind_number k - 1) k i (get_or_default kinds (kind_number k - 1) k Card i ∙ kind_back k) b in
    record {
      place = s.place;
      within = let l = s.within in simp length-map (omega arith);
      its_row = get_or-map row (keep (g.below root) kinds) s.place k (row k) s.within ∙ ap row s.there;
      declares = role_is (row k).role h;
    }
  where
    role_is : (r : Role) → role_declares r ≡ true → r ≡ Declares
    role_is Plain e = absurd (false≢true e)
    role_is Declares e = refl
    role_is Refers e = absurd (false≢true e)

-- what a name reaches is all that is to be found
pub found : (g : Grammar) (order : Order) → Visible order → (p : List Node) (at : ℕ) (r : Option ℕ) → r ≡ reach order p at → Found g order p at r
found g order vis p at r e =
    record {
      value = e;
      of_row = λ d s o.
          let f : Reached order p at d = subst (Reach order p at) (sym e ∙ s) (reach_is order vis p at) in
          row_stands g (root_of p) (kind_at p d) (declared_below g (root_of p) (Root ∷ []) p d o.fitting f.declaration) f.declaration;
    }

-- By the role of the node at the place

module _ (g : Grammar) (scopes : Shape → List (List ℕ)) (vis : Visible (order_of scopes)) (es : List Entry) (at : ℕ) where
  abbrev FoundThere : Option ℕ → Type 0
  FoundThere r = Found g (order_of scopes) (nodes es) at r

  nameless : has_name (kind_at (nodes es) at) ≡ false → FoundThere None
  nameless h = found g (order_of scopes) vis (nodes es) at None (sym (of_nameless (order_of scopes) vis (nodes es) at h))

  pub found_past : length es ≤ at → (r : Option ℕ) → r ≡ None → FoundThere r
  found_past l r e = subst FoundThere (sym e) (nameless (ap (λ (n : Node). has_name n.kind) (get_or_past (nodes es) at blank (let z = length_nodes es in omega arith))))

  module _ (e : Entry) (there : e ≡ entry_at es at) (x : KindRow) (its_row : shown x ≡ row_of e.node.kind) where
    role_there : (r : Role) → x.role ≡ r → (row (kind_at (nodes es) at)).role ≡ r
    role_there r h = role_at x es at r (its_row ∙ ap (λ (y : Entry). row_of y.node.kind) there) h

    pub found_plain : x.role ≡ Plain → FoundThere None
    found_plain h = nameless (ap role_named (role_there Plain h))

    pub found_itself : x.role ≡ Declares → FoundThere (Some at)
    found_itself h = found g (order_of scopes) vis (nodes es) at (Some at) (sym (reaches_itself (order_of scopes) vis (nodes es) at (ap role_declares (role_there Declares h))))

    pub found_sought : x.role ≡ Refers → (r : Option ℕ) → r ≡ sought scopes (nodes es) at → FoundThere r
    found_sought h r e = found g (order_of scopes) vis (nodes es) at r (e ∙ sym (of_reference scopes (nodes es) at (role_there Refers h)))
