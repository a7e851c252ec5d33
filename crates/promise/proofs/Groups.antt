-- Groups that are told by one number are one group.
use Rattle.std.proofs.Common.{◌≡◌, ℕ, zero, suc, ◌+◌, ◌<◌, ◌≤◌, Bool, true, false, cond, not, ◌||◌, eqb, List, [], ◌∷◌, map, length, sym, refl, ap, ◌∙◌, subst, ⊎_elim, arith}
use Rattle.std.proofs.lemmas.Bool.{both_ways, false≢true, and_from, and_parts, or_left, or_right, eqb-true, eq-eqb, cases_eq}
use Rattle.model.specs.declared.nodes.Origin.TheVariants.{Private}
use Rattle.model.specs.Lists.{any, keep, counting}
use Rattle.model.specs.Kinds.{has_name}
use Rattle.model.specs.Names.{kind_at}
use Rattle.model.specs.Book.{Book, Group, Came, from_script, from_group, from_outside, came, same_group, with_group, groups_of, groups, group_number, told_origin}
use Rattle.model.specs.Promise.{GroupsApart}
use Rattle.promise.proofs.Reaches.{named_in}

same_is : (g h : Group) → same_group g h ≡ true → g ≡ h
same_is g h e =
    let t = and_parts (eqb g.draft h.draft) (eqb g.number h.number) e in
    let a = eqb-true g.draft h.draft t.0 in
    let b = eqb-true g.number h.number t.1 in
    λ i. record { draft = a i; number = b i }

same_at : (g : Group) → same_group g g ≡ true
same_at g = and_from _ _ (eq-eqb g.draft g.draft refl) (eq-eqb g.number g.number refl)

abbrev In : List Group → Group → Type 0
In gs x = any (same_group x) gs ≡ true

kept_in : (g x : Group) (gs : List Group) → (same_group g x ≡ true → ⊥) → In gs x → In (keep (λ h. not (same_group g h)) gs) x
kept_in g x [] n h = h
kept_in g x (y ∷ gs) n h = go (same_group x y) refl (same_group g y) refl h (kept_in g x gs n)
  where
    go : (a : Bool) → same_group x y ≡ a → (b : Bool) → same_group g y ≡ b → (a || any (same_group x) gs) ≡ true → (In gs x → In (keep (λ h. not (same_group g h)) gs) x) → In (cond (not b) (y ∷ keep (λ h. not (same_group g h)) gs) (keep (λ h. not (same_group g h)) gs)) x
    go true p true q h f = absurd (n (subst (λ z. same_group g z ≡ true) (sym (same_is x y p)) q))
    go true p false q h f = or_left (same_group x y) _ p
    go false p true q h f = f h
    go false p false q h f = or_right (same_group x y) _ (f h)

still_in : (c : Came) (x : Group) (gs : List Group) → In gs x → In (with_group c gs) x
still_in (from_script k) x gs h = h
still_in (from_group g) x gs h = go (same_group g x) refl
  where
    go : (b : Bool) → same_group g x ≡ b → In (g ∷ keep (λ h. not (same_group g h)) gs) x
    go true e = or_left (same_group x g) _ (subst (λ z. same_group x z ≡ true) (sym (same_is g x e)) (same_at x))
    go false e = or_right (same_group x g) _ (kept_in g x gs (λ k. both_ways _ e k) h)
still_in (from_outside a) x gs h = h

-- the group of each name that is counted
counted_in : (f : ℕ → Came) (t : ℕ → Bool) (at n i : ℕ) (x : Group) → at ≤ i → i < at + n → t i ≡ true → f i ≡ from_group x → In (groups_of (map f (keep t (counting at n)))) x
counted_in f t at zero i x a l h e = absurd (omega arith)
counted_in f t at (suc n) i x a l h e = ⊎_elim here (λ q. later (t at) (counted_in f t (at + 1) n i x (omega arith) (omega arith) h e)) (cases_eq i at)
  where
    rest : List ℕ
    rest = keep t (counting (at + 1) n)

    here : i ≡ at → In (groups_of (map f (cond (t at) (at ∷ rest) rest))) x
    here q =
        subst (λ b. In (groups_of (map f (cond b (at ∷ rest) rest))) x) (sym (ap t (sym q) ∙ h))
        (subst (λ c. In (with_group c (groups_of (map f rest))) x) (sym (ap f (sym q) ∙ e)) (or_left (same_group x x) _ (same_at x)))

    later : (b : Bool) → In (groups_of (map f rest)) x → In (groups_of (map f (cond b (at ∷ rest) rest))) x
    later true m = still_in (f at) x (groups_of (map f rest)) m
    later false m = m

numbers_apart : (gs : List Group) (x y : Group) → In gs x → In gs y → group_number gs x ≡ group_number gs y → x ≡ y
numbers_apart [] x y a b e = absurd (false≢true a)
numbers_apart (h ∷ gs) x y a b e = go (same_group h x) refl (same_group h y) refl e (numbers_apart gs x y)
  where
    further : (z : Group) → same_group h z ≡ false → In (h ∷ gs) z → In gs z
    further z n m = step (same_group z h) refl m
      where
        step : (c : Bool) → same_group z h ≡ c → (c || any (same_group z) gs) ≡ true → In gs z
        step true p q = absurd (both_ways _ n (subst (λ v. same_group v z ≡ true) (same_is z h p) (same_at z)))
        step false p q = q

    go : (c : Bool) → same_group h x ≡ c → (d : Bool) → same_group h y ≡ d → cond c 0 (suc (group_number gs x)) ≡ cond d 0 (suc (group_number gs y)) → (In gs x → In gs y → group_number gs x ≡ group_number gs y → x ≡ y) → x ≡ y
    go true p true q e f = sym (same_is h x p) ∙ same_is h y q
    go true p false q e f = absurd (omega arith)
    go false p true q e f = absurd (omega arith)
    go false p false q e f = f (further x p a) (further y q b) (omega arith)

told_private : (gs : List Group) (c : Came) (g : ℕ) → told_origin gs c ≡ Private g → (x : Group) × (c ≡ from_group x) × (group_number gs x ≡ g)
told_private gs (from_script k) g e = let z : ◌≡◌ {A = ℕ} 0 1 = cc in absurd (omega arith)
told_private gs (from_group x) g e = let z : group_number gs x ≡ g = cc in (x, refl, z)
told_private gs (from_outside a) g e = let z : ◌≡◌ {A = ℕ} 0 1 = cc in absurd (omega arith)

pub groups_apart : (b : Book) → GroupsApart b
groups_apart b i j g ni nj a c =
    let gs = groups b in
    let (x, cx, nx) = told_private gs (came b i) g a in
    let (y, cy, ny) = told_private gs (came b j) g c in
    let is_in : (k : ℕ) (z : Group) → has_name (kind_at b.program k) ≡ true → came b k ≡ from_group z → In (groups b) z = λ k z n e.
    counted_in (came b) (λ i. has_name (kind_at b.program i)) 0 (length b.program) k z (omega arith) (omega (arith, named_in b.program k n)) n e in
    let same = numbers_apart gs x y (is_in i x ni cx) (is_in j y nj cy) (nx ∙ sym ny) in
    (x, cx, cy ∙ ap from_group (sym same))
