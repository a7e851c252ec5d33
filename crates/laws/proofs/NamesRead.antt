-- A name's field: what is written is read, and what is read is what would be written.
use Rattle.std.proofs.Common.{◌≡◌, ℕ, zero, suc, ◌≤◌, Bool, true, false, cond, not, ◌&&◌, eqb, leb, List, [], ◌∷◌, ◌++◌, length, take, replicate, Some, None, decimal, Option, sym, refl, ap, ◌∙◌, subst, ⊎_elim, append-nil, arith}
use Rattle.std.specs.Str.{bytes_eq}
use Rattle.std.proofs.lemmas.Slice.Eq.{bytes_eq-Decides}
use Rattle.std.proofs.ByRecursion.{All-append}
use Rattle.std.proofs.lemmas.Bool.{cond-true, cond-false, and_parts, and_from, or_cases, or_parts, le-leb, leb-true, eq-eqb, ne_eqb, eqb-true, not-true, not-false}
use Rattle.std.proofs.lemmas.Option.{none-some, cond_some}
use Rattle.model.specs.declared.nodes.Name.{Name}
use Rattle.model.specs.Lists.{any, between, if_some}
use Rattle.model.specs.Names.{alike, padded, letters}
use Rattle.model.specs.Fields.{small_letter, letter_or_digit, stem_form, named, written_mark, of_pieces, name_field, number_field, write_mark, write_name}
use Rattle.model.specs.Fitting.{name_fits}
use Rattle.laws.proofs.Pieces.{Over, Free, over_less, free_over, after_each, cut, pieces_joined, went}
use Rattle.laws.proofs.Numbers.{number_written, number_read, over_decimal}

pub alike_same : (a b : Name) → alike a b ≡ true → a ≡ b
alike_same a b h =
    let p = and_parts (bytes_eq a.stem b.stem) (eqb a.mark b.mark) h in
    let s : a.stem ≡ b.stem = (bytes_eq-Decides a.stem b.stem).0 p.0 in
    let m : a.mark ≡ b.mark = eqb-true a.mark b.mark p.1 in
    ap (λ (l : List ℕ). record { stem = l; mark = a.mark }) s ∙ ap (λ (k : ℕ). record { stem = b.stem; mark = k }) m

pub same_alike : (a b : Name) → a ≡ b → alike a b ≡ true
same_alike a b e =
    and_from _ _ ((bytes_eq-Decides a.stem b.stem).1 (ap (λ (n : Name). n.stem) e)) (eq-eqb a.mark b.mark (ap (λ (n : Name). n.mark) e))

over_between : (low high c : ℕ) → 48 ≤ low → between low high c ≡ true → 48 ≤ c
over_between low high c l h = let k = leb-true low c (and_parts (leb low c) (leb c high) h).0 in omega arith

over_character : (c : ℕ) → letter_or_digit c ≡ true → 48 ≤ c
over_character c h =
    ⊎_elim (over_between 97 122 c (omega arith)) (over_between 48 57 c (omega arith)) (or_cases (small_letter c) (between 48 57 c) h)

over_characters : (cs : List ℕ) → any (λ d. not (letter_or_digit d)) cs ≡ false → Over 48 cs
over_characters [] h = tt
over_characters (c ∷ cs) h =
    let p = or_parts (not (letter_or_digit c)) (any (λ d. not (letter_or_digit d)) cs) h in
    (over_character c (not-false (letter_or_digit c) p.0), over_characters cs p.1)

-- a stem's characters stand past the separators, and there are at most eight
pub stem_over : (s : List ℕ) → stem_form s ≡ true → Over 48 s × (length s ≤ 8)
stem_over [] h = let z : ◌≡◌ {A = ℕ} 0 1 = cc in (tt, omega arith)
stem_over (c ∷ cs) h =
    let p = and_parts (small_letter c && not (any (λ d. not (letter_or_digit d)) cs)) (leb (length (c ∷ cs)) 8) h in
    let q = and_parts (small_letter c) (not (any (λ d. not (letter_or_digit d)) cs)) p.0 in
    ((over_between 97 122 c (omega arith) q.0, over_characters cs (not-true (any (λ d. not (letter_or_digit d)) cs) q.1)), leb-true (length (c ∷ cs)) 8 p.1)

letters_front : (cs : List ℕ) (k : ℕ) → length cs ≤ k → Free 0 cs → letters (take k (cs ++ replicate 8 0)) ≡ cs
letters_front [] zero l f = refl
letters_front [] (suc k) l f = refl
letters_front (c ∷ cs) zero l f = absurd (omega arith)
letters_front (c ∷ cs) (suc k) l f =
    cond-false (eqb c 0) _ _ (ne_eqb c 0 f.0) ∙ ap (λ (s : List ℕ). c ∷ s) (letters_front cs k (omega arith) f.1)

pub letters_padded : (s : List ℕ) → stem_form s ≡ true → letters (padded s) ≡ s
letters_padded s h = let o = stem_over s h in letters_front s 8 o.1 (free_over 48 0 s (omega arith) o.0)

-- what the letters and the mark of a name are, if it is one
pub record AName (a : Name) : Type 0 where
  pub stem : stem_form (letters a.stem) ≡ true
  pub is : a ≡ record { stem = padded (letters a.stem); mark = a.mark }
  pub small : a.mark ≤ 65535

pub a_name : (a : Name) → name_fits true a ≡ true → AName a
a_name a h =
    let b : Name = record { stem = padded (letters a.stem); mark = a.mark } in
    let p = and_parts (stem_form (letters a.stem) && alike a b) (leb a.mark 65535) h in
    let q = and_parts (stem_form (letters a.stem)) (alike a b) p.0 in
    record { stem = q.0; is = alike_same a b q.1; small = leb-true a.mark 65535 p.1 }

mark_written : (m : ℕ) → m ≤ 65535 → eqb m 0 ≡ false → written_mark (decimal m) ≡ Some m
mark_written m l e =
    ap (λ (o : Option ℕ). if_some o (λ k. cond (eqb k 0) None (Some k))) (number_written 65535 m l (omega arith)) ∙ cond-false (eqb m 0) _ _ e

named_is : (s : List ℕ) (m : ℕ) → stem_form s ≡ true → named s m ≡ Some (record { stem = padded s; mark = m })
named_is s m h = cond-true (stem_form s) _ _ h

-- a name that is written is read
pub name_written : (a : Name) → name_fits true a ≡ true → name_field (write_name a) ≡ Some a
name_written a h = go (eqb a.mark 0) refl
  where
    n : AName a
    n = a_name a h

    s : List ℕ
    s = letters a.stem

    f : Free 39 s
    f = free_over 48 39 s (omega arith) (stem_over s n.stem).0

    go : (t : Bool) → eqb a.mark 0 ≡ t → name_field (write_name a) ≡ Some a
    go true e =
        let z : a.mark ≡ 0 = eqb-true a.mark 0 e in
        ap (λ (l : List ℕ). name_field (s ++ l)) (cond-true (eqb a.mark 0) _ _ e)
        ∙ ap of_pieces (pieces_joined 39 s [] f tt)
        ∙ named_is s 0 n.stem
        ∙ ap (λ (k : ℕ). Some (record { stem = padded s; mark = k })) (sym z)
        ∙ ap Some (sym n.is)
    go false e =
        let d = decimal a.mark in
        ap (λ (l : List ℕ). name_field (s ++ l)) (cond-false (eqb a.mark 0) _ _ e)
        ∙ ap (λ (l : List ℕ). name_field (s ++ (39 ∷ l))) (sym (append-nil d))
        ∙ ap of_pieces (pieces_joined 39 s (d ∷ []) f (free_over 48 39 d (omega arith) (over_decimal a.mark (omega (arith, n.small))), tt))
        ∙ ap (λ (o : Option ℕ). if_some o (named s)) (mark_written a.mark n.small e)
        ∙ named_is s a.mark n.stem
        ∙ ap Some (sym n.is)

name_made : (s : List ℕ) (m : ℕ) → stem_form s ≡ true → m ≤ 65535 → name_fits true (record { stem = padded s; mark = m }) ≡ true
name_made s m h l =
    let e = letters_padded s h in
    and_from _ _
    (and_from _ _ (ap stem_form e ∙ h)
    (same_alike (record { stem = padded s; mark = m }) _ (ap (λ (x : List ℕ). record { stem = padded x; mark = m }) (sym e))))
    (le-leb m 65535 l)

-- what a read name is, and how its field was written
pub record Named (f : List ℕ) (a : Name) : Type 0 where
  pub written : f ≡ write_name a
  pub fits : name_fits true a ≡ true

named_read : (s : List ℕ) (m : ℕ) (a : Name) → m ≤ 65535 → named s m ≡ Some a → Named (s ++ write_mark m) a
named_read s m a l h =
    let k = cond_some (stem_form s) (record { stem = padded s; mark = m }) a h in
    let e : record { stem = padded s; mark = m } ≡ a = k.1 in
    record {
      written = ap (λ (x : List ℕ). x ++ write_mark m) (sym (letters_padded s k.0)) ∙ ap write_name e;
      fits = ap (name_fits true) (sym e) ∙ name_made s m k.0 l;
    }

mark_kept : (m n : ℕ) → cond (eqb m 0) None (Some m) ≡ Some n → (eqb n 0 ≡ false) × (m ≡ n)
mark_kept m n h = go (eqb m 0) refl h
  where
    go : (t : Bool) → eqb m 0 ≡ t → cond t None (Some m) ≡ Some n → (eqb n 0 ≡ false) × (m ≡ n)
    go true e k = absurd (none-some n k)
    go false e k = let w : m ≡ n = cc in (ap (λ (x : ℕ). eqb x 0) (sym w) ∙ e, w)

mark_read : (f : List ℕ) (m : ℕ) → written_mark f ≡ Some m → (39 ∷ f ≡ write_mark m) × (m ≤ 65535)
mark_read f m h =
    let w = went (number_field 65535 f) (λ k. cond (eqb k 0) None (Some k)) m h in
    let k = mark_kept w.value m w.gave in
    let n = number_read 65535 w.value f (omega arith) w.was in
    let e : w.value ≡ m = k.1 in
    let l : w.value ≤ 65535 = n.1 in
    (ap (λ (x : List ℕ). 39 ∷ x) (n.0 ∙ ap decimal e) ∙ sym (cond-false (eqb m 0) _ _ k.0), omega arith)

named_at : (f g : List ℕ) (a : Name) → f ≡ g → Named g a → Named f a
named_at f g a e n = record { written = e ∙ n.written; fits = n.fits }

-- a name that is read was written so
pub name_read : (f : List ℕ) (a : Name) → name_field f ≡ Some a → Named f a
name_read f a h = let c = cut 39 f in go c.first c.more c.together (ap of_pieces (sym c.are) ∙ h)
  where
    go : (s : List ℕ) (ps : List (List ℕ)) → f ≡ s ++ after_each 39 ps → of_pieces (s ∷ ps) ≡ Some a → Named f a
    go s [] e k = named_at f (s ++ []) a e (named_read s 0 a (omega arith) k)
    go s (m ∷ []) e k =
        let w = went (written_mark m) (named s) a k in
        let r = mark_read m w.value w.was in
        named_at f (s ++ write_mark w.value) a
        (e ∙ ap (λ (x : List ℕ). s ++ (39 ∷ x)) (append-nil m) ∙ ap (λ (x : List ℕ). s ++ x) r.0)
        (named_read s w.value a r.1 w.gave)
    go s (m ∷ p ∷ ps) e k = absurd (none-some a k)

over_mark : (m : ℕ) → m ≤ 65535 → Over 39 (write_mark m)
over_mark m l = go (eqb m 0) refl
  where
    go : (t : Bool) → eqb m 0 ≡ t → Over 39 (write_mark m)
    go true e = subst (Over 39) (sym (cond-true (eqb m 0) _ _ e)) tt
    go false e = subst (Over 39) (sym (cond-false (eqb m 0) _ _ e)) (omega arith, over_less 39 48 (decimal m) (omega arith) (over_decimal m (omega arith)))

pub over_name : (a : Name) → name_fits true a ≡ true → Over 39 (write_name a)
over_name a h =
    let n = a_name a h in
    All-append (λ b. 39 ≤ b) (letters a.stem) (write_mark a.mark) (over_less 39 48 (letters a.stem) (omega arith) (stem_over (letters a.stem) n.stem).0) (over_mark a.mark n.small)
