-- Fields of a line, place by place.
use Rattle.std.proofs.Common.{◌≡◌, ℕ, suc, ◌+◌, ◌-◌, ◌*◌, ◌<◌, ◌≤◌, Bool, true, false, cond, not, ◌&&◌, eqb, leb, List, [], ◌∷◌, ◌++◌, length, get_or, take, drop, replicate, Some, None, Option, sym, refl, ap, ◌∙◌, append-nil, arith}
use Rattle.std.specs.Char.{is_ascii_digit}
use Rattle.std.specs.Int.{IsInRange}
use Rattle.std.specs.Str.{all_ascii_digits}
use Rattle.std.proofs.lemmas.List.{drop_more, take-replicate, drop-replicate}
use Rattle.std.proofs.Math.Seq.{take-append-add}
use Rattle.std.proofs.lemmas.Str.Parse.{digit_at}
use Rattle.std.proofs.lemmas.Bool.{cond-true, cond-false, and_left, and_from, and_right, le-leb}
use Rattle.model.specs.declared.nodes.Name.{Name}
use Rattle.model.specs.Lists.{any, if_some}
use Rattle.model.specs.Names.{padded}
use Rattle.model.specs.Fields.{joins, pieces, value_from, decimal_form, number_field, small_letter, letter_or_digit, stem_form, named, written_mark, of_pieces, name_field}
use Rattle.laws.proofs.Pieces.{cut, after_each}
use Rattle.laws.proofs.Numbers.{own}
use Rattle.script.specs.Cuts.{before, stem_of}

-- Digits

pub a_digit : (ds : List ℕ) (i : ℕ) → all_ascii_digits ds ≡ true → i < length ds → IsInRange 48 57 (get_or ds i 0)
a_digit ds i p h = digit_at ds i (own.to ds p) h

pub value_ge : (n : ℕ) (cs : List ℕ) → n ≤ value_from n cs
value_ge n [] = omega arith
value_ge n (c ∷ cs) = omega (arith, value_ge (n * 10 + (c - 48)) cs)

pub value_more : (n i : ℕ) (ds : List ℕ) → i < length ds → value_from n (drop i ds) ≡ value_from (n * 10 + (get_or ds i 0 - 48)) (drop (i + 1) ds)
value_more n i ds h = ap (value_from n) (drop_more ds i 0 h)

-- Characters

abbrev pub odd_one : ℕ → Bool
odd_one d = not (letter_or_digit d)

both_true : (x y z : Bool) → x ≡ true → z ≡ true → (x && y && z) ≡ y
both_true x true z e f = ap (λ (t : Bool). t && true && z) e ∙ f
both_true x false z e f = ap (λ (t : Bool). t && false && z) e

pub stem_is : (s : List ℕ) → 0 < length s → length s ≤ 8 → 97 ≤ get_or s 0 0 → get_or s 0 0 ≤ 122 → not (any odd_one (drop 1 s)) ≡ stem_form s
stem_is [] h l a b = absurd (omega arith)
stem_is (c ∷ cs) h l a b =
    sym (both_true (small_letter c) (not (any odd_one cs)) (leb (length (c ∷ cs)) 8) (and_from _ _ (le-leb 97 c a) (le-leb c 122 b)) (le-leb (length (c ∷ cs)) 8 l))

-- Padding

pub pad_is : (s : List ℕ) → length s ≤ 8 → s ++ drop (length s) (replicate 8 0) ≡ padded s
pad_is s h =
    let e : length s + (8 - length s) ≡ 8 = omega arith in
    ap (λ (l : List ℕ). s ++ l) (drop-replicate (length s) 8 0 ∙ sym (take-replicate (8 - length s) 8 0 (omega arith)))
    ∙ (sym (take-append-add s (replicate 8 0) (8 - length s)) ∙ ap (λ (k : ℕ). take k (s ++ replicate 8 0)) e)

-- The pieces at the first separator

pub pieces_all : (s : ℕ) (f : List ℕ) → before s f ≡ length f → pieces s f ≡ f ∷ []
pieces_all s [] h = refl
pieces_all s (b ∷ bs) h = go (eqb b s) refl (pieces_all s bs) h
  where
    go : (t : Bool) → eqb b s ≡ t → (before s bs ≡ length bs → pieces s bs ≡ bs ∷ []) → cond t 0 (suc (before s bs)) ≡ suc (length bs) → pieces s (b ∷ bs) ≡ (b ∷ bs) ∷ []
    go true e ih k = absurd (omega arith)
    go false e ih k = ap (joins s b) (ih (omega arith)) ∙ cond-false (eqb b s) _ _ e

pub pieces_first : (s : ℕ) (f : List ℕ) → before s f < length f → pieces s f ≡ take (before s f) f ∷ pieces s (drop (before s f + 1) f)
pieces_first s [] h = absurd (omega arith)
pieces_first s (b ∷ bs) h = go (eqb b s) refl (pieces_first s bs) h
  where
    split : List ℕ → ℕ → List (List ℕ)
    split l n = take n l ∷ pieces s (drop (n + 1) l)

    go : (t : Bool) → eqb b s ≡ t → (before s bs < length bs → pieces s bs ≡ take (before s bs) bs ∷ pieces s (drop (before s bs + 1) bs)) → cond t 0 (suc (before s bs)) < suc (length bs) → pieces s (b ∷ bs) ≡ take (before s (b ∷ bs)) (b ∷ bs) ∷ pieces s (drop (before s (b ∷ bs) + 1) (b ∷ bs))
    go true e ih k =
        let c = cut s bs in
        ap (joins s b) c.are ∙ (cond-true (eqb b s) _ _ e ∙ (ap (λ (l : List (List ℕ)). [] ∷ l) (sym c.are) ∙ ap (split (b ∷ bs)) (sym (cond-true (eqb b s) 0 (suc (before s bs)) e))))
    go false e ih k =
        let n : before s bs + 1 ≡ suc (before s bs) = omega arith in
        let m : suc (before s bs) + 1 ≡ suc (before s bs + 1) = omega arith in
        ap (joins s b) (ih (omega arith)) ∙ (cond-false (eqb b s) _ _ e ∙ (ap (λ (j : ℕ). (b ∷ take (before s bs) bs) ∷ pieces s (drop j (b ∷ bs))) (sym m) ∙ ap (split (b ∷ bs)) (sym (cond-false (eqb b s) 0 (suc (before s bs)) e))))

pub pieces_cut : (s : ℕ) (f : List ℕ) (q : ℕ) → q ≡ before s f → q < length f → pieces s f ≡ take q f ∷ pieces s (drop (q + 1) f)
pieces_cut s f q e h = pieces_first s f (omega arith) ∙ ap (λ (j : ℕ). take j f ∷ pieces s (drop (j + 1) f)) (sym e)

-- Names

digits_quote : (s t : List ℕ) → all_ascii_digits (s ++ (39 ∷ t)) ≡ false
digits_quote [] t = refl
digits_quote (c ∷ s) t = and_right (is_ascii_digit c) (all_ascii_digits (s ++ (39 ∷ t))) (digits_quote s t)

no_decimal : (f : List ℕ) → all_ascii_digits f ≡ false → decimal_form f ≡ false
no_decimal [] h = refl
no_decimal (c ∷ cs) h = and_left (all_ascii_digits (c ∷ cs)) _ h

no_number : (most : ℕ) (f : List ℕ) → all_ascii_digits f ≡ false → number_field most f ≡ None
no_number most f h = cond-false _ _ _ (and_left (decimal_form f) _ (no_decimal f h))

quoted : (s rest : List ℕ) → of_pieces (s ∷ pieces 39 rest) ≡ if_some (written_mark rest) (named s)
quoted s rest = let c = cut 39 rest in go c.first c.more c.are c.together
  where
    go : (p : List ℕ) (ps : List (List ℕ)) → pieces 39 rest ≡ p ∷ ps → rest ≡ p ++ after_each 39 ps → of_pieces (s ∷ pieces 39 rest) ≡ if_some (written_mark rest) (named s)
    go p [] e t = ap (λ (l : List (List ℕ)). of_pieces (s ∷ l)) e ∙ ap (λ (l : List ℕ). if_some (written_mark l) (named s)) (sym (t ∙ append-nil p))
    go p (q ∷ qs) e t =
        let z = no_number 65535 rest (ap all_ascii_digits t ∙ digits_quote p (q ++ after_each 39 qs)) in
        ap (λ (l : List (List ℕ)). of_pieces (s ∷ l)) e
        ∙ sym (ap (λ (o : Option ℕ). if_some (if_some o (λ m. cond (eqb m 0) None (Some m))) (named s)) z)

name_whole : (f : List ℕ) → before 39 f ≡ length f → name_field f ≡ named f 0
name_whole f h = ap of_pieces (pieces_all 39 f h)

name_cut : (f : List ℕ) (q : ℕ) → q ≡ before 39 f → q < length f → name_field f ≡ if_some (written_mark (drop (q + 1) f)) (named (take q f))
name_cut f q e h =
    ap of_pieces (pieces_cut 39 f q e h) ∙ quoted (take q f) (drop (q + 1) f)

abbrev make : ℕ → List ℕ → Option Name
make m p = Some (record { stem = p; mark = m })

named_by : (s : List ℕ) (m : ℕ) → named s m ≡ if_some (stem_of s) (make m)
named_by s m = go (stem_form s)
  where
    go : (t : Bool) → cond t (Some (record { stem = padded s; mark = m })) None ≡ if_some (cond t (Some (padded s)) None) (make m)
    go true = refl
    go false = refl

named_at : (s : List ℕ) (m : ℕ) (o : Option (List ℕ)) → stem_of s ≡ o → named s m ≡ if_some o (make m)
named_at s m o e = named_by s m ∙ ap (λ (x : Option (List ℕ)). if_some x (make m)) e

none_named : (s : List ℕ) → stem_of s ≡ None → (o : Option ℕ) → if_some o (named s) ≡ None
none_named s e None = refl
none_named s e (Some m) = named_at s m None e

-- a name without a mark, and one that is cut at the apostrophe
pub name_plain : (f : List ℕ) (o : Option (List ℕ)) → before 39 f ≡ length f → stem_of f ≡ o → name_field f ≡ if_some o (make 0)
name_plain f o h e = name_whole f h ∙ named_at f 0 o e

module _ (f : List ℕ) (q : ℕ) (is : q ≡ before 39 f) (here : q < length f) where
  pub name_no_stem : stem_of (take q f) ≡ None → name_field f ≡ None
  name_no_stem s = name_cut f q is here ∙ none_named (take q f) s (written_mark (drop (q + 1) f))

  pub name_marked : (p : List ℕ) (o : Option ℕ) → stem_of (take q f) ≡ Some p → written_mark (drop (q + 1) f) ≡ o → name_field f ≡ if_some o (λ m. Some (record { stem = p; mark = m }))
  name_marked p o s e =
      name_cut f q is here
      ∙ (ap (λ (x : Option ℕ). if_some x (named (take q f))) e ∙ each o)
    where
      each : (x : Option ℕ) → if_some x (named (take q f)) ≡ if_some x (λ m. Some (record { stem = p; mark = m }))
      each None = refl
      each (Some m) = named_at (take q f) m (Some p) s

-- Origins
