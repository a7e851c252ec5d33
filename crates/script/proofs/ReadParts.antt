-- Reading line by line, as the rules do.
use Rattle.std.proofs.Common.{◌≡◌, ℕ, suc, ◌+◌, ◌<◌, ◌≤◌, Bool, true, false, eqb, ltb, List, [], ◌∷◌, ◌++◌, length, take, drop, set, Some, None, Ok, Err, Option, sym, refl, ap, ◌∙◌, subst, append_assoc, append-nil, arith, take-append-drop}
use lib.Dec.{leb-suc-suc}
use Rattle.std.specs.Option.{unwrap_or}
use Rattle.std.proofs.lemmas.List.{drop-drop, take_more_set, length-take-le, drop-set-lt}
use Rattle.std.proofs.lemmas.Bool.{cond-true, cond-false, lt-ltb, le-ltb, eq-eqb, ne_eqb}
use Rattle.model.specs.declared.kinds.Kind.{Kind}
use Rattle.model.specs.declared.kinds.Sort.{Sort}
use Rattle.model.specs.declared.kinds.Sort.TheVariants.{Root}
use Rattle.model.specs.declared.nodes.Entry.{Entry}
use Rattle.model.specs.declared.faults.ReadFault.{ReadFault}
use Rattle.model.specs.declared.faults.ReadFault.TheVariants.{WrongLine, Misplaced, AfterEnd, EndsEarly, TooManyNodes}
use Rattle.model.specs.Kinds.{Grammar, allowed, child_sorts}
use Rattle.model.specs.Fields.{Form}
use Rattle.model.specs.Reading.{TextLine, begins, longer, lines, read_line, heading, ReadOut, with_entry, read_lines}
use Rattle.script.specs.Cuts.{before}
use Rattle.script.specs.LineReads.{entry_of}
use Rattle.script.specs.Reads.{first_entry, rest_read, with_front, count_of, InRow, Returned}

-- The first line

abbrev first_line : List ℕ → TextLine
first_line bs = record { bytes = take (before 10 bs) bs; ended = ltb (before 10 bs) (length bs) }

abbrev cut_line : List ℕ → ℕ → List TextLine
cut_line bs b = record { bytes = take b bs; ended = ltb b (length bs) } ∷ lines (drop (b + 1) bs)

-- one byte that ends no line, before the rest
longer_line : (b : ℕ) (bs : List ℕ) (n : ℕ) → longer b (cut_line bs n) ≡ cut_line (b ∷ bs) (suc n)
longer_line b bs n =
    let e : suc n + 1 ≡ suc (n + 1) = omega arith in
    ap (λ (t : Bool). record { bytes = b ∷ take n bs; ended = t } ∷ lines (drop (n + 1) bs)) (same_test n (length bs))
    ∙ ap (λ (j : ℕ). record { bytes = b ∷ take n bs; ended = ltb (suc n) (suc (length bs)) } ∷ lines (drop j (b ∷ bs))) (sym e)
  where
    same_test : (m k : ℕ) → ltb m k ≡ ltb (suc m) (suc k)
    same_test m k = sym (leb-suc-suc (suc m) k)

pub lines_split : (bs : List ℕ) → 0 < length bs → lines bs ≡ first_line bs ∷ lines (drop (before 10 bs + 1) bs)
lines_split [] h = absurd (omega arith)
lines_split (b ∷ []) h = go (eqb b 10) refl
  where
    go : (t : Bool) → eqb b 10 ≡ t → begins b [] ≡ cut_line (b ∷ []) (before 10 (b ∷ []))
    go true e = cond-true (eqb b 10) _ _ e ∙ ap (cut_line (b ∷ [])) (sym (cond-true (eqb b 10) 0 1 e))
    go false e = cond-false (eqb b 10) _ _ e ∙ ap (cut_line (b ∷ [])) (sym (cond-false (eqb b 10) 0 1 e))
lines_split (b ∷ c ∷ cs) h = go (eqb b 10) refl (lines_split (c ∷ cs) (omega arith))
  where
    go : (t : Bool) → eqb b 10 ≡ t → lines (c ∷ cs) ≡ cut_line (c ∷ cs) (before 10 (c ∷ cs)) → begins b (lines (c ∷ cs)) ≡ cut_line (b ∷ c ∷ cs) (before 10 (b ∷ c ∷ cs))
    go true e ih =
        cond-true (eqb b 10) _ _ e
        ∙ (ap (λ (t : Bool). record { bytes = []; ended = t } ∷ lines (c ∷ cs)) (sym (lt-ltb 0 (suc (suc (length cs))) (omega arith)))
        ∙ ap (cut_line (b ∷ c ∷ cs)) (sym (cond-true (eqb b 10) 0 (suc (before 10 (c ∷ cs))) e)))
    go false e ih =
        cond-false (eqb b 10) _ _ e
        ∙ (ap (longer b) ih ∙ (longer_line b (c ∷ cs) (before 10 (c ∷ cs)) ∙ ap (cut_line (b ∷ c ∷ cs)) (sym (cond-false (eqb b 10) 0 (suc (before 10 (c ∷ cs))) e))))

-- its entry is what the rules read
first_is : (form : Form) (bs : List ℕ) → read_line form (first_line bs) ≡ first_entry form bs
unfolding first_entry entry_of
first_is form bs = refl

pub first_none : (form : Form) (bs : List ℕ) → before 10 bs ≡ length bs → first_entry form bs ≡ None
unfolding first_entry
first_none form bs h = cond-false _ _ _ (le-ltb (before 10 bs) (length bs) (omega (arith, h)))

pub first_some : (form : Form) (bs : List ℕ) (e : ℕ) (o : Option Entry) → e ≡ before 10 bs → e < length bs → entry_of form (take e bs) ≡ o → first_entry form bs ≡ o
unfolding first_entry
first_some form bs e o h l p =
    cond-true _ _ _ (lt-ltb (before 10 bs) (length bs) (omega (arith, h, l)))
    ∙ (ap (λ (j : ℕ). entry_of form (take j bs)) (sym h) ∙ p)

-- One turn

module _ (b : Bool) (o : Option Entry) (at : ℕ) (f : Entry → Bool) (more : Entry → ReadOut) where
  abbrev turn : ReadOut
  turn = elim b [ true ↦ Err TooManyNodes | false ↦ elim o [ None ↦ Err (WrongLine at) | Some m ↦ elim (f m) [ false ↦ Err (Misplaced at) | true ↦ with_entry m (more m) ] ] ]

  turn_many : b ≡ true → turn ≡ Err TooManyNodes
  turn_many e = rw e

  turn_wrong : b ≡ false → o ≡ None → turn ≡ Err (WrongLine at)
  turn_wrong e h = rw (e, h)

  turn_misplaced : (n : Entry) → b ≡ false → o ≡ Some n → f n ≡ false → turn ≡ Err (Misplaced at)
  turn_misplaced n e h k = rw (e, h) (ap (λ (t : Bool). elim t [ false ↦ Err (Misplaced at) | true ↦ with_entry n (more n) ]) k)

  turn_on : (n : Entry) → b ≡ false → o ≡ Some n → f n ≡ true → turn ≡ with_entry n (more n)
  turn_on n e h k = rw (e, h) (ap (λ (t : Bool). elim t [ false ↦ Err (Misplaced at) | true ↦ with_entry n (more n) ]) k)

entry_front : (n : Entry) (r : ReadOut) → with_entry n r ≡ with_front (n ∷ []) r
unfolding with_front
entry_front n (Ok ns) = refl
entry_front n (Err e) = refl

module _ (g : Grammar) (form : Form) (root : Option Kind) (s : Sort) (ss : List Sort) (at : ℕ) (bs : List ℕ) (some : 0 < length bs) where
  rest : List TextLine
  rest = lines (drop (before 10 bs + 1) bs)

  test : Entry → Bool
  test m = allowed g (heading root m.node.kind) s m.node.kind

  more : Entry → ReadOut
  more m = read_lines g form (Some (heading root m.node.kind)) (child_sorts m.node.kind m.node.number ++ ss) (at + 1) rest

  split : rest_read g form root (s ∷ ss) at (lines bs) ≡ turn (eqb at 1024) (first_entry form bs) at test more
  unfolding rest_read rest test more
  split =
      ap (λ (ls : List TextLine). read_lines g form root (s ∷ ss) at ls) (lines_split bs some)
      ∙ ap (λ (o : Option Entry). turn (eqb at 1024) o at test more) (first_is form bs)

  pub read_many : at ≡ 1024 → rest_read g form root (s ∷ ss) at (lines bs) ≡ Err TooManyNodes
  read_many e = split ∙ turn_many (eqb at 1024) (first_entry form bs) at test more (eq-eqb at 1024 e)

  pub read_wrong : (at ≡ 1024 → ⊥) → first_entry form bs ≡ None → rest_read g form root (s ∷ ss) at (lines bs) ≡ Err (WrongLine at)
  read_wrong e h = split ∙ turn_wrong (eqb at 1024) (first_entry form bs) at test more (ne_eqb at 1024 e) h

  pub read_misplaced : (n : Entry) → (at ≡ 1024 → ⊥) → first_entry form bs ≡ Some n → allowed g (heading root n.node.kind) s n.node.kind ≡ false → rest_read g form root (s ∷ ss) at (lines bs) ≡ Err (Misplaced at)
  unfolding test
  read_misplaced n e h a = split ∙ turn_misplaced (eqb at 1024) (first_entry form bs) at test more n (ne_eqb at 1024 e) h a

  pub read_on : (n : Entry) → (at ≡ 1024 → ⊥) → first_entry form bs ≡ Some n → allowed g (heading root n.node.kind) s n.node.kind ≡ true → rest_read g form root (s ∷ ss) at (lines bs) ≡ with_front (n ∷ []) (rest_read g form (Some (heading root n.node.kind)) (child_sorts n.node.kind n.node.number ++ ss) (at + 1) (lines (drop (before 10 bs + 1) bs)))
  unfolding test more rest rest_read
  read_on n e h a = split ∙ (turn_on (eqb at 1024) (first_entry form bs) at test more n (ne_eqb at 1024 e) h a ∙ entry_front n (more n))

  pub read_after : rest_read g form root [] at (lines bs) ≡ Err (AfterEnd at)
  unfolding rest_read
  read_after = ap (λ (ls : List TextLine). read_lines g form root [] at ls) (lines_split bs some)

pub read_early : (g : Grammar) (form : Form) (root : Option Kind) (s : Sort) (ss : List Sort) (at : ℕ) → rest_read g form root (s ∷ ss) at [] ≡ Err (EndsEarly at)
unfolding rest_read
read_early g form root s ss at = refl

read_done : (g : Grammar) (form : Form) (root : Option Kind) (at : ℕ) → rest_read g form root [] at [] ≡ Ok []
unfolding rest_read
read_done g form root at = refl

-- The front that is read

front_err : (p : List Entry) (f : ReadFault) → with_front p (Err f) ≡ Err f
unfolding with_front
front_err p f = refl

front_done : (p : List Entry) → with_front p (Ok []) ≡ Ok p
unfolding with_front
front_done p = ap Ok (append-nil p)

front_twice : (p q : List Entry) (r : ReadOut) → with_front p (with_front q r) ≡ with_front (p ++ q) r
unfolding with_front
front_twice p q (Ok l) = ap Ok (sym (append_assoc p q l))
front_twice p q (Err f) = refl

front_start : (r : ReadOut) → r ≡ with_front [] r
unfolding with_front
front_start (Ok l) = refl
front_start (Err f) = refl

front_more : (row : List Entry) (i : ℕ) (n : Entry) (r : ReadOut) → i < length row → with_front (take i row) (with_front (n ∷ []) r) ≡ with_front (take (i + 1) (set row i n)) r
front_more row i n r h = front_twice (take i row) (n ∷ []) r ∙ ap (λ (p : List Entry). with_front p r) (sym (take_more_set row i n h))

-- What is returned

returned_err : (w : ReadOut) (f : ReadFault) (old row : List Entry) → w ≡ Err f → Returned w (Err f) old row
returned_err w f old row e = record { value = sym (ap count_of e); entries = subst (λ (x : ReadOut). InRow x old row) (sym e) tt }

-- beyond the entries read, the row is as it was
pub rest_kept : (row : List Entry) (i : ℕ) (n : Entry) (old : List Entry) → drop i row ≡ drop i old → drop (i + 1) (set row i n) ≡ drop (i + 1) old
rest_kept row i n old e =
    drop-set-lt (i + 1) row i n (omega arith) ∙ (sym (drop-drop 1 i row) ∙ (ap (drop 1) e ∙ drop-drop 1 i old))

returned_ok : (w : ReadOut) (old row : List Entry) (n : ℕ) → n ≤ length row → drop n row ≡ drop n old → w ≡ Ok (take n row) → Returned w (Ok n) old row
returned_ok w old row n h k e =
    let l = length-take-le n row h in
    record {
      value = sym (ap count_of e ∙ ap Ok l);
      entries = subst (λ (x : ReadOut). InRow x old row) (sym e)
          (sym (take-append-drop n row) ∙ (ap (λ (d : List Entry). take n row ++ d) k ∙ ap (λ (j : ℕ). take n row ++ drop j old) (sym l)));
    }

-- Turns of the code's loop

pub head_is : (o : Option Kind) (k : Kind) → unwrap_or o k ≡ heading o k
head_is None k = refl
head_is (Some r) k = refl

-- before the first turn
pub started : (g : Grammar) (form : Form) (ts : List Sort) (text : List ℕ) → ts ≡ Root ∷ [] → rest_read g form None (Root ∷ []) 0 (lines text) ≡ with_front [] (rest_read g form None ts 0 (lines text))
started g form ts text e = front_start _ ∙ ap (λ (x : List Sort). with_front [] (rest_read g form None x 0 (lines text))) (sym e)

none_left : (bs : List ℕ) → length bs ≡ 0 → lines bs ≡ []
none_left [] h = refl
none_left (b ∷ bs) h = absurd (omega arith)

-- the state of the loop: w is what the whole text reads as, `at` entries are read, and these sorts and bytes are still to come
module _ (w : ReadOut) (g : Grammar) (form : Form) (root : Option Kind) (old row : List Entry) (ts : List Sort) (at : ℕ) (bs : List ℕ)
    (reads : w ≡ with_front (take at row) (rest_read g form root ts at (lines bs))) where
  refused : (us : List Sort) (f : ReadFault) → ts ≡ us → rest_read g form root us at (lines bs) ≡ Err f → Returned w (Err f) old row
  refused us f t r =
      returned_err w f old row
      (reads ∙ (ap (λ (x : List Sort). with_front (take at row) (rest_read g form root x at (lines bs))) t ∙ (ap (with_front (take at row)) r ∙ front_err (take at row) f)))

  pub after_end : ts ≡ [] → 0 < length bs → Returned w (Err (AfterEnd at)) old row
  after_end e l = refused [] (AfterEnd at) e (read_after g form root Root [] at bs l)

  pub ends_early : (s : Sort) (us : List Sort) → ts ≡ s ∷ us → length bs ≡ 0 → Returned w (Err (EndsEarly at)) old row
  ends_early s us e l =
      refused (s ∷ us) (EndsEarly at) e (ap (rest_read g form root (s ∷ us) at) (none_left bs l) ∙ read_early g form root s us at)

  pub all_read : ts ≡ [] → length bs ≡ 0 → at ≤ length row → drop at row ≡ drop at old → Returned w (Ok at) old row
  all_read e l m k =
      returned_ok w old row at m k
      (reads
      ∙ (ap (λ (x : List Sort). with_front (take at row) (rest_read g form root x at (lines bs))) e
      ∙ (ap (λ (x : List TextLine). with_front (take at row) (rest_read g form root [] at x)) (none_left bs l)
      ∙ (ap (with_front (take at row)) (read_done g form root at) ∙ front_done (take at row)))))

  module _ (here : 0 < length bs) (s : Sort) (us : List Sort) (next : ts ≡ s ∷ us) where
    pub too_many : at ≡ 1024 → Returned w (Err TooManyNodes) old row
    too_many m = refused (s ∷ us) TooManyNodes next (read_many g form root s us at bs here m)

    module _ (few : at ≡ 1024 → ⊥) where
      pub wrong_line : first_entry form bs ≡ None → Returned w (Err (WrongLine at)) old row
      wrong_line f = refused (s ∷ us) (WrongLine at) next (read_wrong g form root s us at bs here few f)

      module _ (n : Entry) (head : Kind) (line : first_entry form bs ≡ Some n) (headed : head ≡ heading root n.node.kind) where
        pub misplaced : allowed g head s n.node.kind ≡ false → Returned w (Err (Misplaced at)) old row
        misplaced a =
            refused (s ∷ us) (Misplaced at) next (read_misplaced g form root s us at bs here n few line (ap (λ (j : Kind). allowed g j s n.node.kind) (sym headed) ∙ a))

        -- the state after one line more
        pub turned : (vs : List Sort) (after : List ℕ) → allowed g head s n.node.kind ≡ true → at < length row → after ≡ drop (before 10 bs + 1) bs → vs ≡ child_sorts n.node.kind n.node.number ++ us
            → w ≡ with_front (take (at + 1) (set row at n)) (rest_read g form (Some head) vs (at + 1) (lines after))
        turned vs after a l x v =
            let k = n.node.kind in
            let on = read_on g form root s us at bs here n few line (ap (λ (j : Kind). allowed g j s k) (sym headed) ∙ a) in
            reads
            ∙ (ap (λ (y : List Sort). with_front (take at row) (rest_read g form root y at (lines bs))) next
            ∙ (ap (with_front (take at row)) on
            ∙ (front_more row at n _ l
            ∙ (ap (λ (y : List ℕ). with_front (take (at + 1) (set row at n)) (rest_read g form (Some (heading root k)) (child_sorts k n.node.number ++ us) (at + 1) (lines y))) (sym x)
            ∙ (ap (λ (y : List Sort). with_front (take (at + 1) (set row at n)) (rest_read g form (Some (heading root k)) y (at + 1) (lines after))) (sym v)
            ∙ ap (λ (y : Kind). with_front (take (at + 1) (set row at n)) (rest_read g form (Some y) vs (at + 1) (lines after))) (sym headed))))))
