-- Whole texts into a row, and what a read text says.
use Rattle.std.proofs.Common.{◌≡◌, ℕ, ◌≤◌, Bool, true, false, leb, List, [], ◌∷◌, ◌++◌, length, take, drop, IfOk, None, Ok, Err, Result, sym, refl, ap, ◌∙◌, subst, arith, length-append}
use Rattle.std.proofs.lemmas.List.{take_at}
use Rattle.std.proofs.lemmas.Bool.{le-leb}
use Rattle.model.specs.declared.kinds.Sort.TheVariants.{Root}
use Rattle.model.specs.declared.nodes.Entry.{Entry}
use Rattle.model.specs.declared.faults.ReadFault.{ReadFault}
use Rattle.model.specs.declared.faults.ReadFault.TheVariants.{TooLong}
use Rattle.model.specs.declared.faults.TextFault.{TextFault}
use Rattle.model.specs.declared.faults.TextFault.TheVariants.{TooShort, Read}
use Rattle.model.specs.Lists.{and_then, raised}
use Rattle.model.specs.Kinds.{Grammar}
use Rattle.model.specs.Names.{nodes}
use Rattle.model.specs.Fields.{Form, plain, draft}
use Rattle.model.specs.Reading.{ReadOut, lines, read_lines, read, read_into, counted, row_after}
use Rattle.model.specs.Writing.{write, write_draft}
use Rattle.model.specs.Fitting.{Program, DraftProgram}
use Rattle.laws.proofs.RoundTrips.{round_trips_lem, draft_round_trips_lem, length_nodes}
use Rattle.script.specs.Reads.{rest_read, Returned, Filled}

abbrev Into : Type 0
Into = Result (List Entry) TextFault

-- The ways out

wide_at : (r : ReadOut) (b : Bool) → b ≡ true → ◌≡◌ {A = Into} (elim b [ true ↦ raised Read r | false ↦ Err (TooShort 0) ]) (raised Read r)
wide_at r b e = rw e

short_at : (r : ReadOut) (b : Bool) → b ≡ true → ◌≡◌ {A = ReadOut} (elim b [ true ↦ r | false ↦ Err TooLong ]) r
short_at r b e = rw e

module _ (g : Grammar) (form : Form) (text : List ℕ) (old row : List Entry) where
  wide : 1024 ≤ length old → read_into g form text (length old) ≡ raised Read (read g form text)
  wide h = wide_at (read g form text) (leb 1024 (length old)) (le-leb 1024 (length old) h)

  lines_into : 1024 ≤ length old → length text ≤ 32768 → read_into g form text (length old) ≡ raised Read (rest_read g form None (Root ∷ []) 0 (lines text))
  unfolding rest_read
  lines_into h l = wide h ∙ ap (raised Read) (short_at (read_lines g form None (Root ∷ []) 0 (lines text)) (leb (length text) 32768) (le-leb (length text) 32768 l))

  raised_ok : (w : ReadOut) (n : ℕ) → Returned w (Ok n) old row → Filled (raised Read w) (Ok n) old row
  raised_ok (Ok es) n r = record { value = (let e = r.value in cc); entries = r.entries }
  raised_ok (Err f) n r = let e = r.value in let z : ◌≡◌ {A = ℕ} 0 1 = cc in absurd (omega arith)

  raised_err : (w : ReadOut) (f : ReadFault) → Returned w (Err f) old row → Filled (raised Read w) (Err (Read f)) old row
  raised_err (Ok es) f r = let e = r.value in let z : ◌≡◌ {A = ℕ} 0 1 = cc in absurd (omega arith)
  raised_err (Err h) f r = record { value = (let e = r.value in cc); entries = tt }

  pub lines_read : (n : ℕ) → 1024 ≤ length old → length text ≤ 32768 → Returned (rest_read g form None (Root ∷ []) 0 (lines text)) (Ok n) old row → Filled (read_into g form text (length old)) (Ok n) old row
  lines_read n h l r = subst (λ (w : Into). Filled w (Ok n) old row) (sym (lines_into h l)) (raised_ok _ n r)

  pub lines_refused : (f : ReadFault) → 1024 ≤ length old → length text ≤ 32768 → Returned (rest_read g form None (Root ∷ []) 0 (lines text)) (Err f) old row → Filled (read_into g form text (length old)) (Err (Read f)) old row
  lines_refused f h l r = subst (λ (w : Into). Filled w (Err (Read f)) old row) (sym (lines_into h l)) (raised_err _ f r)

-- The row then

-- What the entries say

front_is : (es old row : List Entry) (n : ℕ) → n ≡ length es → row ≡ es ++ drop (length es) old → take n row ≡ es
front_is es old row n e h = ap (take n) h ∙ take_at es (drop (length es) old) n (sym e)

module _ (g : Grammar) (text : List ℕ) (old row : List Entry) where
  into : Form → Into
  into form = read_into g form text (length old)

  record Was (form : Form) (es : List Entry) : Type 0 where
    was : read g form text ≡ Ok es

  raised_was : (form : Form) (r : ReadOut) (es : List Entry) → read g form text ≡ r → raised Read r ≡ Ok es → Was form es
  raised_was form (Ok fs) es e h = record { was = e ∙ (let f : fs ≡ es = cc in ap {B = ReadOut} Ok f) }
  raised_was form (Err f) es e h = let z : ◌≡◌ {A = ℕ} 0 1 = cc in absurd (omega arith)

  into_was : (form : Form) (b : Bool) (es : List Entry) → ◌≡◌ {A = Into} (elim b [ true ↦ raised Read (read g form text) | false ↦ Err (TooShort 0) ]) (Ok es) → Was form es
  into_was form true es h = raised_was form (read g form text) es refl h
  into_was form false es h = let z : ◌≡◌ {A = ℕ} 0 1 = cc in absurd (omega arith)

  accepted : (form : Form) (es : List Entry) → into form ≡ Ok es → Was form es
  unfolding into
  accepted form es h = into_was form (leb 1024 (length old)) es h

  within_row : (es : List Entry) (r : Result ℕ TextFault) → length es ≤ 1024 → r ≡ Ok (length es) → row ≡ es ++ drop (length es) old → IfOk r (λ n. (n ≤ 1024) × (n ≤ length row))
  within_row es r few v a =
      subst (λ (x : Result ℕ TextFault). IfOk x (λ n. (n ≤ 1024) × (n ≤ length row))) (sym v)
      (few, omega (arith, ap length a, length-append es (drop (length es) old)))

  -- what holds of the entries that a text says, holds of the front of the row
  pub record Trip (Says : List Entry → Type 0) (r : Result ℕ TextFault) : Type 0 where
    pub back : IfOk r (λ n. Says (take n row))
    pub within : IfOk r (λ n. (n ≤ 1024) × (n ≤ length row))

  trip : (form : Form) (Says : List Entry → Type 0) → ((es : List Entry) → read g form text ≡ Ok es → Says es × (length es ≤ 1024))
      → (w : Into) (r : Result ℕ TextFault) → into form ≡ w → r ≡ counted w → row ≡ row_after w old → Trip Says r
  trip form Says said (Ok es) r e v a =
      let q = said es (accepted form es e).was in
      record {
        back = subst (λ (x : Result ℕ TextFault). IfOk x (λ n. Says (take n row))) (sym v) (subst Says (sym (front_is es old row (length es) refl a)) q.0);
        within = within_row es r q.1 v a;
      }
  trip form Says said (Err f) r e v a = subst (Trip Says) (sym v) (record { back = tt; within = tt })

  pub read_trip : (r : Result ℕ TextFault) → r ≡ counted (read_into g plain text (length old)) → row ≡ row_after (read_into g plain text (length old)) old → Trip (λ es. Program g (nodes es) × (write (nodes es) ≡ text)) r
  unfolding into
  read_trip r v a =
      trip plain (λ es. Program g (nodes es) × (write (nodes es) ≡ text)) (λ es e. let q = (round_trips_lem g).read_is_written text (nodes es) (ap (λ (x : ReadOut). and_then x (λ fs. Ok (nodes fs))) e) in (q, omega (arith, q.0.few, length_nodes es)))
      (into plain) r refl v a

  pub draft_trip : (r : Result ℕ TextFault) → r ≡ counted (read_into g draft text (length old)) → row ≡ row_after (read_into g draft text (length old)) old → Trip (λ es. DraftProgram g es × (write_draft es ≡ text)) r
  unfolding into
  draft_trip r v a =
      trip draft (λ es. DraftProgram g es × (write_draft es ≡ text)) (λ es e. let q = (draft_round_trips_lem g).read_is_written text es e in (q, omega (arith, q.0.program.few, length_nodes es)))
      (into draft) r refl v a
