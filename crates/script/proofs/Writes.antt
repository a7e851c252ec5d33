-- The three ways out of a write, and what is read of the buffer then.
use Rattle.std.proofs.Common.{◌≡◌, ℕ, ◌+◌, ◌<◌, ◌≤◌, Bool, true, false, leb, List, ◌++◌, length, take, drop, Ok, Err, Result, sym, ap, ◌∙◌, arith}
use Rattle.std.proofs.lemmas.List.{take_at}
use Rattle.std.proofs.lemmas.Bool.{le-leb, lt-leb}
use Rattle.model.specs.declared.nodes.Entry.{Entry}
use Rattle.model.specs.declared.faults.ReadFault.TheVariants.{TooManyNodes}
use Rattle.model.specs.declared.faults.TextFault.{TextFault}
use Rattle.model.specs.declared.faults.TextFault.TheVariants.{TooShort, Read}
use Rattle.model.specs.Kinds.{Grammar}
use Rattle.model.specs.Names.{nodes}
use Rattle.model.specs.Fields.{plain}
use Rattle.model.specs.Reading.{read_plain}
use Rattle.model.specs.Writing.{write_lines, write, fitting, write_into}
use Rattle.model.specs.Fitting.{Program}
use Rattle.laws.proofs.RoundTrips.{round_trips_lem, length_nodes}
use Rattle.script.specs.Buffers.{pasted}
use Rattle.script.proofs.LineTexts.{same_text}

module _ (es : List Entry) (room : ℕ) where
  abbrev Out : Type 0
  Out = Result (List ℕ) TextFault

  few_at : (b : Bool) → b ≡ true → ◌≡◌ {A = Out} (elim b [ true ↦ fitting room (write (nodes es)) | false ↦ Err (Read TooManyNodes) ]) (fitting room (write (nodes es)))
  few_at b e = rw e

  many_at : (b : Bool) → b ≡ false → ◌≡◌ {A = Out} (elim b [ true ↦ fitting room (write (nodes es)) | false ↦ Err (Read TooManyNodes) ]) (Err (Read TooManyNodes))
  many_at b e = rw e

  fits_at : (t : List ℕ) (b : Bool) → b ≡ true → ◌≡◌ {A = Out} (elim b [ true ↦ Ok t | false ↦ Err (TooShort (length t)) ]) (Ok t)
  fits_at t b e = rw e

  short_at : (t : List ℕ) (b : Bool) → b ≡ false → ◌≡◌ {A = Out} (elim b [ true ↦ Ok t | false ↦ Err (TooShort (length t)) ]) (Err (TooShort (length t)))
  short_at t b e = rw e

  few : length es ≤ 1024 → write_into (nodes es) room ≡ fitting room (write_lines plain es)
  few h = few_at (leb (length (nodes es)) 1024) (le-leb _ 1024 (omega (arith, length_nodes es))) ∙ ap (fitting room) (same_text es)

  pub write_many : 1024 < length es → write_into (nodes es) room ≡ Err (Read TooManyNodes)
  write_many h = many_at (leb (length (nodes es)) 1024) (lt-leb _ 1024 (omega (arith, length_nodes es)))

  pub write_short : (needed : ℕ) → length es ≤ 1024 → needed ≡ length (write_lines plain es) → room < needed → write_into (nodes es) room ≡ Err (TooShort needed)
  write_short needed h e l =
      few h ∙ (short_at (write_lines plain es) (leb (length (write_lines plain es)) room) (lt-leb _ room (omega arith)) ∙ ap {B = Out} (λ (n : ℕ). Err (TooShort n)) (sym e))

  pub write_fits : length es ≤ 1024 → length (write_lines plain es) ≤ room → write_into (nodes es) room ≡ Ok (write_lines plain es)
  write_fits h l = few h ∙ fits_at (write_lines plain es) (leb (length (write_lines plain es)) room) (le-leb _ room l)

-- a text pasted at the front
pub front_pasted : (t d : List ℕ) → pasted d 0 t ≡ t ++ drop (length t) d
front_pasted t d = let e : 0 + length t ≡ length t = omega arith in ap (λ (j : ℕ). t ++ drop j d) e

pub written_back : (es : List Entry) (d out : List ℕ) (n : ℕ) → n ≡ length (write_lines plain es) → out ≡ pasted d 0 (write_lines plain es) → (g : Grammar) → Program g (nodes es) → read_plain g (take n out) ≡ Ok (nodes es)
written_back es d out n e h g p =
    let t = write_lines plain es in
    ap (read_plain g) (ap (take n) (h ∙ front_pasted t d) ∙ (take_at t (drop (length t) d) n (sym e) ∙ sym (same_text es)))
    ∙ (round_trips_lem g).written_is_read (nodes es) p
