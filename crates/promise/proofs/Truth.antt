-- Every list of calls leaves a book that holds a program of the session's language and is true to names.
use Rattle.std.proofs.Common.{◌≡◌, ℕ, ◌+◌, Bool, true, false, ◌&&◌, leb, List, [], ◌∷◌, length, Some, None, Ok, Err, Option, Result, sym, refl, ap, ◌∙◌, subst, arith}
use Rattle.std.proofs.lemmas.Bool.{false≢true}
use Rattle.model.specs.declared.nodes.Node.{Node}
use Rattle.model.specs.declared.faults.ReadFault.{ReadFault}
use Rattle.model.specs.declared.faults.SessionFault.{SessionFault}
use Rattle.model.specs.declared.faults.SessionFault.TheVariants.{Read, NoProgram, NoSuch, TooShort}
use Rattle.model.specs.declared.answers.Told.{Told}
use Rattle.model.specs.Lists.{and_then, raised}
use Rattle.model.specs.Kinds.{has_name}
use Rattle.model.specs.Names.{kind_at}
use Rattle.model.specs.Faults.{from_draft}
use Rattle.model.specs.Reading.{read_plain, read_draft}
use Rattle.model.specs.Fitting.{Program}
use Rattle.model.specs.Classes.{Draft, source_of}
use Rattle.model.specs.Stages.{Repaired, mended_in, repairing, Stage, under_repair, in_row, World}
use Rattle.model.specs.Book.{Book, new, loaded, Ran, ran, run}
use Rattle.model.specs.Calls.{Call, load, step, adopt, tell, write_to, with_program, with_rows, stepping, adopted, adopting, telling, writing, after_load, after_run, after_tell, after_write, hear, book_after}
use Rattle.model.specs.Rules.{Visible, KeepsStage}
use Rattle.model.specs.Promise.{TrueNames, StaysTrue}
use Rattle.laws.proofs.RoundTrips.{length_nodes, round_trips_lem, draft_round_trips_lem}
use Rattle.promise.proofs.Results.{ok_inj, err_ok, then_ok, raised_ok}
use Rattle.promise.proofs.Accepting.{Accepted, draft_accepted, stage_accepted, accepted_program}
use Rattle.promise.proofs.Tracing.{loaded_true, entered_true}
use Rattle.promise.proofs.Groups.{groups_apart}

-- What a call says that is not refused

program_ok : {A : Type 0} (b : Book) (f : Unit {0} → Result A SessionFault) (r : A) → with_program b f ≡ Ok r → (b.program ≡ [] → ⊥) × (f tt ≡ Ok r)
program_ok b f r = go b.program refl
  where
    go : (p : List Node) → b.program ≡ p → ◌≡◌ {A = Result _ SessionFault} (elim p [ [] ↦ Err NoProgram | n ∷ ns ↦ f tt ]) (Ok r) → (b.program ≡ [] → ⊥) × (f tt ≡ Ok r)
    go [] q e = absurd (err_ok e)
    go (n ∷ ns) q e = (λ z. absurd (omega (arith, ap length (sym q ∙ z))), e)

rows_ok : {A : Type 0} (entries words : ℕ) (f : Unit {0} → Result A SessionFault) (r : A) → with_rows entries words f ≡ Ok r → f tt ≡ Ok r
rows_ok entries words f r = go (leb 1024 entries && leb 16 words)
  where
    go : (b : Bool) → ◌≡◌ {A = Result _ SessionFault} (elim b [ true ↦ f tt | false ↦ Err (TooShort 0) ]) (Ok r) → f tt ≡ Ok r
    go true e = e
    go false e = absurd (err_ok e)

stepping_ok : (w : World) (b : Book) (n entries words : ℕ) (r : Ran) → stepping w b n entries words ≡ Ok r → (b.program ≡ [] → ⊥) × ((s : Stage) × (w.stages n ≡ Some s) × (run s b ≡ Ok r))
stepping_ok w b n entries words r e =
    let (h, k) = program_ok b (λ _. elim (w.stages n) [ None ↦ Err (NoSuch n) | Some s ↦ with_rows entries words (λ _. raised from_draft (run s b)) ]) r e in
    (h, go (w.stages n) refl k)
  where
    go : (o : Option Stage) → w.stages n ≡ o → ◌≡◌ {A = Result Ran SessionFault} (elim o [ None ↦ Err (NoSuch n) | Some s ↦ with_rows entries words (λ _. raised from_draft (run s b)) ]) (Ok r) → (s : Stage) × (w.stages n ≡ Some s) × (run s b ≡ Ok r)
    go None q e = absurd (err_ok e)
    go (Some s) q e = (s, q, raised_ok from_draft (run s b) r (rows_ok entries words (λ _. raised from_draft (run s b)) r e))

adopting_ok : (w : World) (b : Book) (text : List ℕ) (entries words : ℕ) (r : Ran) → adopting w b text entries words ≡ Ok r → (b.program ≡ [] → ⊥) × ((d : Draft) × (read_draft w.language.grammar text ≡ Ok d) × (adopted w.language b d ≡ Ok r))
adopting_ok w b text entries words r e =
    let f : Unit {0} → Result Ran SessionFault = λ _. and_then (raised Read (read_draft w.language.grammar text)) (λ d. raised from_draft (adopted w.language b d)) in
    let (h, k) = program_ok b (λ _. with_rows entries words f) r e in
    let (d, a, l) = then_ok (raised Read (read_draft w.language.grammar text)) (λ d. raised from_draft (adopted w.language b d)) r (rows_ok entries words f r k) in
    (h, (d, raised_ok Read _ d a, raised_ok from_draft _ r l))

-- Books

record Holds (w : World) (b : Book) : Type 0 where
  program : Program w.language.grammar b.program
  names : TrueNames w b

-- unless it is still new
abbrev Sound : World → Book → Type 0
Sound w b = (b.program ≡ [] → ⊥) → Holds w b

sound_names : (w : World) (b : Book) → Sound w b → TrueNames w b
sound_names w b S i h = (S (λ z. false≢true (ap (λ p. has_name (kind_at p i)) (sym z) ∙ h))).names i h

module _ (w : World) (V : Visible w.language.visible) where
  entered_holds : (b : Book) → Holds w b → (x : Repaired) → Accepted w.language b.program x → (r : Ran) → ran b x ≡ r → Holds w r.book
  entered_holds b H x A r e =
      subst (λ y. Holds w y.book) e (record { program = accepted_program w.language V b.program x A; names = entered_true w V b H.names x A })

  run_holds : (s : Stage) → KeepsStage w.language s → (b : Book) → Holds w b → (r : Ran) → run s b ≡ Ok r → Holds w r.book
  run_holds (under_repair t) K b H r e =
      let (x, a, k) = then_ok (repairing t (source_of t.source.visible b.program)) (λ r. Ok (ran b r)) r e in
      entered_holds b H x (stage_accepted w.language t K.0 K.1 K.2 b.program H.program x a) r (ok_inj k)
  run_holds (in_row s t) K b H r e =
      let (x, ex, k) = then_ok (run s b) (λ x. and_then (run t x.book) (λ q. Ok (record { book = q.book; rounds = x.rounds + q.rounds }))) r e in
      let (y, ey, l) = then_ok (run t x.book) (λ q. Ok (record { book = q.book; rounds = x.rounds + q.rounds })) r k in
      subst (λ z. Holds w z.book) (ok_inj l) (run_holds t K.1 x.book (run_holds s K.0 b H x ex) y ey)

  adopted_holds : (b : Book) → Holds w b → (text : List ℕ) (d : Draft) → read_draft w.language.grammar text ≡ Ok d → (r : Ran) → adopted w.language b d ≡ Ok r → Holds w r.book
  adopted_holds b H text d h r e =
      let (x, a, k) = then_ok (mended_in w.language (source_of w.language.visible b.program) d) (λ r. Ok (ran b r)) r e in
      let P = ((draft_round_trips_lem w.language.grammar).read_is_written text d h).0.program in
      entered_holds b H x (draft_accepted w.language b.program d x (omega (arith, P.few, length_nodes d)) P.of a) r (ok_inj k)

  after_load_sound : (b : Book) (x : Result (List Node) ReadFault) → ((p : List Node) → x ≡ Ok p → Program w.language.grammar p) → Sound w b → Sound w (after_load b (and_then (raised Read x) (λ p. Ok (loaded p)))).book
  after_load_sound b (Ok p) f S = λ _. record { program = f p refl; names = loaded_true w V p }
  after_load_sound b (Err f) _ S = S

  after_run_sound : (b : Book) (x : Result Ran SessionFault) → ((r : Ran) → x ≡ Ok r → Holds w r.book) → Sound w b → Sound w (after_run b x).book
  after_run_sound b (Ok r) f S = λ _. f r refl
  after_run_sound b (Err e) f S = S

  after_tell_sound : (b : Book) (x : Result Told SessionFault) → Sound w b → Sound w (after_tell b x).book
  after_tell_sound b (Ok t) S = S
  after_tell_sound b (Err f) S = S

  after_write_sound : (b : Book) (x : Result (List ℕ) SessionFault) → Sound w b → Sound w (after_write b x).book
  after_write_sound b (Ok t) S = S
  after_write_sound b (Err f) S = S

  module _ (K : (n : ℕ) (s : Stage) → w.stages n ≡ Some s → KeepsStage w.language s) where
    heard_sound : (b : Book) (c : Call) → Sound w b → Sound w (hear w b c).book
    heard_sound b (load text) S = after_load_sound b (read_plain w.language.grammar text) (λ p e. ((round_trips_lem w.language.grammar).read_is_written text p e).0) S
    heard_sound b (step n entries words) S =
        after_run_sound b (stepping w b n entries words) (λ r e.
        let (h, t) = stepping_ok w b n entries words r e in
        let (s, q, k) = t in
        run_holds s (K n s q) b (S h) r k) S
    heard_sound b (adopt text entries words) S =
        after_run_sound b (adopting w b text entries words) (λ r e.
        let (h, t) = adopting_ok w b text entries words r e in
        let (d, q, k) = t in
        adopted_holds b (S h) text d q r k) S
    heard_sound b (tell i) S = after_tell_sound b (telling w b i) S
    heard_sound b (write_to room) S = after_write_sound b (writing b room) S

    after_sound : (b : Book) (cs : List Call) → Sound w b → Sound w (book_after w b cs)
    after_sound b [] S = S
    after_sound b (c ∷ cs) S = after_sound (hear w b c).book cs (heard_sound b c S)

    pub stays_true : StaysTrue w
    stays_true cs =
        let b = book_after w new cs in
        (sound_names w b (after_sound new cs (λ n. absurd (n refl))), groups_apart b)
