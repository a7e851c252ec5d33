-- Two runs that differ in the texts of alike loads alone answer alike.
use Rattle.std.proofs.Common.{◌≡◌, ℕ, ◌≤◌, Bool, true, false, ◌&&◌, ltb, leb, List, [], ◌∷◌, length, Some, None, Ok, Err, Option, Result, sym, refl, ap, ◌∙◌, subst, ap₂, arith}
use Rattle.std.proofs.lemmas.Bool.{ltb-true, false≢true}
use Rattle.model.specs.declared.nodes.Node.{Node}
use Rattle.model.specs.declared.faults.ReadFault.{ReadFault}
use Rattle.model.specs.declared.faults.StageFault.TheVariants.{WrongSource}
use Rattle.model.specs.declared.faults.RepairFault.{RepairFault}
use Rattle.model.specs.declared.faults.DraftFault.{DraftFault}
use Rattle.model.specs.declared.faults.DraftFault.TheVariants.{Stage as OfStage, Repair as OfRepair}
use Rattle.model.specs.declared.faults.SessionFault.{SessionFault}
use Rattle.model.specs.declared.faults.SessionFault.TheVariants.{Read, NoProgram, NoSuch, TooShort}
use Rattle.model.specs.declared.answers.Told.{Told}
use Rattle.model.specs.declared.answers.Answer.TheVariants.{Ran as RanWith, Is, Refused}
use Rattle.model.specs.Lists.{and_then, raised}
use Rattle.model.specs.Names.{root_of, nodes}
use Rattle.model.specs.Faults.{from_draft}
use Rattle.model.specs.Reading.{read_plain, read_draft}
use Rattle.model.specs.Fitting.{Of, Program}
use Rattle.model.specs.Classes.{Draft, Source, source_of}
use Rattle.model.specs.Repair.{Mended, mend}
use Rattle.model.specs.Stages.{Transformation, limited, meaning, mended_in, Stage, under_repair, in_row, World}
use Rattle.model.specs.Book.{Book, new, loaded, Ran, ran, run_repaired, run}
use Rattle.model.specs.Calls.{Call, load, step, adopt, tell, write_to, with_program, with_rows, stepping, adopted, adopting, told, telling, writing, after_load, after_run, after_tell, after_write, hear}
use Rattle.model.specs.Rules.{Visible, Part, Agree, Agreeing, KeepsTransformation, KeepsStage}
use Rattle.model.specs.Promise.{AlikeLoads, Matched, same, loads, AllMatched, none, more, but_rounds, compared_answer, compared, RunsAgree}
use Rattle.laws.proofs.RoundTrips.{length_nodes, round_trips_lem, draft_round_trips_lem}
use Rattle.laws.proofs.Reaches.{same_kinds}
use Rattle.promise.proofs.Results.{ok_inj, err_ok}
use Rattle.promise.proofs.Agreeing.{BothMended, both_mended}
use Rattle.promise.proofs.Languages.{source_alike, alike_in_part}
use Rattle.promise.proofs.Accepting.{source_program, made_few, made_of, made_mended}
use Rattle.promise.proofs.Matching.{Matching, matching_sources, loaded_matching, entered_matching, matching_long, told_same}

wrong_source : (t : Transformation) (s : Source) → t.source.grammar.roots (root_of s.program) ≡ false → meaning t s ≡ Err (OfStage WrongSource)
wrong_source t s h = go (t.source.grammar.roots (root_of s.program)) h
  where
    go : (b : Bool) → b ≡ false → ◌≡◌ {A = Result Draft DraftFault} (elim b [ true ↦ and_then (t.draft s) limited | false ↦ Err (OfStage WrongSource) ]) (Err (OfStage WrongSource))
    go true q = absurd (false≢true (sym q))
    go false q = refl

-- the same refusal, or books that match
data BothRan (w : World) {E : Type 0} : Result Ran E → Result Ran E → Type 0 where
  accepted : {r q : Ran} → Matching w r.book q.book → BothRan w (Ok r) (Ok q)
  refused : {f g : E} → f ≡ g → BothRan w (Err f) (Err g)

both_then : (w : World) {E : Type 0} {x y : Result Ran E} (f g : Ran → Result Ran E) → BothRan w x y → ((r q : Ran) → Matching w r.book q.book → BothRan w (f r) (g q)) → BothRan w (and_then x f) (and_then y g)
both_then w f g (accepted {r} {q} M) k = k r q M
both_then w f g (refused e) k = refused e

both_raised : (w : World) {E F : Type 0} (f : E → F) {x y : Result Ran E} → BothRan w x y → BothRan w (raised f x) (raised f y)
both_raised w f (accepted M) = accepted M
both_raised w f (refused e) = refused (ap f e)

module _ (w : World) (V : Visible w.language.visible) (b c : Book) (M : Matching w b c) where
  abbrev p : List Node
  p = b.program

  abbrev q : List Node
  q = c.program

  abbrev s : Source
  s = source_of w.language.visible b.program

  abbrev t : Source
  t = source_of w.language.visible c.program

  -- drafts that agree
  both_drafts : (d e : Draft) → Agree (source_of w.language.visible b.program) d e → length d ≤ 1024 → length e ≤ 1024 → Of w.language.grammar (nodes d) → Of w.language.grammar (nodes e) → BothRan w (and_then (mended_in w.language (source_of w.language.visible b.program) d) (λ r. Ok (ran b r))) (and_then (mended_in w.language (source_of w.language.visible c.program) e) (λ r. Ok (ran c r)))
  both_drafts d e G f f' o o' =
      go (mend w.language.visible s d) (mend w.language.visible t e) refl refl (both_mended w.language.visible s t (matching_sources w b c M) d e G)
    where
      go : (x y : Result Mended RepairFault) → mend w.language.visible s d ≡ x → mend w.language.visible t e ≡ y → BothMended x y → BothRan w (and_then (and_then (raised OfRepair x) (λ m. Ok (record { draft = d; mended = m }))) (λ r. Ok (ran b r))) (and_then (and_then (raised OfRepair y) (λ m. Ok (record { draft = e; mended = m }))) (λ r. Ok (ran c r)))
      go (Ok m) (Ok n) h k _ = accepted (entered_matching w V b c M (record { draft = d; mended = m }) (record { draft = e; mended = n }) (record { few = f; of = o; mends = h }) (record { few = f'; of = o'; mends = k }) G)
      go (Ok m) (Err g) h k z = absurd z
      go (Err g) (Ok n) h k z = absurd z
      go (Err g) (Err i) h k z = refused (ap OfRepair z)

  -- a given draft
  both_given : (d : Draft) → Program w.language.grammar (nodes d) → BothRan w (adopted w.language b d) (adopted w.language c d)
  both_given d P =
      let f : length d ≤ 1024 = omega (arith, P.few, length_nodes d) in
      let same : Agree s d d = record { kinds = refl; numbers = refl; origins = refl; outer = λ i h. refl; within = λ i j h. refl } in
      both_drafts d d same f f P.of P.of

  -- a transformation that keeps the rules
  module _ (T : Transformation) (S : Part T.source w.language) (U : Part T.target w.language) (K : KeepsTransformation T) where
    both_made : (x y : Result Draft DraftFault) → meaning T (source_of T.source.visible b.program) ≡ x → meaning T (source_of T.source.visible c.program) ≡ y → Agreeing (source_of w.language.visible b.program) x y → BothRan w (and_then (and_then x (mended_in T.target (source_of T.source.visible b.program))) (λ r. Ok (ran b r))) (and_then (and_then y (mended_in T.target (source_of T.source.visible c.program))) (λ r. Ok (ran c r)))
    both_made (Ok d) (Ok e) h k G =
        let D = made_mended w.language T S U K p M.first_program d h in
        let E = made_mended w.language T S U K q M.second_program e k in
        subst (λ x. BothRan w (and_then x (λ r. Ok (ran b r))) (and_then (mended_in T.target (source_of T.source.visible c.program) e) (λ r. Ok (ran c r)))) (sym D)
        (subst (λ y. BothRan w (and_then (mended_in w.language s d) (λ r. Ok (ran b r))) (and_then y (λ r. Ok (ran c r)))) (sym E)
        (both_drafts d e G
        (made_few w.language T S U K p M.first_program d h)
        (made_few w.language T S U K q M.second_program e k)
        (made_of w.language T S U K p M.first_program d h)
        (made_of w.language T S U K q M.second_program e k)))
    both_made (Ok d) (Err f) h k z = absurd z
    both_made (Err f) (Ok e) h k z = absurd z
    both_made (Err f) (Err g) h k z = refused z

    agreeing : Agreeing (source_of w.language.visible b.program) (meaning T (source_of T.source.visible b.program)) (meaning T (source_of T.source.visible c.program))
    agreeing = go (T.source.grammar.roots (root_of p)) refl
      where
        root_same : T.source.grammar.roots (root_of q) ≡ T.source.grammar.roots (root_of p)
        root_same = ap T.source.grammar.roots (sym (same_kinds p q M.alike_programs.kinds 0))

        go : (r : Bool) → T.source.grammar.roots (root_of p) ≡ r → Agreeing (source_of w.language.visible b.program) (meaning T (source_of T.source.visible b.program)) (meaning T (source_of T.source.visible c.program))
        go true h =
            let P = source_program w.language T S U K p M.first_program h in
            let Q = source_program w.language T S U K q M.second_program (root_same ∙ h) in
            subst (λ x. Agreeing x (meaning T (source_of T.source.visible b.program)) (meaning T (source_of T.source.visible c.program))) (source_alike T.source w.language S p P.of)
            (K.law p q P Q (alike_in_part T.source w.language S p q P.of Q.of M.alike_programs))
        go false h =
            subst (λ x. Agreeing s x (meaning T (source_of T.source.visible c.program))) (sym (wrong_source T (source_of T.source.visible b.program) h))
            (subst (λ y. Agreeing s (Err (OfStage WrongSource)) y) (sym (wrong_source T (source_of T.source.visible c.program) (root_same ∙ h))) refl)

    both_repaired : BothRan w (run_repaired T b) (run_repaired T c)
    both_repaired = both_made (meaning T (source_of T.source.visible b.program)) (meaning T (source_of T.source.visible c.program)) refl refl agreeing

module _ (w : World) (V : Visible w.language.visible) where
  both_run : (st : Stage) → KeepsStage w.language st → (b c : Book) → Matching w b c → BothRan w (run st b) (run st c)
  both_run (under_repair T) K b c M = both_repaired w V b c M T K.0 K.1 K.2
  both_run (in_row s t) K b c M =
      both_then w _ _ (both_run s K.0 b c M) (λ r q N.
      both_then w _ _ (both_run t K.1 r.book q.book N) (λ _ _ L. accepted L))

  -- books that match, unless both are still new
  record Both (b c : Book) : Type 0 where
    long : length b.program ≡ length c.program
    matching : (b.program ≡ [] → ⊥) → Matching w b c

  from_matching : (b c : Book) → Matching w b c → Both b c
  from_matching b c M = record { long = matching_long w b c M; matching = λ _. M }

  both_with : {A : Type 0} (Rel : Result A SessionFault → Result A SessionFault → Type 0) → Rel (Err NoProgram) (Err NoProgram) → (b c : Book) → Both b c → (f g : Unit {0} → Result A SessionFault) → (Matching w b c → Rel (f tt) (g tt)) → Rel (with_program b f) (with_program c g)
  both_with Rel n b c B f g h = go b.program c.program refl refl
    where
      go : (p q : List Node) → b.program ≡ p → c.program ≡ q → Rel (elim p [ [] ↦ Err NoProgram | n ∷ ns ↦ f tt ]) (elim q [ [] ↦ Err NoProgram | n ∷ ns ↦ g tt ])
      go [] [] x y = n
      go [] (m ∷ q) x y = absurd (omega (arith, B.long, ap length x, ap length y))
      go (m ∷ p) [] x y = absurd (omega (arith, B.long, ap length x, ap length y))
      go (m ∷ p) (o ∷ q) x y = h (B.matching (λ z. absurd (omega (arith, ap length (sym x ∙ z)))))

  both_rows : (entries words : ℕ) (f g : Unit {0} → Result Ran SessionFault) → BothRan w (f tt) (g tt) → BothRan w (with_rows entries words f) (with_rows entries words g)
  both_rows entries words f g h = go (leb 1024 entries && leb 16 words)
    where
      go : (b : Bool) → BothRan w (elim b [ true ↦ f tt | false ↦ Err (TooShort 0) ]) (elim b [ true ↦ g tt | false ↦ Err (TooShort 0) ])
      go true = h
      go false = refused refl

  both_adopt : (text : List ℕ) (entries words : ℕ) (b c : Book) → Both b c → BothRan w (adopting w b text entries words) (adopting w c text entries words)
  both_adopt text entries words b c B =
      let f : Book → Unit {0} → Result Ran SessionFault = λ x _. and_then (raised Read (read_draft w.language.grammar text)) (λ d. raised from_draft (adopted w.language x d)) in
      both_with (BothRan w) (refused refl) b c B (λ _. with_rows entries words (f b)) (λ _. with_rows entries words (f c)) (λ M.
      both_rows entries words (f b) (f c) (go M (read_draft w.language.grammar text) refl))
    where
      go : Matching w b c → (r : Result Draft ReadFault) → read_draft w.language.grammar text ≡ r → BothRan w (and_then (raised Read r) (λ d. raised from_draft (adopted w.language b d))) (and_then (raised Read r) (λ d. raised from_draft (adopted w.language c d)))
      go M (Ok d) e = both_raised w from_draft (both_given w V b c M d ((draft_round_trips_lem w.language.grammar).read_is_written text d e).0.program)
      go M (Err f) e = refused refl

  both_tell : (b c : Book) (i : ℕ) → Both b c → telling w b i ≡ telling w c i
  both_tell b c i B =
      both_with ◌≡◌ refl b c B (tells b (length b.program)) (tells c (length c.program)) (λ M. go M (ltb i (length b.program)) refl ∙ ap (λ n. tells c n tt) B.long)
    where
      tells : Book → ℕ → Unit {0} → Result Told SessionFault
      tells x n _ = elim (ltb i n) [ true ↦ Ok (told w x i) | false ↦ Err (NoSuch i) ]

      go : Matching w b c → (t : Bool) → ltb i (length b.program) ≡ t → ◌≡◌ {A = Result Told SessionFault} (elim t [ true ↦ Ok (told w b i) | false ↦ Err (NoSuch i) ]) (elim t [ true ↦ Ok (told w c i) | false ↦ Err (NoSuch i) ])
      go M true e = ap Ok (told_same w b c M i (ltb-true i (length b.program) e))
      go M false e = refl

  after_both_run : (b c : Book) → Both b c → {x y : Result Ran SessionFault} → BothRan w x y → (but_rounds (after_run b x).answer ≡ but_rounds (after_run c y).answer) × Both (after_run b x).book (after_run c y).book
  after_both_run b c B (accepted {r} {q} M) = (ap (λ n. RanWith n 0) (matching_long w r.book q.book M), from_matching r.book q.book M)
  after_both_run b c B (refused e) = (ap Refused e, B)

  after_both_tell : (b c : Book) → Both b c → (x y : Result Told SessionFault) → x ≡ y → (but_rounds (after_tell b x).answer ≡ but_rounds (after_tell c y).answer) × Both (after_tell b x).book (after_tell c y).book
  after_both_tell b c B (Ok t) (Ok u) h = (ap Is (ok_inj h), B)
  after_both_tell b c B (Ok t) (Err f) h = absurd (err_ok (sym h))
  after_both_tell b c B (Err f) (Ok u) h = absurd (err_ok h)
  after_both_tell b c B (Err f) (Err g) h = let e : f ≡ g = cc in (ap Refused e, B)

  after_both_write : (b c : Book) → Both b c → (x y : Result (List ℕ) SessionFault) → Both (after_write b x).book (after_write c y).book
  after_both_write b c B (Ok t) (Ok u) = B
  after_both_write b c B (Ok t) (Err f) = B
  after_both_write b c B (Err f) (Ok u) = B
  after_both_write b c B (Err f) (Err g) = B

  after_both_load : (b c : Book) → Both b c → (x y : Result (List Node) ReadFault) → AlikeLoads w.language.visible x y → ((p : List Node) → x ≡ Ok p → Program w.language.grammar p) → ((p : List Node) → y ≡ Ok p → Program w.language.grammar p) → Both (after_load b (and_then (raised Read x) (λ p. Ok (loaded p)))).book (after_load c (and_then (raised Read y) (λ p. Ok (loaded p)))).book
  after_both_load b c B (Ok p) (Ok q) a f g = from_matching (loaded p) (loaded q) (loaded_matching w p q a (f p refl) (g q refl))
  after_both_load b c B (Ok p) (Err f) a _ _ = absurd a
  after_both_load b c B (Err f) (Ok q) a _ _ = absurd a
  after_both_load b c B (Err f) (Err g) a _ _ = B

  alike_itself : (x : Result (List Node) ReadFault) → AlikeLoads w.language.visible x x
  alike_itself (Ok p) = record { kinds = refl; numbers = refl; reached = refl; free = λ i h r. refl }
  alike_itself (Err f) = tt

  abbrev HeardAlike : Book → Book → Call → Call → Type 0
  HeardAlike b c x y = (compared_answer x (hear w b x).answer ≡ compared_answer y (hear w c y).answer) × Both (hear w b x).book (hear w c y).book

  loads_alike : (b c : Book) → Both b c → (t u : List ℕ) → AlikeLoads w.language.visible (read_plain w.language.grammar t) (read_plain w.language.grammar u) → HeardAlike b c (load t) (load u)
  loads_alike b c B t u a =
      let programs : (v : List ℕ) (p : List Node) → read_plain w.language.grammar v ≡ Ok p → Program w.language.grammar p = λ v p e. ((round_trips_lem w.language.grammar).read_is_written v p e).0 in
      (refl, after_both_load b c B (read_plain w.language.grammar t) (read_plain w.language.grammar u) a (programs t) (programs u))

  module _ (K : (n : ℕ) (s : Stage) → w.stages n ≡ Some s → KeepsStage w.language s) where
    both_step : (n entries words : ℕ) (b c : Book) → Both b c → BothRan w (stepping w b n entries words) (stepping w c n entries words)
    both_step n entries words b c B = both_with (BothRan w) (refused refl) b c B (λ _. steps b (w.stages n)) (λ _. steps c (w.stages n)) (λ M. go M (w.stages n) refl)
      where
        steps : Book → Option Stage → Result Ran SessionFault
        steps x o = elim o [ None ↦ Err (NoSuch n) | Some s ↦ with_rows entries words (λ _. raised from_draft (run s x)) ]

        go : Matching w b c → (o : Option Stage) → w.stages n ≡ o → BothRan w (steps b o) (steps c o)
        go M None e = refused refl
        go M (Some s) e = both_rows entries words (λ _. raised from_draft (run s b)) (λ _. raised from_draft (run s c)) (both_raised w from_draft (both_run s (K n s e) b c M))

    same_alike : (b c : Book) → Both b c → (x : Call) → HeardAlike b c x x
    same_alike b c B (load t) = loads_alike b c B t t (alike_itself (read_plain w.language.grammar t))
    same_alike b c B (step n entries words) = let r = after_both_run b c B (both_step n entries words b c B) in (ap Some r.0, r.1)
    same_alike b c B (adopt text entries words) = let r = after_both_run b c B (both_adopt text entries words b c B) in (ap Some r.0, r.1)
    same_alike b c B (tell i) = let r = after_both_tell b c B (telling w b i) (telling w c i) (both_tell b c i B) in (ap Some r.0, r.1)
    same_alike b c B (write_to room) = (refl, after_both_write b c B (writing b room) (writing c room))

    heard_alike : {x y : Call} (b c : Book) → Both b c → Matched w.language x y → HeardAlike b c x y
    heard_alike b c B (same x) = same_alike b c B x
    heard_alike b c B (loads t u a) = loads_alike b c B t u a

    from_both : {cs ds : List Call} (b c : Book) → Both b c → AllMatched w.language cs ds → compared w b cs ≡ compared w c ds
    from_both b c B none = refl
    from_both b c B (more {c = x} {d = y} m ms) = let h = heard_alike b c B m in ap₂ ◌∷◌ h.0 (from_both (hear w b x).book (hear w c y).book h.1 ms)

    pub runs_agree : RunsAgree w
    runs_agree cs ds m = from_both new new (record { long = refl; matching = λ n. absurd (n refl) }) m
