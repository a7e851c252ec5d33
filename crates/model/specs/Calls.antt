-- The five calls: what a session answers, and the book after it.
use Rattle.std.specs.Prelude.{ℕ, true, false, cond, ◌&&◌, List, [], ◌∷◌, length, Some, None, Ok, Err, Option, Result, ◌==◌, nat_le, nat_lt}
use Rattle.model.specs.declared.faults.DraftFault.{DraftFault}
use Rattle.model.specs.declared.faults.SessionFault.{SessionFault}
use Rattle.model.specs.declared.faults.SessionFault.TheVariants.{Read, Repair, NoProgram, TooShort, NoSuch}
use Rattle.model.specs.declared.answers.Told.{Told}
use Rattle.model.specs.declared.answers.Answer.{Answer}
use Rattle.model.specs.declared.answers.Answer.TheVariants.{Loaded, Ran as RanWith, Is, Written, Refused}
use Rattle.model.specs.Lists.{and_then, raised}
use Rattle.model.specs.Faults.{from_draft}
use Rattle.model.specs.Kinds.{has_name}
use Rattle.model.specs.Names.{node_at}
use Rattle.model.specs.Reading.{read_plain, read_draft}
use Rattle.model.specs.Writing.{write}
use Rattle.model.specs.Scopes.{Order, Language, reach, by_root}
use Rattle.model.specs.Classes.{Draft, Source, source_of}
use Rattle.model.specs.Repair.{Mended, mend}
use Rattle.model.specs.Stages.{Stage, under_repair, in_row, World, mended_in}
use Rattle.model.specs.Lower.{lower}
use Rattle.model.specs.Flatten.{flatten}
use Rattle.model.specs.Book.{Book, loaded, origin, Ran, ran, run}

-- a call with its arguments: a text, the number of a stage or a node, the lengths of the rows of nodes and of mark words, and of the buffer
pub data Call : Type 0 where
  load : List ℕ → Call
  step : ℕ → ℕ → ℕ → Call
  adopt : List ℕ → ℕ → ℕ → Call
  tell : ℕ → Call
  write_to : ℕ → Call

-- 6: no program
abbrev pub with_program : {A : Type 0} → Book → (Unit {0} → Result A SessionFault) → Result A SessionFault
with_program b f = elim b.program [ [] ↦ Err NoProgram | n ∷ ns ↦ f tt ]

-- 13: a row too short; 1,024 nodes and sixteen words are enough
abbrev pub with_rows : {A : Type 0} → ℕ → ℕ → (Unit {0} → Result A SessionFault) → Result A SessionFault
with_rows entries words f = elim (nat_le 1024 entries && nat_le 16 words) [ true ↦ f tt | false ↦ Err (TooShort 0) ]

abbrev pub loading : World → List ℕ → Result Book SessionFault
loading w text = and_then (raised Read (read_plain w.language.grammar text)) (λ p. Ok (loaded p))

abbrev pub stepping : World → Book → ℕ → ℕ → ℕ → Result Ran SessionFault
stepping w b n entries words =
    with_program b (λ _. elim (w.stages n) [ None ↦ Err (NoSuch n) | Some s ↦ with_rows entries words (λ _. raised from_draft (run s b)) ])

-- the draft as given, under repair, from the book's program
abbrev pub adopted : Language → Book → Draft → Result Ran DraftFault
adopted l b d = and_then (mended_in l (source_of l.visible b.program) d) (λ r. Ok (ran b r))

abbrev pub adopting : World → Book → List ℕ → ℕ → ℕ → Result Ran SessionFault
adopting w b text entries words =
    with_program b (λ _. with_rows entries words (λ _. and_then (raised Read (read_draft w.language.grammar text)) (λ d. raised from_draft (adopted w.language b d))))

abbrev pub told : World → Book → ℕ → Told
told w b i =
    let n = node_at b.program i in
    record {
      kind = n.kind;
      number = n.number;
      origin = cond (has_name n.kind) (Some (origin b i)) None;
      reach = cond (has_name n.kind) (reach w.language.visible b.program i) None;
    }

abbrev pub telling : World → Book → ℕ → Result Told SessionFault
telling w b i = with_program b (λ _. elim (nat_lt i (length b.program)) [ true ↦ Ok (told w b i) | false ↦ Err (NoSuch i) ])

abbrev pub writing : Book → ℕ → Result (List ℕ) SessionFault
writing b room =
    with_program b (λ _. let text = write b.program in elim (nat_le (length text) room) [ true ↦ Ok text | false ↦ Err (TooShort (length text)) ])

-- the book after a call, the answer, and what was written from the buffer's start on
pub record Heard : Type 0 where
  pub book : Book
  pub answer : Answer
  pub text : List ℕ

abbrev pub says : Book → Answer → Heard
says b a = record { book = b; answer = a; text = [] }

abbrev pub after_load : Book → Result Book SessionFault → Heard
after_load b (Ok c) = says c (Loaded (length c.program))
after_load b (Err f) = says b (Refused f)

abbrev pub after_run : Book → Result Ran SessionFault → Heard
after_run b (Ok r) = says r.book (RanWith (length r.book.program) r.rounds)
after_run b (Err f) = says b (Refused f)

abbrev pub after_tell : Book → Result Told SessionFault → Heard
after_tell b (Ok t) = says b (Is t)
after_tell b (Err f) = says b (Refused f)

abbrev pub after_write : Book → Result (List ℕ) SessionFault → Heard
after_write b (Ok text) = record { book = b; answer = Written (length text); text = text }
after_write b (Err f) = says b (Refused f)

abbrev pub hear : World → Book → Call → Heard
hear w b (load text) = after_load b (loading w text)
hear w b (step n entries words) = after_run b (stepping w b n entries words)
hear w b (adopt text entries words) = after_run b (adopting w b text entries words)
hear w b (tell i) = after_tell b (telling w b i)
hear w b (write_to room) = after_write b (writing b room)

-- the book after a list of calls
abbrev pub book_after : World → Book → List Call → Book
book_after w b [] = b
book_after w b (c ∷ cs) = book_after w (hear w b c).book cs

-- what is heard of a list of calls
abbrev pub heard : World → Book → List Call → List Heard
heard w b [] = []
heard w b (c ∷ cs) = let h = hear w b c in h ∷ heard w h.book cs

-- Outside a session: mending a draft with a mark row of so many words
abbrev pub mending : Order → Source → Draft → ℕ → Result Mended SessionFault
mending order s d words = elim (nat_le 16 words) [ true ↦ raised Repair (mend order s d) | false ↦ Err (TooShort 0) ]

-- The standard stages: 1 lowers, 2 flattens, 3 does both in a row

abbrev pub standard_stages : ℕ → Option Stage
standard_stages n =
    cond (n == 1) (Some (under_repair lower)) (cond (n == 2) (Some (under_repair flatten)) (cond (n == 3) (Some (in_row (under_repair lower) (under_repair flatten))) None))

abbrev pub standard : World
standard = record { language = by_root; stages = standard_stages }
