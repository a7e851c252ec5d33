-- What is promised of every session, over every language and every transformation that keeps the rules.
use Rattle.std.specs.Prelude.{◌≡◌, ℕ, true, false, List, [], ◌∷◌, Some, None, Ok, Err, Option, Result}
use Rattle.model.specs.declared.nodes.Name.{Name}
use Rattle.model.specs.declared.nodes.Node.{Node}
use Rattle.model.specs.declared.nodes.Origin.TheVariants.{Private}
use Rattle.model.specs.declared.faults.ReadFault.{ReadFault}
use Rattle.model.specs.declared.faults.RepairFault.{RepairFault}
use Rattle.model.specs.declared.answers.Answer.{Answer}
use Rattle.model.specs.declared.answers.Answer.TheVariants.{Loaded, Ran, Is, Written, Refused}
use Rattle.model.specs.Kinds.{has_name}
use Rattle.model.specs.Names.{kind_at, name_at, nodes}
use Rattle.model.specs.Reading.{read_plain}
use Rattle.model.specs.Forest.{shape}
use Rattle.model.specs.Scopes.{Order, Language, reach}
use Rattle.model.specs.Classes.{Draft, Source, source_of, classes, class_at, together, is_outer, is_inner}
use Rattle.model.specs.Checks.{from_no_name, spelled_apart}
use Rattle.model.specs.Repair.{Mended, Repairs, mend}
use Rattle.model.specs.Stages.{World}
use Rattle.model.specs.Book.{Book, new, Group, Came, from_script, from_group, from_outside, came, origin}
use Rattle.model.specs.Calls.{Call, load, step, adopt, tell, write_to, hear, book_after}
use Rattle.model.specs.Rules.{kinds_of, numbers_of, Alike, Keeps}

-- True to names ------------------------------------------------------------

-- what a name of the script, and one of the program, reaches
abbrev pub script_reach : World → Book → ℕ → Option ℕ
script_reach w b k = reach w.language.visible b.script k

abbrev pub now_reach : World → Book → ℕ → Option ℕ
now_reach w b i = reach w.language.visible b.program i

-- name i reaches a declaration of which that holds
abbrev pub Reaches : World → Book → ℕ → (ℕ → Type 0) → Type 0
Reaches w b i P = (e : ℕ) × (now_reach w b i ≡ Some e) × P e

-- name i is free, and spelled so
abbrev pub Free : World → Book → ℕ → Name → Type 0
Free w b i a = (now_reach w b i ≡ None) × (name_at b.program i ≡ a)

-- declaration e came from a name of the script that reaches declaration d, as d itself does
abbrev pub SameDeclaration : World → Book → ℕ → Came → Type 0
SameDeclaration w b d (from_script k) = script_reach w b k ≡ Some d
SameDeclaration w b d (from_group g) = ⊥
SameDeclaration w b d (from_outside a) = ⊥

-- name i came from the script's name k, which reaches a declaration or is free
abbrev pub TrueToScript : World → Book → ℕ → ℕ → Option ℕ → Type 0
TrueToScript w b i k (Some d) = Reaches w b i (λ e. SameDeclaration w b d (came b e))
TrueToScript w b i k None = Free w b i (name_at b.script k)

abbrev pub TrueName : World → Book → ℕ → Came → Type 0
TrueName w b i (from_script k) = (has_name (kind_at b.script k) ≡ true) × TrueToScript w b i k (script_reach w b k)
TrueName w b i (from_group g) = Reaches w b i (λ e. came b e ≡ from_group g)
TrueName w b i (from_outside a) = Free w b i a

-- a name that came from a bound loaded name reaches a declaration that came from the same loaded declaration;
-- one that came from a free or an outer name is free and spelled like it; a private one reaches its own group
abbrev pub TrueNames : World → Book → Type 0
TrueNames w b = (i : ℕ) → has_name (kind_at b.program i) ≡ true → TrueName w b i (came b i)

-- names that are told to be of one group came from one and the same group of one and the same draft
abbrev pub GroupsApart : Book → Type 0
GroupsApart b =
    (i j g : ℕ) → has_name (kind_at b.program i) ≡ true → has_name (kind_at b.program j) ≡ true
    → origin b i ≡ Private g → origin b j ≡ Private g → (h : Group) × (came b i ≡ from_group h) × (came b j ≡ from_group h)

abbrev pub StaysTrue : World → Type 0
StaysTrue w = (cs : List Call) → TrueNames w (book_after w new cs) × GroupsApart (book_after w new cs)

-- Two runs -------------------------------------------------------------------

-- refused in both, or accepted in both and alike
abbrev pub AlikeLoads : Order → Result (List Node) ReadFault → Result (List Node) ReadFault → Type 0
AlikeLoads order (Ok p) (Ok q) = Alike order p q
AlikeLoads order (Ok p) (Err f) = ⊥
AlikeLoads order (Err f) (Ok q) = ⊥
AlikeLoads order (Err f) (Err g) = Unit {0}

-- the same call, or loads of such texts
pub data Matched (l : Language) : Call → Call → Type 0 where
  same : (c : Call) → Matched l c c
  loads : (t u : List ℕ) → AlikeLoads l.visible (read_plain l.grammar t) (read_plain l.grammar u) → Matched l (load t) (load u)

pub data AllMatched (l : Language) : List Call → List Call → Type 0 where
  none : AllMatched l [] []
  more : {c d : Call} {cs ds : List Call} → Matched l c d → AllMatched l cs ds → AllMatched l (c ∷ cs) (d ∷ ds)

abbrev pub but_rounds : Answer → Answer
but_rounds (Loaded n) = Loaded n
but_rounds (Ran n r) = Ran n 0
but_rounds (Is t) = Is t
but_rounds (Written n) = Written n
but_rounds (Refused f) = Refused f

-- what a step, an adopt or a tell answers, rounds excepted
abbrev pub compared_answer : Call → Answer → Option Answer
compared_answer (load t) a = None
compared_answer (step n r m) a = Some (but_rounds a)
compared_answer (adopt t r m) a = Some (but_rounds a)
compared_answer (tell i) a = Some (but_rounds a)
compared_answer (write_to n) a = None

abbrev pub compared : World → Book → List Call → List (Option Answer)
compared w b [] = []
compared w b (c ∷ cs) = compared_answer c (hear w b c).answer ∷ compared w (hear w b c).book cs

abbrev pub RunsAgree : World → Type 0
RunsAgree w = (cs ds : List Call) → AllMatched w.language cs ds → compared w new cs ≡ compared w new ds

-- Refused exactly when nothing serves ------------------------------------------

-- a respelling gives each name a spelling, and changes nothing else
pub record Respelling (d : Draft) (q : List Node) : Type 0 where
  pub kinds : kinds_of q ≡ kinds_of (nodes d)
  pub numbers : numbers_of q ≡ numbers_of (nodes d)
  pub nameless : (i : ℕ) → has_name (kind_at q i) ≡ false → name_at q i ≡ name_at (nodes d) i

-- it serves if each class gets one spelling, outer classes keep theirs and reach nothing, and each other name reaches a declaration of its class
pub record Serves (order : Order) (s : Source) (d : Draft) (q : List Node) : Type 0 where
  pub respelling : Respelling d q
  pub one_spelling : (i j : ℕ) → together (class_at s d i) (class_at s d j) ≡ true → name_at q i ≡ name_at q j
  pub outer_kept : (i : ℕ) → is_outer (class_at s d i) ≡ true → name_at q i ≡ name_at (nodes d) i
  pub outer_free : (i : ℕ) → is_outer (class_at s d i) ≡ true → reach order q i ≡ None
  pub others : (i : ℕ) → is_inner (class_at s d i) ≡ true → (e : ℕ) × (reach order q i ≡ Some e) × (together (class_at s d i) (class_at s d e) ≡ true)

-- not refused with 9 or 10
pub record PastTen (s : Source) (d : Draft) : Type 0 where
  pub nine : (i : ℕ) → from_no_name s d i ≡ false
  pub ten : (i : ℕ) → spelled_apart s (classes s d) d i ≡ false

-- an accepted draft's program serves, and is what the rounds give; of a refused draft no respelling serves
abbrev pub Served : Order → Source → Draft → Result Mended RepairFault → Type 0
Served order s d (Ok m) = Serves order s d m.program × Repairs (order (shape (nodes d))) (classes s d) (nodes d) m.rounds m.program
Served order s d (Err f) = (q : List Node) → Serves order s d q → ⊥

abbrev pub RefusedExactly : Order → Type 0
RefusedExactly order = (p : List Node) (d : Draft) → PastTen (source_of order p) d → Served order (source_of order p) d (mend order (source_of order p) d)

-- The promise ---------------------------------------------------------------------

pub record Promised (w : World) : Type 0 where
  pub stays_true : StaysTrue w
  pub runs_agree : RunsAgree w
  pub refused_exactly : RefusedExactly w.language.visible

abbrev pub Promise : Type 0
Promise = (w : World) → Keeps w → Promised w
