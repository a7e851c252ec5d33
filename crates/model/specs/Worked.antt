-- The scripts worked through, as one theorem over what a session with the standard stages answers.
use Rattle.std.specs.Prelude.{◌≡◌, ℕ, cond, List, [], ◌∷◌, map, None, codes, ◌==◌}
use Prim.Native.String.{String}
use Rattle.model.specs.declared.kinds.Kind.TheVariants.{Flat}
use Rattle.model.specs.declared.faults.Layer.{Layer}
use Rattle.model.specs.declared.faults.Layer.TheVariants.{Reading, Repairing}
use Rattle.model.specs.declared.answers.Answer.{Answer}
use Rattle.model.specs.declared.answers.Answer.TheVariants.{Loaded, Ran, Is, Written, Refused}
use Rattle.model.specs.Writing.{write}
use Rattle.model.specs.Faults.{session_number, session_place, session_layer}
use Rattle.model.specs.Book.{new}
use Rattle.model.specs.Calls.{Call, load, step, adopt, tell, heard, book_after, standard}

-- slashes are line ends and blanks are tabs
abbrev typed : ℕ → ℕ
typed c = cond (c == 47) 10 (cond (c == 32) 9 c)

abbrev pub text : String → List ℕ
text s = map typed (codes s)

-- calls with rows that are just long enough
abbrev pub loads : String → Call
loads s = load (text s)

abbrev pub steps : ℕ → Call
steps n = step n 1024 16

abbrev pub adopts : String → Call
adopts s = adopt (text s) 1024 16

-- what a new session with the standard stages answers
abbrev pub answers : List Call → List Answer
answers cs = map (λ h. h.answer) (heard standard new cs)

-- the text of its program after the calls
abbrev pub written : List Call → List ℕ
written cs = write (book_after standard new cs).program

-- refused with a number, at a place, by a layer
abbrev pub refusals : List Answer → List (ℕ × ℕ × Layer)
refusals [] = []
refusals (Loaded n ∷ more) = refusals more
refusals (Ran n r ∷ more) = refusals more
refusals (Is t ∷ more) = refusals more
refusals (Written n ∷ more) = refusals more
refusals (Refused f ∷ more) = (session_number f, session_place f, session_layer f) ∷ refusals more

abbrev swell : Call
swell = loads "card 4/def lo/byte 0/def hi/byte 1/field swell 0/out/ref swell/"

-- the card that was read backwards
abbrev SwellLowered : Type 0
SwellLowered =
    (answers (swell ∷ steps 1 ∷ []) ≡ Loaded 8 ∷ Ran 18 1 ∷ [])
    × (written (swell ∷ steps 1 ∷ [])
    ≡ text "tree/let hi/byte 0/let lo/byte 1/let lo'1/byte 0/let hi'1/byte 1/let swell/add/mul/ref hi/num 256/ref lo/put/ref swell/end/")

-- then flattened: 11 steps
abbrev SwellFlattened : Type 0
SwellFlattened =
    answers (swell ∷ steps 1 ∷ steps 2 ∷ tell 0 ∷ [])
    ≡ Loaded 8 ∷ Ran 18 1 ∷ Ran 22 0 ∷ Is (record { kind = Flat; number = 11; origin = None; reach = None }) ∷ []

-- two fields: private names are told apart by group, not by spelling
abbrev two_fields : Call
two_fields = loads "card 2/field a 0/field b 2/"

abbrev TwoFields : Type 0
TwoFields =
    (answers (two_fields ∷ steps 1 ∷ []) ≡ Loaded 3 ∷ Ran 22 1 ∷ [])
    × (written (two_fields ∷ steps 1 ∷ [])
    ≡ text "tree/let hi/byte 0/let lo/byte 1/let hi'1/byte 2/let lo'1/byte 3/let a/add/mul/ref hi/num 256/ref lo/let b/add/mul/ref hi'1/num 256/ref lo'1/end/")

-- the empty text
abbrev EmptyText : Type 0
EmptyText = refusals (answers (loads "" ∷ [])) ≡ (4, 0, Reading) ∷ []

-- a repair of two rounds
abbrev shadows : Call
shadows = loads "tree/let x/num 1/let x/num 2/let x/num 3/put/ref x/end/"

abbrev ThreeLets : Type 0
ThreeLets =
    (answers (shadows ∷ steps 2 ∷ []) ≡ Loaded 10 ∷ Ran 12 2 ∷ [])
    × (written (shadows ∷ steps 2 ∷ []) ≡ text "flat 7/slot x'1/set x'1/num 1/slot x'2/set x'2/num 2/slot x/set x/num 3/emit/ref x/")

-- an outer name keeps its spelling
abbrev tide : Call
tide = loads "card 2/def datum/num 5/out/level/ref datum/"

abbrev DatumKept : Type 0
DatumKept = written (tide ∷ steps 1 ∷ []) ≡ text "tree/let datum'1/num 5/put/add/ref datum'1/ref datum/end/"

-- no lines
abbrev EmptyCard : Type 0
EmptyCard =
    (answers (loads "card 0/" ∷ steps 1 ∷ []) ≡ Loaded 1 ∷ Ran 2 0 ∷ [])
    × (written (loads "card 0/" ∷ steps 1 ∷ []) ≡ text "tree/end/")

-- a draft that copies from a node without a name, one that spells a class in two ways, and two that no respelling serves
abbrev RefusedDrafts : Type 0
RefusedDrafts =
    refusals (answers (loads "tree/let a/num 1/put/ref a/end/" ∷ adopts "tree/let a s2/num 1/end/" ∷ adopts "tree/let a s1/num 1/put/ref b s4/end/" ∷ adopts "flat 1/emit/ref a s4/" ∷ adopts "tree/let a o/num 1/end/" ∷ []))
    ≡ (9, 1, Repairing) ∷ (10, 4, Repairing) ∷ (12, 2, Repairing) ∷ (11, 1, Repairing) ∷ []

-- two captors of one stem: the one with the lower name has the first mark
abbrev TwoCaptors : Type 0
TwoCaptors =
    written (loads "tree/let a/num 1/put/ref a/put/ref a/end/" ∷ adopts "tree/let a s1/num 1/put/bind a p0/num 2/ref a s4/put/bind a p1/num 3/ref a s6/end/" ∷ [])
    ≡ text "tree/let a/num 1/put/bind a'1/num 2/ref a/put/bind a'2/num 3/ref a/end/"

abbrev pub Worked : Type 0
Worked = SwellLowered × SwellFlattened × TwoFields × EmptyText × ThreeLets × DatumKept × EmptyCard × RefusedDrafts × TwoCaptors
