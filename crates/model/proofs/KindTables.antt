-- A fact of every kind, by one computed test over the table.
use Rattle.std.proofs.Common.{◌≡◌, ℕ, zero, suc, ◌-◌, Bool, true, false, cond, ◌&&◌, List, [], ◌∷◌, get_or, sym, refl, ap, ◌∙◌}
use Rattle.std.proofs.lemmas.Bool.{eqb-true, and_parts, false≢true}
use Rattle.model.specs.declared.kinds.Kind.{Kind}
use Rattle.model.specs.declared.kinds.Kind.TheVariants.{Card, Tree, Flat, Field, Def, Out, Let, Put, End, Slot, Label, Set, Goto, Skip, Emit, Num, Ref, Byte, Add, Mul, Mean, If, Bind, First, Level}
use Rattle.model.specs.Kinds.{kinds, kind_number, is}

pub kind_back : (k : Kind) → get_or kinds (kind_number k - 1) Card ≡ k
kind_back Card = refl
kind_back Tree = refl
kind_back Flat = refl
kind_back Field = refl
kind_back Def = refl
kind_back Out = refl
kind_back Let = refl
kind_back Put = refl
kind_back End = refl
kind_back Slot = refl
kind_back Label = refl
kind_back Set = refl
kind_back Goto = refl
kind_back Skip = refl
kind_back Emit = refl
kind_back Num = refl
kind_back Ref = refl
kind_back Byte = refl
kind_back Add = refl
kind_back Mul = refl
kind_back Mean = refl
kind_back If = refl
kind_back Bind = refl
kind_back First = refl
kind_back Level = refl

pub is_same : (k l : Kind) → is k l ≡ true → k ≡ l
is_same k l h = sym (kind_back k) ∙ (ap (λ n. get_or kinds (n - 1) Card) (eqb-true (kind_number k) (kind_number l) h) ∙ kind_back l)

abbrev pub all : {A : Type 0} → (A → Bool) → List A → Bool
all t [] = true
all t (x ∷ xs) = t x && all t xs

all_at : {A : Type 0} (t : A → Bool) (xs : List A) (d : A) (i : ℕ) → all t xs ≡ true → t d ≡ true → t (get_or xs i d) ≡ true
all_at t [] d i h k = k
all_at t (x ∷ xs) d zero h k = (and_parts (t x) (all t xs) h).0
all_at t (x ∷ xs) d (suc i) h k = all_at t xs d i (and_parts (t x) (all t xs) h).1 k

-- a test that every kind passes
pub every_kind : (t : Kind → Bool) → all t kinds ≡ true → (k : Kind) → t k ≡ true
every_kind t h k = rw (kind_back k) at (all_at t kinds Card (kind_number k - 1) h (and_parts (t Card) _ h).0)

abbrev pub imp : Bool → Bool → Bool
imp a b = cond a b true

pub imp_of : (a b : Bool) → imp a b ≡ true → a ≡ true → b ≡ true
imp_of true b h e = h
imp_of false b h e = absurd (false≢true e)

-- an implication by table
pub by_table : (a b : Kind → Bool) → all (λ k. imp (a k) (b k)) kinds ≡ true → (k : Kind) → a k ≡ true → b k ≡ true
by_table a b h k e = imp_of (a k) (b k) (every_kind (λ l. imp (a l) (b l)) h k) e
