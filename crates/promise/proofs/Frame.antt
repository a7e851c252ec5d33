-- The repair over a frame: roles, classes and visible orders by number, over any stems and classes, where only names vary.
use Rattle.std.proofs.Common.{◌≡◌, ℕ, zero, suc, ◌+◌, ◌≤◌, Bool, true, false, cond, not, ◌&&◌, ◌||◌, eqb, List, [], ◌∷◌, Some, None, Decides, Option}
use Rattle.std.specs.List.{AllByRecursion as All}

-- some number below n passes
unfoldable pub any : (ℕ → Bool) → ℕ → Bool
any p zero = false
any p (suc n) = p n || any p n

-- how many numbers below n pass
unfoldable pub count : (ℕ → Bool) → ℕ → ℕ
count p zero = 0
count p (suc n) = cond (p n) (count p n + 1) (count p n)

-- the first member that passes
unfoldable pub first : (ℕ → Bool) → List ℕ → Option ℕ
first p [] = None
first p (x ∷ xs) = cond (p x) (Some x) (first p xs)

-- the smallest number from m on that fails, after a look at f numbers at most
unfoldable pub least : (ℕ → Bool) → ℕ → ℕ → ℕ
least p zero m = m
least p (suc f) m = cond (p m) (least p f (m + 1)) m

abbrev pub within : (ℕ → Bool) → Option ℕ → Bool
within p None = false
within p (Some d) = p d

pub data Role : Type 0 where
  plain declares refers : Role

abbrev pub is_named : Role → Bool
is_named plain = false
is_named declares = true
is_named refers = true

abbrev pub is_declares : Role → Bool
is_declares plain = false
is_declares declares = true
is_declares refers = false

pub record Name (S : Type 0) : Type 0 where
  pub stem : S
  pub mark : ℕ

-- the names of the entries, by number
abbrev pub Names : Type 0 → Type 0
Names S = ℕ → Name S

-- all of a draft but the names: what no repair changes
pub record Frame (S C : Type 0) : Type 0 where
  pub same_stem : S → S → Bool
  pub same_class : C → C → Bool
  pub size : ℕ
  pub role : ℕ → Role
  pub class_of : ℕ → C
  pub visible : ℕ → List ℕ

pub record Lawful {S C : Type 0} (F : Frame S C) : Type 0 where
  pub stems : (a b : S) → Decides (F.same_stem a b) (a ≡ b)
  pub classes : (a b : C) → Decides (F.same_class a b) (a ≡ b)
  pub past : (i : ℕ) → F.size ≤ i → F.role i ≡ plain
  pub seen : (i : ℕ) → All (λ (d : ℕ). F.role d ≡ declares) (F.visible i)
  pub itself : (i : ℕ) → F.role i ≡ declares → F.visible i ≡ i ∷ []
  pub unseen : (i : ℕ) → F.role i ≡ plain → F.visible i ≡ []

module _ {S C : Type 0} (F : Frame S C) where
  abbrev pub named : ℕ → Bool
  named i = is_named (F.role i)

  -- entries of one class
  abbrev pub peer : ℕ → ℕ → Bool
  peer i j = F.same_class (F.class_of i) (F.class_of j)

  abbrev pub alike : Name S → Name S → Bool
  alike a b = F.same_stem a.stem b.stem && eqb a.mark b.mark

  -- the first declaration in sight that is spelled alike
  unfoldable pub reach : Names S → ℕ → Option ℕ
  reach nm i = first (λ (d : ℕ). alike (nm d) (nm i)) (F.visible i)

  -- the first declaration in sight of the entry's own class
  unfoldable pub home : ℕ → Option ℕ
  home i = first (λ (d : ℕ). peer d i) (F.visible i)

  -- entry i is of another class than entry e and reaches a declaration of e's class
  unfoldable pub captured : Names S → ℕ → ℕ → Bool
  captured nm e i = within (λ (d : ℕ). peer d e && not (peer i e)) (reach nm i)

  -- the class of entry e is a captor
  unfoldable pub captor : Names S → ℕ → Bool
  captor nm e = any (captured nm e) F.size

  -- e is the lowest entry of its class
  unfoldable pub leads : ℕ → Bool
  leads e = named e && not (any (λ (j : ℕ). named j && peer j e) e)

  -- the class of e has a declaration
  unfoldable pub declared : ℕ → Bool
  declared e = any (λ (d : ℕ). is_declares (F.role d) && peer d e) F.size

  -- how many classes have a declaration
  abbrev pub class_count : ℕ
  class_count = count (λ (e : ℕ). leads e && declared e) F.size

  -- some name has this stem and mark
  unfoldable pub taken : Names S → S → ℕ → Bool
  taken nm s m = any (λ (j : ℕ). named j && alike (nm j) (record { stem = s; mark = m })) F.size

  -- the smallest mark from 1 that no name has with this stem
  unfoldable pub fresh : Names S → S → ℕ
  fresh nm s = least (taken nm s) F.size 1

  -- every name of e's class gets a fresh spelling
  unfoldable pub respell : Names S → ℕ → Names S
  respell nm e j = cond (named j && peer j e) (record { stem = (nm e).stem; mark = fresh nm (nm e).stem }) (nm j)

  -- e is the lowest entry of a captor
  abbrev pub turn : Names S → ℕ → Bool
  turn nm e = leads e && captor nm e

  -- the captors of nm whose lowest entry is below n have had their turn, in this order
  unfoldable pub turns : Names S → ℕ → Names S
  turns nm zero = nm
  turns nm (suc n) = cond (turn nm n) (respell (turns nm n) n) (turns nm n)

  abbrev pub round : Names S → Names S
  round nm = turns nm F.size

  -- some class is a captor
  abbrev pub unsettled : Names S → Bool
  unsettled nm = any (turn nm) F.size

  -- after n rounds, and not before, no class is a captor
  abbrev pub Settles : Names S → ℕ → Type 0
  Settles nm zero = unsettled nm ≡ false
  Settles nm (suc n) = (unsettled nm ≡ true) × Settles (round nm) n

  -- names of one class have one spelling
  abbrev pub OneSpelling : Names S → Type 0
  OneSpelling nm = (i j : ℕ) → named i ≡ true → named j ≡ true → F.class_of i ≡ F.class_of j → nm i ≡ nm j

  -- no other class has the spelling of e's class
  abbrev pub Alone : Names S → ℕ → Type 0
  Alone nm e = (i j : ℕ) → named i ≡ true → named j ≡ true → F.class_of i ≡ F.class_of e → nm j ≡ nm i → F.class_of j ≡ F.class_of e

-- a name of another class than e reaches a declaration of e's class
pub record Capture {S C : Type 0} (F : Frame S C) (nm : Names S) (e : ℕ) : Type 0 where
  pub by : ℕ
  pub at : ℕ
  pub reaches : reach F nm by ≡ Some at
  pub its : F.class_of at ≡ F.class_of e
  pub other : F.class_of by ≡ F.class_of e → ⊥
