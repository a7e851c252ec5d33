-- What holds of each row of the table of kinds, by one computed test.
use Rattle.std.proofs.Common.{◌≡◌, ℕ, ◌+◌, ◌<◌, ◌≤◌, Bool, true, false, cond, ltb, leb, List, [], ◌∷◌, length, Some, None, Option, sym, refl, ap, ◌∙◌}
use Rattle.std.specs.Str.{bytes_eq}
use Rattle.std.proofs.lemmas.Slice.Eq.{bytes_eq-Decides}
use Rattle.std.proofs.lemmas.Bool.{leb-true, ltb-true, false≢true}
use Rattle.std.proofs.lemmas.Option.{none-some}
use Rattle.model.specs.declared.kinds.Kind.{Kind}
use Rattle.model.specs.Lists.{first_with}
use Rattle.model.specs.Kinds.{row, kinds, has_name, is}
use Rattle.model.specs.Fields.{Form, plain, draft, kind_of}
use Rattle.model.proofs.KindTables.{every_kind, is_same}
use Rattle.laws.proofs.Pieces.{Over, over, over_all}

-- how many bytes a number of at most `most` takes, with the tab before it
abbrev pub number_width : Option ℕ → ℕ
number_width None = 0
number_width (Some most) = 1 + cond (ltb most 1000) 3 (cond (ltb most 10000) 4 10)

abbrev pub name_width : Form → Bool → ℕ
name_width plain true = 15
name_width plain false = 0
name_width draft true = 22
name_width draft false = 0

-- how long a line of the form can be
abbrev pub line_width : Form → ℕ
line_width plain = 25
line_width draft = 32

abbrev widest : Form → Kind → ℕ
widest form k = length (row k).word + (name_width form (has_name k) + (number_width (row k).most + 1))

-- Each test is passed by every kind

abbrev most_below : Option ℕ → Bool
most_below None = true
most_below (Some most) = ltb most 10000000000

abbrev finds : Kind → Option Kind → Bool
finds k None = false
finds k (Some l) = is l k

pub word_over : (k : Kind) → Over 48 (row k).word
word_over k = over_all 48 (row k).word (every_kind (λ l. over 48 (row l).word) refl k)

-- the largest number of a kind has at most ten digits
abbrev pub SmallMost : Option ℕ → Type 0
SmallMost None = Unit {0}
SmallMost (Some most) = most < 10000000000

small_most : (o : Option ℕ) → most_below o ≡ true → SmallMost o
small_most None h = tt
small_most (Some most) h = ltb-true most 10000000000 h

pub most_small : (k : Kind) → SmallMost (row k).most
most_small k = small_most (row k).most (every_kind (λ l. most_below (row l).most) refl k)

pub line_fits : (form : Form) (k : Kind) → widest form k ≤ line_width form
line_fits plain k = leb-true (widest plain k) 25 (every_kind (λ l. leb (widest plain l) 25) refl k)
line_fits draft k = leb-true (widest draft k) 32 (every_kind (λ l. leb (widest draft l) 32) refl k)

found_kind : (k : Kind) (o : Option Kind) → finds k o ≡ true → o ≡ Some k
found_kind k None h = absurd (false≢true h)
found_kind k (Some l) h = ap Some (is_same l k h)

-- the kind of a kind's word
pub word_read : (k : Kind) → kind_of (row k).word ≡ Some k
unfolding kind_of
word_read k = found_kind k (kind_of (row k).word) (every_kind (λ l. finds l (kind_of (row l).word)) refl k)

found_at : (t : Kind → Bool) (j k : Kind) (rest : Option Kind) (b : Bool) → t j ≡ b → (rest ≡ Some k → t k ≡ true) → cond b (Some j) rest ≡ Some k → t k ≡ true
found_at t j k rest true e more h = let w : j ≡ k = cc in ap t (sym w) ∙ e
found_at t j k rest false e more h = more h

found : (t : Kind → Bool) (ks : List Kind) (k : Kind) → first_with t ks ≡ Some k → t k ≡ true
found t [] k h = absurd (none-some k h)
found t (j ∷ js) k h = found_at t j k (first_with t js) (t j) refl (found t js k) h

-- the word of a kind that is found
pub word_is : (w : List ℕ) (k : Kind) → kind_of w ≡ Some k → w ≡ (row k).word
unfolding kind_of
word_is w k h = (bytes_eq-Decides w (row k).word).0 (found (λ j. bytes_eq w (row j).word) kinds k h)
