-- A row that is gone through from its back, each entry with its place.
use Rattle.std.proofs.Common.{◌≡◌, ℕ, ◌+◌, ◌^◌, ◌<◌, List, [], ◌∷◌, ◌++◌, length, get_or, sym, ap, ◌∙◌, append_assoc, arith, length-append}
use Rattle.std.proofs.Math.Seq.{get_or-append_seam}
use Rattle.std.specs.List.{push}
use Rattle.std.specs.Iterator.Adapters.{rev_source, enumerate_source, enumerate_count}
use Rattle.std.specs.Slice.Iter.{iter_rest}
use Rattle.std.specs.declared.iter.Rev.{Rev}
use Rattle.std.specs.declared.iter.Enumerate.{Enumerate}
use Rattle.std.specs.declared.slice.Iter.{Iter}

-- what is left to go through
abbrev pub left : {A : Type 0} → Rev (Enumerate (Iter A)) → List A
left s = iter_rest (enumerate_source (rev_source s))

-- it is the front of the row, and numbered from 0
pub record Back {A : Type 0} (xs : List A) (s : Rev (Enumerate (Iter A))) : Type 0 where
  pub counted : enumerate_count (rev_source s) ≡ 0
  pub gone : List A
  pub whole : xs ≡ left s ++ gone

-- one step, as the iterator has it
abbrev pub Steps : {A : Type 0} → Rev (Enumerate (Iter A)) → ℕ → A → Rev (Enumerate (Iter A)) → Type 0
Steps s up x t =
    (enumerate_count (rev_source t) ≡ enumerate_count (rev_source s))
    × ((left s ≡ push (left t) x) × (up ≡ enumerate_count (rev_source s) + length (left t)) × (up + 1 < 2 ^ 64))

module _ {A : Type 0} (xs : List A) (s t : Rev (Enumerate (Iter A))) (up : ℕ) (x : A) (b : Back xs s) (step : Steps s up x t) where
  pub up_left : up ≡ length (left t)
  up_left = let z = b.counted in let e = step.1.1 in omega arith

  pub one_more : length (left s) ≡ up + 1
  one_more = let e = ap (λ (ys : List A). length ys) step.1.0 in let l = length-append (left t) (x ∷ []) in let z = up_left in omega arith

  before : xs ≡ left t ++ x ∷ b.gone
  before = b.whole ∙ (ap (λ ys. ys ++ b.gone) step.1.0 ∙ append_assoc (left t) (x ∷ []) b.gone)

  pub there : (d : A) → x ≡ get_or xs up d
  there d = sym (ap (λ (ys : List A). get_or ys up d) before ∙ (ap (λ n. get_or (left t ++ x ∷ b.gone) n d) up_left ∙ get_or-append_seam (left t) x b.gone d))

  pub back : Back xs t
  back = record { counted = step.0 ∙ b.counted; gone = x ∷ b.gone; whole = before }
