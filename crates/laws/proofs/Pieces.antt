-- Cutting a list at a separator and putting it together again.
use Rattle.std.proofs.Common.{◌≡◌, ℕ, ◌<◌, ◌≤◌, Bool, true, false, ◌&&◌, eqb, leb, List, [], ◌∷◌, ◌++◌, Some, None, Option, sym, refl, ap, ◌∙◌, append_assoc, arith}
use Rattle.std.specs.List.{AllByRecursion as All}
use Rattle.std.proofs.lemmas.Bool.{cond-true, cond-false, and_parts, leb-true, eq-eqb, ne_eqb, eqb-true}
use Rattle.std.proofs.lemmas.Option.{none-some}
use Rattle.model.specs.Lists.{if_some}
use Rattle.model.specs.Fields.{joins, pieces}
use Rattle.model.specs.Reading.{TextLine, longer, begins, lines}

-- no byte of the list is s
abbrev pub Free : ℕ → List ℕ → Type 0
Free s bs = All (λ b. b ≡ s → ⊥) bs

abbrev pub Over : ℕ → List ℕ → Type 0
Over m bs = All (λ b. m ≤ b) bs

abbrev pub over : ℕ → List ℕ → Bool
over m [] = true
over m (b ∷ bs) = leb m b && over m bs

pub over_all : (m : ℕ) (bs : List ℕ) → over m bs ≡ true → Over m bs
over_all m [] h = tt
over_all m (b ∷ bs) h = let p = and_parts (leb m b) (over m bs) h in (leb-true m b p.0, over_all m bs p.1)

pub over_less : (m n : ℕ) (bs : List ℕ) → m ≤ n → Over n bs → Over m bs
over_less m n [] l h = tt
over_less m n (b ∷ bs) l h = let k : n ≤ b = h.0 in (omega arith, over_less m n bs l h.1)

pub free_over : (m s : ℕ) (bs : List ℕ) → s < m → Over m bs → Free s bs
free_over m s [] l h = tt
free_over m s (b ∷ bs) l h = let k : m ≤ b = h.0 in (λ e. omega arith, free_over m s bs l h.1)

-- each after a separator
abbrev pub after_each : ℕ → List (List ℕ) → List ℕ
after_each s [] = []
after_each s (f ∷ fs) = s ∷ (f ++ after_each s fs)

abbrev pub AllFree : ℕ → List (List ℕ) → Type 0
AllFree s fs = All (Free s) fs

pub after_each_append : (s : ℕ) (fs gs : List (List ℕ)) → after_each s (fs ++ gs) ≡ after_each s fs ++ after_each s gs
after_each_append s [] gs = refl
after_each_append s (f ∷ fs) gs =
    ap (λ (l : List ℕ). s ∷ (f ++ l)) (after_each_append s fs gs) ∙ ap (λ (l : List ℕ). s ∷ l) (sym (append_assoc f (after_each s fs) (after_each s gs)))

pub same : (s : ℕ) → eqb s s ≡ true
same s = eq-eqb s s refl

pub pieces_free : (s : ℕ) (f : List ℕ) → Free s f → pieces s f ≡ f ∷ []
pieces_free s [] h = refl
pieces_free s (b ∷ bs) h = ap (joins s b) (pieces_free s bs h.1) ∙ cond-false (eqb b s) _ _ (ne_eqb b s h.0)

joins_at : (s : ℕ) (ps : List (List ℕ)) (p : List ℕ) (qs : List (List ℕ)) → ps ≡ p ∷ qs → joins s s ps ≡ [] ∷ ps
joins_at s ps p qs e = ap (joins s s) e ∙ cond-true (eqb s s) _ _ (same s) ∙ ap (λ (l : List (List ℕ)). [] ∷ l) (sym e)

-- what is cut at the separators comes back
pub pieces_joined : (s : ℕ) (f : List ℕ) (fs : List (List ℕ)) → Free s f → AllFree s fs → pieces s (f ++ after_each s fs) ≡ f ∷ fs
pieces_joined s [] [] h k = refl
pieces_joined s [] (g ∷ gs) h k = let e = pieces_joined s g gs k.0 k.1 in joins_at s _ g gs e ∙ ap (λ (l : List (List ℕ)). [] ∷ l) e
pieces_joined s (b ∷ bs) fs h k = ap (joins s b) (pieces_joined s bs fs h.1 k) ∙ cond-false (eqb b s) _ _ (ne_eqb b s h.0)

-- and the pieces put together are what was cut
pub record Cut (s : ℕ) (bs : List ℕ) : Type 0 where
  pub first : List ℕ
  pub more : List (List ℕ)
  pub are : pieces s bs ≡ first ∷ more
  pub together : bs ≡ first ++ after_each s more

cut_more : (s b : ℕ) (bs : List ℕ) → Cut s bs → (t : Bool) → eqb b s ≡ t → Cut s (b ∷ bs)
cut_more s b bs c true e =
    record {
      first = [];
      more = c.first ∷ c.more;
      are = ap (joins s b) c.are ∙ cond-true (eqb b s) _ _ e;
      together = ap (λ (l : List ℕ). b ∷ l) c.together ∙ ap (λ (x : ℕ). x ∷ (c.first ++ after_each s c.more)) (eqb-true b s e);
    }
cut_more s b bs c false e =
    record {
      first = b ∷ c.first;
      more = c.more;
      are = ap (joins s b) c.are ∙ cond-false (eqb b s) _ _ e;
      together = ap (λ (l : List ℕ). b ∷ l) c.together;
    }

pub cut : (s : ℕ) (bs : List ℕ) → Cut s bs
cut s [] = record { first = []; more = []; are = refl; together = refl }
cut s (b ∷ bs) = cut_more s b bs (cut s bs) (eqb b s) refl

-- Lines

abbrev pub line_of : List ℕ → TextLine
line_of bs = record { bytes = bs; ended = true }

pub lines_ended : (bs rest : List ℕ) → Free 10 bs → lines (bs ++ (10 ∷ rest)) ≡ line_of bs ∷ lines rest
lines_ended [] rest h = refl
lines_ended (b ∷ bs) rest h = ap (begins b) (lines_ended bs rest h.1) ∙ cond-false (eqb b 10) _ _ (ne_eqb b 10 h.0)

abbrev pub end_of : Bool → List ℕ
end_of true = 10 ∷ []
end_of false = []

abbrev pub unlines : List TextLine → List ℕ
unlines [] = []
unlines (l ∷ ls) = l.bytes ++ (end_of l.ended ++ unlines ls)

unlines_longer : (b : ℕ) (ls : List TextLine) → unlines (longer b ls) ≡ b ∷ unlines ls
unlines_longer b [] = refl
unlines_longer b (l ∷ ls) = refl

unlines_begins : (b : ℕ) (ls : List TextLine) (t : Bool) → eqb b 10 ≡ t → unlines (begins b ls) ≡ b ∷ unlines ls
unlines_begins b ls true e = ap unlines (cond-true (eqb b 10) _ _ e) ∙ ap (λ (x : ℕ). x ∷ unlines ls) (sym (eqb-true b 10 e))
unlines_begins b ls false e = ap unlines (cond-false (eqb b 10) _ _ e) ∙ unlines_longer b ls

-- the lines of a text, put together, are the text
pub unlines_lines : (t : List ℕ) → unlines (lines t) ≡ t
unlines_lines [] = refl
unlines_lines (b ∷ bs) = unlines_begins b (lines bs) (eqb b 10) refl ∙ ap (λ (l : List ℕ). b ∷ l) (unlines_lines bs)

-- Options

pub record Went {A B : Type 0} (o : Option A) (f : A → Option B) (y : B) : Type 0 where
  pub value : A
  pub was : o ≡ Some value
  pub gave : f value ≡ Some y

pub went : {A B : Type 0} (o : Option A) (f : A → Option B) (y : B) → if_some o f ≡ Some y → Went o f y
went None f y e = absurd (none-some y e)
went (Some x) f y e = record { value = x; was = refl; gave = e }
