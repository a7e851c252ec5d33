-- Who leads a class, and whom it captures.
use Rattle.std.proofs.Common.{◌≡◌, ℕ, zero, suc, ◌+◌, ◌<◌, Bool, true, false, cond, not, ◌&&◌, ◌||◌, List, [], ◌∷◌, length, get_or, take, is_some, Some, None, Option, sym, refl, ap, ◌∙◌, arith}
use Rattle.std.specs.List.{list_any, find, range_with_len}
use Rattle.std.proofs.lemmas.List.{get_or-take, length-take-le}
use Rattle.std.specs.Option.{option_map}
use Rattle.std.proofs.lemmas.Iterator.Adapters.{option_map_id}
use Rattle.model.specs.Lists.{any, first_with, is_none, counting, places}
use Rattle.model.specs.declared.classes.Class.{Class}
use Rattle.model.specs.Classes.{together}
use Rattle.model.specs.Repair.{leads, captures}
use Rattle.promise.proofs.Classes.{none_is}
use Rattle.repair.specs.Rounds.{captured, lowest_captive}
use Rattle.repair.proofs.Firsts.{any_places, none_found}

-- one passes exactly if there is a first that does
pub any_first : {A : Type 0} (t : A → Bool) (xs : List A) → any t xs ≡ not (is_none (first_with t xs))
any_first t [] = refl
any_first t (x ∷ xs) = go (t x) (any_first t xs)
  where
    go : (b : Bool) → any t xs ≡ not (is_none (first_with t xs)) → (b || any t xs) ≡ not (is_none (cond b (Some x) (first_with t xs)))
    go true h = refl
    go false h = h

some_not_none : {A : Type 0} (o : Option A) → is_some o ≡ not (is_none o)
some_not_none None = refl
some_not_none (Some x) = refl

-- there is a lowest captive exactly if there is one
captures_some : (cs rs : List (Option Class)) (captor : ℕ) (o : Option ℕ) → o ≡ lowest_captive cs rs captor → is_some o ≡ captures cs rs captor
captures_some cs rs captor o e = some_not_none o ∙ (ap (λ (f : Option ℕ). not (is_none f)) e ∙ sym (any_first (captured cs rs captor) (places cs)))

pub captor_so : (cs rs : List (Option Class)) (captor : ℕ) (o : Option ℕ) (r : Bool) → r ≡ is_some o → o ≡ lowest_captive cs rs captor → leads cs captor ≡ true → r ≡ (leads cs captor && captures cs rs captor)
captor_so cs rs captor o r is e h = (is ∙ captures_some cs rs captor o e) ∙ ap (λ (b : Bool). b && captures cs rs captor) (sym h)

-- whoever is of no class catches nobody
pub catches_nobody : (cs rs : List (Option Class)) (captor : ℕ) → is_some (get_or cs captor None) ≡ false → captures cs rs captor ≡ false
catches_nobody cs rs captor e = any_first (captured cs rs captor) (places cs) ∙ ap (λ (f : Option ℕ). not (is_none f)) (none_found (captured cs rs captor) 0 (length cs) (λ i a b. ap (λ (c : Option Class). together c (get_or rs i None) && not (together c (get_or cs i None))) (none_is (get_or cs captor None) e)))

-- no name before it is of the class
pub leads_is : (cs : List (Option Class)) (e : ℕ) → e < length cs → not (list_any (together (get_or cs e None)) (take e cs)) ≡ leads cs e
leads_is cs e l =
    let class = get_or cs e None in
    let long : length (take e cs) ≡ e = length-take-le e cs (omega arith) in
    ap not
    (any_places (together class) (λ j. together class (get_or cs j None)) (take e cs) None 0 (λ k i h s. ap (together class) (get_or-take e cs k None (omega arith) ∙ ap (λ (j : ℕ). get_or cs j None) (omega arith)))
    ∙ ap (λ (n : ℕ). any (λ j. together class (get_or cs j None)) (counting 0 n)) long)

-- the lowest number that passes
numbers : (a n : ℕ) → range_with_len a n ≡ counting a n
numbers a zero = refl
numbers a (suc n) = ap (◌∷◌ a) (numbers (a + 1) n)

first_is : (t : ℕ → Bool) (xs : List ℕ) → find t xs ≡ first_with t xs
first_is t [] = refl
first_is t (x ∷ xs) = ap (λ (o : Option ℕ). cond (t x) (Some x) o) (first_is t xs)

pub lowest_found : (t : ℕ → Bool) (n : ℕ) (o : Option ℕ) → option_map (λ x. x) o ≡ find t (range_with_len 0 n) → o ≡ first_with t (counting 0 n)
lowest_found t n o e = sym (option_map_id o) ∙ (e ∙ (first_is t (range_with_len 0 n) ∙ ap (first_with t) (numbers 0 n)))
