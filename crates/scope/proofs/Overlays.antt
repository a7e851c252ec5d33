-- A row over which a list is laid, one place at a time.
use Rattle.std.proofs.Common.{◌≡◌, ℕ, ◌+◌, ◌<◌, min, List, [], ◌∷◌, ◌++◌, length, get_or, take, drop, set, sym, ap, ◌∙◌, ap₂, append_assoc, append-nil, length-take, arith}
use Rattle.std.proofs.lemmas.List.{set_at, take_more, take_min, drop_more, drop_min, drop_all, length-take-le}
use Rattle.scope.specs.Finding.{overlaid}

pub overlay_more : {A : Type 0} (xs row so_far : List A) (i : ℕ) (d x : A) → i < length xs → i < length row → so_far ≡ take i xs ++ drop i row → x ≡ get_or xs i d → set so_far i x ≡ take (i + 1) xs ++ drop (i + 1) row
overlay_more xs row so_far i d x l m e h =
    ap (λ ys. set ys i x) (e ∙ ap (λ ys. take i xs ++ ys) (drop_more row i d m))
    ∙ (set_at (take i xs) (get_or row i d) (drop (i + 1) row) x i (length-take-le i xs (omega arith))
    ∙ (ap (λ y. take i xs ++ y ∷ drop (i + 1) row) h
    ∙ (sym (append_assoc (take i xs) (get_or xs i d ∷ []) (drop (i + 1) row)) ∙ ap (λ ys. ys ++ drop (i + 1) row) (sym (take_more xs i d l)))))

-- at the end of the part in which both have a place
pub overlay_all : {A : Type 0} (xs row so_far : List A) (i n : ℕ) → n ≡ min (length xs) (length row) → i ≡ n → so_far ≡ take i xs ++ drop i (take n row) → so_far ++ drop n row ≡ overlaid xs row
overlay_all xs row so_far i n m l e =
    let fronts : take n xs ≡ take (length row) xs = (let z : n ≡ min (length row) (length xs) = omega arith in ap (λ j. take j xs) z ∙ take_min (length row) xs) in
    let backs : drop n row ≡ drop (length xs) row = ap (λ j. drop j row) m ∙ drop_min (length xs) row in
    let all : so_far ≡ take n xs =
    e
    ∙ (ap (λ j. take j xs ++ drop j (take n row)) l
    ∙ (ap (λ ys. take n xs ++ ys) (drop_all n (take n row) (let z = length-take n row in omega arith)) ∙ append-nil (take n xs)))
    in
    ap₂ (λ ys zs. ys ++ zs) (all ∙ fronts) backs
