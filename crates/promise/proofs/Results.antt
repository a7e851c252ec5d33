-- What an answer says that is accepted.
use Rattle.std.proofs.Common.{◌≡◌, ℕ, Ok, Err, Result, refl, ap, arith}
use Rattle.model.specs.Lists.{and_then, raised}

pub ok_inj : {A E : Type 0} {a b : A} → ◌≡◌ {A = Result A E} (Ok a) (Ok b) → a ≡ b
ok_inj e = cc

pub err_ok : {A E : Type 0} {a : A} {f : E} → ◌≡◌ {A = Result A E} (Err f) (Ok a) → ⊥
err_ok e = let z : ◌≡◌ {A = ℕ} 0 1 = cc in omega arith

pub then_ok : {A B E : Type 0} (r : Result A E) (f : A → Result B E) (x : B) → and_then r f ≡ Ok x → (a : A) × (r ≡ Ok a) × (f a ≡ Ok x)
then_ok (Ok a) f x h = (a, refl, h)
then_ok (Err e) f x h = absurd (err_ok h)

pub raised_ok : {A E F : Type 0} (g : E → F) (r : Result A E) (a : A) → raised g r ≡ Ok a → r ≡ Ok a
raised_ok g (Ok x) a h = ap Ok (ok_inj h)
raised_ok g (Err e) a h = absurd (err_ok h)
