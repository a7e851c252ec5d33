-- Classes: equal where the tests say so, and outer or inner where they are names; a declaration is a name.
use Rattle.std.proofs.Common.{◌≡◌, Bool, true, false, is_some, Some, None, Decides, Option, sym, refl, ap, subst}
use Rattle.std.proofs.lemmas.Bool.{false≢true, true≢false, eqb-true, eq-eqb}
use Rattle.model.specs.declared.kinds.Kind.{Kind}
use Rattle.model.specs.Kinds.{has_name, declares}
use Rattle.model.specs.declared.classes.Class.{Class}
use Rattle.model.specs.declared.classes.Class.TheVariants.{OfDeclaration, OfOuter, OfGroup}
use Rattle.model.specs.Classes.{same_class, together, is_outer, is_inner}
use Rattle.model.proofs.KindTables.{by_table}
use Rattle.laws.proofs.NamesRead.{alike_same, same_alike}

same_class_at : (a : Class) → same_class a a ≡ true
same_class_at (OfDeclaration d) = eq-eqb d d refl
same_class_at (OfOuter a) = same_alike a a refl
same_class_at (OfGroup g) = eq-eqb g g refl

pub same_class_is : (a b : Class) → same_class a b ≡ true → a ≡ b
same_class_is (OfDeclaration d) (OfDeclaration e) h = ap OfDeclaration (eqb-true d e h)
same_class_is (OfDeclaration d) (OfOuter b) h = absurd (false≢true h)
same_class_is (OfDeclaration d) (OfGroup g) h = absurd (false≢true h)
same_class_is (OfOuter a) (OfDeclaration e) h = absurd (false≢true h)
same_class_is (OfOuter a) (OfOuter b) h = ap OfOuter (alike_same a b h)
same_class_is (OfOuter a) (OfGroup g) h = absurd (false≢true h)
same_class_is (OfGroup g) (OfDeclaration e) h = absurd (false≢true h)
same_class_is (OfGroup g) (OfOuter b) h = absurd (false≢true h)
same_class_is (OfGroup g) (OfGroup k) h = ap OfGroup (eqb-true g k h)

abbrev pub same_option : Option Class → Option Class → Bool
same_option None None = true
same_option None (Some e) = false
same_option (Some c) None = false
same_option (Some c) (Some e) = same_class c e

same_option_at : (a : Option Class) → same_option a a ≡ true
same_option_at None = refl
same_option_at (Some c) = same_class_at c

same_option_is : (a b : Option Class) → same_option a b ≡ true → a ≡ b
same_option_is None None h = refl
same_option_is None (Some e) h = absurd (false≢true h)
same_option_is (Some c) None h = absurd (false≢true h)
same_option_is (Some c) (Some e) h = ap Some (same_class_is c e h)

pub same_option_decides : (a b : Option Class) → Decides (same_option b a) (a ≡ b)
same_option_decides a b = (λ h. sym (same_option_is b a h), λ e. subst (λ x. same_option x a ≡ true) e (same_option_at a))

pub together_is : (a b : Option Class) → together a b ≡ true → a ≡ b
together_is None b h = absurd (false≢true h)
together_is (Some c) None h = absurd (false≢true h)
together_is (Some c) (Some e) h = ap Some (same_class_is c e h)

pub together_at : (a b : Option Class) (c : Class) → a ≡ Some c → b ≡ a → together a b ≡ true
together_at a b c e f = subst (λ x. together a x ≡ true) (sym f) (subst (λ x. together x x ≡ true) (sym e) (same_class_at c))

pub together_some : (a b : Option Class) → together a b ≡ true → (is_some a ≡ true) × (is_some b ≡ true)
together_some None b h = absurd (false≢true h)
together_some (Some c) None h = absurd (false≢true h)
together_some (Some c) (Some e) h = (refl, refl)

pub some_is : (c : Option Class) → is_some c ≡ true → (x : Class) × (c ≡ Some x)
some_is None h = absurd (false≢true h)
some_is (Some x) h = (x, refl)

pub none_is : (c : Option Class) → is_some c ≡ false → c ≡ None
none_is None h = refl
none_is (Some x) h = absurd (true≢false h)

pub outer_some : (c : Option Class) → is_outer c ≡ true → (is_some c ≡ true) × (is_inner c ≡ false)
outer_some None h = absurd (false≢true h)
outer_some (Some (OfDeclaration d)) h = absurd (false≢true h)
outer_some (Some (OfOuter a)) h = (refl, refl)
outer_some (Some (OfGroup g)) h = absurd (false≢true h)

pub not_outer : (c : Option Class) → is_some c ≡ true → is_outer c ≡ false → is_inner c ≡ true
not_outer None h o = absurd (false≢true h)
not_outer (Some (OfDeclaration d)) h o = refl
not_outer (Some (OfOuter a)) h o = absurd (true≢false o)
not_outer (Some (OfGroup g)) h o = refl

pub declares_named : (k : Kind) → declares k ≡ true → has_name k ≡ true
declares_named k h = by_table declares has_name refl k h
