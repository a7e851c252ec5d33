-- No line of a proper node is longer than 25 bytes, or 32 in a draft.
use Rattle.std.proofs.Common.{◌≡◌, ℕ, suc, ◌+◌, ◌*◌, ◌<◌, ◌≤◌, true, cond, eqb, ltb, List, [], ◌∷◌, ◌++◌, length, Some, None, decimal, Option, ap, ◌∙◌, append-nil, arith, length-append}
use Rattle.std.specs.List.{AllByRecursion as All}
use Rattle.std.proofs.lemmas.Fmt.{length-decimal-le}
use Rattle.std.proofs.lemmas.Bool.{leb-true, ltb-true, cond_both}
use Rattle.model.specs.declared.nodes.Name.{Name}
use Rattle.model.specs.declared.kinds.Role.{Role}
use Rattle.model.specs.declared.kinds.Role.TheVariants.{Plain, Declares, Refers}
use Rattle.model.specs.declared.nodes.Origin.{Origin}
use Rattle.model.specs.declared.nodes.Origin.TheVariants.{Copied, Private, Outer}
use Rattle.model.specs.declared.nodes.Entry.{Entry}
use Rattle.model.specs.Kinds.{row, role_named}
use Rattle.model.specs.Names.{letters}
use Rattle.model.specs.Fields.{Form, plain, draft, write_mark, write_name, write_origin}
use Rattle.model.specs.Fitting.{name_fits, number_fits, origin_fits}
use Rattle.laws.proofs.Pieces.{after_each, after_each_append}
use Rattle.laws.proofs.NamesRead.{a_name, stem_over}
use Rattle.laws.proofs.KindTests.{number_width, name_width, line_width, SmallMost, most_small, line_fits}
use Rattle.laws.proofs.Fields.{name_fields, number_fields, origin_fields, fields, origin_ok, ProperNode}
use Rattle.laws.proofs.Lines.{body, text}

mark_short : (m : ℕ) → m ≤ 65535 → length (write_mark m) ≤ 6
mark_short m l =
    cond_both (eqb m 0) [] (39 ∷ decimal m) (λ x. length x ≤ 6) (λ e. omega arith) (λ e. omega (arith, length-decimal-le 5 m (omega arith) (omega arith) (omega arith)))

pub name_short : (a : Name) → name_fits true a ≡ true → length (write_name a) ≤ 14
name_short a h =
    let n = a_name a h in
    omega (arith, length-append (letters a.stem) (write_mark a.mark), (stem_over (letters a.stem) n.stem).1, mark_short a.mark n.small)

pub number_short : (most x : ℕ) → most < 10000000000 → x ≤ most → length (decimal x) ≤ cond (ltb most 1000) 3 (cond (ltb most 10000) 4 10)
number_short most x s l =
    cond_both (ltb most 1000) 3 (cond (ltb most 10000) 4 10) (λ w. length (decimal x) ≤ w)
    (λ e. let k = ltb-true most 1000 e in length-decimal-le 3 x (omega arith) (omega arith) (omega arith))
    (λ e. cond_both (ltb most 10000) 4 10 (λ w. length (decimal x) ≤ w)
    (λ d. let k = ltb-true most 10000 d in length-decimal-le 4 x (omega arith) (omega arith) (omega arith))
    (λ d. length-decimal-le 10 x (omega arith) (omega arith) (omega arith)))

pub origin_short : (o : Origin) → origin_fits true o ≡ true → length (write_origin o) ≤ 6
origin_short (Copied k) h = let l = leb-true k 1023 h in omega (arith, length-decimal-le 4 k (omega arith) (omega arith) (omega arith))
origin_short (Private g) h = let l = leb-true g 65535 h in omega (arith, length-decimal-le 5 g (omega arith) (omega arith) (omega arith))
origin_short Outer h = omega arith

one_long : (f : List ℕ) → length (after_each 9 (f ∷ [])) ≡ suc (length f)
one_long f = ap (λ (l : List ℕ). suc (length l)) (append-nil f)

-- names and origins
named_width : Form → Role → ℕ
named_width form r = name_width form (role_named r)

both_short : (form : Form) (r : Role) (a : Name) (o : Origin) → name_fits (role_named r) a ≡ true → origin_ok form (role_named r) o ≡ true
    → length (after_each 9 (name_fields r a)) + length (after_each 9 (origin_fields form r o)) ≤ named_width form r
unfolding named_width
both_short plain Plain a o h k = omega arith
both_short plain Declares a o h k = omega (arith, one_long (write_name a), name_short a h)
both_short plain Refers a o h k = omega (arith, one_long (write_name a), name_short a h)
both_short draft Plain a o h k = omega arith
both_short draft Declares a o h k = omega (arith, one_long (write_name a), name_short a h, one_long (write_origin o), origin_short o k)
both_short draft Refers a o h k = omega (arith, one_long (write_name a), name_short a h, one_long (write_origin o), origin_short o k)

numbers_short : (o : Option ℕ) (x : ℕ) → SmallMost o → number_fits o x ≡ true → length (after_each 9 (number_fields o x)) ≤ number_width o
numbers_short None x s h = omega arith
numbers_short (Some most) x s h = let l = leb-true x most h in omega (arith, one_long (decimal x), number_short most x s l)

body_short : (form : Form) (n : Entry) → ProperNode form n → length (body form n) + 1 ≤ line_width form
unfolding named_width
body_short form n p =
    let k = n.node.kind in
    let r = (row k).role in
    let vs = name_fields r n.node.name in
    let bs = number_fields (row k).most n.node.number in
    let cs = origin_fields form r n.origin in
    let e = ap length (after_each_append 9 vs (bs ++ cs)) ∙ length-append (after_each 9 vs) (after_each 9 (bs ++ cs)) in
    let d = ap length (after_each_append 9 bs cs) ∙ length-append (after_each 9 bs) (after_each 9 cs) in
    omega (arith, e, d, length-append (row k).word (after_each 9 (fields form n)), both_short form r n.node.name n.origin p.name p.origin, numbers_short (row k).most n.node.number (most_small k) p.number, line_fits form k)

pub text_short : (form : Form) (d : List Entry) → All (ProperNode form) d → length (text form d) ≤ line_width form * length d
text_short plain [] h = omega arith
text_short draft [] h = omega arith
text_short plain (n ∷ ns) h = omega (arith, length-append (body plain n) (10 ∷ text plain ns), body_short plain n h.0, text_short plain ns h.1)
text_short draft (n ∷ ns) h = omega (arith, length-append (body draft n) (10 ∷ text draft ns), body_short draft n h.0, text_short draft ns h.1)
