-- Programs of a language: what respelling and a change of language keep.
use Rattle.std.proofs.Common.{◌≡◌, ℕ, zero, suc, ◌+◌, ◌≤◌, Bool, true, false, cond, not, ◌&&◌, List, [], ◌∷◌, ◌++◌, map, length, get_or, replicate, is_some, Some, None, Ok, Err, Option, sym, refl, ap, ◌∙◌, subst, ap₂, arith}
use mathlib.Core.Path.{fun_ext}
use Rattle.std.specs.List.{AllByRecursion as All}
use Rattle.std.specs.Str.{bytes_eq}
use Rattle.std.proofs.lemmas.Bool.{false≢true, and_from, and_parts, eq-eqb, le-leb, not-true, cond_both}
use Rattle.std.proofs.lemmas.List.{length-map}
use Rattle.std.proofs.ByRecursion.{All-append}
use Rattle.model.specs.declared.kinds.Kind.{Kind}
use Rattle.model.specs.declared.kinds.Sort.{Sort}
use Rattle.model.specs.declared.kinds.Sort.TheVariants.{Root}
use Rattle.model.specs.declared.nodes.Name.{Name}
use Rattle.model.specs.declared.nodes.Node.{Node}
use Rattle.model.specs.Lists.{keep, places}
use Rattle.model.specs.Kinds.{Children, exactly, as_many, sorts_below, row, has_name, Grammar, allowed, child_sorts, same_sort}
use Rattle.model.specs.Names.{alike, same_stem, name_at, kind_at, padded, letters, respelled, with_mark, root_of, nodes}
use Rattle.model.specs.Fields.{stem_form}
use Rattle.model.specs.Fitting.{fits, number_fits, name_fits, proper, Of, Program}
use Rattle.model.specs.Forest.{shape}
use Rattle.model.specs.Scopes.{Order, Language, reach, reach_by, reaches}
use Rattle.model.specs.declared.classes.Class.{Class}
use Rattle.model.specs.Classes.{Draft, Source, source_of, class_of, classes, together}
use Rattle.model.specs.Checks.{fault}
use Rattle.model.specs.Repair.{marks, unused, fresh, respell, round, Repairs, Mended, repair, mend}
use Rattle.model.specs.Rules.{kinds_of, numbers_of, Part, Alike}
use Rattle.model.proofs.KindTables.{all, every_kind}
use Rattle.laws.proofs.RoundTrips.{length_nodes}
use Rattle.laws.proofs.Reaches.{same_kinds}
use Rattle.promise.specs.Rounds.{Classed}
use Rattle.promise.specs.Reaching.{Reaching}
use Rattle.promise.proofs.Lists.{length_keep, unused_most}
use Rattle.promise.proofs.Classes.{together_some}
use Rattle.promise.proofs.Respelling.{same_length, by_round, by_visits, repairs_visit}
use Rattle.promise.proofs.Mending.{draft_classed}

-- what fits goes by kinds and numbers
pub same_fits : (g : Grammar) (r : Kind) (ss : List Sort) (p q : List Node) → kinds_of p ≡ kinds_of q → numbers_of p ≡ numbers_of q → fits g r ss p ≡ fits g r ss q
same_fits g r [] [] [] e f = refl
same_fits g r [] [] (m ∷ q) e f = absurd (omega (arith, ap length e))
same_fits g r [] (n ∷ p) [] e f = absurd (omega (arith, ap length e))
same_fits g r [] (n ∷ p) (m ∷ q) e f = refl
same_fits g r (s ∷ ss) [] [] e f = refl
same_fits g r (s ∷ ss) [] (m ∷ q) e f = absurd (omega (arith, ap length e))
same_fits g r (s ∷ ss) (n ∷ p) [] e f = absurd (omega (arith, ap length e))
same_fits g r (s ∷ ss) (n ∷ p) (m ∷ q) e f =
    let k : n.kind ≡ m.kind = cc in
    let ks : kinds_of p ≡ kinds_of q = cc in
    let x : n.number ≡ m.number = cc in
    let xs : numbers_of p ≡ numbers_of q = cc in
    ap₂ ◌&&◌ (ap (allowed g r s) k) (ap₂ (λ a b. fits g r (child_sorts a b ++ ss) p) k x ∙ same_fits g r (child_sorts m.kind m.number ++ ss) p q ks xs)

-- no root stands below a root
abbrev Below : Sort → Type 0
Below s = same_sort s Root ≡ false

abbrev is_below : Sort → Bool
is_below s = not (same_sort s Root)

abbrev children_below : Children → Bool
children_below (exactly ss) = all is_below ss
children_below (as_many s) = is_below s

all_below : (ss : List Sort) → all is_below ss ≡ true → All Below ss
all_below [] h = tt
all_below (s ∷ ss) h = let t = and_parts (is_below s) _ h in (not-true _ t.0, all_below ss t.1)

many_below : (n : ℕ) (s : Sort) → Below s → All Below (replicate n s)
many_below zero s h = tt
many_below (suc n) s h = (h, many_below n s h)

below_these : (c : Children) (n : ℕ) → children_below c ≡ true → All Below (sorts_below c n)
below_these (exactly ss) n h = all_below ss h
below_these (as_many s) n h = many_below n s (not-true _ h)

sorts_below_root : (k : Kind) (n : ℕ) → All Below (child_sorts k n)
sorts_below_root k n = below_these (row k).children n (every_kind (λ l. children_below (row l).children) refl k)

-- grammars with the same kinds below a root
change_below : (g h : Grammar) (r : Kind) → ((k : Kind) → g.below r k ≡ h.below r k) → (ss : List Sort) (p : List Node) → All Below ss → fits g r ss p ≡ fits h r ss p
change_below g h r e [] [] a = refl
change_below g h r e [] (n ∷ p) a = refl
change_below g h r e (s ∷ ss) [] a = refl
change_below g h r e (s ∷ ss) (n ∷ p) a =
    ap₂ ◌&&◌
    (ap (λ b. same_sort (row n.kind).sort s && b) (ap (λ b. cond b (g.roots n.kind) (g.below r n.kind)) a.0 ∙ e n.kind ∙ ap (λ b. cond b (h.roots n.kind) (h.below r n.kind)) (sym a.0)))
    (change_below g h r e (child_sorts n.kind n.number ++ ss) p (All-append Below _ ss (sorts_below_root n.kind n.number) a.1))

-- from a grammar to another that has the root too
change : (g h : Grammar) (p : List Node) → (g.roots (root_of p) ≡ true → h.roots (root_of p) ≡ true) → (g.roots (root_of p) ≡ true → (k : Kind) → g.below (root_of p) k ≡ h.below (root_of p) k) → fits g (root_of p) (Root ∷ []) p ≡ true → fits h (root_of p) (Root ∷ []) p ≡ true
change g h [] a b f = f
change g h (n ∷ p) a b f =
    let t = and_parts (allowed g n.kind Root n.kind) _ f in
    let u = and_parts (same_sort (row n.kind).sort Root) _ t.0 in
    and_from _ _ (and_from _ _ u.0 (a u.1)) (sym (change_below g h n.kind (b u.1) (child_sorts n.kind n.number ++ []) p (All-append Below _ [] (sorts_below_root n.kind n.number) tt)) ∙ t.1)

pub root_allowed : (g : Grammar) (p : List Node) → fits g (root_of p) (Root ∷ []) p ≡ true → g.roots (root_of p) ≡ true
root_allowed g [] f = absurd (false≢true f)
root_allowed g (n ∷ p) f = (and_parts (same_sort (row n.kind).sort Root) _ (and_parts (allowed g n.kind Root n.kind) _ f).0).1

-- A part of a language and the whole of it
module _ (l whole : Language) (P : Part l whole) where
  pub to_part : (p : List Node) → l.grammar.roots (root_of p) ≡ true → Of whole.grammar p → Of l.grammar p
  to_part p r o = record {
    fitting = change whole.grammar l.grammar p (λ _. r) (λ _ k. sym (P.below (root_of p) k r)) o.fitting;
    proper_nodes = o.proper_nodes;
  }

  pub from_part : (p : List Node) → Of l.grammar p → Of whole.grammar p
  from_part p o =
      let r = root_allowed l.grammar p o.fitting in
      record {
        fitting = change l.grammar whole.grammar p (λ _. P.roots (root_of p) r) (λ _ k. P.below (root_of p) k r) o.fitting;
        proper_nodes = o.proper_nodes;
      }

  -- a program of the part sees, reaches and is mended as in the whole
  sees_alike : (p : List Node) → Of l.grammar p → l.visible (shape p) ≡ whole.visible (shape p)
  sees_alike p o = fun_ext (P.visible p o)

  reach_alike : (p : List Node) → Of l.grammar p → (i : ℕ) → reach l.visible p i ≡ reach whole.visible p i
  reach_alike p o i = ap (λ sees. reach_by sees p i) (sees_alike p o)

  reaches_alike : (p : List Node) → Of l.grammar p → reaches l.visible p ≡ reaches whole.visible p
  reaches_alike p o = ap (λ sees. map (reach_by sees p) (places p)) (sees_alike p o)

  pub source_alike : (p : List Node) → Of l.grammar p → source_of l.visible p ≡ source_of whole.visible p
  source_alike p o = ap (λ rs. record { program = p; reached = rs }) (reaches_alike p o)

  pub mend_alike : (s : Source) (d : Draft) → Of l.grammar (nodes d) → mend l.visible s d ≡ mend whole.visible s d
  mend_alike s d o = ap (λ sees. elim (fault s sees (classes s d) d) [ None ↦ Ok (repair sees (classes s d) (nodes d)) | Some f ↦ Err f ]) (sees_alike (nodes d) o)

  pub alike_in_part : (p q : List Node) → Of l.grammar p → Of l.grammar q → Alike whole.visible p q → Alike l.visible p q
  alike_in_part p q o o' A = record {
    kinds = A.kinds;
    numbers = A.numbers;
    reached = reaches_alike p o ∙ A.reached ∙ sym (reaches_alike q o');
    free = λ i h r. A.free i h (sym (reach_alike p o i) ∙ r);
  }

-- Respelling keeps names proper
mark_few : (a : Name) (p : List Node) → unused (marks a p) ≤ length p + 1
mark_few a p =
    let t : Node → Bool = λ n. has_name n.kind && same_stem a n.name in
    omega (arith, unused_most (marks a p), length-map (keep t p) (λ n. n.name.mark), length_keep t p)

pub marked_fits : (a : Name) (m : ℕ) → name_fits true a ≡ true → m ≤ 65535 → name_fits true (with_mark a m) ≡ true
marked_fits a m h l =
    let t = and_parts (stem_form (letters a.stem) && alike a (record { stem = padded (letters a.stem); mark = a.mark })) _ h in
    let u = and_parts (stem_form (letters a.stem)) _ t.0 in
    let v = and_parts (bytes_eq a.stem (padded (letters a.stem))) _ u.1 in
    and_from _ _ (and_from _ _ u.0 (and_from _ _ v.0 (eq-eqb m m refl))) (le-leb m 65535 l)

proper_name : (p : List Node) → proper p ≡ true → (i : ℕ) → has_name (kind_at p i) ≡ true → name_fits true (name_at p i) ≡ true
proper_name [] h i n = absurd (false≢true n)
proper_name (x ∷ p) h zero n =
    let t = and_parts (number_fits (row x.kind).most x.number && name_fits (has_name x.kind) x.name) _ h in
    subst (λ b. name_fits b x.name ≡ true) n (and_parts (number_fits (row x.kind).most x.number) _ t.0).1
proper_name (x ∷ p) h (suc i) n = proper_name p (and_parts _ (proper p) h).1 i n

proper_respell : (c : Option Class) (a : Name) → (is_some c ≡ true → name_fits true a ≡ true) → (cs : List (Option Class)) (p : List Node) → ((i : ℕ) → has_name (kind_at p i) ≡ is_some (get_or cs i None)) → proper p ≡ true → proper (respell c a cs p) ≡ true
proper_respell c a f [] [] n h = h
proper_respell c a f [] (x ∷ p) n h = h
proper_respell c a f (e ∷ es) [] n h = h
proper_respell c a f (e ∷ es) (x ∷ p) n h =
    let t = and_parts (number_fits (row x.kind).most x.number && name_fits (has_name x.kind) x.name) _ h in
    and_from _ _
    (cond_both (together c e) (respelled x a) x (λ y. (number_fits (row y.kind).most y.number && name_fits (has_name y.kind) y.name) ≡ true)
    (λ g. let u = together_some c e g in
    and_from _ _ (and_parts (number_fits (row x.kind).most x.number) _ t.0).0 (subst (λ b. name_fits b a ≡ true) (sym (n 0 ∙ u.1)) (f u.0)))
    (λ _. t.0))
    (proper_respell c a f es p (λ i. n (suc i)) t.1)

proper_round : (sees : ℕ → List ℕ) (cs : List (Option Class)) (p : List Node) → Classed cs p → length cs ≤ 65534 → proper p ≡ true → proper (round sees cs p) ≡ true
proper_round sees cs p f l h =
    by_round cs sees p f (λ q. proper q ≡ true) (λ q e g _ k.
    proper_respell (get_or cs e None) (fresh (name_at q e) q) (λ n. marked_fits (name_at q e) _ (proper_name q k e (g.named_there e ∙ n)) (omega (arith, mark_few (name_at q e) q, g.long))) cs q g.named_there k) h

proper_repairs : (sees : ℕ → List ℕ) (cs : List (Option Class)) {p q : List Node} {n : ℕ} → Repairs sees cs p n q → Classed cs p → length cs ≤ 65534 → proper p ≡ true → proper q ≡ true
proper_repairs sees cs r f l h = (by_visits cs sees (λ q. proper q ≡ true) (λ q g. proper_round sees cs q g l) (repairs_visit cs sees r).0 f h).1

-- the program of an accepted draft is of the draft's grammar
pub program_mended : (g : Grammar) (order : Order) (s : Source) (d : Draft) (m : Mended) → Reaching order s d m → length d ≤ 1024 → Of g (nodes d) → Program g m.program
program_mended g order s d m R l o = record {
  of = record {
    fitting =
        ap (λ r. fits g r (Root ∷ []) m.program) (same_kinds m.program (nodes d) R.kinds 0)
        ∙ same_fits g (root_of (nodes d)) (Root ∷ []) m.program (nodes d) R.kinds R.numbers
        ∙ o.fitting;
    proper_nodes = proper_repairs (order (shape (nodes d))) (classes s d) R.repairs (draft_classed s d) (omega (arith, length-map d (class_of s))) o.proper_nodes;
  };
  few = omega (arith, length_nodes d, same_length (nodes d) m.program (record { kinds = R.kinds; numbers = R.numbers }));
}
