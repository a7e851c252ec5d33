-- Drafts that are spelled from a plan pass checks 9, 10 and 11, and 12 too if each reference finds its class.
use Rattle.std.proofs.Common.{◌≡◌, ℕ, zero, suc, Bool, true, false, cond, not, ◌&&◌, List, [], ◌∷◌, map, get_or, Some, None, Option, sym, refl, ap, ◌∙◌, subst, ap₂}
use Prim.Native.String.{String}
use Rattle.std.specs.List.{AllByRecursion as All}
use Rattle.std.proofs.lemmas.Bool.{false≢true, true≢false, eqb-true, eq-eqb, and_right, or_from, or_left, not_from_true}
use Rattle.std.proofs.Math.ListN.{get_or-map}
use Rattle.model.specs.declared.kinds.Kind.{Kind}
use Rattle.model.specs.declared.kinds.Kind.TheVariants.{Card}
use Rattle.model.specs.declared.kinds.Role.{Role}
use Rattle.model.specs.declared.kinds.Role.TheVariants.{Plain, Declares, Refers}
use Rattle.model.specs.declared.nodes.Name.{Name}
use Rattle.model.specs.declared.nodes.Node.{Node}
use Rattle.model.specs.declared.nodes.Origin.TheVariants.{Outer}
use Rattle.model.specs.declared.nodes.Entry.{Entry}
use Rattle.model.specs.Lists.{any, first_with, places, or_else, is_none}
use Rattle.model.specs.Kinds.{row, has_name, declares, role_declares, role_named}
use Rattle.model.specs.Names.{blank_entry, alike, name_at, kind_at, plainly, nodes, entry_at}
use Rattle.model.specs.Forest.{Shape, shape, pre}
use Rattle.model.specs.Scopes.{Order, order_of, by_role}
use Rattle.model.specs.declared.classes.Class.{Class}
use Rattle.model.specs.declared.classes.Class.TheVariants.{OfDeclaration, OfOuter, OfGroup}
use Rattle.model.specs.Classes.{Draft, Source, source_of, reach_at, of_copied, class_of, classes, same_class, together, is_outer, is_inner}
use Rattle.model.specs.Checks.{copied_from_no_name, from_no_name, lowest_of, spelled_as, unlike_free, spelled_apart, outer_declared, lost, fault}
use Rattle.model.specs.Plans.{Naming, nameless, like, own, world, Planned, plain, spelled, comes, spell, own_name}
use Rattle.model.specs.Rules.{Visible}
use Rattle.model.proofs.KindTables.{by_table}
use Rattle.laws.proofs.NamesRead.{alike_same, same_alike}
use Rattle.laws.proofs.Forests.{pre_shape}
use Rattle.laws.proofs.Orders.{all_at}
use Rattle.laws.proofs.Reaches.{Finding, finding, reaches_itself, reaches_are, reached}
use Rattle.laws.proofs.Planning.{NamedFrom, Sourced, class_by, draft_kinds, kinds_planned}

-- stands for a planned node where there is none
abbrev pub no_node : Planned
no_node = plain Card

-- a group's names are spelled with one stem
abbrev pub StemmedAs : (ℕ → String) → Naming → Type 0
StemmedAs st nameless = Unit {0}
StemmedAs st (like j) = Unit {0}
StemmedAs st (own s g) = plainly s ≡ plainly (st g)
StemmedAs st (world s) = Unit {0}

abbrev pub Stemmed : (ℕ → String) → Planned → Type 0
Stemmed st m = StemmedAs st m.naming

-- a copied node has no stem of its own
pub copy_stemmed : (st : ℕ → String) (b : Bool) (i : ℕ) → StemmedAs st (own_name b i)
copy_stemmed st true i = tt
copy_stemmed st false i = tt

-- the class of a planned node
abbrev pub class_in : Source → Planned → Option Class
class_in s m = class_of s (spell s.program m)

-- the draft that a plan spells, its classes and its shape
module _ (s : Source) (xs : List Planned) where
  abbrev pub spelt : Draft
  spelt = map (spell s.program) xs

  abbrev pub spelt_classes : List (Option Class)
  spelt_classes = classes s spelt

  abbrev pub spelt_shape : Shape
  spelt_shape = shape (nodes spelt)

  -- an entry is spelled from its planned node, or is blank past the end
  entry_cases : (P : Planned → Entry → Type 0) → P no_node blank_entry → (i : ℕ) → P (get_or xs i no_node) (spell s.program (get_or xs i no_node)) → P (get_or xs i no_node) (entry_at spelt i)
  entry_cases P b i h = go xs i h
    where
      go : (ys : List Planned) (i : ℕ) → P (get_or ys i no_node) (spell s.program (get_or ys i no_node)) → P (get_or ys i no_node) (entry_at (map (spell s.program) ys) i)
      go [] i h = b
      go (y ∷ ys) zero h = h
      go (y ∷ ys) (suc i) h = go ys i h

  pub class_is : (i : ℕ) → get_or spelt_classes i None ≡ class_in s (get_or xs i no_node)
  class_is i = go xs i
    where
      go : (ys : List Planned) (i : ℕ) → get_or (classes s (map (spell s.program) ys)) i None ≡ class_in s (get_or ys i no_node)
      go [] i = refl
      go (y ∷ ys) zero = refl
      go (y ∷ ys) (suc i) = go ys i

  pub kinds_are : pre spelt_shape ≡ draft_kinds xs
  kinds_are = pre_shape (nodes spelt) ∙ kinds_planned s.program xs

  pub kind_is : (i : ℕ) → get_or (pre spelt_shape) i Card ≡ (get_or xs i no_node).kind
  kind_is i = ap (λ ks. get_or ks i Card) kinds_are ∙ get_or-map (λ m. m.kind) xs i no_node

  -- each reference of inner class finds it among the declarations that it sees
  abbrev pub Found : (Shape → List (List ℕ)) → Type 0
  Found scopes =
      (i : ℕ) → declares (get_or xs i no_node).kind ≡ false → is_inner (class_in s (get_or xs i no_node)) ≡ true
      → any (λ j. together (class_in s (get_or xs i no_node)) (get_or spelt_classes j None)) (get_or (scopes spelt_shape) i []) ≡ true

inner_same : (c : Option Class) → is_inner c ≡ true → together c c ≡ true
inner_same None h = absurd (false≢true h)
inner_same (Some (OfDeclaration d)) h = eq-eqb d d refl
inner_same (Some (OfOuter a)) h = absurd (false≢true h)
inner_same (Some (OfGroup g)) h = eq-eqb g g refl

pub same_together : (c e : Option Class) → is_inner c ≡ true → e ≡ c → together c e ≡ true
same_together c e h q = subst (λ x. together c x ≡ true) (sym q) (inner_same c h)

-- the first that passes a test which none passes
first_none : {A : Type 0} (t : A → Bool) (xs : List A) → ((x : A) → t x ≡ false) → first_with t xs ≡ None
first_none t [] h = refl
first_none t (x ∷ xs) h = rw (h x) (first_none t xs h)

and_not : (a b : Bool) → (a ≡ true → b ≡ true) → (a && not b) ≡ false
and_not true b h = not_from_true b (h refl)
and_not false b h = refl

-- by its role a name sees itself, or what is in scope, or nothing
role_lost : (r : Role) (i : ℕ) (ds : List ℕ) (c : Option Class) (cs : List (Option Class)) → get_or cs i None ≡ c → (role_declares r ≡ false → is_inner c ≡ true → any (λ j. together c (get_or cs j None)) ds ≡ true) → (role_named r ≡ false → c ≡ None) → (is_inner c && not (any (λ j. together c (get_or cs j None)) (by_role r i ds))) ≡ false
role_lost Plain i ds c cs e h n = and_not (is_inner c) (any (λ j. together c (get_or cs j None)) []) (λ f. absurd (false≢true (ap is_inner (sym (n refl)) ∙ f)))
role_lost Declares i ds c cs e h n = and_not (is_inner c) (any (λ j. together c (get_or cs j None)) (i ∷ [])) (λ f. or_left (together c (get_or cs i None)) false (same_together c (get_or cs i None) f e))
role_lost Refers i ds c cs e h n = and_not (is_inner c) (any (λ j. together c (get_or cs j None)) ds) (λ f. h refl f)

module _ (order : Order) (vis : Visible order) (p : List Node) where
  abbrev src : Source
  src = source_of order p

  reached_itself : (d : ℕ) → declares (kind_at p d) ≡ true → reach_at src d ≡ Some d
  reached_itself d h = reaches_are order vis p d ∙ reaches_itself order vis p d h

  -- Declarations

  pub like_class : (m : Planned) (d : ℕ) → declares m.kind ≡ true → m.naming ≡ like d → declares (kind_at p d) ≡ true → class_in src m ≡ Some (OfDeclaration d)
  like_class m d h e k =
      ap₂ (class_by src p) (by_table declares has_name refl m.kind h) e ∙ ap (λ o. Some (of_copied src d o)) (reached_itself d k)

  pub own_class : (m : Planned) (s : String) (g : ℕ) → declares m.kind ≡ true → m.naming ≡ own s g → class_in src m ≡ Some (OfGroup g)
  own_class m s g h e = ap₂ (class_by src p) (by_table declares has_name refl m.kind h) e

  -- References: what a name of inner class must find is the declaration of its group, or of what its source reaches

  abbrev pub Wants : (Class → Type 0) → Naming → Type 0
  Wants Q nameless = Unit {0}
  Wants Q (like j) = (d : ℕ) → reach_at src j ≡ Some d → Q (OfDeclaration d)
  Wants Q (own s g) = Q (OfGroup g)
  Wants Q (world s) = Unit {0}

  pub copy_wants : (Q : Class → Type 0) (b : Bool) (j : ℕ) → Wants Q (like j) → Wants Q (own_name b j)
  copy_wants Q true j h = h
  copy_wants Q false j h = tt

  wants_like : (Q : Option Class → Type 0) (j : ℕ) (o : Option ℕ) → reach_at src j ≡ o → Wants (λ c. Q (Some c)) (like j) → is_inner (Some (of_copied src j o)) ≡ true → Q (Some (of_copied src j o))
  wants_like Q j None e h i = absurd (false≢true i)
  wants_like Q j (Some d) e h i = h d e

  pub wants_class : (Q : Option Class → Type 0) (b : Bool) (a : Naming) → Wants (λ c. Q (Some c)) a → is_inner (class_by src p b a) ≡ true → Q (class_by src p b a)
  wants_class Q true nameless h i = absurd (false≢true i)
  wants_class Q true (like j) h i = wants_like Q j (reach_at src j) refl h i
  wants_class Q true (own s g) h i = h
  wants_class Q true (world s) h i = absurd (false≢true i)
  wants_class Q false a h i = absurd (false≢true i)

  -- Checks 9 and 11 at one node

  node_nine : (k : Kind) (b : Bool) (a : Naming) → has_name k ≡ b → NamedFrom p k a → (b && copied_from_no_name src (cond b (comes a) Outer)) ≡ false
  node_nine k true nameless e h = refl
  node_nine k true (like j) e h = ap not h.1
  node_nine k true (own s g) e h = refl
  node_nine k true (world s) e h = refl
  node_nine k false a e h = refl

  node_eleven : (k : Kind) (c : Bool) (a : Naming) → declares k ≡ c → NamedFrom p k a → (c && is_outer (class_by src p (has_name k) a)) ≡ false
  node_eleven k false a e h = refl
  node_eleven k true a e h = subst (λ b. is_outer (class_by src p b a) ≡ false) (sym n) (go a h)
    where
      n : has_name k ≡ true
      n = by_table declares has_name refl k e

      go : (a : Naming) → NamedFrom p k a → is_outer (class_by src p true a) ≡ false
      go nameless f = absurd (true≢false (sym n ∙ f))
      go (like j) f = ap (λ o. is_outer (Some (of_copied src j o))) (reached_itself j (f.2 e))
      go (own s g) f = refl
      go (world s) f = absurd (true≢false (sym e ∙ f.1))

  -- Check 10: each class has one spelling

  module _ (st : ℕ → String) where
    abbrev class_name : Class → Name
    class_name (OfDeclaration d) = name_at p d
    class_name (OfOuter a) = a
    class_name (OfGroup g) = plainly (st g)

    same_names : (c e : Class) → same_class c e ≡ true → class_name c ≡ class_name e
    same_names (OfDeclaration d) (OfDeclaration e) h = ap (name_at p) (eqb-true d e h)
    same_names (OfDeclaration d) (OfOuter b) h = absurd (false≢true h)
    same_names (OfDeclaration d) (OfGroup g) h = absurd (false≢true h)
    same_names (OfOuter a) (OfDeclaration e) h = absurd (false≢true h)
    same_names (OfOuter a) (OfOuter b) h = alike_same a b h
    same_names (OfOuter a) (OfGroup g) h = absurd (false≢true h)
    same_names (OfGroup g) (OfDeclaration e) h = absurd (false≢true h)
    same_names (OfGroup g) (OfOuter b) h = absurd (false≢true h)
    same_names (OfGroup g) (OfGroup e) h = ap (λ n. plainly (st n)) (eqb-true g e h)

    abbrev SpelledAs : Option Class → Name → Type 0
    SpelledAs None a = Unit {0}
    SpelledAs (Some c) a = a ≡ class_name c

    like_spelled : (j : ℕ) (o : Option ℕ) → reach_at src j ≡ o → name_at p j ≡ class_name (of_copied src j o)
    like_spelled j None e = refl
    like_spelled j (Some d) e = alike_same (name_at p j) (name_at p d) (reached order vis p j d e).spelled

    naming_spelled : (b : Bool) (a : Naming) → StemmedAs st a → SpelledAs (class_by src p b a) (spelled p a)
    naming_spelled true nameless t = refl
    naming_spelled true (like j) t = like_spelled j (reach_at src j) refl
    naming_spelled true (own s g) t = t
    naming_spelled true (world s) t = refl
    naming_spelled false a t = tt

    one_spelling : (x y : Option Class) (a b : Name) → SpelledAs x a → SpelledAs y b → together x y ≡ true → a ≡ b
    one_spelling None y a b u v t = absurd (false≢true t)
    one_spelling (Some c) None a b u v t = absurd (false≢true t)
    one_spelling (Some c) (Some e) a b u v t = u ∙ (same_names c e t ∙ sym v)

    node_free : (m : Entry) (b : Bool) (a : Naming) → m.node.name ≡ spelled p a → unlike_free src m (cond b (comes a) Outer) ≡ false
    node_free m true nameless e = refl
    node_free m true (like j) e =
        and_right (is_none (reach_at src j)) (not (alike m.node.name (name_at p j))) (not_from_true (alike m.node.name (name_at p j)) (same_alike m.node.name (name_at p j) e))
    node_free m true (own s g) e = refl
    node_free m true (world s) e = refl
    node_free m false a e = refl

    -- The whole draft

    module _ (xs : List Planned) (so : All (Sourced p) xs) (sts : All (Stemmed st) xs) where
      abbrev dr : Draft
      dr = spelt src xs

      abbrev cls : List (Option Class)
      cls = spelt_classes src xs

      abbrev at : ℕ → Planned
      at i = get_or xs i no_node

      sourced_at : (i : ℕ) → Sourced p (at i)
      sourced_at i = all_at (Sourced p) xs no_node i so refl

      nine : (i : ℕ) → from_no_name src dr i ≡ false
      nine i =
          entry_cases src xs (λ m x. (has_name x.node.kind && copied_from_no_name src x.origin) ≡ false) refl i
          (node_nine (at i).kind (has_name (at i).kind) (at i).naming refl (sourced_at i))

      spelled_is : (i : ℕ) → SpelledAs (get_or cls i None) (entry_at dr i).node.name
      spelled_is i =
          subst (λ c. SpelledAs c (entry_at dr i).node.name) (sym (class_is src xs i))
          (entry_cases src xs (λ m x. SpelledAs (class_in src m) x.node.name) tt i
          (naming_spelled (has_name (at i).kind) (at i).naming (all_at (Stemmed st) xs no_node i sts tt)))

      lowest_alike : (i : ℕ) (o : Option ℕ) → Finding (λ j. together (get_or cls i None) (get_or cls j None)) (places cls) o → spelled_as dr i (or_else i o) ≡ true
      lowest_alike i None f = same_alike (entry_at dr i).node.name (entry_at dr i).node.name refl
      lowest_alike i (Some j) f =
          same_alike (entry_at dr i).node.name (entry_at dr j).node.name
          (one_spelling (get_or cls i None) (get_or cls j None) (entry_at dr i).node.name (entry_at dr j).node.name (spelled_is i) (spelled_is j) f.passes)

      ten : (i : ℕ) → spelled_apart src cls dr i ≡ false
      ten i =
          let t = λ (j : ℕ). together (get_or cls i None) (get_or cls j None) in
          and_right (has_name (entry_at dr i).node.kind) _
          (or_from (not (spelled_as dr i (lowest_of cls i))) (unlike_free src (entry_at dr i) (entry_at dr i).origin)
          (not_from_true (spelled_as dr i (lowest_of cls i)) (lowest_alike i (first_with t (places cls)) (finding t (places cls))))
          (entry_cases src xs (λ m x. unlike_free src x x.origin ≡ false) refl i (node_free (spell p (at i)) (has_name (at i).kind) (at i).naming refl)))

      eleven : (i : ℕ) → outer_declared cls dr i ≡ false
      eleven i =
          subst (λ c. (declares (entry_at dr i).node.kind && is_outer c) ≡ false) (sym (class_is src xs i))
          (entry_cases src xs (λ m x. (declares x.node.kind && is_outer (class_in src m)) ≡ false) refl i
          (node_eleven (at i).kind (declares (at i).kind) (at i).naming refl (sourced_at i)))

      -- Check 12, in the scopes of the target

      module _ (scopes : Shape → List (List ℕ)) (found : Found src xs scopes) where
        abbrev shp : Shape
        shp = spelt_shape src xs

        twelve : (i : ℕ) → lost (order_of scopes shp) cls i ≡ false
        twelve i =
            subst (λ c. (is_inner c && not (any (λ j. together c (get_or cls j None)) (order_of scopes shp i))) ≡ false) (sym (class_is src xs i))
            (role_lost (row (get_or (pre shp) i Card)).role i (get_or (scopes shp) i []) (class_in src (at i)) cls (class_is src xs i)
            (λ r. found i (ap declares (sym (kind_is src xs i)) ∙ r))
            (λ r. ap (λ b. class_by src p b (at i).naming) (ap has_name (sym (kind_is src xs i)) ∙ r)))

        pub no_fault : fault src (order_of scopes shp) cls dr ≡ None
        no_fault =
            rw (first_none (from_no_name src dr) (places dr) nine, first_none (spelled_apart src cls dr) (places dr) ten, first_none (outer_declared cls dr) (places dr) eleven, first_none (lost (order_of scopes shp) cls) (places dr) twelve)
            refl
