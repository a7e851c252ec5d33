-- Drafts that are spelled from a plan: of alike programs they agree.
use Rattle.std.proofs.Common.{◌≡◌, ℕ, zero, suc, Bool, true, false, cond, ◌⊎◌, List, [], ◌∷◌, map, get_or, Some, None, Ok, Option, sym, refl, ap, ◌∙◌, subst, ap₂, inl, inr}
use Rattle.std.specs.List.{AllByRecursion as All}
use Rattle.std.proofs.lemmas.Bool.{false≢true, true≢false, eqb-true}
use Rattle.model.specs.declared.kinds.Kind.{Kind}
use Rattle.model.specs.declared.nodes.Name.{Name}
use Rattle.model.specs.declared.nodes.Node.{Node}
use Rattle.model.specs.declared.nodes.Origin.{Origin}
use Rattle.model.specs.declared.nodes.Origin.TheVariants.{Outer}
use Rattle.model.specs.Kinds.{has_name, declares}
use Rattle.model.specs.Names.{alike, name_at, kind_at, plainly, nodes}
use Rattle.model.specs.Fitting.{name_fits}
use Rattle.model.specs.Forest.{Forest, pre, grow}
use Rattle.model.specs.Scopes.{Order}
use Rattle.model.specs.declared.classes.Class.{Class}
use Rattle.model.specs.declared.classes.Class.TheVariants.{OfDeclaration, OfOuter, OfGroup}
use Rattle.model.specs.Classes.{Source, source_of, reach_at, of_copied, by_origin, class_at, together, is_outer}
use Rattle.model.specs.Stages.{Transformation}
use Rattle.model.specs.Plans.{Naming, nameless, like, own, world, Planned, Plan, spelled, comes, spell, spell_out, own_name, copy}
use Rattle.model.specs.Rules.{Visible, kinds_of, numbers_of, origins_of, Alike, Agree, Agreeing, drafted}
use Rattle.laws.proofs.NamesRead.{alike_same, same_alike}
use Rattle.laws.proofs.Forests.{blanked, fmap, same_made, Every, every_pre}
use Rattle.laws.proofs.Reaches.{reaches_are, reached}
use Rattle.laws.proofs.Meanings.{agreeing}

-- a planned node has a name where its kind has one: of a name of the source, which declares if it declares, or a proper one of its own
abbrev pub NamedFrom : List Node → Kind → Naming → Type 0
NamedFrom p k nameless = has_name k ≡ false
NamedFrom p k (like j) = (has_name k ≡ true) × (has_name (kind_at p j) ≡ true) × (declares k ≡ true → declares (kind_at p j) ≡ true)
NamedFrom p k (own s g) = (has_name k ≡ true) × (name_fits true (plainly s) ≡ true)
NamedFrom p k (world s) = (has_name k ≡ true) × (declares k ≡ false) × (name_fits true (plainly s) ≡ true)

abbrev pub Sourced : List Node → Planned → Type 0
Sourced p m = NamedFrom p m.kind m.naming

-- a node that is copied as it is
pub copy_sourced : (p : List Node) (i : ℕ) (n : Node) → kind_at p i ≡ n.kind → Sourced p (copy i n)
copy_sourced p i n e = go (has_name n.kind) refl
  where
    go : (b : Bool) → has_name n.kind ≡ b → NamedFrom p n.kind (own_name b i)
    go true h = (h, ap has_name e ∙ h, λ d. ap declares e ∙ d)
    go false h = h

abbrev pub draft_kinds : List Planned → List Kind
draft_kinds xs = map (λ m. m.kind) xs

abbrev draft_numbers : List Planned → List ℕ
draft_numbers xs = map (λ m. m.number) xs

abbrev draft_origins : List Planned → List Origin
draft_origins xs = map (λ m. cond (has_name m.kind) (comes m.naming) Outer) xs

pub kinds_planned : (p : List Node) (xs : List Planned) → kinds_of (nodes (map (spell p) xs)) ≡ draft_kinds xs
kinds_planned p [] = refl
kinds_planned p (m ∷ xs) = ap (λ r. m.kind ∷ r) (kinds_planned p xs)

numbers_planned : (p : List Node) (xs : List Planned) → numbers_of (nodes (map (spell p) xs)) ≡ draft_numbers xs
numbers_planned p [] = refl
numbers_planned p (m ∷ xs) = ap (λ r. m.number ∷ r) (numbers_planned p xs)

origins_planned : (p : List Node) (xs : List Planned) → origins_of (map (spell p) xs) ≡ draft_origins xs
origins_planned p [] = refl
origins_planned p (m ∷ xs) = ap (λ r. cond (has_name m.kind) (comes m.naming) Outer ∷ r) (origins_planned p xs)

-- the class of a planned node
abbrev pub class_by : Source → List Node → Bool → Naming → Option Class
class_by s p b a = cond b (Some (by_origin s (spelled p a) (cond b (comes a) Outer))) None

abbrev is_bound : Option Class → Bool
is_bound None = false
is_bound (Some (OfDeclaration d)) = true
is_bound (Some (OfOuter a)) = false
is_bound (Some (OfGroup g)) = false

bound_together : (c : Option Class) (e : ℕ) → is_bound c ≡ false → together c (Some (OfDeclaration e)) ≡ true → ⊥
bound_together None e h t = false≢true t
bound_together (Some (OfDeclaration d)) e h t = true≢false h
bound_together (Some (OfOuter a)) e h t = false≢true t
bound_together (Some (OfGroup g)) e h t = false≢true t

together_bound : (c : Option Class) (e : ℕ) → is_bound c ≡ false → together (Some (OfDeclaration e)) c ≡ true → ⊥
together_bound None e h t = false≢true t
together_bound (Some (OfDeclaration d)) e h t = true≢false h
together_bound (Some (OfOuter a)) e h t = false≢true t
together_bound (Some (OfGroup g)) e h t = false≢true t

abbrev is_class : Option Class → Bool
is_class None = false
is_class (Some c) = true

together_left : (c e : Option Class) → together c e ≡ true → is_class c ≡ true
together_left None e h = h
together_left (Some c) e h = refl

together_right : (c e : Option Class) → together c e ≡ true → is_class e ≡ true
together_right None e h = absurd (false≢true h)
together_right (Some c) None h = h
together_right (Some c) (Some e) h = refl

outer_class : (c : Option Class) → is_outer c ≡ true → is_class c ≡ true
outer_class None h = h
outer_class (Some c) h = refl

module _ (order : Order) (vis : Visible order) (p q : List Node) (al : Alike order p q) where
  -- no class, or spelled the same in both, or bound to a declaration and spelled like it
  abbrev Status : Option Class → Name → Name → Type 0
  Status c a b = ((is_bound c ≡ false) × (is_class c ≡ true → a ≡ b)) ⊎ ((d : ℕ) × (c ≡ Some (OfDeclaration d)) × (a ≡ name_at p d) × (b ≡ name_at q d))

  same_name : (r : List Node) (j d : ℕ) → reach_at (source_of order r) j ≡ Some d → name_at r j ≡ name_at r d
  same_name r j d e = alike_same (name_at r j) (name_at r d) (reached order vis r j d e).spelled

  like_status : (j : ℕ) (o : Option ℕ) → has_name (kind_at p j) ≡ true → reach_at (source_of order p) j ≡ o → Status (Some (of_copied (source_of order p) j o)) (name_at p j) (name_at q j)
  like_status j None n e = inl (refl, λ _. al.free j n (sym (reaches_are order vis p j) ∙ e))
  like_status j (Some d) n e = inr (d, refl, same_name p j d e, same_name q j d (ap (λ rs. get_or rs j None) (sym al.reached) ∙ e))

  naming_status : (k : Kind) (b : Bool) (a : Naming) → has_name k ≡ b → NamedFrom p k a → Status (class_by (source_of order p) p b a) (spelled p a) (spelled q a)
  naming_status k true nameless e h = inl (refl, λ _. refl)
  naming_status k true (like j) e h = like_status j (reach_at (source_of order p) j) h.1 refl
  naming_status k true (own s g) e h = inl (refl, λ _. refl)
  naming_status k true (world s) e h = inl (refl, λ _. refl)
  naming_status k false a e h = inl (refl, λ f. absurd (false≢true f))

  abbrev At : List Planned → ℕ → Type 0
  At xs i = Status (class_at (source_of order p) (map (spell p) xs) i) (name_at (nodes (map (spell p) xs)) i) (name_at (nodes (map (spell q) xs)) i)

  status_at : (xs : List Planned) (i : ℕ) → All (Sourced p) xs → At xs i
  status_at [] i h = inl (refl, λ _. refl)
  status_at (m ∷ xs) zero h = naming_status m.kind (has_name m.kind) m.naming refl h.0
  status_at (m ∷ xs) (suc i) h = status_at xs i h.1

  outer_same : (c : Option Class) (a b : Name) → Status c a b → is_outer c ≡ true → a ≡ b
  outer_same c a b (inl h) o = h.1 (outer_class c o)
  outer_same c a b (inr h) o = absurd (false≢true (ap is_outer (sym h.1) ∙ o))

  within_same : (c e : Option Class) (a b x y : Name) → Status c a b → Status e x y → together c e ≡ true → alike a x ≡ alike b y
  within_same c e a b x y (inl h) (inl k) t = ap₂ alike (h.1 (together_left c e t)) (k.1 (together_right c e t))
  within_same c e a b x y (inl h) (inr k) t = absurd (bound_together c k.0 h.0 (subst (λ z. together c z ≡ true) k.1 t))
  within_same c e a b x y (inr h) (inl k) t = absurd (together_bound e h.0 k.0 (subst (λ z. together z e ≡ true) h.1 t))
  within_same c e a b x y (inr h) (inr k) t =
      let d : h.0 ≡ k.0 = eqb-true h.0 k.0 (ap₂ together (sym h.1) (sym k.1) ∙ t) in
      same_alike a x (h.2 ∙ (ap (name_at p) d ∙ sym k.2)) ∙ sym (same_alike b y (h.3 ∙ (ap (name_at q) d ∙ sym k.3)))

  agree : (xs : List Planned) → All (Sourced p) xs → Agree (source_of order p) (map (spell p) xs) (map (spell q) xs)
  agree xs h =
      record {
        kinds = kinds_planned p xs ∙ sym (kinds_planned q xs);
        numbers = numbers_planned p xs ∙ sym (numbers_planned q xs);
        origins = origins_planned p xs ∙ sym (origins_planned q xs);
        outer = λ i o. outer_same (class_at (source_of order p) (map (spell p) xs) i) _ _ (status_at xs i h) o;
        within = λ i j t. within_same (class_at (source_of order p) (map (spell p) xs) i) (class_at (source_of order p) (map (spell p) xs) j) _ _ _ _ (status_at xs i h) (status_at xs j h) t;
      }

-- drafts that are spelled from a plan, which the forest gives without its names
pub record Planner (t : Transformation) (F : Forest Node → Plan) : Type 0 where
  pub drafts : (s : Source) → t.draft s ≡ Ok (spell_out s.program (F (grow s.program)))
  pub nameless : (f : Forest Node) → F (fmap blanked f) ≡ F f
  pub sourced : (p : List Node) → Every (Sourced p) (F (grow p))

pub planned_law : (t : Transformation) (F : Forest Node → Plan) → Planner t F → Visible t.source.visible → (p q : List Node) → Alike t.source.visible p q → Agreeing (source_of t.source.visible p) (drafted t p) (drafted t q)
planned_law t F pl vis p q al =
    let order = t.source.visible in
    let same : F (grow q) ≡ F (grow p) = sym (same_made F pl.nameless p q al.kinds al.numbers) in
    let xs = pre (F (grow p)) in
    agreeing t p q (map (spell p) xs) (map (spell q) xs) al (pl.drafts (source_of order p)) (pl.drafts (source_of order q) ∙ ap (λ f. Ok (spell_out q f)) same)
    (agree order vis p q al xs (every_pre (Sourced p) (F (grow p)) (pl.sourced p)))
