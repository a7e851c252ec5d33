-- A loaded book is true to names, and one that is stays so when a draft is accepted.
use Rattle.std.proofs.Common.{◌≡◌, ℕ, true, ◌⊎◌, List, ◌∷◌, length, is_some, Some, None, Option, sym, refl, ap, ◌∙◌, subst, inl, inr, arith}
use Rattle.std.proofs.lemmas.Bool.{cond-true, cond-false}
use Rattle.std.proofs.lemmas.Option.{none-some, same_Some}
use Rattle.model.specs.declared.nodes.Name.{Name}
use Rattle.model.specs.declared.nodes.Node.{Node}
use Rattle.model.specs.declared.nodes.Origin.{Origin}
use Rattle.model.specs.declared.nodes.Origin.TheVariants.{Copied, Private, Outer}
use Rattle.model.specs.declared.nodes.Entry.{Entry}
use Rattle.model.specs.Kinds.{has_name}
use Rattle.model.specs.Names.{name_at, kind_at, nodes, entry_at}
use Rattle.model.specs.Forest.{shape}
use Rattle.model.specs.Scopes.{Order, reach}
use Rattle.model.specs.declared.classes.Class.{Class}
use Rattle.model.specs.declared.classes.Class.TheVariants.{OfDeclaration, OfOuter, OfGroup}
use Rattle.model.specs.Classes.{Draft, Source, source_of, reach_at, of_copied, by_origin, class_at, is_outer, is_inner}
use Rattle.model.specs.Stages.{Repaired, World}
use Rattle.model.specs.Book.{Book, loaded, entered, Group, Came, from_script, from_group, from_outside, came_from, came}
use Rattle.model.specs.Rules.{Visible}
use Rattle.model.specs.Promise.{script_reach, now_reach, SameDeclaration, TrueToScript, TrueName, TrueNames}
use Rattle.laws.proofs.Reaches.{same_kinds, reaches_itself}
use Rattle.promise.specs.Reaching.{Reaching}
use Rattle.promise.proofs.Lists.{first_is}
use Rattle.promise.proofs.Reaches.{named_in, reaches_at, reached_declares}
use Rattle.promise.proofs.Classes.{together_is}
use Rattle.promise.proofs.Mending.{Checked, draft_node, named_class}
use Rattle.promise.proofs.Sources.{class_named, class_by, of_decl, of_private, copied_named, copied_spelled}
use Rattle.promise.proofs.Accepting.{Accepted, accepted_checked, accepted_reaching}

pub loaded_true : (w : World) → Visible w.language.visible → (p : List Node) → TrueNames w (loaded p)
loaded_true w V p i h = (h, go (reach w.language.visible p i) refl)
  where
    go : (o : Option ℕ) → reach w.language.visible p i ≡ o → TrueToScript w (loaded p) i i o
    go None e = (e, refl)
    go (Some x) e = (x, e, reaches_itself w.language.visible V p x (reached_declares w.language.visible V p i x e))

-- where the name of an entry came from, by its origin
abbrev pub came_by : List Draft → Entry → Origin → Came
came_by ds e o =
    elim o [
      | Copied k ↦ came_from ds k
      | Private g ↦ from_group (record { draft = length ds; number = g })
      | Outer ↦ from_outside e.node.name
    ]

pub came_is : (ds : List Draft) (d : Draft) (i : ℕ) (o : Origin) → (entry_at d i).origin ≡ o → came_from (d ∷ ds) i ≡ came_by ds (entry_at d i) o
came_is ds d i o e = ap (came_by ds (entry_at d i)) e

-- what came from o reaches a declaration that came from e: both from the script, bound to one declaration, or from one group
record ScriptKin (w : World) (b : Book) (o e : Came) : Type 0 where
  name : ℕ
  declaration : ℕ
  bound_to : ℕ
  name_is : o ≡ from_script name
  declaration_is : e ≡ from_script declaration
  has : has_name (kind_at b.script name) ≡ true
  name_reaches : script_reach w b name ≡ Some bound_to
  declaration_reaches : script_reach w b declaration ≡ Some bound_to

record GroupKin (o e : Came) : Type 0 where
  group : Group
  name_is : o ≡ from_group group
  declaration_is : e ≡ from_group group

-- what a true book says of a bound name, and of a free one
module _ (w : World) (b : Book) where
  bound_name : (k e : ℕ) (o : Came) → now_reach w b k ≡ Some e → TrueName w b k o → ScriptKin w b o (came b e) ⊎ GroupKin o (came b e)
  bound_name k e (from_outside a) r t = absurd (none-some e (sym t.0 ∙ r))
  bound_name k e (from_group g) r t = let (x, rx, cx) = t in inr (record { group = g; name_is = refl; declaration_is = ap (came b) (same_Some _ _ (sym r ∙ rx)) ∙ cx })
  bound_name k e (from_script j) r t = inl (go (script_reach w b j) refl t.1)
    where
      kin : (d : ℕ) → script_reach w b j ≡ Some d → (o : Came) → came b e ≡ o → SameDeclaration w b d o → ScriptKin w b (from_script j) (came b e)
      kin d h (from_script j₀) q c = record { name = j; declaration = j₀; bound_to = d; name_is = refl; declaration_is = q; has = t.0; name_reaches = h; declaration_reaches = c }
      kin d h (from_group g) q c = absurd c
      kin d h (from_outside a) q c = absurd c

      go : (o : Option ℕ) → script_reach w b j ≡ o → TrueToScript w b k j o → ScriptKin w b (from_script j) (came b e)
      go None h c = absurd (none-some e (sym c.0 ∙ r))
      go (Some d) h c =
          let (x, rx, cx) = c in
          kin d h (came b e) refl (subst (λ y. SameDeclaration w b d (came b y)) (same_Some _ _ (sym rx ∙ r)) cx)

  -- a free name stays true where a free name of a later book is spelled like it
  free_stays : (c : Book) → b.script ≡ c.script → (k i : ℕ) (o : Came) → now_reach w b k ≡ None → TrueName w b k o → now_reach w c i ≡ None → name_at c.program i ≡ name_at b.program k → TrueName w c i o
  free_stays c s k i (from_outside a) r t f n = (f, n ∙ t.1)
  free_stays c s k i (from_group g) r t f n = let (x, rx, cx) = t in absurd (none-some x (sym r ∙ rx))
  free_stays c s k i (from_script j) r t f n = (ap (λ p. has_name (kind_at p j)) (sym s) ∙ t.0, go (script_reach w b j) (ap (λ p. reach w.language.visible p j) s) t.1)
    where
      go : (o : Option ℕ) → o ≡ script_reach w c j → TrueToScript w b k j o → TrueToScript w c i j (script_reach w c j)
      go None h u = subst (TrueToScript w c i j) h (f, n ∙ u.1 ∙ ap (λ p. name_at p j) s)
      go (Some d) h u = let (x, rx, cx) = u in absurd (none-some x (sym r ∙ rx))

module _ (w : World) (V : Visible w.language.visible) (b : Book) (T : TrueNames w b) (r : Repaired) (A : Accepted w.language b.program r) where
  abbrev order : Order
  order = w.language.visible

  abbrev p : List Node
  p = b.program

  abbrev s : Source
  s = source_of w.language.visible b.program

  abbrev d : Draft
  d = r.draft

  abbrev sees : ℕ → List ℕ
  sees = w.language.visible (shape (nodes r.draft))

  abbrev b' : Book
  b' = entered b r

  C : Checked s sees d
  C = accepted_checked w.language V b.program r A

  R : Reaching order s d r.mended
  R = accepted_reaching w.language V b.program r A

  abbrev IsName : ℕ → Type 0
  IsName i = has_name (kind_at (nodes d) i) ≡ true

  -- an inner name reaches one of its class
  inner : (i : ℕ) (c : Class) → class_at s d i ≡ Some c → is_inner (Some c) ≡ true → (x : ℕ) × (now_reach w b' i ≡ Some x) × IsName x × (by_origin s (entry_at d x).node.name (entry_at d x).origin ≡ c)
  inner i c h n =
      let k = ap is_inner h ∙ n in
      let (x, f) = R.found i k in
      let t = together_is _ _ (first_is _ (sees i) x f).0 in
      let nx = named_class s d x ∙ ap is_some (sym t ∙ h) in
      (x, R.reaches i ∙ cond-true (is_inner (class_at s d i)) _ _ k ∙ f, nx, same_Some _ _ (sym (class_named s d x nx) ∙ sym t ∙ h))

  outer : (i : ℕ) (a : Name) → class_at s d i ≡ Some (OfOuter a) → (now_reach w b' i ≡ None) × (name_at b'.program i ≡ (entry_at d i).node.name)
  outer i a h = (R.reaches i ∙ cond-false (is_inner (class_at s d i)) _ _ (ap is_inner h), R.outer_kept i (ap is_outer h) ∙ ap (λ n. n.name) (sym (draft_node d i)))

  -- copied from a name that is bound to declaration e, as the declaration x that it reaches is copied from k'
  true_bound : (i x e : ℕ) (o u : Came) → now_reach w b' i ≡ Some x → came b' x ≡ u → ScriptKin w b o (came b e) ⊎ GroupKin o (came b e) → ScriptKin w b u (came b e) ⊎ GroupKin u (came b e) → TrueName w b' i o
  true_bound i x e o u rx cx (inl t) (inl v) =
      let same : t.declaration ≡ v.declaration = cc (t.declaration_is, v.declaration_is) in
      let to : script_reach w b v.name ≡ Some t.bound_to = v.name_reaches ∙ sym v.declaration_reaches ∙ ap (script_reach w b) (sym same) ∙ t.declaration_reaches in
      subst (TrueName w b' i) (sym t.name_is)
      (t.has, subst (TrueToScript w b' i t.name) (sym t.name_reaches) (x, rx, subst (SameDeclaration w b' t.bound_to) (sym (cx ∙ v.name_is)) to))
  true_bound i x e o u rx cx (inl t) (inr v) = let z : ◌≡◌ {A = ℕ} 0 1 = cc (t.declaration_is, v.declaration_is) in absurd (omega arith)
  true_bound i x e o u rx cx (inr t) (inl v) = let z : ◌≡◌ {A = ℕ} 0 1 = cc (t.declaration_is, v.declaration_is) in absurd (omega arith)
  true_bound i x e o u rx cx (inr t) (inr v) =
      let same : v.group ≡ t.group = cc (t.declaration_is, v.declaration_is) in
      subst (TrueName w b' i) (sym t.name_is) (x, rx, cx ∙ v.name_is ∙ ap from_group same)

  true_copied : (i k : ℕ) → IsName i → (entry_at d i).origin ≡ Copied k → TrueName w b' i (came b k)
  true_copied i k n e = go (now_reach w b k) refl
    where
      nk : has_name (kind_at p k) ≡ true
      nk = copied_named s sees d C i k n e

      reach_k : reach_at s k ≡ now_reach w b k
      reach_k = reaches_at order p k (named_in p k nk)

      class_k : (o : Option ℕ) → now_reach w b k ≡ o → class_at s d i ≡ Some (of_copied s k o)
      class_k o h = class_by s d i (Copied k) n e ∙ ap (λ r. Some (of_copied s k r)) (reach_k ∙ h)

      go : (o : Option ℕ) → now_reach w b k ≡ o → TrueName w b' i (came b k)
      go None h = let (f, z) = outer i _ (class_k None h) in free_stays w b b' refl k i (came b k) h (T k nk) f (z ∙ copied_spelled s sees d C i k n e (reach_k ∙ h))
      go (Some e₀) h =
          let (x, rx, nx, cx) = inner i (OfDeclaration e₀) (class_k (Some e₀) h) refl in
          let (k', ex, hx) = of_decl s _ (entry_at d x).origin e₀ cx in
          let nk' = copied_named s sees d C x k' nx ex in
          let h' = sym (reaches_at order p k' (named_in p k' nk')) ∙ hx in
          true_bound i x e₀ (came b k) (came b k') rx (came_is b.drafts d x (Copied k') ex) (bound_name w b k e₀ (came b k) h (T k nk)) (bound_name w b k' e₀ (came b k') h' (T k' nk'))

  pub entered_true : TrueNames w (entered b r)
  entered_true i h = go (entry_at d i).origin refl
    where
      n : IsName i
      n = ap has_name (same_kinds (nodes d) b'.program (sym R.kinds) i) ∙ h

      as_came : (o : Origin) → (entry_at d i).origin ≡ o → TrueName w b' i (came_by b.drafts (entry_at d i) o) → TrueName w b' i (came b' i)
      as_came o e t = subst (TrueName w b' i) (sym (came_is b.drafts d i o e)) t

      go : (o : Origin) → (entry_at d i).origin ≡ o → TrueName w b' i (came b' i)
      go (Copied k) e = as_came (Copied k) e (true_copied i k n e)
      go (Private g) e =
          let (x, rx, nx, cx) = inner i (OfGroup g) (class_by s d i (Private g) n e) refl in
          as_came (Private g) e (x, rx, came_is b.drafts d x (Private g) (of_private s _ (entry_at d x).origin g cx))
      go Outer e = as_came Outer e (outer i _ (class_by s d i Outer n e))
