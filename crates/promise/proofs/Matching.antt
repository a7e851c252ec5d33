-- Two books that match: after alike loads, and still after drafts that agree.
use Rattle.std.proofs.Common.{◌≡◌, ℕ, zero, suc, ◌<◌, Bool, true, false, cond, List, [], ◌∷◌, map, length, get_or, Some, None, sym, refl, ap, ◌∙◌, ap₂, arith}
use mathlib.Core.Path.{fun_ext}
use Rattle.model.specs.declared.nodes.Node.{Node}
use Rattle.model.specs.declared.nodes.Origin.{Origin}
use Rattle.model.specs.declared.nodes.Origin.TheVariants.{Copied, Private, Outer}
use Rattle.model.specs.Lists.{keep, counting}
use Rattle.model.specs.Kinds.{has_name}
use Rattle.model.specs.Names.{kind_at, node_at, nodes, entry_at}
use Rattle.model.specs.Fitting.{Program}
use Rattle.model.specs.Forest.{shape}
use Rattle.model.specs.Scopes.{reach}
use Rattle.model.specs.Classes.{Draft, Source, source_of, is_outer}
use Rattle.model.specs.Stages.{Repaired, World}
use Rattle.model.specs.Book.{Book, loaded, entered, from_group, from_outside, came, groups_of, groups, told_origin, origin}
use Rattle.model.specs.Calls.{told}
use Rattle.model.specs.Rules.{numbers_of, Visible, Alike, Agree}
use Rattle.laws.proofs.Reaches.{same_kinds}
use Rattle.promise.proofs.Reaches.{reaches_at}
use Rattle.promise.proofs.Respelling.{length_kinds}
use Rattle.promise.proofs.Sources.{class_by, copied_named}
use Rattle.promise.proofs.Agreeing.{origin_same, outer_name, AlikeSources, sources_alike, results_alike}
use Rattle.promise.proofs.Accepting.{Accepted, accepted_checked, accepted_reaching, accepted_program}
use Rattle.promise.proofs.Tracing.{came_by, came_is}

-- alike programs of the session's language, after as many drafts, whose names came from the same
pub record Matching (w : World) (b c : Book) : Type 0 where
  pub alike_programs : Alike w.language.visible b.program c.program
  pub first_program : Program w.language.grammar b.program
  pub second_program : Program w.language.grammar c.program
  pub drafts : length b.drafts ≡ length c.drafts
  pub came_same : (i : ℕ) → has_name (kind_at b.program i) ≡ true → came b i ≡ came c i

pub loaded_matching : (w : World) (p q : List Node) → Alike w.language.visible p q → Program w.language.grammar p → Program w.language.grammar q → Matching w (loaded p) (loaded q)
loaded_matching w p q A P Q = record { alike_programs = A; first_program = P; second_program = Q; drafts = refl; came_same = λ i h. refl }

pub matching_sources : (w : World) (b c : Book) → Matching w b c → AlikeSources (source_of w.language.visible b.program) (source_of w.language.visible c.program)
matching_sources w b c M = sources_alike w.language.visible b.program c.program M.alike_programs M.first_program.of.proper_nodes M.second_program.of.proper_nodes

module _ (w : World) (V : Visible w.language.visible) (b c : Book) (M : Matching w b c) (x y : Repaired) (X : Accepted w.language b.program x) (Y : Accepted w.language c.program y) (G : Agree (source_of w.language.visible b.program) x.draft y.draft) where
  abbrev s : Source
  s = source_of w.language.visible b.program

  abbrev d : Draft
  d = x.draft

  abbrev e : Draft
  e = y.draft

  came_alike : (i : ℕ) → has_name (kind_at (nodes d) i) ≡ true → (o : Origin) → (entry_at d i).origin ≡ o → came_by b.drafts (entry_at d i) o ≡ came_by c.drafts (entry_at e i) o
  came_alike i n (Copied k) h = M.came_same k (copied_named s (w.language.visible (shape (nodes d))) d (accepted_checked w.language V b.program x X) i k n h)
  came_alike i n (Private g) h = ap (λ m. from_group (record { draft = m; number = g })) M.drafts
  came_alike i n Outer h = ap from_outside (outer_name s d e G i (ap is_outer (class_by s d i Outer n h)))

  pub entered_matching : Matching w (entered b x) (entered c y)
  entered_matching =
      let R = accepted_reaching w.language V b.program x X in
      let S = accepted_reaching w.language V c.program y Y in
      record {
        alike_programs = results_alike w.language.visible s (source_of w.language.visible c.program) (matching_sources w b c M) d e G x.mended y.mended R S;
        first_program = accepted_program w.language V b.program x X;
        second_program = accepted_program w.language V c.program y Y;
        drafts = ap suc M.drafts;
        came_same = λ i h.
            came_alike i (ap has_name (same_kinds (nodes d) x.mended.program (sym R.kinds) i) ∙ h) (entry_at d i).origin refl
            ∙ sym (came_is c.drafts e i (entry_at d i).origin (sym (origin_same s d e G i)));
      }

-- What is told of matching books

map_kept : {A : Type 0} (f g : ℕ → A) (t : ℕ → Bool) (xs : List ℕ) → ((i : ℕ) → t i ≡ true → f i ≡ g i) → map f (keep t xs) ≡ map g (keep t xs)
map_kept f g t [] h = refl
map_kept f g t (x ∷ xs) h = go (t x) refl (map_kept f g t xs h)
  where
    go : (b : Bool) → t x ≡ b → map f (keep t xs) ≡ map g (keep t xs) → map f (cond b (x ∷ keep t xs) (keep t xs)) ≡ map g (cond b (x ∷ keep t xs) (keep t xs))
    go true e k = ap₂ ◌∷◌ (h x e) k
    go false e k = k

number_at : (p : List Node) (i : ℕ) → get_or (numbers_of p) i 0 ≡ (node_at p i).number
number_at [] i = refl
number_at (n ∷ p) zero = refl
number_at (n ∷ p) (suc i) = number_at p i

module _ (w : World) (b c : Book) (M : Matching w b c) where
  abbrev A : Alike w.language.visible b.program c.program
  A = M.alike_programs

  pub matching_long : length b.program ≡ length c.program
  matching_long = sym (length_kinds b.program) ∙ ap length A.kinds ∙ length_kinds c.program

  kind_same : (i : ℕ) → kind_at b.program i ≡ kind_at c.program i
  kind_same = same_kinds b.program c.program A.kinds

  groups_same : groups b ≡ groups c
  groups_same =
      ap groups_of
      (map_kept (came b) (came c) (λ i. has_name (kind_at b.program i)) (counting 0 (length b.program)) M.came_same
      ∙ ap₂ (λ ks n. map (came c) (keep (λ i. has_name (ks i)) (counting 0 n))) (fun_ext kind_same) matching_long)

  origin_told : (i : ℕ) → cond (has_name (kind_at b.program i)) (Some (origin b i)) None ≡ cond (has_name (kind_at c.program i)) (Some (origin c i)) None
  origin_told i = go (has_name (kind_at b.program i)) refl ∙ ap (λ k. cond (has_name k) (Some (origin c i)) None) (kind_same i)
    where
      go : (t : Bool) → has_name (kind_at b.program i) ≡ t → cond t (Some (origin b i)) None ≡ cond t (Some (origin c i)) None
      go true n = ap₂ (λ gs o. Some (told_origin gs o)) groups_same (M.came_same i n)
      go false n = refl

  pub told_same : (i : ℕ) → i < length b.program → told w b i ≡ told w c i
  told_same i l =
      let k = kind_same i in
      let n : (node_at b.program i).number ≡ (node_at c.program i).number = sym (number_at b.program i) ∙ ap (λ ns. get_or ns i 0) A.numbers ∙ number_at c.program i in
      let o = origin_told i in
      let r : reach w.language.visible b.program i ≡ reach w.language.visible c.program i =
      sym (reaches_at w.language.visible b.program i l)
      ∙ ap (λ rs. get_or rs i None) A.reached
      ∙ reaches_at w.language.visible c.program i (omega (arith, matching_long)) in
      λ j. record { kind = k j; number = n j; origin = o j; reach = cond (has_name (k j)) (r j) None }
