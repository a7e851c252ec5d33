-- What languages, transformations, stages and worlds keep. A world that keeps this is promised the rest.
use Rattle.std.specs.Prelude.{◌≡◌, ℕ, ◌<◌, true, false, List, [], ◌∷◌, map, length, Some, None, Ok, Err, Result, ◌≢◌, slice_index, slice_index_or}
use Rattle.model.specs.declared.kinds.Kind.{Kind}
use Rattle.model.specs.declared.kinds.Kind.TheVariants.{Card}
use Rattle.model.specs.declared.nodes.Node.{Node}
use Rattle.model.specs.declared.nodes.Origin.{Origin}
use Rattle.model.specs.declared.faults.StageFault.TheVariants.{WrongSource, DraftTooLarge}
use Rattle.model.specs.declared.faults.DraftFault.{DraftFault}
use Rattle.model.specs.declared.faults.DraftFault.TheVariants.{Stage as OfStage}
use Rattle.model.specs.Kinds.{has_name, declares}
use Rattle.model.specs.Names.{alike, kind_at, name_at, nodes}
use Rattle.model.specs.Fitting.{Of, Program}
use Rattle.model.specs.Forest.{Shape, shape, pre}
use Rattle.model.specs.Scopes.{Order, Language, reach, reaches}
use Rattle.model.specs.Classes.{Draft, Source, source_of, class_at, together, is_outer}
use Rattle.model.specs.Stages.{Transformation, meaning, Stage, under_repair, in_row, first_source, last_target, World}

-- Languages

abbrev pub kind_in : Shape → ℕ → Kind
kind_in s i = slice_index_or (pre s) i Card

pub record Visible (order : Order) : Type 0 where
  -- each list holds declarations
  pub declarations : (s : Shape) (i k : ℕ) → k < length (order s i) → declares (kind_in s (slice_index (order s i) k)) ≡ true
  -- a declaration's list is itself alone
  pub itself : (s : Shape) (i : ℕ) → declares (kind_in s i) ≡ true → order s i ≡ i ∷ []
  -- a node without a name sees nothing
  pub nothing : (s : Shape) (i : ℕ) → has_name (kind_in s i) ≡ false → order s i ≡ []

-- one language is a part of another: at its own roots it has the other's kinds, and sees as the other does
pub record Part (l whole : Language) : Type 0 where
  pub roots : (r : Kind) → l.grammar.roots r ≡ true → whole.grammar.roots r ≡ true
  pub below : (r k : Kind) → l.grammar.roots r ≡ true → l.grammar.below r k ≡ whole.grammar.below r k
  pub visible : (p : List Node) → Of l.grammar p → (i : ℕ) → l.visible (shape p) i ≡ whole.visible (shape p) i

-- Transformations

abbrev pub kinds_of : List Node → List Kind
kinds_of p = map (λ n. n.kind) p

abbrev pub numbers_of : List Node → List ℕ
numbers_of p = map (λ n. n.number) p

abbrev pub origins_of : Draft → List Origin
origins_of d = map (λ e. e.origin) d

-- programs are alike if kinds, numbers, reaches and the spelling of free names agree
pub record Alike (order : Order) (p q : List Node) : Type 0 where
  pub kinds : kinds_of p ≡ kinds_of q
  pub numbers : numbers_of p ≡ numbers_of q
  pub reached : reaches order p ≡ reaches order q
  pub free : (i : ℕ) → has_name (kind_at p i) ≡ true → reach order p i ≡ None → name_at p i ≡ name_at q i

-- drafts agree in kinds, numbers, origins and the spelling of names of outer class;
-- two names of one class are spelled alike in one exactly if they are in the other
pub record Agree (s : Source) (d e : Draft) : Type 0 where
  pub kinds : kinds_of (nodes d) ≡ kinds_of (nodes e)
  pub numbers : numbers_of (nodes d) ≡ numbers_of (nodes e)
  pub origins : origins_of d ≡ origins_of e
  pub outer : (i : ℕ) → is_outer (class_at s d i) ≡ true → name_at (nodes d) i ≡ name_at (nodes e) i
  pub within : (i j : ℕ) → together (class_at s d i) (class_at s d j) ≡ true → alike (name_at (nodes d) i) (name_at (nodes d) j) ≡ alike (name_at (nodes e) i) (name_at (nodes e) j)

-- the same refusal, or drafts that agree
abbrev pub Agreeing : Source → Result Draft DraftFault → Result Draft DraftFault → Type 0
Agreeing s (Ok d) (Ok e) = Agree s d e
Agreeing s (Ok d) (Err f) = ⊥
Agreeing s (Err f) (Ok e) = ⊥
Agreeing s (Err f) (Err g) = f ≡ g

-- what it means of a program of its source language
abbrev pub drafted : Transformation → List Node → Result Draft DraftFault
drafted t p = meaning t (source_of t.source.visible p)

-- what it refuses by itself is neither 7 nor 8, so its meaning has 7 exactly when the root is not of the source, then 8 exactly when the draft is too large
abbrev pub RefusesExactly : Transformation → Type 0
RefusesExactly t =
    (p : List Node) (f : DraftFault) → Program t.source.grammar p → t.draft (source_of t.source.visible p) ≡ Err f
    → (f ≢ OfStage WrongSource) × (f ≢ OfStage DraftTooLarge)

pub record KeepsTransformation (t : Transformation) : Type 0 where
  -- a draft that is not refused is of the target language
  pub made : (p : List Node) (d : Draft) → Program t.source.grammar p → drafted t p ≡ Ok d → Of t.target.grammar (nodes d)
  -- of alike programs it makes agreeing drafts, or refuses both alike
  pub law : (p q : List Node) → Program t.source.grammar p → Program t.source.grammar q → Alike t.source.visible p q → Agreeing (source_of t.source.visible p) (drafted t p) (drafted t q)

-- in a session of that language
abbrev pub KeepsStage : Language → Stage → Type 0
KeepsStage l (under_repair t) = Part t.source l × Part t.target l × KeepsTransformation t
KeepsStage l (in_row s t) = KeepsStage l s × KeepsStage l t

-- in a row, one's target is the other's source
abbrev pub FitsInRow : Stage → Type 0
FitsInRow (under_repair t) = Unit {0}
FitsInRow (in_row s t) = FitsInRow s × FitsInRow t × (last_target s ≡ first_source t)

-- languages and transformations that keep the rules, with one grammar and one visible order for each root
pub record Keeps (w : World) : Type 0 where
  pub visible : Visible w.language.visible
  pub stages : (n : ℕ) (s : Stage) → w.stages n ≡ Some s → KeepsStage w.language s
