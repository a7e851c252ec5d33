-- What lower, flatten, given drafts and the standard world keep, and that lower and flatten are never refused with 9 to 12.
use Rattle.std.specs.Prelude.{◌≡◌, ℕ, List, Some, None, Ok, Err, ◌≢◌}
use Rattle.model.specs.declared.nodes.Node.{Node}
use Rattle.model.specs.declared.faults.RepairFault.{RepairFault}
use Rattle.model.specs.declared.faults.DraftFault.TheVariants.{Repair as OfRepair}
use Rattle.model.specs.Names.{nodes}
use Rattle.model.specs.Fitting.{Of}
use Rattle.model.specs.Forest.{shape}
use Rattle.model.specs.Scopes.{Language}
use Rattle.model.specs.Classes.{Draft, source_of, classes}
use Rattle.model.specs.Checks.{fault}
use Rattle.model.specs.Stages.{Transformation, repairing, foreign, Stage}
use Rattle.model.specs.Lower.{lower}
use Rattle.model.specs.Flatten.{flatten}
use Rattle.model.specs.Calls.{standard}
use Rattle.model.specs.Rules.{RefusesExactly, KeepsTransformation, FitsInRow, Keeps}

pub record Lawful (t : Transformation) : Type 0 where
  pub keeps : KeepsTransformation t
  pub refuses : RefusesExactly t

abbrev pub StageLaws : Type 0
StageLaws = Lawful lower × Lawful flatten

-- a given draft that is of the language
abbrev pub ForeignLawful : Type 0
ForeignLawful = (l : Language) (d : Draft) → Of l.grammar (nodes d) → Lawful (foreign l d)

-- languages and stages keep the rules, and a row's second source is its first target
pub record StandardKeeps : Type 0 where
  pub keeps : Keeps standard
  pub rows : (n : ℕ) (s : Stage) → standard.stages n ≡ Some s → FitsInRow s

-- checks 9 to 12 find no fault in a draft that is made of a program, however large, and so the repair never refuses it
pub record Unfaulted (t : Transformation) : Type 0 where
  pub unfaulted : (p : List Node) (d : Draft) → Of t.source.grammar p → t.draft (source_of t.source.visible p) ≡ Ok d
      → fault (source_of t.source.visible p) (t.target.visible (shape (nodes d))) (classes (source_of t.source.visible p) d) d ≡ None
  pub never_refused : (p : List Node) (f : RepairFault) → Of t.source.grammar p → repairing t (source_of t.source.visible p) ≢ Err (OfRepair f)

abbrev pub DraftsUnfaulted : Type 0
DraftsUnfaulted = Unfaulted lower × Unfaulted flatten
