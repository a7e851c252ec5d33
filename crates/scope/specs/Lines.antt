-- The lines of a card, one after another.
use Rattle.std.specs.Prelude.{◌≡◌, ℕ, ◌+◌, None, Some, Option}
use Rattle.std.specs.declared.ops.Range.{Range}
use Rattle.model.specs.Names.{nodes}
use Rattle.laws.specs.Walks.{beyond}
use Rattle.scope.specs.declared.cards.Lines.{Lines}

-- from one line to the next: its places, and what is left then
pub record LineOn (s t : Lines) (line : Range ℕ) : Type 0 where
  pub fewer : s.left ≡ t.left + 1
  pub starts : line.start ≡ s.begin
  pub ends : line.end ≡ t.begin
  pub whole : t.begin ≡ beyond (nodes s.program.now) s.begin 1
  pub same : t.program ≡ s.program

abbrev pub LinesGive : Lines → Option (Range ℕ) → Lines → Type 0
LinesGive s None t = s.left ≡ 0
LinesGive s (Some line) t = LineOn s t line
