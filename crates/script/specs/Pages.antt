-- What a page holds after bytes are put on it, and what a counter has counted.
use Rattle.std.specs.Prelude.{◌≡◌, ℕ, ◌+◌, ◌^◌, ◌<◌, ◌≤◌, List, length}
use Rattle.script.specs.declared.sink.Counter.{Counter}
use Rattle.script.specs.declared.sink.Page.{Page}
use Rattle.script.specs.Buffers.{pasted}

-- a sum that is too large to count says nothing
abbrev pub Counts : Counter → List ℕ → Counter → Type 0
Counts c s d = c.length + length s < 2 ^ 64 → d.length ≡ c.length + length s

abbrev pub CanCount : Counter → ℕ → Type 0
CanCount c n = Unit {0}

abbrev pub HasRoom : Page → ℕ → Type 0
HasRoom p n = p.end + n ≤ length p.bytes.now

-- the same buffer, with the bytes written over it from the page's end on
pub record Pastes (p : Page) (s : List ℕ) (q : Page) : Type 0 where
  pub end : q.end ≡ p.end + length s
  pub bytes : q.bytes.now ≡ pasted p.bytes.now p.end s
  pub same : q.bytes.ghost_name ≡ p.bytes.ghost_name
