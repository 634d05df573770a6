-- How much a drill is.
use Rattle.std.specs.Prelude.{ℕ, ◌+◌, ◌*◌}

-- how many actions and turns a rehearsal has, how many turns are passed over, and how many bytes its
-- messages have together
pub record Counts : Type 0 where
  pub actions : ℕ
  pub turns : ℕ
  pub passed : ℕ
  pub bytes : ℕ

-- A drill of n exchanges has two more actions, each with two turns, of which none is passed over. The
-- opening has 64 bytes, each exchange 99 and the closing 32.
abbrev pub drill_counts : ℕ → Counts
drill_counts n = record { actions = n + 2; turns = 2 * (n + 2); passed = 0; bytes = 96 + 99 * n }
