-- How often atoms stand in patterns, as it is counted.
use Rattle.std.specs.Prelude.{◌≡◌, ℕ, zero, suc, ◌+◌, ◌<◌, List, length, Bool, Some, slice_get, if◌then◌else◌}
use Rattle.anb_term.specs.Tree.{Tree}
use Rattle.anb_pattern.specs.Variables.{stands_once, stands_again}

-- up to two
abbrev pub capped : ℕ → ℕ
capped zero = 0
capped (suc zero) = 1
capped (suc (suc n)) = 2

abbrev pub one_more : ℕ → ℕ
one_more zero = 1
one_more (suc zero) = 2
one_more (suc (suc n)) = suc (suc n)

-- each variable from the names on stands as often as f says
abbrev pub AreCounts : ℕ → (ℕ → ℕ) → List ℕ → Type 0
AreCounts names f counts = (i : ℕ) → i < length counts → slice_get counts i ≡ Some (capped (f (names + i)))

-- they stand so often more
pub record IsCounted (names : ℕ) (more : ℕ → ℕ) (old new : List ℕ) : Type 0 where
  pub long : length new ≡ length old
  pub counts : (f : ℕ → ℕ) → AreCounts names f old → AreCounts names (λ v. f v + more v) new

abbrev pub stands : List Tree → Bool → ℕ → Bool
stands patterns once v = if once then stands_once patterns v else stands_again patterns v
