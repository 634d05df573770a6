-- Laws of narrations that are well formed.
use Rattle.std.specs.Prelude.{ℕ, ◌*◌, ◌<◌, ◌^◌}
use Rattle.anb_syntax.specs.Grammar.{Narration, IsSpellable}
use Rattle.anb_syntax.specs.Sizes.{size}
use Rattle.anb_protocol.specs.Checks.{IsWellFormed}
use Rattle.anb_protocol.specs.WellFormed.{IsCountable}

-- What is well formed with some limits on widths is so with limits four times as high: today's are so
-- against 65,536 and 16,777,216.
abbrev pub LimitsGrow : Type 0
LimitsGrow = (least most : ℕ) (n : Narration) → IsWellFormed least most n → IsWellFormed (4 * least) (4 * most) n

-- a narration that can be written has counts below 2^32 where its parts take fewer bytes than that
abbrev pub SmallIsCountable : Type 0
SmallIsCountable = (n : Narration) → IsSpellable n → size n < 2 ^ 32 → IsCountable n
