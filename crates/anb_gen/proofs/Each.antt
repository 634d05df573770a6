-- What holds of each item.
use Rattle.std.proofs.Common.{ℕ, zero, suc, ◌+◌, ◌%◌, ◌<◌, map, true, false, arith}
use Rattle.std.specs.Prelude.{if◌then◌else◌, ◌==◌}
use Rattle.std.specs.List.{AllByRecursion, range_with_len}
use Rattle.anb_syntax.specs.Grammar.{ActionItem}
use Rattle.anb_gen.specs.Drill.{forth, back, exchange_message, exchange}

-- what holds of f at each number of a range holds of each value
pub over_range : {X : Type 0} (P : X → Type 0) (f : ℕ → X) (a n : ℕ) → ((i : ℕ) → i < a + n → P (f i)) → AllByRecursion P (map f (range_with_len a n))
over_range P f a zero h = tt
over_range P f a (suc n) h = (h a (omega arith), over_range P f (a + 1) n (λ i lt. h i (omega arith)))

-- what holds of an exchange in both directions holds of it
pub either_way : (P : ActionItem → Type 0) (i : ℕ) → P (forth (exchange_message i)) → P (back (exchange_message i)) → P (exchange i)
either_way P i p q = elim (i % 2 == 1) as (λ b. P (if b then forth (exchange_message i) else back (exchange_message i))) [ true ↦ p | false ↦ q ]
