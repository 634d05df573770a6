-- The narration of a drill is small.
use Rattle.std.proofs.Common.{ℕ, zero, suc, ◌+◌, ◌-◌, ◌*◌, ◌<◌, ◌≤◌, [], ◌∷◌, ◌++◌, map, length, arith}
use Rattle.std.specs.List.{range_with_len, sum_by}
use Rattle.std.proofs.lemmas.Fmt.{length-decimal-le}
use Rattle.std.proofs.lemmas.List.Sums.{sum_by-append, sum_by-cons}
use Rattle.anb_syntax.specs.Sizes.{name_size, action_size, size}
use Rattle.anb_gen.specs.Drill.{number_name, exchange, opening, closing, drill_actions, drill_narration}
use Rattle.anb_gen.proofs.Each.{either_way}

all_within : {X : Type 0} (f : X → ℕ) (g : ℕ → X) (most a n : ℕ) → ((i : ℕ) → i < a + n → f (g i) ≤ most) → sum_by f (map g (range_with_len a n)) ≤ n * most
all_within f g most a zero h = omega arith
all_within f g most a (suc n) h =
    let one = h a (omega arith) in
    let rest = all_within f g most (a + 1) n (λ i lt. h i (omega arith)) in
    let all = sum_by-cons f (g a) (map g (range_with_len (a + 1) n)) in
    grind arith

pub number_len : (i : ℕ) → i ≤ 200 → length (number_name i) ≤ 4
number_len i h = omega (arith, length-decimal-le 3 i (omega arith) (omega arith) (omega arith))

exchange_size : (i : ℕ) → i ≤ 200 → action_size (exchange i) ≤ 15
exchange_size i h =
    let p = number_len i h in
    let q = number_len (i - 1) (omega arith) in
    either_way (λ a. action_size a ≤ 15) i (omega arith) (omega arith)

actions_size : (n : ℕ) → n ≤ 200 → sum_by action_size (drill_actions n) ≤ 15 * n + 13
actions_size n h =
    omega (
      arith,
      number_len 0 (omega arith),
      sum_by-cons action_size opening (map exchange (range_with_len 1 n) ++ closing ∷ []),
      sum_by-append action_size (map exchange (range_with_len 1 n)) (closing ∷ []),
      all_within action_size exchange 15 1 n (λ i lt. exchange_size i (omega arith)),
    )

numbers_size : (n : ℕ) → n ≤ 200 → sum_by name_size (map number_name (range_with_len 0 (n + 1))) ≤ 5 * (n + 1)
numbers_size n h = omega (arith, all_within name_size number_name 5 0 (n + 1) (λ i lt. omega (arith, number_len i (omega arith))))

pub small : (n : ℕ) → n ≤ 200 → size (drill_narration n) ≤ 4096
unfolding drill_narration
small n h = omega (arith, actions_size n h, numbers_size n h)
