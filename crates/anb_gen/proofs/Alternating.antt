-- The turns of a drill are those of its actions.
use Rattle.std.proofs.Common.{◌≡◌, ℕ, zero, suc, ◌+◌, ◌*◌, List, [], ◌∷◌, map, length, refl, ap, ◌∙◌, arith, length-append}
use Rattle.std.specs.Prelude.{slice_get, Option, Some, option_and_then}
use Rattle.std.specs.List.{flat_map, range_with_len, AllByRecursion}
use Rattle.std.proofs.lemmas.List.FromFn.{length-map-range_with_len}
use Rattle.anb_lemmas.proofs.Each.{each_in_both}
use Rattle.anb_syntax.specs.Grammar.{ActionItem}
use Rattle.anb_gen.specs.Drill.{role_names, exchange, closing, drill_actions, drill_narration}
use Rattle.anb_gen.specs.Turns.{role_number, action_turns}
use Rattle.anb_gen.specs.Laws.{Alternates}
use Rattle.anb_gen.proofs.Each.{either_way, over_range}

-- how many actions
pub how_many : (n : ℕ) → length (drill_actions n) ≡ n + 2
how_many n = omega (arith, length-append (map exchange (range_with_len 1 n)) (closing ∷ []), length-map-range_with_len exchange 1 n)

pub two_each : (xs : List ActionItem) → length (flat_map action_turns xs) ≡ 2 * length xs
two_each [] = refl
two_each (a ∷ xs) = omega (arith, two_each xs)

-- the role of this number has this name
abbrev HasNumber : List ℕ → Type 0
HasNumber name = slice_get role_names (role_number name) ≡ Some name

abbrev BetweenRoles : ActionItem → Type 0
BetweenRoles a = HasNumber a.from × HasNumber a.to

all_between : (n : ℕ) → AllByRecursion BetweenRoles (drill_actions n)
all_between n = ((refl, refl), each_in_both BetweenRoles (map exchange (range_with_len 1 n)) (closing ∷ []) (over_range BetweenRoles exchange 1 n (λ i lt. either_way BetweenRoles i (refl, refl) (refl, refl))) ((refl, refl), tt))

-- the name of the role whose turn it is
abbrev named : List ℕ → ℕ → Option (List ℕ)
named turns t = option_and_then (slice_get role_names) (slice_get turns t)

in_turn : (xs : List ActionItem) (a : ℕ) (action : ActionItem) → AllByRecursion BetweenRoles xs → slice_get xs a ≡ Some action
    → (named (flat_map action_turns xs) (2 * a) ≡ Some action.from) × (named (flat_map action_turns xs) (2 * a + 1) ≡ Some action.to)
in_turn [] a action between e = cc
in_turn (x ∷ xs) zero action between e = let same : x ≡ action = cc in rw (← same) between.0
in_turn (x ∷ xs) (suc a) action between e =
    let r = in_turn xs a action between.1 e in
    let first : 2 * suc a ≡ suc (suc (2 * a)) = omega arith in
    let second : 2 * suc a + 1 ≡ suc (suc (2 * a + 1)) = omega arith in
    (rw first r.0, rw second r.1)

pub alternates : (n : ℕ) → Alternates n
unfolding drill_narration
alternates n = record {
  count = two_each (drill_actions n) ∙ ap (λ k. 2 * k) (how_many n);
  turns = λ a action. in_turn (drill_actions n) a action (all_between n);
}
