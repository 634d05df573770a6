-- A joint run, turn by turn.
use Rattle.std.proofs.Common.{◌≡◌, ℕ, zero, suc, ◌+◌, ◌<◌, List, [], ◌∷◌, length, map, drop, get_or, Some, None, refl, sym, ap, ◌∙◌, subst, arith}
use Rattle.std.specs.Prelude.{flat_map, unwrap_or, All, Vec}
use Rattle.std.specs.Global.{Global}
use Rattle.std.specs.List.{range_with_len}
use Rattle.anb_lemmas.proofs.Lists.{drop_next}
use Rattle.anb_protocol.specs.Choices.{first}
use Rattle.anb_protocol.specs.Schedules.{turn_of}
use Rattle.anb_honest.specs.declared.stage.Stage.{Stage}
use Rattle.anb_honest.specs.declared.report.RehearseEnd.{RehearseEnd}
use Rattle.anb_honest.specs.Given.{items_of}
use Rattle.anb_honest.specs.Joint.{Cast, Course, turns_of, init_of, long_end, turn_with, walk, outset, joint}
use Rattle.anb_honest.specs.Inside.{GoesOn}
use Rattle.anb_honest.proofs.Begun.{first_is}

module _ (c : Cast) (all : List (Vec (List ℕ) Global)) (count : length c.protocol.knows ≡ length c.protocol.roles)
    (is : map items_of all ≡ map (init_of c) (range_with_len 0 (length c.protocol.roles))) (turns : List ℕ) (end : RehearseEnd) where
  -- an initial value is too long
  pub ends_long : Some end ≡ first (long_end 0) (flat_map items_of all) → end ≡ joint c turns
  ends_long e = ap (λ o. unwrap_or o (walk c outset turns)) (e ∙ first_is c all count is)

  -- none is
  pub ends_walked : None ≡ first (long_end 0) (flat_map items_of all) → end ≡ walk c outset turns → end ≡ joint c turns
  ends_walked e w = w ∙ ap (λ o. unwrap_or o (walk c outset turns)) (e ∙ first_is c all count is)

module _ (c : Cast) (s : Course) (turns : List ℕ) (i role : ℕ) (within : i < length turns) (at : role ≡ get_or turns i role) (W : RehearseEnd) (walked : walk c s (drop i turns) ≡ W) where
  step : turn_with c s (turn_of c.protocol (turns_of s.moves) role) (λ next. walk c next (drop (i + 1) turns)) ≡ W
  step = sym (ap (walk c s) (drop_next turns i role within at)) ∙ walked

  pub walk_on : (stage : Stage) → (g : GoesOn c s (turn_of c.protocol (turns_of s.moves) role) stage) → walk c g.next (drop (i + 1) turns) ≡ W
  walk_on stage g = sym (g.on (λ next. walk c next (drop (i + 1) turns))) ∙ step

  pub walk_ends : (end : RehearseEnd) → ((others : Course → RehearseEnd) → turn_with c s (turn_of c.protocol (turns_of s.moves) role) others ≡ end) → end ≡ W
  walk_ends end e = sym (e (λ next. walk c next (drop (i + 1) turns))) ∙ step

-- each role that has a turn is there
pub role_at : (n : ℕ) (turns : List ℕ) (i role : ℕ) → All (λ r. r < n) turns → i < length turns → role ≡ get_or turns i role → role < n
role_at n turns i role all within at = subst (λ r. r < n) (sym at) (all i role within)

pub read_again : (xs : List ℕ) (i : ℕ) → i < length xs → get_or xs i 0 ≡ get_or xs i (get_or xs i 0)
read_again [] i h = absurd (omega arith)
read_again (x ∷ xs) zero h = refl
read_again (x ∷ xs) (suc i) h = read_again xs i (omega arith)
