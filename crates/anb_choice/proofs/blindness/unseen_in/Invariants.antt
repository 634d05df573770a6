use Rattle.std.proofs.Common.{◌≡◌, ◌+◌, [], List, Option, ℕ, length, take, drop}
use Rattle.std.specs.Prelude.{not}
use Rattle.anb_protocol.specs.Choices.{first_after, refuse_if}
use Rattle.anb_choice.specs.Lawful.{tells}
use Rattle.anb_choice.proofs.blindness.unseen_in.Given as goal

abbrev pub unseen : List (Option ℕ) → Option ℕ → Option ℕ
unseen before x = refuse_if (not (tells before x)) (length before + 1)

abbrev pub invariant-loop-i : goal.invariant-loop-i
invariant-loop-i l = first_after unseen (take l.i l.told) (drop l.i l.told) ≡ first_after unseen [] l.told
