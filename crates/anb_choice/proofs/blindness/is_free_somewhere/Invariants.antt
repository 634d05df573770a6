use Rattle.std.proofs.Common.{◌≡◌, false, take}
use Rattle.std.specs.List.{list_any}
use Rattle.anb_choice.specs.Lawful.{is_free}
use Rattle.anb_choice.proofs.blindness.is_free_somewhere.Given as goal

abbrev pub invariant-loop-p : goal.invariant-loop-p
invariant-loop-p l = list_any (is_free l.stem l.role) (take l.p-index l.arms) ≡ false
