use Rattle.std.proofs.Common.{◌≡◌, take, length}
use Rattle.std.specs.Prelude.{All}
use Rattle.anb_protocol.specs.Plays.{IsSendable}
use Rattle.anb_branch.specs.Arms.{FitArms}
use Rattle.anb_branch.proofs.compiling.codes_of.Given as goal

abbrev pub invariant-loop-arm : goal.invariant-loop-arm
invariant-loop-arm l = record {
  count : length l.codes.items ≡ l.arm-index;
  fit : FitArms (take l.arm-index l.arms) l.role l.codes.items;
  sendable : All IsSendable (take l.arm-index l.arms);
}
