use Rattle.std.proofs.Common.{◌≡◌, drop}
use Rattle.anb_reason.specs.Flags.{all_flagged}
use Rattle.anb_reason.proofs.numbers.all_flagged.Given as goal

abbrev pub invariant-loop-id : goal.invariant-loop-id
invariant-loop-id l = all_flagged l.flags l.ids ≡ all_flagged l.flags (drop l.id-index l.ids)
