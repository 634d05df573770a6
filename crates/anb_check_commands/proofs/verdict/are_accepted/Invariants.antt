use Rattle.std.proofs.Common.{take}
use Rattle.std.specs.List.{AllByRecursion}
use Rattle.anb_base.specs.declared.TheConstants.{ARRIVAL, WIDE}
use Rattle.anb_code.specs.Verified.{IsVerifiedCode}
use Rattle.anb_check_commands.proofs.verdict.are_accepted.Given as goal

abbrev pub invariant-loop-code : goal.invariant-loop-code
invariant-loop-code l = AllByRecursion (IsVerifiedCode ARRIVAL WIDE) (take l.code-index l.codes)
