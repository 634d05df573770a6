use Rattle.std.proofs.Common.{sym}
use Rattle.anb_c.proofs.Sending.{unsent}
use Rattle.anb_c.proofs.compiling.role_file.Goals as goal

pub returns-in-Err-code_of-clause-refused : goal.returns-in-Err-code_of-clause-refused
returns-in-Err-code_of-clause-refused c =
    unsent c.args.narration.now c.args.role.now c.in-Ok.protocol c.in-Some.number c.in-Err-code_of.no c.in-Ok.ensures.tells (sym c.in-Some.ensures.value) c.in-Err-code_of.ensures.refused
