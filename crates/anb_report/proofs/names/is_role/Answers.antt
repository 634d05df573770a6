use Rattle.anb_report.proofs.Marking.{role_there}
use Rattle.std.proofs.Common.{sym}
use Rattle.anb_report.proofs.names.is_role.Goals as goal

pub returns-in-Some : goal.returns-in-Some
returns-in-Some c = sym (role_there c.args.protocol.now.roles c.in-Some.field-0 c.args.name.now c.in-Some.ensures.some)
