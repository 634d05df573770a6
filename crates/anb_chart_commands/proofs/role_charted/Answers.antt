use Rattle.anb_command.specs.Roles.{Part, PartInFile}
use Rattle.anb_chart_commands.specs.ReportCommands.{RoleChartOf}
use Rattle.anb_command.proofs.Chains.{first_refused, then_given}
use Rattle.anb_command.proofs.Failing.{IsFailure-map}
use Rattle.anb_chart_commands.proofs.role_charted.Goals as goal

pub returns-in-Ok-chart_of_role-clause-given : goal.returns-in-Ok-chart_of_role-clause-given
returns-in-Ok-chart_of_role-clause-given g c =
    let playable = c.in-Ok.playable in
    let part : Part = record { protocol = playable.protocol; role = playable.role } in
    then_given (λ files. PartInFile files c.args.narration.now c.args.role.now) RoleChartOf (g.F.Shelf.files c.args.shelf.now) part c.in-Ok-chart_of_role.text
    c.in-Ok.ensures.given c.in-Ok-chart_of_role.ensures

pub returns-in-Err-clause-refused : goal.returns-in-Err-clause-refused
returns-in-Err-clause-refused g c =
    IsFailure-map c.in-Err.status _ _ _ _ (λ file at. at)
    (λ is. first_refused (λ files. PartInFile files c.args.narration.now c.args.role.now) RoleChartOf (g.F.Shelf.files c.args.shelf.now) c.in-Err.status is) c.in-Err.ensures.refused
