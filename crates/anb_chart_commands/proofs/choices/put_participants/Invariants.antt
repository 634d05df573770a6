use Rattle.std.proofs.Common.{◌≡◌, ◌++◌, drop}
use Rattle.std.specs.List.{flat_map}
use Rattle.anb_chart.specs.Charts.{participant_line}
use Rattle.anb_chart_commands.proofs.choices.put_participants.Given as goal

abbrev pub invariant-loop-role : goal.invariant-loop-role
invariant-loop-role l = l.out.items ++ flat_map participant_line (drop l.role-index l.roles) ≡ l.fn.out.items ++ flat_map participant_line l.roles
