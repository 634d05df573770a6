use Rattle.std.proofs.Common.{◌≡◌, ◌++◌, drop}
use Rattle.std.specs.List.{flat_map}
use Rattle.anb_chart.proofs.Lines.{further}
use Rattle.anb_chart_commands.proofs.choices.put_note.Given as goal

abbrev pub invariant-loop-name : goal.invariant-loop-name
invariant-loop-name l = l.out.items ++ flat_map further (drop l.name-index l.rest) ≡ l.initial.out.items ++ flat_map further l.rest
