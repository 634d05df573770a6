use Rattle.std.proofs.Common.{◌≡◌, ◌++◌, [], map}
use Rattle.anb_machine.specs.Machines.{gives}
use Rattle.anb_plays.specs.Plays.{SendsFirst}
use Rattle.anb_draws.specs.Telling.{name_of, value_of}
use Rattle.anb_draws.proofs.drawing.said.Given as goal

abbrev pub invariant-loop-name : goal.invariant-loop-name
invariant-loop-name l = record {
  names : map name_of l.draws.items ++ l.name-iterator.rest.items ≡ l.fn.names.items;
  values : SendsFirst (gives l.fn.machine []) (map value_of l.draws.items) (gives l.machine []);
}
