use Rattle.std.proofs.Common.{◌≡◌, ◌++◌, take, drop}
use Rattle.std.specs.Str.{bytes_eq}
use Rattle.anb_protocol.specs.Choices.{each_after}
use Rattle.anb_protocol.specs.Names.{distinct, first_new}
use Rattle.anb_protocol.specs.Views.{pointed}
use Rattle.anb_mistakes.proofs.parts.distinct.Given as goal

abbrev pub invariant-loop-name : goal.invariant-loop-name
invariant-loop-name l = record {
  seen : l.seen ≡ take l.name-index (pointed l.names);
  out : pointed l.all.items ++ each_after (first_new bytes_eq) (take l.name-index (pointed l.names)) (drop l.name-index (pointed l.names)) ≡ distinct bytes_eq (pointed l.names);
}
