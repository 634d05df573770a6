use Rattle.std.proofs.Common.{◌≡◌, take, drop}
use Rattle.anb_index.specs.Places.{among}
use Rattle.anb_protocol.specs.Choices.{first_after, refuse_if}
use Rattle.anb_protocol.specs.Checks.{twice_among}
use Rattle.anb_protocol.specs.declared.refusals.ResolveNo.TheVariants.{Twice}
use Rattle.anb_protocol.specs.Views.{pointed}
use Rattle.anb_resolve.proofs.names.twice.Given as goal

abbrev pub invariant-loop-name : goal.invariant-loop-name
invariant-loop-name l = record {
  seen : l.seen ≡ take l.name-index (pointed l.names);
  same : first_after (λ before x. refuse_if (among before x) (Twice x)) (take l.name-index (pointed l.names)) (drop l.name-index (pointed l.names)) ≡ twice_among (pointed l.names);
}
