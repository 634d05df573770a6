use Rattle.std.proofs.Common.{◌≡◌, ◌++◌, drop}
use Rattle.anb_protocol.specs.Views.{pointed}
use Rattle.anb_resolve.proofs.uses.put_names.Given as goal

abbrev pub invariant-loop-name : goal.invariant-loop-name
invariant-loop-name l = pointed l.out.items ++ drop l.name-index l.names.items ≡ pointed l.initial.out.items ++ l.names.items
