use Rattle.std.proofs.Common.{◌≡◌, ◌++◌, drop}
use Rattle.anb_protocol.specs.Views.{pointed}
use Rattle.anb_resolve.proofs.resolving.copies.Given as goal

abbrev pub invariant-loop-name : goal.invariant-loop-name
invariant-loop-name l = l.all.items ++ pointed (drop l.name-index l.names) ≡ pointed l.names
