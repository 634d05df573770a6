use Rattle.std.proofs.Common.{◌≡◌, ℕ, List, All, map}
use Rattle.anb_plays.specs.Plays.{SendsFirst}
use Rattle.anb_machine.specs.Machines.{gives, left}
use Rattle.anb_host.specs.declared.event.Notice.TheVariants.{Message}
use Rattle.anb_host.specs.Hosts.{IsNarrow}
use Rattle.anb_host.proofs.session.settle.Given as goal

abbrev pub invariant-turns : goal.invariant-turns
invariant-turns l =
    (sent : List (List ℕ)) × (l.told.items ≡ map (Message l.fn.s) sent)
    × All IsNarrow l.told.items
    × ((more : List (List ℕ)) → SendsFirst (gives l.fn.machine more) sent (gives l.machine more))

abbrev pub decreases-turns : goal.decreases-turns
decreases-turns l = left l.machine
