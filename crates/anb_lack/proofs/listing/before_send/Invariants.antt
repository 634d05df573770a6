use Rattle.std.proofs.Common.{map}
use Rattle.anb_protocol.specs.Views.{plan_event}
use Rattle.anb_lack.proofs.Sends.{NoneSends}
use Rattle.anb_lack.proofs.listing.before_send.Given as goal

abbrev pub invariant-loop-i : goal.invariant-loop-i
invariant-loop-i l = NoneSends l.action (map plan_event l.events) l.i
