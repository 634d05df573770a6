use Rattle.std.proofs.Common.{◌≡◌, replicate}
use Rattle.anb_host.specs.declared.session.Session.TheVariants.{Unstarted}
use Rattle.anb_host.proofs.host.Host.new.Given as goal

abbrev pub invariant-loop : goal.invariant-loop
invariant-loop l = l.sessions.items ≡ replicate l.counter Unstarted
