use Rattle.anb_suite.specs.Walks.{events_in}
use Rattle.anb_suite.proofs.Turns.{WalkedTo}
use Rattle.anb_suite.proofs.walking.walk_over.Given as goal

abbrev pub invariant-loop-i : goal.invariant-loop-i
invariant-loop-i l = WalkedTo l.names (events_in l.events) l.code l.check l.gone l.used l.i l.walk
