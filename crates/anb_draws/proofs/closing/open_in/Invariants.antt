use Rattle.anb_close.specs.Entries as entries
use Rattle.anb_draws.specs.Telling.{AreOpen}
use Rattle.anb_draws.proofs.closing.open_in.Given as goal

abbrev pub invariant-loop-name : goal.invariant-loop-name
invariant-loop-name l = AreOpen l.p (entries.labels_of l.closure) l.known l.name l.names.items
