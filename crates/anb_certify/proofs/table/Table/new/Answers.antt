use Rattle.std.proofs.Common.{length, sym, subst}
use Rattle.anb_intern.specs.Nodes.{AreUnder}
use Rattle.anb_certify.proofs.table.Table.new.Goals as goal

pub returns-clause-table : goal.returns-clause-table
returns-clause-table c = record { under = subst (AreUnder (length c.new.result)) (sym c.new-2.ensures.items) tt; progress = c.new-4.ensures _ _ _ }
