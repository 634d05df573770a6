use Rattle.std.proofs.Common.{arith, ◌∙◌}
use Rattle.anb_close.proofs.Linking.{list_here, list_past}
use Rattle.anb_close.proofs.parents.list_at.Goals as goal

pub returns-then-at-parents : goal.returns-then-at-parents
returns-then-at-parents c = c.deref.ensures.value ∙ list_here c.args.parents.now c.args.at c.index-parents-at.result (omega arith) c.index-parents-at.is

pub returns : goal.returns
returns c = list_past c.args.parents.now c.args.at (omega arith)
