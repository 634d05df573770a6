use Rattle.std.proofs.Common.{sym, ◌∙◌}
use Rattle.anb_notes.proofs.Firsts.{left, put}
use Rattle.anb_notes.proofs.tables.put_first_if.Goals as goal

pub returns-then-so : goal.returns-then-so
returns-then-so c many all keep are so = put many all keep c.args.place.now c.put_first.new.table.items (λ l. sym c.if-so.true ∙ so l) (c.put_first.ensures many all are)

pub returns-else-so : goal.returns-else-so
returns-else-so c many all keep are so = left many all keep c.args.place.now c.args.table.now.items (λ l. sym c.if-so.false ∙ so l) are
