use Rattle.std.proofs.Common.{sym, ◌∙◌}
use Rattle.anb_park_commands.proofs.Handing.{stores_or}
use Rattle.anb_park_commands.proofs.keeping.keep_in_file.Goals as goal

pub returns-in-Some : goal.returns-in-Some
returns-in-Some g c =
    rw c.in-Some.is
    (stores_or c.args.file.now (g.S.Store.state c.args.store.now) (g.S.Store.state c.fault_of.new.store) c.unwrap_or.result c.in-Some.record c.args.ended.status c.fault_of.result
    (rw c.as_slice.ensures at c.fault_of.ensures) c.unwrap_or.ensures)
