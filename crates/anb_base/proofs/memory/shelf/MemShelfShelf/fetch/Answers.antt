use Rattle.std.proofs.Common.{sym, ◌∙◌}
use Rattle.anb_base.proofs.Shelves.{place_among-other}
use Rattle.anb_base.proofs.memory.shelf.MemShelfShelf.fetch.Goals as goal

pub returns-then-fails-clause-others : goal.returns-then-fails-clause-others
returns-then-fails-clause-others c other differ =
    let elsewhere = place_among-other c.self.inside.files.items c.args.name.now other _ (sym c.place.ensures.place ∙ c.in-Some.is) differ in
    rw (← c.self.view_is) (c.fault.ensures.others other elsewhere)
