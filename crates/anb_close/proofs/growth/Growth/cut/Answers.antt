use Rattle.std.proofs.Common.{map, take, sym, ◌∙◌, ap}
use Rattle.anb_close.specs.Entries.{rows, terms_of, is_double}
use Rattle.anb_close.specs.declared.entry.Entry.{Entry}
use Rattle.anb_term.specs.View.{tree_of}
use Rattle.anb_term.proofs.Lists.{map-take}
use Rattle.anb_close.proofs.Growing.{doubles_take}
use Rattle.anb_close.proofs.growth.Growth.cut.Goals as goal

pub returns-clause-doubles : goal.returns-clause-doubles
returns-clause-doubles c = c.truncate-2.ensures.items ∙ doubles_take c.args.self.now.entries.items c.args.self.now.doubles.items c.args.at c.requires.within c.requires.doubles ∙ sym (ap (λ es. map is_double (rows es)) c.truncate.ensures.items)

pub returns-clause-indexed : goal.returns-clause-indexed
returns-clause-indexed c =
    c.cut.ensures ∙ ap (take c.args.at) c.requires.indexed ∙ sym (map-take (λ (e : Entry). tree_of e.term) c.args.at c.args.self.now.entries.items) ∙ sym (ap terms_of c.truncate.ensures.items)
