use Rattle.anb_values_commands.proofs.owning.own_text.Goals as goal

pub returns-clause-given : goal.returns-clause-given
returns-clause-given c = rw c.as_slice.ensures at c.own_text_of.ensures.given

pub returns-clause-refused : goal.returns-clause-refused
returns-clause-refused c = rw c.as_slice.ensures at c.own_text_of.ensures.refused
