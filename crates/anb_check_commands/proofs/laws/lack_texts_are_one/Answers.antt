use Rattle.anb_check_commands.proofs.Lacks.{none_where_sendable, one_text, said_once}
use Rattle.anb_check_commands.proofs.laws.lack_texts_are_one.Goals as goal

pub returns-clause-one : goal.returns-clause-one
returns-clause-one c = one_text

pub returns-clause-said : goal.returns-clause-said
returns-clause-said c = said_once c.unsent_texts_are_unique.ensures

pub returns-clause-none : goal.returns-clause-none
returns-clause-none c = none_where_sendable
