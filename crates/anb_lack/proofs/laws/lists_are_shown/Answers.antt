use Rattle.anb_lack.proofs.Having.{listed_one}
use Rattle.anb_lack.proofs.Showing.{had_is_from, had_is_made, keys_are_not_made, lacking_is_not_made, message_is_lacking}
use Rattle.anb_lack.proofs.laws.lists_are_shown.Goals as goal

pub returns-clause-made : goal.returns-clause-made
returns-clause-made c = had_is_made

pub returns-clause-from : goal.returns-clause-from
returns-clause-from c = had_is_from

pub returns-clause-one_origin : goal.returns-clause-one_origin
returns-clause-one_origin c = listed_one

pub returns-clause-lacking : goal.returns-clause-lacking
returns-clause-lacking c = lacking_is_not_made c.shut_has_none.ensures

pub returns-clause-message : goal.returns-clause-message
returns-clause-message c = message_is_lacking

pub returns-clause-keys : goal.returns-clause-keys
returns-clause-keys c = keys_are_not_made c.shut_has_none.ensures
