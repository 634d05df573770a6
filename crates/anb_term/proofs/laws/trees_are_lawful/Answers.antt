use Rattle.anb_term.specs.FreeLawful.{free_lawful}
use Rattle.anb_term.proofs.Values.{part_in_terms}
use Rattle.anb_term.proofs.Translate.{terms_are_trees}
use Rattle.anb_term.proofs.laws.trees_are_lawful.Goals as goal

pub returns-clause-lawful : goal.returns-clause-lawful
returns-clause-lawful c = free_lawful

pub returns-clause-part : goal.returns-clause-part
returns-clause-part c = part_in_terms

pub returns-clause-terms : goal.returns-clause-terms
returns-clause-terms c = terms_are_trees
