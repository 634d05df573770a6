use Rattle.anb_certify.proofs.Classing.{classes_are_tied, rules_tie, rules_are_decided}
use Rattle.anb_certify.proofs.laws.classes_are_tied.Goals as goal

pub returns-clause-exact : goal.returns-clause-exact
returns-clause-exact c = classes_are_tied

pub returns-clause-rules : goal.returns-clause-rules
returns-clause-rules c = rules_tie

pub returns-clause-decided : goal.returns-clause-decided
returns-clause-decided c = rules_are_decided
