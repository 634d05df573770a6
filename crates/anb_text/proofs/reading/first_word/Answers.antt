use Rattle.std.proofs.Common.{◌∙◌, sym}
use Rattle.std.proofs.Math.Seq.{take-length}
use Rattle.anb_text.proofs.ReadFacts.{cut_none, cut_some}
use Rattle.anb_text.proofs.reading.first_word.Goals as goal

pub returns-in-Some-clause-word : goal.returns-in-Some-clause-word
returns-in-Some-clause-word c = rw c.split_at.ensures.front (cut_some c.args.text.now c.in-Some.at (sym c.first_space.ensures ∙ c.in-Some.is)).0

pub returns-in-Some-clause-end : goal.returns-in-Some-clause-end
returns-in-Some-clause-end c = rw c.split_at.ensures.back (cut_some c.args.text.now c.in-Some.at (sym c.first_space.ensures ∙ c.in-Some.is)).1

pub returns-in-None-clause-word : goal.returns-in-None-clause-word
returns-in-None-clause-word c = rw (c.split_at-in-None.ensures.front, take-length c.args.text.now) (cut_none c.args.text.now (sym c.first_space.ensures ∙ c.in-None.is))
