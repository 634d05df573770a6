use Rattle.std.proofs.Common.{◌∙◌}
use Rattle.anb_read.proofs.Literals.{literal_is, literal_none}
use Rattle.anb_read.proofs.single.literal.Goals as goal

pub returns-in-Some : goal.returns-in-Some
returns-in-Some c = let h = rw c.in-Some.is at c.in_ok-literal.ensures.some in literal_is c.args.text.now c.in-Some.literal.bytes c.args.at c.in-Some.literal.end h

pub returns-in-None : goal.returns-in-None
returns-in-None c = let h = rw c.in-None.is at c.in_ok-literal.ensures.none in c.new-in-None-2.ensures ∙ c.new-in-None.ensures.items ∙ literal_none c.args.text.now c.args.at h
