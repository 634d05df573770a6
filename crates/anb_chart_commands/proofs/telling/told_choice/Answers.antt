use Rattle.std.proofs.Common.{refl, inl, inr}
use Rattle.anb_chart_commands.proofs.telling.told_choice.Goals as goal

pub returns-in-Ok-clause-given : goal.returns-in-Ok-clause-given
returns-in-Ok-clause-given c =
    inr (c.args.why, c.requires.refused, (rw c.in-Ok.is at c.requires.tells, rw c.in-Ok.is at c.requires.lawful))

pub returns-in-Err-clause-refused : goal.returns-in-Err-clause-refused
returns-in-Err-clause-refused c = inr (c.args.why, c.requires.refused, (refl, (c.in-Err._no, rw c.in-Err.is at c.requires.none)))
