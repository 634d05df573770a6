use Rattle.anb_session.proofs.play.Goals as goal

pub returns-clause-waits : goal.returns-clause-waits
returns-clause-waits g c = λ is. (c.play_all.ensures.awaits is).waits
