use Rattle.std.proofs.Common.{refl, sym, ◌∙◌}
use Rattle.anb_transcript.specs.declared.following.ReplayEnd.TheVariants as replayed
use Rattle.anb_judge_commands.proofs.judging.judge_task.Goals as goal

pub returns-in-Ok : goal.returns-in-Ok
returns-in-Ok c = (c.in-Ok.end, λ _. rw c.deref.ensures.value at c.in-Ok.ensures, c.status_of.ensures)

pub returns-in-Err : goal.returns-in-Err
returns-in-Err c = (replayed.NoMemory, λ never. absurd (never refl), refl)
