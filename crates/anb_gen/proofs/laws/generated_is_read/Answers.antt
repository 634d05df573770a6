use Rattle.anb_syntax.proofs.Printed.{printed}
use Rattle.anb_gen.specs.Drill.{drill_narration}
use Rattle.anb_gen.proofs.Spellable.{spellable}
use Rattle.anb_gen.proofs.laws.generated_is_read.Goals as goal

pub returns : goal.returns
returns c n h = printed (drill_narration n) (spellable n h)
