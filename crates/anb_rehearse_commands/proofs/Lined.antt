-- The line of a drill is what is written.
use Rattle.std.proofs.Common.{ℕ, List, Option, refl, sym, ◌∙◌}
use Rattle.anb_base.proofs.Moving.{put_nothing}
use Rattle.anb_status.specs.declared.status.Status.{Status}
use Rattle.anb_status.specs.declared.status.Status.TheVariants.{NoMemory}
use Rattle.anb_command.specs.Steps.{HasOneAnswer}
use Rattle.anb_command.specs.Writing.{IsWritingOne, IsWritten}
use Rattle.anb_command.proofs.Ones.{is_quiet, one_settled}
use Rattle.anb_command.proofs.Written.{refusal, the_one, written}
use Rattle.anb_rehearse_commands.specs.DrillCommand.{DrillText, drill_text}

drill_one : (n : ℕ) → HasOneAnswer (DrillText n)
drill_one n x y is js = is ∙ sym js

pub writes_drill : (n : ℕ) (w now : Option (List ℕ)) (s : Status) → IsWritten (drill_text n) s w now → IsWritingOne (DrillText n) s w now
writes_drill n w now s is = the_one (DrillText n) (drill_one n) w now s (written (DrillText n) (one_settled (DrillText n) (drill_one n)) w now (drill_text n) s refl is)

pub no_drill : (n : ℕ) (w : Option (List ℕ)) → IsWritingOne (DrillText n) NoMemory w w
no_drill n w =
    the_one (DrillText n) (drill_one n) w w NoMemory
    (refusal (DrillText n) (one_settled (DrillText n) (drill_one n)) w w NoMemory (λ name. ⊥) (is_quiet (drill_text n)) tt (put_nothing w))
