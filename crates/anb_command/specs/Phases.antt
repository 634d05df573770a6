-- When a status may come, by what is asked for.
use Rattle.std.specs.Prelude.{Option, Some}
use Rattle.anb_status.specs.declared.status.Status.{Status}
use Rattle.anb_status.specs.declared.status.Status.TheVariants.{BadNarration, BadValues, CannotSend}
use Rattle.anb_status.specs.Statuses.{Phase, after_reach, phase_of}
use Rattle.anb_words.specs.Words.{Asked, check, check_values}

-- of a command that first says why a narration is refused
abbrev pub told_phase : Status → Phase
told_phase (BadNarration why) = after_reach
told_phase (CannotSend action role) = after_reach
told_phase status = phase_of status

-- of one that says what is wrong with values: what is written of faulty ones stands before their status
abbrev pub values_phase : Status → Phase
values_phase (BadValues why) = after_reach
values_phase status = phase_of status

abbrev pub phase_in : Option Asked → Status → Phase
phase_in (Some (check narration)) status = told_phase status
phase_in (Some (check_values narration role values)) status = values_phase status
phase_in asked status = phase_of status
