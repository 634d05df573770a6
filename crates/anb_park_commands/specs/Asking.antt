-- What the code's reading of the words stands for.
use Rattle.std.specs.Prelude.{Option, Some, None}
use Rattle.anb_words.specs.Commands.{place_by}
use Rattle.anb_park_commands.specs.declared.words.RecordWords.{RecordWords}
use Rattle.anb_park_commands.specs.declared.words.RecordWords.TheVariants as code
use Rattle.anb_park_commands.specs.Words.{Recorded, park, resume}

abbrev pub recorded : RecordWords → Recorded
recorded (code.Park words file) =
    park words.play.narration.now words.play.name.now words.play.values.now words.key.now (place_by words.play.endpoint) file.now
recorded (code.Resume words file) =
    resume words.narration.now words.name.now words.parked.now words.key.now (place_by words.endpoint) file.now

abbrev pub recorded_by : Option RecordWords → Option Recorded
recorded_by None = None
recorded_by (Some words) = Some (recorded words)
