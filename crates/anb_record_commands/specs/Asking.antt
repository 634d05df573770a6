-- What the code's reading of the words stands for.
use Rattle.std.specs.Prelude.{Option, Some, None}
use Rattle.anb_words.specs.Commands.{place_by}
use Rattle.anb_record_commands.specs.declared.words.RecordingWords.{RecordingWords}
use Rattle.anb_record_commands.specs.declared.words.RecordingWords.TheVariants as code
use Rattle.anb_record_commands.specs.Words.{Recording, branch, enact, host, play}

abbrev pub recording : RecordingWords → Recording
recording (code.Play words folder) =
    play words.narration.now words.name.now words.values.now (place_by words.endpoint) folder.now
recording (code.Enact words folder) =
    enact words.code.now words.values.now (place_by words.endpoint) folder.now
recording (code.Branch words folder) =
    branch words.play.narration.now words.play.name.now words.play.values.now words.told (place_by words.play.endpoint) folder.now
recording (code.Host words folder) =
    host words.narration.now words.name.now words.values.now (place_by words.endpoint) folder.now

abbrev pub recording_by : Option RecordingWords → Option Recording
recording_by None = None
recording_by (Some words) = Some (recording words)
