-- What the code's reading of the words stands for.
use Rattle.std.specs.Prelude.{Option, Some, None}
use Rattle.anb_session_commands.specs.declared.words.SessionWords.{SessionWords}
use Rattle.anb_session_commands.specs.declared.words.SessionWords.TheVariants as code
use Rattle.anb_session_commands.specs.Words.{Following, replay, trace}

abbrev pub following : SessionWords → Following
following (code.Replay words session) = replay words.narration.now words.name.now words.values.now words.transcript.now session
following (code.Trace words session) = trace words.narration.now words.name.now words.values.now words.transcript.now session

abbrev pub following_by : Option SessionWords → Option Following
following_by None = None
following_by (Some words) = Some (following words)
