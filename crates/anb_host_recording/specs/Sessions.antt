-- The transcript of one session, by its own events.
use Rattle.std.specs.Prelude.{◌≡◌, ℕ, ◌+◌, List, [], ◌∷◌, ◌++◌, length}
use Rattle.std.specs.List.{AllByRecursion}
use Rattle.anb_plays.specs.Plays.{End, Run, done, stopped, waiting}
use Rattle.anb_transcript.specs.Replays.{Replays, arrivals_of, last_arrival}
use Rattle.anb_transcript.specs.declared.following.ReplayEnd.{ReplayEnd}
use Rattle.anb_transcript.specs.declared.following.ReplayEnd.TheVariants as replayed
use Rattle.anb_transcript.specs.declared.transcript.TranscriptLine.{TranscriptLine}
use Rattle.anb_host.specs.declared.event.HostEvent.{HostEvent}
use Rattle.anb_host.specs.Own.{accepted, own}
use Rattle.anb_host_recording.specs.Entries.{lines_of}

-- the lines of session s, by what it is told of its own events
module _ (play : Run) (s : ℕ) where
  abbrev pub lines_after : (past : List HostEvent) → List HostEvent → List TranscriptLine
  lines_after past [] = []
  lines_after past (x ∷ events) = lines_of x (own play s past x) ++ lines_after (past ++ x ∷ []) events

  abbrev pub session_lines : List HostEvent → List TranscriptLine
  session_lines events = lines_after [] events

-- how a replay of these lines ends, where the play ended so: it waits as a transcript that ends before the event
abbrev pub replay_end : (lines : List TranscriptLine) → End → ReplayEnd
replay_end lines done = replayed.Follows
replay_end lines (stopped e at) = replayed.Stopped (record { event = e; at = at }) (last_arrival lines)
replay_end lines (waiting e) = replayed.Short (length lines + 1)

-- The transcript of a started session: its arrivals are those that the session accepted, and a replay of it
-- over the session's play ends as that play did over them.
pub record IsTranscript (play : Run) (events : List HostEvent) (lines : List TranscriptLine) : Type 0 where
  pub heard : arrivals_of lines ≡ accepted play events
  pub replays : Replays play lines (replay_end lines (play (accepted play events)).end)
