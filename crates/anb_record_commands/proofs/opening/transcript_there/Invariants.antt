use Rattle.std.proofs.Common.{ℕ, ◌<◌}
use Rattle.anb_recording.specs.Journals.{IsAbsent}
use Rattle.anb_host_recording.specs.Entries.{transcript_of}
use Rattle.anb_record_commands.proofs.opening.transcript_there.Given as goal

abbrev pub invariant-loop-session : goal.invariant-loop-session
invariant-loop-session g l = record {
  none : (session : ℕ) → session < l.session → IsAbsent (g.J.Store.state l.journal) (transcript_of l.folder session);
}
