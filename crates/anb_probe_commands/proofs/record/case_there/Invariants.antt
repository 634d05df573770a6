use Rattle.std.proofs.Common.{ℕ, ◌<◌, ◌+◌}
use Rattle.anb_recording.specs.Journals.{IsAbsent}
use Rattle.anb_probe_commands.specs.Records.{errors_of, transcript_of}
use Rattle.anb_probe_commands.proofs.record.case_there.Given as goal

abbrev pub invariant-loop-case : goal.invariant-loop-case
invariant-loop-case g l = record {
  transcripts : (case : ℕ) → case < l.case → IsAbsent (g.J.Store.state l.journal) (transcript_of l.folder (case + 1));
  errors : (case : ℕ) → case < l.case → IsAbsent (g.J.Store.state l.journal) (errors_of l.folder (case + 1));
}
