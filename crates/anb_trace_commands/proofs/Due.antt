-- What has come of a trace that was written behind its replay.
use Rattle.std.proofs.Common.{◌≡◌, ◌≢◌, ℕ, List, ◌++◌, Option, Some, Result, Ok, Err, refl, ap, sym, ◌∙◌, subst, inl, inr, arith}
use Rattle.anb_base.specs.Moves.{Put}
use Rattle.anb_base.specs.Wires.{WireState}
use Rattle.anb_code.specs.CodeValue.{CodeValue}
use Rattle.anb_explain.specs.Explained.{register_terms}
use Rattle.anb_explain.specs.Explanations.{ExplanationValue}
use Rattle.anb_protocol.specs.Plans.{PlanEvent, plan_of}
use Rattle.anb_protocol.specs.Protocols.{ProtocolValue}
use Rattle.anb_text.specs.Writing.{IsWritten}
use Rattle.anb_text.specs.declared.writing.WriteNo.{WriteNo}
use Rattle.anb_text.specs.declared.writing.WriteNo.TheVariants as writing
use Rattle.anb_trace.specs.Traces.{trace}
use Rattle.anb_trace.specs.Words.{subject_of}
use Rattle.anb_transcript.specs.Replays.{arrivals_of}
use Rattle.anb_transcript.specs.declared.following.ReplayEnd.{ReplayEnd}
use Rattle.anb_transcript.specs.declared.following.ReplayEnd.TheVariants as replayed
use Rattle.anb_transcript.specs.declared.transcript.TranscriptLine.{TranscriptLine}
use Rattle.anb_status.specs.declared.status.Status.{Status}
use Rattle.anb_status.specs.declared.status.Status.TheVariants.{NoMemory}
use Rattle.anb_command.specs.OverWire.{OnlyWrites}
use Rattle.anb_role_commands.specs.Comparing.{IsReplayed}
use Rattle.anb_role_commands.specs.Playing.{play_in}
use Rattle.anb_role_commands.specs.ReplayCommand.{status_of}
use Rattle.anb_trace_commands.specs.TraceCommand.{differing_line, subject_by}
use Rattle.anb_trace_commands.specs.Tracing.{EndsAs, HasComeOf, IsDueAs, ended_by, job_by}

module _ (p : ProtocolValue) (role : ℕ) (code : CodeValue) (initial : List (List ℕ)) (seed : List ℕ) (session : ℕ) (lines : List TranscriptLine) where
  -- the text that is written
  pub due_so : (s : Status) (e : ExplanationValue) (arrivals : List (List ℕ)) → s ≢ NoMemory → IsReplayed (play_in code initial seed session) lines s
      → e.plan ≡ plan_of p role → register_terms p role code ≡ Some e.terms → arrivals ≡ arrivals_of lines
      → IsDueAs p role code initial seed session lines s (trace (subject_of p code e) initial seed session arrivals ++ differing_line s)
  due_so s e arrivals some replays plan terms same = record {
    some = some;
    replayed = replays;
    terms = e.terms;
    are = terms;
    is = ap (λ (events : List PlanEvent). trace (record { protocol = p; plan = events; code = code; terms = e.terms }) initial seed session arrivals ++ differing_line s) plan
        ∙ ap (λ (all : List (List ℕ)). trace (subject_by (job_by p role initial seed) code e.terms) initial seed session all ++ differing_line s) same;
  }

  module _ (w now : Option (List ℕ)) where
    whole_so : (end : ReplayEnd) (text : List ℕ) → IsDueAs p role code initial seed session lines (status_of end) text → Put w now text → HasComeOf p role code initial seed session lines (status_of end) w now
    whole_so replayed.Follows text due put = (text, due, put)
    whole_so (replayed.Differs n d) text due put = (text, due, put)
    whole_so (replayed.Short event) text due put = (text, due, put)
    whole_so (replayed.Stopped halt n) text due put = (text, due, put)
    whole_so replayed.NoMemory text due put = absurd (due.some refl)

    whole : (s : Status) (text : List ℕ) → IsDueAs p role code initial seed session lines s text → IsReplayed (play_in code initial seed session) lines s → Put w now text → HasComeOf p role code initial seed session lines s w now
    whole s text due (end, replays, is) put =
        subst (λ (t : Status). HasComeOf p role code initial seed session lines t w now) (sym is)
        (whole_so end text (subst (λ (t : Status). IsDueAs p role code initial seed session lines t text) is due) put)

    pub come_so : (r : Result (Unit {0}) WriteNo) (s : Status) (text : List ℕ) (f g : ℕ) → IsDueAs p role code initial seed session lines s text → IsWritten text r w now f g
        → HasComeOf p role code initial seed session lines (ended_by r s) w now
    come_so (Ok y) s text f g due is = whole s text due due.replayed is.whole
    come_so (Err writing.Failed) s text f g due is = (s, text, due, is.part)
    come_so (Err writing.NoMemory) s text f g due is = inr (s, text, due, is.part)

  pub ends_so : (r : Result (Unit {0}) WriteNo) (s : Status) (text : List ℕ) (S T : WireState) → IsReplayed (play_in code initial seed session) lines s → IsWritten text r S.written T.written S.write_faults T.write_faults
      → EndsAs (ended_by r s) S T
  ends_so (Ok y) s text S T (end, replays, is) written = inl (end, is, written.quiet (λ failed. absurd (cc)))
  ends_so (Err writing.Failed) s text S T replays written = inr (inl (refl, written.cause refl))
  ends_so (Err writing.NoMemory) s text S T replays written = inr (inr (refl, written.quiet (λ failed. absurd (cc))))

-- nothing was written
pub only_same : (S : WireState) → OnlyWrites S S
only_same S = record { same = refl; never_falls = omega arith }
