-- From what has come of a trace to what the command does.
use Rattle.std.proofs.Common.{◌≡◌, ◌≢◌, ◌⊎◌, ℕ, Bool, true, false, List, [], take, length, Option, Some, None, refl, ap, sym, ◌∙◌, subst, inl, inr}
use Rattle.anb_base.specs.Moves.{Put, PutPrefix}
use Rattle.anb_base.specs.Wires.{WireState}
use Rattle.anb_base.specs.declared.TheConstants.{ARRIVAL, WIDE}
use Rattle.anb_base.proofs.Moving.{put_nothing}
use Rattle.anb_code.specs.CodeValue.{CodeValue}
use Rattle.anb_code.specs.Taking.{take_texts}
use Rattle.anb_code.specs.Verified.{IsVerifiedCode}
use Rattle.anb_compile.specs.Fitting.{FitsRole}
use Rattle.anb_machine.specs.ByteRuns.{run_bytes}
use Rattle.anb_plays.specs.Plays.{Played}
use Rattle.anb_protocol.specs.Protocols.{ProtocolValue}
use Rattle.anb_term.specs.Tree.{Tree}
use Rattle.anb_trace.specs.Traces.{trace}
use Rattle.anb_transcript.specs.Replays.{ReplaysOne, arrivals_of}
use Rattle.anb_transcript.specs.declared.following.ReplayEnd.{ReplayEnd}
use Rattle.anb_transcript.specs.declared.following.ReplayEnd.TheVariants as replayed
use Rattle.anb_transcript.specs.declared.transcript.TranscriptLine.{TranscriptLine}
use Rattle.anb_status.specs.declared.status.Status.{Status}
use Rattle.anb_status.specs.declared.status.Status.TheVariants.{FileFault, Unreached, ReadFault, WriteFault, ChildFault, ChildSilent, Unwritten, NoMemory}
use Rattle.anb_command.specs.Fetches.{Files, IfTold}
use Rattle.anb_status.specs.Statuses.{before_reach, is_fault, phase_of}
use Rattle.anb_command.specs.Steps.{Answer, refused, given, HasOneAnswer, IsFailure}
use Rattle.anb_command.proofs.Answering.{late, refusing}
use Rattle.anb_command.proofs.Chains.{told_map}
use Rattle.anb_command.proofs.Ones.{not_both, same_given, same_refusal}
use Rattle.anb_command.proofs.Written.{faulty}
use Rattle.anb_role_commands.specs.Comparing.{IsComparable, IsReplayed}
use Rattle.anb_role_commands.specs.PlayCommand.{PlayOf}
use Rattle.anb_role_commands.specs.Playing.{play_in}
use Rattle.anb_role_commands.specs.ReplayCommand.{Comparison, ComparisonIs, Compares, IsReadToCompare, ReplayOutcome, status_of}
use Rattle.anb_role_commands.proofs.Replaying.{comparison_quiet, compares, only_one}
use Rattle.anb_trace_commands.specs.TraceCommand.{CompletesTrace, DoesTrace, IsTracedTo, IsTracing, Outcome, TellsPlay, WritesPart, subject_by}
use Rattle.anb_trace_commands.specs.Tracing.{HasComeOf, IsDueAs, IsTraceable, job_by}
use Rattle.anb_trace.proofs.Ending.{traces_tell}

module _ (narration name values transcript : List ℕ) (host_seed : Option (List ℕ)) (session : ℕ)
    (one : (files : Files) → HasOneAnswer (ComparisonIs narration name values transcript host_seed files)) where
  abbrev Asks : Files → Answer Comparison → Type 0
  Asks files = ComparisonIs narration name values transcript host_seed files

  abbrev Reads : Files → List ℕ → Type 0
  Reads files = IsReadToCompare narration name values transcript host_seed files

  -- an outcome is one of `replay`
  untold : (files : Files) (s : Status) (out : List ℕ) → Outcome session (Asks files) s out → ReplayOutcome narration name values transcript host_seed session files s
  untold files s out (inl (refuses, is)) = inl refuses
  untold files s out (inr (asked, asks, traced)) = inr (asked, asks, traced.compares)

  module _ (laws : ReplaysOne) (p : ProtocolValue) (role : ℕ) (code : CodeValue) (initial : List (List ℕ)) (seed : List ℕ) (lines : List TranscriptLine)
      (fits : FitsRole p role code) (verified : IsVerifiedCode ARRIVAL WIDE code) (count : length initial ≡ length (take_texts code.instrs)) where
    abbrev asked : Comparison
    asked = record { job = job_by p role initial seed; lines = lines }

    abbrev R : List (List ℕ) → Played (List ℕ)
    R = play_in code initial seed session

    module _ (files : Files) (ready : IsTraceable (Asks files) p role code initial seed lines) where
      abbrev comparable : IsComparable (Asks files) code initial seed lines
      comparable = record { asked = asked; asks = ready.asks; comes = ready.comes; same = refl; bytes = ready.bytes }

      not_wanting : (s : Status) → s ≢ NoMemory → (end : ReplayEnd) → s ≡ status_of end → end ≢ replayed.NoMemory
      not_wanting s some end is none = some (is ∙ ap status_of none)

      compared : (s : Status) → s ≢ NoMemory → IsReplayed R lines s → Compares session asked s
      compared s some (end, replays, is) =
          subst (λ (t : Status). Compares session asked t) (sym is) (compares narration name values transcript host_seed session one laws code initial seed lines files comparable end (not_wanting s some end is) replays)

      told : (terms : List Tree) → TellsPlay session asked (subject_by (job_by p role initial seed) code terms) (trace (subject_by (job_by p role initial seed) code terms) initial seed session (arrivals_of lines))
      told terms = record {
        play = R (arrivals_of lines);
        plays = (ready.comes session (arrivals_of lines) ready.bytes (R (arrivals_of lines))).1 refl;
        run = run_bytes code initial seed session (arrivals_of lines);
        same = refl;
        tells = traces_tell (subject_by (job_by p role initial seed) code terms) initial seed session (arrivals_of lines) verified count;
      }

      traced_to : (s : Status) (text : List ℕ) → IsDueAs p role code initial seed session lines s text → IsTracedTo session asked s text
      traced_to s text due = record {
        compares = compared s due.some due.replayed;
        traced = record {
          code = code;
          accepted = verified;
          fits = fits;
          terms = due.terms;
          are = due.are;
          traced = trace (subject_by (job_by p role initial seed) code due.terms) initial seed session (arrivals_of lines);
          traces = refl;
          tells = told due.terms;
          is = due.is;
        };
      }

      module _ (w now : Option (List ℕ)) where
        unmoved : now ≡ w → Put w now []
        unmoved e = subst (λ (x : Option (List ℕ)). Put w x []) (sym e) (put_nothing w)

        part_of : ((s : Status) × (text : List ℕ) × IsDueAs p role code initial seed session lines s text × PutPrefix w now text) → (out : List ℕ) × WritesPart session (Asks files) out × Put w now out
        part_of (s, text, due, (n, within, put)) = (take n text, (asked, ready.asks, (s, text, traced_to s text due, (n, refl))), put)

        concluded : (s : Status) → is_fault s ≡ false → ((text : List ℕ) × IsDueAs p role code initial seed session lines s text × Put w now text) → IsTracing session (Asks files) s w now
        concluded s quiet (text, due, put) = record {
          is = λ _. (text, inr (asked, ready.asks, traced_to s text due), put);
          only = λ _ t out outcome. same t out outcome due.replayed;
          cut_short = λ fault. faulty (sym fault ∙ quiet);
        } where
          same : (t : Status) (out : List ℕ) → Outcome session (Asks files) t out → IsReplayed R lines s → s ≡ t
          same t out outcome (end, replays, is) =
              is ∙ only_one narration name values transcript host_seed session one laws code initial seed lines files comparable end (not_wanting s due.some end is) replays t (untold files t out outcome)

        comes : (s : Status) → HasComeOf p role code initial seed session lines s w now → IsTracing session (Asks files) s w now
        comes (FileFault file) o = absurd o
        comes ReadFault o = absurd o
        comes (ChildFault child) o = absurd o
        comes (ChildSilent child seconds) o = absurd o
        comes (Unwritten file) o = absurd o
        comes (Unreached place) o = record { is = faulty; only = faulty; cut_short = λ _. ([], ((asked, ready.asks), refl), unmoved o) }
        comes WriteFault o = record { is = faulty; only = faulty; cut_short = λ _. part_of o }
        comes NoMemory o = record { is = faulty; only = faulty; cut_short = λ _. by o } where
          by : (now ≡ w) ⊎ ((s : Status) × (text : List ℕ) × IsDueAs p role code initial seed session lines s text × PutPrefix w now text) → (out : List ℕ) × ((out ≡ []) ⊎ WritesPart session (Asks files) out) × Put w now out
          by (inl e) = ([], inl refl, unmoved e)
          by (inr part) = let q = part_of part in (q.0, inr q.1, q.2)
        comes s o = concluded s refl o

    pub does_traced : (told : Option Files) (S T : WireState) (s : Status) → (phase_of s ≡ before_reach → ⊥)
        → IfTold told (λ files. IsTraceable (Asks files) p role code initial seed lines) → HasComeOf p role code initial seed session lines s S.written T.written
        → DoesTrace narration name values transcript host_seed session told S T s
    does_traced told S T s not_early ready o = record {
      refuses = told_map told (λ files (r : IsTraceable (Asks files) p role code initial seed lines).
          late (λ (c : Comparison). PlayOf c.job) (Asks files) (one files) (comparison_quiet narration name values transcript host_seed files) (Reads files) s asked r.asks not_early) ready;
      outcome = told_map told (λ files (r : IsTraceable (Asks files) p role code initial seed lines). comes files r S.written T.written s o) ready;
    }

  -- ---- where nothing is traced

  module _ (files : Files) (w : Option (List ℕ)) where
    quiet_refusal : (s : Status) → Asks files (refused s) → is_fault s ≡ false → IsTracing session (Asks files) s w w
    quiet_refusal s asks quiet = record {
      is = λ _. ([], inl (asks, refl), put_nothing w);
      only = λ _. only;
      cut_short = λ fault. faulty (sym fault ∙ quiet);
    } where
      only : (t : Status) (out : List ℕ) → Outcome session (Asks files) t out → s ≡ t
      only t out (inl (refuses, is)) = same_refusal s t (one files (refused s) (refused t) asks refuses)
      only t out (inr (other, also, done)) = not_both s other (one files (refused s) (given other) asks also)

    nothing_traced : (s : Status) (P : List ℕ → Type 0) → IsFailure s P (Asks files (refused s)) → IsTracing session (Asks files) s w w
    nothing_traced (FileFault file) P fails = record { is = faulty; only = faulty; cut_short = λ _. ([], refl, put_nothing w) }
    nothing_traced NoMemory P fails = record { is = faulty; only = faulty; cut_short = λ _. ([], inl refl, put_nothing w) }
    nothing_traced s P asks = let quiet = comparison_quiet narration name values transcript host_seed files in quiet_refusal s asks (quiet.each s asks).0

  pub does_refused : (told : Option Files) (S : WireState) (s : Status) → IsFailure s (λ file. IfTold told (λ files. Reads files file)) (IfTold told (λ files. Asks files (refused s)))
      → DoesTrace narration name values transcript host_seed session told S S s
  does_refused None S s f = record { refuses = tt; outcome = tt }
  does_refused (Some files) S s f = record {
    refuses = refusing (λ (c : Comparison). PlayOf c.job) (Asks files) (one files) (comparison_quiet narration name values transcript host_seed files) (Reads files) s f;
    outcome = nothing_traced files S.written s (λ file. Reads files file) f;
  }

  -- ---- where nothing failed

  pub completes_trace : (told : Option Files) (S T : WireState) (s : Status) → DoesTrace narration name values transcript host_seed session told S T s → (is_fault s ≡ true → s ≡ NoMemory)
      → CompletesTrace narration name values transcript host_seed session told S T s
  completes_trace told S T s does only_memory = told_map told (λ files o asked asks. by files o asked asks (is_fault s) refl) does.outcome where
    by : (files : Files) → IsTracing session (Asks files) s S.written T.written → (asked : Comparison) → Asks files (given asked) → (b : Bool) → is_fault s ≡ b → Compares session asked s ⊎ (s ≡ NoMemory)
    by files o asked asks true fault = inr (only_memory fault)
    by files o asked asks false calm = from (o.is calm) where
      from : ((out : List ℕ) × Outcome session (Asks files) s out × Put S.written T.written out) → Compares session asked s ⊎ (s ≡ NoMemory)
      from (out, inl (refuses, is), put) = not_both s asked (one files (refused s) (given asked) refuses asks)
      from (out, inr (other, also, done), put) = inl (subst (λ (x : Comparison). Compares session x s) (same_given other asked (one files (given other) (given asked) also asks)) done.compares)
