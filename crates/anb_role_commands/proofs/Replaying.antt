-- What comes of a transcript, and when `replay` completes.
use Rattle.std.proofs.Common.{◌≡◌, ◌≢◌, ℕ, ◌⊎◌, Bool, true, false, List, [], ◌∷◌, ◌++◌, length, drop, Option, Some, None, Result, Ok, Err, refl, ap, sym, ◌∙◌, subst, inl, inr, append-nil, append_assoc}
use Rattle.std.specs.List.{AllByRecursion}
use Rattle.std.proofs.Math.Path.{fun_ext}
use Rattle.anb_base.specs.Bytes.{IsBytes}
use Rattle.anb_base.specs.Wires.{WireState}
use Rattle.anb_base.specs.declared.place.Place.TheVariants.{Stdio}
use Rattle.anb_code.specs.CodeValue.{CodeValue}
use Rattle.anb_plays.specs.Plays as plays
use Rattle.anb_plays.specs.Plays.{Played}
use Rattle.anb_plays.specs.Runs.{no_place, without_place}
use Rattle.anb_read.specs.Laws.{NarrationsAreUnique, RefusalsAreUnique, NoneIsBoth}
use Rattle.anb_machine.specs.declared.turn.Halt.{Halt}
use Rattle.anb_transcript.specs.Replays.{AreDue, IsDue, Replays, ReplaysOne, arrivals_of, due_after, due_of, messages_of}
use Rattle.anb_transcript.specs.Texts.{ReadsOne}
use Rattle.anb_transcript.specs.declared.following.Due.{Due}
use Rattle.anb_transcript.specs.declared.following.ReplayEnd.{ReplayEnd}
use Rattle.anb_transcript.specs.declared.following.ReplayEnd.TheVariants as replayed
use Rattle.anb_transcript.specs.declared.transcript.TranscriptLine.{TranscriptLine}
use Rattle.anb_transcript.specs.declared.transcript.TranscriptLine.TheVariants.{In, Out}
use Rattle.anb_values.specs.Fit.{FitIsUnique}
use Rattle.anb_status.specs.declared.status.Status.{Status}
use Rattle.anb_status.specs.declared.status.Status.TheVariants.{Done, FileFault, Unreached, ReadFault, WriteFault, NoMemory}
use Rattle.anb_command.specs.Causes.{HasWireCause}
use Rattle.anb_command.specs.Fetches.{Files, IfTold, IsOneOf}
use Rattle.anb_command.specs.Files.{TranscriptInFile}
use Rattle.anb_command.specs.OverWire.{DidNotReach, HasReached, OverWire}
use Rattle.anb_command.specs.Refusing.{IsRefusing}
use Rattle.anb_status.specs.Statuses.{IsEarly, OnUnreached, after_reach, before_reach, is_fault, phase_of}
use Rattle.anb_command.specs.Steps.{Answer, refused, given, HasOneAnswer, IsFailure}
use Rattle.anb_command.proofs.Answering.{late, refusing}
use Rattle.anb_command.proofs.Chains.{told_map}
use Rattle.anb_command.proofs.Ones.{RefusesQuietly, is_one, is_quiet, not_both, same_given, same_refusal, then_one, then_quiet}
use Rattle.anb_command.proofs.OverWire.{not_reached, only_reached}
use Rattle.anb_command.proofs.Preparing.{told_both}
use Rattle.anb_command.proofs.Transcripts.{transcript_in_file_one, transcript_in_file_quiet}
use Rattle.anb_command.proofs.Written.{faulty}
use Rattle.anb_role_commands.specs.Comparing.{IsComparable, IsCompared, IsReplayed}
use Rattle.anb_role_commands.specs.Jobs.{Job, JobIs}
use Rattle.anb_role_commands.specs.PlayCommand.{PlayOf}
use Rattle.anb_role_commands.specs.Playing.{IsPlayableInEach, play_in}
use Rattle.anb_role_commands.specs.ReplayCommand.{Comparison, ComparisonIs, Compares, CompletesReplay, DoesReplay, IsReadToCompare, OnlyReaches, ReplayOutcome, status_of}
use Rattle.anb_role_commands.proofs.Tasks.{job_one, job_quiet}

-- ---- over runs that differ in how they tell a stop

abbrev pub moved : (Halt → Halt) → Result Due Halt → Result Due Halt
moved f (Ok due) = Ok due
moved f (Err halt) = Err (f halt)

abbrev pub moved_end : (Halt → Halt) → ReplayEnd → ReplayEnd
moved_end f (replayed.Stopped halt line) = replayed.Stopped (f halt) line
moved_end f end = end

is_due_moved : (f : Halt → Halt) (due : Result Due Halt) (line : TranscriptLine) → IsDue due line → IsDue (moved f due) line
is_due_moved f (Ok due) line is = is
is_due_moved f (Err halt) line never = absurd never

module _ (f : Halt → Halt) (R S : List (List ℕ) → Played (List ℕ)) (lines : List TranscriptLine)
    (due_as : (before after : List TranscriptLine) → lines ≡ before ++ after → due_after S before ≡ moved f (due_after R before)) where
  are_due_as : (before after : List TranscriptLine) → lines ≡ before ++ after → AreDue R before → AreDue S before
  are_due_as before after is due = λ first last line parts.
      let here : lines ≡ first ++ (line ∷ last ++ after) = is ∙ ap (λ (x : List TranscriptLine). x ++ after) parts ∙ append_assoc first (line ∷ last) after in
      subst (λ (d : Result Due Halt). IsDue d line) (sym (due_as first (line ∷ last ++ after) here)) (is_due_moved f (due_after R first) line (due first last line parts))

  all_lines : lines ≡ lines ++ []
  all_lines = sym (append-nil lines)

  pub replays_as : (end : ReplayEnd) → Replays R lines end → Replays S lines (moved_end f end)
  replays_as replayed.Follows (due, end) = (are_due_as lines [] all_lines due, due_as lines [] all_lines ∙ ap (moved f) end)
  replays_as (replayed.Differs n d) (before, line, after, is, at, due, next, other) =
      (before, line, after, is, at, are_due_as before (line ∷ after) is due, due_as before (line ∷ after) is ∙ ap (moved f) next, other)
  replays_as (replayed.Short event) (d, due, next, some, at) =
      (d, are_due_as lines [] all_lines due, due_as lines [] all_lines ∙ ap (moved f) next, some, at)
  replays_as (replayed.Stopped halt n) (before, after, is, at, due, stop) =
      (before, after, is, at, are_due_as before after is due, due_as before after is ∙ ap (moved f) stop)
  replays_as replayed.NoMemory is = tt

-- a stop without its instruction
abbrev pub untold : Halt → Halt
untold halt = record { event = halt.event; at = 0 }

due_untold : (messages : List (List ℕ)) (end : plays.End) → due_of messages (no_place end) ≡ moved untold (due_of messages end)
due_untold (message ∷ messages) end = refl
due_untold [] plays.done = refl
due_untold [] (plays.waiting e) = refl
due_untold [] (plays.stopped e at) = refl

status_untold : (end : ReplayEnd) → status_of (moved_end untold end) ≡ status_of end
status_untold replayed.Follows = refl
status_untold (replayed.Differs n d) = refl
status_untold (replayed.Short event) = refl
status_untold (replayed.Stopped halt n) = refl
status_untold replayed.NoMemory = refl

-- a replay over a code's run is one over its play
pub replayed_untold : (R : List (List ℕ) → Played (List ℕ)) (lines : List TranscriptLine) (end : ReplayEnd) → Replays R lines end → IsReplayed (λ arrivals. without_place (R arrivals)) lines (status_of end)
replayed_untold R lines end replays =
    let due : (before after : List TranscriptLine) → lines ≡ before ++ after → due_after (λ arrivals. without_place (R arrivals)) before ≡ moved untold (due_after R before) =
    λ before after is. due_untold (drop (length (messages_of before)) (R (arrivals_of before)).sent) (R (arrivals_of before)).end in
    (moved_end untold end, replays_as untold R (λ arrivals. without_place (R arrivals)) lines due end replays, sym (status_untold end))

-- ---- over runs that are the same over bytes

abbrev pub kept : Halt → Halt
kept halt = halt

moved_kept : (due : Result Due Halt) → moved kept due ≡ due
moved_kept (Ok due) = refl
moved_kept (Err halt) = refl

end_kept : (end : ReplayEnd) → moved_end kept end ≡ end
end_kept replayed.Follows = refl
end_kept (replayed.Differs n d) = refl
end_kept (replayed.Short event) = refl
end_kept (replayed.Stopped halt n) = refl
end_kept replayed.NoMemory = refl

bytes_before : (before after : List TranscriptLine) → AllByRecursion IsBytes (arrivals_of (before ++ after)) → AllByRecursion IsBytes (arrivals_of before)
bytes_before [] after all = tt
bytes_before (In arrival ∷ before) after all = (all.0, bytes_before before after all.1)
bytes_before (Out message ∷ before) after all = bytes_before before after all

replays_same : (R S : List (List ℕ) → Played (List ℕ)) (lines : List TranscriptLine) → AllByRecursion IsBytes (arrivals_of lines)
    → ((arrivals : List (List ℕ)) → AllByRecursion IsBytes arrivals → S arrivals ≡ R arrivals) → (end : ReplayEnd) → Replays R lines end → Replays S lines end
replays_same R S lines bytes same end replays =
    let due : (before after : List TranscriptLine) → lines ≡ before ++ after → due_after S before ≡ moved kept (due_after R before) =
    λ before after is.
    ap (λ (p : Played (List ℕ)). due_of (drop (length (messages_of before)) p.sent) p.end)
    (same (arrivals_of before) (bytes_before before after (subst (λ (x : List TranscriptLine). AllByRecursion IsBytes (arrivals_of x)) is bytes)))
    ∙ sym (moved_kept (due_after R before)) in
    subst (Replays S lines) (end_kept end) (replays_as kept R S lines due end replays)

-- ---- what is asked is one

module _ (narration name values transcript : List ℕ) (host_seed : Option (List ℕ)) where
  module _ (narrations : NarrationsAreUnique) (refusals : RefusalsAreUnique) (none : NoneIsBoth) (fits : FitIsUnique) (reads : ReadsOne) (files : Files) where
    pub comparison_one : HasOneAnswer (ComparisonIs narration name values transcript host_seed files)
    comparison_one =
        then_one (JobIs files narration name values host_seed) _ (job_one narrations refusals none fits files narration name values host_seed) (λ (job : Job).
        then_one (TranscriptInFile files transcript) _ (transcript_in_file_one files transcript reads) (λ (lines : List TranscriptLine).
        is_one (record { job = job; lines = lines })))

  pub comparison_quiet : (files : Files) → RefusesQuietly (ComparisonIs narration name values transcript host_seed files)
  comparison_quiet files =
      then_quiet (job_quiet files narration name values host_seed) (λ (job : Job).
      then_quiet (transcript_in_file_quiet files transcript) (λ (lines : List TranscriptLine). is_quiet _))

  -- ---- the steps

  module _ (told : Option Files) where
    pub play_refused : (s : Status) → IfTold told (λ files. JobIs files narration name values host_seed (refused s)) → IfTold told (λ files. ComparisonIs narration name values transcript host_seed files (refused s))
    play_refused s first = told_map told (λ files f. inl (s, f, refl)) first

    pub transcript_refused : (code : CodeValue) (initial : List (List ℕ)) (seed : List ℕ) (s : Status) → IfTold told (λ files. IsPlayableInEach (JobIs files narration name values host_seed) code initial seed)
        → IfTold told (λ files. TranscriptInFile files transcript (refused s)) → IfTold told (λ files. ComparisonIs narration name values transcript host_seed files (refused s))
    transcript_refused code initial seed s first next =
        told_both told (λ files (f : IsPlayableInEach (JobIs files narration name values host_seed) code initial seed) n. inr (f.asked, f.asks, inl (s, n, refl))) first next

    pub comparison_ready : (code : CodeValue) (initial : List (List ℕ)) (seed : List ℕ) (lines : List TranscriptLine) → AllByRecursion IsBytes (arrivals_of lines)
        → IfTold told (λ files. IsPlayableInEach (JobIs files narration name values host_seed) code initial seed)
        → IfTold told (λ files. TranscriptInFile files transcript (given lines)) → IfTold told (λ files. IsComparable (ComparisonIs narration name values transcript host_seed files) code initial seed lines)
    comparison_ready code initial seed lines bytes first next =
        told_both told (λ files (f : IsPlayableInEach (JobIs files narration name values host_seed) code initial seed) n. record {
          asked = record { job = f.asked; lines = lines };
          asks = inr (f.asked, f.asks, inr (lines, n, refl));
          comes = f.comes;
          same = refl;
          bytes = bytes;
        }) first next

    pub transcript_read : (code : CodeValue) (initial : List (List ℕ)) (seed : List ℕ) (file : List ℕ) → IfTold told (λ files. IsPlayableInEach (JobIs files narration name values host_seed) code initial seed) → file ≡ transcript
        → IfTold told (λ files. IsReadToCompare narration name values transcript host_seed files file)
    transcript_read code initial seed file first is =
        told_map told (λ files (f : IsPlayableInEach (JobIs files narration name values host_seed) code initial seed). inr (is, (f.asked, f.asks))) first

-- ---- what comes of it

-- the status of a replay is no fault, but want of memory
pub quiet_end : (end : ReplayEnd) → is_fault (status_of end) ≡ false → end ≢ replayed.NoMemory
quiet_end replayed.NoMemory never = faulty never
quiet_end replayed.Follows quiet = λ never. absurd (cc)
quiet_end (replayed.Differs n d) quiet = λ never. absurd (cc)
quiet_end (replayed.Short event) quiet = λ never. absurd (cc)
quiet_end (replayed.Stopped halt n) quiet = λ never. absurd (cc)

pub after_end : (end : ReplayEnd) → (phase_of (status_of end) ≡ after_reach) ⊎ (status_of end ≡ NoMemory)
after_end replayed.NoMemory = inr refl
after_end replayed.Follows = inl refl
after_end (replayed.Differs n d) = inl refl
after_end (replayed.Short event) = inl refl
after_end (replayed.Stopped halt n) = inl refl

pub no_cause : (end : ReplayEnd) (T : WireState) → HasWireCause (Some Stdio) T T (status_of end)
no_cause replayed.NoMemory T = tt
no_cause replayed.Follows T = tt
no_cause (replayed.Differs n d) T = tt
no_cause (replayed.Short event) T = tt
no_cause (replayed.Stopped halt n) T = tt

-- over a machine that gives a code's run
pub replayed_by : (G R : List (List ℕ) → Played (List ℕ)) → ((arrivals : List (List ℕ)) → G arrivals ≡ R arrivals) → (lines : List TranscriptLine) (end : ReplayEnd) (s : Status)
    → Replays G lines end → s ≡ status_of end → IsReplayed (λ arrivals. without_place (R arrivals)) lines s
replayed_by G R same lines end s replays is =
    let it = replayed_untold R lines end (subst (λ (Q : List (List ℕ) → Played (List ℕ)). Replays Q lines end) (fun_ext same) replays) in
    (it.0, it.1, is ∙ it.2)

-- where the standard streams are reached, and where they aren't
module _ (S T : WireState) where
  pub replayed_wire : HasReached Stdio S T → (R : List (List ℕ) → Played (List ℕ)) (lines : List TranscriptLine) (s : Status) → IsReplayed R lines s → OverWire Stdio false s S T
  replayed_wire at R lines s (end, replays, is) = subst (λ (t : Status). OverWire Stdio false t S T) (sym is) (only_reached Stdio S T at (status_of end) (after_end end) (no_cause end T))

  pub reached_only : HasReached Stdio S T → T ≡ record S { reached = T.reached; reach_faults = T.reach_faults }
  reached_only at = at.same ∙ ap (λ (n : ℕ). record S { reached = T.reached; reach_faults = n }) (sym (ap (λ (w : WireState). w.reach_faults) at.same))

  pub tried_only : DidNotReach S T → OnlyReaches S T
  tried_only tried = tried.same ∙ ap (λ (r : Option (List ℕ)). record S { reached = r; reach_faults = T.reach_faults }) (sym (ap (λ (w : WireState). w.reached) tried.same))

  pub tried_wire : (s : Status) → s ≡ Unreached Stdio → DidNotReach S T → OverWire Stdio false s S T
  tried_wire s is tried = subst (λ (t : Status). OverWire Stdio false t S T) (sym is) (not_reached Stdio S T tried false)

-- ---- which file failed

module _ (narration values transcript file : List ℕ) where
  pub two_of_three : IsOneOf (narration ∷ values ∷ []) file → IsOneOf (narration ∷ values ∷ transcript ∷ []) file
  two_of_three (inl is) = inl is
  two_of_three (inr (inl is)) = inr (inl is)
  two_of_three (inr (inr never)) = absurd never

  pub third_of_three : file ≡ transcript → IsOneOf (narration ∷ values ∷ transcript ∷ []) file
  third_of_three is = inr (inr (inl is))

pub never_unreached : (end : ReplayEnd) (P : Status → Type 0) → OnUnreached (status_of end) (λ at. P (Unreached at))
never_unreached replayed.NoMemory P = tt
never_unreached replayed.Follows P = tt
never_unreached (replayed.Differs n d) P = tt
never_unreached (replayed.Short event) P = tt
never_unreached (replayed.Stopped halt n) P = tt

pub no_wire_fault : (end : ReplayEnd) → (status_of end ≢ ReadFault) × (status_of end ≢ WriteFault)
no_wire_fault replayed.NoMemory = (λ never. absurd (cc), λ never. absurd (cc))
no_wire_fault replayed.Follows = (λ never. absurd (cc), λ never. absurd (cc))
no_wire_fault (replayed.Differs n d) = (λ never. absurd (cc), λ never. absurd (cc))
no_wire_fault (replayed.Short event) = (λ never. absurd (cc), λ never. absurd (cc))
no_wire_fault (replayed.Stopped halt n) = (λ never. absurd (cc), λ never. absurd (cc))

pub late_end : (end : ReplayEnd) → phase_of (status_of end) ≡ before_reach → ⊥
late_end replayed.NoMemory never = absurd (cc)
late_end replayed.Follows never = absurd (cc)
late_end (replayed.Differs n d) never = absurd (cc)
late_end (replayed.Short event) never = absurd (cc)
late_end (replayed.Stopped halt n) never = absurd (cc)

module _ (narration name values transcript : List ℕ) (host_seed : Option (List ℕ)) (session : ℕ)
    (one : (files : Files) → HasOneAnswer (ComparisonIs narration name values transcript host_seed files)) where
  abbrev Asks : Files → Answer Comparison → Type 0
  Asks files = ComparisonIs narration name values transcript host_seed files

  quiet : (files : Files) → RefusesQuietly (Asks files)
  quiet files = comparison_quiet narration name values transcript host_seed files

  abbrev Outcome : Files → Status → Type 0
  Outcome files s = ReplayOutcome narration name values transcript host_seed session files s

  module _ (laws : ReplaysOne) (code : CodeValue) (initial : List (List ℕ)) (seed : List ℕ) (lines : List TranscriptLine) where
    abbrev R : List (List ℕ) → Played (List ℕ)
    R = play_in code initial seed session

    module _ (files : Files) (ready : IsComparable (Asks files) code initial seed lines) (end : ReplayEnd) (some : end ≢ replayed.NoMemory) (replays : Replays R lines end) where
      pub compares : Compares session ready.asked (status_of end)
      compares = record {
        plays = R;
        are = λ arrivals bytes. (ready.comes session arrivals bytes (R arrivals)).1 refl;
        end = end;
        some = some;
        replays = subst (λ (ls : List TranscriptLine). Replays R ls end) (sym ready.same) replays;
        is = refl;
      }

      same_end : (due : Status) (other : Compares session ready.asked due) → other.end ≡ end
      same_end due other =
          let same : (arrivals : List (List ℕ)) → AllByRecursion IsBytes arrivals → R arrivals ≡ other.plays arrivals =
          λ arrivals bytes. sym ((ready.comes session arrivals bytes (other.plays arrivals)).0 (other.are arrivals bytes)) in
          let there : Replays R lines other.end =
          replays_same other.plays R lines ready.bytes same other.end (subst (λ (ls : List TranscriptLine). Replays other.plays ls other.end) ready.same other.replays) in
          let law = laws R lines in
          law.3 other.end other.some there ∙ sym (law.3 end some replays)

      pub only_one : (due : Status) → Outcome files due → status_of end ≡ due
      only_one due (inl refusal) = not_both due ready.asked (one files (refused due) (given ready.asked) refusal ready.asks)
      only_one due (inr (other, asks, others)) =
          let is : other ≡ ready.asked = same_given other ready.asked (one files (given other) (given ready.asked) asks ready.asks) in
          let here : Compares session ready.asked due = subst (λ (c : Comparison). Compares session c due) is others in
          sym (here.is ∙ ap status_of (same_end due here))

    late_replay : (files : Files) → IsComparable (Asks files) code initial seed lines → (s : Status) → (phase_of s ≡ before_reach → ⊥) → IsRefusing (Asks files) (IsReadToCompare narration name values transcript host_seed files) s
    late_replay files ready s not_early = late (λ (c : Comparison). PlayOf c.job) (Asks files) (one files) (quiet files) (IsReadToCompare narration name values transcript host_seed files) s ready.asked ready.asks not_early

    module _ (told : Option Files) (S T : WireState) (ready : IfTold told (λ files. IsComparable (Asks files) code initial seed lines)) (only : OnlyReaches S T) where
      does_unreached : DoesReplay narration name values transcript host_seed session told S T (Unreached Stdio)
      does_unreached = record {
        refuses = told_map told (λ files (r : IsComparable (Asks files) code initial seed lines). late_replay files r (Unreached Stdio) (λ never. absurd (cc))) ready;
        is = told_map told (λ files (r : IsComparable (Asks files) code initial seed lines). faulty) ready;
        only = told_map told (λ files (r : IsComparable (Asks files) code initial seed lines). faulty) ready;
        unreached = told_map told (λ files (r : IsComparable (Asks files) code initial seed lines). (r.asked, r.asks)) ready;
        only_reaches = only;
        no_read_fault = λ never. absurd (cc);
        no_write_fault = λ never. absurd (cc);
      }

      does_end : (end : ReplayEnd) → Replays R lines end → DoesReplay narration name values transcript host_seed session told S T (status_of end)
      does_end end replays = record {
        refuses = told_map told (λ files (r : IsComparable (Asks files) code initial seed lines). late_replay files r (status_of end) (late_end end)) ready;
        is = told_map told (λ files (r : IsComparable (Asks files) code initial seed lines) q. inr (r.asked, r.asks, compares files r end (quiet_end end q) replays)) ready;
        only = told_map told (λ files (r : IsComparable (Asks files) code initial seed lines) q due outcome. only_one files r end (quiet_end end q) replays due outcome) ready;
        unreached = told_map told (λ files (r : IsComparable (Asks files) code initial seed lines). never_unreached end (λ _. (asked : Comparison) × Asks files (given asked))) ready;
        only_reaches = only;
        no_read_fault = (no_wire_fault end).0;
        no_write_fault = (no_wire_fault end).1;
      }

      pub does_compared : (s : Status) → IsCompared R lines s → DoesReplay narration name values transcript host_seed session told S T s
      does_compared s (inl is) = subst (DoesReplay narration name values transcript host_seed session told S T) (sym is) does_unreached
      does_compared s (inr (end, replays, is)) = subst (DoesReplay narration name values transcript host_seed session told S T) (sym is) (does_end end replays)

  -- ---- a refusal

  early_unreached : (s : Status) (P : Status → Type 0) → IsEarly s → OnUnreached s (λ at. P (Unreached at))
  early_unreached (Unreached at) P (inl early) = absurd (let never = early.0 in cc)
  early_unreached (Unreached at) P (inr never) = absurd (cc)
  early_unreached _ P early = tt

  early_no_fault : (s : Status) → IsEarly s → (s ≢ ReadFault) × (s ≢ WriteFault)
  early_no_fault s (inl early) = (
    λ is. let never : before_reach ≡ after_reach = sym early.0 ∙ ap phase_of is in absurd (cc),
    λ is. let never : before_reach ≡ after_reach = sym early.0 ∙ ap phase_of is in absurd (cc),
  )
  early_no_fault s (inr none) = (λ is. let never : NoMemory ≡ ReadFault = sym none ∙ is in absurd (cc), λ is. let never : NoMemory ≡ WriteFault = sym none ∙ is in absurd (cc))

  is_refusal : (files : Files) (P : List ℕ → Type 0) (s : Status) → IsFailure s P (Asks files (refused s)) → is_fault s ≡ false → Asks files (refused s)
  is_refusal files P (FileFault file) fails never = faulty never
  is_refusal files P NoMemory fails never = faulty never
  is_refusal files P s fails q = fails

  only_refusal : (files : Files) (s due : Status) → Asks files (refused s) → Outcome files due → s ≡ due
  only_refusal files s due asks (inl other) = same_refusal s due (one files (refused s) (refused due) asks other)
  only_refusal files s due asks (inr (asked, others, is)) = not_both s asked (one files (refused s) (given asked) asks others)

  pub does_refused : (told : Option Files) (S : WireState) (s : Status) → IsEarly s
      → IsFailure s (λ file. IfTold told (λ files. IsReadToCompare narration name values transcript host_seed files file)) (IfTold told (λ files. Asks files (refused s)))
      → DoesReplay narration name values transcript host_seed session told S S s
  does_refused None S s early fails = record {
    refuses = tt;
    is = tt;
    only = tt;
    unreached = tt;
    only_reaches = refl;
    no_read_fault = (early_no_fault s early).0;
    no_write_fault = (early_no_fault s early).1;
  }
  does_refused (Some files) S s early fails = record {
    refuses = refusing (λ (c : Comparison). PlayOf c.job) (Asks files) (one files) (quiet files) (IsReadToCompare narration name values transcript host_seed files) s fails;
    is = λ q. inl (is_refusal files _ s fails q);
    only = λ q due outcome. only_refusal files s due (is_refusal files _ s fails q) outcome;
    unreached = early_unreached s (λ _. (asked : Comparison) × Asks files (given asked)) early;
    only_reaches = refl;
    no_read_fault = (early_no_fault s early).0;
    no_write_fault = (early_no_fault s early).1;
  }

-- ---- where nothing failed

pub completes_replay : (narration name values transcript : List ℕ) (host_seed : Option (List ℕ)) (session : ℕ) (told : Option Files) (S T : WireState) (s : Status)
    → DoesReplay narration name values transcript host_seed session told S T s → (is_fault s ≡ true → s ≡ NoMemory) → CompletesReplay narration name values transcript host_seed session told s
completes_replay narration name values transcript host_seed session told S T s does only_memory = told_map told by does.is where
  by : (files : Files) → (is_fault s ≡ false → ReplayOutcome narration name values transcript host_seed session files s)
      → ((due : Status) → ReplayOutcome narration name values transcript host_seed session files due → due ≡ Done) → (s ≡ Done) ⊎ (s ≡ NoMemory)
  by files is each = from (is_fault s) refl where
    from : (b : Bool) → is_fault s ≡ b → (s ≡ Done) ⊎ (s ≡ NoMemory)
    from true fault = inr (only_memory fault)
    from false q = inl (each s (is q))
