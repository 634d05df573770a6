-- What is recorded of a play, replayed.
use Rattle.std.proofs.Common.{◌≡◌, ◌≢◌, ◌+◌, ◌≤◌, ℕ, List, length, Option, Some, None, refl, sym, ap, ◌∙◌, subst, inl, inr}
use Rattle.std.specs.List.{AllByRecursion}
use Rattle.anb_base.specs.Bytes.{IsBytes}
use Rattle.anb_plays.specs.Plays.{End, Run, done, stopped, waiting}
use Rattle.anb_host.specs.declared.event.HostEvent.{HostEvent}
use Rattle.anb_host.specs.Own.{accepted}
use Rattle.anb_host_recording.specs.Sessions.{replay_end}
use Rattle.anb_recording.specs.Laws.{WrittenLinesAreRead}
use Rattle.anb_recording.specs.Lines.{IsPlain, lines_text}
use Rattle.anb_recording.specs.Recordings.{ReplaysAs}
use Rattle.anb_session.specs.declared.PlayEnd.{PlayEnd}
use Rattle.anb_session.specs.declared.PlayEnd.TheVariants as ended
use Rattle.anb_status.specs.declared.status.Status.{Status}
use Rattle.anb_transcript.specs.Replays.{Replays, last_arrival}
use Rattle.anb_transcript.specs.declared.following.ReplayEnd.{ReplayEnd}
use Rattle.anb_transcript.specs.declared.following.ReplayEnd.TheVariants as replayed
use Rattle.anb_transcript.specs.declared.transcript.TranscriptLine.{TranscriptLine}
use Rattle.anb_command.specs.Fetches.{Files}
use Rattle.anb_command.specs.Prepared as prepared
use Rattle.anb_syntax.specs.Grammar.{Narration}
use Rattle.anb_protocol.specs.Protocols.{ProtocolValue}
use Rattle.anb_command.specs.Files.{FileIs, NarrationInFile, NarrationIs, ProtocolInFile, ProtocolIs}
use Rattle.anb_command.specs.Roles.{Part, PartInFile, PartOf}
use Rattle.anb_command.specs.Steps.{Answer, InTurn, given, refused}
use Rattle.anb_command.specs.declared.limits.TheConstants.{TRANSCRIPT_LIMIT, VALUES_LIMIT}
use Rattle.anb_command.proofs.Ones.{not_both, same_given}
use Rattle.anb_role_commands.specs.Jobs.{Job, JobIs, JobOf}
use Rattle.anb_role_commands.specs.PlayCommand.{PlayOf}
use Rattle.anb_role_commands.specs.ReplayCommand.{Comparison, ComparisonIs, Compares, ReplayOutcome, status_of}
use Rattle.anb_branch.specs.Laws.{ArmsKnowAlike}
use Rattle.anb_branch_commands.specs.BranchCommand.{job_in}
use Rattle.anb_branch_commands.specs.Laws.{ArmsAreNarrations}
use Rattle.anb_branch_commands.proofs.Preparing.{job_seated}
use Rattle.anb_branch_commands.proofs.Seats.{known_at}
use Rattle.anb_record_commands.specs.BranchInto.{arm_values}
use Rattle.anb_record_commands.specs.Laws.{RecordedArmsReplay, RecordedPlaysReplay, RecordedSessionsReplay, replayed_as, replayed_session}
use Rattle.anb_recorded.specs.Names.{values_in}
use Rattle.anb_record_commands.specs.Names.{transcript_in}
use Rattle.anb_record_commands.specs.Outcomes.{IsReadAgain, ReplaysTo, Valued, text_of}
use Rattle.anb_record_commands.specs.PlayInto.{job_values}

-- ---- files that are as they were

module _ (f g : Files) where
  file_as : (name : List ℕ) (limit : ℕ) → g name ≡ f name → (answer : Answer (List ℕ)) → FileIs g name limit answer → FileIs f name limit answer
  file_as name limit same (refused s) (is, longer) = (is, record { text = longer.text; holds = sym same ∙ longer.holds; long = longer.long })
  file_as name limit same (given text) has = record { holds = sym same ∙ has.holds; short = has.short }

first_as : {A B : Type 0} (one also : Answer A → Type 0) (next : A → Answer B → Type 0) → ((a : Answer A) → one a → also a) → (answer : Answer B) → InTurn one next answer → InTurn also next answer
first_as one also next by answer (inl (t, is, refuses)) = inl (t, by (refused t) is, refuses)
first_as one also next by answer (inr (a, is, comes)) = inr (a, by (given a) is, comes)

module _ (f g : Files) (narration name : List ℕ) (same : g narration ≡ f narration) where
  narration_as : (answer : Answer Narration) → NarrationInFile g narration answer → NarrationInFile f narration answer
  narration_as = first_as _ _ NarrationIs (file_as f g narration _ same)

  protocol_as : (answer : Answer ProtocolValue) → ProtocolInFile g narration answer → ProtocolInFile f narration answer
  protocol_as = first_as _ _ ProtocolIs narration_as

  part_as : (answer : Answer Part) → PartInFile g narration name answer → PartInFile f narration name answer
  part_as = first_as _ _ (λ p. PartOf p name) protocol_as

-- ---- the job

-- a job of these parts
abbrev as_job : Part → List (List ℕ) → List ℕ → Job
as_job part initial seed = record { protocol = part.protocol; role = part.role; initial = initial; seed = seed }

module _ (later : Files) (recorded : List ℕ) (other_seed : Option (List ℕ)) (part : Part) where
  abbrev Again : Job → Type 0
  Again job = IsReadAgain (job_values job) → later recorded ≡ Some (text_of (job_values job)) → length (text_of (job_values job)) ≤ VALUES_LIMIT
      → JobOf later recorded other_seed part (given job)

  again : (initial : List (List ℕ)) (seed : List ℕ) → Again (as_job part initial seed)
  again initial seed reads there short = inr (
    record { values = initial; seed = Some seed },
    inr (text_of (job_values (as_job part initial seed)), record { holds = there; short = short }, reads),
    inr (seed, refl, refl),
  )

  again_as : (files : Files) (values : List ℕ) (host_seed : Option (List ℕ)) (job : Job) → JobOf files values host_seed part (given job) → Again job
  again_as files values host_seed job (inl (s, first, never)) = not_both s job (sym never)
  again_as files values host_seed job (inr (fitted, first, inl (s, none, never))) = not_both s job (sym never)
  again_as files values host_seed job (inr (fitted, first, inr (seed, some, is))) =
      let e : job ≡ as_job part fitted.values seed = same_given job (as_job part fitted.values seed) is in subst Again (sym e) (again fitted.values seed)

-- the same job, from the values that were recorded
job_again : (files later : Files) (narration name values recorded : List ℕ) (host_seed other_seed : Option (List ℕ)) (job : Job)
    → JobIs files narration name values host_seed (given job) → IsReadAgain (job_values job) → later narration ≡ files narration
    → later recorded ≡ Some (text_of (job_values job)) → length (text_of (job_values job)) ≤ VALUES_LIMIT
    → JobIs later narration name recorded other_seed (given job)
job_again files later narration name values recorded host_seed other_seed job (inl (s, first, never)) reads same there short = not_both s job (sym never)
job_again files later narration name values recorded host_seed other_seed job (inr (part, first, next)) reads same there short =
    inr (part, part_as later files narration name (sym same) (given part) first, again_as later recorded other_seed part files values host_seed job next reads there short)

-- how the replay of these lines ends
module _ (job : Job) (run : Run) (are : (arrivals : List (List ℕ)) → AllByRecursion IsBytes arrivals → PlayOf job arrivals (run arrivals)) (lines : List TranscriptLine) where
  compares : (end : ReplayEnd) (due : Status) → end ≢ replayed.NoMemory → Replays run lines end → due ≡ status_of end → Compares 0 (record { job = job; lines = lines }) due
  compares end due some replays is = record { plays = run; are = are; end = end; some = some; replays = replays; is = is }

  some_one : (one other : Status) → Some one ≡ Some other → other ≡ one
  some_one one other is = cc

  compares_end : (end : PlayEnd) (due : Status) → ReplaysAs run lines end → replayed_as (length lines) (prepared.status_of end) ≡ Some due → Compares 0 (record { job = job; lines = lines }) due
  compares_end ended.Done due replays is = compares replayed.Follows due (λ no. cc) replays (some_one _ due is)
  compares_end (ended.Stopped halt) due replays is = compares (replayed.Stopped halt (last_arrival lines)) due (λ no. cc) replays (some_one _ due is)
  compares_end (ended.Waiting e) due replays is = compares (replayed.Short (length lines + 1)) due (λ no. cc) replays.0 (some_one _ due is)
  compares_end (ended.Truncated have need) due replays is = compares (replayed.Short (length lines + 1)) due (λ no. cc) replays (some_one _ due is)
  compares_end (ended.TooLarge len) due replays is = compares (replayed.Short (length lines + 1)) due (λ no. cc) replays (some_one _ due is)
  compares_end ended.ReadFault due replays is = compares (replayed.Short (length lines + 1)) due (λ no. cc) replays (some_one _ due is)
  compares_end ended.WriteFault due replays is = absurd (cc)
  compares_end ended.NoMemory due replays is = absurd (cc)

  compares_as : (end due : Status) → ReplaysTo run lines end → replayed_as (length lines) end ≡ Some due → Compares 0 (record { job = job; lines = lines }) due
  compares_as end due (inl (how, is_end, replays)) is = compares_end how due replays (ap (replayed_as (length lines)) (sym is_end) ∙ is)
  compares_as end due (inr (place, is_end, none)) is = absurd (let never : None ≡ Some due = ap (replayed_as (length lines)) (sym is_end) ∙ is in cc)

pub recorded_replays : WrittenLinesAreRead → RecordedPlaysReplay
recorded_replays read files later narration name values folder host_seed other_seed job run lines end due asks are plain replays reads same values_there values_short lines_there lines_short is =
    inr (
      record { job = job; lines = lines },
      inr (
        job,
        job_again files later narration name values (values_in folder) host_seed other_seed job asks reads same values_there values_short,
        inr (lines, inr (lines_text lines, record { holds = lines_there; short = lines_short }, read lines plain), refl),
      ),
      compares_as job run are lines end due replays is,
    )

-- in an arm
pub arms_replay : WrittenLinesAreRead → ArmsAreNarrations → ArmsKnowAlike → RecordedArmsReplay
arms_replay read narrations alike files later branched role values folder name told host_seed other_seed job text tells place arm straight run lines end due asks arm_at straight_at has are plain replays reads same values_there values_short lines_there lines_short is =
    let seat = job_seated files branched role values told host_seed job asks in
    let one = job_in job arm in
    let values_are : arm_values job ≡ job_values one =
    ap (λ (labels : List (List ℕ)). record { labels = labels; initial = job.initial; seed = job.seed }) (known_at alike job.branched job.role seat.lawful seat.is_role place arm arm_at) in
    recorded_replays read files later name role values folder host_seed other_seed one run lines end due
    (narrations files branched role values told host_seed job asks text tells place arm straight arm_at straight_at name has) are plain replays
    (subst IsReadAgain values_are reads) same (subst (λ (g : Valued). later (values_in folder) ≡ Some (text_of g)) values_are values_there) (subst (λ (g : Valued). length (text_of g) ≤ VALUES_LIMIT) values_are values_short)
    lines_there lines_short is

-- ---- a session of a host

ended_so : (lines : List TranscriptLine) (e : End) → status_of (replay_end lines e) ≡ replayed_session lines e
ended_so lines done = refl
ended_so lines (stopped e at) = refl
ended_so lines (waiting e) = refl

some_end : (lines : List TranscriptLine) (e : End) → replay_end lines e ≢ replayed.NoMemory
some_end lines done is = cc
some_end lines (stopped e at) is = cc
some_end lines (waiting e) is = cc

pub sessions_replay : WrittenLinesAreRead → RecordedSessionsReplay
sessions_replay read files later narration name values folder host_seed other_seed job session run events lines asks are plain is reads same values_there values_short lines_there lines_short =
    let end = (run (accepted run events)).end in
    inr (
      record { job = job; lines = lines },
      inr (
        job,
        job_again files later narration name values (values_in folder) host_seed other_seed job asks reads same values_there values_short,
        inr (lines, inr (lines_text lines, record { holds = lines_there; short = lines_short }, read lines plain), refl),
      ),
      record { plays = run; are = are; end = replay_end lines end; some = some_end lines end; replays = is.replays; is = sym (ended_so lines end) },
    )
