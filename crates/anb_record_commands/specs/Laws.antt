-- A recorded play is replayed to its end.
use Rattle.std.specs.Prelude.{◌≡◌, ◌+◌, ◌≤◌, ℕ, List, length, Option, Some, None, slice_get}
use Rattle.std.specs.List.{AllByRecursion}
use Rattle.anb_base.specs.Bytes.{IsBytes}
use Rattle.anb_plays.specs.Plays.{End, Run, done, stopped, waiting}
use Rattle.anb_choice.specs.Branching.{BranchedText, straights}
use Rattle.anb_protocol.specs.Plays.{IsPlay}
use Rattle.anb_protocol.specs.Protocols.{ProtocolValue, role_number}
use Rattle.anb_recording.specs.Lines.{IsPlain, lines_text}
use Rattle.anb_host.specs.declared.event.HostEvent.{HostEvent}
use Rattle.anb_host.specs.Own.{accepted}
use Rattle.anb_host_recording.specs.Entries.{transcript_of}
use Rattle.anb_host_recording.specs.Sessions.{IsTranscript}
use Rattle.anb_status.specs.declared.status.Status.{Status}
use Rattle.anb_status.specs.declared.status.Status.TheVariants.{Done, ReadFault, Short, Stopped, TooLarge, Truncated, Waiting}
use Rattle.anb_transcript.specs.declared.transcript.TranscriptLine.{TranscriptLine}
use Rattle.anb_command.specs.Fetches.{Files}
use Rattle.anb_command.specs.Files.{HasFile}
use Rattle.anb_command.specs.Steps.{given}
use Rattle.anb_command.specs.declared.limits.TheConstants.{NARRATION_LIMIT, TRANSCRIPT_LIMIT, VALUES_LIMIT}
use Rattle.anb_branch_commands.specs.BranchJobs.{BranchJob, BranchJobIs}
use Rattle.anb_role_commands.specs.Jobs.{Job, JobIs}
use Rattle.anb_role_commands.specs.PlayCommand.{PlayOf}
use Rattle.anb_role_commands.specs.Playing.{PlayIn}
use Rattle.anb_role_commands.specs.ReplayCommand.{ReplayOutcome}
use Rattle.anb_record_commands.specs.BranchInto.{arm_values}
use Rattle.anb_recorded.specs.Names.{values_in}
use Rattle.anb_record_commands.specs.Names.{transcript_in}
use Rattle.anb_record_commands.specs.Outcomes.{IsReadAgain, ReplaysTo, text_of}
use Rattle.anb_record_commands.specs.PlayInto.{job_values}

-- The status of a replay of so many lines, where the play ended so. It ends as the play did; where that
-- waited for an arrival the transcript ends before the next event. Nothing is said of a play that the
-- wire cut off in a message.
abbrev pub replayed_as : (count : ℕ) → Status → Option Status
replayed_as count Done = Some Done
replayed_as count (Stopped halt) = Some (Stopped (record { event = halt.event; at = 0 }))
replayed_as count (Waiting e) = Some (Short (count + 1))
replayed_as count (Truncated have need) = Some (Short (count + 1))
replayed_as count (TooLarge len) = Some (Short (count + 1))
replayed_as count ReadFault = Some (Short (count + 1))
replayed_as count status = None

-- Wherever the narration is as it was, and the two files of a recorded play are there and short enough to
-- be read, `replay` ends as the play did, whatever seed the machine has now.
abbrev pub RecordedPlaysReplay : Type 0
RecordedPlaysReplay =
    (files later : Files) (narration name values folder : List ℕ) (host_seed other_seed : Option (List ℕ))
    (job : Job) (run : Run) (lines : List TranscriptLine) (end due : Status)
    → JobIs files narration name values host_seed (given job)
    → ((arrivals : List (List ℕ)) → AllByRecursion IsBytes arrivals → PlayOf job arrivals (run arrivals))
    → AllByRecursion IsPlain lines → ReplaysTo run lines end → IsReadAgain (job_values job)
    → later narration ≡ files narration
    → later (values_in folder) ≡ Some (text_of (job_values job)) → length (text_of (job_values job)) ≤ VALUES_LIMIT
    → later (transcript_in folder) ≡ Some (lines_text lines) → length (lines_text lines) ≤ TRANSCRIPT_LIMIT
    → replayed_as (length lines) end ≡ Some due
    → ReplayOutcome narration name (values_in folder) (transcript_in folder) other_seed 0 later due

-- Let the common actions with an arm stand in a file, as a narration, with the two files of a play of
-- `branch` in that arm. Then `replay` of that narration ends as the play did.
abbrev pub RecordedArmsReplay : Type 0
RecordedArmsReplay =
    (files later : Files) (branched role values folder name : List ℕ) (told : Option ℕ) (host_seed other_seed : Option (List ℕ))
    (job : BranchJob) (text : List ℕ) (tells : BranchedText text job.branched) (place : ℕ) (arm : ProtocolValue) (straight : List ℕ)
    (run : Run) (lines : List TranscriptLine) (end due : Status)
    → BranchJobIs files branched role values told host_seed (given job)
    → slice_get job.branched.arms place ≡ Some arm
    → slice_get (straights text tells.marks tells.spans) place ≡ Some straight
    → HasFile files name NARRATION_LIMIT straight
    → ((arrivals : List (List ℕ)) → AllByRecursion IsBytes arrivals
    → IsPlay arm (role_number arm.roles job.role) job.initial job.seed 0 arrivals (run arrivals))
    → AllByRecursion IsPlain lines → ReplaysTo run lines end → IsReadAgain (arm_values job)
    → later name ≡ files name
    → later (values_in folder) ≡ Some (text_of (arm_values job)) → length (text_of (arm_values job)) ≤ VALUES_LIMIT
    → later (transcript_in folder) ≡ Some (lines_text lines) → length (lines_text lines) ≤ TRANSCRIPT_LIMIT
    → replayed_as (length lines) end ≡ Some due
    → ReplayOutcome name role (values_in folder) (transcript_in folder) other_seed 0 later due

-- The status of a replay of a session's lines, where its play ended so
abbrev pub replayed_session : List TranscriptLine → End → Status
replayed_session lines done = Done
replayed_session lines (stopped e at) = Stopped (record { event = e; at = 0 })
replayed_session lines (waiting e) = Short (length lines + 1)

-- Wherever the narration is as it was, and the values and the transcript of a session of a recorded host are there
-- and short enough to be read, `replay` of that session ends as the session did.
abbrev pub RecordedSessionsReplay : Type 0
RecordedSessionsReplay =
    (files later : Files) (narration name values folder : List ℕ) (host_seed other_seed : Option (List ℕ))
    (job : Job) (session : ℕ) (run : Run) (events : List HostEvent) (lines : List TranscriptLine)
    → JobIs files narration name values host_seed (given job)
    → ((arrivals : List (List ℕ)) → AllByRecursion IsBytes arrivals → PlayIn session job arrivals (run arrivals))
    → AllByRecursion IsPlain lines → IsTranscript run events lines → IsReadAgain (job_values job)
    → later narration ≡ files narration
    → later (values_in folder) ≡ Some (text_of (job_values job)) → length (text_of (job_values job)) ≤ VALUES_LIMIT
    → later (transcript_of folder session) ≡ Some (lines_text lines) → length (lines_text lines) ≤ TRANSCRIPT_LIMIT
    → ReplayOutcome narration name (values_in folder) (transcript_of folder session) other_seed session later
    (replayed_session lines (run (accepted run events)).end)
