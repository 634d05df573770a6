-- What comes of a program in the cases.
use Rattle.std.specs.Prelude.{◌≡◌, ◌≢◌, ◌⊎◌, ◌≤◌, ◌<◌, ◌^◌, ℕ, ◌==◌, List, [], ◌∷◌, ◌++◌, map, replicate, slice_get, take, Option, Some, if◌then◌else◌}
use Rattle.std.specs.List.{AllByRecursion}
use Rattle.anb_base.specs.Bytes.{IsBytes}
use Rattle.anb_base.specs.Moves.{Put, Rose}
use Rattle.anb_code.specs.CodeValue.{CodeValue}
use Rattle.anb_draws.specs.Draws.{IsDrawn, Values}
use Rattle.anb_judge.specs.Verdicts.{Judged, line_bytes}
use Rattle.anb_machine.specs.ByteRuns.{run_bytes}
use Rattle.anb_partner.specs.Plans.{IsPartner, hook_at}
use Rattle.anb_partner.specs.Talks.{Converses}
use Rattle.anb_partner.specs.Trials.{IsUnstarted, Trial}
use Rattle.anb_partner.specs.Values.{handed_values, initial_values}
use Rattle.anb_partner.specs.declared.conversation.Conversation.{Conversation}
use Rattle.anb_partner.specs.declared.conversation.TalkEnd.TheVariants.{Long}
use Rattle.anb_spoil.specs.Wrongs.{wrong_by}
use Rattle.anb_transcript.specs.declared.transcript.TranscriptLine.{TranscriptLine}
use Rattle.anb_verdict.specs.Verdicts.{reached_by}
use Rattle.anb_verdict.specs.declared.verdict.Verdict.{Verdict}
use Rattle.anb_attempts.specs.Attempts.{script_in}
use Rattle.anb_attempts.specs.declared.attempts.Attempt.{Attempt}
use Rattle.anb_attempts.specs.declared.attempts.Scene.{Scene}
use Rattle.anb_tries.specs.Seen.{seen_of}
use Rattle.anb_tries.specs.Tries.{IsTriedVerdict}
use Rattle.anb_probe_commands.specs.Probings.{Probing}

-- what the role begins with
abbrev pub initial : Probing → List (List ℕ)
initial q = initial_values q.protocol q.values q.seed q.role

-- what its partner is handed
abbrev pub handed : Probing → List (List ℕ)
handed q = handed_values q.protocol q.values q.seed q.role

abbrev pub judged_over : Probing → List TranscriptLine → Judged
judged_over q lines = record { protocol = q.protocol; role = q.role; initial = initial q; lines = lines }

-- what came of a case: the verdict, and what its child heard and said
pub record CaseEnd : Type 0 where
  pub verdict : Verdict
  pub lines : List TranscriptLine

abbrev pub verdict_in : CaseEnd → Verdict
verdict_in end = end.verdict

abbrev pub verdicts_of : List CaseEnd → List Verdict
verdicts_of ends = map verdict_in ends

-- of each case, in order, this is told of what its child drew
abbrev pub AreTold : Probing → List CaseEnd → List Values → Type 0
AreTold q [] [] = Unit {0}
AreTold q [] (draws ∷ told) = ⊥
AreTold q (end ∷ ends) [] = ⊥
AreTold q (end ∷ ends) (draws ∷ told) = IsDrawn (judged_over q end.lines) draws × AreTold q ends told

-- starting a child failed
pub record IsNotStarted (old new : Trial) : Type 0 where
  pub unstarted : IsUnstarted old new
  pub rose : Rose old.faults new.faults

-- how far the first case got; nothing is said of that in the first itself
abbrev pub reached_in : (i reached : ℕ) → ℕ
reached_in i reached = if i == 0 then 0 else reached

module _ (q : Probing) (scenes : List Scene) (order : List (List ℕ)) where
  -- These words were asked of the child once, and the partner of the attempt's scene conversed with it; the
  -- verdict is that on what was seen, where the first case got as far as `reached`; and this one got as far as `got`. All
  -- that was heard and said are bytes, and so are the four of a length.
  pub record IsTried (a : Attempt) (reached : ℕ) (old new : Trial) (end : CaseEnd) (got : ℕ) : Type 0 where
    pub scene : Scene
    pub at : slice_get scenes a.scene ≡ Some scene
    pub code : CodeValue
    pub partner : IsPartner (script_in q.protocol q.role scene) code
    pub conversation : Conversation
    pub converses : Converses (run_bytes code (initial q) (replicate 32 0) 0) (handed q) (hook_at (script_in q.protocol q.role scene))
        (wrong_by code.formats a.wrong) order old new conversation
    pub lines : end.lines ≡ conversation.lines
    pub bytes : AllByRecursion IsBytes (map line_bytes conversation.lines)
    pub long : (len : ℕ) → conversation.end ≡ Long len → len < 2 ^ 32
    pub judged : IsTriedVerdict (judged_over q conversation.lines) (seen_of conversation scene.due reached) conversation.end end.verdict
    pub got_is : got ≡ reached_by end.verdict conversation.lines

  -- The first cases were tried in order, each with a child of its own, which doesn't run any more, and came to these
  -- ends; the children from the last on are as they were.
  pub record ArePlayed (cases : List Attempt) (reached : ℕ) (ends : List CaseEnd) (last : ℕ) (old new : ℕ → Trial) : Type 0 where
    pub each : (i : ℕ) (a : Attempt) (end : CaseEnd) → slice_get cases i ≡ Some a → slice_get ends i ≡ Some end
        → (got : ℕ) × IsTried a (reached_in i reached) (old i) (new i) end got × (i ≡ 0 → reached ≡ got)
    pub others : (i : ℕ) → last ≤ i → new i ≡ old i
    pub none_left : (i : ℕ) → (new i).phase ≢ 1

-- these bytes, at least, were put first
abbrev pub PutFirst : Option (List ℕ) → Option (List ℕ) → List ℕ → Type 0
PutFirst old new bytes = (more : List ℕ) × Put old new (bytes ++ more)

-- each child is as it was, or the text up to the cases before its own was written
abbrev pub AreInTime : (text : List CaseEnd → List ℕ) → List CaseEnd → (old new : ℕ → Trial) → (written written_now : Option (List ℕ)) → Type 0
AreInTime text ends old new written written_now =
    (i : ℕ) → (new i ≡ old i) ⊎ PutFirst written written_now (text (take i ends))
