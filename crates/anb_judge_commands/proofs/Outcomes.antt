-- What comes of a judgement, and when `judge` completes.
use Rattle.std.proofs.Common.{◌≡◌, ◌≢◌, ℕ, ◌⊎◌, Bool, true, false, List, [], Option, Some, None, refl, ap, sym, ◌∙◌, subst, inl, inr}
use Rattle.anb_base.specs.Wires.{WireState}
use Rattle.anb_base.specs.declared.place.Place.TheVariants.{Stdio}
use Rattle.anb_plays.specs.Plays.{Played}
use Rattle.anb_judge.specs.Laws.{JudgesOne}
use Rattle.anb_judge.specs.Verdicts.{Judged, Judges}
use Rattle.anb_transcript.specs.declared.following.ReplayEnd.{ReplayEnd}
use Rattle.anb_transcript.specs.declared.following.ReplayEnd.TheVariants as replayed
use Rattle.anb_status.specs.declared.status.Status.{Status}
use Rattle.anb_status.specs.declared.status.Status.TheVariants.{Done, FileFault, Unreached, ReadFault, WriteFault, NoMemory}
use Rattle.anb_status.specs.Statuses.{IsEarly, OnUnreached, after_reach, before_reach, is_fault, phase_of}
use Rattle.anb_command.specs.Fetches.{Files, IfTold}
use Rattle.anb_command.specs.OverWire.{HasReached, OverWire}
use Rattle.anb_command.specs.Refusing.{IsRefusing}
use Rattle.anb_command.specs.Steps.{Answer, refused, given, HasOneAnswer, IsFailure}
use Rattle.anb_command.proofs.Answering.{late, refusing}
use Rattle.anb_command.proofs.Chains.{told_map}
use Rattle.anb_command.proofs.Ones.{RefusesQuietly, not_both, same_given, same_refusal}
use Rattle.anb_command.proofs.OverWire.{only_reached}
use Rattle.anb_command.proofs.Written.{faulty}
use Rattle.anb_role_commands.specs.ReplayCommand.{OnlyReaches, status_of}
use Rattle.anb_role_commands.proofs.Replaying.{after_end, late_end, never_unreached, no_cause, no_wire_fault, quiet_end}
use Rattle.anb_judge_commands.specs.JudgeCommand.{CompletesJudge, DoesJudge, IsReadToJudge, JudgeOutcome, JudgementIs}
use Rattle.anb_judge_commands.specs.Tasks.{IsEndOf, IsJudged}
use Rattle.anb_judge_commands.proofs.Reading.{judgement_quiet}

-- where the standard streams are reached
pub judged_wire : (S T : WireState) → HasReached Stdio S T → (judged : Judged) (s : Status) → IsEndOf judged s → OverWire Stdio false s S T
judged_wire S T at judged s (end, judges, is) = subst (λ (t : Status). OverWire Stdio false t S T) (sym is) (only_reached Stdio S T at (status_of end) (after_end end) (no_cause end T))

-- nothing is run over a wire
abbrev NoRun : Judged → List (List ℕ) → Played (List ℕ) → Type 0
NoRun judged arrivals p = Unit {0}

module _ (narration name values transcript : List ℕ)
    (one : (files : Files) → HasOneAnswer (JudgementIs narration name values transcript files)) where
  abbrev Asks : Files → Answer Judged → Type 0
  Asks files = JudgementIs narration name values transcript files

  quiet : (files : Files) → RefusesQuietly (Asks files)
  quiet files = judgement_quiet narration name values transcript files

  abbrev Outcome : Files → Status → Type 0
  Outcome files s = JudgeOutcome narration name values transcript files s

  abbrev Reads : Files → List ℕ → Type 0
  Reads files = IsReadToJudge narration name values transcript files

  module _ (law : JudgesOne) (asked : Judged) where
    only_one : (files : Files) → Asks files (given asked) → (end : ReplayEnd) → Judges asked end → (due : Status) → Outcome files due → status_of end ≡ due
    only_one files asks end judges due (inl refusal) = not_both due asked (one files (refused due) (given asked) refusal asks)
    only_one files asks end judges due (inr (other, found, others, some, also, is)) =
        let same : other ≡ asked = same_given other asked (one files (given other) (given asked) others asks) in
        ap status_of (law asked end found judges (subst (λ (j : Judged). Judges j found) same also)) ∙ sym is

    late_judge : (files : Files) → Asks files (given asked) → (s : Status) → (phase_of s ≡ before_reach → ⊥) → IsRefusing (Asks files) (Reads files) s
    late_judge files asks s not_early = late NoRun (Asks files) (one files) (quiet files) (Reads files) s asked asks not_early

    module _ (told : Option Files) (S T : WireState) (asks : IfTold told (λ files. Asks files (given asked))) (only : OnlyReaches S T) where
      does_unreached : DoesJudge narration name values transcript told S T (Unreached Stdio)
      does_unreached = record {
        refuses = told_map told (λ files a. late_judge files a (Unreached Stdio) (λ never. absurd (cc))) asks;
        is = told_map told (λ files a. faulty) asks;
        only = told_map told (λ files a. faulty) asks;
        unreached = told_map told (λ files a. (asked, a)) asks;
        only_reaches = only;
        no_read_fault = λ never. absurd (cc);
        no_write_fault = λ never. absurd (cc);
      }

      does_end : (end : ReplayEnd) → (end ≢ replayed.NoMemory → Judges asked end) → DoesJudge narration name values transcript told S T (status_of end)
      does_end end judges = record {
        refuses = told_map told (λ files a. late_judge files a (status_of end) (late_end end)) asks;
        is = told_map told (λ files a q. inr (asked, end, a, quiet_end end q, judges (quiet_end end q), refl)) asks;
        only = told_map told (λ files a q due outcome. only_one files a end (judges (quiet_end end q)) due outcome) asks;
        unreached = told_map told (λ files a. never_unreached end (λ _. (j : Judged) × Asks files (given j))) asks;
        only_reaches = only;
        no_read_fault = (no_wire_fault end).0;
        no_write_fault = (no_wire_fault end).1;
      }

      pub does_judged : (s : Status) → IsJudged asked s → DoesJudge narration name values transcript told S T s
      does_judged s (inl is) = subst (DoesJudge narration name values transcript told S T) (sym is) does_unreached
      does_judged s (inr (end, judges, is)) = subst (DoesJudge narration name values transcript told S T) (sym is) (does_end end judges)

  -- ---- a refusal

  early_unreached : (s : Status) (P : Status → Type 0) → IsEarly s → OnUnreached s (λ at. P (Unreached at))
  early_unreached (Unreached at) P (inl early) = absurd (let never = early.0 in cc)
  early_unreached (Unreached at) P (inr never) = absurd (cc)
  early_unreached _ P early = tt

  early_no_fault : (s : Status) → IsEarly s → (s ≢ ReadFault) × (s ≢ WriteFault)
  early_no_fault s (inl early) = (
    λ is. let never : before_reach ≡ after_reach = sym early.0 ∙ ap phase_of is in absurd (cc),
    λ is. let never : before_reach ≡ after_reach = sym early.0 ∙ ap phase_of is in absurd (cc),
  )
  early_no_fault s (inr none) = (λ is. let never : NoMemory ≡ ReadFault = sym none ∙ is in absurd (cc), λ is. let never : NoMemory ≡ WriteFault = sym none ∙ is in absurd (cc))

  is_refusal : (files : Files) (P : List ℕ → Type 0) (s : Status) → IsFailure s P (Asks files (refused s)) → is_fault s ≡ false → Asks files (refused s)
  is_refusal files P (FileFault file) fails never = faulty never
  is_refusal files P NoMemory fails never = faulty never
  is_refusal files P s fails q = fails

  only_refusal : (files : Files) (s due : Status) → Asks files (refused s) → Outcome files due → s ≡ due
  only_refusal files s due asks (inl other) = same_refusal s due (one files (refused s) (refused due) asks other)
  only_refusal files s due asks (inr (asked, end, others, some, judges, is)) = not_both s asked (one files (refused s) (given asked) asks others)

  pub does_refused : (told : Option Files) (S : WireState) (s : Status) → IsEarly s
      → IsFailure s (λ file. IfTold told (λ files. Reads files file)) (IfTold told (λ files. Asks files (refused s)))
      → DoesJudge narration name values transcript told S S s
  does_refused None S s early fails = record {
    refuses = tt;
    is = tt;
    only = tt;
    unreached = tt;
    only_reaches = refl;
    no_read_fault = (early_no_fault s early).0;
    no_write_fault = (early_no_fault s early).1;
  }
  does_refused (Some files) S s early fails = record {
    refuses = refusing NoRun (Asks files) (one files) (quiet files) (Reads files) s fails;
    is = λ q. inl (is_refusal files _ s fails q);
    only = λ q due outcome. only_refusal files s due (is_refusal files _ s fails q) outcome;
    unreached = early_unreached s (λ _. (asked : Judged) × Asks files (given asked)) early;
    only_reaches = refl;
    no_read_fault = (early_no_fault s early).0;
    no_write_fault = (early_no_fault s early).1;
  }

-- ---- where nothing failed

pub completes_judge : (narration name values transcript : List ℕ) (told : Option Files) (S T : WireState) (s : Status)
    → DoesJudge narration name values transcript told S T s → (is_fault s ≡ true → s ≡ NoMemory) → CompletesJudge narration name values transcript told s
completes_judge narration name values transcript told S T s does only_memory = told_map told by does.is where
  by : (files : Files) → (is_fault s ≡ false → JudgeOutcome narration name values transcript files s)
      → ((due : Status) → JudgeOutcome narration name values transcript files due → due ≡ Done) → (s ≡ Done) ⊎ (s ≡ NoMemory)
  by files is each = from (is_fault s) refl where
    from : (b : Bool) → is_fault s ≡ b → (s ≡ Done) ⊎ (s ≡ NoMemory)
    from true fault = inr (only_memory fault)
    from false q = inl (each s (is q))
