-- What is recorded of the arm that is taken, as statuses and folders tell it.
use Rattle.std.proofs.Common.{◌≡◌, ◌≢◌, ℕ, List, Option, Some, Ok, refl, ap, sym, ◌∙◌, subst, inl, inr}
use Rattle.std.specs.Prelude.{slice_get}
use Rattle.anb_base.specs.Moves.{Rose}
use Rattle.anb_plays.specs.Plays.{Run}
use Rattle.anb_plays.specs.Runs.{without_place}
use Rattle.anb_code.specs.CodeValue.{CodeValue}
use Rattle.anb_machine.specs.ByteRuns.{run_bytes}
use Rattle.anb_protocol.specs.Protocols.{ProtocolValue}
use Rattle.anb_session.specs.declared.PlayEnd.{PlayEnd}
use Rattle.anb_session.specs.declared.PlayEnd.TheVariants as ended
use Rattle.anb_store.specs.Stores.{StoreState}
use Rattle.anb_status.specs.Statuses.{after_reach, phase_of}
use Rattle.anb_status.specs.declared.status.Status.{Status}
use Rattle.anb_status.specs.declared.status.Status.TheVariants.{NoMemory}
use Rattle.anb_values.specs.Fit.{Fit}
use Rattle.anb_choice.specs.Lawful.{BranchedValue}
use Rattle.anb_command.specs.Fetches.{Files, IfTold}
use Rattle.anb_command.specs.Prepared.{status_of}
use Rattle.anb_command.specs.Steps.{Answer, given}
use Rattle.anb_command.proofs.Chains.{told_map}
use Rattle.anb_transcript.specs.Replays.{arrivals_of}
use Rattle.anb_recording.specs.Journals.{begun}
use Rattle.anb_recording.specs.Recordings.{ReplaysAs}
use Rattle.anb_recording.specs.declared.recording.Kept.{Kept}
use Rattle.anb_recording.specs.declared.recording.Kept.TheVariants as kept
use Rattle.anb_branch.specs.Recorded.{CodesPlay, RecordsTaken}
use Rattle.anb_branch.specs.Stems.{no_halt}
use Rattle.anb_branch.specs.Taken.{place_taken}
use Rattle.anb_branch_commands.specs.BranchJobs.{BranchJob, known_in}
use Rattle.anb_record_commands.specs.BranchInto.{HasArmRecord, HasArmTranscript}
use Rattle.anb_recorded.specs.Names.{values_in}
use Rattle.anb_record_commands.specs.Names.{transcript_in}
use Rattle.anb_record_commands.specs.Outcomes.{text_of}
use Rattle.anb_record_commands.specs.Running.{MissesLines, RecordsArm, RecordsRun, missing_of}
use Rattle.anb_recorded.specs.declared.ended.Missing.TheVariants as missing
use Rattle.anb_record_commands.proofs.Recorded.{in_folder, placeless}

module _ (b : BranchedValue) (role : List ℕ) (told : Option ℕ) (initial : List (List ℕ)) (seed : List ℕ) (codes : List CodeValue)
    (file : List ℕ) (old new : StoreState) (left : Option (List ℕ)) (end : PlayEnd) where
  pub misses_arm : (k : Kept) → (end ≢ ended.NoMemory → RecordsTaken b role told initial seed codes file old new k left end) → MissesLines file old new (status_of end) (missing_of k file)
  misses_arm kept.Whole is = λ some. let r = (is (λ none. some (ap status_of none))).records.recorded.records in (r.quiet (λ e. cc), r.others)
  misses_arm kept.NoMemory is = λ some. let r = (is (λ none. some (ap status_of none))).records.recorded.records in (r.quiet (λ e. cc), r.others)
  misses_arm kept.Unwritten is = (
    refl,
    λ some. let r = (is (λ none. some (ap status_of none))).records.recorded.records in elim (r.failed refl) [ inl never ↦ absurd (cc) | inr rose ↦ (rose, r.others) ],
  )

  pub records_arm : (k : Kept) → CodesPlay b role initial seed codes → (end ≢ ended.NoMemory → RecordsTaken b role told initial seed codes file old new k left end) → status_of end ≢ NoMemory → missing_of k file ≡ missing.Nothing
      → RecordsArm b role told initial seed file old new left (status_of end)
  records_arm kept.Unwritten play is some whole = absurd (cc)
  records_arm kept.NoMemory play is some whole = absurd (cc)
  records_arm kept.Whole play is some whole =
      let t = is (λ none. some (ap status_of none)) in
      let r = t.records.recorded in
      let arm = play t.place t.code t.at in
      let R = run_bytes t.code initial seed 0 in
      let run : Run = λ arrivals. without_place (R arrivals) in
      record {
        arm = arm.0;
        run = run;
        comes = arm.2;
        records = record {
          lines = r.lines;
          plain = r.plain;
          heard = r.heard;
          replays = inl (end, refl, subst (λ (e : PlayEnd). ReplaysAs run r.lines e) (sym t.records.is) (placeless R r.lines t.records.stop r.replays));
          store = (r.records.whole refl).1;
        };
        taken = subst (λ (place : ℕ). slice_get b.arms place ≡ Some arm.0) (sym t.taken) arm.1;
      }

-- over the same input, where the wire was reached
pub arm_over : (b : BranchedValue) (role : List ℕ) (told : Option ℕ) (initial : List (List ℕ)) (seed : List ℕ) (file : List ℕ) (old new : StoreState) (left before : Option (List ℕ)) (end : Status)
    → left ≡ before → phase_of end ≡ after_reach → (end ≢ NoMemory → RecordsArm b role told initial seed file old new left end) → RecordsArm b role told initial seed file old new before end
arm_over b role told initial seed file old new left before end same after is =
    subst (λ (l : Option (List ℕ)). RecordsArm b role told initial seed file old new l end) same (is (λ none. let never : phase_of NoMemory ≡ after_reach = subst (λ (s : Status). phase_of s ≡ after_reach) none after in cc))

-- in a folder
pub arm_in_folder : (b : BranchedValue) (role : List ℕ) (told : Option ℕ) (initial : List (List ℕ)) (seed : List ℕ) (folder text : List ℕ) (store mid now : StoreState) (left : Option (List ℕ)) (end : Status)
    → mid ≡ begun store (values_in folder) text (transcript_in folder) → text ≡ text_of (record { labels = known_in b role; initial = initial; seed = seed })
    → Fit text (known_in b role) (Ok (record { values = initial; seed = Some seed })) → RecordsArm b role told initial seed (transcript_in folder) mid now left end
    → HasArmTranscript b role told initial seed folder store now left end
arm_in_folder b role told initial seed folder text store mid now left end begins written reads is = record {
  arm = is.arm;
  run = is.run;
  comes = is.comes;
  transcript = in_folder is.run folder text (record { labels = known_in b role; initial = initial; seed = seed }) store mid now left end begins written reads is.records;
  taken = is.taken;
}

pub arm_recorded : (Prepares : Files → Answer BranchJob → Type 0) (told_files : Option Files) (b : BranchedValue) (role : List ℕ) (told : Option ℕ) (initial : List (List ℕ)) (seed : List ℕ)
    (folder : List ℕ) (store store_now : StoreState) (left : Option (List ℕ)) (end : Status)
    → IfTold told_files (λ files. Prepares files (given (record { branched = b; role = role; told = told; initial = initial; seed = seed })))
    → HasArmTranscript b role told initial seed folder store store_now left end
    → IfTold told_files (λ files. HasArmRecord (Prepares files) folder store store_now left end)
arm_recorded Prepares told_files b role told initial seed folder store store_now left end asks has =
    told_map told_files (λ files is. record { asked = record { branched = b; role = role; told = told; initial = initial; seed = seed }; asks = is; has = has }) asks
