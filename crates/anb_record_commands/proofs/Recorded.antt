-- What is recorded, as statuses and folders tell it.
use Rattle.std.proofs.Common.{◌≡◌, ◌≢◌, ◌+◌, ℕ, List, [], ◌++◌, Option, Some, Ok, refl, ap, sym, ◌∙◌, subst, inl, inr}
use Rattle.std.specs.List.{AllByRecursion}
use Rattle.anb_base.specs.Moves.{Rose}
use Rattle.anb_base.specs.Wires.{WireState}
use Rattle.anb_plays.specs.Plays.{Run}
use Rattle.anb_plays.specs.Runs.{no_place, without_place}
use Rattle.anb_session.specs.declared.PlayEnd.{PlayEnd}
use Rattle.anb_session.specs.declared.PlayEnd.TheVariants as ended
use Rattle.anb_store.specs.Stores.{StoreState}
use Rattle.anb_machine.specs.declared.turn.Halt.{Halt}
use Rattle.anb_status.specs.declared.status.Status.{Status}
use Rattle.anb_status.specs.declared.status.Status.TheVariants.{Stopped, NoMemory}
use Rattle.anb_transcript.specs.Replays.{last_arrival}
use Rattle.anb_transcript.specs.declared.transcript.TranscriptLine.{TranscriptLine}
use Rattle.anb_values.specs.Fit.{Fit}
use Rattle.anb_command.specs.Prepared.{status_of}
use Rattle.anb_branch.specs.Stems.{no_halt}
use Rattle.anb_recording.specs.Joining.{others_joined}
use Rattle.anb_recording.specs.Journals.{OthersStay, begun}
use Rattle.anb_recording.specs.Lines.{lines_text}
use Rattle.anb_recording.specs.Recordings.{IsRecorded, ReplaysAs, all_appended}
use Rattle.anb_recording.specs.declared.recording.Kept.{Kept}
use Rattle.anb_recording.specs.declared.recording.Kept.TheVariants as kept
use Rattle.anb_recorded.specs.Names.{values_in}
use Rattle.anb_record_commands.specs.Names.{transcript_in}
use Rattle.anb_recorded.specs.Outcomes.{IsMissing}
use Rattle.anb_record_commands.specs.Outcomes.{Valued, HasTranscript, HoldsIn, IsOfFolder, IsReadAgain, ReplaysTo, text_of}
use Rattle.anb_record_commands.specs.Running.{MissesLines, RecordsRun, missing_of}
use Rattle.anb_recorded.specs.declared.ended.Missing.{Missing}
use Rattle.anb_recorded.specs.declared.ended.Missing.TheVariants as missing
use Rattle.anb_record_commands.proofs.Holding.{folder_holds, others_within}
use Rattle.anb_record_commands.proofs.Placeless.{are_due, falls_short, follows, stops}

-- ---- behind the play

module _ (R : Run) (file : List ℕ) (old new : StoreState) (left : Option (List ℕ)) (end : PlayEnd) where
  pub misses : (k : Kept) → (end ≢ ended.NoMemory → IsRecorded R file old new k left end) → MissesLines file old new (status_of end) (missing_of k file)
  misses kept.Whole is = λ some. let r = (is (λ none. some (ap status_of none))).records in (r.quiet (λ e. cc), r.others)
  misses kept.NoMemory is = λ some. let r = (is (λ none. some (ap status_of none))).records in (r.quiet (λ e. cc), r.others)
  misses kept.Unwritten is = (
    refl,
    λ some. let r = (is (λ none. some (ap status_of none))).records in elim (r.failed refl) [ inl never ↦ absurd (cc) | inr rose ↦ (rose, r.others) ],
  )

  pub records_run : (k : Kept) → (end ≢ ended.NoMemory → IsRecorded R file old new k left end) → status_of end ≢ NoMemory → missing_of k file ≡ missing.Nothing
      → RecordsRun R file old new left (status_of end)
  records_run kept.Unwritten is some whole = absurd (cc)
  records_run kept.NoMemory is some whole = absurd (cc)
  records_run kept.Whole is some whole =
      let r = is (λ none. some (ap status_of none)) in
      record { lines = r.lines; plain = r.plain; heard = r.heard; replays = inl (end, refl, r.replays); store = (r.records.whole refl).1 }

-- the same run over the same input
pub records_as : (R S : Run) (file : List ℕ) (old new : StoreState) (left before : Option (List ℕ)) (end : Status) → ((arrivals : List (List ℕ)) → R arrivals ≡ S arrivals) → left ≡ before
    → RecordsRun R file old new left end → RecordsRun S file old new before end
records_as R S file old new left before end same at is =
    let one : R ≡ S = λ i arrivals. same arrivals i in
    subst (λ (T : Run). RecordsRun T file old new before end) one (subst (λ (l : Option (List ℕ)). RecordsRun R file old new l end) at is)

-- nothing was played
pub records_nothing : (R : Run) (file : List ℕ) (store : StoreState) (left : Option (List ℕ)) (end : Status) → ReplaysTo R [] end → RecordsRun R file store store left end
records_nothing R file store left end replays = record { lines = []; plain = tt; heard = λ arrivals tail cut. (arrivals, refl); replays = replays; store = refl }

-- ---- in a folder

abbrev pub in_folder : (R : Run) (folder text : List ℕ) (valued : Valued) (store mid now : StoreState) (left : Option (List ℕ)) (end : Status) → mid ≡ begun store (values_in folder) text (transcript_in folder)
    → text ≡ text_of valued → Fit text valued.labels (Ok (record { values = valued.initial; seed = Some valued.seed })) → RecordsRun R (transcript_in folder) mid now left end → HasTranscript R folder store now valued left end
in_folder R folder text valued store mid now left end begins written reads is = record {
  lines = is.lines;
  plain = is.plain;
  heard = is.heard;
  replays = is.replays;
  reads = subst (λ (t : List ℕ). Fit t valued.labels (Ok (record { values = valued.initial; seed = Some valued.seed }))) written reads;
  holds = subst (λ (s : StoreState). HoldsIn folder store s (text_of valued) (lines_text is.lines))
      (sym (is.store ∙ ap (λ (s : StoreState). all_appended (transcript_in folder) s is.lines) (begins ∙ ap (λ t. begun store (values_in folder) t (transcript_in folder)) written)))
      (folder_holds folder (text_of valued) is.lines store);
}

-- what the lines miss is missing in the folder
pub missing_in_folder : (folder : List ℕ) (store mid now : StoreState) (old new : WireState) (end : Status) (m : Missing) → mid.faults ≡ store.faults → OthersStay (IsOfFolder folder) store mid
    → MissesLines (transcript_in folder) mid now end m → IsMissing (IsOfFolder folder) store now old new end m
missing_in_folder folder store mid now old new end m same first is = of m is where
  others : OthersStay (λ name. name ≡ transcript_in folder) mid now → OthersStay (IsOfFolder folder) store now
  others then = others_joined (IsOfFolder folder) store mid now first (others_within (λ name. name ≡ transcript_in folder) (IsOfFolder folder) mid now (λ name it. inr it) then)

  of : (m : Missing) → MissesLines (transcript_in folder) mid now end m → IsMissing (IsOfFolder folder) store now old new end m
  of missing.Nothing is = λ some. let c = is some in (c.0 ∙ same, others c.1)
  of missing.NoMemory is = λ some. let c = is some in (c.0 ∙ same, others c.1)
  of (missing.Unwritten name) is = λ some. let r = is.1 some in (inr is.0, subst (λ (n : ℕ). Rose n now.faults) same r.0, others r.1)
  of (missing.There name) is = absurd is

-- ---- as a play tells it

-- the same is missing where a stop tells no instruction
pub missing_stopped : (IsMine : List ℕ → Type 0) (store now : StoreState) (old new : WireState) (halt : Halt) (m : Missing) → IsMissing IsMine store now old new (Stopped halt) m
    → IsMissing IsMine store now old new (Stopped (record { event = halt.event; at = 0 })) m
missing_stopped IsMine store now old new halt missing.Nothing is = λ some. is (λ e. cc)
missing_stopped IsMine store now old new halt missing.NoMemory is = λ some. is (λ e. cc)
missing_stopped IsMine store now old new halt (missing.Unwritten name) is = λ some. is (λ e. cc)
missing_stopped IsMine store now old new halt (missing.There name) is = let never : Stopped halt ≡ NoMemory = is.2 in absurd (cc)

-- a stop without its instruction
abbrev untold : Status → Status
untold (Stopped halt) = Stopped (record { event = halt.event; at = 0 })
untold status = status

untold_of : (end : PlayEnd) → untold (status_of end) ≡ status_of (no_halt end)
untold_of ended.Done = refl
untold_of (ended.Stopped halt) = refl
untold_of (ended.Waiting e) = refl
untold_of (ended.Truncated have need) = refl
untold_of (ended.TooLarge len) = refl
untold_of ended.ReadFault = refl
untold_of ended.WriteFault = refl
untold_of ended.NoMemory = refl

same_untold : (status : Status) → ((halt : Halt) → status ≡ Stopped halt → ⊥) → untold status ≡ status
same_untold (Stopped halt) not = absurd (not halt refl)
same_untold _ not = refl

pub placeless : (R : Run) (lines : List TranscriptLine) (end : PlayEnd) → ReplaysAs R lines end → ReplaysAs (λ arrivals. without_place (R arrivals)) lines (no_halt end)
placeless R lines ended.Done is = follows R lines is
placeless R lines (ended.Stopped halt) is = stops R lines halt (last_arrival lines) is
placeless R lines (ended.Waiting e) is = (falls_short R lines _ is.0, ap no_place is.1)
placeless R lines (ended.Truncated have need) is = falls_short R lines _ is
placeless R lines (ended.TooLarge len) is = falls_short R lines _ is
placeless R lines ended.ReadFault is = falls_short R lines _ is
placeless R lines ended.WriteFault is = are_due R lines is
placeless R lines ended.NoMemory is = tt

replays_untold : (R : Run) (lines : List TranscriptLine) (status : Status) → ReplaysTo R lines status → ReplaysTo (λ arrivals. without_place (R arrivals)) lines (untold status)
replays_untold R lines status (inl (end, is, replays)) = inl (no_halt end, ap untold is ∙ untold_of end, placeless R lines end replays)
replays_untold R lines status (inr (place, is, none)) = inr (place, ap untold is, none)

module _ (R : Run) (folder : List ℕ) (store now : StoreState) (valued : Valued) (left : Option (List ℕ)) where
  abbrev pub PlayHasTranscript : Status → Type 0
  PlayHasTranscript status = HasTranscript (λ arrivals. without_place (R arrivals)) folder store now valued left status

  transcript_placeless : (status : Status) → HasTranscript R folder store now valued left status → PlayHasTranscript (untold status)
  transcript_placeless status is =
      record { lines = is.lines; plain = is.plain; heard = is.heard; replays = replays_untold R is.lines status is.replays; reads = is.reads; holds = is.holds }

  pub transcript_stopped : (halt : Halt) → HasTranscript R folder store now valued left (Stopped halt) → PlayHasTranscript (Stopped (record { event = halt.event; at = 0 }))
  transcript_stopped halt is = transcript_placeless (Stopped halt) is

  pub transcript_untold : (status : Status) → ((halt : Halt) → status ≡ Stopped halt → ⊥) → HasTranscript R folder store now valued left status → PlayHasTranscript status
  transcript_untold status not is = subst PlayHasTranscript (same_untold status not) (transcript_placeless status is)
