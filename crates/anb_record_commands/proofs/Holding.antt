-- What a folder holds once lines were appended to its transcript.
use Rattle.std.proofs.Common.{◌≡◌, ◌≢◌, ℕ, false, List, [], ◌∷◌, ◌++◌, length, Option, Some, None, refl, ap, sym, ◌∙◌, subst, inl, inr, arith, append_assoc, length-append}
use Rattle.std.specs.Prelude.{codes}
use Rattle.std.proofs.lemmas.List.{append-nil}
use Rattle.anb_store.specs.Stores.{StoreState, with_file}
use Rattle.anb_transcript.specs.declared.transcript.TranscriptLine.{TranscriptLine}
use Rattle.anb_recording.specs.Journals.{Files, IsAbsent, IsEither, OthersStay, appended, begun}
use Rattle.anb_recording.specs.Lines.{line_text, lines_text}
use Rattle.anb_recording.specs.Recordings.{all_appended}
use Rattle.anb_recorded.specs.Names.{values_in}
use Rattle.anb_record_commands.specs.Names.{transcript_in}
use Rattle.anb_recorded.specs.Outcomes.{AreAbsent}
use Rattle.anb_record_commands.specs.Outcomes.{HoldsIn, IsOfFolder}
use Rattle.anb_recorded.proofs.Holding.{with_other, with_same}

pub names_differ : (folder : List ℕ) → values_in folder ≢ transcript_in folder
names_differ folder is =
    let same : length (values_in folder) ≡ length (transcript_in folder) = ap (length {A = ℕ}) is in
    let seven : length (codes "/values") ≡ 7 = refl in
    let eleven : length (codes "/transcript") ≡ 11 = refl in
    omega (arith, same, seven, eleven, length-append folder (codes "/values"), length-append folder (codes "/transcript"))

-- neither file is there
pub both_absent : (folder values transcript : List ℕ) (store : StoreState) → values ≡ values_in folder → transcript ≡ transcript_in folder → IsAbsent store values → IsAbsent store transcript
    → AreAbsent (IsOfFolder folder) store
both_absent folder values transcript store v t first second name mine = elim mine [
  | inl is ↦ subst (IsAbsent store) (v ∙ sym is) first
  | inr is ↦ subst (IsAbsent store) (t ∙ sym is) second
]

-- a store with these files, in which one holds a text and the others are as they were at first
record HoldsText (file text : List ℕ) (at_first : Files) (store : StoreState) : Type 0 where
  files : Files
  told : store.files ≡ Some files
  holds : files file ≡ Some text
  others : (name : List ℕ) → name ≢ file → files name ≡ at_first name

module _ (file : List ℕ) (at_first : Files) where
  appended_text : (lines : List TranscriptLine) (text : List ℕ) (store : StoreState) → HoldsText file text at_first store → HoldsText file (text ++ lines_text lines) at_first (all_appended file store lines)
  appended_text [] text store holds = subst (λ (t : List ℕ). HoldsText file t at_first store) (sym (append-nil text)) holds
  appended_text (line ∷ lines) text store holds =
      subst (λ (t : List ℕ). HoldsText file t at_first (all_appended file store (line ∷ lines))) (append_assoc text (line_text line) (lines_text lines))
      (appended_text lines (text ++ line_text line) (appended store file (line_text line)) (record {
        files = with_file holds.files file (text ++ line_text line);
        told = rw (holds.told, holds.holds) refl;
        holds = with_same holds.files file (text ++ line_text line);
        others = λ name differ. with_other holds.files file (text ++ line_text line) name differ ∙ holds.others name differ;
      }))

pub folder_holds : (folder values : List ℕ) (lines : List TranscriptLine) (store : StoreState)
    → HoldsIn folder store (all_appended (transcript_in folder) (begun store (values_in folder) values (transcript_in folder)) lines) values (lines_text lines)
folder_holds folder values lines store files told =
    let v = values_in folder in
    let t = transcript_in folder in
    let first : Files = with_file files v values in
    let h = appended_text t first lines [] (begun store v values t) (record {
      files = with_file first t [];
      told = rw told refl;
      holds = with_same first t [];
      others = λ name differ. with_other first t [] name differ;
    }) in (
      h.files,
      h.told,
      h.others v (names_differ folder) ∙ with_same files v values,
      h.holds,
      λ name other. h.others name (λ is. other (inr is)) ∙ with_other files v values name (λ is. other (inl is)),
    )

-- ---- no other file is touched

pub others_within : (IsMine IsOurs : List ℕ → Type 0) (store now : StoreState) → ((name : List ℕ) → IsMine name → IsOurs name) → OthersStay IsMine store now → OthersStay IsOurs store now
others_within IsMine IsOurs store now within others files told =
    let o = others files told in
    (o.0, o.1, λ name not. o.2 name (λ is. not (within name is)))

pub both_mine : (folder values transcript : List ℕ) (store now : StoreState) → values ≡ values_in folder → transcript ≡ transcript_in folder → OthersStay (IsEither values transcript) store now
    → OthersStay (IsOfFolder folder) store now
both_mine folder values transcript store now v t others = others_within (IsEither values transcript) (IsOfFolder folder) store now mine others where
  mine : (name : List ℕ) → IsEither values transcript name → IsOfFolder folder name
  mine name (inl is) = inl (is ∙ v)
  mine name (inr is) = inr (is ∙ t)

pub begun_alone : (folder text : List ℕ) (store mid : StoreState) → mid ≡ begun store (values_in folder) text (transcript_in folder) → OthersStay (IsOfFolder folder) store mid
begun_alone folder text store mid is = subst (OthersStay (IsOfFolder folder) store) (sym is) at_once where
  at_once : OthersStay (IsOfFolder folder) store (begun store (values_in folder) text (transcript_in folder))
  at_once files told = let h = folder_holds folder text [] store files told in (h.0, h.1, h.4)
