-- The record of a stage, in its folder.
use Rattle.std.specs.Prelude.{◌≡◌, ◌⊎◌, ℕ, Bool, true, false, List, [], ◌∷◌, ◌++◌, length, map, codes, decimal, slice_get, Option, Some, None}
use Rattle.std.specs.Option.{option_map}
use Rattle.anb_base.specs.declared.content.Sent.{Sent}
use Rattle.anb_frame.specs.Cuts.{Tail}
use Rattle.anb_recording.specs.Journals.{IsAbsent, appended, begun}
use Rattle.anb_recording.specs.Lines.{spelled}
use Rattle.anb_stage.specs.Children.{Child}
use Rattle.anb_stage.specs.Notes.{IsTold, Note, notes_of}
use Rattle.anb_stage.specs.Relays.{AreCut, ends_in, report}
use Rattle.anb_stage.specs.declared.refusal.RelayNo.{RelayNo}
use Rattle.anb_store.specs.Stores.{StoreState}
use Rattle.anb_stage_commands.specs.Reports.{sent_line}
use Rattle.anb_status.specs.declared.status.Status.{Status}
use Rattle.anb_stage_commands.specs.Scenes.{Scene}
use Rattle.anb_stage_commands.specs.StageCommand.{status_after}

-- ---- files

-- the report's lines, and beside them what children said behind their last messages
abbrev pub report_in : (folder : List ℕ) → List ℕ
report_in folder = folder ++ codes "/report"

abbrev pub left_in : (folder : List ℕ) → List ℕ
left_in folder = folder ++ codes "/left"

-- what a role's child said and heard, and beside it the child's standard error
abbrev pub transcript_of : (folder role : List ℕ) → List ℕ
transcript_of folder role = folder ++ (47 ∷ (role ++ codes ".transcript"))

abbrev pub errors_of : (folder role : List ℕ) → List ℕ
errors_of folder role = folder ++ (47 ∷ (role ++ codes ".errors"))

abbrev pub files_of : (folder role : List ℕ) → List ℕ × List ℕ
files_of folder role = (transcript_of folder role, errors_of folder role)

module _ (folder : List ℕ) (roles : List (List ℕ)) where
  -- they are made in this order, two at once, each empty
  abbrev pub all_files : List (List ℕ × List ℕ)
  all_files = (report_in folder, left_in folder) ∷ map (files_of folder) roles

  -- one of them, and one of the two at a place
  abbrev pub IsAt : (place : ℕ) → List ℕ → Type 0
  IsAt place name =
      (both : List ℕ × List ℕ) × (slice_get all_files place ≡ Some both)
      × ((name ≡ both.0) ⊎ (name ≡ both.1))

  abbrev pub IsOfStage : List ℕ → Type 0
  IsOfStage name = (place : ℕ) × IsAt place name

-- a store in which such files were made
abbrev pub all_made : StoreState → List (List ℕ × List ℕ) → StoreState
all_made store [] = store
all_made store (both ∷ more) = all_made (begun store both.0 [] both.1) more

-- and one in which none of them was there
abbrev pub AreNew : StoreState → List (List ℕ × List ℕ) → Type 0
AreNew store [] = Unit {0}
AreNew store (both ∷ more) = IsAbsent store both.0 × IsAbsent store both.1 × AreNew store more

-- ---- lines

-- `<` stands before what a role heard, and `>` before what it said
abbrev pub sign_of : (heard : Bool) → ℕ
sign_of true = 60
sign_of false = 62

abbrev pub own_line : Note → List ℕ
own_line note = spelled (sign_of note.heard) note.bytes

-- the line of a message in the report
abbrev pub reported_line : Note → List ℕ
reported_line note = sent_line (record { action = note.action; bytes = note.bytes })

-- these bytes were appended to a file, where there is one
abbrev pub put_to : StoreState → (name : Option (List ℕ)) → (bytes : List ℕ) → StoreState
put_to store None bytes = store
put_to store (Some name) bytes = appended store name bytes

module _ (folder : List ℕ) (roles : List (List ℕ)) where
  abbrev pub transcript_at : (role : ℕ) → Option (List ℕ)
  transcript_at role = option_map (transcript_of folder) (slice_get roles role)

  -- A note is a line of its role's transcript. What was heard was handed on, so it is a line of the report
  -- too.
  abbrev pub reported : StoreState → Note → (heard : Bool) → StoreState
  reported store note false = store
  reported store note true = appended store (report_in folder) (reported_line note)

  abbrev pub noted : StoreState → Note → StoreState
  noted store note = reported (put_to store (transcript_at note.role) (own_line note)) note note.heard

  abbrev pub all_noted : StoreState → List Note → StoreState
  all_noted store [] = store
  all_noted store (note ∷ more) = all_noted (noted store note) more

-- how many messages there are is said where all were handed on
abbrev pub last_line : (count : ℕ) → List ℕ
last_line count = codes "relayed " ++ decimal count ++ 10 ∷ []

-- ---- the whole

-- the messages of a relay that went through
pub record AreAll (z : Scene) (children : ℕ → Child) (sent : List Sent) : Type 0 where
  pub count : length sent ≡ length z.protocol.actions
  pub tells : (outputs : ℕ → List (List ℕ)) (tails : ℕ → Tail)
      → AreCut (length z.protocol.roles) children outputs tails
      → sent ≡ report outputs (ends_in z.protocol)

-- what came of one that was refused, with this status
pub record AreSoFar (limit : Option ℕ) (z : Scene) (old new : ℕ → Child) (told : List Note) (status : Status)
    : Type 0 where
  pub refusal : RelayNo
  pub is : status ≡ status_after limit new z.protocol refusal
  pub are : IsTold (ends_in z.protocol) (length z.protocol.roles) old refusal told

module _ (folder : List ℕ) (z : Scene) (store : StoreState) where
  -- all files were made, and then these notes came
  abbrev pub with_notes : List Note → StoreState
  with_notes told = all_noted folder z.protocol.roles (all_made store (all_files folder z.protocol.roles)) told

  -- and all of these messages were handed on
  abbrev pub with_all : List Sent → StoreState
  with_all sent =
      appended (with_notes (notes_of (ends_in z.protocol) sent)) (report_in folder) (last_line (length sent))
