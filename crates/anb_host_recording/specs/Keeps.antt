-- What is kept of the events of a host.
use Rattle.std.specs.Prelude.{◌≡◌, ◌≢◌, ◌⊎◌, ◌<◌, ◌≤◌, ℕ, List, [], ◌∷◌}
use Rattle.std.specs.List.{AllByRecursion}
use Rattle.anb_base.specs.Moves.{Rose}
use Rattle.anb_plays.specs.Plays.{Run}
use Rattle.anb_store.specs.Stores.{StoreState}
use Rattle.anb_recording.specs.Journals.{OthersStay}
use Rattle.anb_recording.specs.Lines.{IsPlain}
use Rattle.anb_host_recording.specs.declared.recording.Noted.{Noted}
use Rattle.anb_host_recording.specs.declared.recording.Noted.TheVariants.{Whole, Unwritten}
use Rattle.anb_host.specs.declared.event.HostEvent.{HostEvent}
use Rattle.anb_host.specs.declared.event.Notice.{Notice}
use Rattle.anb_host.specs.Own.{answer}
use Rattle.anb_host_recording.specs.Entries.{all_lines, all_noted, transcript_of}

-- a file of some session
abbrev pub IsOfSession : (folder : List ℕ) → List ℕ → Type 0
IsOfSession folder name = (session : ℕ) × (session < 1024) × (name ≡ transcript_of folder session)

-- The store before and after these events were answered, by what is missing before and after. Nothing is missing
-- where all was noted, and nothing was before; then all lines can be read again. Once something is missing nothing
-- more is done.
pub record Keeps (plays : ℕ → Run) (folder : List ℕ) (past events : List HostEvent) (old new : StoreState) (before after : Noted) : Type 0 where
  pub stuck : before ≢ Whole → (after ≡ before) × (new ≡ old)
  pub whole : after ≡ Whole → (before ≡ Whole) × (new ≡ all_noted plays folder old past events)
  pub plain : after ≡ Whole → AllByRecursion IsPlain (all_lines plays past events)
  pub failed : (name : List ℕ) → after ≡ Unwritten name → (before ≡ Unwritten name) ⊎ (IsOfSession folder name × Rose old.faults new.faults)
  pub quiet : ((name : List ℕ) → after ≡ Unwritten name → ⊥) → new.faults ≡ old.faults
  pub never_falls : old.faults ≤ new.faults
  pub others : OthersStay (IsOfSession folder) old new

-- the same of one event that was answered so
abbrev pub KeepsOne : (folder : List ℕ) → HostEvent → (told : List Notice) → (old new : StoreState) → (before after : Noted) → Type 0
KeepsOne folder x told old new before after =
    (plays : ℕ → Run) (past : List HostEvent) → told ≡ answer plays past x → Keeps plays folder past (x ∷ []) old new before after
