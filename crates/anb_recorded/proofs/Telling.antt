-- The status that is told, from how the command ended and from what is missing.
use Rattle.std.proofs.Common.{◌≡◌, ◌≢◌, ◌⊎◌, ℕ, Bool, true, false, List, Option, Some, refl, ap, sym, ◌∙◌, subst, inl, inr}
use Rattle.anb_base.specs.Moves.{Put, Rose}
use Rattle.anb_base.specs.Places.{line_of}
use Rattle.anb_base.specs.Wires.{WireState}
use Rattle.anb_base.specs.declared.place.Place.{Place}
use Rattle.anb_store.specs.Stores.{StoreState}
use Rattle.anb_recording.specs.Journals.{IsThere}
use Rattle.anb_status.specs.Statuses.{Phase, after_reach, at_any_time, at_reach, before_reach, is_fault, phase_of}
use Rattle.anb_status.specs.declared.status.Status.{Status}
use Rattle.anb_status.specs.declared.status.Status.TheVariants.{FileFault, Unreached, Unwritten, NoMemory}
use Rattle.anb_command.specs.Causes.{HasCause}
use Rattle.anb_command.specs.Reaches.{Reaches}
use Rattle.anb_command.specs.Reported.{TellsFaults, TellsWireFaults, is_file_fault}
use Rattle.anb_command.specs.Touches.{Touches}
use Rattle.anb_command.proofs.OverWire.{untouched}
use Rattle.anb_command.proofs.Reported.{calm_told, nothing_failed}
use Rattle.anb_recorded.specs.Outcomes.{HasRecordCause, IsMissing, recorded_phase, told_as}
use Rattle.anb_recorded.specs.declared.ended.Missing.{Missing}
use Rattle.anb_recorded.specs.declared.ended.Missing.TheVariants as missing

pub calm_memory : (s : Status) → is_fault s ≡ false → s ≢ NoMemory
calm_memory s calm is = let never : true ≡ false = ap is_fault (sym is) ∙ calm in cc

pub calm_file : (s : Status) → is_fault s ≡ false → is_file_fault s ≡ false
calm_file (FileFault file) calm = absurd (cc)
calm_file _ calm = refl

pub calm_place : (s : Status) → is_fault s ≡ false → phase_of s ≡ at_reach → ⊥
calm_place (Unreached place) calm at = cc
calm_place _ calm at = cc

-- the wire at any time
pub any_time : (place : Place) (phase : Phase) (old new : Option (List ℕ)) → Reaches (Some place) phase old new → (new ≡ old) ⊎ Put old new (line_of place)
any_time place before_reach old new is = inl is
any_time place at_reach old new is = inl is
any_time place after_reach old new is = inr is
any_time place at_any_time old new is = is

pub touches_any : {reading : Bool} (S T : WireState) (phase : Phase) → (phase ≡ at_reach → ⊥) → Touches reading phase S T → Touches reading at_any_time S T
touches_any S T phase not_at t = record {
  before = λ is. absurd (cc);
  unreached = λ is. absurd (cc);
  missed = λ rose. absurd (not_at (t.missed rose));
  unread = t.unread;
  untaken = t.untaken;
  unread_faults = t.unread_faults;
  reads = t.reads;
  writes = t.writes;
  reaches = t.reaches;
}

module _ (IsMine : List ℕ → Type 0) (store store_now : StoreState) (S T : WireState) (end : Status) (missed : Missing)
    (why : IsMissing IsMine store store_now S T end missed) where
  -- what holds of the status that is told
  pub told_by : (P : Status → Type 0) → P end
      → ((name : List ℕ) → IsMine name → is_fault end ≡ false → Rose store.faults store_now.faults → P (Unwritten name))
      → (is_fault end ≡ false → P NoMemory)
      → ((name : List ℕ) → IsMine name → IsThere store name → end ≡ NoMemory → T ≡ S → P (Unwritten name))
      → P (told_as end missed)
  told_by P by_end by_file by_memory by_there = of missed why where
    of : (m : Missing) → IsMissing IsMine store store_now S T end m → P (told_as end m)
    of missing.Nothing is = by_end
    of (missing.There name) is = by_there name is.0 is.1 is.2 is.3
    of (missing.Unwritten name) is = fault (is_fault end) refl where
      fault : (b : Bool) → is_fault end ≡ b → P (told_as end (missing.Unwritten name))
      fault true e = rw e by_end
      fault false e = let mine = is (calm_memory end e) in rw e (by_file name mine.0 e mine.1)
    of missing.NoMemory is = fault (is_fault end) refl where
      fault : (b : Bool) → is_fault end ≡ b → P (told_as end missing.NoMemory)
      fault true e = rw e by_end
      fault false e = rw e (by_memory e)

  module _ (names : List (List ℕ)) (place : Place) (faults faults_now : List ℕ → ℕ) where
    own_cause : (s : Status) → HasCause names (Some place) faults faults_now S T s → HasRecordCause IsMine store store_now names (Some place) faults faults_now S T s
    own_cause (Unwritten name) never = absurd never
    own_cause _ cause = cause

    pub told_cause : HasCause names (Some place) faults faults_now S T end → HasRecordCause IsMine store store_now names (Some place) faults faults_now S T (told_as end missed)
    told_cause cause =
        told_by (HasRecordCause IsMine store store_now names (Some place) faults faults_now S T) (own_cause end cause) (λ name mine calm rose. (mine, inr rose)) (λ calm. tt)
        (λ name mine there is same. (mine, inl there))

    pub told_faults : TellsFaults faults faults_now S T end → TellsFaults faults faults_now S T (told_as end missed)
    told_faults told =
        told_by (TellsFaults faults faults_now S T) told
        (λ name mine calm rose. record { files = λ _. told.files (calm_file end calm); wire = calm_told S T end calm told.wire (Unwritten name) })
        (λ calm. record { files = λ _. told.files (calm_file end calm); wire = calm_told S T end calm told.wire NoMemory })
        (λ name mine there is same. record {
          files = λ _. told.files (ap is_file_fault is);
          wire = subst (λ (W : WireState). TellsWireFaults S W (Unwritten name)) (sym same) (nothing_failed S S (Unwritten name) refl refl refl);
        })

    own_reach : (s : Status) → Reaches (Some place) (phase_of s) S.reached T.reached → Reaches (Some place) (recorded_phase s) S.reached T.reached
    own_reach (Unwritten name) is = inr is
    own_reach _ is = is

    pub told_reaches : Reaches (Some place) (phase_of end) S.reached T.reached → Reaches (Some place) (recorded_phase (told_as end missed)) S.reached T.reached
    told_reaches reaches =
        let any = any_time place (phase_of end) S.reached T.reached reaches in
        told_by (λ s. Reaches (Some place) (recorded_phase s) S.reached T.reached) (own_reach end reaches) (λ name mine calm rose. any) (λ calm. any)
        (λ name mine there is same. inl (ap (λ (W : WireState). W.reached) same))

    own_touches : (s : Status) → Touches true (phase_of s) S T → Touches true (recorded_phase s) S T
    own_touches (Unwritten name) touches = touches_any S T after_reach (λ is. cc) touches
    own_touches _ touches = touches

    pub told_touches : Touches true (phase_of end) S T → Touches true (recorded_phase (told_as end missed)) S T
    told_touches touches =
        told_by (λ s. Touches true (recorded_phase s) S T) (own_touches end touches)
        (λ name mine calm rose. touches_any S T (phase_of end) (calm_place end calm) touches)
        (λ calm. touches_any S T (phase_of end) (calm_place end calm) touches)
        (λ name mine there is same. subst (λ (W : WireState). Touches true at_any_time S W) (sym same) (untouched true at_any_time S))
