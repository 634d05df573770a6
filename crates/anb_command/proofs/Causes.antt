-- Why a status is answered.
use Rattle.std.proofs.Common.{◌≡◌, ℕ, ◌⊎◌, true, List, Option, Some, refl, sym, subst, inl, inr}
use Rattle.anb_base.specs.Moves.{Rose}
use Rattle.anb_base.specs.Wires.{WireState}
use Rattle.anb_base.specs.declared.place.Place.{Place}
use Rattle.anb_session.specs.declared.PlayEnd.{PlayEnd}
use Rattle.anb_session.specs.declared.PlayEnd.TheVariants as ends
use Rattle.anb_status.specs.declared.status.Status.{Status}
use Rattle.anb_status.specs.declared.status.Status.TheVariants.{Usage, FileFault, Unreached, ReadFault, WriteFault, ChildFault, ChildSilent, Unwritten, NoMemory}
use Rattle.anb_command.specs.Causes.{HasCause, HasWireCause, NoneRose}
use Rattle.anb_command.specs.Fetches.{IsOneOf}
use Rattle.anb_command.specs.Prepared.{status_of}
use Rattle.anb_command.specs.Reaches.{Reaches}
use Rattle.anb_status.specs.Statuses.{IsEarly, Phase, after_reach, is_fault, phase_of}
use Rattle.anb_command.specs.Steps.{IsFailure}

-- ---- the end of a run

pub after_of : (e : PlayEnd) → (phase_of (status_of e) ≡ after_reach) ⊎ (status_of e ≡ NoMemory)
after_of ends.NoMemory = inr refl
after_of _ = inl refl

pub cause_of : (e : PlayEnd) (place : Place) (S T : WireState) → (e ≡ ends.ReadFault → Rose S.read_faults T.read_faults) → (e ≡ ends.WriteFault → Rose S.write_faults T.write_faults)
    → HasWireCause (Some place) S T (status_of e)
cause_of ends.ReadFault place S T reads writes = reads refl
cause_of ends.WriteFault place S T reads writes = writes refl
cause_of _ place S T reads writes = tt

-- ---- causes of the wire and of files

module _ (names : List (List ℕ)) (place : Place) (faults faults_now : List ℕ → ℕ) (S T : WireState) where
  pub wire_cause : (s : Status) → HasWireCause (Some place) S T s → HasCause names (Some place) faults faults_now S T s
  wire_cause (FileFault file) never = absurd never
  wire_cause _ cause = cause

  pub early_cause : (s : Status) (Refused : Type 0) → IsEarly s → IsFailure s (λ file. IsOneOf names file × Rose (faults file) (faults_now file)) Refused
      → HasCause names (Some place) faults faults_now S T s
  early_cause (FileFault file) Refused early fails = fails
  early_cause (Unreached at) Refused (inl early) fails = absurd (let never = early.0 in cc)
  early_cause (Unreached at) Refused (inr never) fails = absurd (cc)
  early_cause ReadFault Refused (inl early) fails = absurd (let never = early.0 in cc)
  early_cause ReadFault Refused (inr never) fails = absurd (cc)
  early_cause WriteFault Refused (inl early) fails = absurd (let never = early.0 in cc)
  early_cause WriteFault Refused (inr never) fails = absurd (cc)
  early_cause Usage Refused (inl early) fails = absurd early.1
  early_cause Usage Refused (inr never) fails = absurd (cc)
  early_cause (ChildFault role) Refused (inl early) fails = absurd early.1
  early_cause (ChildFault role) Refused (inr never) fails = absurd (cc)
  early_cause (ChildSilent role seconds) Refused (inl early) fails = absurd early.1
  early_cause (ChildSilent role seconds) Refused (inr never) fails = absurd (cc)
  early_cause (Unwritten file) Refused (inl early) fails = absurd (let never = early.0 in cc)
  early_cause (Unwritten file) Refused (inr never) fails = absurd (cc)
  early_cause _ Refused early fails = tt

  -- where nothing failed, a fault is want of memory
  pub only_memory : NoneRose names faults faults_now S T → (s : Status) → HasCause names (Some place) faults faults_now S T s → is_fault s ≡ true → s ≡ NoMemory
  only_memory none (FileFault file) cause fault = absurd (none.files file cause.0 cause.1)
  only_memory none (Unreached at) cause fault = absurd (none.reaches cause.1)
  only_memory none ReadFault cause fault = absurd (none.reads cause)
  only_memory none WriteFault cause fault = absurd (none.writes cause)
  only_memory none (ChildFault role) cause fault = absurd cause
  only_memory none (ChildSilent role seconds) cause fault = absurd cause
  only_memory none (Unwritten file) cause fault = absurd cause
  only_memory none NoMemory cause fault = refl
  only_memory none _ cause fault = absurd (cc)

pub early_reaches : (place : Place) (s : Status) (r : Option (List ℕ)) → IsEarly s → Reaches (Some place) (phase_of s) r r
early_reaches place s r (inl early) = subst (λ (p : Phase). Reaches (Some place) p r r) (sym early.0) refl
early_reaches place s r (inr is) = subst (λ (t : Status). Reaches (Some place) (phase_of t) r r) (sym is) (inl refl)
