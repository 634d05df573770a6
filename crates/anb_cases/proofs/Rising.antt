-- Statuses over a wire whose counts of faults stay 0.
use Rattle.std.proofs.Common.{◌≡◌, ℕ, List, Option, Some, None, inl, inr, subst, sym, ◌∙◌, arith}
use Rattle.anb_base.specs.Moves.{Rose, last_count}
use Rattle.anb_base.specs.Wires.{WireState}
use Rattle.anb_base.specs.declared.place.Place.{Place}
use Rattle.anb_status.specs.declared.status.Status.{Status}
use Rattle.anb_status.specs.declared.status.Status.TheVariants as status
use Rattle.anb_command.specs.Causes.{HasCause}
use Rattle.anb_status.specs.Statuses.{OnUnreached}

-- a wire that never fails, with this left
abbrev pub unfailing : List ℕ → WireState
unfailing left = record {
  left = Some left;
  taken_at = None;
  read_faults = 0;
  written = None;
  write_faults = 0;
  reached = None;
  reach_faults = 0;
}

no_rise : (before now : ℕ) → before ≡ 0 → now ≡ 0 → Rose before now → ⊥
no_rise before now b n (inl less) = absurd (omega (arith, b, n, less))
no_rise before now b n (inr last) = let e : 0 ≡ last_count = sym n ∙ last in omega (arith, e)

module _ (names : List (List ℕ)) (place : Option Place) (faults faults_now : List ℕ → ℕ) (old new : WireState) where
  pub no_read_fault : (s : Status) → HasCause names place faults faults_now old new s → old.read_faults ≡ 0 → new.read_faults ≡ 0 → s ≡ status.ReadFault → ⊥
  no_read_fault s c b n e = no_rise old.read_faults new.read_faults b n (subst (HasCause names place faults faults_now old new) e c)

  pub no_write_fault : (s : Status) → HasCause names place faults faults_now old new s → old.write_faults ≡ 0 → new.write_faults ≡ 0 → s ≡ status.WriteFault → ⊥
  no_write_fault s c b n e = no_rise old.write_faults new.write_faults b n (subst (HasCause names place faults faults_now old new) e c)

  pub is_reached : (s : Status) → HasCause names place faults faults_now old new s → old.reach_faults ≡ 0 → new.reach_faults ≡ 0 → OnUnreached s (λ at. ⊥)
  is_reached (status.Unreached at) c b n = no_rise old.reach_faults new.reach_faults b n c.1
  is_reached s c b n = tt
