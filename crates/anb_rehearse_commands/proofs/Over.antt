-- A report that is written to the standard streams.
use Rattle.std.proofs.Common.{◌≡◌, ◌⊎◌, ℕ, List, false, Option, Some, ap, sym, ◌∙◌, subst, arith}
use Rattle.anb_base.specs.Wires.{WireState}
use Rattle.anb_base.specs.declared.place.Place.TheVariants.{Stdio}
use Rattle.anb_honest.specs.declared.report.RehearseEnd.{RehearseEnd}
use Rattle.anb_status.specs.declared.status.Status.{Status}
use Rattle.anb_status.specs.declared.status.Status.TheVariants.{Unreached, NoMemory}
use Rattle.anb_command.specs.Causes.{HasWireCause}
use Rattle.anb_command.specs.OverWire.{DidNotReach, HasReached, OnlyWrites, OverWire, StaysReached}
use Rattle.anb_command.specs.Reported.{TellsWireFaults}
use Rattle.anb_status.specs.Statuses.{after_reach, at_reach, before_reach, phase_of}
use Rattle.anb_command.proofs.OverWire.{not_before, not_reached, ran, written_unreached}
use Rattle.anb_rehearse_commands.specs.Telling.{IsTold}

-- ---- a place that was reached, and what was written there

module _ (S T : WireState) (at_place : HasReached Stdio S T) (U : WireState) (writes : OnlyWrites T U) (s : Status) (after : (phase_of s ≡ after_reach) ⊎ (s ≡ NoMemory)) where
  stays : StaysReached T U
  stays = record {
    reached = ap (λ (w : WireState). w.reached) writes.same;
    reach_faults = ap (λ (w : WireState). w.reach_faults) writes.same;
    reads = let e : U.read_faults ≡ T.read_faults = ap (λ (w : WireState). w.read_faults) writes.same in omega (arith, e);
    writes = writes.never_falls;
  }

  pub late_enough : phase_of s ≡ before_reach → ⊥
  late_enough = not_before Stdio S T at_place U stays s after

  pub wrote : HasWireCause (Some Stdio) T U s → TellsWireFaults T U s → OverWire Stdio false s S U
  wrote cause told =
      let r = ran Stdio S T at_place U stays s after cause told in
      record {
        cause = r.cause;
        told = r.told;
        reached = r.reached;
        touches = record {
          before = r.touches.before;
          unreached = r.touches.unreached;
          missed = r.touches.missed;
          unread = λ _. ap (λ (w : WireState). w.left) writes.same ∙ ap (λ (w : WireState). w.left) at_place.same;
          untaken = λ _. ap (λ (w : WireState). w.taken_at) writes.same ∙ ap (λ (w : WireState). w.taken_at) at_place.same;
          unread_faults = λ _. ap (λ (w : WireState). w.read_faults) writes.same ∙ ap (λ (w : WireState). w.read_faults) at_place.same;
          reads = r.touches.reads;
          writes = r.touches.writes;
          reaches = r.touches.reaches;
        };
      }

  pub told_from : (end : RehearseEnd) → IsTold end s T.written U.written → IsTold end s S.written U.written
  told_from end told = subst (λ (w : Option (List ℕ)). IsTold end s w U.written) (ap (λ (w : WireState). w.written) at_place.same) told

-- ---- a place that wasn't

module _ (S T : WireState) (s : Status) (tried : (s ≡ Unreached Stdio) × DidNotReach S T) where
  pub unreached_told : (end : RehearseEnd) → IsTold end s S.written T.written
  unreached_told end = subst (λ (t : Status). IsTold end t S.written T.written) (sym tried.0) (written_unreached Stdio S T tried.1)

  pub unreached_late : phase_of s ≡ before_reach → ⊥
  unreached_late is = let never : before_reach ≡ at_reach = sym is ∙ ap phase_of tried.0 in absurd (cc)

  pub unreached_over : OverWire Stdio false s S T
  unreached_over = subst (λ (t : Status). OverWire Stdio false t S T) (sym tried.0) (not_reached Stdio S T tried.1 false)
