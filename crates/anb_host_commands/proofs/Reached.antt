-- Serving behind the reach of a place, and why a status is answered.
use Rattle.std.proofs.Common.{◌≡◌, ◌⊎◌, ℕ, List, [], Option, Some, refl, ap, sym, ◌∙◌, subst, inl, inr}
use Rattle.anb_plays.specs.Plays.{Run}
use Rattle.anb_base.specs.Moves.{Rose}
use Rattle.anb_base.specs.Wires.{WireState}
use Rattle.anb_base.specs.declared.place.Place.{Place}
use Rattle.anb_code.specs.CodeValue.{CodeValue}
use Rattle.anb_host.specs.declared.event.HostEvent.{HostEvent}
use Rattle.anb_host.specs.declared.serving.HostEnd.{HostEnd}
use Rattle.anb_host.specs.declared.serving.HostEnd.TheVariants as ends
use Rattle.anb_host.specs.HostFrames.{Tail, FramesLeft}
use Rattle.anb_host.specs.Hosts.{HostValue, plays_of}
use Rattle.anb_host.specs.Serving.{Serves}
use Rattle.anb_status.specs.declared.status.Status.{Status}
use Rattle.anb_status.specs.declared.status.Status.TheVariants.{Unreached, NoMemory}
use Rattle.anb_command.specs.Causes.{HasWireCause}
use Rattle.anb_command.specs.OverWire.{DidNotReach, HasReached}
use Rattle.anb_status.specs.Statuses.{after_reach, phase_of}
use Rattle.anb_command.proofs.OverWire.{left_unreached, taken_unreached, written_unreached}
use Rattle.anb_host_commands.specs.declared.hosting.TheConstants.{FRAMES}
use Rattle.anb_host_commands.specs.Serving.{EndsSo, IsIdle, ServesOn, runs_by, status_of}

-- ---- the end of serving

pub after_of : (e : HostEnd) → (phase_of (status_of e) ≡ after_reach) ⊎ (status_of e ≡ NoMemory)
after_of ends.NoMemory = inr refl
after_of _ = inl refl

pub cause_of : (e : HostEnd) (place : Place) (S T : WireState) → (e ≡ ends.ReadFault → Rose S.read_faults T.read_faults) → (e ≡ ends.WriteFault → Rose S.write_faults T.write_faults)
    → HasWireCause (Some place) S T (status_of e)
cause_of ends.ReadFault place S T reads writes = reads refl
cause_of ends.WriteFault place S T reads writes = writes refl
cause_of _ place S T reads writes = tt

-- ---- sessions of a host

pub plays_are : (h : HostValue) (code : CodeValue) (initial : List (List ℕ)) (seed : List ℕ) → h.code ≡ code → h.init ≡ initial → h.seed ≡ seed → plays_of h ≡ runs_by code initial seed
plays_are h code initial seed c i s =
    ap (λ x. runs_by x h.init h.seed) c ∙ ap (λ x. runs_by code x h.seed) i ∙ ap (λ x. runs_by code initial x) s

module _ (place : Place) (S T U : WireState) (reached : HasReached place S T) where
  serves_from : (plays : ℕ → Run) (events : List HostEvent) (tail : Tail) (end : HostEnd) → Serves plays [] events tail FRAMES T U end → Serves plays [] events tail FRAMES S U end
  serves_from plays events tail ends.Ended x = subst (λ (V : WireState). Serves plays [] events tail FRAMES V U ends.Ended) reached.same x
  serves_from plays events tail (ends.Truncated have need) x = subst (λ (V : WireState). Serves plays [] events tail FRAMES V U (ends.Truncated have need)) reached.same x
  serves_from plays events tail (ends.BadKind kind) x = subst (λ (V : WireState). Serves plays [] events tail FRAMES V U (ends.BadKind kind)) reached.same x
  serves_from plays events tail (ends.Spent n) x = subst (λ (V : WireState). Serves plays [] events tail FRAMES V U (ends.Spent n)) reached.same x
  serves_from plays events tail ends.ReadFault x = subst (λ (V : WireState). Serves plays [] events tail FRAMES V U ends.ReadFault) reached.same x
  serves_from plays events tail ends.WriteFault x = subst (λ (V : WireState). Serves plays [] events tail FRAMES V U ends.WriteFault) reached.same x
  serves_from plays events tail ends.NoMemory x = subst (λ (V : WireState). Serves plays [] events tail FRAMES V U ends.NoMemory) reached.same x

  pub serves_after : (plays others : ℕ → Run) (s : Status) → plays ≡ others → ((events : List HostEvent) (tail : Tail) → FramesLeft T.left events tail → EndsSo plays [] events tail T U s) → ServesOn others S U s
  serves_after plays others s same serves = subst (λ (ps : ℕ → Run). ServesOn ps S U s) same (inr over) where
    over : (events : List HostEvent) (tail : Tail) → FramesLeft S.left events tail → EndsSo plays [] events tail S U s
    over events tail left =
        let ended = serves events tail (subst (λ (l : Option (List ℕ)). FramesLeft l events tail) (sym (ap (λ (w : WireState). w.left) reached.same)) left) in
        (ended.0, ended.1, serves_from plays events tail ended.0 ended.2)

-- ---- nothing is done

pub idle_unreached : (place : Place) (S T : WireState) → DidNotReach S T → IsIdle S T (Unreached place)
idle_unreached place S T tried = record {
  because = inl (place, refl);
  left = left_unreached place S T tried;
  taken_at = taken_unreached place S T tried;
  written = written_unreached place S T tried;
}

pub idle_no_memory : (S : WireState) → IsIdle S S NoMemory
idle_no_memory S = record { because = inr refl; left = refl; taken_at = refl; written = refl }
