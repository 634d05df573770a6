-- A trace that is written to the standard streams.
use Rattle.std.proofs.Common.{◌≡◌, ◌⊎◌, ℕ, false, List, Option, Some, refl, ap, sym, ◌∙◌, subst, inl, inr}
use Rattle.anb_base.specs.Wires.{WireState}
use Rattle.anb_base.specs.declared.place.Place.TheVariants.{Stdio}
use Rattle.anb_code.specs.CodeValue.{CodeValue}
use Rattle.anb_protocol.specs.Protocols.{ProtocolValue}
use Rattle.anb_transcript.specs.declared.following.ReplayEnd.{ReplayEnd}
use Rattle.anb_transcript.specs.declared.following.ReplayEnd.TheVariants as replayed
use Rattle.anb_transcript.specs.declared.transcript.TranscriptLine.{TranscriptLine}
use Rattle.anb_status.specs.declared.status.Status.{Status}
use Rattle.anb_status.specs.declared.status.Status.TheVariants.{Done, Unreached, WriteFault, NoMemory}
use Rattle.anb_command.specs.OverWire.{DidNotReach, HasReached, OnlyWrites, OverWire}
use Rattle.anb_status.specs.Statuses.{after_reach, at_any_time, at_reach, before_reach, phase_of}
use Rattle.anb_command.proofs.OverWire.{not_reached, text_done, text_failed, text_wanting, written_unreached}
use Rattle.anb_command.proofs.Reported.{calm_told}
use Rattle.anb_role_commands.specs.ReplayCommand.{status_of}
use Rattle.anb_role_commands.proofs.Replaying.{late_end}
use Rattle.anb_trace_commands.specs.Tracing.{EndsAs, HasComeOf}

-- ---- a place that was reached, and what was written there

module _ (S T : WireState) (at_place : HasReached Stdio S T) (U : WireState) (writes : OnlyWrites T U) where
  module _ (quiet : U.write_faults ≡ T.write_faults) where
    abbrev done_so : OverWire Stdio false Done S U
    done_so = text_done Stdio S T at_place U writes quiet

    replayed_so : (end : ReplayEnd) → OverWire Stdio false (status_of end) S U
    replayed_so replayed.Follows = done_so
    replayed_so (replayed.Differs n d) = record { cause = tt; told = calm_told S U Done refl done_so.told _; reached = done_so.reached; touches = done_so.touches }
    replayed_so (replayed.Short event) = record { cause = tt; told = calm_told S U Done refl done_so.told _; reached = done_so.reached; touches = done_so.touches }
    replayed_so (replayed.Stopped halt n) = record { cause = tt; told = calm_told S U Done refl done_so.told _; reached = done_so.reached; touches = done_so.touches }
    replayed_so replayed.NoMemory = text_wanting Stdio S T at_place U writes quiet

  pub ended_so : (s : Status) → EndsAs s T U → OverWire Stdio false s S U
  ended_so s (inl (end, is, quiet)) = subst (λ (t : Status). OverWire Stdio false t S U) (sym is) (replayed_so quiet end)
  ended_so s (inr (inl (is, rose))) = subst (λ (t : Status). OverWire Stdio false t S U) (sym is) (text_failed Stdio S T at_place U writes rose)
  ended_so s (inr (inr (is, quiet))) = subst (λ (t : Status). OverWire Stdio false t S U) (sym is) (text_wanting Stdio S T at_place U writes quiet)

  pub late_so : (s : Status) → EndsAs s T U → phase_of s ≡ before_reach → ⊥
  late_so s (inl (end, is, quiet)) early = late_end end (ap phase_of (sym is) ∙ early)
  late_so s (inr (inl (is, rose))) early = let never : after_reach ≡ before_reach = ap phase_of (sym is) ∙ early in absurd (cc)
  late_so s (inr (inr (is, quiet))) early = let never : at_any_time ≡ before_reach = ap phase_of (sym is) ∙ early in absurd (cc)

  module _ (p : ProtocolValue) (role : ℕ) (code : CodeValue) (initial : List (List ℕ)) (seed : List ℕ) (session : ℕ) (lines : List TranscriptLine) where
    pub come_from : (s : Status) → HasComeOf p role code initial seed session lines s T.written U.written → HasComeOf p role code initial seed session lines s S.written U.written
    come_from s come = subst (λ (w : Option (List ℕ)). HasComeOf p role code initial seed session lines s w U.written) (ap (λ (w : WireState). w.written) at_place.same) come

-- ---- a place that wasn't

module _ (S T : WireState) (s : Status) (tried : (s ≡ Unreached Stdio) × DidNotReach S T) where
  pub unreached_late : phase_of s ≡ before_reach → ⊥
  unreached_late early = let never : at_reach ≡ before_reach = ap phase_of (sym tried.0) ∙ early in absurd (cc)

  pub unreached_over : OverWire Stdio false s S T
  unreached_over = subst (λ (t : Status). OverWire Stdio false t S T) (sym tried.0) (not_reached Stdio S T tried.1 false)

  pub unreached_come : (p : ProtocolValue) (role : ℕ) (code : CodeValue) (initial : List (List ℕ)) (seed : List ℕ) (session : ℕ) (lines : List TranscriptLine) → HasComeOf p role code initial seed session lines s S.written T.written
  unreached_come p role code initial seed session lines = subst (λ (t : Status). HasComeOf p role code initial seed session lines t S.written T.written) (sym tried.0) (written_unreached Stdio S T tried.1)
