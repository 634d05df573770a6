-- What is answered where a session is played over the wire, and where there is none.
use Rattle.std.proofs.Common.{◌≡◌, ℕ, List, Option, Some, None, refl, subst, inl, inr}
use Rattle.anb_base.specs.Bytes.{IsBytes}
use Rattle.anb_base.specs.Wires.{WireState}
use Rattle.anb_base.specs.declared.TheConstants.{ARRIVAL}
use Rattle.anb_frame.specs.Cuts.{Tail, Cut, CutLeft}
use Rattle.anb_park.specs.Records.{after}
use Rattle.anb_plays.specs.Plays.{Played}
use Rattle.anb_session.specs.Sessions.{IsPrompt}
use Rattle.anb_status.specs.declared.status.Status.{Status}
use Rattle.anb_status.specs.declared.status.Status.TheVariants.{Parked}
use Rattle.anb_command.specs.Fetches.{Files, IfTold}
use Rattle.anb_command.specs.Outcomes.{IsInTime}
use Rattle.anb_status.specs.Statuses.{before_reach, phase_of}
use Rattle.anb_command.specs.Steps.{Answer, refused, given, HasOneAnswer, IsFailure}
use Rattle.anb_command.proofs.Answering.{late, refusing}
use Rattle.anb_command.proofs.Cutting.{bytes_in_cut}
use Rattle.anb_command.proofs.Ones.{RefusesQuietly, same_given}
use Rattle.anb_park_commands.specs.declared.ended.RecordWay.{RecordWay}
use Rattle.anb_park_commands.specs.Going.{ParksOn, ParksTo}
use Rattle.anb_park_commands.specs.Parking.{IsOutcome, ParksOver, record_after}
use Rattle.anb_park_commands.specs.Records.{RecordIs}
use Rattle.anb_park_commands.specs.Sessions.{RoleSession}
use Rattle.anb_park_commands.proofs.Ending.{comes, nothing_played}
use Rattle.anb_park_commands.proofs.Ready.{IsReady}

-- a record that is written of a session is accepted
abbrev pub IsAccepted : RoleSession → List (List ℕ) → Type 0
IsAccepted s arrivals = RecordIs s.protocol s.role s.parked.id s.key (record_after s arrivals) (given (after s.parked arrivals))

module _ (way : RecordWay) (Comes : RoleSession → List (List ℕ) → Played (List ℕ) → Type 0) (Prepares : Files → Answer RoleSession → Type 0) (Reads : Files → List ℕ → Type 0)
    (one : (files : Files) → HasOneAnswer (Prepares files)) (quiet : (files : Files) → RefusesQuietly (Prepares files)) where
  -- what comes of a session
  module _ (s : Status) (R : List (List ℕ) → Played (List ℕ)) (records : List (List ℕ) → List ℕ) (Kept : List (List ℕ) → Type 0) (not_early : phase_of s ≡ before_reach → ⊥) where
    over_input : (files : Files) → IsReady Comes (Prepares files) R records Kept → (left now written written_now : Option (List ℕ))
        → ((arrivals : List (List ℕ)) (tail : Tail) → CutLeft ARRIVAL left arrivals tail → ParksTo way R records arrivals tail left now written written_now s)
        → IfTold left (λ (input : List ℕ). (arrivals : List (List ℕ)) (tail : Tail) → IsBytes input → Cut ARRIVAL input arrivals tail
        → IsOutcome way Comes (Prepares files) input arrivals tail s now written written_now)
    over_input files ready None now written written_now parks = tt
    over_input files ready (Some left) now written written_now parks = λ arrivals tail bytes cut.
        comes way Comes (Prepares files) (one files) R records Kept ready left arrivals tail bytes cut now written written_now s (parks arrivals tail cut)

    accepted : (files : Files) → IsReady Comes (Prepares files) R records Kept → (left : Option (List ℕ)) → ((e : ℕ) (arrivals : List (List ℕ)) (tail : Tail) → s ≡ Parked e → CutLeft ARRIVAL left arrivals tail → Kept arrivals)
        → IfTold left (λ (input : List ℕ). (e : ℕ) (arrivals : List (List ℕ)) (tail : Tail) (asked : RoleSession) → s ≡ Parked e → IsBytes input → Cut ARRIVAL input arrivals tail → Prepares files (given asked)
        → IsAccepted asked arrivals)
    accepted files ready None kept = tt
    accepted files ready (Some left) kept = λ e arrivals tail asked is bytes cut asks.
        subst (λ (a : RoleSession). IsAccepted a arrivals) (same_given ready.asked asked (one files (given ready.asked) (given asked) ready.asks asks))
        (ready.accepted arrivals (bytes_in_cut left arrivals tail bytes cut) (kept e arrivals tail is cut))

    in_time : (files : Files) → IsReady Comes (Prepares files) R records Kept → (S T : WireState) → IsPrompt R S T → IsInTime Comes (Prepares files) S T
    in_time files ready S T prompt = inr (
      ready.asked,
      ready.asks,
      record { run = R; comes = λ arrivals bytes. (ready.comes arrivals bytes (R arrivals)).1 refl; prompt = prompt },
    )

    pub parks_over : (told : Option Files) (S T : WireState) → IfTold told (λ files. IsReady Comes (Prepares files) R records Kept) → ParksOn way R records S T s → IsPrompt R S T
        → ((e : ℕ) (arrivals : List (List ℕ)) (tail : Tail) → s ≡ Parked e → CutLeft ARRIVAL S.left arrivals tail → Kept arrivals) → ParksOver way Comes Prepares told S T s Reads
    parks_over None S T ready parks prompt kept = record { refuses = tt; outcome = tt; accepted = tt; in_time = tt }
    parks_over (Some files) S T ready parks prompt kept = record {
      refuses = late Comes (Prepares files) (one files) (quiet files) (Reads files) s ready.asked ready.asks not_early;
      outcome = over_input files ready S.left T.left S.written T.written parks;
      accepted = accepted files ready S.left kept;
      in_time = in_time files ready S T prompt;
    }

  -- and of a refusal
  over_none : (s : Status) (P : List ℕ → Type 0) (files : Files) → IsFailure s P (Prepares files (refused s)) → (left written : Option (List ℕ))
      → IfTold left (λ (input : List ℕ). (arrivals : List (List ℕ)) (tail : Tail) → IsBytes input → Cut ARRIVAL input arrivals tail
      → IsOutcome way Comes (Prepares files) input arrivals tail s left written written)
  over_none s P files fails None written = tt
  over_none s P files fails (Some left) written = λ arrivals tail bytes cut. nothing_played way Comes (Prepares files) (one files) (quiet files) left arrivals tail written s P fails

  -- nothing is parked where nothing is played
  not_parked : (s : Status) (e : ℕ) (P : List ℕ → Type 0) (files : Files) → IsFailure s P (Prepares files (refused s)) → s ≡ Parked e → ⊥
  not_parked s e P files fails is =
      let asks : Prepares files (refused (Parked e)) = subst (λ (t : Status). IsFailure t P (Prepares files (refused t))) is fails in
      let never = (quiet files).each (Parked e) asks in absurd (let p = never.1 in cc)

  none_accepted : (s : Status) (P : List ℕ → Type 0) (files : Files) → IsFailure s P (Prepares files (refused s)) → (left : Option (List ℕ))
      → IfTold left (λ (input : List ℕ). (e : ℕ) (arrivals : List (List ℕ)) (tail : Tail) (asked : RoleSession) → s ≡ Parked e → IsBytes input → Cut ARRIVAL input arrivals tail → Prepares files (given asked)
      → IsAccepted asked arrivals)
  none_accepted s P files fails None = tt
  none_accepted s P files fails (Some left) = λ e arrivals tail asked is bytes cut asks. absurd (not_parked s e P files fails is)

  pub refuses_over : (told : Option Files) (S : WireState) (s : Status) → IsFailure s (λ file. IfTold told (λ files. Reads files file)) (IfTold told (λ files. Prepares files (refused s)))
      → ParksOver way Comes Prepares told S S s Reads
  refuses_over None S s fails = record { refuses = tt; outcome = tt; accepted = tt; in_time = tt }
  refuses_over (Some files) S s fails = record {
    refuses = refusing Comes (Prepares files) (one files) (quiet files) (Reads files) s fails;
    outcome = over_none s (λ file. Reads files file) files fails S.left S.written;
    accepted = none_accepted s (λ file. Reads files file) files fails S.left;
    in_time = inl (refl, refl);
  }
