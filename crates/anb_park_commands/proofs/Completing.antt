-- When the commands come to their end.
use Rattle.std.proofs.Common.{◌≡◌, ◌⊎◌, ℕ, Bool, true, false, List, Option, Some, None, refl, ap, sym, ◌∙◌, subst, inl, inr}
use Rattle.anb_base.specs.Bytes.{IsBytes}
use Rattle.anb_base.specs.Wires.{WireState}
use Rattle.anb_base.specs.declared.TheConstants.{ARRIVAL}
use Rattle.anb_frame.specs.Cuts.{Tail, Cut}
use Rattle.anb_plays.specs.Plays as plays
use Rattle.anb_plays.specs.Plays.{Played}
use Rattle.anb_status.specs.declared.status.Status.{Status}
use Rattle.anb_status.specs.declared.status.Status.TheVariants.{Done, NoMemory}
use Rattle.anb_status.specs.declared.status.Status.TheVariants as status
use Rattle.anb_command.specs.Fetches.{Files, IfTold}
use Rattle.anb_status.specs.Statuses.{is_fault}
use Rattle.anb_command.specs.Steps.{Answer, refused, given, HasOneAnswer, IsFailure}
use Rattle.anb_command.proofs.Cutting.{bytes_in_cut}
use Rattle.anb_command.proofs.Ones.{not_both, same_given}
use Rattle.anb_park_commands.specs.declared.ended.RecordWay.{RecordWay}
use Rattle.anb_park_commands.specs.Parking.{CompletesOver, IsOutcome, Outcome, ParksOver, status_at}
use Rattle.anb_park_commands.specs.Sessions.{RoleSession}
use Rattle.anb_park_commands.proofs.Ready.{IsReady}

module _ (way : RecordWay) (Comes : RoleSession → List (List ℕ) → Played (List ℕ) → Type 0) (Prepares : Files → Answer RoleSession → Type 0) (Reads : Files → List ℕ → Type 0) (one : (files : Files) → HasOneAnswer (Prepares files)) where
  -- a session that is played
  module _ (R : List (List ℕ) → Played (List ℕ)) (records : List (List ℕ) → List ℕ) (Kept : List (List ℕ) → Type 0) (files : Files) (ready : IsReady Comes (Prepares files) R records Kept)
      (left : List ℕ) (arrivals : List (List ℕ)) (tail : Tail) (bytes : IsBytes left) (cut : Cut ARRIVAL left arrivals tail) (s : Status) where
    same_play : (asked : RoleSession) (p : Played (List ℕ)) → Prepares files (given asked) → Comes asked arrivals p → p ≡ R arrivals
    same_play asked p asks comes =
        (ready.comes arrivals (bytes_in_cut left arrivals tail bytes cut) p).0
        (subst (λ (a : RoleSession). Comes a arrivals p) (same_given asked ready.asked (one files (given asked) (given ready.asked) asks ready.asks)) comes)

    is_done : (asked : RoleSession) (p : Played (List ℕ)) → Prepares files (given asked) → Comes asked arrivals p → p.end ≡ plays.done
        → (out rest : List ℕ) → Outcome way Comes (Prepares files) left arrivals tail s out rest → s ≡ Done
    is_done asked p asks comes ends out rest (inl refusal) = not_both s asked (one files (refused s) (given asked) refusal.refuses asks)
    is_done asked p asks comes ends out rest (inr (other, also, played)) =
        let same : played.play ≡ p = same_play other played.play also played.plays ∙ sym (same_play asked p asks comes) in
        played.status_is ∙ ap (λ (q : Played (List ℕ)). status_at q.end tail) same ∙ ap (λ e. status_at e tail) ends

    ends_done : (now written written_now : Option (List ℕ)) → IsOutcome way Comes (Prepares files) left arrivals tail s now written written_now → (is_fault s ≡ true → s ≡ NoMemory)
        → (asked : RoleSession) (p : Played (List ℕ)) → Prepares files (given asked) → Comes asked arrivals p → p.end ≡ plays.done → (s ≡ Done) ⊎ (s ≡ NoMemory)
    ends_done now written written_now outcome only_memory asked p asks comes ends = by (is_fault s) refl where
      by : (b : Bool) → is_fault s ≡ b → (s ≡ Done) ⊎ (s ≡ NoMemory)
      by true fault = inr (only_memory fault)
      by false quiet = let o = outcome.is quiet in inl (is_done asked p asks comes ends o.0 o.1 o.2)

  pub completes_played : (told : Option Files) (old new : WireState) (s : Status) (R : List (List ℕ) → Played (List ℕ)) (records : List (List ℕ) → List ℕ) (Kept : List (List ℕ) → Type 0) → IfTold told (λ files. IsReady Comes (Prepares files) R records Kept)
      → ParksOver way Comes Prepares told old new s Reads → (is_fault s ≡ true → s ≡ NoMemory) → CompletesOver way Comes Prepares told old new s
  completes_played None old new s R records Kept ready does only_memory = tt
  completes_played (Some files) old new s R records Kept ready does only_memory = by old.left does.outcome where
    by : (left : Option (List ℕ)) → IfTold left (λ (input : List ℕ). (arrivals : List (List ℕ)) (tail : Tail) → IsBytes input → Cut ARRIVAL input arrivals tail
        → IsOutcome way Comes (Prepares files) input arrivals tail s new.left old.written new.written)
        → IfTold left (λ (input : List ℕ). (asked : RoleSession) (arrivals : List (List ℕ)) (tail : Tail) (p : Played (List ℕ)) → IsBytes input → Cut ARRIVAL input arrivals tail → Prepares files (given asked)
        → Comes asked arrivals p → p.end ≡ plays.done → (s ≡ Done) ⊎ (s ≡ NoMemory))
    by None outcome = tt
    by (Some left) outcome = λ asked arrivals tail p bytes cut asks comes ends.
        ends_done R records Kept files ready left arrivals tail bytes cut s new.left old.written new.written (outcome arrivals tail bytes cut) only_memory asked p asks comes ends

  -- nothing is played where it is refused
  pub completes_refused : (told : Option Files) (old new : WireState) (s : Status) → (is_fault s ≡ true → s ≡ NoMemory) → IsFailure s (λ _. Unit {0}) (IfTold told (λ files. Prepares files (refused s)))
      → CompletesOver way Comes Prepares told old new s
  completes_refused None old new s only_memory fails = tt
  completes_refused (Some files) old new s only_memory fails = by old.left where
    answers : (t : Status) → (is_fault t ≡ true → t ≡ NoMemory) → IsFailure t (λ _. Unit {0}) (Prepares files (refused t)) → (asked : RoleSession) → Prepares files (given asked) → (t ≡ Done) ⊎ (t ≡ NoMemory)
    answers (status.FileFault name) memory why asked asks = inr (memory refl)
    answers status.NoMemory memory why asked asks = inr refl
    answers t memory why asked asks = not_both t asked (one files (refused t) (given asked) why asks)

    by : (left : Option (List ℕ)) → IfTold left (λ (input : List ℕ). (asked : RoleSession) (arrivals : List (List ℕ)) (tail : Tail) (p : Played (List ℕ)) → IsBytes input → Cut ARRIVAL input arrivals tail
        → Prepares files (given asked) → Comes asked arrivals p → p.end ≡ plays.done → (s ≡ Done) ⊎ (s ≡ NoMemory))
    by None = tt
    by (Some left) = λ asked arrivals tail p bytes cut asks comes ends. answers s only_memory fails asked asks
