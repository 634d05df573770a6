-- What is due of a relay among children whose outputs and statuses are told.
use Rattle.std.specs.Prelude.{◌≡◌, ℕ, ◌<◌, ◌==◌, not, List, Option, Some, None}
use Rattle.std.specs.List.{range_with_len}
use Rattle.std.specs.Option.{option_or}
use Rattle.anb_frame.specs.Cuts.{Tail}
use Rattle.anb_protocol.specs.Choices.{first, refuse_if}
use Rattle.anb_stage.specs.Children.{Child}
use Rattle.anb_stage.specs.Relays.{AreCut, IsRefused, IsRelayed, missing}
use Rattle.anb_stage.specs.declared.ends.Ends.{Ends}
use Rattle.anb_stage.specs.declared.refusal.RelayNo.{RelayNo}
use Rattle.anb_stage.specs.declared.refusal.RelayNo.TheVariants as no

-- for the frames in the output of each role's child, how it ends behind them, and its status
module _ (outputs : ℕ → List (List ℕ)) (tails : ℕ → Tail) (statuses : ℕ → ℕ) where
  -- they are those of the children of so many roles
  pub record AreTold (roles : ℕ) (children : ℕ → Child) : Type 0 where
    pub cut : AreCut roles children outputs tails
    pub ends : (role : ℕ) → role < roles → (children role).status ≡ Some (statuses role)

  -- a status other than 0 is refused
  abbrev pub bad_at : ℕ → Option RelayNo
  bad_at role = refuse_if (not (statuses role == 0)) (no.Bad role (statuses role))

  -- the first message that is missing, or else the first child that ends with a status other than 0
  abbrev pub due_of : (roles : ℕ) → List Ends → Option RelayNo
  due_of roles actions =
      option_or (missing outputs tails actions) (first bad_at (range_with_len 0 roles))

  -- a fault of a child, and want of memory, may come at any time
  abbrev pub IsDue : (roles : ℕ) → List Ends → RelayNo → Type 0
  IsDue roles actions (no.Fault role) = Unit {0}
  IsDue roles actions no.NoMemory = Unit {0}
  IsDue roles actions refusal = due_of roles actions ≡ Some refusal

-- A relay among children that are told so is refused as is due, or whole where nothing is: but for
-- faults and want of memory it has one outcome.
abbrev pub RelaysAreDue : Type 0
RelaysAreDue =
    (outputs : ℕ → List (List ℕ)) (tails : ℕ → Tail) (statuses : ℕ → ℕ)
    (roles : ℕ) (old new : ℕ → Child) (words : List (List (List ℕ))) (actions : List Ends)
    → AreTold outputs tails statuses roles old
    → (IsRelayed roles old new words actions → due_of outputs tails statuses roles actions ≡ None)
    × ((refusal : RelayNo) → IsRefused roles old new words actions refusal
    → IsDue outputs tails statuses roles actions refusal)
