-- What `values` does for a whole narration: it writes a values file with a value for each name that some
-- role knows.
use Rattle.std.specs.Prelude.{◌≡◌, ◌+◌, ℕ, List, [], ◌∷◌, length, true, Option, Some, None, if◌then◌else◌}
use Rattle.anb_base.specs.Wires.{WireState}
use Rattle.anb_seal.specs.Streams.{draw_of}
use Rattle.anb_protocol.specs.Checks.{names_agent}
use Rattle.anb_protocol.specs.Protocols.{ProtocolValue}
use Rattle.anb_protocol.specs.Texts.{known_names}
use Rattle.anb_values.specs.declared.fitted.Fitted.{Fitted}
use Rattle.anb_values_text.specs.Texts.{IsTextOf}
use Rattle.anb_status.specs.declared.status.Status.{Status}
use Rattle.anb_command.specs.Fetches.{Files, IfTold}
use Rattle.anb_command.specs.Files.{ProtocolInFile}
use Rattle.anb_command.specs.Seeds.{SeedIs}
use Rattle.anb_command.specs.Steps.{Answer, refused, given, InTurn}
use Rattle.anb_command.specs.Writing.{CompletesText, IsWritingOne}

-- the value of a name, by its place among the names: an agent's is its name, and any other's the draw of
-- this number, in session 0
abbrev pub value_for : ProtocolValue → (seed : List ℕ) → ℕ → List ℕ → List ℕ
value_for p seed i name = if names_agent p.atoms name then name else draw_of seed 0 i

-- the values of names that stand from this place on
abbrev pub values_from : ProtocolValue → (seed : List ℕ) → ℕ → List (List ℕ) → List (List ℕ)
values_from p seed i [] = []
values_from p seed i (name ∷ names) = value_for p seed i name ∷ values_from p seed (i + 1) names

-- those of all names that some role knows; and the next draw is the seed of the file
abbrev pub drawn : ProtocolValue → (seed : List ℕ) → Fitted
drawn p seed = record {
  values = values_from p seed 0 (known_names p);
  seed = Some (draw_of seed 0 (length (known_names p)));
}

abbrev pub DrawnIs : ProtocolValue → (seed : List ℕ) → Answer (List ℕ) → Type 0
DrawnIs p seed (refused status) = ⊥
DrawnIs p seed (given text) = IsTextOf (known_names p) (drawn p seed) text

-- what is drawn under the seed that is handed in, where one is
abbrev pub DrawnOf : Option (List ℕ) → ProtocolValue → Answer (List ℕ) → Type 0
DrawnOf host_seed p = InTurn (SeedIs true None host_seed) (DrawnIs p)

-- for the protocol in a narration's file; its roles need not be able to send
abbrev pub ValuesText : Files → (narration : List ℕ) → Option (List ℕ) → Answer (List ℕ) → Type 0
ValuesText files narration host_seed = InTurn (ProtocolInFile files narration) (DrawnOf host_seed)

module _ (narration : List ℕ) (told : Option Files) (host_seed : Option (List ℕ)) where
  abbrev pub DoesValues : (old new : WireState) → Status → Type 0
  DoesValues old new status =
      IfTold told (λ files. IsWritingOne (ValuesText files narration host_seed) status old.written new.written)

  abbrev pub CompletesValues : Status → Type 0
  CompletesValues status =
      IfTold told (λ files. CompletesText (ValuesText files narration host_seed) status)
