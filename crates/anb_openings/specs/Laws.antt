-- What holds of cases of openings in every lawful algebra, whatever the values and draws are.
use Rattle.std.specs.Prelude.{◌≡◌, ◌-◌, ℕ, List, [], ◌∷◌, length, map, take, drop, Option, Some, None, option_and_then}
use Rattle.anb_base.specs.declared.content.Suite.{Suite}
use Rattle.anb_format.specs.Formats.{FormatValue}
use Rattle.anb_term.specs.declared.term.Op.{Op}
use Rattle.anb_term.specs.declared.term.Op.TheVariants.{Seal, Wrap, Format}
use Rattle.anb_term.specs.Tree.{Tree, node, trees_of, IsFormed}
use Rattle.anb_term.specs.Value.{Meaning}
use Rattle.anb_algebra.specs.ByteMeaning.{byte_meaning, has_operator}
use Rattle.anb_plays.specs.Plans.{Event, known}
use Rattle.anb_plays.specs.Plays.{stopped}
use Rattle.anb_plays.specs.Codes.{Act}
use Rattle.anb_plays.specs.Exec.{HasTakes}
use Rattle.anb_plays.specs.Honest.{honest, made, LabelsAreFormed}
use Rattle.anb_probe.specs.Laws.{AreValuesOf, run_over}
use Rattle.anb_spoil.specs.Tags.{falsely_sealed, falsely_wrapped}
use Rattle.anb_spoil.specs.Wrongs.{wrong_by}
use Rattle.anb_spoil.specs.declared.tags.Closing.TheVariants as closing
use Rattle.anb_spoil.specs.declared.wrongs.Wrong.TheVariants.{Spoilt, FalseTag}
use Rattle.anb_spoil.specs.declared.rows.Row.{Row}
use Rattle.anb_openings.specs.Steps.{Progress, begun, writing, after_all}
use Rattle.anb_openings.specs.Openings.{OpeningValue, IsOpening, IsOpeningCase}

-- A program that is the code but for the instruction of this number: there it writes these values, whatever it finds.
abbrev pub taking : {A : Type 0} → Meaning A → (made : List A) → List A → (instruction : ℕ) → List Act → Progress A → Option (Progress A)
taking m made ws instruction code s =
    option_and_then (λ t. after_all m made (drop instruction code) (writing ws t)) (after_all m made (take (instruction - 1) code) s)

module _ {A : Type 0} (m : Meaning A) where
  -- a case of an opening, and values of the names and of the spare name
  pub record IsPlayed (names : ℕ) (plan : List Event) (code : List Act) (instruction : ℕ) (o : Op) (ks : List ℕ) (r : ℕ) (case : OpeningValue) (atoms draw : ℕ → A) : Type 0 where
    pub opening : IsOpening code instruction o ks r
    pub is : IsOpeningCase m.has names plan code instruction o ks r case
    pub takes : HasTakes m.has code 0 (length (known plan))
    pub formed : LabelsAreFormed m.has plan
    pub values : AreValuesOf m plan atoms draw

  -- Where the value of the spare name has no parts under the values of the narrated keys, the code stops at the opening.
  abbrev pub ShutStops : Type 0
  ShutStops = (names : ℕ) (plan : List Event) (code : List Act) (instruction : ℕ) (o : Op) (ks : List ℕ) (r : ℕ) (case : OpeningValue) (atoms draw : ℕ → A)
      → (played : IsPlayed names plan code instruction o ks r case atoms draw) → m.undone o (map (honest m atoms) played.is.keyed) (atoms names) ≡ None
      → (run_over m atoms draw plan code case.arrivals).end ≡ stopped case.event instruction

  -- A program that takes the values of the narrated parts there goes on to its end, whatever the value of the spare name is:
  -- it uses all that arrives, and sends the values of the case's messages.
  pub record GoesOn (made known : List A) (atoms : ℕ → A) (parts : List Tree) (code : List Act) (instruction : ℕ) (case : OpeningValue) : Type 0 where
    pub end : Progress A
    pub goes : taking m made (map (honest m atoms) parts) instruction code (begun known (map (honest m atoms) case.arrivals)) ≡ Some end
    pub used : end.left ≡ []
    pub messages : end.sent ≡ map (honest m atoms) case.messages

  abbrev pub TakenGoesOn : Type 0
  TakenGoesOn = (names : ℕ) (plan : List Event) (code : List Act) (instruction : ℕ) (o : Op) (ks : List ℕ) (r : ℕ) (case : OpeningValue) (atoms draw : ℕ → A)
      → (played : IsPlayed names plan code instruction o ks r case atoms draw)
      → GoesOn (map (honest m atoms) (made plan)) (map (honest m atoms) (known plan)) atoms played.is.parts code instruction case

-- ---- over byte strings

module _ (formats : List FormatValue) (suite : Suite) where
  abbrev pub bytes_of : (ℕ → List ℕ) → Tree → List ℕ
  bytes_of atoms = honest (byte_meaning formats suite) atoms

-- a format's right bytes, spoilt in the way of a row, where they stand in place of what is parsed
abbrev pub SpoiltStops : Type 0
SpoiltStops = (formats : List FormatValue) (suite : Suite) (names : ℕ) (plan : List Event) (code : List Act) (instruction place arity : ℕ) (ks : List ℕ) (r : ℕ) (case : OpeningValue) (atoms draw : ℕ → List ℕ)
    → IsPlayed (byte_meaning formats suite) names plan code instruction (Format place arity) ks r case atoms draw
    → (row : Row) → wrong_by formats (Spoilt place row) (bytes_of formats suite atoms case.opened) ≡ Some (atoms names)
    → (run_over (byte_meaning formats suite) atoms draw plan code case.arrivals).end ≡ stopped case.event instruction

-- the narrated message with a false tag, under the narrated key, where it stands in place of what is unsealed or unwrapped
abbrev pub FalseSealStops : Type 0
FalseSealStops = (formats : List FormatValue) (suite : Suite) (names : ℕ) (plan : List Event) (code : List Act) (instruction : ℕ) (ks : List ℕ) (r : ℕ) (case : OpeningValue) (atoms draw : ℕ → List ℕ)
    → IsPlayed (byte_meaning formats suite) names plan code instruction Seal ks r case atoms draw
    → (k m : Tree) → case.opened ≡ node Seal (trees_of (k ∷ m ∷ []))
    → atoms names ≡ falsely_sealed suite (bytes_of formats suite atoms k) (bytes_of formats suite atoms m)
    → (run_over (byte_meaning formats suite) atoms draw plan code case.arrivals).end ≡ stopped case.event instruction

abbrev pub FalseWrapStops : Type 0
FalseWrapStops = (formats : List FormatValue) (suite : Suite) (names : ℕ) (plan : List Event) (code : List Act) (instruction : ℕ) (ks : List ℕ) (r : ℕ) (case : OpeningValue) (atoms draw : ℕ → List ℕ)
    → IsPlayed (byte_meaning formats suite) names plan code instruction Wrap ks r case atoms draw
    → (k d m : Tree) → case.opened ≡ node Wrap (trees_of (k ∷ d ∷ m ∷ []))
    → atoms names ≡ falsely_wrapped suite (bytes_of formats suite atoms k) (bytes_of formats suite atoms d) (bytes_of formats suite atoms m)
    → (run_over (byte_meaning formats suite) atoms draw plan code case.arrivals).end ≡ stopped case.event instruction

-- a closed term and its key, the first two parts of a value of a format
abbrev pub pair : (place fields : ℕ) → (closed key : Tree) → List Tree → Tree
pair place fields closed key rest = node (Format place fields) (trees_of (closed ∷ key ∷ rest))

-- and so does what is made of the bytes of these two with a false tag
abbrev pub RetaggedSealStops : Type 0
RetaggedSealStops = (formats : List FormatValue) (suite : Suite) (names : ℕ) (plan : List Event) (code : List Act) (instruction : ℕ) (ks : List ℕ) (r : ℕ) (case : OpeningValue) (atoms draw : ℕ → List ℕ)
    → IsPlayed (byte_meaning formats suite) names plan code instruction Seal ks r case atoms draw
    → (k m : Tree) → case.opened ≡ node Seal (trees_of (k ∷ m ∷ []))
    → (place fields : ℕ) (rest : List Tree) → IsFormed (has_operator formats) (pair place fields case.opened k rest)
    → wrong_by formats (FalseTag suite closing.Seal place) (bytes_of formats suite atoms (pair place fields case.opened k rest)) ≡ Some (atoms names)
    → (run_over (byte_meaning formats suite) atoms draw plan code case.arrivals).end ≡ stopped case.event instruction

abbrev pub RetaggedWrapStops : Type 0
RetaggedWrapStops = (formats : List FormatValue) (suite : Suite) (names : ℕ) (plan : List Event) (code : List Act) (instruction : ℕ) (ks : List ℕ) (r : ℕ) (case : OpeningValue) (atoms draw : ℕ → List ℕ)
    → IsPlayed (byte_meaning formats suite) names plan code instruction Wrap ks r case atoms draw
    → (k d m : Tree) → case.opened ≡ node Wrap (trees_of (k ∷ d ∷ m ∷ []))
    → (place fields : ℕ) (rest : List Tree) → IsFormed (has_operator formats) (pair place fields case.opened k rest)
    → wrong_by formats (FalseTag suite closing.Wrap place) (bytes_of formats suite atoms (pair place fields case.opened k rest)) ≡ Some (atoms names)
    → (run_over (byte_meaning formats suite) atoms draw plan code case.arrivals).end ≡ stopped case.event instruction
