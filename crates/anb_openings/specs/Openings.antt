-- Cases of openings: arrivals with a spare name in place of what one instruction opens; or why an opening has none.
use Rattle.std.specs.Prelude.{◌≡◌, ◌<◌, ℕ, ◌+◌, ◌-◌, ◌&&◌, ◌||◌, List, [], ◌∷◌, ◌++◌, length, map, take, drop, count_by, Bool, true, false, Option, Some, None, option_and_then, slice_get, if◌then◌else◌}
use Rattle.anb_term.specs.declared.term.Op.{Op}
use Rattle.anb_term.specs.Lawful.{picked}
use Rattle.anb_term.specs.Operator.{keys}
use Rattle.anb_term.specs.Tree.{Tree, leaf, node, Trees, none, more, trees_of, tree_eqb, AreFormed}
use Rattle.anb_term.specs.View.{tree_of}
use Rattle.anb_term.specs.FreeAlgebra.{terms}
use Rattle.anb_algebra.specs.ByteMeaning.{has_operator}
use Rattle.anb_plays.specs.Plans.{Event, known}
use Rattle.anb_plays.specs.Plays.{stopped}
use Rattle.anb_plays.specs.Codes.{Act, takes, draws, receives, sends, works, make, undo, equal}
use Rattle.anb_plays.specs.Honest.{honest, heard, made}
use Rattle.anb_code.specs.declared.instr.Instr.{Instr}
use Rattle.anb_code.specs.declared.instr.Instr.TheVariants.{Parse, Recv, Send}
use Rattle.anb_code.specs.CodeValue.{CodeValue}
use Rattle.anb_code.specs.Meaning.{acts_of}
use Rattle.anb_protocol.specs.Protocols.{ProtocolValue}
use Rattle.anb_protocol.specs.Plays.{events_of}
use Rattle.anb_explain.specs.Explained.{register_terms}
use Rattle.anb_probe.specs.Cases.{for_spare, run_in_terms}
use Rattle.anb_openings.specs.Steps.{Progress, begun, writing, after_all, StopsAt}
use Rattle.anb_openings.specs.declared.cases.NoCase.{NoCase}
use Rattle.anb_openings.specs.declared.cases.Obstacle.{Obstacle}
use Rattle.anb_openings.specs.declared.cases.Obstacle.TheVariants.{Earlier, OwnTerm, Later}
use Rattle.anb_openings.specs.declared.cases.OpeningCase.{OpeningCase}
use Rattle.anb_openings.specs.declared.cases.OpeningFinding.{OpeningFinding}
use Rattle.anb_openings.specs.declared.cases.OpeningFinding.TheVariants as finding

-- ---- openings

abbrev pub is_opening : Act → Bool
is_opening (works (undo o ks r)) = true
is_opening (works (make o rs)) = false
is_opening (works (equal a b)) = false
is_opening takes = false
is_opening draws = false
is_opening receives = false
is_opening (sends r) = false

abbrev pub is_arrival : Act → Bool
is_arrival receives = true
is_arrival takes = false
is_arrival draws = false
is_arrival (sends r) = false
is_arrival (works w) = false

-- the openings behind the first arrival, by the numbers of their instructions, where `at` instructions stand before
abbrev pub openings_from : (came : Bool) → (at : ℕ) → List Act → List ℕ
openings_from came at [] = []
openings_from came at (act ∷ acts) = (if came && is_opening act then (at + 1) ∷ [] else []) ++ openings_from (came || is_arrival act) (at + 1) acts

abbrev pub openings_of : List Act → List ℕ
openings_of acts = openings_from false 0 acts

-- the instruction of this number undoes a register with keys
pub record IsOpening (code : List Act) (instruction : ℕ) (o : Op) (ks : List ℕ) (r : ℕ) : Type 0 where
  pub at : ℕ
  pub counts : instruction ≡ at + 1
  pub here : slice_get code at ≡ Some (works (undo o ks r))

abbrev pub HasOpening : CodeValue → ℕ → Type 0
HasOpening code instruction = (o : Op) × (ks : List ℕ) × (r : ℕ) × IsOpening (acts_of code) instruction o ks r

-- the format that an instruction parses, by its place
abbrev pub parsed_format : Instr → Option ℕ
parsed_format (Parse f r) = Some f
parsed_format instr = None

abbrev pub parsed_at : CodeValue → ℕ → Option ℕ
parsed_at code instruction = option_and_then parsed_format (slice_get code.instrs (instruction - 1))

-- sends and receives
abbrev pub is_exchange : Instr → Bool
is_exchange Recv = true
is_exchange (Send r) = true
is_exchange instr = false

-- how many stand before an instruction
abbrev pub exchanges_before : CodeValue → ℕ → ℕ
exchanges_before code instruction = count_by is_exchange (take (instruction - 1) code.instrs)

-- ---- the spare name in place of a term

abbrev mutual
  pub spared : (spare : ℕ) → (opened t : Tree) → Tree
  spared spare opened (leaf n) = if tree_eqb (leaf n) opened then leaf spare else leaf n
  spared spare opened (node o ts) = if tree_eqb (node o ts) opened then leaf spare else node o (all_spared spare opened ts)

  pub all_spared : (spare : ℕ) → (opened : Tree) → Trees → Trees
  all_spared spare opened none = none
  all_spared spare opened (more t ts) = more (spared spare opened t) (all_spared spare opened ts)

-- ---- cases

pub record OpeningValue : Type 0 where
  pub arrivals : List Tree
  pub messages : List Tree
  pub opened : Tree
  pub event : ℕ

-- The arrivals are the narrated ones but for the spare name, which stands for the opened term. The code comes to the
-- instruction, finds the spare name there, with the narrated keys, and stops. Whoever writes the narrated parts there,
-- whatever it found, goes on to the end, and sends these messages.
pub record IsOpeningCase (has : Op → Bool) (names : ℕ) (plan : List Event) (code : List Act) (instruction : ℕ) (o : Op) (ks : List ℕ) (r : ℕ) (case : OpeningValue) : Type 0 where
  pub formed : AreFormed has (trees_of (case.opened ∷ case.arrivals))
  pub narrated : map (honest terms (for_spare names case.opened)) case.arrivals ≡ heard plan
  pub before : Progress Tree
  pub comes : after_all terms (made plan) (take (instruction - 1) code) (begun (known plan) case.arrivals) ≡ Some before
  pub finds : slice_get before.table r ≡ Some (leaf names)
  pub event : before.event ≡ case.event
  pub stops : (run_in_terms has plan code case.arrivals).end ≡ stopped case.event instruction
  pub keyed : List Tree
  pub parts : List Tree
  pub opens : case.opened ≡ node o (trees_of (keyed ++ parts))
  pub count : length keyed ≡ keys o
  pub keys_are : picked before.table ks ≡ keyed
  pub behind : Progress Tree
  pub goes_on : after_all terms (made plan) (drop instruction code) (writing parts before) ≡ Some behind
  pub used : behind.left ≡ []
  pub messages : behind.sent ≡ case.messages

abbrev pub opening_value : OpeningCase → OpeningValue
opening_value case = record {
  arrivals = map tree_of case.arrivals.items;
  messages = map tree_of case.messages.items;
  opened = tree_of case.opened;
  event = case.event;
}

-- What is opened, and what arrives where the spare name, which has the number of names, stands in its place: the opened
-- term is what the role's register holds by the narration, and it is replaced wherever it is in what arrives.
pub record IsOpened (p : ProtocolValue) (role : ℕ) (code : CodeValue) (instruction : ℕ) (o : Op) (ks : List ℕ) (r : ℕ) (opened : Tree) (arrivals : List Tree) : Type 0 where
  pub opening : IsOpening (acts_of code) instruction o ks r
  pub registers : List Tree
  pub explained : register_terms p role code ≡ Some registers
  pub narrated : slice_get registers r ≡ Some opened
  pub put : arrivals ≡ map (spared (length p.atoms) opened) (heard (events_of p role))

-- a case of an opening of a role's code
pub record IsOpeningCaseOf (p : ProtocolValue) (role : ℕ) (code : CodeValue) (instruction : ℕ) (case : OpeningCase) : Type 0 where
  pub number : case.instruction ≡ instruction
  pub o : Op
  pub ks : List ℕ
  pub r : ℕ
  pub opened : IsOpened p role code instruction o ks r (tree_of case.opened) (map tree_of case.arrivals.items)
  pub is : IsOpeningCase (has_operator p.formats) (length p.atoms) (events_of p role) (acts_of code) instruction o ks r (opening_value case)

-- ---- no case

module _ (made known arrivals : List Tree) (code : List Act) (instruction : ℕ) where
  -- the code comes to the instruction
  abbrev pub Comes : Progress Tree → Type 0
  Comes before = after_all terms made (take (instruction - 1) code) (begun known arrivals) ≡ Some before

  -- it stops before it, at the instruction of this number
  pub record StopsEarlier (number : ℕ) : Type 0 where
    pub at : ℕ
    pub counts : number ≡ at + 1
    pub earlier : number < instruction
    pub stops : StopsAt terms made code (begun known arrivals) at

  -- it comes there, and finds no spare name
  pub record FindsOwnTerm (spare r : ℕ) : Type 0 where
    pub before : Progress Tree
    pub comes : Comes before
    pub other : slice_get before.table r ≡ Some (leaf spare) → ⊥

  -- It comes there and finds the spare name. Whoever writes these parts stops behind it, at the instruction of this number.
  pub record StopsLater (spare r : ℕ) (parts : List Tree) (number : ℕ) : Type 0 where
    pub before : Progress Tree
    pub comes : Comes before
    pub finds : slice_get before.table r ≡ Some (leaf spare)
    pub at : ℕ
    pub counts : number ≡ instruction + at + 1
    pub stops : StopsAt terms made (drop instruction code) (writing parts before) at

  -- What is in the way of a case. It can't be two of these, nor one where there is a case: a run goes one way.
  abbrev pub IsObstacle : (spare r : ℕ) → (parts : List Tree) → Obstacle → Type 0
  IsObstacle spare r parts (Earlier number) = StopsEarlier number
  IsObstacle spare r parts OwnTerm = FindsOwnTerm spare r
  IsObstacle spare r parts (Later number) = StopsLater spare r parts number

-- an opening of a role's code has no case
pub record HasNoCase (p : ProtocolValue) (role : ℕ) (code : CodeValue) (instruction : ℕ) (lack : NoCase) : Type 0 where
  pub number : lack.instruction ≡ instruction
  pub event : lack.event ≡ exchanges_before code instruction
  pub o : Op
  pub ks : List ℕ
  pub r : ℕ
  pub opened : IsOpened p role code instruction o ks r (tree_of lack.opened) (map tree_of lack.arrivals.items)
  pub keyed : List Tree
  pub parts : List Tree
  pub opens : tree_of lack.opened ≡ node o (trees_of (keyed ++ parts))
  pub count : length keyed ≡ keys o
  pub why : IsObstacle (made (events_of p role)) (known (events_of p role)) (map tree_of lack.arrivals.items) (acts_of code) instruction (length p.atoms) r parts lack.why

abbrev pub IsOpeningFinding : ProtocolValue → ℕ → CodeValue → ℕ → OpeningFinding → Type 0
IsOpeningFinding p role code instruction (finding.Case case) = IsOpeningCaseOf p role code instruction case
IsOpeningFinding p role code instruction (finding.NoCase lack) = HasNoCase p role code instruction lack
