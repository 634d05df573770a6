-- For proofs alone: what a code less a check was solved to, and the spare name put in the place of a variable.
use Rattle.std.specs.Prelude.{◌≡◌, ◌+◌, ◌-◌, ℕ, List, ◌∷◌, ◌++◌, length, map, take, drop, count_by, Bool, true, false, Some, slice_get}
use Rattle.std.specs.List.{AllByRecursion}
use Rattle.anb_term.specs.Tree.{Tree}
use Rattle.anb_term.specs.View.{tree_of}
use Rattle.anb_algebra.specs.ByteMeaning.{has_operator}
use Rattle.anb_plays.specs.Codes.{Act}
use Rattle.anb_code.specs.declared.instr.Instr.{Instr}
use Rattle.anb_code.specs.declared.instr.Instr.TheVariants.{Recv, Send}
use Rattle.anb_code.specs.CodeValue.{CodeValue}
use Rattle.anb_code.specs.Meaning.{acts_of}
use Rattle.anb_protocol.specs.Protocols.{ProtocolValue}
use Rattle.anb_protocol.specs.Plays.{events_of}
use Rattle.anb_protocol.specs.Texts.{IsTermOf}
use Rattle.anb_unify.specs.Substitutions.{put_in, IsNamed}
use Rattle.anb_unify.specs.Equations.{IsMostGeneral, atoms_of}
use Rattle.anb_distinguish.specs.Equations.{assigned}
use Rattle.anb_distinguish.specs.Finding.{IsOverNames, IsCheck, less_equations, received_in, spared}
use Rattle.anb_distinguish.specs.Laws.{IsHonest}
use Rattle.anb_suite.specs.Reading.{read_by}
use Rattle.anb_suite.specs.declared.reading.Reading.{Reading}
use Rattle.anb_suite.specs.declared.cases.Case.{Case}
use Rattle.anb_suite.specs.declared.solving.Solved.{Solved}
use Rattle.anb_suite.specs.Walks.{sent_in}

-- the narrated terms of registers in the places of their variables
abbrev pub narrated_at : ℕ → List Tree → ℕ → Tree
narrated_at spare terms = assigned (spare + 1) terms

-- but the spare name in the place of one
abbrev pub spared_at : ℕ → ℕ → List Tree → ℕ → Tree
spared_at spare v terms = spared spare v (narrated_at spare terms)

-- put into patterns: those of what arrives, the two sides, and the messages
pub record IsPutInto (spare v : ℕ) (terms : List Tree) (count : ℕ) (patterns : List Tree) (case : Case) : Type 0 where
  pub arrivals : map tree_of case.arrivals.items ≡ map (put_in (spared_at spare v terms)) (take count patterns)
  pub wrong : tree_of case.wrong ≡ narrated_at spare terms v
  pub one : (t : Tree) → slice_get patterns count ≡ Some t → tree_of case.one ≡ put_in (spared_at spare v terms) t
  pub other : (t : Tree) → slice_get patterns (count + 1) ≡ Some t → tree_of case.other ≡ put_in (spared_at spare v terms) t
  pub messages : map tree_of case.messages.items ≡ map (put_in (spared_at spare v terms)) (drop (count + 2) patterns)

-- sends and receives
abbrev pub is_exchange : Instr → Bool
is_exchange Recv = true
is_exchange (Send r) = true
is_exchange instr = false

-- the sends and receives before an instruction
abbrev pub event_before : List Instr → ℕ → ℕ
event_before instrs check = count_by is_exchange (take (check - 1) instrs)

-- The registers that are asked for: those that arrivals are written to, the two of the check, and those that are sent.
abbrev pub asked : ProtocolValue → ℕ → List Act → ℕ → ℕ → List ℕ
asked p role acts a b = received_in (events_of p role) acts ++ a ∷ b ∷ sent_in acts

-- the most general solution of acts less a check, and the narrated one
pub record IsSolved (p : ProtocolValue) (role : ℕ) (acts : List Act) (check a b : ℕ) (solved : Solved) : Type 0 where
  pub is : IsCheck acts check a b
  pub spare : solved.spare ≡ length p.atoms
  pub over : IsOverNames (has_operator p.formats) (length p.atoms) (events_of p role) acts
  pub honest : IsHonest (has_operator p.formats) (length p.atoms) (events_of p role) acts check a b (narrated_at (length p.atoms) solved.explanation.terms)
  pub same : narrated_at (length p.atoms) solved.explanation.terms (length p.atoms + 1 + a) ≡ narrated_at (length p.atoms) solved.explanation.terms (length p.atoms + 1 + b)
  pub named : IsNamed (length p.atoms) (narrated_at (length p.atoms) solved.explanation.terms (length p.atoms + 1 + a))
  pub terms : AllByRecursion (IsTermOf p) solved.explanation.terms
  pub general : IsMostGeneral (length p.atoms + 1) (less_equations (length p.atoms) (events_of p role) acts check) (atoms_of (length p.atoms + 1) (asked p role acts a b)) (map tree_of solved.patterns.items)
  pub count : solved.count ≡ length (received_in (events_of p role) acts)

-- those of a code as it is read behind the check
pub record IsSolvedAs (p : ProtocolValue) (role : ℕ) (code : CodeValue) (reading : Reading) (check : ℕ) (solved : Solved) : Type 0 where
  pub a : ℕ
  pub b : ℕ
  pub compares : IsCheck (acts_of code) check a b
  pub solved_is : IsSolved p role (read_by reading check a b (acts_of code)) check a b solved
