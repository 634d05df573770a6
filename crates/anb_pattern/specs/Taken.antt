-- What a role takes, in words: the pattern below a receive, and the lines at the role's end; and what it takes unchecked.
use Rattle.std.specs.Prelude.{ℕ, zero, suc, ◌+◌, ◌-◌, ◌==◌, List, [], ◌∷◌, ◌++◌, length, drop, filter, Bool, true, false, codes, decimal, slice_get, if◌then◌else◌, refl}
use Rattle.std.specs.Coded.{Coded, code_by, coded×, coded_ℕ, coded_list}
use Rattle.std.specs.Option.{option_map_or}
use Rattle.anb_term.specs.Tree.{Tree, leaf, node, Trees, none, more, tree_eqb}
use Rattle.anb_term.specs.TreeCode.{coded_tree}
use Rattle.anb_protocol.specs.declared.parts.Atom.{Atom}
use Rattle.anb_protocol.specs.Plans.{messages}
use Rattle.anb_protocol.specs.Protocols.{ActionValue, ProtocolValue}
use Rattle.anb_protocol.specs.Texts.{op_text, term_text}
use Rattle.anb_pattern.specs.Variables.{meanings, unchecked, resting}

-- ---- a pattern

-- a variable, by how many come before it
abbrev pub variable_text : ℕ → List ℕ
variable_text before = 63 ∷ decimal (before + 1)

-- a name, or else a variable
abbrev pub atom_text : ProtocolValue → ℕ → List ℕ
atom_text p n = option_map_or (λ (x : Atom). x.name) (slice_get p.atoms n) (variable_text (n - length p.atoms))

-- a comma between operands
abbrev pub comma : ℕ → List ℕ
comma zero = []
comma (suc i) = 44 ∷ []

abbrev mutual
  pub pattern_text : ProtocolValue → Tree → List ℕ
  pattern_text p (leaf n) = atom_text p n
  pattern_text p (node o ts) = op_text p o ++ (40 ∷ (operands_text p 0 ts ++ 41 ∷ []))

  -- with commas between them, where so many stand before these
  pub operands_text : ProtocolValue → ℕ → Trees → List ℕ
  operands_text p i none = []
  operands_text p i (more t ts) = comma i ++ (pattern_text p t ++ operands_text p (i + 1) ts)

-- ---- below a receive

-- where the role takes more than the narrated message
abbrev pub accepts : ProtocolValue → (pattern narrated : Tree) → List (List ℕ)
accepts p pattern narrated = if tree_eqb pattern narrated then [] else (codes "accepts " ++ pattern_text p pattern) ∷ []

abbrev pub accepts_first : ProtocolValue → List Tree → Tree → List (List ℕ)
accepts_first p [] narrated = []
accepts_first p (pattern ∷ patterns) narrated = accepts p pattern narrated

abbrev pub is_received : ℕ → ActionValue → Bool
is_received role a = a.to == role

module _ (p : ProtocolValue) (role : ℕ) where
  -- of a message that the role sends or receives, where these are the patterns of what it still receives
  abbrev pub accepted_at : List Tree → ActionValue → List (List (List ℕ))
  accepted_at patterns a = if is_received role a then accepts_first p patterns a.message ∷ [] else if a.from == role then [] ∷ [] else []

  abbrev pub still_due : List Tree → ActionValue → List Tree
  still_due patterns a = if is_received role a then drop 1 patterns else patterns

  -- of each in order
  abbrev pub accepted : List Tree → List ActionValue → List (List (List ℕ))
  accepted patterns [] = []
  accepted patterns (a ∷ actions) = accepted_at patterns a ++ accepted (still_due patterns a) actions

  -- the messages that it receives
  abbrev pub received : List Tree
  received = messages (filter (is_received role) p.actions)

-- ---- at the role's end

-- what stands before a term in a line: words before the first one, and before the others a comma, and their variables
-- where these are named
abbrev pub lead : List ℕ → Bool → ℕ → List ℕ
lead words named zero = words
lead words named (suc i) = codes ", " ++ (if named then variable_text (suc i) ++ codes " for " else [])

abbrev pub items : ProtocolValue → List ℕ → Bool → ℕ → List Tree → List ℕ
items p words named i [] = []
items p words named i (t ∷ ts) = lead words named i ++ (term_text p t ++ items p words named (i + 1) ts)

-- a line with these terms, where there are any
abbrev pub listed : ProtocolValue → List ℕ → Bool → List Tree → List ℕ
listed p words named [] = []
listed p words named (t ∷ ts) = items p words named 0 (t ∷ ts) ++ 10 ∷ []

abbrev pub unchecked_line : ProtocolValue → List Tree → List ℕ
unchecked_line p [] = codes "  takes nothing unchecked\n"
unchecked_line p (t ∷ ts) = listed p (codes "  takes unchecked: ") false (t ∷ ts)

module _ (p : ProtocolValue) (role : ℕ) (patterns : List Tree) where
  -- the narrated terms that the role takes unchecked
  abbrev pub taken_unchecked : List Tree
  taken_unchecked = unchecked (length p.atoms) patterns (received p role)

  abbrev pub end_lines : List ℕ
  end_lines =
      let names = length p.atoms in
      listed p (codes "  ?1 stands for ") true (meanings names patterns (received p role))
      ++ (unchecked_line p taken_unchecked
      ++ listed p (codes "  rests on arrivals alone: ") false (resting names patterns (received p role)))

-- what is said of a role: for each of its events from event 0 on, where there is nothing, and at its end; and the terms
-- that it takes unchecked
pub record TakenValue : Type 0 where
  pub notes : List (List (List ℕ))
  pub lines : List ℕ
  pub unchecked : List Tree

abbrev pub coded_taken : Coded TakenValue
coded_taken =
    code_by (List (List (List ℕ)) × (List ℕ × List Tree))
    (coded× (coded_list (coded_list (coded_list coded_ℕ))) (coded× (coded_list coded_ℕ) (coded_list coded_tree)))
    (λ t. (t.notes, (t.lines, t.unchecked)))
    (λ t. record { notes = t.0; lines = t.1.0; unchecked = t.1.1 })
    (λ _. refl)

-- with further lines at the role's end
abbrev pub with_lines : TakenValue → List ℕ → TakenValue
with_lines taken further = record taken { lines = taken.lines ++ further }

abbrev pub taken_of : ProtocolValue → ℕ → List Tree → TakenValue
taken_of p role patterns = record {
  notes = [] ∷ accepted p role patterns p.actions;
  lines = end_lines p role patterns;
  unchecked = taken_unchecked p role patterns;
}

-- of each role in order, by the patterns of each
abbrev pub taken_from : ProtocolValue → ℕ → List (List Tree) → List TakenValue
taken_from p role [] = []
taken_from p role (patterns ∷ others) = taken_of p role patterns ∷ taken_from p (role + 1) others
