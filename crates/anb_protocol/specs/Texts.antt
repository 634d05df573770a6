-- Terms of a protocol as texts, and the names and texts that a protocol asks values for.
use Rattle.std.specs.Prelude.{◌≡◌, ℕ, ◌<◌, List, [], ◌∷◌, ◌++◌, length, map, IsTrue, slice_get, nat_eq}
use Rattle.std.specs.Option.{option_map_or}
use Rattle.std.specs.List.{flat_map}
use Rattle.anb_format.specs.Formats.{FormatValue}
use Rattle.anb_term.specs.declared.term.Op.{Op}
use Rattle.anb_term.specs.declared.term.Op.TheVariants.{Hash, Mac, Seal, Wrap, Format}
use Rattle.anb_term.specs.Operator.{arity}
use Rattle.anb_term.specs.Tree as term
use Rattle.anb_algebra.specs.ByteMeaning.{has_operator}
use Rattle.anb_syntax.specs.Grammar.{Tree, atom, apply, hash, mac, seal, wrap, Trees, none, more, spell_trees}
use Rattle.anb_syntax.specs.Words.{close_sign, hash_word, mac_word, seal_word, wrap_word}
use Rattle.anb_syntax.specs.Canon.{canon_tree, words_bytes}
use Rattle.anb_protocol.specs.declared.parts.Atom.{Atom}
use Rattle.anb_protocol.specs.Names.{distinct}
use Rattle.anb_protocol.specs.Protocols.{ProtocolValue}

abbrev pub atom_name : ProtocolValue → ℕ → List ℕ
atom_name p a = option_map_or (λ (x : Atom). x.name) (slice_get p.atoms a) []

abbrev pub format_name : ProtocolValue → ℕ → List ℕ
format_name p i = option_map_or (λ (f : FormatValue). f.name) (slice_get p.formats i) []

-- an operator on operands, as a narration writes it; on another number of operands it is no term
abbrev pub written : ProtocolValue → Op → Trees → Tree
written p Hash (more t none) = hash t
written p Mac (more t (more u none)) = mac t u
written p Seal (more t (more u none)) = seal t u
written p Wrap (more t (more u (more v none))) = wrap t u v
written p (Format i arity) ts = apply (format_name p i) ts
written p o ts = atom []

abbrev mutual
  -- a term as a narration writes it, by names
  pub spelled : ProtocolValue → term.Tree → Tree
  spelled p (term.leaf a) = atom (atom_name p a)
  spelled p (term.node o ts) = written p o (spelled_all p ts)

  pub spelled_all : ProtocolValue → term.Trees → Trees
  spelled_all p term.none = none
  spelled_all p (term.more t ts) = more (spelled p t) (spelled_all p ts)

-- a term whose atoms are the protocol's, and whose operators are those of its formats and the others,
-- on as many operands as they take
abbrev mutual
  pub IsTermOf : ProtocolValue → term.Tree → Type 0
  IsTermOf p (term.leaf a) = a < length p.atoms
  IsTermOf p (term.node o ts) = IsTrue (has_operator p.formats o) × (length (term.list_of ts) ≡ arity o) × AreTermsOf p ts

  pub AreTermsOf : ProtocolValue → term.Trees → Type 0
  AreTermsOf p term.none = Unit {0}
  AreTermsOf p (term.more t ts) = IsTermOf p t × AreTermsOf p ts

-- the canonical text of a term
abbrev pub term_text : ProtocolValue → term.Tree → List ℕ
term_text p t = canon_tree (spelled p t)

abbrev mutual
  -- the atoms in a term, from left to right
  pub atoms_in : term.Tree → List ℕ
  atoms_in (term.leaf a) = a ∷ []
  atoms_in (term.node o ts) = atoms_in_all ts

  pub atoms_in_all : term.Trees → List ℕ
  atoms_in_all term.none = []
  atoms_in_all (term.more t ts) = atoms_in t ++ atoms_in_all ts

abbrev pub atoms_in_each : List term.Tree → List ℕ
atoms_in_each ts = flat_map atoms_in ts

-- the terms that a role knows
abbrev pub known_by : ProtocolValue → ℕ → List term.Tree
known_by p role = option_map_or (λ (ts : List term.Tree). ts) (slice_get p.knows role) []

-- all terms that some role knows
abbrev pub known_terms : ProtocolValue → List term.Tree
known_terms p = flat_map (λ (ts : List term.Tree). ts) p.knows

-- the texts of what a role knows
abbrev pub known_texts : ProtocolValue → ℕ → List (List ℕ)
known_texts p role = map (term_text p) (known_by p role)

-- the names that occur in some role's knowledge, in the order in which they first do
abbrev pub known_names : ProtocolValue → List (List ℕ)
known_names p = map (atom_name p) (distinct nat_eq (atoms_in_each (known_terms p)))

-- how an operator is written, and its operands
abbrev pub op_text : ProtocolValue → Op → List ℕ
op_text p Hash = hash_word
op_text p Mac = mac_word
op_text p Seal = seal_word
op_text p Wrap = wrap_word
op_text p (Format i arity) = format_name p i

abbrev pub operands_text : ProtocolValue → term.Trees → List ℕ
operands_text p ts = 40 ∷ words_bytes (spell_trees close_sign (spelled_all p ts))
