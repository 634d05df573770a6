-- The names that some role knows are label texts.
use Rattle.std.proofs.Common.{◌≡◌, ◌<◌, ℕ, zero, suc, Bool, true, false, cond, List, [], ◌∷◌, ◌++◌, length, map, true, arith}
use Rattle.std.specs.Prelude.{nat_eq, slice_get}
use Rattle.std.specs.List.{AllByRecursion, list_any}
use Rattle.std.specs.Option.{option_map_or}
use Rattle.std.proofs.lemmas.List.Elements.{All-from_recursion}
use Rattle.anb_lemmas.proofs.Each.{each_in_parts}
use Rattle.anb_syntax.specs.Grammar.{IsName}
use Rattle.anb_values.specs.Lines.{IsLabel, is_label_byte}
use Rattle.anb_protocol.specs.Names.{distinct}
use Rattle.anb_protocol.specs.Plans.{messages}
use Rattle.anb_protocol.specs.Protocols.{ProtocolValue}
use Rattle.anb_protocol.specs.Texts.{IsTermOf, atom_name, atoms_in_each, known_names, known_terms}
use Rattle.anb_protocol.specs.WellFormed.{IsProtocol}
use Rattle.anb_protocol.specs.declared.parts.Atom.{Atom}
use Rattle.anb_protocol.proofs.AtomLemmas.{atoms_below_each}
use Rattle.anb_protocol.proofs.Differing.{names_of}
use Rattle.anb_protocol.proofs.Holding.{facts}
use Rattle.anb_honest.proofs.Differing.{each_of_distinct}
use Rattle.anb_text_commands.proofs.Spelling.{name_is}

name_label : (n : List ℕ) → IsName n → IsLabel n
name_label n is = let k = name_is n is in (k.1, All-from_recursion (λ b. is_label_byte b ≡ true) n k.0)

named : (atoms : List Atom) (a : ℕ) → a < length atoms → AllByRecursion (λ (x : Atom). IsName x.name) atoms → IsLabel (option_map_or (λ (x : Atom). x.name) (slice_get atoms a) [])
named [] a h all = absurd (omega (arith, h))
named (x ∷ atoms) zero h all = name_label x.name all.0
named (x ∷ atoms) (suc a) h all = named atoms a (omega (arith, h)) all.1

each_named : (p : ProtocolValue) → AllByRecursion (λ (x : Atom). IsName x.name) p.atoms → (ns : List ℕ) → AllByRecursion (λ a. a < length p.atoms) ns → AllByRecursion IsLabel (map (atom_name p) ns)
each_named p names [] all = tt
each_named p names (a ∷ ns) all = (named p.atoms a all.0 names, each_named p names ns all.1)

pub name_labels : (p : ProtocolValue) → IsProtocol p → AllByRecursion IsLabel (known_names p)
name_labels p is =
    let all = atoms_in_each (known_terms p) in
    let below = atoms_below_each p (known_terms p) (each_in_parts (IsTermOf p) (known_terms p) (messages p.actions) (facts p is).terms).0 in
    each_named p (names_of p is).atoms (distinct nat_eq all) (each_of_distinct (λ a. a < length p.atoms) [] all below)
