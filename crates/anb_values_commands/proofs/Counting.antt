-- How many names some role knows, and how long they are.
use Rattle.std.proofs.Common.{◌≡◌, ◌≤◌, ◌<◌, ◌+◌, ◌^◌, ℕ, zero, suc, Bool, true, false, cond, List, [], ◌∷◌, ◌++◌, length, map, Some, None, refl, sym, ap, ◌∙◌, subst, arith}
use Rattle.std.specs.Prelude.{nat_eq, slice_get}
use Rattle.std.specs.List.{AllByRecursion, flat_map, list_any}
use Rattle.std.specs.Option.{option_map_or}
use Rattle.std.proofs.lemmas.List.{length-append, length-map}
use Rattle.anb_lemmas.proofs.Each.{each_by, each_in_both, each_in_parts}
use Rattle.anb_lemmas.proofs.Options.{or_is_none}
use Rattle.anb_base.specs.declared.TheConstants.{ARRIVAL, WIDE}
use Rattle.anb_syntax.specs.Grammar.{Narration, TypeItem}
use Rattle.anb_syntax.specs.declared.narration.Sort.{Sort}
use Rattle.anb_term.specs.Tree.{Tree, leaf, node, Trees, none, more, nodes, tree_size, trees_size}
use Rattle.anb_protocol.specs.Checks.{first_fault, limit_checks, name_limit}
use Rattle.anb_protocol.specs.Choices.{each_after}
use Rattle.anb_protocol.specs.Laws.{HoldsOf}
use Rattle.anb_protocol.specs.Names.{all_names, atoms, declared_names, distinct, first_new, item_atoms, used_name, uses}
use Rattle.anb_protocol.specs.Plans.{messages}
use Rattle.anb_protocol.specs.Protocols.{ProtocolValue, protocol_of}
use Rattle.anb_protocol.specs.Texts.{IsTermOf, atom_name, atoms_in, atoms_in_all, atoms_in_each, known_names, known_terms}
use Rattle.anb_protocol.specs.WellFormed.{IsProtocol}
use Rattle.anb_protocol.specs.declared.parts.Atom.{Atom}
use Rattle.anb_protocol.specs.declared.refusals.Kind.TheVariants.{Name}
use Rattle.anb_protocol.proofs.AtomLemmas.{atoms_below_each}
use Rattle.anb_protocol.proofs.Faultless.{at_most, first_none, stages}

-- ---- there are few

mutual
  atoms_fit : (t : Tree) → length (atoms_in t) ≤ tree_size t
  atoms_fit (leaf a) = omega arith
  atoms_fit (node o ts) = omega (arith, all_fit ts)

  all_fit : (ts : Trees) → length (atoms_in_all ts) ≤ trees_size ts
  all_fit none = omega arith
  all_fit (more t ts) = omega (arith, length-append (atoms_in t) (atoms_in_all ts), atoms_fit t, all_fit ts)

each_fit : (ts us : List Tree) → length (atoms_in_each ts) ≤ nodes (ts ++ us)
each_fit [] us = omega arith
each_fit (t ∷ ts) us = omega (arith, length-append (atoms_in t) (atoms_in_each ts), atoms_fit t, each_fit ts us)

new_fit : (before : List ℕ) (x : ℕ) → length (first_new nat_eq before x) ≤ 1
new_fit before x = by (list_any (λ y. nat_eq y x) before) where
  by : (b : Bool) → length (cond b [] (x ∷ [])) ≤ 1
  by true = omega arith
  by false = omega arith

distinct_fit : (before xs : List ℕ) → length (each_after (first_new nat_eq) before xs) ≤ length xs
distinct_fit before [] = omega arith
distinct_fit before (x ∷ xs) =
    omega (arith, length-append (first_new nat_eq before x) (each_after (first_new nat_eq) (before ++ x ∷ []) xs), new_fit before x, distinct_fit (before ++ x ∷ []) xs)

pub few_names : (p : ProtocolValue) → HoldsOf p → length (known_names p) < 2 ^ 32
few_names p holds =
    let all = atoms_in_each (known_terms p) in
    omega (arith, length-map (distinct nat_eq all) (atom_name p), distinct_fit [] all, each_fit (known_terms p) (messages p.actions), holds.nodes)

-- ---- each is short

item_short : (sort : Sort) (names : List (List ℕ)) → AllByRecursion (λ (x : List ℕ). length x ≤ 64) names → AllByRecursion (λ (a : Atom). length a.name ≤ 64) (map (λ x. record { name = x; sort = sort }) names)
item_short sort [] all = tt
item_short sort (x ∷ names) all = (all.0, item_short sort names all.1)

types_short : (types : List TypeItem) → AllByRecursion (λ (x : List ℕ). length x ≤ 64) (flat_map (λ (i : TypeItem). i.names) types) → AllByRecursion (λ (a : Atom). length a.name ≤ 64) (flat_map item_atoms types)
types_short [] all = tt
types_short (i ∷ types) all =
    let parts = each_in_parts (λ (x : List ℕ). length x ≤ 64) i.names (flat_map (λ (j : TypeItem). j.names) types) all in
    each_in_both (λ (a : Atom). length a.name ≤ 64) (item_atoms i) (flat_map item_atoms types) (item_short i.sort i.names parts.0) (types_short types parts.1)

short_atoms : (n : Narration) → first_fault limit_checks n ≡ None → AllByRecursion (λ (a : Atom). length a.name ≤ 64) (atoms n)
short_atoms n e =
    let all = each_by _ (λ (x : List ℕ). length x ≤ 64) (λ x none. at_most 64 Name (length x) none) (all_names n) (first_none _ (all_names n) (or_is_none (name_limit n) _ e).0) in
    let declared = each_in_parts (λ (x : List ℕ). length x ≤ 64) (declared_names n) (map used_name (uses n)) all.1 in
    types_short n.types (each_in_parts (λ (x : List ℕ). length x ≤ 64) (flat_map (λ (i : TypeItem). i.names) n.types) _ declared.0).0

of_narration : (n : Narration) → first_fault limit_checks n ≡ None → AllByRecursion (λ (a : Atom). length a.name ≤ 64) (protocol_of n).atoms
unfolding protocol_of
of_narration n e = short_atoms n e

atoms_short : (p : ProtocolValue) → IsProtocol p → AllByRecursion (λ (a : Atom). length a.name ≤ 64) p.atoms
atoms_short p is =
    let P : ProtocolValue → Type 0 = λ q. AllByRecursion (λ (a : Atom). length a.name ≤ 64) q.atoms in
    subst P (sym is.is) (of_narration is.narration (stages ARRIVAL WIDE is.narration is.well_formed).limits)

name_short : (atoms : List Atom) (a : ℕ) → AllByRecursion (λ (x : Atom). length x.name ≤ 64) atoms → length (option_map_or (λ (x : Atom). x.name) (slice_get atoms a) []) ≤ 64
name_short [] a all = omega arith
name_short (x ∷ atoms) zero all = all.0
name_short (x ∷ atoms) (suc a) all = name_short atoms a all.1

each_short : (p : ProtocolValue) → AllByRecursion (λ (a : Atom). length a.name ≤ 64) p.atoms → (ns : List ℕ) → AllByRecursion (λ (x : List ℕ). length x ≤ 64) (map (atom_name p) ns)
each_short p all [] = tt
each_short p all (a ∷ ns) = (name_short p.atoms a all, each_short p all ns)

pub names_short : (p : ProtocolValue) → IsProtocol p → AllByRecursion (λ (x : List ℕ). length x ≤ 64) (known_names p)
names_short p is = each_short p (atoms_short p is) (distinct nat_eq (atoms_in_each (known_terms p)))
