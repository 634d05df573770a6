-- The names that values are asked for differ.
use Rattle.std.proofs.Common.{ℕ, ◌<◌, List, [], ◌∷◌, ◌++◌, length, Bool, true, false, cond}
use Rattle.std.specs.Prelude.{nat_eq}
use Rattle.std.specs.List.{AllByRecursion, list_any}
use Rattle.anb_lemmas.proofs.Each.{each_in_parts}
use Rattle.anb_protocol.specs.declared.parts.Atom.{Atom}
use Rattle.anb_protocol.specs.Choices.{each_after}
use Rattle.anb_protocol.specs.Names.{first_new}
use Rattle.anb_protocol.specs.Plans.{messages}
use Rattle.anb_protocol.specs.Texts.{IsTermOf, atom_name, atoms_in_each, known_names, known_terms}
use Rattle.anb_protocol.proofs.AtomLemmas.{atoms_below_each}
use Rattle.anb_protocol.proofs.Differing.{names_of}
use Rattle.anb_protocol.proofs.Distinct.{apart-map, one_place, pairs}
use Rattle.anb_protocol.proofs.Holding.{facts}
use Rattle.anb_honest.specs.Joint.{known_atoms}
use Rattle.anb_honest.specs.Laws.{KnownNamesDiffer}
use Rattle.anb_honest.proofs.Existing.{distinct_apart}

pub each_of_distinct : (P : ℕ → Type 0) (before xs : List ℕ) → AllByRecursion P xs → AllByRecursion P (each_after (first_new nat_eq) before xs)
each_of_distinct P before [] all = tt
each_of_distinct P before (x ∷ xs) all = by (list_any (λ y. nat_eq y x) before) (each_of_distinct P (before ++ x ∷ []) xs all.1) where
  rest : List ℕ
  rest = each_after (first_new nat_eq) (before ++ x ∷ []) xs

  by : (b : Bool) → AllByRecursion P rest → AllByRecursion P (cond b [] (x ∷ []) ++ rest)
  by true others = others
  by false others = (all.0, others)

pub known_names_apart : KnownNamesDiffer
known_names_apart = λ p is.
    let all = atoms_in_each (known_terms p) in
    let below = atoms_below_each p (known_terms p) (each_in_parts (IsTermOf p) (known_terms p) (messages p.actions) (facts p is).terms).0 in
    pairs (known_names p)
    (apart-map (λ a. a < length p.atoms) (atom_name p) (λ a b h l e. one_place (λ (x : Atom). x.name) [] p.atoms a b h l (names_of p is).atoms_apart e) (known_atoms p)
    (each_of_distinct (λ a. a < length p.atoms) [] all below) (distinct_apart [] all).1)
