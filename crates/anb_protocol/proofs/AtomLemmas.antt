-- The atoms in terms.
use Rattle.std.proofs.Common.{◌≡◌, ℕ, ◌+◌, ◌<◌, List, [], ◌∷◌, ◌++◌, length, drop, get_or, ap, sym, ◌∙◌, append_assoc, refl}
use Rattle.std.specs.List.{flat_map, AllByRecursion}
use Rattle.std.proofs.lemmas.List.{drop_more}
use Rattle.anb_lemmas.proofs.Each.{each_in_both}
use Rattle.anb_term.specs.Tree.{Tree, leaf, node, Trees, none, more, trees_of}
use Rattle.anb_protocol.specs.Protocols.{ProtocolValue}
use Rattle.anb_protocol.specs.Texts.{atoms_in, atoms_in_all, atoms_in_each, IsTermOf, AreTermsOf}

pub each_is_all : (ts : List Tree) → atoms_in_all (trees_of ts) ≡ atoms_in_each ts
each_is_all [] = refl
each_is_all (t ∷ ts) = ap (λ l. atoms_in t ++ l) (each_is_all ts)

pub each-append : (ts us : List Tree) → atoms_in_each (ts ++ us) ≡ atoms_in_each ts ++ atoms_in_each us
each-append [] us = refl
each-append (t ∷ ts) us = ap (λ l. atoms_in t ++ l) (each-append ts us) ∙ sym (append_assoc (atoms_in t) (atoms_in_each ts) (atoms_in_each us))

abbrev pub all_of : List (List Tree) → List Tree
all_of knows = flat_map (λ (ts : List Tree). ts) knows

-- the atoms of one more list of terms
pub atoms_next : (knows : List (List Tree)) (i : ℕ) (ts : List Tree) (before after total : List ℕ) → i < length knows → ts ≡ get_or knows i ts
    → after ≡ before ++ atoms_in_all (trees_of ts) → before ++ atoms_in_each (all_of (drop i knows)) ≡ total
    → after ++ atoms_in_each (all_of (drop (i + 1) knows)) ≡ total
atoms_next knows i ts before after total h e a t =
    let rest = all_of (drop (i + 1) knows) in
    let d : drop i knows ≡ ts ∷ drop (i + 1) knows = drop_more knows i ts h ∙ ap (λ y. y ∷ drop (i + 1) knows) (sym e) in
    ap (λ l. l ++ atoms_in_each rest) (a ∙ ap (λ l. before ++ l) (each_is_all ts)) ∙ append_assoc before (atoms_in_each ts) (atoms_in_each rest)
    ∙ ap (λ l. before ++ l) (sym (each-append ts rest) ∙ ap (λ ks. atoms_in_each (all_of ks)) (sym d)) ∙ t

mutual
  -- a protocol's terms have its atoms
  pub atoms_below : (p : ProtocolValue) (t : Tree) → IsTermOf p t → AllByRecursion (λ a. a < length p.atoms) (atoms_in t)
  atoms_below p (leaf a) h = (h, tt)
  atoms_below p (node o ts) h = atoms_below_all p ts h.2

  atoms_below_all : (p : ProtocolValue) (ts : Trees) → AreTermsOf p ts → AllByRecursion (λ a. a < length p.atoms) (atoms_in_all ts)
  atoms_below_all p none h = tt
  atoms_below_all p (more t ts) h = each_in_both (λ a. a < length p.atoms) (atoms_in t) (atoms_in_all ts) (atoms_below p t h.0) (atoms_below_all p ts h.1)

pub atoms_below_each : (p : ProtocolValue) (ts : List Tree) → AllByRecursion (IsTermOf p) ts → AllByRecursion (λ a. a < length p.atoms) (atoms_in_each ts)
atoms_below_each p [] h = tt
atoms_below_each p (t ∷ ts) h = each_in_both (λ a. a < length p.atoms) (atoms_in t) (atoms_in_each ts) (atoms_below p t h.0) (atoms_below_each p ts h.1)
