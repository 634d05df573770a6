-- One chosen composition for each term: the first entry that is the term, or else the operator on the chosen operands.
use Rattle.std.specs.Prelude.{◌≡◌, ℕ, List, [], ◌∷◌, length, map, take, drop, IsTrue, Option, Some, None, unwrap_or, if◌then◌else◌, ◌⊎◌, slice_get}
use Rattle.std.specs.List.{AllByRecursion}
use Rattle.anb_term.specs.declared.term.Op.{Op}
use Rattle.anb_term.specs.Tree.{Tree, leaf, node, Trees, none, more, list_of, tree_eqb, IsFormed}
use Rattle.anb_term.specs.Value.{Meaning}
use Rattle.anb_term.specs.Operator.{arity, keys, undoable}
use Rattle.anb_term.specs.Composes.{Among, Composes}

-- the entries' terms
abbrev pub terms_in : {A : Type 0} → List (Tree × A) → List Tree
terms_in es = map (λ e. e.0) es

-- the value of the first entry that is the term
abbrev pub found : {A : Type 0} → List (Tree × A) → Tree → Option A
found [] t = None
found (e ∷ es) t = if tree_eqb e.0 t then Some e.1 else found es t

module _ {A : Type 0} (m : Meaning A) (d : A) where
  abbrev mutual
    pub chosen : List (Tree × A) → Tree → A
    chosen es (leaf n) = unwrap_or (found es (leaf n)) d
    chosen es (node o ts) = unwrap_or (found es (node o ts)) (m.built o (chosen_all es ts))

    pub chosen_all : List (Tree × A) → Trees → List A
    chosen_all es none = []
    chosen_all es (more t ts) = chosen es t ∷ chosen_all es ts

  -- what the checks made so far say of the entries
  pub record Checked (frame : List Tree) (vs : List A) (es : List (Tree × A)) : Type 0 where
    pub formed : (t : Tree) → Among (terms_in es) t → IsFormed m.has t
    pub are_values : (t : Tree) → IsFormed m.has t → Composes (terms_in es) t → IsTrue (m.is_value (chosen es t))
    pub labels : (n : ℕ) (t : Tree) → slice_get frame n ≡ Some t → IsFormed m.has t × Composes (terms_in es) t × (slice_get vs n ≡ Some (chosen es t))
    -- an entry whose operands compose was compared with the operator on them
    pub equal : (o : Op) (ts : Trees) (x : A) → found es (node o ts) ≡ Some x → length (list_of ts) ≡ arity o → AllByRecursion (Composes (terms_in es)) (list_of ts)
        → x ≡ m.built o (chosen_all es ts)
    -- an entry whose keys compose was opened, or all its operands compose
    pub opened : (o : Op) (ts : Trees) (x : A) → found es (node o ts) ≡ Some x → IsTrue (undoable o) → AllByRecursion (Composes (terms_in es)) (take (keys o) (list_of ts))
        → AllByRecursion (Composes (terms_in es)) (list_of ts) × (length (list_of ts) ≡ arity o)
        ⊎ AllByRecursion (Composes (terms_in es)) (drop (keys o) (list_of ts))
        × (m.undone o (map (chosen es) (take (keys o) (list_of ts))) x ≡ Some (map (chosen es) (drop (keys o) (list_of ts))))
