-- The rows of registers, each a term and a value, and when instructions tell the truth of them.
use Rattle.std.specs.Prelude.{◌≡◌, ℕ, ◌+◌, ◌<◌, List, ◌++◌, length, map, Bool, true, IsTrue, Some, slice_get, ◌⊎◌}
use Rattle.anb_term.specs.declared.term.Op.{Op}
use Rattle.anb_term.specs.Operator.{arity, keys, undoable}
use Rattle.anb_term.specs.Tree.{Tree, leaf, node, Trees, none, more, trees_of, list_of}
use Rattle.anb_term.specs.Lawful.{picked}
use Rattle.anb_term.specs.Value.{Meaning}
use Rattle.anb_term.specs.Composes.{Among}
use Rattle.anb_term.specs.Agree.{Agree}
use Rattle.anb_plays.specs.Codes.{Work, make, undo, equal}
use Rattle.anb_basis.specs.Chosen.{terms_in}
use Rattle.anb_certify.specs.Tied.{Did, AreEnough}

abbrev pub vals_in : {A : Type 0} → List (Tree × A) → List A
vals_in es = map (λ e. e.1) es

-- what composes with some operators
abbrev mutual
  pub ComposesBy : (Op → Bool) → List Tree → Tree → Type 0
  ComposesBy has es (leaf n) = Among es (leaf n)
  ComposesBy has es (node o ts) = Among es (node o ts) ⊎ (IsTrue (has o) × (length (list_of ts) ≡ arity o) × ComposeAllBy has es ts)

  pub ComposeAllBy : (Op → Bool) → List Tree → Trees → Type 0
  ComposeAllBy has es none = Unit {0}
  ComposeAllBy has es (more t ts) = ComposesBy has es t × ComposeAllBy has es ts

module _ {A : Type 0} (m : Meaning A) where
  -- an undoing of register n with keys at ks, whose parts stand from `at` on
  abbrev pub Opened : List (Tree × A) → ℕ → Op → List ℕ → ℕ → List (Tree × A) → A → Type 0
  Opened es at o ks n ps v = IsTrue (m.has o) × (undoable o ≡ true) × (length (picked es ks) ≡ keys o) × (length (picked es ks ++ ps) ≡ arity o)
      × (slice_get es n ≡ Some (node o (trees_of (terms_in (picked es ks ++ ps))), v))
      × (m.undone o (vals_in (picked es ks)) v ≡ Some (vals_in ps))
      × ((j : ℕ) → j < length ps → slice_get es (at + j) ≡ slice_get ps j)

  pub record Told (did : List (ℕ × Work)) (es : List (Tree × A)) : Type 0 where
    pub built : (at : ℕ) (o : Op) (ns : List ℕ) → Did did at (make o ns)
        → IsTrue (m.has o) × (length (picked es ns) ≡ arity o) × (slice_get es at ≡ Some (node o (trees_of (terms_in (picked es ns))), m.built o (vals_in (picked es ns))))
    pub undone : (at : ℕ) (o : Op) (ks : List ℕ) (n : ℕ) → Did did at (undo o ks n) → (ps : List (Tree × A)) × (v : A) × Opened es at o ks n ps v
    pub compared : (at a b : ℕ) → Did did at (equal a b) → slice_get es a ≡ slice_get es b

  pub record Covers (frame : List Tree) (vs : List A) (es : List (Tree × A)) : Type 0 where
    pub long : length vs ≡ length frame
    pub labels : (n : ℕ) (t : Tree) → slice_get frame n ≡ Some t → (i : ℕ) × (x : A) × (slice_get es i ≡ Some (t, x)) × (slice_get vs n ≡ Some x)
    pub are_values : (i : ℕ) (e : Tree × A) → slice_get es i ≡ Some e → IsTrue (m.is_value e.1)

  -- where the registers are tied by the rules, the labels agree
  abbrev pub TiedAgree : Type 0
  TiedAgree = (did : List (ℕ × Work)) (frame : List Tree) (vs : List A) (es : List (Tree × A)) → Told did es → Covers frame vs es → AreEnough did (terms_in es) → Agree m frame vs
