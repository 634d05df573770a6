-- What an algebra's meaning obeys.
use Rattle.std.specs.Prelude.{◌≡◌, ℕ, List, ◌++◌, length, true, false, IsTrue, Some, None, slice_get}
use Rattle.std.specs.List.{filter_map, All}
use Rattle.anb_term.specs.declared.term.Op.{Op}
use Rattle.anb_term.specs.Operator.{arity, keys, undoable}
use Rattle.anb_term.specs.Value.{Meaning}

-- the values at these places of a table
abbrev pub picked : {A : Type 0} → List A → List ℕ → List A
picked table at = filter_map (slice_get table) at

abbrev pub AreValues : {A : Type 0} → Meaning A → List A → Type 0
AreValues m xs = All (λ x. IsTrue (m.is_value x)) xs

-- undoing gives the parts exactly where building from the keys and then the parts gives the value
pub record Lawful {A : Type 0} (m : Meaning A) : Type 0 where
  pub builds : (o : Op) (xs : List A) → IsTrue (m.has o) → length xs ≡ arity o → AreValues m xs → IsTrue (m.is_value (m.built o xs))
  pub undoes : (o : Op) (ks ps : List A) (v : A) → IsTrue (undoable o) → IsTrue (m.has o) → length ks ≡ keys o → AreValues m ks → IsTrue (m.is_value v)
      → m.undone o ks v ≡ Some ps → (m.built o (ks ++ ps) ≡ v) × (length (ks ++ ps) ≡ arity o) × AreValues m ps
  pub undone_of : (o : Op) (ks ps : List A) → IsTrue (undoable o) → IsTrue (m.has o) → length ks ≡ keys o → length (ks ++ ps) ≡ arity o → AreValues m ks → AreValues m ps
      → m.undone o ks (m.built o (ks ++ ps)) ≡ Some ps
  pub never : (o : Op) (ks : List A) (v : A) → undoable o ≡ false → m.undone o ks v ≡ None
  -- the number of parts, whatever the values
  pub counts : (o : Op) (ks ps : List A) (v : A) → IsTrue (undoable o) → IsTrue (m.has o) → length ks ≡ keys o → m.undone o ks v ≡ Some ps → length (ks ++ ps) ≡ arity o
  -- what is told the same is the same
  pub tells : (x y : A) → m.same x y ≡ true → x ≡ y
  pub itself : (x : A) → m.same x x ≡ true
