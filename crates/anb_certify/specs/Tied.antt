-- When registers are tied, and when a code is enough at a place.
use Rattle.std.specs.Prelude.{◌≡◌, ℕ, ◌+◌, ◌-◌, ◌<◌, List, [], ◌∷◌, length, take, Bool, true, false, Some, slice_get, ◌⊎◌}
use Rattle.std.specs.List.{AllByRecursion}
use Rattle.anb_term.specs.declared.term.Op.{Op}
use Rattle.anb_term.specs.Operator.{arity, keys, undoable}
use Rattle.anb_term.specs.Tree.{Tree, node, Trees, list_of}
use Rattle.anb_term.specs.Composes.{Composes}
use Rattle.anb_plays.specs.Codes.{Work, make, undo, equal}

-- a work among those before a place. Each stands with the number of registers before it, which is the first that it writes
abbrev pub Did : List (ℕ × Work) → ℕ → Work → Type 0
Did [] at w = ⊥
Did (d ∷ did) at w = ((d.0 ≡ at) × (d.1 ≡ w)) ⊎ Did did at w

-- both lists have one length, and what stands at the same place is related
abbrev pub InPairs : (ℕ → ℕ → Bool) → List ℕ → List ℕ → Type 0
InPairs Q [] [] = Unit {0}
InPairs Q [] (b ∷ bs) = ⊥
InPairs Q (a ∷ xs) [] = ⊥
InPairs Q (a ∷ xs) (b ∷ bs) = (Q a b ≡ true) × InPairs Q xs bs

-- an equivalence of registers that ties what is compared, what the same operator builds from operands that are tied in
-- pairs, and the same part of what is undone by the same operator, tied, with keys that are tied in pairs
pub record Ties (did : List (ℕ × Work)) (Q : ℕ → ℕ → Bool) : Type 0 where
  pub itself : (a : ℕ) → Q a a ≡ true
  pub turned : (a b : ℕ) → Q a b ≡ true → Q b a ≡ true
  pub joined : (a b c : ℕ) → Q a b ≡ true → Q b c ≡ true → Q a c ≡ true
  pub compared : (at a b : ℕ) → Did did at (equal a b) → Q a b ≡ true
  pub built : (at bt : ℕ) (o : Op) (ns ms : List ℕ) → Did did at (make o ns) → Did did bt (make o ms) → InPairs Q ns ms → Q at bt ≡ true
  pub undone : (at bt : ℕ) (o : Op) (ks ls : List ℕ) (n m j : ℕ) → Did did at (undo o ks n) → Did did bt (undo o ls m) → InPairs Q ks ls → Q n m ≡ true
      → j < arity o - keys o → Q (at + j) (bt + j) ≡ true

-- the smallest of these holds of two registers
abbrev pub Tied : List (ℕ × Work) → ℕ → ℕ → Type 0
Tied did a b = (Q : ℕ → ℕ → Bool) → Ties did Q → Q a b ≡ true

-- Register i is tied to each earlier one of its term. Where its term is a hash or mac whose operands compose from the
-- registers' terms, it is tied to what a hash or mac wrote. Where its term has another operator whose keys compose so,
-- it is tied to what this operator built, or to what was undone.
pub record KeepsRules (did : List (ℕ × Work)) (terms : List Tree) (i : ℕ) : Type 0 where
  pub alike : (k : ℕ) (t : Tree) → k < i → slice_get terms k ≡ Some t → slice_get terms i ≡ Some t → Tied did k i
  pub hashes : (o : Op) (us : Trees) → slice_get terms i ≡ Some (node o us) → undoable o ≡ false → AllByRecursion (Composes terms) (list_of us)
      → (at : ℕ) × (p : Op) × (ns : List ℕ) × (undoable p ≡ false) × Did did at (make p ns) × Tied did i at
  pub others : (o : Op) (us : Trees) → slice_get terms i ≡ Some (node o us) → undoable o ≡ true → AllByRecursion (Composes terms) (take (keys o) (list_of us))
      → ((at : ℕ) × (ns : List ℕ) × Did did at (make o ns) × Tied did i at)
      ⊎ ((at : ℕ) × (p : Op) × (ks : List ℕ) × (n : ℕ) × Did did at (undo p ks n) × Tied did i n)

-- after this work, with registers of these terms, the code is enough
abbrev pub AreEnough : List (ℕ × Work) → List Tree → Type 0
AreEnough did terms = (i : ℕ) → i < length terms → KeepsRules did terms i
