-- Which registers were built from which.
use Rattle.std.specs.Prelude.{◌≡◌, ℕ, List, ◌∷◌, Option, Some, ◌⊎◌}
use Rattle.std.specs.Ordering.{nat_cmp}
use Rattle.std.specs.Cmp.Lexicographic.{slice_cmp}
use Rattle.std.specs.BTreeMap.{get_by}
use Rattle.anb_term.specs.declared.term.Op.{Op}
use Rattle.anb_term.specs.declared.term.Op.TheVariants.{Hash, Mac, Seal, Wrap, Format}
use Rattle.anb_compile.specs.declared.built.Built.{Built}

-- an operator and registers as one list
abbrev pub key : Op → List ℕ → List ℕ
key Hash at = 0 ∷ at
key Mac at = 1 ∷ at
key Seal at = 2 ∷ at
key Wrap at = 3 ∷ at
key (Format index arity) at = 4 ∷ index ∷ arity ∷ at

-- the register that was built so
abbrev pub register_at : Built → List ℕ → Option ℕ
register_at b k = get_by (λ numbers. slice_cmp nat_cmp k numbers.items) b.registers

-- one register more
pub record Keeps (old new : Built) (k : List ℕ) (r : ℕ) : Type 0 where
  pub here : register_at new k ≡ Some r
  pub stays : (q : List ℕ) (s : ℕ) → register_at old q ≡ Some s → register_at new q ≡ Some s
  pub only : (q : List ℕ) (s : ℕ) → register_at new q ≡ Some s → ((q ≡ k) × (s ≡ r)) ⊎ (register_at old q ≡ Some s)
