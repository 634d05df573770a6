-- Texts in pieces, one after another.
use Rattle.std.specs.Prelude.{ℕ, List, ◌++◌}
use Rattle.std.specs.Borrow.{Bor}
use Rattle.std.specs.List.{flat_map}

-- what seven pieces say
abbrev pub said : Bor (List ℕ) × Bor (List ℕ) × Bor (List ℕ) × Bor (List ℕ) × Bor (List ℕ) × Bor (List ℕ) × Bor (List ℕ) → List ℕ
said p = p.0.now ++ (p.1.now ++ (p.2.now ++ (p.3.now ++ (p.4.now ++ (p.5.now ++ p.6.now)))))

-- what all pieces of a list say
abbrev pub joined : List (Bor (List ℕ)) → List ℕ
joined pieces = flat_map (λ (piece : Bor (List ℕ)). piece.now) pieces
