-- Lines, part by part.
use Rattle.std.proofs.Common.{◌≡◌, ℕ, List, [], ◌∷◌, ◌++◌, append_assoc}
use Rattle.std.specs.Prelude.{codes}
use Rattle.std.specs.List.{flat_map}
use Rattle.anb_chart.specs.Charts.{line}

-- another name behind the first
abbrev pub further : List ℕ → List ℕ
further name = codes ", " ++ name

-- an arrow
pub arrow_put : (old from to number text : List ℕ)
    → ((((((((old ++ codes "    ") ++ from) ++ codes "->>") ++ to) ++ codes ": ") ++ number) ++ 32 ∷ []) ++ text) ++ 10 ∷ []
    ≡ old ++ line (from ++ (codes "->>" ++ (to ++ (codes ": " ++ (number ++ 32 ∷ text)))))
arrow_put old from to number text = simp append_assoc

-- a note, with the names behind the first
pub note_put : (old from first : List ℕ) (rest : List (List ℕ))
    → (((((old ++ codes "    Note over ") ++ from) ++ codes ": new ") ++ first) ++ flat_map further rest) ++ 10 ∷ []
    ≡ old ++ line (codes "Note over " ++ (from ++ (codes ": new " ++ (first ++ flat_map further rest))))
note_put old from first rest = simp append_assoc
