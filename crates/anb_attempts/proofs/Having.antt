-- Instructions at which something is tried.
use Rattle.std.proofs.Common.{◌≡◌, ℕ, List, [], ◌∷◌, ◌++◌, map}
use Rattle.std.specs.List.{All, AllByRecursion}
use Rattle.std.proofs.lemmas.List.Elements.{All-from_recursion, recursion_from_All}
use Rattle.anb_lemmas.proofs.Each.{each_in_both}
use Rattle.anb_code.specs.CodeValue.{CodeValue}
use Rattle.anb_openings.specs.Openings.{HasOpening}
use Rattle.anb_suite.specs.Suites.{HasCheck}
use Rattle.anb_attempts.specs.declared.points.Point.{Point}
use Rattle.anb_attempts.specs.declared.points.Point.TheVariants.{Check, Opening}
use Rattle.anb_attempts.specs.Attempts.{HasPoint}

each_mapped : (P : Point → Type 0) (f : ℕ → Point) (xs : List ℕ) → AllByRecursion (λ x. P (f x)) xs → AllByRecursion P (map f xs)
each_mapped P f [] all = tt
each_mapped P f (x ∷ xs) all = (all.0, each_mapped P f xs all.1)

pub each_has_point : (code : CodeValue) (checks openings : List ℕ) → All (HasCheck code) checks → All (HasOpening code) openings → All (HasPoint code) (map Check checks ++ map Opening openings)
each_has_point code checks openings one other =
    let P : Point → Type 0 = HasPoint code in
    All-from_recursion P (map Check checks ++ map Opening openings) (each_in_both P (map Check checks) (map Opening openings)
    (each_mapped P Check checks (recursion_from_All (HasCheck code) checks one)) (each_mapped P Opening openings (recursion_from_All (HasOpening code) openings other)))
