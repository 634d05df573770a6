-- Terms that are put into a solution.
use Rattle.std.proofs.Common.{◌≡◌, ℕ, List, [], ◌∷◌, map, refl, ap, ◌∙◌}
use Rattle.std.specs.List.{AllByRecursion}
use Rattle.anb_term.specs.Tree.{Tree}
use Rattle.anb_unify.specs.Substitutions.{put_in, KeepsNames}
use Rattle.anb_unify.specs.Equations.{EquationValue, Solves}
use Rattle.anb_unify.proofs.Putting.{put_twice}

-- what is put into a solution gives one
module _ (names : ℕ) (p q : ℕ → Tree) (keeps : KeepsNames names p) where
  pub after_keeps : KeepsNames names q → KeepsNames names (λ n. put_in p (q n))
  after_keeps k n l = ap (put_in p) (k n l) ∙ keeps n l

  pub after_solves : (qs : List EquationValue) → AllByRecursion (Solves names q) qs → AllByRecursion (Solves names (λ n. put_in p (q n))) qs
  after_solves [] s = tt
  after_solves (x ∷ qs) s = (ap (put_in p) s.0 ∙ put_twice p q x.term, after_solves qs s.1)

pub map_after : (p q : ℕ → Tree) (ns : List ℕ) → map (put_in p) (map q ns) ≡ map (λ n. put_in p (q n)) ns
map_after p q [] = refl
map_after p q (n ∷ ns) = ap (λ l. put_in p (q n) ∷ l) (map_after p q ns)
