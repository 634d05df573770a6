-- Works on registers, as they are kept, and what they tell of the registers' terms.
use Rattle.std.specs.Prelude.{◌≡◌, ℕ, ◌+◌, ◌-◌, ◌<◌, List, ◌++◌, length, true, Some, slice_get}
use Rattle.std.specs.List.{AllByRecursion}
use Rattle.anb_term.specs.Operator.{arity, keys, undoable}
use Rattle.anb_term.specs.Tree.{Tree, node, trees_of}
use Rattle.anb_term.specs.Lawful.{picked}
use Rattle.anb_plays.specs.Codes.{Work, make, undo, equal}
use Rattle.anb_certify.specs.declared.works.Job.{Job}
use Rattle.anb_certify.specs.declared.works.Job.TheVariants.{Make, Undo, Equal}
use Rattle.anb_certify.specs.declared.works.Done.{Done}
use Rattle.anb_certify.specs.Tied.{Did}

abbrev pub work_of : Job → Work
work_of (Make o ns) = make o ns.items
work_of (Undo o ks n) = undo o ks.items n
work_of (Equal a b) = equal a b

abbrev pub did_of : Done → ℕ × Work
did_of d = (d.at, work_of d.job)

-- what a work at `at` tells of the registers' terms: which it wrote, or that two are one
abbrev pub TellsTerms : List Tree → ℕ → Work → Type 0
TellsTerms ts at (make o ns) = (length ns ≡ arity o) × AllByRecursion (λ k. k < length ts) ns × (slice_get ts at ≡ Some (node o (trees_of (picked ts ns))))
TellsTerms ts at (undo o ks n) = (undoable o ≡ true) × (length ks ≡ keys o) × AllByRecursion (λ k. k < length ts) ks
    × (ps : List Tree) × (length ps ≡ arity o - keys o) × (slice_get ts n ≡ Some (node o (trees_of (picked ts ks ++ ps)))) × ((j : ℕ) → j < length ps → slice_get ts (at + j) ≡ slice_get ps j)
TellsTerms ts at (equal a b) = (t : Tree) × (slice_get ts a ≡ Some t) × (slice_get ts b ≡ Some t)

abbrev pub AreTold : List Tree → List (ℕ × Work) → Type 0
AreTold ts did = (at : ℕ) (w : Work) → Did did at w → TellsTerms ts at w
