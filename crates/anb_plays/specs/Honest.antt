-- The value of a term by its form, from values of the atoms, and what a role says where it hears such values alone.
use Rattle.std.specs.Prelude.{ℕ, zero, suc, ◌+◌, List, [], ◌∷◌, Bool}
use Rattle.anb_term.specs.declared.term.Op.{Op}
use Rattle.anb_term.specs.Tree.{Tree, leaf, node, Trees, none, more, IsFormed}
use Rattle.anb_term.specs.Value.{Meaning}
use Rattle.anb_plays.specs.Plans.{Event, know, fresh, send, recv}
use Rattle.anb_plays.specs.Plays.{waiting, done, Played, ends, says}

module _ {A : Type 0} (m : Meaning A) (atoms : ℕ → A) where
  abbrev mutual
    pub honest : Tree → A
    honest (leaf n) = atoms n
    honest (node o ts) = m.built o (honest_all ts)

    pub honest_all : Trees → List A
    honest_all none = []
    honest_all (more t ts) = honest t ∷ honest_all ts

  -- after e sends and receives: it sends the value of each message, up to the receive after the next n
  abbrev pub honest_from : List Event → ℕ → ℕ → Played A
  honest_from [] e n = ends done []
  honest_from (know t ∷ es) e n = honest_from es e n
  honest_from (fresh t ∷ es) e n = honest_from es e n
  honest_from (send t ∷ es) e n = says (honest t) (honest_from es (e + 1) n)
  honest_from (recv t ∷ es) e zero = ends (waiting (e + 1)) []
  honest_from (recv t ∷ es) e (suc n) = honest_from es (e + 1) n

  -- what comes of a plan where the first n receives hear the values of their terms
  abbrev pub honest_play : List Event → ℕ → Played A
  honest_play plan n = honest_from plan 0 n

-- the terms that are to be heard, in order
abbrev pub heard : List Event → List Tree
heard [] = []
heard (recv t ∷ es) = t ∷ heard es
heard (_ ∷ es) = heard es

-- those that are made
abbrev pub made : List Event → List Tree
made [] = []
made (fresh t ∷ es) = t ∷ made es
made (_ ∷ es) = made es

-- the terms of labels are over these operators
abbrev pub LabelsAreFormed : (Op → Bool) → List Event → Type 0
LabelsAreFormed has [] = Unit {0}
LabelsAreFormed has (know t ∷ es) = IsFormed has t × LabelsAreFormed has es
LabelsAreFormed has (fresh t ∷ es) = IsFormed has t × LabelsAreFormed has es
LabelsAreFormed has (send t ∷ es) = LabelsAreFormed has es
LabelsAreFormed has (recv t ∷ es) = IsFormed has t × LabelsAreFormed has es
