-- What a certifier finds along a code: nothing, or its first fault.
use Rattle.std.specs.Prelude.{◌≡◌, ℕ, ◌+◌, ◌<◌, List, [], ◌∷◌, ◌++◌, length, Option, Some, None, ◌⊎◌}
use Rattle.anb_term.specs.Tree.{Tree}
use Rattle.anb_term.specs.Value.{Meaning, recipe_trees, values}
use Rattle.anb_term.specs.FreeAlgebra.{terms_over}
use Rattle.anb_plays.specs.Plans.{Event, know, fresh, send, recv}
use Rattle.anb_plays.specs.Codes.{Act, takes, draws, receives, sends, works, Work}
use Rattle.anb_plays.specs.Fits.{Place, after_take, after_label, after_work, SendsIt, IsSound}
use Rattle.anb_outcomes.specs.declared.certificates.CertifyNo.{CertifyNo}
use Rattle.anb_outcomes.specs.declared.certificates.CertifyNo.TheVariants.{Untrue, Sent, Loose}
use Rattle.anb_certify.specs.Tied.{KeepsRules, AreEnough}

-- the work done by now, with one more
abbrev pub then_did : List (ℕ × Work) → Place → Work → List (ℕ × Work)
then_did did s w = did ++ (length s.regs, w) ∷ []

module _ {A : Type 0} (m : Meaning A) where
  -- the terms of the registers at a place
  abbrev pub HaveTerms : Place → List Tree → Type 0
  HaveTerms s terms = values (terms_over m.has) s.frame (recipe_trees s.regs) ≡ Some terms

  -- the code is enough at a place
  abbrev pub IsTight : Place → List (ℕ × Work) → Type 0
  IsTight s did = (terms : List Tree) × HaveTerms s terms × AreEnough did terms

  -- the first register that breaks a rule there
  abbrev pub IsFirstLoose : Place → List (ℕ × Work) → ℕ → Type 0
  IsFirstLoose s did i = (terms : List Tree) × HaveTerms s terms × (i < length terms) × (KeepsRules did terms i → ⊥)
      × ((k : ℕ) → k < i → KeepsRules did terms k)

  -- before instruction n the code is enough, and it goes on; or a register is loose there
  abbrev pub AtBorder : Place → List (ℕ × Work) → ℕ → Option CertifyNo → Type 0 → Type 0
  AtBorder s did n found GoesOn = (IsTight s did × GoesOn) ⊎ ((i : ℕ) × IsFirstLoose s did i × (found ≡ Some (Loose n i)))

  -- what is found from a place on, after this work, where the next instruction has number n: its demand is untrue in terms,
  -- it sends another term, or the code isn't enough before it
  abbrev pub Finds : List Act → List Event → Place → List (ℕ × Work) → ℕ → Option CertifyNo → Type 0
  Finds [] [] s did n found = AtBorder s did n found (found ≡ None)
  Finds (works w ∷ acts) es s did n found =
      (IsSound m s w × Finds acts es (after_work s w) (then_did did s w) (n + 1) found)
      ⊎ ((IsSound m s w → ⊥) × (found ≡ Some (Untrue n)))
  Finds (takes ∷ acts) (know t ∷ es) s did n found = Finds acts es (after_take s) did (n + 1) found
  Finds (draws ∷ acts) (fresh t ∷ es) s did n found = Finds acts es (after_label s t) did (n + 1) found
  Finds (receives ∷ acts) (recv t ∷ es) s did n found = AtBorder s did n found (Finds acts es (after_label s t) did (n + 1) found)
  Finds (sends r ∷ acts) (send t ∷ es) s did n found =
      (SendsIt m s r t × AtBorder s did n found (Finds acts es s did (n + 1) found))
      ⊎ ((SendsIt m s r t → ⊥) × (found ≡ Some (Sent n)))
  Finds acts es s did n found = ⊥
