-- Steps one after another.
use Rattle.std.proofs.Common.{Option, Some, None, refl, inl, inr}
use Rattle.anb_status.specs.declared.status.Status.{Status}
use Rattle.anb_command.specs.Fetches.{Files, IfTold}
use Rattle.anb_command.specs.Steps.{Answer, refused, given, InTurn}

pub told_map : {P Q : Files → Type 0} (told : Option Files) → ((files : Files) → P files → Q files) → IfTold told P → IfTold told Q
told_map None f is = tt
told_map (Some files) f is = f files is

module _ {A B : Type 0} (First : Files → Answer A → Type 0) (Next : A → Answer B → Type 0) (told : Option Files) where
  pub then_given : (a : A) (b : B) → IfTold told (λ files. First files (given a)) → Next a (given b) → IfTold told (λ files. InTurn (First files) Next (given b))
  then_given a b first next = told_map told (λ files f. inr (a, f, next)) first

  pub then_refused : (a : A) (status : Status) → IfTold told (λ files. First files (given a)) → Next a (refused status) → IfTold told (λ files. InTurn (First files) Next (refused status))
  then_refused a status first next = told_map told (λ files f. inr (a, f, next)) first

  pub first_refused : (status : Status) → IfTold told (λ files. First files (refused status)) → IfTold told (λ files. InTurn (First files) Next (refused status))
  first_refused status first = told_map told (λ files f. inl (status, f, refl)) first
