-- Small facts on what functions give and refuse.
use Rattle.std.proofs.Common.{◌≡◌, ℕ, ◌⊎◌, List, Option, Some, None, Result, Ok, Err, IfOk, sym, subst, inl, inr}
use Rattle.std.specs.Prelude.{IfErr}
use Rattle.anb_status.specs.declared.status.Status.{Status}
use Rattle.anb_status.specs.declared.status.Status.TheVariants.{NoMemory}
use Rattle.anb_command.specs.Fetches.{Files, IfTold}
use Rattle.anb_command.specs.Steps.{IsFailure}

pub if_ok_items : {V E : Type 0} (r : Result V E) (f : V → List (List ℕ)) (xs : List (List ℕ)) (P : List (List ℕ) → Type 0) → IfOk r (λ v. f v ≡ xs) → P xs → IfOk r (λ v. P (f v))
if_ok_items (Ok v) f xs P is p = subst P (sym is) p
if_ok_items (Err e) f xs P is p = tt

pub if_err_map : {V E : Type 0} (r : Result V E) (P Q : E → Type 0) → ((e : E) → P e → Q e) → IfErr r P → IfErr r Q
if_err_map (Ok v) P Q f p = tt
if_err_map (Err e) P Q f p = f e p

-- the status of a refusal, or want of memory
pub fails_by : (r s : Status) (Q : Type 0) → IsFailure s (λ _. ⊥) ((s ≡ s) × Q) → (r ≡ s) ⊎ (r ≡ NoMemory) → IsFailure r (λ _. ⊥) ((r ≡ s) × Q)
fails_by r s Q fails (inl is) = subst (λ (t : Status). IsFailure t (λ _. ⊥) ((t ≡ s) × Q)) (sym is) fails
fails_by r s Q fails (inr is) = subst (λ (t : Status). IsFailure t (λ _. ⊥) ((t ≡ s) × Q)) (sym is) tt

-- two facts about told files give a third
pub told_both : {P Q R : Files → Type 0} (told : Option Files) → ((files : Files) → P files → Q files → R files) → IfTold told P → IfTold told Q → IfTold told R
told_both None f p q = tt
told_both (Some files) f p q = f files p q

-- four facts about what is given give a fifth
pub if_ok_four : {V E : Type 0} (r : Result V E) (A B C D Q : V → Type 0) → ((v : V) → A v → B v → C v → D v → Q v) → IfOk r A → IfOk r B → IfOk r C → IfOk r D → IfOk r Q
if_ok_four (Ok v) A B C D Q f a b c d = f v a b c d
if_ok_four (Err e) A B C D Q f a b c d = tt
