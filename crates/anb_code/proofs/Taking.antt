-- In a verified code the takes stand first.
use Rattle.std.proofs.Common.{◌≡◌, ◌<◌, ℕ, zero, suc, not, Bool, true, List, [], ◌∷◌, ◌++◌, length, get_or, count_by, cond, zero-add, slice_get, Some, refl, ap, ◌∙◌, arith}
use Rattle.std.specs.List.{AllByRecursion, list_any}
use Rattle.std.proofs.Math.Bool.{or-true}
use Rattle.std.proofs.lemmas.List.Folds.{list_any-append}
use Rattle.std.proofs.lemmas.List.Sums.{sum_by-cons}
use Rattle.anb_format.specs.Formats.{FormatValue}
use Rattle.anb_code.specs.declared.instr.Instr.{Instr}
use Rattle.anb_code.specs.declared.instr.Instr.TheVariants.{Take}
use Rattle.anb_code.specs.Taking.{is_taking, take_texts}
use Rattle.anb_code.specs.Verified.{EachAfter, IsInstrAfter, IsOtherTake}

more_takes : (instr : Instr) (instrs : List Instr) → count_by is_taking instrs ≡ length (take_texts instrs) → count_by is_taking (instr ∷ instrs) ≡ length (take_texts (instr ∷ instrs))
more_takes (Take text) instrs e = omega (arith, e, sum_by-cons (λ (x : Instr). cond (is_taking x) 1 0) (Take text) instrs)
more_takes instr instrs e = sum_by-cons (λ (x : Instr). cond (is_taking x) 1 0) instr instrs ∙ zero-add (count_by is_taking instrs) ∙ e

pub count_by-takes : (instrs : List Instr) → count_by is_taking instrs ≡ length (take_texts instrs)
count_by-takes [] = refl
count_by-takes (instr ∷ instrs) = more_takes instr instrs (count_by-takes instrs)

abbrev pub is_other : Instr → Bool
is_other instr = not (is_taking instr)

-- where one isn't a take, not all are takes of other texts
no_others : (text : List ℕ) (before : List Instr) → list_any is_other before ≡ true → AllByRecursion (IsOtherTake text) before → ⊥
no_others text [] e all = cc
no_others text (Take other ∷ before) e all = no_others text before e all.1
no_others text (_ ∷ before) e all = all.0

pub other_last : (before : List Instr) (instr : Instr) → is_other instr ≡ true → list_any is_other (before ++ instr ∷ []) ≡ true
other_last before instr e = list_any-append is_other before (instr ∷ []) ∙ rw e (or-true (list_any is_other before))

pub other_before : (before : List Instr) (instr : Instr) → list_any is_other before ≡ true → list_any is_other (before ++ instr ∷ []) ≡ true
other_before before instr e = list_any-append is_other before (instr ∷ []) ∙ rw e refl

module _ (formats : List FormatValue) where
  abbrev Each : List Instr → List Instr → Type 0
  Each before instrs = EachAfter (IsInstrAfter formats) before instrs

  -- after an instruction that is no take there is no take
  pub no_takes : (before instrs : List Instr) → Each before instrs → list_any is_other before ≡ true → take_texts instrs ≡ []
  no_takes before [] each e = refl
  no_takes before (Take text ∷ instrs) each e = absurd (no_others text before e each.0.take)
  no_takes before (instr ∷ instrs) each e = no_takes (before ++ instr ∷ []) instrs each.1 (other_before before instr e)

  -- so each take has the place of its text
  pub take_at : (before instrs : List Instr) (i : ℕ) → Each before instrs → i < length (take_texts instrs)
      → (text : List ℕ) × (slice_get instrs i ≡ Some (Take text)) × (slice_get (take_texts instrs) i ≡ Some text)
  take_at before [] i each h = absurd (omega arith)
  take_at before (Take text ∷ instrs) zero each h = (text, refl, refl)
  take_at before (Take text ∷ instrs) (suc i) each h = take_at (before ++ Take text ∷ []) instrs i each.1 (omega arith)
  take_at before (instr ∷ instrs) i each h =
      let none : take_texts instrs ≡ [] = no_takes (before ++ instr ∷ []) instrs each.1 (other_last before instr refl) in
      absurd (omega (arith, ap length none))

pub got : {A : Type 0} (xs : List A) (i : ℕ) (x : A) → slice_get xs i ≡ Some x → (i < length xs) × ((d : A) → get_or xs i d ≡ x)
got [] i x e = cc
got (y ∷ ys) zero x e = (omega arith, λ d. cc)
got (y ∷ ys) (suc i) x e = let rest = got ys i x e in (omega (arith, rest.0), rest.1)
