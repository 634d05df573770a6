-- What is known of a verified code over the algebra of bytes.
use Rattle.std.proofs.Common.{◌≡◌, ◌≤◌, ℕ, zero, suc, ◌+◌, List, [], ◌∷◌, ◌++◌, length, map, true, IsTrue, Some, refl, sym, ap, subst, arith}
use Rattle.std.specs.Prelude.{slice_get}
use Rattle.std.specs.Option.{option_map_or}
use Rattle.std.proofs.lemmas.List.Sums.{sum_by-cons}
use Rattle.anb_lemmas.proofs.Lists.{got_within}
use Rattle.anb_term.specs.declared.term.Op.{Op}
use Rattle.anb_term.specs.declared.term.Op.TheVariants.{Hash, Mac, Seal, Wrap, Format}
use Rattle.anb_format.specs.Formats.{FormatValue, field_count, is_sound, pieces_at}
use Rattle.anb_format.proofs.BuiltLemmas.{passes_sound}
use Rattle.anb_algebra.specs.ByteMeaning.{has_operator}
use Rattle.anb_algebra.proofs.Operators.{operators_from}
use Rattle.anb_plays.specs.Exec.{HasTakes}
use Rattle.anb_code.specs.declared.instr.Instr.{Instr}
use Rattle.anb_code.specs.declared.instr.Instr.TheVariants.{Build, Parse}
use Rattle.anb_code.specs.CodeValue.{CodeValue}
use Rattle.anb_code.specs.Registers.{count_written}
use Rattle.anb_code.specs.Verified.{EachAfter, IsFormatAfter, IsInstrAfter, count_registers, IsVerifiedCode}
use Rattle.anb_code.specs.Meaning.{act_of, acts_of, IsOperator}
use Rattle.anb_code.specs.Taking.{take_texts}
use Rattle.anb_code.proofs.Runnable.{runnable}
use Rattle.anb_machine.specs.Standing.{registers_in}
use Rattle.anb_machine.specs.Works.{HasFewFields}

each_at : {A : Type 0} (P : List A → A → Type 0) (before xs : List A) (i : ℕ) (x : A) → EachAfter P before xs → slice_get xs i ≡ Some x → (b : List A) × P b x
each_at P before [] i x h e = cc
each_at P before (y ∷ ys) zero x h e = let s : y ≡ x = cc in (before, subst (P before) s h.0)
each_at P before (y ∷ ys) (suc i) x h e = each_at P (before ++ y ∷ []) ys i x h.1 e

module _ (formats : List FormatValue) (checked : EachAfter IsFormatAfter [] formats) where
  -- a format that is there has at most 32 fields, and is sound
  few : (f : ℕ) (format : FormatValue) → slice_get formats f ≡ Some format → field_count format.pieces ≤ 32
  few f format e = let x = each_at IsFormatAfter [] formats f format checked e in let h = x.1 in h.fields

  sound : (f : ℕ) (format : FormatValue) → slice_get formats f ≡ Some format → is_sound format.pieces ≡ true
  sound f format e = let x = each_at IsFormatAfter [] formats f format checked e in let h = x.1 in passes_sound format.pieces h.sound

  -- the operators over the formats are operators of bytes
  covers : (o : Op) → IsOperator formats o → IsTrue (has_operator formats o)
  covers Hash is = refl
  covers Mac is = refl
  covers Seal is = refl
  covers Wrap is = refl
  covers (Format f fields) is = let o = operators_from formats f fields sound in o.1 (is.0, is.1, is.3)

  few_of : (x : Instr) (before : List Instr) → IsInstrAfter formats before x → HasFewFields formats x
  few_of (Build f rs) before h = let is = h.format in let less = few f is.0 is.1 in omega (arith, less, is.2)
  few_of (Parse f r) before h =
      let is = h.format in
      let P : ℕ → Type 0 = λ n. n ≤ 32 in
      let there : pieces_at formats f ≡ is.0.pieces = ap (λ o. option_map_or (λ (x : FormatValue). x.pieces) o []) is.1 in
      (got_within formats f is.0 is.1, subst P (sym (ap field_count there)) (few f is.0 is.1))
  few_of x before h = tt

  module _ (instrs : List Instr) (all : EachAfter (IsInstrAfter formats) [] instrs) where
    pub few_at : (i : ℕ) (x : Instr) → slice_get instrs i ≡ Some x → HasFewFields formats x
    few_at i x e = let h = each_at (IsInstrAfter formats) [] instrs i x all e in few_of x h.0 h.1

  written_cons : (x : Instr) (xs : List Instr) → count_registers formats (x ∷ xs) ≡ count_written formats x + count_registers formats xs
  written_cons x xs = sum_by-cons (count_written formats) x xs

  -- the takes write one register each, and the other registers are those of the acts
  pub counted : (xs : List Instr) → count_registers formats xs ≡ length (take_texts xs) + registers_in (map (act_of formats) xs)
  counted [] = refl
  counted (Parse f r ∷ xs) = omega (arith, counted xs, written_cons (Parse f r) xs)
  counted (x ∷ xs) = omega (arith, counted xs, written_cons x xs)

-- a verified code has its takes first, and names no register before it is written
pub has_takes : (arrival wide : ℕ) (code : CodeValue) → IsVerifiedCode arrival wide code → HasTakes (has_operator code.formats) (acts_of code) 0 (length (take_texts code.instrs))
has_takes arrival wide code v = runnable arrival wide code v (has_operator code.formats) (covers code.formats v.formats)
