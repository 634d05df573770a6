-- A verified code's acts are ready for a run over registers.
use Rattle.std.proofs.Common.{◌≡◌, ◌<◌, ◌+◌, ◌-◌, ℕ, zero, suc, Bool, IsTrue, List, [], ◌∷◌, ◌++◌, length, map, slice_get, Some, refl, sym, ap, subst, ◌∙◌, arith, zero-add, All}
use Rattle.std.specs.List.{AllByRecursion}
use Rattle.std.specs.Option.{option_map_or}
use Rattle.std.proofs.lemmas.List.{length-append}
use Rattle.std.proofs.lemmas.List.Elements.{All-from_recursion, recursion_from_All}
use Rattle.std.proofs.lemmas.List.Sums.{sum_by_push}
use Rattle.anb_format.specs.Formats.{FormatValue, IsSound, field_count, pieces_at}
use Rattle.anb_term.specs.declared.term.Op.{Op}
use Rattle.anb_term.specs.declared.term.Op.TheVariants as op
use Rattle.anb_plays.specs.Codes.{Act}
use Rattle.anb_plays.specs.Exec.{HasTakes, IsVerified, NoTakes}
use Rattle.anb_code.specs.declared.instr.Instr.{Instr}
use Rattle.anb_code.specs.declared.instr.Instr.TheVariants.{Take, Fresh, Recv, Hash, Mac, Seal, Unseal, Wrap, Unwrap, Build, Parse, Equal, Send}
use Rattle.anb_code.specs.CodeValue.{CodeValue}
use Rattle.anb_code.specs.Meaning.{IsOperator, act_of, acts_of}
use Rattle.anb_code.specs.Registers.{count_written, operands}
use Rattle.anb_code.specs.Taking.{take_texts}
use Rattle.anb_code.specs.Verified.{EachAfter, IsFormatAfter, IsInstrAfter, IsVerifiedCode, count_registers}
use Rattle.anb_code.proofs.Taking.{no_takes, other_last}

sound_at : (before formats : List FormatValue) (f : ℕ) (format : FormatValue) → EachAfter IsFormatAfter before formats → slice_get formats f ≡ Some format → IsSound format.pieces
sound_at before [] f format each e = cc
sound_at before (x ∷ xs) zero format each e = let same : x ≡ format = cc in subst (λ (y : FormatValue). IsSound y.pieces) same each.0.sound
sound_at before (x ∷ xs) (suc f) format each e = sound_at (before ++ x ∷ []) xs f format each.1 e

module _ (formats : List FormatValue) (all_sound : EachAfter IsFormatAfter [] formats) (has : Op → Bool) (covers : (o : Op) → IsOperator formats o → IsTrue (has o)) where
  abbrev Each : List Instr → List Instr → Type 0
  Each before instrs = EachAfter (IsInstrAfter formats) before instrs

  abbrev acts : List Instr → List Act
  acts instrs = map (act_of formats) instrs

  abbrev count : List Instr → ℕ
  count before = count_registers formats before

  push : (before : List Instr) (instr : Instr) → count (before ++ instr ∷ []) ≡ count before + count_written formats instr
  push before instr = sum_by_push (count_written formats) before instr

  abbrev Rest : List Instr → ℕ → Type 0
  Rest instrs n = IsVerified has (acts instrs) n × NoTakes has (acts instrs)

  read : (before : List Instr) (instr : Instr) → IsInstrAfter formats before instr → AllByRecursion (λ r. r < count before) (operands instr)
  read before instr each = recursion_from_All (λ r. r < count before) (operands instr) each.written

  written : (n : ℕ) (registers : List ℕ) → AllByRecursion (λ r. r < n) registers → All (λ r. r < n) registers
  written n registers h = All-from_recursion (λ r. r < n) registers h

  moved : (before : List Instr) (instr : Instr) (instrs : List Instr) (n : ℕ) → count before + count_written formats instr ≡ n → Rest instrs (count (before ++ instr ∷ [])) → Rest instrs n
  moved before instr instrs n e rest = subst (Rest instrs) (push before instr ∙ e) rest

  pieces_there : (f : ℕ) (format : FormatValue) → slice_get formats f ≡ Some format → field_count (pieces_at formats f) ≡ field_count format.pieces
  pieces_there f format e = ap (λ o. field_count (option_map_or (λ (x : FormatValue). x.pieces) o [])) e

  rest_of : (before instrs : List Instr) → Each before instrs → take_texts instrs ≡ [] → Rest instrs (count before)
  rest_of before [] each none = (tt, tt)
  rest_of before (Take text ∷ instrs) each none = cc
  rest_of before (Fresh ∷ instrs) each none = let rest = moved before Fresh instrs (count before + 1) refl (rest_of (before ++ Fresh ∷ []) instrs each.1 none) in (rest.0, rest.1)
  rest_of before (Recv ∷ instrs) each none = let rest = moved before Recv instrs (count before + 1) refl (rest_of (before ++ Recv ∷ []) instrs each.1 none) in (rest.0, rest.1)
  rest_of before (Hash r ∷ instrs) each none =
      let rest = moved before (Hash r) instrs (count before + 1) refl (rest_of (before ++ Hash r ∷ []) instrs each.1 none) in
      (((covers op.Hash tt, refl, each.0.written), rest.0), rest.1)
  rest_of before (Mac k b ∷ instrs) each none =
      let rest = moved before (Mac k b) instrs (count before + 1) refl (rest_of (before ++ Mac k b ∷ []) instrs each.1 none) in
      (((covers op.Mac tt, refl, each.0.written), rest.0), rest.1)
  rest_of before (Seal k b ∷ instrs) each none =
      let rest = moved before (Seal k b) instrs (count before + 1) refl (rest_of (before ++ Seal k b ∷ []) instrs each.1 none) in
      (((covers op.Seal tt, refl, each.0.written), rest.0), rest.1)
  rest_of before (Unseal k c ∷ instrs) each none =
      let rest = moved before (Unseal k c) instrs (count before + 1) refl (rest_of (before ++ Unseal k c ∷ []) instrs each.1 none) in
      let reads = read before (Unseal k c) each.0 in
      (((covers op.Seal tt, refl, written (count before) (k ∷ []) (reads.0, tt), reads.1.0), rest.0), rest.1)
  rest_of before (Wrap k d b ∷ instrs) each none =
      let rest = moved before (Wrap k d b) instrs (count before + 1) refl (rest_of (before ++ Wrap k d b ∷ []) instrs each.1 none) in
      (((covers op.Wrap tt, refl, each.0.written), rest.0), rest.1)
  rest_of before (Unwrap k d c ∷ instrs) each none =
      let rest = moved before (Unwrap k d c) instrs (count before + 1) refl (rest_of (before ++ Unwrap k d c ∷ []) instrs each.1 none) in
      let reads = read before (Unwrap k d c) each.0 in
      (((covers op.Wrap tt, refl, written (count before) (k ∷ d ∷ []) (reads.0, (reads.1.0, tt)), reads.1.1.0), rest.0), rest.1)
  rest_of before (Build f rs ∷ instrs) each none =
      let rest = moved before (Build f rs) instrs (count before + 1) refl (rest_of (before ++ Build f rs ∷ []) instrs each.1 none) in
      let there = each.0.format in
      (((covers (op.Format f (length rs)) (there.0, there.1, sound_at [] formats f there.0 all_sound there.1, sym there.2), refl, each.0.written), rest.0), rest.1)
  rest_of before (Parse f r ∷ instrs) each none =
      let many = field_count (pieces_at formats f) in
      let rest = moved before (Parse f r) instrs (count before + (many - 0)) (omega arith) (rest_of (before ++ Parse f r ∷ []) instrs each.1 none) in
      let there = each.0.format in
      let reads = read before (Parse f r) each.0 in
      (((covers (op.Format f many) (there.0, there.1, sound_at [] formats f there.0 all_sound there.1, sym (pieces_there f there.0 there.1)), refl, written (count before) [] tt, reads.0), rest.0), rest.1)
  rest_of before (Equal a b ∷ instrs) each none =
      let rest = moved before (Equal a b) instrs (count before + 0) refl (rest_of (before ++ Equal a b ∷ []) instrs each.1 none) in
      let reads = read before (Equal a b) each.0 in
      (((reads.0, reads.1.0), rest.0), rest.1)
  rest_of before (Send r ∷ instrs) each none =
      let rest = moved before (Send r) instrs (count before) (omega arith) (rest_of (before ++ Send r ∷ []) instrs each.1 none) in
      let reads = read before (Send r) each.0 in
      ((reads.0, rest.0), rest.1)

  takes_first : (before instrs : List Instr) → Each before instrs → count before ≡ length before → HasTakes has (acts instrs) (length before) (length before + length (take_texts instrs))
  takes_first before [] each all = (omega arith, tt, tt)
  takes_first before (Take text ∷ instrs) each all =
      let long : length (before ++ Take text ∷ []) ≡ suc (length before) = length-append before (Take text ∷ []) ∙ omega arith in
      let counted : count (before ++ Take text ∷ []) ≡ length (before ++ Take text ∷ []) = omega (arith, push before (Take text), all, long) in
      let more = takes_first (before ++ Take text ∷ []) instrs each.1 counted in
      let rest = rw long at more in
      subst (λ n. HasTakes has (acts instrs) (suc (length before)) n) (omega arith) rest
  takes_first before (instr ∷ instrs) each all =
      let none : take_texts instrs ≡ [] = no_takes formats (before ++ instr ∷ []) instrs each.1 (other_last before instr refl) in
      let total : length before ≡ length before + length (take_texts instrs) = omega (arith, ap length none) in
      let rest = subst (Rest (instr ∷ instrs)) (all ∙ total) (rest_of before (instr ∷ instrs) each none) in
      (total, rest.0, rest.1)

pub runnable : (arrival wide : ℕ) (code : CodeValue) → IsVerifiedCode arrival wide code → (has : Op → Bool) → ((o : Op) → IsOperator code.formats o → IsTrue (has o))
    → HasTakes has (acts_of code) 0 (length (take_texts code.instrs))
runnable arrival wide code verified has covers =
    subst (λ n. HasTakes has (acts_of code) 0 n) (zero-add (length (take_texts code.instrs))) (takes_first code.formats verified.formats has covers [] code.instrs verified.instrs refl)
