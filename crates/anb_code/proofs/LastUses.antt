-- How long a register is still to be read, with one more instruction.
use Rattle.std.proofs.Common.{◌≡◌, ◌<◌, ◌≤◌, ◌+◌, ◌||◌, ℕ, zero, suc, nat_lt, Bool, true, false, cond, List, [], ◌∷◌, ◌++◌, length, take, drop, replicate, slice_index, get_or, refl, sym, ap, subst, ◌∙◌, arith, All, inl, inr, length-append}
use Rattle.std.proofs.Math.Bool.{or-true}
use Rattle.std.proofs.Math.ListN.{drop_of_length-le}
use Rattle.std.proofs.lemmas.Bool.{cases_lt}
use Rattle.std.proofs.lemmas.Bool.Decides.{nat_tests}
use Rattle.std.proofs.lemmas.List.{drop-append-le, take_more, length-replicate}
use Rattle.std.proofs.lemmas.List.Folds.{list_any-append}
use Rattle.std.proofs.lemmas.List.Sums.{sum_by_push}
use Rattle.anb_lemmas.proofs.Bools.{or_false}
use Rattle.anb_format.specs.Formats.{FormatValue}
use Rattle.anb_code.specs.declared.instr.Instr.{Instr}
use Rattle.anb_code.specs.Registers.{count_written, operands}
use Rattle.anb_code.specs.Uses.{AreLastUses, AreMarked, is_among, is_read}
use Rattle.anb_code.specs.Verified.{EachAfter, IsInstrAfter, count_registers}

-- zeros behind change no number
zeros_none : (k r : ℕ) → slice_index (replicate k 0) r ≡ 0
zeros_none zero r = refl
zeros_none (suc k) zero = refl
zeros_none (suc k) (suc r) = zeros_none k r

zeros_behind : (xs : List ℕ) (k r : ℕ) → slice_index (xs ++ replicate k 0) r ≡ slice_index xs r
zeros_behind [] k r = zeros_none k r
zeros_behind (x ∷ xs) k zero = refl
zeros_behind (x ∷ xs) k (suc r) = zeros_behind xs k r

-- ---- one more instruction

-- what is read after n, where one more instruction follows
module _ (before : List Instr) (x : Instr) (r n : ℕ) where
  early : n ≤ length before → is_read (drop n (before ++ x ∷ [])) r ≡ (is_read (drop n before) r || is_among (operands x) r)
  early h =
      ap (λ l. is_read l r) (drop-append-le n before (x ∷ []) h)
      ∙ list_any-append (λ (instr : Instr). is_among (operands instr) r) (drop n before) (x ∷ [])
      ∙ ap (λ b. is_read (drop n before) r || b) (or_false (is_among (operands x) r))

  late : length before < n → is_read (drop n (before ++ x ∷ [])) r ≡ false
  late h = ap (λ l. is_read l r) (drop_of_length-le (before ++ x ∷ []) (omega (arith, h, length-append before (x ∷ []))))

  late_before : length before < n → is_read (drop n before) r ≡ false
  late_before h = ap (λ l. is_read l r) (drop_of_length-le before (omega (arith, h)))

  last_more : (reads : Bool) (old new : ℕ) → is_among (operands x) r ≡ reads → nat_lt n old ≡ is_read (drop n before) r → new ≡ cond reads (length before + 1) old
      → nat_lt n new ≡ is_read (drop n (before ++ x ∷ [])) r
  last_more true old new e h s = elim (cases_lt (length before) n) [
    | inl over ↦ let no : nat_lt n new ≡ false = grind (arith, nat_tests) in no ∙ sym (late over)
    | inr within ↦
        let yes : nat_lt n new ≡ true = grind (arith, nat_tests) in
        yes ∙ sym (early within ∙ ap (λ b. is_read (drop n before) r || b) e ∙ or-true (is_read (drop n before) r))
  ]
  last_more false old new e h s = ap (nat_lt n) s ∙ h ∙ elim (cases_lt (length before) n) [
    | inl over ↦ late_before over ∙ sym (late over)
    | inr within ↦ sym (early within ∙ ap (λ b. is_read (drop n before) r || b) e ∙ or_false (is_read (drop n before) r))
  ]

pub uses_more : (formats : List FormatValue) (before : List Instr) (x : Instr) (uses marked : List ℕ) (at : ℕ) → at ≡ length before + 1
    → AreLastUses formats before uses → AreMarked at (operands x) uses marked → AreLastUses formats (before ++ x ∷ []) (marked ++ replicate (count_written formats x) 0)
uses_more formats before x uses marked at is known m = record {
  count = length-append marked (replicate (count_written formats x) 0) ∙ omega (arith, m.count, known.count, length-replicate {A = ℕ} (count_written formats x) 0, sum_by_push (count_written formats) before x);
  last = λ r n. ap (nat_lt n) (zeros_behind marked (count_written formats x) r)
      ∙ last_more before x r n (is_among (operands x) r) (slice_index uses r) (slice_index marked r) refl (known.last r n) (m.each r ∙ ap (λ k. cond (is_among (operands x) r) k (slice_index uses r)) is);
}

pub uses_next : (formats : List FormatValue) (instrs : List Instr) (i : ℕ) (x : Instr) (uses marked : List ℕ) (at : ℕ) → at ≡ i + 1 → i < length instrs → x ≡ get_or instrs i x
    → AreLastUses formats (take i instrs) uses → AreMarked at (operands x) uses marked → AreLastUses formats (take (i + 1) instrs) (marked ++ replicate (count_written formats x) 0)
uses_next formats instrs i x uses marked at is h e known m =
    let long : length (take i instrs) ≡ i = taken i instrs h in
    let all : take (i + 1) instrs ≡ take i instrs ++ x ∷ [] = take_more instrs i x h ∙ ap (λ y. take i instrs ++ y ∷ []) (sym e) in
    subst (λ l. AreLastUses formats l (marked ++ replicate (count_written formats x) 0)) (sym all) (uses_more formats (take i instrs) x uses marked at (omega (arith, is, long)) known m) where
      taken : (i : ℕ) (l : List Instr) → i < length l → length (take i l) ≡ i
      taken i [] h = absurd (omega (arith, h))
      taken zero (y ∷ l) h = refl
      taken (suc i) (y ∷ l) h = ap suc (taken i l (omega (arith, h)))

-- an instruction's operands were written before it
each_take : {A : Type 0} (P : List A → A → Type 0) (before xs : List A) (i : ℕ) (x : A) → EachAfter P before xs → i < length xs → x ≡ get_or xs i x → (b : List A) × (b ≡ before ++ take i xs) × P b x
each_take P before [] i x each h e = absurd (omega (arith, h))
each_take P before (y ∷ xs) zero x each h e = (before, sym (append-nil before), subst (P before) (sym e) each.0) where
  append-nil : {B : Type 0} (l : List B) → l ++ [] ≡ l
  append-nil [] = refl
  append-nil (z ∷ l) = ap (λ m. z ∷ m) (append-nil l)
each_take P before (y ∷ xs) (suc i) x each h e =
    let rest = each_take P (before ++ y ∷ []) xs i x each.1 (omega (arith, h)) e in
    (rest.0, rest.1 ∙ assoc before y (take i xs), rest.2) where
      assoc : {B : Type 0} (l : List B) (z : B) (m : List B) → (l ++ z ∷ []) ++ m ≡ l ++ z ∷ m
      assoc [] z m = refl
      assoc (w ∷ l) z m = ap (λ k. w ∷ k) (assoc l z m)

pub operands_written : (formats : List FormatValue) (instrs : List Instr) (i : ℕ) (x : Instr) (uses : List ℕ) → EachAfter (IsInstrAfter formats) [] instrs → i < length instrs → x ≡ get_or instrs i x
    → AreLastUses formats (take i instrs) uses → All (λ r. r < length uses) (operands x)
operands_written formats instrs i x uses each h e known =
    let here = each_take (IsInstrAfter formats) [] instrs i x each h e in
    let count : count_registers formats here.0 ≡ length uses = ap (count_registers formats) here.1 ∙ sym known.count in
    subst (λ n. All (λ r. r < n) (operands x)) count here.2.written
