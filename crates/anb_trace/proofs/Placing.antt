-- An instruction at its place.
use Rattle.std.proofs.Common.{◌≡◌, ℕ, zero, suc, ◌+◌, ◌-◌, ◌≤◌, List, [], ◌∷◌, ◌++◌, length, take, drop, Bool, true, false, cond, Some, None, Result, Ok, Err, refl, sym, ap, ◌∙◌, arith, append_assoc}
use Rattle.std.specs.Prelude.{IfOk, filter, slice_get}
use Rattle.std.specs.List.{AllByRecursion}
use Rattle.std.proofs.lemmas.List.{length-drop, take_all}
use Rattle.std.proofs.lemmas.List.Sums.{sum_by-append, sum_by-cons}
use Rattle.std.proofs.lemmas.Option.{same_Some}
use Rattle.anb_lemmas.proofs.Lists.{take_got, drop_at_got}
use Rattle.anb_base.specs.declared.content.NoMemory.{NoMemory}
use Rattle.anb_format.specs.Formats.{FormatValue}
use Rattle.anb_term.specs.Tree.{Tree}
use Rattle.anb_term.specs.declared.term.Term.{Term}
use Rattle.anb_code.specs.declared.instr.Instr.{Instr}
use Rattle.anb_code.specs.CodeValue.{CodeValue}
use Rattle.anb_code.specs.Registers.{count_written}
use Rattle.anb_code.specs.Spelling.{raw_instr, raw_instrs}
use Rattle.anb_code.specs.Verified.{count_registers}
use Rattle.anb_protocol.specs.Protocols.{ProtocolValue}
use Rattle.anb_text.specs.Lines.{instr_line}
use Rattle.anb_text.specs.RoleFiles.{instr_lines}
use Rattle.anb_text.proofs.Printed.{text_at}
use Rattle.anb_trace.specs.Words.{value_line, value_lines}

module _ (formats : List FormatValue) where
  raw_at : (instrs : List Instr) (next i : ℕ) (x : Instr) → slice_get instrs i ≡ Some x
      → slice_get (raw_instrs formats next instrs) i ≡ Some (raw_instr formats (next + count_registers formats (take i instrs)) x)
  raw_at [] next i x e = cc
  raw_at (y ∷ ys) next zero x e =
      let none : next ≡ next + 0 = omega arith in
      let s : y ≡ x = cc in
      ap (λ z. Some (raw_instr formats next z)) s ∙ ap (λ n. Some (raw_instr formats n x)) none
  raw_at (y ∷ ys) next (suc i) x e =
      let sum : next + count_written formats y + count_registers formats (take i ys) ≡ next + count_registers formats (y ∷ take i ys) = omega (arith, sum_by-cons (count_written formats) y (take i ys)) in
      raw_at ys (next + count_written formats y) i x e ∙ ap (λ n. Some (raw_instr formats n x)) sum

  -- up to an instruction no more registers are written than in all
  pub count_front : (instrs : List Instr) (i : ℕ) → count_registers formats (take i instrs) ≤ count_registers formats instrs
  count_front [] zero = omega arith
  count_front [] (suc i) = omega arith
  count_front (y ∷ ys) zero = omega arith
  count_front (y ∷ ys) (suc i) = omega (arith, count_front ys i, sum_by-cons (count_written formats) y (take i ys), sum_by-cons (count_written formats) y ys)

  pub count_next : (instrs : List Instr) (i : ℕ) (x : Instr) → slice_get instrs i ≡ Some x → count_registers formats (take (i + 1) instrs) ≡ count_registers formats (take i instrs) + count_written formats x
  count_next instrs i x e = ap (count_registers formats) (take_got instrs i x e) ∙ omega (arith, sum_by-append (count_written formats) (take i instrs) (x ∷ []), sum_by-cons (count_written formats) x [])

-- what is written there is its line
pub said_there : (code : CodeValue) (i : ℕ) (x : Instr) (first : ℕ) → slice_get code.instrs i ≡ Some x → first ≡ count_registers code.formats (take i code.instrs)
    → (r : Result (List ℕ) NoMemory) → IfOk r (λ text. slice_get (instr_lines code) (i + 1 - 1) ≡ Some text) → IfOk r (λ text. text ≡ instr_line (raw_instr code.formats first x))
said_there code i x first there counted (Ok text) is =
    let at : i + 1 - 1 ≡ i = omega arith in
    let line : slice_get (instr_lines code) i ≡ Some (instr_line (raw_instr code.formats first x)) = text_at code i x there ∙ ap (λ n. Some (instr_line (raw_instr code.formats n x))) (sym counted) in
    same_Some text (instr_line (raw_instr code.formats first x)) (sym is ∙ ap (slice_get (instr_lines code)) at ∙ line)
said_there code i x first there counted (Err other) is = tt

-- all terms from a place on
pub all_taken : (first : ℕ) (ts : List Term) → take (length ts - first) (drop first ts) ≡ drop first ts
all_taken first ts = take_all (length ts - first) (drop first ts) (omega (arith, length-drop first ts))

-- ---- values with their terms

no_terms : (p : ProtocolValue) (values : List (List ℕ)) → value_lines p [] values ≡ []
no_terms p [] = refl
no_terms p (x ∷ values) = refl

nothing_from : {A : Type 0} (xs : List A) (i : ℕ) → slice_get xs i ≡ None → drop i xs ≡ []
nothing_from [] zero e = refl
nothing_from [] (suc i) e = refl
nothing_from (x ∷ xs) zero e = cc
nothing_from (x ∷ xs) (suc i) e = nothing_from xs i e

module _ (p : ProtocolValue) (ts : List Tree) (values : List (List ℕ)) (i : ℕ) where
  pub lines_over : slice_get ts i ≡ None → value_lines p (drop i ts) (drop i values) ≡ []
  lines_over e = ap (λ l. value_lines p l (drop i values)) (nothing_from ts i e) ∙ no_terms p (drop i values)

  pub one_line : (t : Tree) (x : List ℕ) → slice_get ts i ≡ Some t → slice_get values i ≡ Some x
      → value_lines p (drop i ts) (drop i values) ≡ value_line p t x ++ value_lines p (drop (i + 1) ts) (drop (i + 1) values)
  one_line t x there also = rw (drop_at_got ts i t there, drop_at_got values i x also) refl

-- ---- what a list is filtered to

pub all_kept : {A : Type 0} (P : A → Type 0) (test : A → Bool) (xs : List A) → AllByRecursion P xs → AllByRecursion P (filter test xs)
all_kept P test [] all = tt
all_kept P test (x ∷ xs) all = by (test x) (all_kept P test xs all.1) where
  by : (b : Bool) → AllByRecursion P (filter test xs) → AllByRecursion P (cond b (x ∷ filter test xs) (filter test xs))
  by true rest = (all.0, rest)
  by false rest = rest

-- ---- the words of a stop, part by part

pub stop_joined : (o w d v k u r : List ℕ) → (((o ++ (w ++ d)) ++ (v ++ (k ++ u))) ++ r) ++ 10 ∷ [] ≡ o ++ ((w ++ (d ++ (v ++ (k ++ (u ++ r))))) ++ 10 ∷ [])
stop_joined o w d v k u r =
    let all : List ℕ = w ++ (d ++ (v ++ (k ++ (u ++ r)))) in
    let late : (v ++ (k ++ u)) ++ r ≡ v ++ (k ++ (u ++ r)) = append_assoc v (k ++ u) r ∙ ap (λ l. v ++ l) (append_assoc k u r) in
    let early : (w ++ d) ++ ((v ++ (k ++ u)) ++ r) ≡ all = append_assoc w d ((v ++ (k ++ u)) ++ r) ∙ ap (λ l. w ++ (d ++ l)) late in
    let whole : ((o ++ (w ++ d)) ++ (v ++ (k ++ u))) ++ r ≡ o ++ all = append_assoc (o ++ (w ++ d)) (v ++ (k ++ u)) r ∙ append_assoc o (w ++ d) ((v ++ (k ++ u)) ++ r) ∙ ap (λ l. o ++ l) early in
    ap (λ l. l ++ 10 ∷ []) whole ∙ append_assoc o all (10 ∷ [])
