-- One item more of a list, and the terms of registers.
use Rattle.std.proofs.Common.{◌≡◌, ℕ, zero, suc, ◌+◌, ◌-◌, ◌≤◌, ◌<◌, List, [], ◌∷◌, ◌++◌, length, map, drop, take, get_or, Bool, true, false, Some, refl, sym, ap, ◌∙◌, arith}
use Rattle.std.specs.Prelude.{slice_get, ◌||◌, if◌then◌else◌}
use Rattle.std.specs.List.{list_any, range_with_len}
use Rattle.std.proofs.lemmas.List.Sums.{sum_by-cons}
use Rattle.anb_format.specs.Formats.{FormatValue}
use Rattle.anb_protocol.specs.Protocols.{ProtocolValue}
use Rattle.anb_code.specs.declared.instr.Instr.{Instr}
use Rattle.anb_code.specs.Registers.{count_written}
use Rattle.anb_code.specs.Verified.{count_registers}
use Rattle.std.proofs.lemmas.List.{take_all}
use Rattle.std.proofs.lemmas.Bool.{or_right}
use Rattle.anb_lemmas.proofs.Lists.{drop_at_got}
use Rattle.anb_report.specs.Noting.{notes_at, notes_first, notes_from, up_to_message}
use Rattle.anb_report.specs.Looking.{is_message, written_by}
use Rattle.anb_term.specs.declared.term.Term.{Term}
use Rattle.anb_term.specs.Tree.{Tree}
use Rattle.anb_term.specs.View.{tree_of}

-- numbers from one on up to another
pub first_of : (a b : ℕ) → a < b → range_with_len a (b - a) ≡ a ∷ range_with_len (a + 1) (b - (a + 1))
first_of a b h = let n : b - a ≡ suc (b - (a + 1)) = omega (arith, h) in ap (range_with_len a) n

pub none_left : (a b : ℕ) → b ≤ a → range_with_len a (b - a) ≡ []
none_left a b h = let n : b - a ≡ 0 = omega (arith, h) in ap (range_with_len a) n

pub first_split : (xs : List ℕ) → 1 ≤ length xs → xs ≡ get_or xs 0 0 ∷ take (length xs - 1) (drop 1 xs)
first_split [] h = absurd (omega (arith, h))
first_split (x ∷ xs) h = ap (λ l. x ∷ l) (sym (take_all (length (x ∷ xs) - 1) xs (omega arith)))

-- ---- up to the next message

pub turn_taken : (instrs : List Instr) → take (length (up_to_message instrs)) instrs ≡ up_to_message instrs
turn_taken [] = refl
turn_taken (x ∷ instrs) = one (is_message x) (turn_taken instrs)
  where
    one : (b : Bool) → take (length (up_to_message instrs)) instrs ≡ up_to_message instrs
        → take (length (if b then [] else x ∷ up_to_message instrs)) (x ∷ instrs) ≡ (if b then [] else x ∷ up_to_message instrs)
    one true ih = refl
    one false ih = ap (λ l. x ∷ l) ih

take_more : (n : ℕ) (x : Instr) (instrs : List Instr) → take (1 + n) (x ∷ instrs) ≡ x ∷ take n instrs
take_more n x instrs = let e : 1 + n ≡ suc n = omega arith in ap (λ k. take k (x ∷ instrs)) e

pub fewer_taken : (formats : List FormatValue) (k : ℕ) (instrs : List Instr) → count_registers formats (take k instrs) ≤ count_registers formats instrs
fewer_taken formats zero instrs = omega arith
fewer_taken formats (suc k) [] = omega arith
fewer_taken formats (suc k) (x ∷ instrs) = omega (arith, fewer_taken formats k instrs, sum_by-cons (count_written formats) x instrs, sum_by-cons (count_written formats) x (take k instrs))

pub turn_fewer : (formats : List FormatValue) (instrs : List Instr) → count_registers formats (up_to_message instrs) ≤ count_registers formats instrs
turn_fewer formats instrs = let e = ap (count_registers formats) (turn_taken instrs) in omega (arith, e, fewer_taken formats (length (up_to_message instrs)) instrs)

-- ---- the terms of registers

pub mapped_length : (terms : List Term) → length (map tree_of terms) ≡ length terms
mapped_length [] = refl
mapped_length (t ∷ terms) = ap suc (mapped_length terms)

-- ---- one instruction more

pub fewer_left : (formats : List FormatValue) (i : ℕ) (instrs : List Instr) → count_registers formats (drop i instrs) ≤ count_registers formats instrs
fewer_left formats zero instrs = omega arith
fewer_left formats (suc i) [] = omega arith
fewer_left formats (suc i) (x ∷ instrs) = omega (arith, fewer_left formats i instrs, sum_by-cons (count_written formats) x instrs)

module _ (formats : List FormatValue) (instrs : List Instr) (i : ℕ) (x : Instr) (here : slice_get instrs i ≡ Some x) where
  abbrev rest : List Instr
  rest = drop (i + 1) instrs

  pub count_first : count_registers formats (drop i instrs) ≡ count_written formats x + count_registers formats rest
  count_first = ap (count_registers formats) (drop_at_got instrs i x here) ∙ sum_by-cons (count_written formats) x rest

  module _ (next end : ℕ) (by : end ≡ next + count_written formats x) where
    width : end - next ≡ count_written formats x
    width = omega (arith, by)

    pub written_first : (test : Instr → Bool) → written_by formats test next (drop i instrs) ≡ (if test x then range_with_len next (end - next) else []) ++ written_by formats test end rest
    written_first test =
        ap (written_by formats test next) (drop_at_got instrs i x here)
        ∙ ap (λ n. (if test x then range_with_len next n else []) ++ written_by formats test (next + count_written formats x) rest) (sym width)
        ∙ ap (λ n. (if test x then range_with_len next (end - next) else []) ++ written_by formats test n rest) (sym by)

  pub notes_then : (p : ProtocolValue) (terms free : List Tree) (next end : ℕ) → end ≡ next + count_written formats x
      → notes_from formats p terms free next (drop i instrs) ≡ notes_first formats p terms free next (drop i instrs) ++ notes_from formats p terms free end rest
  notes_then p terms free next end by =
      let at = drop_at_got instrs i x here in
      ap (notes_from formats p terms free next) at
      ∙ ap (λ (l : List Instr). notes_first formats p terms free next l ++ notes_from formats p terms free (next + count_written formats x) rest) (sym at)
      ∙ ap (λ n. notes_first formats p terms free next (drop i instrs) ++ notes_from formats p terms free n rest) (sym by)

pub message_notes : (formats : List FormatValue) (p : ProtocolValue) (terms free : List Tree) (next : ℕ) (instrs : List Instr) (x : Instr) → 0 < length instrs → x ≡ get_or instrs 0 x → is_message x ≡ true
    → notes_first formats p terms free next instrs ≡ notes_at formats p terms free next (take (1 + length (up_to_message (drop 1 instrs))) instrs) ∷ []
message_notes formats p terms free next [] x h e is = absurd (omega (arith, h))
message_notes formats p terms free next (y ∷ instrs) x h e is =
    let t : is_message y ≡ true = ap is_message (sym e) ∙ is in
    ap (λ b. if b then notes_at formats p terms free next (y ∷ up_to_message instrs) ∷ [] else []) t
    ∙ ap (λ l. notes_at formats p terms free next l ∷ []) (ap (λ l. y ∷ l) (sym (turn_taken instrs)) ∙ sym (take_more (length (up_to_message instrs)) y instrs))

-- an item of a list is told so
pub any_at : {A B : Type 0} (view : A → B) (test : B → Bool) (xs : List A) (i : ℕ) (x : A) → slice_get xs i ≡ Some x → test (view x) ≡ true → list_any test (map view xs) ≡ true
any_at view test [] i x e is = cc
any_at view test (y ∷ ys) zero x e is = let s : y ≡ x = cc in ap (λ b. b || list_any test (map view ys)) (ap (λ z. test (view z)) s ∙ is)
any_at view test (y ∷ ys) (suc i) x e is = or_right (test (view y)) (list_any test (map view ys)) (any_at view test ys i x e is)
