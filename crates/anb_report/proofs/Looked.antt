-- Marks of what instructions build of, take apart and open, one instruction more.
use Rattle.std.proofs.Common.{◌≡◌, ℕ, zero, suc, ◌+◌, ◌-◌, ◌≤◌, ◌<◌, List, [], ◌∷◌, ◌++◌, Bool, true, false, cond, drop, take, get_or, length, replicate, Some, refl, sym, ap, ◌∙◌, subst, arith}
use Rattle.std.specs.Prelude.{◌&&◌, All, filter, not, slice_get}
use Rattle.std.specs.List.{AllByRecursion, flat_map, list_any, range_with_len}
use Rattle.std.proofs.lemmas.List.Sums.{sum_by-append, sum_by-cons}
use Rattle.anb_format.specs.Formats.{FormatValue}
use Rattle.anb_code.specs.declared.instr.Instr.{Instr}
use Rattle.anb_code.specs.declared.instr.Instr.TheVariants.{Take, Fresh, Recv, Hash, Mac, Seal, Unseal, Wrap, Unwrap, Build, Parse, Equal, Send}
use Rattle.anb_code.specs.Registers.{count_written, operands}
use Rattle.anb_code.specs.Verified.{EachAfter, IsInstrAfter, count_registers}
use Rattle.anb_protocol.specs.Seen.{marked}
use Rattle.anb_report.specs.Looking.{asked, brought, built_of, compared, is_among, is_no_envelope, is_unchecked, keys_of, opened, opened_by, parts_of, repeated, seen, unchecked, with_operands, with_parts}
use Rattle.anb_report.proofs.Marking.{any_same, filter_same, mark_tells, marked_both, range_same}
use Rattle.anb_protocol.proofs.SeenLemmas.{length-marked}
use Rattle.std.proofs.lemmas.List.{length-replicate}
use Rattle.anb_lemmas.proofs.Each.{each_in_both}
use Rattle.anb_lemmas.proofs.Lists.{take_got, drop_at_got}

-- what builds nothing is built of nothing
built_none : (formats : List FormatValue) (x : Instr) → count_written formats x ≡ 0 → built_of x ≡ []
built_none formats (Take text) e = refl
built_none formats Fresh e = refl
built_none formats Recv e = refl
built_none formats (Hash r) e = absurd (omega (arith, e))
built_none formats (Mac k b) e = absurd (omega (arith, e))
built_none formats (Seal k b) e = absurd (omega (arith, e))
built_none formats (Unseal k c) e = refl
built_none formats (Wrap k d b) e = absurd (omega (arith, e))
built_none formats (Unwrap k d c) e = refl
built_none formats (Build f rs) e = absurd (omega (arith, e))
built_none formats (Parse f r) e = refl
built_none formats (Equal a b) e = refl
built_none formats (Send r) e = refl

-- a list behind one of two tests that tell the same of a register, where there is one
behind_same : (a b : Bool) (ys : List ℕ) (n next width : ℕ) → next + width ≤ n → (next < n → a ≡ b) → (width ≡ 0 → ys ≡ []) → cond a ys [] ≡ cond b ys []
behind_same a b ys n next zero long same none = empty a (none refl) ∙ sym (empty b (none refl)) where
  empty : (c : Bool) → ys ≡ [] → cond c ys [] ≡ []
  empty true e = e
  empty false e = refl
behind_same a b ys n next (suc width) long same none = ap (λ c. cond c ys []) (same (omega (arith, long)))

parts_last : (formats : List FormatValue) (some : List ℕ) (next : ℕ) (xs : List Instr) (x : Instr)
    → with_parts formats some next (xs ++ x ∷ []) ≡ with_parts formats some next xs ++ parts_of formats (with_parts formats some next xs) (next + count_registers formats xs) x
parts_last formats some next [] x = let e : next ≡ next + count_registers formats [] = omega arith in ap (λ n. some ++ parts_of formats some n x) e
parts_last formats some next (y ∷ xs) x =
    let more = some ++ parts_of formats some next y in
    let end = next + count_written formats y in
    let e : end + count_registers formats xs ≡ next + count_registers formats (y ∷ xs) = omega (arith, sum_by-cons (count_written formats) y xs) in
    parts_last formats more end xs x ∙ ap (λ n. with_parts formats more end xs ++ parts_of formats (with_parts formats more end xs) n x) e

module _ (formats : List FormatValue) (instrs : List Instr) (i : ℕ) (x : Instr) (here : slice_get instrs i ≡ Some x) where
  pub operands_first : (some : List ℕ) (n next end : ℕ) → end ≡ next + count_written formats x → end ≤ n → (marks : List Bool) → marks ≡ marked (replicate n false) (with_operands formats some end (drop (i + 1) instrs))
      → marked marks (cond (get_or marks next true) (built_of x) []) ≡ marked (replicate n false) (with_operands formats some next (drop i instrs))
  operands_first some n next end by long marks e =
      let blank = replicate n false in
      let rest = drop (i + 1) instrs in
      let later = with_operands formats some end rest in
      let same = behind_same (get_or (marked blank later) next true) (is_among later next) (built_of x) n next (count_written formats x) (omega (arith, by, long)) (λ h. mark_tells n next later h) (built_none formats x) in
      ap (λ m. marked m (cond (get_or m next true) (built_of x) [])) e ∙ ap (marked (marked blank later)) same ∙ sym (marked_both blank later (cond (is_among later next) (built_of x) []))
      ∙ ap (λ k. marked blank (with_operands formats some k rest ++ cond (is_among (with_operands formats some k rest) next) (built_of x) [])) by
      ∙ ap (λ l. marked blank (with_operands formats some next l)) (sym (drop_at_got instrs i x here))

  pub count_next : count_registers formats (take (i + 1) instrs) ≡ count_registers formats (take i instrs) + count_written formats x
  count_next =
      let one : count_registers formats (x ∷ []) ≡ count_written formats x = omega (arith, sum_by-cons (count_written formats) x []) in
      let both = ap (count_registers formats) (take_got instrs i x here) ∙ sum_by-append (count_written formats) (take i instrs) (x ∷ []) in
      omega (arith, both, one)

  pub parts_next : (some : List ℕ) (n next end : ℕ) → next ≡ count_registers formats (take i instrs) → end ≡ next + count_written formats x → AllByRecursion (λ r. r < n) (opened_by x)
      → (marks : List Bool) → marks ≡ marked (replicate n false) (with_parts formats some 0 (take i instrs))
      → marked marks (cond (list_any (λ r. get_or marks r true) (opened_by x)) (range_with_len next (end - next)) []) ≡ marked (replicate n false) (with_parts formats some 0 (take (i + 1) instrs))
  parts_next some n next end at by within marks e =
      let blank = replicate n false in
      let before = with_parts formats some 0 (take i instrs) in
      let told = any_same (λ r. get_or (marked blank before) r true) (is_among before) n (opened_by x) (λ r h. mark_tells n r before h) within in
      let width : end - next ≡ count_written formats x = omega (arith, by) in
      let start : next ≡ 0 + count_registers formats (take i instrs) = omega (arith, at) in
      ap (λ m. marked m (cond (list_any (λ r. get_or m r true) (opened_by x)) (range_with_len next (end - next)) [])) e
      ∙ ap (λ b. marked (marked blank before) (cond b (range_with_len next (end - next)) [])) told
      ∙ ap (λ k. marked (marked blank before) (cond (list_any (is_among before) (opened_by x)) (range_with_len next k) [])) width
      ∙ sym (marked_both blank before (parts_of formats before next x))
      ∙ ap (λ k. marked blank (before ++ parts_of formats before k x)) start
      ∙ ap (marked blank) (sym (parts_last formats some 0 (take i instrs) x) ∙ ap (with_parts formats some 0) (sym (take_got instrs i x here)))

-- ---- what instructions open was written

split_all : (n : ℕ) (xs ys : List ℕ) → AllByRecursion (λ r. r < n) (xs ++ ys) → AllByRecursion (λ r. r < n) xs × AllByRecursion (λ r. r < n) ys
split_all n [] ys h = (tt, h)
split_all n (x ∷ xs) ys h = let rest = split_all n xs ys h.1 in ((h.0, rest.0), rest.1)

pub opened_at : (n : ℕ) (instrs : List Instr) (i : ℕ) (x : Instr) → slice_get instrs i ≡ Some x → AllByRecursion (λ r. r < n) (opened instrs) → AllByRecursion (λ r. r < n) (opened_by x)
opened_at n [] i x e h = cc
opened_at n (y ∷ instrs) zero x e h = let s : y ≡ x = cc in let both = split_all n (opened_by y) (opened instrs) h in subst (λ z. AllByRecursion (λ r. r < n) (opened_by z)) s both.0
opened_at n (y ∷ instrs) (suc i) x e h = let both = split_all n (opened_by y) (opened instrs) h in opened_at n instrs i x e both.1

opened_below : (m n : ℕ) (x : Instr) → m ≤ n → All (λ r. r < m) (operands x) → AllByRecursion (λ r. r < n) (opened_by x)
opened_below m n (Take text) l h = tt
opened_below m n Fresh l h = tt
opened_below m n Recv l h = tt
opened_below m n (Hash r) l h = tt
opened_below m n (Mac k b) l h = tt
opened_below m n (Seal k b) l h = tt
opened_below m n (Unseal k c) l h = let below : c < m = h 1 0 (omega arith) in (omega (arith, l, below), tt)
opened_below m n (Wrap k d b) l h = tt
opened_below m n (Unwrap k d c) l h = let below : c < m = h 2 0 (omega arith) in (omega (arith, l, below), tt)
opened_below m n (Build f rs) l h = tt
opened_below m n (Parse f r) l h = let below : r < m = h 0 0 (omega arith) in (omega (arith, l, below), tt)
opened_below m n (Equal a b) l h = tt
opened_below m n (Send r) l h = tt

opened_after : (formats : List FormatValue) (before instrs : List Instr) (n : ℕ) → EachAfter (IsInstrAfter formats) before instrs → count_registers formats before + count_registers formats instrs ≤ n → AllByRecursion (λ r. r < n) (opened instrs)
opened_after formats before [] n each h = tt
opened_after formats before (x ∷ instrs) n each h =
    let more = sum_by-append (count_written formats) before (x ∷ []) in
    let one = sum_by-cons (count_written formats) x [] in
    let first = sum_by-cons (count_written formats) x instrs in
    each_in_both (λ r. r < n) (opened_by x) (opened instrs) (opened_below (count_registers formats before) n x (omega (arith, h)) each.0.written)
    (opened_after formats (before ++ x ∷ []) instrs n each.1 (omega (arith, h, more, one, first)))

pub opened_written : (formats : List FormatValue) (instrs : List Instr) → EachAfter (IsInstrAfter formats) [] instrs → AllByRecursion (λ r. r < count_registers formats instrs) (opened instrs)
opened_written formats instrs each = opened_after formats [] instrs (count_registers formats instrs) each (omega arith)

-- ---- what is asked, and what is taken unchecked

module _ (formats : List FormatValue) (instrs : List Instr) (n : ℕ) where
  abbrev blank : List Bool
  blank = replicate n false

  pub asked_marked : (came twice marks : List Bool) → came ≡ marked blank (brought formats instrs) → twice ≡ marked blank (repeated (opened instrs)) → marks ≡ marked (marked blank (flat_map keys_of instrs)) (flat_map compared instrs)
      → marked marks (filter (λ r. not (get_or came r true && not (get_or twice r true))) (opened instrs)) ≡ marked blank (asked formats instrs)
  asked_marked came twice marks e1 e2 e3 =
      let keys = flat_map keys_of instrs in
      let equals = flat_map compared instrs in
      let others = filter (is_no_envelope formats instrs) (opened instrs) in
      let long : length marks ≡ n = ap length e3 ∙ length-marked (marked blank keys) equals ∙ length-marked blank keys ∙ length-replicate n false in
      let same : (r : ℕ) → r < length marks → not (get_or came r true && not (get_or twice r true)) ≡ is_no_envelope formats instrs r = λ r h.
      let below : r < n = omega (arith, h, long) in
      ap (λ b. not (b && not (get_or twice r true))) (ap (λ m. get_or m r true) e1 ∙ mark_tells n r (brought formats instrs) below)
      ∙ ap (λ b. not (is_among (brought formats instrs) r && not b)) (ap (λ m. get_or m r true) e2 ∙ mark_tells n r (repeated (opened instrs)) below) in
      filter_same (λ r. not (get_or came r true && not (get_or twice r true))) (is_no_envelope formats instrs) marks (opened instrs) same
      ∙ ap (λ m. marked m others) e3 ∙ sym (marked_both (marked blank keys) equals others) ∙ sym (marked_both blank keys (equals ++ others))

  pub unchecked_told : n ≡ count_registers formats instrs → (came ends whole : List Bool) → came ≡ marked blank (brought formats instrs) → ends ≡ marked blank (opened instrs) → whole ≡ marked blank (seen formats instrs)
      → filter (λ r. get_or came r true && (not (get_or ends r true) && not (get_or whole r true))) (range_with_len 0 n) ≡ unchecked formats instrs
  unchecked_told many came ends whole e1 e2 e3 =
      range_same (λ r. get_or came r true && (not (get_or ends r true) && not (get_or whole r true))) (is_unchecked formats instrs) 0 n (λ r h.
      let below : r < n = omega (arith, h) in
      ap (λ b. b && (not (get_or ends r true) && not (get_or whole r true))) (ap (λ m. get_or m r true) e1 ∙ mark_tells n r (brought formats instrs) below)
      ∙ ap (λ b. is_among (brought formats instrs) r && (not b && not (get_or whole r true))) (ap (λ m. get_or m r true) e2 ∙ mark_tells n r (opened instrs) below)
      ∙ ap (λ b. is_among (brought formats instrs) r && (not (is_among (opened instrs) r) && not b)) (ap (λ m. get_or m r true) e3 ∙ mark_tells n r (seen formats instrs) below))
      ∙ ap (λ k. filter (is_unchecked formats instrs) (range_with_len 0 k)) many
