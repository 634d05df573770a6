-- From instructions to acts: behind its takes, each verified code does what the law of what is taken unchecked asks.
use Rattle.std.proofs.Common.{◌≡◌, ℕ, zero, suc, ◌+◌, ◌-◌, ◌≤◌, ◌<◌, List, [], ◌∷◌, ◌++◌, map, Bool, true, false, refl, sym, ap, ◌∙◌, subst, arith, append_assoc, inl, inr}
use Rattle.std.specs.Prelude.{◌||◌, ◌&&◌, ◌⊎◌, All, filter, nat_eq, not, if◌then◌else◌}
use Rattle.std.specs.List.{AllByRecursion, flat_map, list_any, range_with_len}
use Rattle.std.proofs.lemmas.Bool.{and_left, and_parts, and_right, cases_eq, eq-eqb, eqb-true, false_from_ne_true, false≢true, ne_eqb, not-true, not_from_false, not_from_true, or_from, or_left, or_parts, or_right}
use Rattle.std.proofs.lemmas.List.Elements.{recursion_from_All}
use Rattle.std.proofs.lemmas.List.{append-nil}
use Rattle.std.proofs.lemmas.List.Folds.{list_any-append}
use Rattle.anb_lemmas.proofs.Bools.{or_without}
use Rattle.anb_term.specs.declared.term.Op.{Op}
use Rattle.anb_format.specs.Formats.{FormatValue, field_count, pieces_at}
use Rattle.anb_plays.specs.Codes.{Act, takes, works}
use Rattle.anb_plays.specs.Exec.{HasTakes, IsVerified, NoTakes}
use Rattle.anb_code.specs.declared.instr.Instr.{Instr}
use Rattle.anb_code.specs.declared.instr.Instr.TheVariants.{Take, Fresh, Recv, Hash, Mac, Seal, Unseal, Wrap, Unwrap, Build, Parse, Equal, Send}
use Rattle.anb_code.specs.Meaning.{act_of}
use Rattle.anb_code.specs.Registers.{count_written}
use Rattle.anb_code.specs.Verified.{count_registers}
use Rattle.anb_report.specs.Looking.{asked, brings, brought, built_of, compared, is_among, is_envelope, is_no_envelope, is_unchecked, keys_of, opened, opened_by, parts_of, repeated, seen, unchecked, with_operands, with_parts, writes_at, written_by}
use Rattle.anb_report.proofs.Walking.{opens, ComparesWell, MakesWell, UndoesWell, Walks}
use Rattle.anb_report.proofs.Tables.{among_front, among_back, among_first}

-- ---- membership

among_both : (xs ys : List ℕ) (r : ℕ) → is_among (xs ++ ys) r ≡ (is_among xs r || is_among ys r)
among_both xs ys r = list_any-append (λ k. nat_eq k r) xs ys

-- where one of the two lists hasn't it, the other decides
front_alone : (xs ys : List ℕ) (r : ℕ) → is_among ys r ≡ false → is_among (xs ++ ys) r ≡ is_among xs r
front_alone xs ys r e = among_both xs ys r ∙ or_without (is_among xs r) (is_among ys r) e

back_alone : (xs ys : List ℕ) (r : ℕ) → is_among xs r ≡ false → is_among (xs ++ ys) r ≡ is_among ys r
back_alone xs ys r e = among_both xs ys r ∙ ap (λ b. b || is_among ys r) e

not_if : (b : Bool) (xs : List ℕ) (r : ℕ) → is_among xs r ≡ false → is_among (if b then xs else []) r ≡ false
not_if true xs r e = e
not_if false xs r e = refl

not_taken : (b : Bool) (xs : List ℕ) (r : ℕ) → b ≡ false → is_among (if b then xs else []) r ≡ false
not_taken b xs r e = rw e refl

taken : (b : Bool) (xs : List ℕ) (r : ℕ) → b ≡ true → is_among xs r ≡ true → is_among (if b then xs else []) r ≡ true
taken b xs r e h = rw e h

below_here : (k n r : ℕ) (rest : List ℕ) (b : Bool) → nat_eq k r ≡ b → k < n → (is_among rest r ≡ true → r < n) → is_among (k ∷ rest) r ≡ true → r < n
below_here k n r rest true s h later e = let same : k ≡ r = eqb-true k r s in omega (arith, h)
below_here k n r rest false s h later e = later (sym (ap (λ b. b || is_among rest r) s) ∙ e)

all_below : (ns : List ℕ) (n : ℕ) → AllByRecursion (λ k. k < n) ns → (r : ℕ) → is_among ns r ≡ true → r < n
all_below [] n h r e = absurd (false≢true e)
all_below (k ∷ ns) n h r e = below_here k n r ns (nat_eq k r) refl h.0 (all_below ns n h.1 r) e

-- some registers, and others where r is one of them: if r stands in the result, so do the others
operands_too : (later ns : List ℕ) (r k : ℕ) (b : Bool) → is_among later r ≡ b → is_among (later ++ (if b then ns else [])) r ≡ true → is_among ns k ≡ true → is_among (later ++ (if b then ns else [])) k ≡ true
operands_too later ns r k true e h i = among_back later ns k i
operands_too later ns r k false e h i = absurd (false≢true (sym e ∙ sym (front_alone later [] r refl) ∙ h))

-- ---- ranges

range_below : (next count r : ℕ) → r < next → is_among (range_with_len next count) r ≡ false
range_below next zero r h = refl
range_below next (suc count) r h =
    or_from (nat_eq next r) (is_among (range_with_len (next + 1) count) r) (ne_eqb next r (λ e. omega arith)) (range_below (next + 1) count r (omega arith))

range_above : (next count r : ℕ) → next + count ≤ r → is_among (range_with_len next count) r ≡ false
range_above next zero r h = refl
range_above next (suc count) r h =
    or_from (nat_eq next r) (is_among (range_with_len (next + 1) count) r) (ne_eqb next r (λ e. omega arith)) (range_above (next + 1) count r (omega arith))

within_here : (next r : ℕ) (rest : List ℕ) → (next + 1 ≤ r → is_among rest r ≡ true) → next ≤ r → (next ≡ r) ⊎ (next ≡ r → ⊥) → (nat_eq next r || is_among rest r) ≡ true
within_here next r rest later low (inl e) = or_left (nat_eq next r) (is_among rest r) (eq-eqb next r e)
within_here next r rest later low (inr ne) = or_right (nat_eq next r) (is_among rest r) (later (omega (arith, ne)))

range_within : (next count r : ℕ) → next ≤ r → r < next + count → is_among (range_with_len next count) r ≡ true
range_within next zero r low high = absurd (omega arith)
range_within next (suc count) r low high =
    within_here next r (range_with_len (next + 1) count) (λ more. range_within (next + 1) count r more (omega arith)) low (cases_eq next r)

-- ---- filters, and what stands more than once

kept_out : (c : Bool) (x r : ℕ) (rest : List ℕ) (test : ℕ → Bool) → test x ≡ c → test r ≡ false → is_among rest r ≡ false → is_among (if c then x ∷ rest else rest) r ≡ false
kept_out false x r rest test s e ih = ih
kept_out true x r rest test s e ih = or_from (nat_eq x r) (is_among rest r) (ne_eqb x r (λ same. let yes : test r ≡ true = sym (ap test same) ∙ s in cc)) ih

filtered_out : (test : ℕ → Bool) (all : List ℕ) (r : ℕ) → test r ≡ false → is_among (filter test all) r ≡ false
filtered_out test [] r e = refl
filtered_out test (x ∷ all) r e = kept_out (test x) x r (filter test all) test refl e (filtered_out test all r e)

kept_in : (b c : Bool) (x r : ℕ) (rest : List ℕ) (test : ℕ → Bool) → nat_eq x r ≡ b → test x ≡ c → test r ≡ true → (b ≡ false → is_among rest r ≡ true) → is_among (if c then x ∷ rest else rest) r ≡ true
kept_in b true x r rest test s t e later = here b s later
  where
    here : (b : Bool) → nat_eq x r ≡ b → (b ≡ false → is_among rest r ≡ true) → (nat_eq x r || is_among rest r) ≡ true
    here true s later = or_left (nat_eq x r) (is_among rest r) s
    here false s later = or_right (nat_eq x r) (is_among rest r) (later refl)
kept_in true false x r rest test s t e later = let no : test r ≡ false = sym (ap test (eqb-true x r s)) ∙ t in absurd (false≢true (sym no ∙ e))
kept_in false false x r rest test s t e later = later refl

filtered_in : (test : ℕ → Bool) (all : List ℕ) (r : ℕ) → is_among all r ≡ true → test r ≡ true → is_among (filter test all) r ≡ true
filtered_in test [] r h e = absurd (false≢true h)
filtered_in test (x ∷ all) r h e =
    kept_in (nat_eq x r) (test x) x r (filter test all) test refl refl e (λ s. filtered_in test all r (sym (ap (λ b. b || is_among all r) s) ∙ h) e)

-- what stands in a list and isn't repeated there doesn't stand before
none_before : (before after : List ℕ) (r : ℕ) → is_among (repeated (before ++ r ∷ after)) r ≡ false → is_among before r ≡ false
none_before [] after r e = refl
none_before (x ∷ before) after r e =
    let all = before ++ r ∷ after in
    let parts = or_parts (is_among (repeated all) r) (is_among (if is_among all x then x ∷ [] else []) r) (sym (among_both (repeated all) (if is_among all x then x ∷ [] else []) r) ∙ e) in
    let again : x ≡ r → ⊥ = λ same.
    false≢true (sym parts.1 ∙ taken (is_among all x) (x ∷ []) r (among_back before (r ∷ after) x (or_left (nat_eq r x) (is_among after x) (eq-eqb r x (sym same)))) (or_left (nat_eq x r) false (eq-eqb x r same))) in
    or_from (nat_eq x r) (is_among before r) (ne_eqb x r again) (none_before before after r parts.0)

-- ---- what is looked at and what is brought, from a place on

module _ (formats : List FormatValue) where
  parts_below : (some : List ℕ) (next : ℕ) (x : Instr) (r : ℕ) → r < next → is_among (parts_of formats some next x) r ≡ false
  parts_below some next x r h = not_if (list_any (is_among some) (opened_by x)) (writes_at formats next x) r (range_below next (count_written formats x) r h)

  parts_above : (some : List ℕ) (next : ℕ) (x : Instr) (r : ℕ) → next + count_written formats x ≤ r → is_among (parts_of formats some next x) r ≡ false
  parts_above some next x r h = not_if (list_any (is_among some) (opened_by x)) (writes_at formats next x) r (range_above next (count_written formats x) r h)

  -- what is taken apart behind a place has its parts there, so nothing before is added
  parts_stay : (xs : List Instr) (some : List ℕ) (next r : ℕ) → r < next → is_among (with_parts formats some next xs) r ≡ is_among some r
  parts_stay [] some next r h = refl
  parts_stay (x ∷ xs) some next r h =
      parts_stay xs (some ++ parts_of formats some next x) (next + count_written formats x) r (omega arith) ∙ front_alone some (parts_of formats some next x) r (parts_below some next x r h)

  parts_more : (xs : List Instr) (some : List ℕ) (next r : ℕ) → is_among some r ≡ true → is_among (with_parts formats some next xs) r ≡ true
  parts_more [] some next r h = h
  parts_more (x ∷ xs) some next r h =
      parts_more xs (some ++ parts_of formats some next x) (next + count_written formats x) r (among_front some (parts_of formats some next x) r h)

  operands_more : (xs : List Instr) (some : List ℕ) (next r : ℕ) → is_among some r ≡ true → is_among (with_operands formats some next xs) r ≡ true
  operands_more [] some next r h = h
  operands_more (x ∷ xs) some next r h = among_front (with_operands formats some (next + count_written formats x) xs) _ r (operands_more xs some (next + count_written formats x) r h)

  written_below : (test : Instr → Bool) (xs : List Instr) (next r : ℕ) → r < next → is_among (written_by formats test next xs) r ≡ false
  written_below test [] next r h = refl
  written_below test (x ∷ xs) next r h =
      back_alone (if test x then writes_at formats next x else []) (written_by formats test (next + count_written formats x) xs) r (not_if (test x) (writes_at formats next x) r (range_below next (count_written formats x) r h))
      ∙ written_below test xs (next + count_written formats x) r (omega arith)

module _ (formats : List FormatValue) (instrs : List Instr) where
  abbrev whole : ℕ → Bool
  whole r = is_among (seen formats instrs) r

  abbrev came : ℕ → Bool
  came r = is_among (brought formats instrs) r

  abbrev fixed : ℕ → Bool
  fixed r = not (is_among (unchecked formats instrs) r)

  -- These instructions are the last ones, and those before them wrote so many registers and opened these. Some are
  -- found to be looked at so far, and the rest of the instructions adds the others. From here on these are the same as
  -- what is asked, with what the rest builds it of, and what is brought is what the rest brings.
  record Place (xs : List Instr) (next : ℕ) (before : List ℕ) : Type 0 where
    some : List ℕ
    all : with_parts formats some next xs ≡ seen formats instrs
    later : (r : ℕ) → next ≤ r → is_among some r ≡ is_among (with_operands formats (asked formats instrs) next xs) r
    operands : (r : ℕ) → is_among (with_operands formats (asked formats instrs) next xs) r ≡ true → is_among some r ≡ true
    arrivals : (r : ℕ) → next ≤ r → came r ≡ is_among (written_by formats brings next xs) r
    opens : before ++ opened xs ≡ opened instrs
    keys : (r : ℕ) → is_among (flat_map keys_of xs) r ≡ true → is_among (flat_map keys_of instrs) r ≡ true
    compares : (r : ℕ) → is_among (flat_map compared xs) r ≡ true → is_among (flat_map compared instrs) r ≡ true

  beginning : Place instrs 0 []
  beginning = record {
    some = with_operands formats (asked formats instrs) 0 instrs;
    all = refl;
    later = λ r h. refl;
    operands = λ r h. h;
    arrivals = λ r h. refl;
    opens = refl;
    keys = λ r h. h;
    compares = λ r h. h;
  }

  -- one instruction on, where it builds of what was written before
  one_on : (x : Instr) (xs : List Instr) (next : ℕ) (before : List ℕ) → ((r : ℕ) → is_among (built_of x) r ≡ true → r < next) → Place (x ∷ xs) next before
      → Place xs (next + count_written formats x) (before ++ opened_by x)
  one_on x xs next before below p =
      let count = count_written formats x in
      let rest = with_operands formats (asked formats instrs) (next + count) xs in
      let parts = parts_of formats p.some next x in
      let built : List ℕ = if is_among rest next then built_of x else [] in
      let written : List ℕ = if brings x then writes_at formats next x else [] in
      let none_built : (r : ℕ) → next ≤ r → is_among (built_of x) r ≡ false = λ r h. false_from_ne_true (is_among (built_of x) r) (λ e. let less : r < next = below r e in omega arith) in
      record {
        some = p.some ++ parts;
        all = p.all;
        later = λ r h. front_alone p.some parts r (parts_above formats p.some next x r h) ∙ p.later r (omega (arith, h))
            ∙ front_alone rest built r (not_if (is_among rest next) (built_of x) r (none_built r (omega (arith, h))));
        operands = λ r h. among_front p.some parts r (p.operands r (among_front rest built r h));
        arrivals = λ r h. p.arrivals r (omega (arith, h)) ∙ back_alone written (written_by formats brings (next + count) xs) r (not_if (brings x) (writes_at formats next x) r (range_above next count r h));
        opens = append_assoc before (opened_by x) (opened xs) ∙ p.opens;
        keys = λ r h. p.keys r (among_back (keys_of x) (flat_map keys_of xs) r h);
        compares = λ r h. p.compares r (among_back (compared x) (flat_map compared xs) r h);
      }

  moved : (xs : List Instr) (next other : ℕ) (before : List ℕ) → next ≡ other → Place xs next before → Place xs other before
  moved xs next other before e p = subst (λ n. Place xs n before) e p

  -- one that opens nothing
  after_other : (x : Instr) (xs : List Instr) (next : ℕ) (before : List ℕ) → built_of x ≡ [] → opened_by x ≡ [] → Place (x ∷ xs) next before → Place xs (next + count_written formats x) before
  after_other x xs next before built opened p =
      let none : (r : ℕ) → is_among (built_of x) r ≡ true → r < next = λ r e. absurd (false≢true (sym (ap (λ l. is_among l r) built) ∙ e)) in
      subst (λ l. Place xs (next + count_written formats x) l) (ap (λ l. before ++ l) opened ∙ append-nil before) (one_on x xs next before none p)

  -- ---- what is looked at

  asked_whole : (r : ℕ) → is_among (asked formats instrs) r ≡ true → whole r ≡ true
  asked_whole r h = parts_more formats instrs (with_operands formats (asked formats instrs) 0 instrs) 0 r (operands_more formats instrs (asked formats instrs) 0 r h)

  key_whole : (r : ℕ) → is_among (flat_map keys_of instrs) r ≡ true → whole r ≡ true
  key_whole r h = asked_whole r (among_front (flat_map keys_of instrs) _ r h)

  compared_whole : (r : ℕ) → is_among (flat_map compared instrs) r ≡ true → whole r ≡ true
  compared_whole r h = asked_whole r (among_back (flat_map keys_of instrs) _ r (among_front (flat_map compared instrs) _ r h))

  opened_whole : (r : ℕ) → is_among (opened instrs) r ≡ true → is_no_envelope formats instrs r ≡ true → whole r ≡ true
  opened_whole r h e = asked_whole r (among_back (flat_map keys_of instrs) _ r (among_back (flat_map compared instrs) _ r (filtered_in (is_no_envelope formats instrs) (opened instrs) r h e)))

  -- what is opened and isn't looked at is an envelope
  envelope : (r : ℕ) → is_among (opened instrs) r ≡ true → whole r ≡ false → is_envelope formats instrs r ≡ true
  envelope r h e = here (is_envelope formats instrs r) refl
    where
      here : (b : Bool) → is_envelope formats instrs r ≡ b → b ≡ true
      here true s = refl
      here false s = absurd (false≢true (sym e ∙ opened_whole r h (not_from_false (is_envelope formats instrs r) s)))

  -- ---- what is unchecked

  is_fixed : (r : ℕ) → is_unchecked formats instrs r ≡ false → is_among (unchecked formats instrs) r ≡ false
  is_fixed r e = filtered_out (is_unchecked formats instrs) (range_with_len 0 (count_registers formats instrs)) r e

  pub seen_is_fixed : (r : ℕ) → is_among (seen formats instrs) r ≡ true → is_among (unchecked formats instrs) r ≡ false
  seen_is_fixed r e = is_fixed r (and_right (came r) _ (and_right (not (is_among (opened instrs) r)) (not (whole r)) (not_from_true (whole r) e)))

  pub opened_is_fixed : (r : ℕ) → is_among (opened instrs) r ≡ true → is_among (unchecked formats instrs) r ≡ false
  opened_is_fixed r e = is_fixed r (and_right (came r) _ (and_left (not (is_among (opened instrs) r)) (not (whole r)) (not_from_true (is_among (opened instrs) r) e)))

  pub not_brought_is_fixed : (r : ℕ) → is_among (brought formats instrs) r ≡ false → is_among (unchecked formats instrs) r ≡ false
  not_brought_is_fixed r e = is_fixed r (and_left (came r) _ e)

  -- what is unchecked was brought, isn't opened, and isn't looked at
  pub record IsFree (r : ℕ) : Type 0 where
    pub came : is_among (brought formats instrs) r ≡ true
    pub closed : is_among (opened instrs) r ≡ false
    pub unseen : is_among (seen formats instrs) r ≡ false

  pub is_free : (r : ℕ) → is_among (unchecked formats instrs) r ≡ true → IsFree r
  is_free r h = here (is_unchecked formats instrs r) refl
    where
      here : (b : Bool) → is_unchecked formats instrs r ≡ b → IsFree r
      here true s =
          let both = and_parts (came r) (not (is_among (opened instrs) r) && not (whole r)) s in
          let none = and_parts (not (is_among (opened instrs) r)) (not (whole r)) both.1 in
          record { came = both.0; closed = not-true (is_among (opened instrs) r) none.0; unseen = not-true (whole r) none.1 }
      here false s = absurd (false≢true (sym (is_fixed r s) ∙ h))

  -- ---- one instruction

  -- what is found to be looked at so far is looked at
  place_whole : (xs : List Instr) (next : ℕ) (before : List ℕ) (p : Place xs next before) (r : ℕ) → is_among p.some r ≡ true → whole r ≡ true
  place_whole xs next before p r h = ap (λ l. is_among l r) (sym p.all) ∙ parts_more formats xs p.some next r h

  -- and of what was written before, nothing else is
  place_some : (xs : List Instr) (next : ℕ) (before : List ℕ) (p : Place xs next before) (r : ℕ) → r < next → whole r ≡ is_among p.some r
  place_some xs next before p r h = ap (λ l. is_among l r) (sym p.all) ∙ parts_stay formats xs p.some next r h

  place_opened : (x : Instr) (xs : List Instr) (next : ℕ) (before : List ℕ) → Place (x ∷ xs) next before → (r : ℕ) → is_among (opened_by x) r ≡ true → is_among (opened instrs) r ≡ true
  place_opened x xs next before p r h = ap (λ l. is_among l r) (sym p.opens) ∙ among_back before (opened_by x ++ opened xs) r (among_front (opened_by x) (opened xs) r h)

  not_brought : (x : Instr) (xs : List Instr) (next : ℕ) (before : List ℕ) → brings x ≡ false → 0 < count_written formats x → Place (x ∷ xs) next before → came next ≡ false
  not_brought x xs next before none some p =
      let written : List ℕ = if brings x then writes_at formats next x else [] in
      p.arrivals next (omega arith) ∙ back_alone written (written_by formats brings (next + count_written formats x) xs) next (not_taken (brings x) (writes_at formats next x) next none)
      ∙ written_below formats brings xs (next + count_written formats x) next (omega (arith, some))

  made_well : (x : Instr) (xs : List Instr) (next : ℕ) (before : List ℕ) → brings x ≡ false → opened_by x ≡ [] → 0 < count_written formats x → Place (x ∷ xs) next before
      → MakesWell whole came fixed (built_of x) next
  made_well x xs next before none closed some p =
      let rest = with_operands formats (asked formats instrs) (next + count_written formats x) xs in
      let parts = parts_of formats p.some next x in
      let none_apart : is_among parts next ≡ false = not_taken (list_any (is_among p.some) (opened_by x)) (writes_at formats next x) next (ap (list_any (is_among p.some)) closed) in
      let here : whole next ≡ is_among p.some next =
      ap (λ l. is_among l next) (sym p.all) ∙ parts_stay formats xs (p.some ++ parts) (next + count_written formats x) next (omega (arith, some)) ∙ front_alone p.some parts next none_apart in
      record {
        own = not_brought x xs next before none some p;
        operands = λ h k e. place_whole (x ∷ xs) next before p k (p.operands k
            (operands_too rest (built_of x) next k (is_among rest next) refl (sym (p.later next (omega arith)) ∙ sym here ∙ h) e));
      }

  undone_well : (x : Instr) (xs : List Instr) (n next : ℕ) (before : List ℕ) → opened_by x ≡ n ∷ [] → n < next → Place (x ∷ xs) next before
      → UndoesWell whole came fixed (keys_of x) n next (count_written formats x) before
  undone_well x xs n next before opens less p =
      let first : is_among (opened_by x) n ≡ true = ap (λ l. is_among l n) opens ∙ among_first n [] in
      let open_here : is_among (opened instrs) n ≡ true = place_opened x xs next before p n first in
      let parts = parts_of formats p.some next x in
      let apart : whole n ≡ true → list_any (is_among p.some) (opened_by x) ≡ true = λ h.
      ap (list_any (is_among p.some)) opens ∙ or_left (is_among p.some n) false (sym (place_some (x ∷ xs) next before p n less) ∙ h) in
      let split : before ++ n ∷ opened xs ≡ opened instrs = sym (ap (λ l. before ++ (l ++ opened xs)) opens) ∙ p.opens in
      record {
        keys = λ k e. key_whole k (p.keys k (among_front (keys_of x) (flat_map keys_of xs) k e));
        kept = not_from_false (is_among (unchecked formats instrs) n) (opened_is_fixed n open_here);
        parts = λ h r low high. ap (λ l. is_among l r) (sym p.all) ∙ parts_more formats xs (p.some ++ parts) (next + count_written formats x) r (among_back p.some parts r
            (taken (list_any (is_among p.some) (opened_by x)) (writes_at formats next x) r (apart h) (range_within next (count_written formats x) r low high)));
        came = λ h. (and_parts (came n) (not (is_among (repeated (opened instrs)) n)) (envelope n open_here h)).0;
        first = λ h. none_before before (opened xs) n (ap (λ l. is_among (repeated l) n) split
            ∙ not-true (is_among (repeated (opened instrs)) n) (and_parts (came n) (not (is_among (repeated (opened instrs)) n)) (envelope n open_here h)).1);
      }

  compared_well : (a b : ℕ) (xs : List Instr) (next : ℕ) (before : List ℕ) → Place (Equal a b ∷ xs) next before → ComparesWell whole came fixed a b
  compared_well a b xs next before p = record {
    one = compared_whole a (p.compares a (among_first a (b ∷ flat_map compared xs)));
    other = compared_whole b (p.compares b (or_right (nat_eq a b) (is_among (b ∷ flat_map compared xs) b) (among_first b (flat_map compared xs))));
  }

  -- a built register, and what follows
  made : (x : Instr) (xs : List Instr) (next : ℕ) (before : List ℕ) → brings x ≡ false → opened_by x ≡ [] → count_written formats x ≡ 1 → All (λ k. k < next) (built_of x) → Place (x ∷ xs) next before
      → MakesWell whole came fixed (built_of x) next × Place xs (next + 1) (before ++ [])
  made x xs next before none closed one below p = (
    made_well x xs next before none closed (omega (arith, one)) p,
    moved xs (next + count_written formats x) (next + 1) (before ++ []) (ap (λ n. next + n) one)
        (subst (λ l. Place xs (next + count_written formats x) (before ++ l)) closed (one_on x xs next before (all_below (built_of x) next (recursion_from_All (λ k. k < next) (built_of x) below)) p)),
  )

  -- what is opened, and what follows
  undone : (x : Instr) (xs : List Instr) (n next : ℕ) (before : List ℕ) → built_of x ≡ [] → opened_by x ≡ n ∷ [] → n < next → Place (x ∷ xs) next before
      → UndoesWell whole came fixed (keys_of x) n next (count_written formats x) before × Place xs (next + count_written formats x) (before ++ n ∷ [])
  undone x xs n next before built opens less p =
      let none : (r : ℕ) → is_among (built_of x) r ≡ true → r < next = λ r e. absurd (false≢true (sym (ap (λ l. is_among l r) built) ∙ e)) in (
        undone_well x xs n next before opens less p,
        subst (λ l. Place xs (next + count_written formats x) (before ++ l)) opens (one_on x xs next before none p),
      )

  -- ---- all instructions

  module _ (has : Op → Bool) where
    abbrev acts : List Instr → List Act
    acts xs = map (act_of formats) xs

    walks_on : (xs : List Instr) (next : ℕ) (before : List ℕ) → NoTakes has (acts xs) → IsVerified has (acts xs) next → Place xs next before
        → Walks whole came fixed (acts xs) next before
    walks_on [] next before none v p = tt
    walks_on (Take text ∷ xs) next before none v p = absurd none
    walks_on (Fresh ∷ xs) next before none v p =
        (not_brought Fresh xs next before refl (omega arith) p, walks_on xs (next + 1) before none v (after_other Fresh xs next before refl refl p))
    walks_on (Recv ∷ xs) next before none v p = walks_on xs (next + 1) before none v (after_other Recv xs next before refl refl p)
    walks_on (Send r ∷ xs) next before none v p = walks_on xs next before none v.1 (moved xs (next + 0) next before (omega arith) (after_other (Send r) xs next before refl refl p))
    walks_on (Hash r ∷ xs) next before none v p =
        let m = made (Hash r) xs next before refl refl refl v.0.2 p in
        (m.0, walks_on xs (next + 1) (before ++ []) none v.1 m.1)
    walks_on (Mac k b ∷ xs) next before none v p =
        let m = made (Mac k b) xs next before refl refl refl v.0.2 p in
        (m.0, walks_on xs (next + 1) (before ++ []) none v.1 m.1)
    walks_on (Seal k b ∷ xs) next before none v p =
        let m = made (Seal k b) xs next before refl refl refl v.0.2 p in
        (m.0, walks_on xs (next + 1) (before ++ []) none v.1 m.1)
    walks_on (Wrap k d b ∷ xs) next before none v p =
        let m = made (Wrap k d b) xs next before refl refl refl v.0.2 p in
        (m.0, walks_on xs (next + 1) (before ++ []) none v.1 m.1)
    walks_on (Build f rs ∷ xs) next before none v p =
        let m = made (Build f rs) xs next before refl refl refl v.0.2 p in
        (m.0, walks_on xs (next + 1) (before ++ []) none v.1 m.1)
    walks_on (Unseal k c ∷ xs) next before none v p =
        let u = undone (Unseal k c) xs c next before refl refl v.0.3 p in
        (u.0, walks_on xs (next + 1) (before ++ c ∷ []) none v.1 u.1)
    walks_on (Unwrap k d c ∷ xs) next before none v p =
        let u = undone (Unwrap k d c) xs c next before refl refl v.0.3 p in
        (u.0, walks_on xs (next + 1) (before ++ c ∷ []) none v.1 u.1)
    walks_on (Parse f r ∷ xs) next before none v p =
        let u = undone (Parse f r) xs r next before refl refl v.0.3 p in
        let fields = field_count (pieces_at formats f) in
        let all : fields ≡ fields - 0 = omega arith in (
          subst (λ n. UndoesWell whole came fixed [] r next n before) all u.0,
          walks_on xs (next + (fields - 0)) (before ++ r ∷ []) none v.1 (moved xs (next + fields) (next + (fields - 0)) (before ++ r ∷ []) (ap (λ n. next + n) all) u.1),
        )
    walks_on (Equal a b ∷ xs) next before none v p = (
      compared_well a b xs next before p,
      walks_on xs (next + 0) (before ++ []) none v.1
          (subst (λ l. Place xs (next + 0) l) (sym (append-nil before)) (after_other (Equal a b) xs next before refl refl p)),
    )

-- ---- behind the takes

-- the acts behind the takes walk well, where the takes wrote so many registers
module _ (whole brought fixed : ℕ → Bool) where
  abbrev pub WalksBehind : List Act → ℕ → Type 0
  WalksBehind (takes ∷ acts) n = WalksBehind acts n
  WalksBehind acts n = Walks whole brought fixed acts n []

module _ (formats : List FormatValue) (instrs : List Instr) (has : Op → Bool) where
  starts : (xs : List Instr) (k n : ℕ) → k ≡ n → IsVerified has (acts formats instrs has xs) n → NoTakes has (acts formats instrs has xs) → Place formats instrs xs k []
      → Walks (whole formats instrs) (came formats instrs) (fixed formats instrs) (acts formats instrs has xs) n []
  starts xs k n e v none p = walks_on formats instrs has xs n [] none v (moved formats instrs xs k n [] e p)

  behind : (xs : List Instr) (k n : ℕ) → HasTakes has (acts formats instrs has xs) k n → Place formats instrs xs k []
      → WalksBehind (whole formats instrs) (came formats instrs) (fixed formats instrs) (acts formats instrs has xs) n
  behind (Take text ∷ xs) k n h p = behind xs (suc k) n h (moved formats instrs xs (k + 1) (suc k) [] (omega arith) (after_other formats instrs (Take text) xs k [] refl refl p))
  behind xs k n h p = starts xs k n h.0 h.1 h.2 p

  -- the registers of takes aren't brought
  untaken : (xs : List Instr) (k n : ℕ) → HasTakes has (acts formats instrs has xs) k n → (r : ℕ) → r < n → is_among (written_by formats brings k xs) r ≡ false
  untaken (Take text ∷ xs) k n h r less =
      let more : k + 1 ≡ suc k = omega arith in
      ap (λ j. is_among (written_by formats brings j xs) r) more ∙ untaken xs (suc k) n h r less
  untaken xs k n h r less = written_below formats brings xs k r (omega (arith, h.0))

pub takes_not_brought : (formats : List FormatValue) (instrs : List Instr) (has : Op → Bool) (n : ℕ) → HasTakes has (map (act_of formats) instrs) 0 n
    → (r : ℕ) → r < n → is_among (brought formats instrs) r ≡ false
takes_not_brought formats instrs has n h r less = untaken formats instrs has instrs 0 n h r less

pub walks : (formats : List FormatValue) (instrs : List Instr) (has : Op → Bool) (n : ℕ) → HasTakes has (map (act_of formats) instrs) 0 n
    → WalksBehind (λ r. is_among (seen formats instrs) r) (λ r. is_among (brought formats instrs) r) (λ r. not (is_among (unchecked formats instrs) r)) (map (act_of formats) instrs) n
walks formats instrs has n h = behind formats instrs has instrs 0 n h (beginning formats instrs)

-- ---- what acts open

abbrev pub opened_acts : List Act → List ℕ
opened_acts [] = []
opened_acts (works w ∷ acts) = opens w ++ opened_acts acts
opened_acts (act ∷ acts) = opened_acts acts

pub opened_same : (formats : List FormatValue) (instrs : List Instr) → opened_acts (map (act_of formats) instrs) ≡ opened instrs
opened_same formats [] = refl
opened_same formats (Unseal k c ∷ xs) = ap (λ l. c ∷ l) (opened_same formats xs)
opened_same formats (Unwrap k d c ∷ xs) = ap (λ l. c ∷ l) (opened_same formats xs)
opened_same formats (Parse f r ∷ xs) = ap (λ l. r ∷ l) (opened_same formats xs)
opened_same formats (x ∷ xs) = opened_same formats xs

pub not_opened : (formats : List FormatValue) (instrs : List Instr) (r : ℕ) → is_among (opened instrs) r ≡ false → is_among (opened_acts (map (act_of formats) instrs)) r ≡ false
not_opened formats instrs r e = ap (λ l. is_among l r) (opened_same formats instrs) ∙ e
