-- What is written can be verified.
use Rattle.std.proofs.Common.{◌≡◌, ◌≢◌, ℕ, zero, suc, ◌+◌, ◌-◌, ◌<◌, ◌≤◌, List, [], ◌∷◌, ◌++◌, length, map, take, replicate, get_or, true, Some, None, refl, sym, ap, ◌∙◌, subst, arith, length-append, append_assoc, lit≤, inl, inr}
use Rattle.std.specs.Prelude.{slice_get, slice_index}
use Rattle.std.specs.List.{range_with_len, AllByRecursion, AllPairs}
use Rattle.std.proofs.lemmas.Bool.{and_parts, leb-true}
use Rattle.std.proofs.lemmas.List.{append-nil, length-replicate}
use Rattle.std.proofs.Math.Seq.{get_or-append_seam}
use Rattle.std.proofs.lemmas.List.Elements.{All-from_recursion}
use Rattle.std.proofs.lemmas.List.Sums.{sum_by-cons}
use Rattle.anb_lemmas.proofs.Each.{each_in_both}
use Rattle.anb_lemmas.proofs.Lists.{get_either, got_within}
use Rattle.anb_base.specs.declared.TheConstants.{ARRIVAL, WIDE}
use Rattle.anb_format.specs.Formats.{FormatValue}
use Rattle.anb_term.specs.declared.term.Op.{Op}
use Rattle.anb_term.specs.Operator.{arity, keys}
use Rattle.anb_term.specs.Tree.{Tree, leaf, node, trees_of, tree_size, trees_size}
use Rattle.anb_term.proofs.Lists.{slice_get-append, slice_get-last, map-append}
use Rattle.anb_algebra.specs.ByteMeaning.{has_operator}
use Rattle.anb_close.specs.MadeView.{made_tree}
use Rattle.anb_close.specs.declared.entry.Opening.{Opening}
use Rattle.anb_close.specs.declared.made.Made.{Made}
use Rattle.anb_basis.specs.declared.check.Check.{Check}
use Rattle.anb_basis.specs.declared.check.Check.TheVariants.{Open, Equal}
use Rattle.anb_code.specs.declared.instr.Instr.{Instr}
use Rattle.anb_code.specs.declared.instr.Instr.TheVariants as instr
use Rattle.anb_code.specs.declared.instr.Instr.TheVariants.{Take}
use Rattle.anb_code.specs.Registers.{operands, count_written, width_of, written_widths, widths_after, register_widths}
use Rattle.anb_code.specs.Taking.{taken_text}
use Rattle.anb_code.specs.Verified.{EachAfter, HasItsFormat, IsOtherTake, IsTakeAfter, IsInstrAfter, count_registers}
use Rattle.anb_code.proofs.Steps.{register_widths-push}
use Rattle.anb_code.proofs.Taking.{got}
use Rattle.anb_protocol.specs.Widths.{op_width, width, widths, fits_width, fit_width}
use Rattle.anb_compile.specs.declared.built.Built.{Built}
use Rattle.anb_compile.specs.declared.writer.Writer.{Writer}
use Rattle.anb_compile.specs.Sharing.{key, register_at, Keeps}
use Rattle.anb_compile.specs.Once.{IsMade, Builds}
use Rattle.anb_compile.specs.Writing.{IsOver, AreChecksOf, count_all_opened}
use Rattle.anb_compile.specs.Verifying.{widths_in, AreBuiltWide, IsVerifiable, IsUndoing, GrowsBy, IsNarrow, AreNarrow, IsLonger, Lays, HoldWidths, LaysEach, IsNarrowCheck, LaysChecks}
use Rattle.anb_compile.proofs.Lists.{later_part, number_at}
use Rattle.anb_compile.proofs.Keys.{key_same}
use Rattle.anb_compile.proofs.Writing.{over_front}
use Rattle.anb_compile.proofs.Asking.{checks_front}

-- ---- registers with widths

pub hold_wider : (all since rs ws : List ℕ) → HoldWidths all rs ws → HoldWidths (all ++ since) rs ws
hold_wider all since [] [] h = tt
hold_wider all since [] (w ∷ ws) h = absurd h
hold_wider all since (r ∷ rs) [] h = absurd h
hold_wider all since (r ∷ rs) (w ∷ ws) h = (slice_get-append all since r w h.0, hold_wider all since rs ws h.1)

-- more registers came
built_wider : (formats : List FormatValue) (ws since : List ℕ) (b : Built) → AreBuiltWide formats ws b → AreBuiltWide formats (ws ++ since) b
built_wider formats ws since b are k r e =
    let a = are k r e in
    record { op = a.op; from = a.from; are = a.are; is = a.is; hold = hold_wider ws since a.from a.are a.hold; here = slice_get-append ws since r (op_width ARRIVAL formats a.op a.are) a.here }

-- one more was built
built_kept : (formats : List FormatValue) (ws : List ℕ) (b c : Built) (o : Op) (ns vs : List ℕ) (r : ℕ) → Keeps b c (key o ns) r → HoldWidths ws ns vs → slice_get ws r ≡ Some (op_width ARRIVAL formats o vs) → AreBuiltWide formats ws b
    → AreBuiltWide formats ws c
built_kept formats ws b c o ns vs r keeps hold here are k s e = elim (keeps.only k s e) [
  | inl a ↦
      let P : ℕ → Type 0 = λ n. slice_get ws n ≡ Some (op_width ARRIVAL formats o vs) in
      record { op = o; from = ns; are = vs; is = a.0; hold = hold; here = subst P (sym a.1) here }
  | inr a ↦ are k s a
]

-- ---- one more instruction

pub each_more : {A : Type 0} (P : List A → A → Type 0) (before xs : List A) (x : A) → EachAfter P before xs → P (before ++ xs) x → EachAfter P before (xs ++ x ∷ [])
each_more {A} P before [] x each p = let Q : List A → Type 0 = λ l. P l x in (subst Q (append-nil before) p, tt)
each_more {A} P before (y ∷ xs) x each p = let Q : List A → Type 0 = λ l. P l x in (each.0, each_more P (before ++ y ∷ []) xs x each.1 (subst Q (sym (append_assoc before (y ∷ []) xs)) p))

after_no_take : (before : List Instr) (x : Instr) → taken_text x ≡ None → IsTakeAfter before x
after_no_take before (Take text) e = cc
after_no_take before x e = tt

length-widths : (formats : List FormatValue) (ws : List ℕ) (is : List Instr) → length (widths_after ARRIVAL formats ws is) ≡ length ws + count_registers formats is
length-widths formats ws [] = omega arith
length-widths formats ws (x ∷ is) =
    let next = written_widths ARRIVAL formats ws x in
    omega (arith, length-widths formats (ws ++ next) is, length-append ws next, length-replicate (count_written formats x) (width_of ARRIVAL formats ws x), sum_by-cons (count_written formats) x is)

pub count_widths : (formats : List FormatValue) (w : Writer) → count_registers formats w.code.items ≡ length (widths_in formats w)
count_widths formats w = omega (arith, length-widths formats [] w.code.items)

all_same : (n w : ℕ) → w ≤ WIDE → AllByRecursion (λ x. x ≤ WIDE) (replicate n w)
all_same zero w h = tt
all_same (suc n) w h = (h, all_same n w h)

same_at : (n w j : ℕ) → j < n → slice_get (replicate n w) j ≡ Some w
same_at zero w j h = absurd (omega arith)
same_at (suc n) w zero h = refl
same_at (suc n) w (suc j) h = same_at n w j (omega arith)

module _ (formats : List FormatValue) (old new : Writer) (x : Instr) (code : new.code.items ≡ old.code.items ++ x ∷ []) where
  pub widths_put : widths_in formats new ≡ widths_in formats old ++ written_widths ARRIVAL formats (widths_in formats old) x
  widths_put = ap (register_widths ARRIVAL formats) code ∙ register_widths-push ARRIVAL formats old.code.items x

  pub verifiable_put : IsTakeAfter old.code.items x → HasItsFormat formats x → AllByRecursion (λ r. r < length (widths_in formats old)) (operands x) → width_of ARRIVAL formats (widths_in formats old) x ≤ WIDE
      → new.next ≡ old.next + count_written formats x → ((n k : ℕ) → slice_get new.places.items n ≡ Some k → slice_get (widths_in formats new) k ≡ Some ARRIVAL)
      → AreBuiltWide formats (widths_in formats new) new.built → IsVerifiable formats old → IsVerifiable formats new
  verifiable_put take format reads narrow next placed built v =
      let ws = widths_in formats old in
      let more = written_widths ARRIVAL formats ws x in
      let P : List Instr → Type 0 = λ l. EachAfter (IsInstrAfter formats) [] l in
      let Q : List ℕ → Type 0 = λ l. AllByRecursion (λ q. q ≤ WIDE) l in
      let R : ℕ → Type 0 = λ n. AllByRecursion (λ r. r < n) (operands x) in
      let here : IsInstrAfter formats old.code.items x =
      record { take = take; format = format; written = All-from_recursion (λ r. r < count_registers formats old.code.items) (operands x) (subst R (sym (count_widths formats old)) reads) } in
      record {
        instrs = subst P (sym code) (each_more (IsInstrAfter formats) [] old.code.items x v.instrs here);
        next = omega (arith, next, v.next, ap length widths_put, length-append ws more, length-replicate (count_written formats x) (width_of ARRIVAL formats ws x));
        narrow = subst Q (sym widths_put) (each_in_both (λ q. q ≤ WIDE) ws more v.narrow (all_same (count_written formats x) (width_of ARRIVAL formats ws x) narrow));
        placed = placed;
        built = built;
      }

  pub longer_put : IsVerifiable formats new → IsLonger formats old new
  longer_put v = record { verifiable = v; since = written_widths ARRIVAL formats (widths_in formats old) x; grown = widths_put }

  -- nothing was built
  pub still_built : new.built ≡ old.built → AreBuiltWide formats (widths_in formats old) old.built → AreBuiltWide formats (widths_in formats new) new.built
  still_built same are =
      let ws = widths_in formats old in
      let more = written_widths ARRIVAL formats ws x in
      let P : List ℕ → Type 0 = λ l. AreBuiltWide formats l new.built in
      let Q : Built → Type 0 = λ b. AreBuiltWide formats (ws ++ more) b in
      subst P (sym widths_put) (subst Q (sym same) (built_wider formats ws more old.built are))

  -- the registers of the entries keep their widths
  pub still_placed : (k : ℕ) → slice_get (widths_in formats old) k ≡ Some ARRIVAL → slice_get (widths_in formats new) k ≡ Some ARRIVAL
  still_placed k e =
      let P : List ℕ → Type 0 = λ l. slice_get l k ≡ Some ARRIVAL in
      subst P (sym widths_put) (slice_get-append (widths_in formats old) (written_widths ARRIVAL formats (widths_in formats old) x) k ARRIVAL e)

hold_more : (all rs ws : List ℕ) (r w : ℕ) → HoldWidths all rs ws → slice_get all r ≡ Some w → HoldWidths all (rs ++ r ∷ []) (ws ++ w ∷ [])
hold_more all [] [] r w h e = (e, tt)
hold_more all [] (v ∷ ws) r w h e = absurd h
hold_more all (q ∷ rs) [] r w h e = absurd h
hold_more all (q ∷ rs) (v ∷ ws) r w h e = (h.0, hold_more all rs ws r w h.1 e)

hold_read : (all rs ws : List ℕ) → HoldWidths all rs ws → map (slice_index all) rs ≡ ws
hold_read all [] [] h = refl
hold_read all [] (w ∷ ws) h = absurd h
hold_read all (r ∷ rs) [] h = absurd h
hold_read all (r ∷ rs) (w ∷ ws) h = cc ((got all r w h.0).1 0, hold_read all rs ws h.1)

hold_within : (all rs ws : List ℕ) → HoldWidths all rs ws → AllByRecursion (λ r. r < length all) rs
hold_within all [] [] h = tt
hold_within all [] (w ∷ ws) h = absurd h
hold_within all (r ∷ rs) [] h = absurd h
hold_within all (r ∷ rs) (w ∷ ws) h = (got_within all r w h.0, hold_within all rs ws h.1)

narrow_front : (formats : List FormatValue) (ms : List Tree) (m : Tree) → AreNarrow formats (ms ++ m ∷ []) → AreNarrow formats ms × IsNarrow formats m
narrow_front formats [] m e = (refl, (and_parts (fits_width ARRIVAL formats WIDE m) true e).0)
narrow_front formats (x ∷ ms) m e =
    let h = and_parts (fits_width ARRIVAL formats WIDE x) (fit_width ARRIVAL formats WIDE (trees_of (ms ++ m ∷ []))) e in
    let a = narrow_front formats ms m h.1 in
    (rw (h.0, a.0) refl, a.1)

pub narrow_at : (formats : List FormatValue) (ms : List Tree) (i : ℕ) (m : Tree) → AreNarrow formats ms → slice_get ms i ≡ Some m → IsNarrow formats m
narrow_at formats [] i m e at = cc
narrow_at formats (x ∷ ms) zero m e at =
    let s : x ≡ m = cc in
    subst (IsNarrow formats) s (and_parts (fits_width ARRIVAL formats WIDE x) (fit_width ARRIVAL formats WIDE (trees_of ms)) e).0
narrow_at formats (x ∷ ms) (suc i) m e at = narrow_at formats ms i m (and_parts (fits_width ARRIVAL formats WIDE x) (fit_width ARRIVAL formats WIDE (trees_of ms)) e).1 at

widths_more : (formats : List FormatValue) (ms : List Tree) (m : Tree) → widths ARRIVAL formats (trees_of (ms ++ m ∷ [])) ≡ widths ARRIVAL formats (trees_of ms) ++ width ARRIVAL formats m ∷ []
widths_more formats [] m = refl
widths_more formats (x ∷ ms) m = ap (λ l. width ARRIVAL formats x ∷ l) (widths_more formats ms m)

-- ---- one stretch after another

pub longer_none : (formats : List FormatValue) (w : Writer) → IsVerifiable formats w → IsLonger formats w w
longer_none formats w v = record { verifiable = v; since = []; grown = sym (append-nil (widths_in formats w)) }

pub longer_on : (formats : List FormatValue) (old mid new : Writer) → IsLonger formats old mid → IsLonger formats mid new → IsLonger formats old new
longer_on formats old mid new a b = record {
  verifiable = b.verifiable;
  since = a.since ++ b.since;
  grown = b.grown ∙ ap (λ l. l ++ b.since) a.grown ∙ append_assoc (widths_in formats old) a.since b.since;
}

pub hold_on : (formats : List FormatValue) (mid new : Writer) (rs ws : List ℕ) → IsLonger formats mid new → HoldWidths (widths_in formats mid) rs ws → HoldWidths (widths_in formats new) rs ws
hold_on formats mid new rs ws l h =
    let P : List ℕ → Type 0 = λ q. HoldWidths q rs ws in
    subst P (sym l.grown) (hold_wider (widths_in formats mid) l.since rs ws h)

-- ---- compositions

pub entry_lays : (w : Writer) (n k : ℕ) → slice_get w.places.items n ≡ Some k → Lays w w (leaf n) k
entry_lays w n k e formats over narrow v = record { longer = longer_none formats w v; holds = v.placed n k e }

pub more_lay : (old mid new : Writer) (ms : List Tree) (ns : List ℕ) (m : Tree) (r : ℕ) → LaysEach old mid ms ns → mid.places ≡ old.places → Lays mid new m r → LaysEach old new (ms ++ m ∷ []) (ns ++ r ∷ [])
more_lay old mid new ms ns m r each same one formats over narrow v =
    let has = has_operator formats in
    let o = over_front has (length old.places.items) ms m over in
    let n = narrow_front formats ms m narrow in
    let a = each formats o.0 n.0 v in
    let P : ℕ → Type 0 = λ k. IsOver has k m in
    let b = one formats (subst P (sym (ap (λ p. length p.items) same)) o.1) n.1 a.longer.verifiable in
    let Q : List ℕ → Type 0 = λ l. HoldWidths (widths_in formats new) (ns ++ r ∷ []) l in
    record {
      longer = longer_on formats old mid new a.longer b.longer;
      hold = subst Q (sym (widths_more formats ms m)) (hold_more (widths_in formats new) ns (widths ARRIVAL formats (trees_of ms)) r (width ARRIVAL formats m) (hold_on formats mid new ns (widths ARRIVAL formats (trees_of ms)) b.longer a.hold) b.holds);
    }

-- a term that fits is not too wide itself
root_fits : (formats : List FormatValue) (o : Op) (ms : List Tree) → IsNarrow formats (node o (trees_of ms)) → AreNarrow formats ms × (width ARRIVAL formats (node o (trees_of ms)) ≤ WIDE)
root_fits formats o ms e =
    let h = and_parts (fit_width ARRIVAL formats WIDE (trees_of ms)) _ e in (h.0, leb-true _ WIDE h.1)

-- it was built before
found_lays : (old mid : Writer) (o : Op) (ms : List Tree) (ns : List ℕ) (r : ℕ) → LaysEach old mid ms ns → register_at mid.built (key o ns) ≡ Some r → Lays old mid (node o (trees_of ms)) r
found_lays old mid o ms ns r each here formats over narrow v =
    let n = root_fits formats o ms narrow in
    let a = each formats over.2 n.0 v in
    let ws = widths_in formats mid in
    let vs = widths ARRIVAL formats (trees_of ms) in
    let b = a.longer.verifiable.built (key o ns) r here in
    let same = key_same o b.op ns b.from b.is in
    let are : b.are ≡ vs = sym (hold_read ws b.from b.are b.hold) ∙ ap (map (slice_index ws)) (sym same.1) ∙ hold_read ws ns vs a.hold in
    record { longer = a.longer; holds = b.here ∙ ap (λ p. Some (op_width ARRIVAL formats p b.are)) (sym same.0) ∙ ap (λ l. Some (op_width ARRIVAL formats o l)) are }

made_lays : (old mid new : Writer) (o : Op) (ms : List Tree) (ns : List ℕ) (r : ℕ) → LaysEach old mid ms ns → IsMade mid new o ns r → Lays old new (node o (trees_of ms)) r
made_lays old mid new o ms ns r each made formats over narrow v =
    let x = made.instr in
    let making = made.making in
    let n = root_fits formats o ms narrow in
    let a = each formats over.2 n.0 v in
    let ws = widths_in formats mid in
    let vs = widths ARRIVAL formats (trees_of ms) in
    let wide : width_of ARRIVAL formats ws x ≡ width ARRIVAL formats (node o (trees_of ms)) = making.wide formats ws ∙ ap (op_width ARRIVAL formats o) (hold_read ws ns vs a.hold) in
    let R : List ℕ → Type 0 = λ l. AllByRecursion (λ q. q < length ws) l in
    let m = a.longer.verifiable in
    let places = ap (λ q. q.items) made.places in
    let one = making.writes formats in
    let next = made.next in
    let W = written_widths ARRIVAL formats ws x in
    let first : slice_get W 0 ≡ Some (width_of ARRIVAL formats ws x) = same_at (count_written formats x) (width_of ARRIVAL formats ws x) 0 (omega (arith, one)) in
    let last = later_part ws W 0 (width_of ARRIVAL formats ws x) first in
    let at : length ws + 0 ≡ r = omega (arith, made.is, m.next) in
    let P : ℕ → Type 0 = λ k. slice_get (ws ++ W) k ≡ Some (width_of ARRIVAL formats ws x) in
    let here : slice_get (ws ++ W) r ≡ Some (width ARRIVAL formats (node o (trees_of ms))) = subst P at last ∙ ap Some wide in
    let built = built_kept formats (ws ++ W) mid.built new.built o ns vs r made.keeps (hold_wider ws W ns vs a.hold) here (built_wider formats ws W mid.built m.built) in
    let B : List ℕ → Type 0 = λ l. AreBuiltWide formats l new.built in
    let grown = widths_put formats mid new x made.code in
    let put = verifiable_put formats mid new x made.code (after_no_take mid.code.items x made.other) (making.format formats over.0) (subst R (sym making.reads) (hold_within ws ns vs a.hold)) (omega (arith, wide, n.1)) (omega (arith, next, one))
    (λ i k e. still_placed formats mid new x made.code k (m.placed i k (let Q : List ℕ → Type 0 = λ l. slice_get l i ≡ Some k in subst Q places e))) (subst B (sym grown) built) m in
    let H : List ℕ → Type 0 = λ l. slice_get l r ≡ Some (width ARRIVAL formats (node o (trees_of ms))) in
    record { longer = longer_on formats old mid new a.longer (longer_put formats mid new x made.code put); holds = subst H (sym grown) here }

pub built_lays : (old mid new : Writer) (o : Op) (ms : List Tree) (ns : List ℕ) (r : ℕ) → LaysEach old mid ms ns → Builds mid new o ns r → Lays old new (node o (trees_of ms)) r
built_lays old mid new o ms ns r each (inl f) = let P : Writer → Type 0 = λ w. Lays old w (node o (trees_of ms)) r in subst P (sym f.same) (found_lays old mid o ms ns r each f.here)
built_lays old mid new o ms ns r each (inr m) = made_lays old mid new o ms ns r each m

-- a register more at most
pub builds_grow : (mid new : Writer) (o : Op) (ns : List ℕ) (r : ℕ) → Builds mid new o ns r → GrowsBy mid new 1
builds_grow mid new o ns r (inl f) = record { instrs = omega (arith, ap (λ w. length w.code.items) f.same); registers = omega (arith, ap (λ w. w.next) f.same) }
builds_grow mid new o ns r (inr m) = record { instrs = omega (arith, ap length m.code, length-append mid.code.items (m.instr ∷ [])); registers = (let n = m.next in omega (arith, n)) }

-- ---- checks

-- the registers of parts are as wide as the undone one, an entry's
parts_placed : (ws : List ℕ) (places : List ℕ) (count next : ℕ) → next ≡ length ws → ((n k : ℕ) → slice_get places n ≡ Some k → slice_get (ws ++ replicate count ARRIVAL) k ≡ Some ARRIVAL)
    → (n k : ℕ) → slice_get (places ++ range_with_len next count) n ≡ Some k → slice_get (ws ++ replicate count ARRIVAL) k ≡ Some ARRIVAL
parts_placed ws places count next is before n k e = elim (get_either places (range_with_len next count) n k e) [
  | inl h ↦ before n k h
  | inr h ↦
      let at = number_at next count h.0 k h.2 in
      let P : ℕ → Type 0 = λ q. slice_get (ws ++ replicate count ARRIVAL) q ≡ Some ARRIVAL in
      let here : length ws + h.0 ≡ k = omega (arith, at.1, is) in
      subst P here (later_part ws (replicate count ARRIVAL) h.0 ARRIVAL (same_at count ARRIVAL h.0 at.0))
]

pub open_lays : (old mid put new : Writer) (x : Opening) (ns : List ℕ) (of count : ℕ) (i : Instr) → LaysEach old mid x.keys ns → mid.places ≡ old.places
    → slice_get mid.places.items x.of ≡ Some of → put.code.items ≡ mid.code.items ++ i ∷ [] → put.next ≡ mid.next → put.places ≡ mid.places → IsUndoing x.op ns of i → taken_text i ≡ None
    → new.code ≡ put.code → new.next ≡ put.next + count → new.places.items ≡ put.places.items ++ range_with_len put.next count → new.built ≡ mid.built → count ≡ arity x.op - keys x.op
    → LaysChecks old new (Open x ∷ [])
open_lays old mid put new x ns of count i each same entry code next places undoing no_take code' next' places' built is formats entries checks narrow v =
    let check = checks.0 in
    let a = each formats check.2 narrow.0 v in
    let m = a.longer.verifiable in
    let ws = widths_in formats mid in
    let held = m.placed x.of of entry in
    let at_hand : slice_index ws of ≡ ARRIVAL = (got ws of ARRIVAL held).1 0 in
    let wide : width_of ARRIVAL formats ws i ≡ ARRIVAL = undoing.wide formats ws ∙ at_hand in
    let many : count_written formats i ≡ count = undoing.writes formats check.0 ∙ sym is in
    let all : new.code.items ≡ mid.code.items ++ i ∷ [] = ap (λ q. q.items) code' ∙ code in
    let wrote : written_widths ARRIVAL formats ws i ≡ replicate count ARRIVAL = ap (λ n. replicate n (width_of ARRIVAL formats ws i)) many ∙ ap (replicate count) wide in
    let grown : widths_in formats new ≡ ws ++ replicate count ARRIVAL = widths_put formats mid new i all ∙ ap (λ l. ws ++ l) wrote in
    let vs = widths ARRIVAL formats (trees_of x.keys) in
    let R : List ℕ → Type 0 = λ l. AllByRecursion (λ q. q < length ws) l in
    let reads = subst R (sym undoing.reads) (each_in_both (λ q. q < length ws) ns (of ∷ []) (hold_within ws ns vs a.hold) (got_within ws of ARRIVAL held, tt)) in
    let all_places : new.places.items ≡ mid.places.items ++ range_with_len mid.next count = places' ∙ ap (λ q. q.items ++ range_with_len put.next count) places ∙ ap (λ n. mid.places.items ++ range_with_len n count) next in
    let P : List ℕ → Type 0 = λ l. (n k : ℕ) → slice_get (mid.places.items ++ range_with_len mid.next count) n ≡ Some k → slice_get l k ≡ Some ARRIVAL in
    let Q : List ℕ → Type 0 = λ l. (n k : ℕ) → slice_get l n ≡ Some k → slice_get (widths_in formats new) k ≡ Some ARRIVAL in
    let placed = subst Q (sym all_places) (subst P (sym grown) (parts_placed ws mid.places.items count mid.next m.next (λ n k e. slice_get-append ws (replicate count ARRIVAL) k ARRIVAL (m.placed n k e)))) in
    let low : ARRIVAL ≤ WIDE = lit≤ tt in
    let put_v = verifiable_put formats mid new i all (after_no_take mid.code.items i no_take) (undoing.format formats check.0) reads (omega (arith, wide, low)) (omega (arith, next', next, many)) placed (still_built formats mid new i all built m.built) m in
    longer_on formats old mid new a.longer (longer_put formats mid new i all put_v)

pub equal_lays : (old mid new : Writer) (n e r : ℕ) (made : Made) → Lays old mid (made_tree made) r → mid.places ≡ old.places
    → slice_get mid.places.items n ≡ Some e → new.code.items ≡ mid.code.items ++ instr.Equal e r ∷ [] → new.next ≡ mid.next → new.places ≡ mid.places → new.built ≡ mid.built
    → LaysChecks old new (Equal n made ∷ [])
equal_lays old mid new n e r made one same entry code next places built formats entries checks narrow v =
    let check = checks.0 in
    let a = one formats check.1 narrow.0 v in
    let m = a.longer.verifiable in
    let ws = widths_in formats mid in
    let x = instr.Equal e r in
    let low : ARRIVAL ≤ WIDE = lit≤ tt in
    let items = ap (λ q. q.items) places in
    let put_v = verifiable_put formats mid new x code tt tt (got_within ws e ARRIVAL (m.placed n e entry), (got_within ws r _ a.holds, tt)) low (omega (arith, next))
    (λ i k at. still_placed formats mid new x code k (m.placed i k (let P : List ℕ → Type 0 = λ l. slice_get l i ≡ Some k in subst P items at))) (still_built formats mid new x code built m.built) m in
    longer_on formats old mid new a.longer (longer_put formats mid new x code put_v)

pub none_lay_checks : (w : Writer) → LaysChecks w w []
none_lay_checks w formats entries checks narrow v = longer_none formats w v

all_front_of : (formats : List FormatValue) (xs : List Check) (x : Check) → AllByRecursion (IsNarrowCheck formats) (xs ++ x ∷ []) → AllByRecursion (IsNarrowCheck formats) xs × IsNarrowCheck formats x
all_front_of formats [] x all = (tt, all.0)
all_front_of formats (y ∷ xs) x all = let a = all_front_of formats xs x all.1 in ((all.0, a.0), a.1)

pub more_lay_checks : (old mid new : Writer) (xs : List Check) (x : Check) → LaysChecks old mid xs → length mid.places.items ≡ length old.places.items + count_all_opened xs → LaysChecks mid new (x ∷ []) → LaysChecks old new (xs ++ x ∷ [])
more_lay_checks old mid new xs x all long one formats entries checks narrow v =
    let has = has_operator formats in
    let o = checks_front has entries (length old.places.items) xs x checks in
    let n = all_front_of formats xs x narrow in
    let a = all formats entries o.0 n.0 v in
    let P : ℕ → Type 0 = λ k. AreChecksOf has entries k (x ∷ []) in
    let b = one formats entries (subst P (sym long) (o.1, tt)) (n.1, tt) a.verifiable in
    longer_on formats old mid new a b

-- ---- how much is written

pub sizes_more : (ms : List Tree) (m : Tree) → trees_size (trees_of (ms ++ m ∷ [])) ≡ trees_size (trees_of ms) + tree_size m
sizes_more [] m = omega arith
sizes_more (x ∷ ms) m = omega (arith, sizes_more ms m)

pub sizes_at : (ms : List Tree) (i : ℕ) (m : Tree) → slice_get ms i ≡ Some m → trees_size (trees_of (take i ms)) + tree_size m ≤ trees_size (trees_of ms)
sizes_at [] i m e = cc
sizes_at (x ∷ ms) zero m e = let s : x ≡ m = cc in let n = ap tree_size s in omega arith
sizes_at (x ∷ ms) (suc i) m e = let n = sizes_at ms i m e in omega arith

pub grows_none : (w : Writer) → GrowsBy w w 0
grows_none w = record { instrs = omega arith; registers = omega arith }

pub grows_on : (old mid new : Writer) (a b n : ℕ) → GrowsBy old mid a → GrowsBy mid new b → a + b ≤ n → GrowsBy old new n
grows_on old mid new a b n g h less =
    let gi = g.instrs in
    let gr = g.registers in
    let hi = h.instrs in
    let hr = h.registers in
    record { instrs = omega arith; registers = omega arith }

-- ---- a label's register

-- one more entry, in a register as wide as an arrival
placed_more : (ws places : List ℕ) (register : ℕ) → slice_get ws register ≡ Some ARRIVAL → ((n k : ℕ) → slice_get places n ≡ Some k → slice_get ws k ≡ Some ARRIVAL)
    → (n k : ℕ) → slice_get (places ++ register ∷ []) n ≡ Some k → slice_get ws k ≡ Some ARRIVAL
placed_more ws places register here placed n k e = elim (slice_get-last places register k n e) [
  | inl a ↦ placed n k a
  | inr a ↦ (let P : ℕ → Type 0 = λ q. slice_get ws q ≡ Some ARRIVAL in subst P a.1 here)
]

-- an initial value gets its entry
pub verifiable_known : (formats : List FormatValue) (old new : Writer) (register : ℕ) → new.code ≡ old.code → new.next ≡ old.next → new.places.items ≡ old.places.items ++ register ∷ [] → new.built ≡ old.built
    → slice_get (widths_in formats old) register ≡ Some ARRIVAL → IsVerifiable formats old → IsVerifiable formats new
verifiable_known formats old new register code next places built here v =
    let same : widths_in formats new ≡ widths_in formats old = ap (λ q. register_widths ARRIVAL formats q.items) code in
    let P : List Instr → Type 0 = λ l. EachAfter (IsInstrAfter formats) [] l in
    let Q : List ℕ → Type 0 = λ l. AllByRecursion (λ q. q ≤ WIDE) l in
    let R : List ℕ → Type 0 = λ l. (n k : ℕ) → slice_get l n ≡ Some k → slice_get (widths_in formats old) k ≡ Some ARRIVAL in
    let S : List ℕ → Type 0 = λ l. (n k : ℕ) → slice_get new.places.items n ≡ Some k → slice_get l k ≡ Some ARRIVAL in
    record {
      instrs = subst P (sym (ap (λ q. q.items) code)) v.instrs;
      next = next ∙ v.next ∙ ap length (sym same);
      narrow = subst Q (sym same) v.narrow;
      placed = subst S (sym same) (subst R (sym places) (placed_more (widths_in formats old) old.places.items register here v.placed));
      built = (
          let T : List ℕ → Type 0 = λ l. AreBuiltWide formats l new.built in
          let U : Built → Type 0 = λ b. AreBuiltWide formats (widths_in formats old) b in
          subst T (sym same) (subst U (sym built) v.built)
          );
    }

-- a name that is made, or an arrival
abbrev pub IsLabelling : Instr → Type 0
IsLabelling instr.Fresh = Unit {0}
IsLabelling instr.Recv = Unit {0}
IsLabelling x = ⊥

label_put : (formats : List FormatValue) (old new : Writer) (x : Instr) → operands x ≡ [] → taken_text x ≡ None → count_written formats x ≡ 1 → width_of ARRIVAL formats (widths_in formats old) x ≡ ARRIVAL → HasItsFormat formats x
    → new.code.items ≡ old.code.items ++ x ∷ [] → new.next ≡ old.next + 1 → new.places.items ≡ old.places.items ++ old.next ∷ [] → new.built ≡ old.built → IsVerifiable formats old → IsVerifiable formats new × IsLonger formats old new
label_put formats old new x reads no_take one wide format code next places built v =
    let ws = widths_in formats old in
    let grown : widths_in formats new ≡ ws ++ ARRIVAL ∷ [] = widths_put formats old new x code ∙ ap (λ n. ws ++ replicate n (width_of ARRIVAL formats ws x)) one ∙ ap (λ w. ws ++ w ∷ []) wide in
    let R : List ℕ → Type 0 = λ l. AllByRecursion (λ q. q < length ws) l in
    let low : ARRIVAL ≤ WIDE = lit≤ tt in
    let at : length ws + 0 ≡ old.next = (let n = v.next in omega arith) in
    let P : ℕ → Type 0 = λ k. slice_get (ws ++ ARRIVAL ∷ []) k ≡ Some ARRIVAL in
    let here = subst P at (later_part ws (ARRIVAL ∷ []) 0 ARRIVAL refl) in
    let Q : List ℕ → Type 0 = λ l. (n k : ℕ) → slice_get l n ≡ Some k → slice_get (widths_in formats new) k ≡ Some ARRIVAL in
    let S : List ℕ → Type 0 = λ l. (n k : ℕ) → slice_get (old.places.items ++ old.next ∷ []) n ≡ Some k → slice_get l k ≡ Some ARRIVAL in
    let placed = subst Q (sym places) (subst S (sym grown) (placed_more (ws ++ ARRIVAL ∷ []) old.places.items old.next here (λ n k e. slice_get-append ws (ARRIVAL ∷ []) k ARRIVAL (v.placed n k e)))) in
    let put = verifiable_put formats old new x code (after_no_take old.code.items x no_take) format (subst R (sym reads) tt) (omega (arith, wide, low)) (omega (arith, next, one)) placed (still_built formats old new x code built v.built) v in
    (put, longer_put formats old new x code put)

pub verifiable_heard : (formats : List FormatValue) (old new : Writer) (x : Instr) → IsLabelling x
    → new.code.items ≡ old.code.items ++ x ∷ [] → new.next ≡ old.next + 1 → new.places.items ≡ old.places.items ++ old.next ∷ [] → new.built ≡ old.built → IsVerifiable formats old → IsVerifiable formats new × IsLonger formats old new
verifiable_heard formats old new instr.Fresh is code next places built v = label_put formats old new instr.Fresh refl refl refl refl tt code next places built v
verifiable_heard formats old new instr.Recv is code next places built v = label_put formats old new instr.Recv refl refl refl refl tt code next places built v
verifiable_heard formats old new x is code next places built v = absurd is

-- a message is sent
pub verifiable_sent : (formats : List FormatValue) (old new : Writer) (r w : ℕ) → new.code.items ≡ old.code.items ++ instr.Send r ∷ [] → new.next ≡ old.next → new.places ≡ old.places → new.built ≡ old.built → slice_get (widths_in formats old) r ≡ Some w
    → IsVerifiable formats old → IsLonger formats old new
verifiable_sent formats old new r w code next places built held v =
    let x = instr.Send r in
    let low : ARRIVAL ≤ WIDE = lit≤ tt in
    let items = ap (λ q. q.items) places in
    longer_put formats old new x code (verifiable_put formats old new x code tt tt (got_within (widths_in formats old) r w held, tt) low (omega (arith, next))
    (λ i k at. still_placed formats old new x code k (v.placed i k (let P : List ℕ → Type 0 = λ l. slice_get l i ≡ Some k in subst P items at))) (still_built formats old new x code built v.built) v)

-- the takes of different texts, before anything else
texts_apart : (text : List ℕ) (before : List (List ℕ)) → AllByRecursion (λ other. other ≢ text) before → AllByRecursion (IsOtherTake text) (map Take before)
texts_apart text [] all = tt
texts_apart text (t ∷ before) all = (all.0, texts_apart text before all.1)

takes_after : (formats : List FormatValue) (before texts : List (List ℕ)) → AllPairs (λ one other. one ≢ other) (before ++ texts) → EachAfter (IsInstrAfter formats) (map Take before) (map Take texts)
takes_after formats before [] pairs = tt
takes_after formats before (t ∷ texts) pairs =
    let P : List Instr → Type 0 = λ l. EachAfter (IsInstrAfter formats) l (map Take texts) in
    let Q : List (List ℕ) → Type 0 = λ l. AllPairs (λ one other. one ≢ other) l in
    let next : map Take (before ++ t ∷ []) ≡ map Take before ++ Take t ∷ [] = map-append Take before (t ∷ []) in
    let here : IsInstrAfter formats (map Take before) (Take t) = record { take = texts_apart t before (earlier before t texts pairs); format = tt; written = λ k d h. absurd (omega (arith, h)) } in
    (here, subst P next (takes_after formats (before ++ t ∷ []) texts (subst Q (sym (append_assoc before (t ∷ []) texts)) pairs)))
  where
    tail_pairs : (x : List ℕ) (xs : List (List ℕ)) → AllPairs (λ one other. one ≢ other) (x ∷ xs) → AllPairs (λ one other. one ≢ other) xs
    tail_pairs x xs p i j d h k = p (suc i) (suc j) d (omega arith) (omega arith)

    earlier : (xs : List (List ℕ)) (x : List ℕ) (ys : List (List ℕ)) → AllPairs (λ one other. one ≢ other) (xs ++ x ∷ ys) → AllByRecursion (λ other. other ≢ x) xs
    earlier [] x ys p = tt
    earlier (y ∷ xs) x ys p =
        let at : get_or (y ∷ (xs ++ x ∷ ys)) (suc (length xs)) [] ≡ x = get_or-append_seam xs x ys [] in
        let D : List ℕ → Type 0 = λ q. y ≢ q in
        (subst D at (p 0 (suc (length xs)) [] (omega arith) (omega (arith, length-append xs (x ∷ ys)))), earlier xs x ys (tail_pairs y (xs ++ x ∷ ys) p))

takes_widths : (formats : List FormatValue) (ws : List ℕ) (texts : List (List ℕ)) → widths_after ARRIVAL formats ws (map Take texts) ≡ ws ++ replicate (length texts) ARRIVAL
takes_widths formats ws [] = sym (append-nil ws)
takes_widths formats ws (t ∷ texts) = takes_widths formats (ws ++ ARRIVAL ∷ []) texts ∙ append_assoc ws (ARRIVAL ∷ []) (replicate (length texts) ARRIVAL)

pub taken_widths : (formats : List FormatValue) (w : Writer) (texts : List (List ℕ)) → w.code.items ≡ map Take texts → widths_in formats w ≡ replicate (length texts) ARRIVAL
taken_widths formats w texts code = ap (register_widths ARRIVAL formats) code ∙ takes_widths formats [] texts

pub verifiable_takes : (formats : List FormatValue) (w : Writer) (texts : List (List ℕ)) → w.code.items ≡ map Take texts → w.next ≡ length texts → w.places.items ≡ [] → ((keys : List ℕ) → register_at w.built keys ≡ None) → AllPairs (λ one other. one ≢ other) texts
    → IsVerifiable formats w × ((n : ℕ) → n < length texts → slice_get (widths_in formats w) n ≡ Some ARRIVAL)
verifiable_takes formats w texts code next places none pairs =
    let ws = taken_widths formats w texts code in
    let P : List Instr → Type 0 = λ l. EachAfter (IsInstrAfter formats) [] l in
    let Q : List ℕ → Type 0 = λ l. AllByRecursion (λ q. q ≤ WIDE) l in
    let R : ℕ → List ℕ → Type 0 = λ n l. slice_get l n ≡ Some ARRIVAL in (
      record {
        instrs = subst P (sym code) (takes_after formats [] texts pairs);
        next = next ∙ sym (length-replicate (length texts) ARRIVAL) ∙ ap length (sym ws);
        narrow = subst Q (sym ws) (all_same (length texts) ARRIVAL (lit≤ tt));
        placed = λ n k e. (let h = ap (λ l. slice_get l n) places in cc);
        built = λ k r e. (let h = none k in cc);
      },
      λ n h. subst (R n) (sym ws) (same_at (length texts) ARRIVAL n h),
    )
