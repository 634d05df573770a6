-- The registers that a run keeps, from one instruction to the next.
use Rattle.std.proofs.Common.{◌≡◌, ◌<◌, ◌≤◌, ◌+◌, ◌&&◌, ◌||◌, not, nat_lt, nat_le, ℕ, zero, suc, List, [], ◌∷◌, ◌++◌, length, drop, take, get_or, slice_index, replicate, Bool, true, false, cond, Some, refl, sym, ap, ◌∙◌, subst, arith, All, append_assoc}
use Rattle.std.specs.Prelude.{slice_get}
use Rattle.std.specs.List.{AllByRecursion}
use Rattle.std.proofs.lemmas.Bool.Decides.{nat_tests}
use Rattle.std.proofs.lemmas.List.{append-nil, length-append, length-replicate, take_more}
use Rattle.std.proofs.lemmas.List.Elements.{recursion_from_All, All-from_recursion}
use Rattle.anb_base.specs.declared.TheConstants.{ARRIVAL, WIDE}
use Rattle.anb_format.specs.Formats.{FormatValue}
use Rattle.anb_format.specs.Laws.{AreWithin}
use Rattle.anb_code.specs.declared.instr.Instr.{Instr}
use Rattle.anb_code.specs.declared.instr.Instr.TheVariants.{Take}
use Rattle.anb_code.specs.Registers.{operands, register_widths, widths_after, written_widths}
use Rattle.anb_code.specs.Taking.{take_texts}
use Rattle.anb_code.specs.Uses.{AreLastUses, is_among, is_read}
use Rattle.anb_code.specs.Verified.{EachAfter, IsInstrAfter, IsVerifiedCode}
use Rattle.anb_code.proofs.Taking.{no_takes, other_last}
use Rattle.anb_machine.specs.declared.state.RunState.{RunState}
use Rattle.anb_machine.specs.Keeping.{AreDropped, AreOver, HasMoved, HasStayed, IsBound, IsLean, IsLive, IsThinned, instrs_left, later_widths, new_widths, thinned_by}
use Rattle.anb_machine.specs.Machines.{live_widths}
use Rattle.anb_machine.specs.Standing.{IsSameRun}
use Rattle.anb_machine.proofs.Written.{narrow_at}

-- ---- registers and widths

cond_less : (b : Bool) (n w : ℕ) → n ≤ cond b w 0 → n ≤ w
cond_less true n w h = h
cond_less false n w h = omega (arith, h)

pub live_bound : (instrs : List Instr) (table : List (List ℕ)) (widths : List ℕ) → IsLive instrs table widths → IsBound table widths
live_bound instrs table widths h r = cond_less (is_read instrs r) (length (get_or table r [])) (slice_index widths r) (h r)

zip_bound : (ws : List (List ℕ)) (new : List ℕ) → AreWithin ws new → IsBound ws new
zip_bound [] [] h r = omega arith
zip_bound [] (w ∷ new) h r = absurd h
zip_bound (b ∷ ws) [] h r = absurd h
zip_bound (b ∷ ws) (w ∷ new) h zero = h.0
zip_bound (b ∷ ws) (w ∷ new) h (suc r) = zip_bound ws new h.1 r

pub grown_bound : (table : List (List ℕ)) (widths : List ℕ) (ws : List (List ℕ)) (new : List ℕ) → length widths ≡ length table → IsBound table widths → AreWithin ws new → IsBound (table ++ ws) (widths ++ new)
grown_bound [] [] ws new e h k r = zip_bound ws new k r
grown_bound [] (w ∷ widths) ws new e h k r = absurd (omega (arith, e))
grown_bound (b ∷ table) [] ws new e h k r = absurd (omega (arith, e))
grown_bound (b ∷ table) (w ∷ widths) ws new e h k zero = h 0
grown_bound (b ∷ table) (w ∷ widths) ws new e h k (suc r) = grown_bound table widths ws new (omega (arith, e)) (λ i. h (suc i)) k r

front_same : (table ws : List (List ℕ)) (r : ℕ) → r < length table → get_or (table ++ ws) r [] ≡ get_or table r []
front_same [] ws r h = absurd (omega (arith, h))
front_same (b ∷ table) ws zero h = refl
front_same (b ∷ table) ws (suc r) h = front_same table ws r (omega (arith, h))

pub within_longer : (ws : List (List ℕ)) (new : List ℕ) → AreWithin ws new → length new ≡ length ws
within_longer [] [] h = refl
within_longer [] (w ∷ new) h = absurd h
within_longer (b ∷ ws) [] h = absurd h
within_longer (b ∷ ws) (w ∷ new) h = ap suc (within_longer ws new h.1)

-- ---- what is dropped

shorter : (b : Bool) (v : List ℕ) (n : ℕ) → length v ≤ n → length (cond b [] v) ≤ n
shorter true v n h = omega arith
shorter false v n h = h

thin_live : (instrs : List Instr) (among : ℕ → Bool) (old new : List (List ℕ)) (widths : List ℕ) → AreDropped instrs among old new → IsLive instrs old widths → IsLive instrs new widths
thin_live instrs among old new widths d h r = rw (d.each r) (shorter (among r && not (is_read instrs r)) (get_or old r []) (cond (is_read instrs r) (slice_index widths r) 0) (h r))

either : (a b d : Bool) (v : List ℕ) → cond (b && d) [] (cond (a && d) [] v) ≡ cond ((a || b) && d) [] v
either true true true v = refl
either true true false v = refl
either true false true v = refl
either true false false v = refl
either false true true v = refl
either false true false v = refl
either false false true v = refl
either false false false v = refl

pub over_dropped : (formats : List FormatValue) (instrs : List Instr) (uses : List ℕ) (done : ℕ) (among : ℕ → Bool) (old new : List (List ℕ)) → AreLastUses formats instrs uses
    → AreOver uses done among old new → AreDropped (drop done instrs) among old new
over_dropped formats instrs uses done among old new known d = record {
  count = d.count;
  each = λ r. d.each r ∙ ap (λ b. cond (among r && not b) [] (get_or old r [])) (known.last r done);
}

-- what is still read is the same in both
kept_where : (b : Bool) (v : List ℕ) → cond (b && false) [] v ≡ v
kept_where true v = refl
kept_where false v = refl

get_same : (xs ys : List (List ℕ)) (r : ℕ) → length xs ≡ length ys → get_or xs r [] ≡ get_or ys r [] → slice_get xs r ≡ slice_get ys r
get_same [] [] r e h = refl
get_same [] (y ∷ ys) r e h = absurd (omega (arith, e))
get_same (x ∷ xs) [] r e h = absurd (omega (arith, e))
get_same (x ∷ xs) (y ∷ ys) zero e h = ap Some h
get_same (x ∷ xs) (y ∷ ys) (suc r) e h = get_same xs ys r (omega (arith, e)) h

pub dropped_same : (instrs : List Instr) (among : ℕ → Bool) (old new : List (List ℕ)) → AreDropped instrs among old new → (r : ℕ) → is_read instrs r ≡ true → slice_get new r ≡ slice_get old r
dropped_same instrs among old new d r is =
    get_same new old r d.count (d.each r ∙ ap (λ b. cond (among r && not b) [] (get_or old r [])) is ∙ kept_where (among r) (get_or old r []))

-- ---- one more instruction

step_live : (live op ge : Bool) (v : List ℕ) (w : ℕ) → length v ≤ w → (live ≡ false → op ≡ false → ge ≡ false → length v ≤ 0) → length (cond ((op || ge) && not live) [] v) ≤ cond live w 0
step_live true true ge v w h k = h
step_live true false true v w h k = h
step_live true false false v w h k = h
step_live false true ge v w h k = omega arith
step_live false false true v w h k = omega arith
step_live false false false v w h k = k refl refl refl

moved_live : (x : Instr) (rest : List Instr) (table ws new : List (List ℕ)) (widths more : List ℕ) → length widths ≡ length table → IsLive (x ∷ rest) table widths → AreWithin ws more
    → AreDropped rest (λ r. is_among (operands x) r || nat_le (length table) r) (table ++ ws) new → IsLive rest new (widths ++ more)
moved_live x rest table ws new widths more long live within d r =
    let bound = grown_bound table widths ws more long (live_bound (x ∷ rest) table widths live) within r in
    rw (d.each r) (step_live (is_read rest r) (is_among (operands x) r) (nat_le (length table) r) (get_or (table ++ ws) r []) (slice_index (widths ++ more) r) bound before) where
      before : is_read rest r ≡ false → is_among (operands x) r ≡ false → nat_le (length table) r ≡ false → length (get_or (table ++ ws) r []) ≤ 0
      before a b c =
          let below : r < length table = grind (arith, nat_tests) in
          let none : is_read (x ∷ rest) r ≡ false = rw (b, a) refl in
          let short : length (get_or table r []) ≤ cond false (slice_index widths r) 0 = subst (λ (l : Bool). length (get_or table r []) ≤ cond l (slice_index widths r) 0) none (live r) in
          rw (front_same table ws r below) short

-- ---- the widths to come

pub later_more : (formats : List FormatValue) (widths : List ℕ) (instrs : List Instr) → (more : List ℕ) × (later_widths formats widths instrs ≡ widths ++ more)
later_more formats widths [] = ([], sym (append-nil widths))
later_more formats widths (x ∷ instrs) =
    let rest = later_more formats (widths ++ new_widths formats widths x) instrs in
    (new_widths formats widths x ++ rest.0, rest.1 ∙ append_assoc widths (new_widths formats widths x) rest.0)

taken_front : (widths more : List ℕ) (n : ℕ) → n ≡ length widths → take n (widths ++ more) ≡ widths
taken_front [] more zero e = refl
taken_front [] more (suc n) e = absurd (omega (arith, e))
taken_front (w ∷ widths) more zero e = absurd (omega (arith, e))
taken_front (w ∷ widths) more (suc n) e = ap (λ l. w ∷ l) (taken_front widths more n (omega (arith, e)))

pub front_all : (P : ℕ → Type 0) (widths more : List ℕ) → AllByRecursion P (widths ++ more) → AllByRecursion P widths
front_all P [] more h = tt
front_all P (w ∷ widths) more h = (h.0, front_all P widths more h.1)

-- the widths so far are narrow
pub narrow_front : (s : RunState) (lean : IsLean s) → All (λ w. w ≤ WIDE) lean.widths
narrow_front s lean =
    let more = later_more s.code.now.formats lean.widths (instrs_left s) in
    let all : All (λ w. w ≤ WIDE) (lean.widths ++ more.0) = subst (All (λ w. w ≤ WIDE)) (sym lean.later ∙ more.1) lean.narrow in
    All-from_recursion (λ w. w ≤ WIDE) lean.widths (front_all (λ w. w ≤ WIDE) lean.widths more.0 (recursion_from_All (λ w. w ≤ WIDE) (lean.widths ++ more.0) all))

pub get_got : (table : List (List ℕ)) (r : ℕ) (b : List ℕ) → slice_get table r ≡ Some b → get_or table r [] ≡ b
get_got [] r b e = cc
get_got (x ∷ table) zero b e = cc
get_got (x ∷ table) (suc r) b e = get_got table r b e

-- so each register is
pub register_narrow : (s : RunState) → IsLean s → (r : ℕ) (b : List ℕ) → slice_get s.registers.items r ≡ Some b → length b ≤ WIDE
register_narrow s lean r b e =
    let bound = live_bound (instrs_left s) s.registers.items lean.widths lean.live r in
    let most = narrow_at lean.widths r (recursion_from_All (λ w. w ≤ WIDE) lean.widths (narrow_front s lean)) in
    omega (arith, bound, most, ap length (get_got s.registers.items r b e))

zip_live : (instrs : List Instr) (first : ℕ) (table : List (List ℕ)) (widths : List ℕ) → length widths ≡ length table
    → ((r : ℕ) → length (get_or table r []) ≤ cond (is_read instrs (first + r)) (slice_index widths r) 0) → AreWithin table (live_widths instrs first widths)
zip_live instrs first [] [] e h = tt
zip_live instrs first [] (w ∷ widths) e h = absurd (omega (arith, e))
zip_live instrs first (b ∷ table) [] e h = absurd (omega (arith, e))
zip_live instrs first (b ∷ table) (w ∷ widths) e h =
    (subst (λ n. length b ≤ cond (is_read instrs n) w 0) (here first) (h 0), zip_live instrs (first + 1) table widths (omega (arith, e)) (λ r. subst (λ n. length (get_or table r []) ≤ cond (is_read instrs n) (slice_index widths r) 0) (next first r) (h (suc r)))) where
      here : (n : ℕ) → n + 0 ≡ n
      here n = omega arith

      next : (n r : ℕ) → n + suc r ≡ n + 1 + r
      next n r = omega arith

pub keeps : (s : RunState) → IsLean s → AreWithin s.registers.items (live_widths (instrs_left s) 0 (take (length s.registers.items) (register_widths ARRIVAL s.code.now.formats s.code.now.instrs)))
keeps s lean =
    let more = later_more s.code.now.formats lean.widths (instrs_left s) in
    let front : take (length s.registers.items) (register_widths ARRIVAL s.code.now.formats s.code.now.instrs) ≡ lean.widths =
    ap (take (length s.registers.items)) (sym lean.later ∙ more.1) ∙ taken_front lean.widths more.0 (length s.registers.items) (sym lean.count) in
    subst (λ widths. AreWithin s.registers.items (live_widths (instrs_left s) 0 widths)) (sym front)
    (zip_live (instrs_left s) 0 s.registers.items lean.widths lean.count (λ r. subst (λ n. length (get_or s.registers.items r []) ≤ cond (is_read (instrs_left s) n) (slice_index lean.widths r) 0) (start r) (lean.live r))) where
      start : (r : ℕ) → r ≡ 0 + r
      start r = omega arith

-- ---- from state to state

left_same : (s t : RunState) → IsSameRun s t → t.next ≡ s.next → instrs_left t ≡ instrs_left s
left_same s t same next = rw (same.code, next) refl

pub lean_stayed : (s t u : RunState) (among : ℕ → Bool) → IsLean s → IsSameRun s t → IsSameRun t u → HasStayed s t → IsThinned among t u → IsLean u
lean_stayed s t u among lean st tu stayed thin =
    let code : u.code.now ≡ s.code.now = tu.code ∙ st.code in
    let left : instrs_left u ≡ instrs_left s = left_same t u tu thin.next ∙ left_same s t st stayed.0 in
    let before : AreDropped (instrs_left s) among s.registers.items u.registers.items =
    subst (λ old. AreDropped (instrs_left s) among old u.registers.items) stayed.1 (subst (λ l. AreDropped l among t.registers.items u.registers.items) (left_same s t st stayed.0) thin.dropped) in
    record {
      widths = lean.widths;
      count = lean.count ∙ sym before.count;
      live = subst (λ l. IsLive l u.registers.items lean.widths) (sym left) (thin_live (instrs_left s) among s.registers.items u.registers.items lean.widths before lean.live);
      later = let next : u.next ≡ s.next = thin.next ∙ stayed.0 in rw (code, next) lean.later;
      narrow = rw code lean.narrow;
    }

pub drop_next : (instrs : List Instr) (n : ℕ) (x : Instr) → slice_get instrs n ≡ Some x → drop n instrs ≡ x ∷ drop (n + 1) instrs
drop_next [] n x e = cc
drop_next (y ∷ instrs) zero x e = let is : y ≡ x = cc in ap (λ z. z ∷ instrs) is
drop_next (y ∷ instrs) (suc n) x e = drop_next instrs n x e ∙ ap (λ k. x ∷ drop k (y ∷ instrs)) (after n) where
  after : (k : ℕ) → suc (k + 1) ≡ suc k + 1
  after k = omega arith

pub lean_moved : (s t u : RunState) (x : Instr) → slice_get s.code.now.instrs s.next ≡ Some x → IsLean s → IsSameRun s t → IsSameRun t u → HasMoved s t → IsThinned (thinned_by x (length s.registers.items)) t u → IsLean u
lean_moved s t u x is lean st tu moved thin =
    let code : u.code.now ≡ s.code.now = tu.code ∙ st.code in
    let rest : List Instr = drop (s.next + 1) s.code.now.instrs in
    let here : instrs_left s ≡ x ∷ rest = drop_next s.code.now.instrs s.next x is in
    let middle : instrs_left t ≡ rest = rw (st.code, moved.next) refl in
    let left : instrs_left u ≡ rest = left_same t u tu thin.next ∙ middle in
    let bound = live_bound (instrs_left s) s.registers.items lean.widths lean.live in
    let within : AreWithin moved.wrote (new_widths s.code.now.formats lean.widths x) = moved.within x lean.widths here bound (narrow_front s lean) lean.count in
    let dropped : AreDropped rest (thinned_by x (length s.registers.items)) (s.registers.items ++ moved.wrote) u.registers.items =
    subst (λ old. AreDropped rest (thinned_by x (length s.registers.items)) old u.registers.items) moved.table
    (subst (λ l. AreDropped l (thinned_by x (length s.registers.items)) t.registers.items u.registers.items) middle thin.dropped) in
    let live : IsLive (x ∷ rest) s.registers.items lean.widths = subst (λ l. IsLive l s.registers.items lean.widths) here lean.live in
    record {
      widths = lean.widths ++ new_widths s.code.now.formats lean.widths x;
      count = omega (arith, length-append lean.widths (new_widths s.code.now.formats lean.widths x), within_longer moved.wrote (new_widths s.code.now.formats lean.widths x) within, lean.count, dropped.count, length-append s.registers.items moved.wrote);
      live = subst (λ l. IsLive l u.registers.items (lean.widths ++ new_widths s.code.now.formats lean.widths x)) (sym left)
          (moved_live x rest s.registers.items moved.wrote u.registers.items lean.widths (new_widths s.code.now.formats lean.widths x) lean.count live within dropped);
      later = let next : u.next ≡ s.next + 1 = thin.next ∙ moved.next in rw (code, next) (sym (ap (later_widths s.code.now.formats lean.widths) here) ∙ lean.later);
      narrow = rw code lean.narrow;
    }

-- ---- the start

no_take_same : (formats : List FormatValue) (widths : List ℕ) (instrs : List Instr) → take_texts instrs ≡ [] → widths_after ARRIVAL formats widths instrs ≡ later_widths formats widths instrs
no_take_same formats widths [] e = refl
no_take_same formats widths (Take text ∷ instrs) e = cc
no_take_same formats widths (x ∷ instrs) e = no_take_same formats (widths ++ written_widths ARRIVAL formats widths x) instrs e

pub takes_same : (formats : List FormatValue) (widths : List ℕ) (before instrs : List Instr) → EachAfter (IsInstrAfter formats) before instrs
    → widths_after ARRIVAL formats widths instrs ≡ later_widths formats (widths ++ replicate (length (take_texts instrs)) ARRIVAL) instrs
takes_same formats widths before [] each = sym (append-nil widths)
takes_same formats widths before (Take text ∷ instrs) each =
    let n = length (take_texts instrs) in
    takes_same formats (widths ++ ARRIVAL ∷ []) (before ++ Take text ∷ []) instrs each.1
    ∙ ap (λ l. later_widths formats l instrs) (append_assoc widths (ARRIVAL ∷ []) (replicate n ARRIVAL) ∙ sym (append-nil (widths ++ ARRIVAL ∷ replicate n ARRIVAL)))
takes_same formats widths before (x ∷ instrs) each =
    let none : take_texts instrs ≡ [] = no_takes formats (before ++ x ∷ []) instrs each.1 (other_last before x refl) in
    no_take_same formats widths (x ∷ instrs) none ∙ sym (ap (λ l. later_widths formats l (x ∷ instrs)) (ap (λ ts. widths ++ replicate (length ts) ARRIVAL) none ∙ append-nil widths))

pub short_at : (init : List (List ℕ)) (r : ℕ) → AllByRecursion (λ b. length b ≤ ARRIVAL) init → length (get_or init r []) ≤ slice_index (replicate (length init) ARRIVAL) r
short_at [] r h = omega arith
short_at (b ∷ init) zero h = h.0
short_at (b ∷ init) (suc r) h = short_at init r h.1

over_live : (live : Bool) (v : List ℕ) (w : ℕ) → length v ≤ w → length (cond (not live) [] v) ≤ cond live w 0
over_live true v w h = h
over_live false v w h = omega arith

pub begins_lean : (s : RunState) (init : List (List ℕ)) → IsVerifiedCode ARRIVAL WIDE s.code.now → s.next ≡ 0 → length init ≡ length (take_texts s.code.now.instrs)
    → All (λ b. length b ≤ ARRIVAL) init → AreDropped s.code.now.instrs (λ r. true) init s.registers.items → IsLean s
begins_lean s init verified next long short d =
    let left : instrs_left s ≡ s.code.now.instrs = rw next refl in
    let widths : List ℕ = replicate (length init) ARRIVAL in
    let brief = recursion_from_All (λ b. length b ≤ ARRIVAL) init short in
    let each : IsLive s.code.now.instrs s.registers.items widths = λ r. rw (d.each r) (over_live (is_read s.code.now.instrs r) (get_or init r []) (slice_index widths r) (short_at init r brief)) in
    record {
      widths = widths;
      count = length-replicate {A = ℕ} (length init) ARRIVAL ∙ sym d.count;
      live = subst (λ l. IsLive l s.registers.items widths) (sym left) each;
      later = ap (later_widths s.code.now.formats widths) left ∙ ap (λ n. later_widths s.code.now.formats (replicate n ARRIVAL) s.code.now.instrs) long ∙ sym (takes_same s.code.now.formats [] [] s.code.now.instrs verified.instrs);
      narrow = verified.narrow;
    }

-- the initial values, one after another
empty_both : (b : Bool) → cond {A = List ℕ} b [] [] ≡ []
empty_both true = refl
empty_both false = refl

push_at : (old new : List (List ℕ)) (x y : List ℕ) (k : ℕ) (d : ℕ → Bool) → length new ≡ length old → ((r : ℕ) → get_or new r [] ≡ cond (d r) [] (get_or old r [])) → y ≡ cond (d (length old)) [] x
    → get_or (new ++ y ∷ []) k [] ≡ cond (d k) [] (get_or (old ++ x ∷ []) k [])
push_at [] [] x y zero d long h e = e
push_at [] [] x y (suc k) d long h e = sym (empty_both (d (suc k)))
push_at [] (b ∷ new) x y k d long h e = absurd (omega (arith, long))
push_at (a ∷ old) [] x y k d long h e = absurd (omega (arith, long))
push_at (a ∷ old) (b ∷ new) x y zero d long h e = h 0
push_at (a ∷ old) (b ∷ new) x y (suc k) d long h e = push_at old new x y k (λ r. d (suc r)) (omega (arith, long)) (λ r. h (suc r)) e

pub over_pushed : (uses : List ℕ) (init table : List (List ℕ)) (i : ℕ) (x y : List ℕ) → i < length init → x ≡ get_or init i x → y ≡ cond (not (nat_lt 0 (slice_index uses i))) [] x
    → AreOver uses 0 (λ r. true) (take i init) table → AreOver uses 0 (λ r. true) (take (i + 1) init) (table ++ y ∷ [])
over_pushed uses init table i x y h e kept d =
    let all : take (i + 1) init ≡ take i init ++ x ∷ [] = take_more init i x h ∙ ap (λ z. take i init ++ z ∷ []) (sym e) in
    let long : length (take i init) ≡ i = taken i init h in
    subst (λ l. AreOver uses 0 (λ r. true) l (table ++ y ∷ [])) (sym all) (record {
      count = omega (arith, length-append table (y ∷ []), length-append (take i init) (x ∷ []), d.count);
      each = λ k. push_at (take i init) table x y k (λ r. not (nat_lt 0 (slice_index uses r))) d.count d.each (kept ∙ ap (λ n. cond (not (nat_lt 0 (slice_index uses n))) [] x) (sym long));
    }) where
      taken : (i : ℕ) (l : List (List ℕ)) → i < length l → length (take i l) ≡ i
      taken i [] h = absurd (omega (arith, h))
      taken zero (z ∷ l) h = refl
      taken (suc i) (z ∷ l) h = ap suc (taken i l (omega (arith, h)))
