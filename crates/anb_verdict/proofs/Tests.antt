-- What verdicts rest on, by cases.
use Rattle.std.proofs.Common.{◌≡◌, ℕ, zero, suc, ◌+◌, ◌≤◌, ◌<◌, ◌==◌, ◌&&◌, not, List, [], ◌∷◌, length, Bool, true, false, cond, Option, Some, None, slice_get, refl, sym, ap, ◌∙◌, subst, inl, inr, arith, rules}
use Rattle.std.specs.Prelude.{nat_le, nat_lt, if◌then◌else◌}
use Rattle.std.specs.Option.{option_map_or}
use Rattle.std.proofs.lemmas.Bool.Decides.{nat_tests}
use Rattle.anb_lemmas.proofs.Bools.{never_both}
use Rattle.anb_lemmas.proofs.Numbers.{below_or_not, isnt_below, nat_eq-same}
use Rattle.anb_plays.specs.Plays.{End, stopped, waiting, done}
use Rattle.anb_transcript.specs.declared.following.Due.TheVariants.{End as Over}
use Rattle.anb_transcript.specs.declared.following.ReplayEnd.{ReplayEnd}
use Rattle.anb_transcript.specs.declared.following.ReplayEnd.TheVariants.{Follows, Differs, Short, Stopped, NoMemory}
use Rattle.anb_judge.specs.Verdicts.{due_at, is_said, refused_at, verdict}
use Rattle.anb_verdict.specs.declared.seen.Ended.{Ended}
use Rattle.anb_verdict.specs.declared.seen.Ended.TheVariants.{Status, Signal, Unseen, Silent, Lost}
use Rattle.anb_verdict.specs.declared.verdict.Verdict.{Verdict}
use Rattle.anb_verdict.specs.declared.verdict.Verdict.TheVariants as says
use Rattle.anb_verdict.specs.Verdicts.{MayEnd, by_end, is_good, is_there, lax_message, next_said, stop_by_status, stop_unseen, stops_when_due}

-- ---- at a stop

-- how it may end there, by the next message that the role says
abbrev pub MayStop : Option ℕ → Ended → Type 0
MayStop next (Status n) = n ≡ 0 → is_there next ≡ true
MayStop next (Signal n) = ⊥
MayStop next Unseen = Unit {0}
MayStop next Silent = ⊥
MayStop next Lost = ⊥

pub may_stop : (ss : List Bool) (e at : ℕ) (x : Ended) → MayEnd ss (stopped e at) x → MayStop (next_said ss e) x
may_stop ss e at (Status n) may = may
may_stop ss e at (Signal n) may = may
may_stop ss e at Unseen may = may
may_stop ss e at Silent may = may
may_stop ss e at Lost may = may

pub may_end : (ss : List Bool) (e at : ℕ) (x : Ended) → MayStop (next_said ss e) x → MayEnd ss (stopped e at) x
may_end ss e at (Status n) may = may
may_end ss e at (Signal n) may = may
may_end ss e at Unseen may = may
may_end ss e at Silent may = may
may_end ss e at Lost may = may

pub never_waiting : {X : Type 0} (ss : List Bool) (e : ℕ) (x : Ended) → MayEnd ss (waiting e) x → X
never_waiting ss e (Status n) may = absurd may
never_waiting ss e (Signal n) may = absurd may
never_waiting ss e Unseen may = absurd may
never_waiting ss e Silent may = absurd may
never_waiting ss e Lost may = absurd may

skip_or_good : (c : Bool) → is_good (if c then says.Skipped else says.Good) ≡ true
skip_or_good true = refl
skip_or_good false = refl

tested_good : (b t c : Bool) (stop : ℕ) → (b ≡ true → t ≡ true) → is_good (if b && not t then says.LaxEnd stop else if c then says.Skipped else says.Good) ≡ true
tested_good true true c stop may = skip_or_good c
tested_good true false c stop may = absurd (never_both false (may refl) refl)
tested_good false t c stop may = skip_or_good c

tested_may : (b t c : Bool) (stop : ℕ) → is_good (if b && not t then says.LaxEnd stop else if c then says.Skipped else says.Good) ≡ true → b ≡ true → t ≡ true
tested_may true true c stop good is = refl
tested_may true false c stop good is = absurd (cc)
tested_may false t c stop good is = absurd (never_both false is refl)

is_zero : (n : ℕ) → (n == 0) ≡ true → n ≡ 0
is_zero zero is = refl
is_zero (suc n) is = grind (arith, is, nat_tests)

zero_is : (n : ℕ) → n ≡ 0 → (n == 0) ≡ true
zero_is n is = ap (λ x. x == 0) is ∙ nat_eq-same 0

unseen_good : (t c : Bool) → is_good (if not t then says.NotSeen else if c then says.Skipped else says.Good) ≡ true
unseen_good true c = skip_or_good c
unseen_good false c = refl

stop_good : (next : Option ℕ) (stop reached : ℕ) (x : Ended) → MayStop next x → is_good (by_end (stop_by_status next stop reached) (stop_unseen next stop reached) x) ≡ true
stop_good next stop reached (Status n) may = tested_good (n == 0) (is_there next) (nat_le reached stop) stop (λ is. may (is_zero n is))
stop_good next stop reached (Signal n) may = absurd may
stop_good next stop reached Unseen may = unseen_good (is_there next) (nat_le reached stop)
stop_good next stop reached Silent may = absurd may
stop_good next stop reached Lost may = absurd may

stop_may : (next : Option ℕ) (stop reached : ℕ) (x : Ended) → is_good (by_end (stop_by_status next stop reached) (stop_unseen next stop reached) x) ≡ true → MayStop next x
stop_may next stop reached (Status n) good = λ is. tested_may (n == 0) (is_there next) (nat_le reached stop) stop good (zero_is n is)
stop_may next stop reached (Signal n) good = absurd (cc)
stop_may next stop reached Unseen good = tt
stop_may next stop reached Silent good = absurd (cc)
stop_may next stop reached Lost good = absurd (cc)

lax_bad : (next : Option ℕ) (stop : ℕ) → is_good (lax_message next stop) ≡ false
lax_bad (Some e) stop = refl
lax_bad None stop = refl

lax_or : (b : Bool) (next : Option ℕ) (stop : ℕ) (rest : Verdict) → is_good (if b then lax_message next stop else rest) ≡ true → (b ≡ false) × (is_good rest ≡ true)
lax_or true next stop rest good = absurd (never_both (is_good (lax_message next stop)) good (lax_bad next stop))
lax_or false next stop rest good = (refl, good)

not_lax : (b : Bool) (next : Option ℕ) (stop : ℕ) (rest : Verdict) → b ≡ false → is_good rest ≡ true → is_good (if b then lax_message next stop else rest) ≡ true
not_lax true next stop rest isnt good = absurd (never_both true refl isnt)
not_lax false next stop rest isnt good = good

none_of : (c : ℕ) → nat_lt 0 c ≡ false → c ≡ 0
none_of zero is = refl
none_of (suc c) is = grind (arith, is, nat_tests)

pub at_stop_good : (c : ℕ) (next : Option ℕ) (stop reached : ℕ) (x : Ended) → c ≡ 0 → MayStop next x
    → is_good (if nat_lt 0 c then lax_message next stop else by_end (stop_by_status next stop reached) (stop_unseen next stop reached) x) ≡ true
at_stop_good c next stop reached x none may = not_lax (nat_lt 0 c) next stop _ (isnt_below 0 c (omega (arith, none))) (stop_good next stop reached x may)

pub at_stop_may : (c : ℕ) (next : Option ℕ) (stop reached : ℕ) (x : Ended)
    → is_good (if nat_lt 0 c then lax_message next stop else by_end (stop_by_status next stop reached) (stop_unseen next stop reached) x) ≡ true → (c ≡ 0) × MayStop next x
at_stop_may c next stop reached x good =
    let r = lax_or (nat_lt 0 c) next stop (by_end (stop_by_status next stop reached) (stop_unseen next stop reached) x) good in (none_of c r.0, stop_may next stop reached x r.1)

-- ---- at the end

abbrev pub MayBeDone : Ended → Type 0
MayBeDone (Status n) = n ≡ 0
MayBeDone (Signal n) = ⊥
MayBeDone Unseen = Unit {0}
MayBeDone Silent = ⊥
MayBeDone Lost = ⊥

pub may_be_done : (ss : List Bool) (x : Ended) → MayEnd ss done x → MayBeDone x
may_be_done ss (Status n) may = may
may_be_done ss (Signal n) may = may
may_be_done ss Unseen may = may
may_be_done ss Silent may = may
may_be_done ss Lost may = may

pub may_end_done : (ss : List Bool) (x : Ended) → MayBeDone x → MayEnd ss done x
may_end_done ss (Status n) may = may
may_end_done ss (Signal n) may = may
may_end_done ss Unseen may = may
may_end_done ss Silent may = may
may_end_done ss Lost may = may

zero_good : (b : Bool) (n : ℕ) → b ≡ true → is_good (if b then says.Good else says.StrictEnd n) ≡ true
zero_good true n is = refl
zero_good false n is = absurd (never_both false is refl)

good_zero : (b : Bool) (n : ℕ) → is_good (if b then says.Good else says.StrictEnd n) ≡ true → b ≡ true
good_zero true n good = refl
good_zero false n good = absurd (cc)

done_good : (x : Ended) → MayBeDone x → is_good (by_end (λ n. if n == 0 then says.Good else says.StrictEnd n) says.Good x) ≡ true
done_good (Status n) may = zero_good (n == 0) n (zero_is n may)
done_good (Signal n) may = absurd may
done_good Unseen may = refl
done_good Silent may = absurd may
done_good Lost may = absurd may

done_may : (x : Ended) → is_good (by_end (λ n. if n == 0 then says.Good else says.StrictEnd n) says.Good x) ≡ true → MayBeDone x
done_may (Status n) good = is_zero n (good_zero (n == 0) n good)
done_may (Signal n) good = absurd (cc)
done_may Unseen good = tt
done_may Silent good = absurd (cc)
done_may Lost good = absurd (cc)

over_tests : (r m l : Bool) (rest : Verdict) (lines : ℕ) → r ≡ false → m ≡ false → l ≡ false → is_good rest ≡ true
    → is_good (if r then says.Wrong lines else (if m then says.Unnarrated else if l then says.Loose else rest)) ≡ true
over_tests true m l rest lines isnt none whole good = absurd (never_both true refl isnt)
over_tests false true l rest lines isnt none whole good = absurd (never_both true refl none)
over_tests false false true rest lines isnt none whole good = absurd (never_both true refl whole)
over_tests false false false rest lines isnt none whole good = good

tests_over : (r m l : Bool) (rest : Verdict) (lines : ℕ) → is_good (if r then says.Wrong lines else (if m then says.Unnarrated else if l then says.Loose else rest)) ≡ true
    → (m ≡ false) × (l ≡ false) × (is_good rest ≡ true)
tests_over true m l rest lines good = absurd (cc)
tests_over false true l rest lines good = absurd (cc)
tests_over false false true rest lines good = absurd (cc)
tests_over false false false rest lines good = (refl, refl, good)

pub at_over_good : (r : Bool) (more : ℕ) (l : Bool) (x : Ended) (lines : ℕ) → r ≡ false → more ≡ 0 → l ≡ false → MayBeDone x
    → is_good (if r then says.Wrong lines else (if nat_lt 0 more then says.Unnarrated else if l then says.Loose else by_end (λ n. if n == 0 then says.Good else says.StrictEnd n) says.Good x)) ≡ true
at_over_good r more l x lines isnt none whole may = over_tests r (nat_lt 0 more) l _ lines isnt (isnt_below 0 more (omega (arith, none))) whole (done_good x may)

pub at_over_may : (r : Bool) (more : ℕ) (l : Bool) (x : Ended) (lines : ℕ)
    → is_good (if r then says.Wrong lines else (if nat_lt 0 more then says.Unnarrated else if l then says.Loose else by_end (λ n. if n == 0 then says.Good else says.StrictEnd n) says.Good x)) ≡ true
    → (more ≡ 0) × (l ≡ false) × MayBeDone x
at_over_may r more l x lines good =
    let t = tests_over r (nat_lt 0 more) l (by_end (λ n. if n == 0 then says.Good else says.StrictEnd n) says.Good x) lines good in (none_of more t.0, t.1, done_may x t.2)

-- before the end nothing is good
pub never_short : {X : Type 0} (r s : Bool) (x : Ended) (event lines : ℕ)
    → is_good (if r then says.Wrong lines else (if s then by_end (λ n. says.StrictMessage event n) (says.StrictUnseen event) x else by_end (λ n. says.StrictEnd n) says.Lost x)) ≡ true → X
never_short true s x event lines good = absurd (cc)
never_short false true (Status n) event lines good = absurd (cc)
never_short false true (Signal n) event lines good = absurd (cc)
never_short false true Unseen event lines good = absurd (cc)
never_short false true Silent event lines good = absurd (cc)
never_short false true Lost event lines good = absurd (cc)
never_short false false (Status n) event lines good = absurd (cc)
never_short false false (Signal n) event lines good = absurd (cc)
never_short false false Unseen event lines good = absurd (cc)
never_short false false Silent event lines good = absurd (cc)
never_short false false Lost event lines good = absurd (cc)

-- ---- a stop that is known

pub le_test : (a b : ℕ) → a ≤ b → nat_le a b ≡ true
le_test a b h = search (rules, arith)

pub le_tested : (a b : ℕ) → nat_le a b ≡ true → a ≤ b
le_tested a b h = elim (below_or_not b a) [
  | inl less ↦ absurd (never_both (nat_le a b) h (isnt_le a b less))
  | inr most ↦ most
] where
  isnt_le : (a b : ℕ) → b < a → nat_le a b ≡ false
  isnt_le a b less = search (rules, arith)

unrefused : (due : ℕ) (o : Option ℕ) → ((n : ℕ) → o ≡ Some n → due ≤ n) → option_map_or (λ n. nat_le due n) o true ≡ true
unrefused due None behind = refl
unrefused due (Some n) behind = le_test due n (behind n refl)

chosen : {X : Type 0} (b : Bool) (x y : X) → b ≡ true → (if b then x else y) ≡ x
chosen true x y is = refl
chosen false x y is = absurd (never_both false is refl)

both : (a b : Bool) → a ≡ true → b ≡ true → (a && b) ≡ true
both true b is it = it
both false b is it = absurd (never_both false is refl)

pub due_stops : (due lines : ℕ) (end : ReplayEnd) → due ≤ lines → ((n : ℕ) → refused_at end ≡ Some n → due ≤ n)
    → stops_when_due (Some due) lines end ≡ Stopped (record { event = due; at = 0 }) due
due_stops due lines end within behind = chosen _ _ end (both (nat_le due lines) _ (le_test due lines within) (unrefused due (refused_at end) behind))

pub not_due : (o : Option ℕ) (lines : ℕ) → ((due : ℕ) → o ≡ Some due → due ≤ lines → ⊥) → stops_when_due o lines Follows ≡ Follows
not_due None lines never = refl
not_due (Some due) lines never = by (nat_le due lines) refl where
  by : (b : Bool) → nat_le due lines ≡ b → (if b && true then Stopped (record { event = due; at = 0 }) due else Follows) ≡ Follows
  by true is = absurd (never due refl (le_tested due lines is))
  by false is = refl
