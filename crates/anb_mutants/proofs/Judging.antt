-- Where all lines came and a child ended with the status 0, it went on over each stop: the verdict is not good.
use Rattle.std.proofs.Common.{◌≡◌, ℕ, zero, suc, ◌+◌, ◌≤◌, List, [], ◌∷◌, ◌++◌, length, drop, Bool, true, false, cond, Option, Some, None, refl, sym, ap, ◌∙◌, arith}
use Rattle.std.specs.Prelude.{nat_le, nat_lt, ◌&&◌, if◌then◌else◌}
use Rattle.std.specs.List.{position_from}
use Rattle.std.specs.Option.{option_map_or}
use Rattle.std.proofs.lemmas.Bool.{le-leb}
use Rattle.anb_lemmas.proofs.Bools.{never_both}
use Rattle.anb_lemmas.proofs.Numbers.{is_below}
use Rattle.anb_term.specs.Value.{Meaning, RecipeTree, label, value}
use Rattle.anb_term.specs.Demand.{all_hold}
use Rattle.anb_plays.specs.Codes.{Act, takes, draws, receives, sends, works, at_register, writes, demands}
use Rattle.anb_plays.specs.Fits.{Place, Along, AnySend, AnyWork, AnyBorder, after_take, after_label, after_work}
use Rattle.anb_plays.specs.Honest.{heard}
use Rattle.anb_plays.specs.Plans.{Event, know, fresh, send, recv}
use Rattle.anb_plays.specs.Plays.{Played, stopped, ends}
use Rattle.anb_plays.specs.Runs.{run_from}
use Rattle.anb_probe.proofs.Dropping.{end_said}
use Rattle.anb_transcript.specs.declared.following.Due.{Due}
use Rattle.anb_transcript.specs.declared.following.Due.TheVariants.{Send, Receive, End as Over}
use Rattle.anb_transcript.specs.declared.following.ReplayEnd.{ReplayEnd}
use Rattle.anb_transcript.specs.declared.following.ReplayEnd.TheVariants.{Follows, Differs, Short, Stopped, NoMemory}
use Rattle.anb_transcript.specs.declared.transcript.TranscriptLine.{TranscriptLine}
use Rattle.anb_transcript.specs.declared.transcript.TranscriptLine.TheVariants.{In, Out}
use Rattle.anb_transcript.specs.Replays.{arrivals_of, messages_of}
use Rattle.anb_judge.specs.Verdicts.{due_at, is_said, refused_at, sides, verdict}
use Rattle.anb_verdict.specs.declared.seen.Ended.TheVariants.{Status}
use Rattle.anb_verdict.specs.declared.seen.Seen.{Seen}
use Rattle.anb_verdict.specs.declared.verdict.Verdict.{Verdict}
use Rattle.anb_verdict.specs.Verdicts.{at_stop, by_end, came_behind, is_good, lax_message, next_said, stop_by_status, stop_unseen, stops_when_due, verdict_at, verdict_of}
use Rattle.anb_tries.proofs.Along.{Fits}

-- ---- where a code stops

module _ {A : Type 0} (m : Meaning A) (draw : ℕ → A) where
  by_demand : (b : Bool) (p : Played A) (e at f place n : ℕ) (left : List A) → (p.end ≡ stopped f place → f ≤ e + n) → (cond b p (ends (stopped e at) left)).end ≡ stopped f place → f ≤ e + n
  by_demand true p e at f place n left ih s = ih s
  by_demand false p e at f place n left ih s = let same : e ≡ f = cc in omega (arith, same)

  -- at one of the events of its plan
  pub stops_within : (acts : List Act) (es : List Event) (pl : Place) (regs : List RecipeTree) (vs : List A) (e at i : ℕ) (arrivals : List A) (f place : ℕ) → Along AnySend AnyWork AnyBorder acts es pl
      → (run_from m draw acts regs vs e at i arrivals).end ≡ stopped f place → f ≤ e + length (sides es)
  stops_within [] [] pl regs vs e at i arrivals f place order s = absurd (cc)
  stops_within [] (x ∷ es) pl regs vs e at i arrivals f place order s = absurd order
  stops_within (works w ∷ acts) es pl regs vs e at i arrivals f place order s =
      by_demand (all_hold m vs (demands regs w)) (run_from m draw acts (regs ++ writes regs w) vs e (at + 1) i arrivals) e (at + 1) f place (length (sides es)) arrivals
      (λ t. stops_within acts es (after_work pl w) (regs ++ writes regs w) vs e (at + 1) i arrivals f place order.1 t) s
  stops_within (takes ∷ acts) (know t ∷ es) pl regs vs e at i arrivals f place order s = stops_within acts es (after_take pl) (regs ++ label (length regs) ∷ []) vs e (at + 1) i arrivals f place order s
  stops_within (draws ∷ acts) (fresh t ∷ es) pl regs vs e at i arrivals f place order s =
      stops_within acts es (after_label pl t) (regs ++ label (length vs) ∷ []) (vs ++ draw i ∷ []) e (at + 1) (i + 1) arrivals f place order s
  stops_within (receives ∷ acts) (recv t ∷ es) pl regs vs e at i [] f place order s = absurd (cc)
  stops_within (receives ∷ acts) (recv t ∷ es) pl regs vs e at i (x ∷ arrivals) f place order s =
      omega (arith, stops_within acts es (after_label pl t) (regs ++ label (length vs) ∷ []) (vs ++ x ∷ []) (e + 1) (at + 1) i arrivals f place order.1 s)
  stops_within (sends r ∷ acts) (send t ∷ es) pl regs vs e at i arrivals f place order s =
      omega (arith, stops_within acts es pl regs vs (e + 1) (at + 1) i arrivals f place order.2 (sym (end_said (value m vs (at_register regs r)) (run_from m draw acts regs vs (e + 1) (at + 1) i arrivals)) ∙ s))
  stops_within (takes ∷ acts) [] pl regs vs e at i arrivals f place order s = absurd order
  stops_within (takes ∷ acts) (fresh t ∷ es) pl regs vs e at i arrivals f place order s = absurd order
  stops_within (takes ∷ acts) (send t ∷ es) pl regs vs e at i arrivals f place order s = absurd order
  stops_within (takes ∷ acts) (recv t ∷ es) pl regs vs e at i arrivals f place order s = absurd order
  stops_within (draws ∷ acts) [] pl regs vs e at i arrivals f place order s = absurd order
  stops_within (draws ∷ acts) (know t ∷ es) pl regs vs e at i arrivals f place order s = absurd order
  stops_within (draws ∷ acts) (send t ∷ es) pl regs vs e at i arrivals f place order s = absurd order
  stops_within (draws ∷ acts) (recv t ∷ es) pl regs vs e at i arrivals f place order s = absurd order
  stops_within (receives ∷ acts) [] pl regs vs e at i arrivals f place order s = absurd order
  stops_within (receives ∷ acts) (know t ∷ es) pl regs vs e at i arrivals f place order s = absurd order
  stops_within (receives ∷ acts) (fresh t ∷ es) pl regs vs e at i arrivals f place order s = absurd order
  stops_within (receives ∷ acts) (send t ∷ es) pl regs vs e at i arrivals f place order s = absurd order
  stops_within (sends r ∷ acts) [] pl regs vs e at i arrivals f place order s = absurd order
  stops_within (sends r ∷ acts) (know t ∷ es) pl regs vs e at i arrivals f place order s = absurd order
  stops_within (sends r ∷ acts) (fresh t ∷ es) pl regs vs e at i arrivals f place order s = absurd order
  stops_within (sends r ∷ acts) (recv t ∷ es) pl regs vs e at i arrivals f place order s = absurd order

-- ---- all lines

-- all arrivals are among them
pub heard_all : (es : List Event) (ls : List TranscriptLine) → Fits (sides es) ls → length (sides es) ≤ length ls → length (heard es) ≤ length (arrivals_of ls)
heard_all [] ls fits all = omega arith
heard_all (know t ∷ es) ls fits all = heard_all es ls fits all
heard_all (fresh t ∷ es) ls fits all = heard_all es ls fits all
heard_all (send t ∷ es) [] fits all = absurd (omega (arith, all))
heard_all (send t ∷ es) (In b ∷ ls) fits all = absurd (cc)
heard_all (send t ∷ es) (Out b ∷ ls) fits all = heard_all es ls (cc) (omega (arith, all))
heard_all (recv t ∷ es) [] fits all = absurd (omega (arith, all))
heard_all (recv t ∷ es) (Out b ∷ ls) fits all = absurd (cc)
heard_all (recv t ∷ es) (In b ∷ ls) fits all = omega (arith, heard_all es ls (cc) (omega (arith, all)))

-- where no message is behind a line, none is said there
none_said : (n k : ℕ) (ss : List Bool) (ls : List TranscriptLine) → Fits ss ls → length ss ≤ length ls → messages_of (drop n ls) ≡ [] → position_from (λ said. said) k (drop n ss) ≡ None
none_said zero k [] ls fits all none = refl
none_said zero k (s ∷ ss) [] fits all none = absurd (omega (arith, all))
none_said zero k (true ∷ ss) (In b ∷ ls) fits all none = absurd (cc)
none_said zero k (true ∷ ss) (Out b ∷ ls) fits all none = absurd (cc)
none_said zero k (false ∷ ss) (Out b ∷ ls) fits all none = absurd (cc)
none_said zero k (false ∷ ss) (In b ∷ ls) fits all none = none_said zero (k + 1) ss ls (cc) (omega (arith, all)) none
none_said (suc n) k [] ls fits all none = refl
none_said (suc n) k (s ∷ ss) [] fits all none = absurd (omega (arith, all))
none_said (suc n) k (true ∷ ss) (In b ∷ ls) fits all none = absurd (cc)
none_said (suc n) k (true ∷ ss) (Out b ∷ ls) fits all none = none_said n k ss ls (cc) (omega (arith, all)) none
none_said (suc n) k (false ∷ ss) (Out b ∷ ls) fits all none = absurd (cc)
none_said (suc n) k (false ∷ ss) (In b ∷ ls) fits all none = none_said n k ss ls (cc) (omega (arith, all)) none

-- ---- the verdict

either_bad : (b : Bool) (one other : Verdict) → (b ≡ true → is_good one ≡ false) → (b ≡ false → is_good other ≡ false) → is_good (if b then one else other) ≡ false
either_bad true one other f g = f refl
either_bad false one other f g = g refl

lax_bad : (o : Option ℕ) (stop : ℕ) → is_good (lax_message o stop) ≡ false
lax_bad (Some event) stop = refl
lax_bad None stop = refl

none_of : {A : Type 0} (xs : List A) (n : ℕ) → nat_lt 0 (length xs + n) ≡ false → xs ≡ []
none_of [] n e = refl
none_of (x ∷ xs) n e = absurd (never_both (nat_lt 0 (length (x ∷ xs) + n)) (is_below 0 (length (x ∷ xs) + n) (omega arith)) e)

module _ (ss : List Bool) (lines : List TranscriptLine) (seen : Seen) (fits : Fits ss lines) (all : length ss ≤ length lines) (status : seen.ended ≡ Status 0) where
  stop_bad : (stop : ℕ) → is_good (at_stop ss lines seen stop) ≡ false
  stop_bad stop =
      let said = next_said ss stop in
      either_bad (nat_lt 0 (came_behind stop lines seen.more)) (lax_message said stop) (by_end (stop_by_status said stop seen.reached) (stop_unseen said stop seen.reached) seen.ended) (λ came. lax_bad said stop)
      (λ none.
      let no_message = none_of (messages_of (drop stop lines)) seen.more none in
      ap (λ e. is_good (by_end (stop_by_status said stop seen.reached) (stop_unseen said stop seen.reached) e)) status
      ∙ ap (λ o. is_good (stop_by_status o stop seen.reached 0)) (none_said stop (stop + 1) ss lines fits all no_message))

  differs_bad : (line : ℕ) (due : Due) → is_good (verdict_at ss lines seen (Differs line due)) ≡ false
  differs_bad line (Send message) = refl
  differs_bad line Receive = refl
  differs_bad line Over = refl

  module _ (event : ℕ) (few : event ≤ length lines) where
    -- what is known of a stop is told, unless a line before is refused
    abbrev told : Bool → ReplayEnd → ReplayEnd
    told b end = if nat_le event (length lines) && b then Stopped (record { event = event; at = 0 }) event else end

    by_told : (b : Bool) (end : ReplayEnd) → (b ≡ false → is_good (verdict_at ss lines seen end) ≡ false) → is_good (verdict_at ss lines seen (told b end)) ≡ false
    by_told b end other = ap (λ x. is_good (verdict_at ss lines seen (if x && b then Stopped (record { event = event; at = 0 }) event else end))) (le-leb event (length lines) few) ∙ by b other where
      by : (b : Bool) → (b ≡ false → is_good (verdict_at ss lines seen end) ≡ false) → is_good (verdict_at ss lines seen (if b then Stopped (record { event = event; at = 0 }) event else end)) ≡ false
      by true other = stop_bad event
      by false other = other refl

    never_false : {X : Type 0} → true ≡ false → X
    never_false e = absurd (cc)

    due_bad : (end : ReplayEnd) → is_good (verdict_at ss lines seen (stops_when_due (Some event) (length lines) end)) ≡ false
    due_bad Follows = by_told true Follows (λ e. never_false e)
    due_bad (Short at) = by_told true (Short at) (λ e. never_false e)
    due_bad NoMemory = by_told true NoMemory (λ e. never_false e)
    due_bad (Differs line due) = by_told (nat_le event line) (Differs line due) (λ e. differs_bad line due)
    due_bad (Stopped halt line) = by_told (nat_le event line) (Stopped halt line) (λ e. stop_bad line)

    pub verdict_bad : seen.due ≡ Some event → (end : ReplayEnd) → is_good (verdict_of ss end lines seen) ≡ false
    verdict_bad due end = ap (λ o. is_good (verdict_at ss lines seen (stops_when_due o (length lines) end))) due ∙ due_bad end

  -- ---- where who sees the role stops

  by_known : (b : Bool) (end : ReplayEnd) → is_good (verdict_at ss lines seen end) ≡ false → (due : ℕ) → is_good (verdict_at ss lines seen (if b then Stopped (record { event = due; at = 0 }) due else end)) ≡ false
  by_known true end bad due = stop_bad due
  by_known false end bad due = bad

  bad_anyhow : (o : Option ℕ) (end : ReplayEnd) → is_good (verdict_at ss lines seen end) ≡ false → is_good (verdict_at ss lines seen (stops_when_due o (length lines) end)) ≡ false
  bad_anyhow None end bad = bad
  bad_anyhow (Some due) end bad = by_known (nat_le due (length lines) && option_map_or (λ n. nat_le due n) (refused_at end) true) end bad due

  pub stopped_bad : (event : ℕ) → is_good (verdict_of ss (verdict ss (length lines) (stopped event 0)) lines seen) ≡ false
  stopped_bad event = bad_anyhow seen.due (verdict ss (length lines) (stopped event 0)) (by (is_said ss event)) where
    by : (b : Bool) → is_good (verdict_at ss lines seen (if b then Differs event (due_at ss event) else Stopped (record { event = event; at = 0 }) event)) ≡ false
    by true = differs_bad event (due_at ss event)
    by false = stop_bad event
