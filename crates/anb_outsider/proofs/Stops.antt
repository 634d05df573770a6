-- Where a recording stops, by the names that the patterns of first events have.
use Rattle.std.proofs.Common.{◌≡◌, ℕ, zero, suc, ◌+◌, ◌<◌, ◌≤◌, List, [], ◌∷◌, length, map, take, Bool, true, Some, refl, sym, ap, ◌∙◌, subst, arith}
use Rattle.std.specs.Prelude.{slice_get, ◌==◌}
use Rattle.std.proofs.lemmas.Bool.{eq-eqb, eqb-true}
use Rattle.anb_term.specs.declared.term.Op.{Op}
use Rattle.anb_term.specs.Tree.{Tree}
use Rattle.anb_plays.specs.Plans.{Event}
use Rattle.anb_pattern.specs.Counts.{AreCounts, capped}
use Rattle.anb_pattern.specs.Variables.{count_in_each}
use Rattle.anb_accept.specs.Patterns.{ArePatterns}
use Rattle.anb_protocol.specs.Laws.{KnowsFirst}
use Rattle.anb_outsider.specs.Recordings.{drawn, is_drawn, messages_in, ReceivesAt, TakesRecording, StopsRecording}
use Rattle.anb_outsider.specs.Searching.{ends_from, IsUncounted, IsFirstCounted, GoesTo, StopsFor}
use Rattle.anb_outsider.proofs.Drawn.{drawn_at, is_drawn_at}
use Rattle.anb_outsider.proofs.Ends.{end_is, by_last, between}
use Rattle.anb_outsider.proofs.Firsts.{goes_as_far}
use Rattle.anb_outsider.proofs.Others.{taken, not_taken}

capped_none : (n : ℕ) → capped n ≡ 0 → n ≡ 0
capped_none zero h = refl
capped_none (suc zero) h = cc
capped_none (suc (suc n)) h = cc

capped_some : (n : ℕ) → (capped n ≡ 0 → ⊥) → 1 ≤ n
capped_some zero h = absurd (h refl)
capped_some (suc n) h = omega arith

module _ (has : Op → Bool) (names : ℕ) (plan : List Event) (k : ℕ) (patterns : List Tree) (are : ArePatterns has names (take k plan) patterns)
    (counts : List ℕ) (counted : AreCounts 0 (λ v. count_in_each v patterns) counts) (long : length counts ≡ names)
    (named : (i n : ℕ) → slice_get (drawn plan) i ≡ Some n → n < names) where
  here : (n : ℕ) → n < names → slice_get counts n ≡ Some (capped (count_in_each n patterns))
  here n l = let z : 0 + n ≡ n = omega arith in counted n (omega (arith, l, long)) ∙ ap (λ k. Some (capped (count_in_each k patterns))) z

  gone : (n : ℕ) → n < names → IsUncounted counts n → count_in_each n patterns ≡ 0
  gone n l un = capped_none (count_in_each n patterns) (un (capped (count_in_each n patterns)) (here n l))

  pub goes : ((i n : ℕ) → slice_get (drawn plan) i ≡ Some n → IsUncounted counts n) → GoesTo has names plan k
  goes none other only = taken names other has (take k plan) patterns are (λ n is. let d = drawn_at plan n (only n is) in gone n (named d.0 n d.1) (none d.0 n d.1))

  pub stops : (name : ℕ) → IsFirstCounted counts (drawn plan) name → StopsFor has names plan k name
  stops name is =
      let l = named is.draw name is.is in
      let same : is.count ≡ capped (count_in_each name patterns) = (let a = is.counted in let b = here name l in cc) in
      record {
        draw = is.draw;
        is = is.is;
        stops = λ other among. not_taken names other has (take k plan) patterns are name l among (capped_some (count_in_each name patterns) (λ z. is.some (same ∙ z)));
        first = λ i n before at. taken names (λ m. m == n) has (take k plan) patterns are
            (λ m e. let s = eqb-true m n e in subst (λ x. count_in_each x patterns ≡ 0) (sym s) (gone n (named i n at) (is.first i n before at)));
      }

-- the first end where a recording stops is that of its first stop
module _ (has : Op → Bool) (names : ℕ) (plan : List Event) where
  pub first_stop : (j e event name : ℕ) → slice_get (ends_from 0 plan) j ≡ Some e → event ≡ messages_in (take e plan) → StopsFor has names plan e name
      → ((k : ℕ) → ReceivesAt plan k → k + 1 < e → GoesTo has names plan (k + 1)) → StopsRecording has names plan event name
  first_stop j e event name at count stop before =
      let end = end_is plan 0 j e at in
      let is : e ≡ end.place + 1 = omega (arith, end.is) in
      let here = subst (λ n. StopsFor has names plan n name) is stop in
      record {
        place = end.place;
        receives = end.receives;
        event_is = count ∙ ap (λ n. messages_in (take n plan)) is;
        stops = here.stops (is_drawn plan) (is_drawn_at plan here.draw name here.is);
        before = λ k l r. before k r (omega (arith, is, l)) (is_drawn plan) (λ n h. h);
        draw = here.draw;
        name_is = here.is;
        for_name = here.stops (λ n. n == name) (eq-eqb name name refl);
        first = here.first;
      }

  -- what goes as far as the last end is taken
  pub whole : KnowsFirst plan → (j e : ℕ) → j + 1 ≡ length (ends_from 0 plan) → slice_get (ends_from 0 plan) j ≡ Some e → GoesTo has names plan e → TakesRecording has names plan
  whole knows j e last at goes k r = goes_as_far has names plan knows k e r (by_last plan j e k last at r) goes (is_drawn plan) (λ n h. h)

  -- as far as the next end everything before it goes
  pub next : KnowsFirst plan → (j a b k : ℕ) → slice_get (ends_from 0 plan) j ≡ Some a → slice_get (ends_from 0 plan) (j + 1) ≡ Some b → GoesTo has names plan a → ReceivesAt plan k → k + 1 < b → GoesTo has names plan (k + 1)
  next knows j a b k at then goes r l = goes_as_far has names plan knows k a r (between plan j a b k at then r l) goes
