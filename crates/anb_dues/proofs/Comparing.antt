-- Of the case of a check: the code goes on up to the check, and sends the case's first messages.
use Rattle.std.proofs.Common.{◌≡◌, ℕ, zero, suc, ◌+◌, ◌<◌, ◌≤◌, List, [], ◌∷◌, ◌++◌, length, take, drop, Bool, true, false, Option, Some, None, refl, sym, ap, ◌∙◌, subst, arith, length-append}
use Rattle.std.specs.Prelude.{slice_get, unwrap_or, ◌==◌}
use Rattle.std.specs.Option.{option_map, option_and_then}
use Rattle.anb_lemmas.proofs.Numbers.{nat_eq-differs}
use Rattle.anb_term.specs.declared.term.Op.{Op}
use Rattle.anb_term.specs.FreeAlgebra.{terms, terms_over}
use Rattle.anb_term.specs.FreeLawful.{free_lawful}
use Rattle.anb_term.specs.Tree.{Tree, leaf}
use Rattle.anb_term.proofs.Lists.{slice_get-there}
use Rattle.anb_plays.specs.Plans.{Event, know, fresh, send, recv, known}
use Rattle.anb_plays.specs.Plays.{Played, stopped, ends}
use Rattle.anb_plays.specs.Codes.{Act, takes, draws, receives, sends, works, Work, make, undo, equal}
use Rattle.anb_plays.specs.Exec.{exec, on_written, worked, count_written, IsReady, IsVerified, HasTakes}
use Rattle.anb_plays.specs.Fits.{Place, Along, AnySend, AnyWork, AnyBorder, Follows, after_take, after_label, after_work, start}
use Rattle.anb_plays.specs.Honest.{made}
use Rattle.anb_plays.proofs.Exec.{exec_is_run, takes_ready}
use Rattle.anb_probe.specs.Cases.{drawn, less, run_in_terms, without}
use Rattle.anb_probe.proofs.Dropping.{end_said}
use Rattle.anb_distinguish.specs.Finding.{IsCheck}
use Rattle.anb_distinguish.proofs.Dropped.{taking_less}
use Rattle.anb_openings.specs.Steps.{Progress, begun, writing, drawing, saying, after, after_all}
use Rattle.anb_openings.proofs.Stepping.{all_same, count_is, worked_same}
use Rattle.anb_suite.specs.Reading.{read_behind, read_by}
use Rattle.anb_suite.specs.declared.reading.Reading.{Reading}
use Rattle.anb_suite.specs.declared.reading.Reading.TheVariants.{Both, First, Second}
use Rattle.anb_suite.proofs.Replaced.{taking_by}
use Rattle.anb_suite.proofs.Stepping.{kept}
use Rattle.anb_tries.proofs.Refusing.{EachFrom, from_all, from_first, from_rest}
use Rattle.anb_dues.proofs.Sending.{sends_first}

-- ---- a run that stops goes on up to there

pub any_ready : (has : Op → Bool) (n : ℕ) (w : Work) → IsReady has n w → IsReady (λ o. true) n w
any_ready has n (make o ns) r = (refl, r.1, r.2)
any_ready has n (undo o ks k) r = (refl, r.1, r.2, r.3)
any_ready has n (equal a b) r = r

module _ (has : Op → Bool) (made_terms : List Tree) (draw : ℕ → Tree) where
  abbrev at_progress : (table sent : List Tree) → (event drawn : ℕ) → (left : List Tree) → Progress Tree
  at_progress table sent event drawn left = record { table = table; sent = sent; event = event; drawn = drawn; left = left }

  -- the acts before the one of this number go on from there
  record GoesTo (acts : List Act) (s : Progress Tree) (at stop place : ℕ) : Type 0 where
    count : ℕ
    counts : place ≡ at + suc count
    reached : Progress Tree
    goes : after_all terms made_terms (take count acts) s ≡ Some reached
    event : reached.event ≡ stop

  one_more : (act : Act) (acts : List Act) (s t : Progress Tree) (at stop place : ℕ) → after terms made_terms act s ≡ Some t → GoesTo acts t (at + 1) stop place → GoesTo (act ∷ acts) s at stop place
  one_more act acts s t at stop place e g = record {
    count = suc g.count;
    counts = (let c = g.counts in omega (arith, c));
    reached = g.reached;
    goes = ap (option_and_then (after_all terms made_terms (take g.count acts))) e ∙ g.goes;
    event = g.event;
  }

  -- a name that is drawn
  abbrev Drawn : ℕ → Tree → Type 0
  Drawn i t = (slice_get made_terms i ≡ Some t) × (draw i ≡ t)

  -- the names of the plan from the i-th on are those that are drawn
  abbrev AreDrawn : ℕ → List Event → Type 0
  AreDrawn i es = EachFrom Drawn i (made es)

  by_written : (w : Work) (acts : List Act) (table sent : List Tree) (event i : ℕ) (left : List Tree) (at stop place : ℕ) (o : Option (List Tree)) → worked (terms_over has) table w ≡ o
      → ((ws : List Tree) → worked (terms_over has) table w ≡ Some ws → (exec (terms_over has) draw acts (table ++ ws) event (at + 1) i left).end ≡ stopped stop place → GoesTo acts (at_progress (table ++ ws) sent event i left) (at + 1) stop place)
      → (on_written o (λ ws. exec (terms_over has) draw acts (table ++ ws) event (at + 1) i left) (ends (stopped event (at + 1)) left)).end ≡ stopped stop place → GoesTo (works w ∷ acts) (at_progress table sent event i left) at stop place
  by_written w acts table sent event i left at stop place None e on s =
      let here : event ≡ stop = cc in
      let number : at + 1 ≡ place = cc in
      record { count = 0; counts = omega (arith, number); reached = at_progress table sent event i left; goes = refl; event = here }
  by_written w acts table sent event i left at stop place (Some ws) e on s =
      one_more (works w) acts (at_progress table sent event i left) (at_progress (table ++ ws) sent event i left) at stop place
      (ap (option_map (λ xs. writing xs (at_progress table sent event i left))) (sym (worked_same has table w) ∙ e)) (on ws e s)

  abbrev Ordered : List Act → List Event → Place → Type 0
  Ordered acts es pl = Along AnySend AnyWork AnyBorder acts es pl

  goes_to : (acts : List Act) (es : List Event) (pl : Place) (table sent : List Tree) (event i : ℕ) (left : List Tree) (at stop place : ℕ) → Ordered acts es pl → AreDrawn i es → IsVerified has acts (length table)
      → (exec (terms_over has) draw acts table event at i left).end ≡ stopped stop place → GoesTo acts (at_progress table sent event i left) at stop place
  goes_to [] es pl table sent event i left at stop place order are ready s = absurd (cc)
  goes_to (works w ∷ acts) es pl table sent event i left at stop place order are ready s =
      by_written w acts table sent event i left at stop place (worked (terms_over has) table w) refl
      (λ ws e stops.
      let long = count_is w table ws (any_ready has (length table) w ready.0) (sym (worked_same has table w) ∙ e) in
      let n : length table + count_written w ≡ length (table ++ ws) = omega (arith, long, length-append table ws) in
      goes_to acts es (after_work pl w) (table ++ ws) sent event i left (at + 1) stop place order.1 are (subst (IsVerified has acts) n ready.1) stops) s
  goes_to (takes ∷ acts) (know t ∷ es) pl table sent event i left at stop place order are ready s =
      one_more takes acts (at_progress table sent event i left) (at_progress table sent event i left) at stop place refl
      (goes_to acts es (after_take pl) table sent event i left (at + 1) stop place order are ready s)
  goes_to (draws ∷ acts) (fresh t ∷ es) pl table sent event i left at stop place order are ready s =
      let now = from_first Drawn i t (made es) are in
      let here = subst (λ x. (exec (terms_over has) draw acts (table ++ x ∷ []) event (at + 1) (i + 1) left).end ≡ stopped stop place) now.1 s in
      one_more draws acts (at_progress table sent event i left) (at_progress (table ++ t ∷ []) sent event (i + 1) left) at stop place
      (ap (option_map (λ x. drawing x (at_progress table sent event i left))) now.0)
      (goes_to acts es (after_label pl t) (table ++ t ∷ []) sent event (i + 1) left (at + 1) stop place order (from_rest Drawn i t (made es) are) (subst (IsVerified has acts) (sym (length-append table (t ∷ []))) ready) here)
  goes_to (receives ∷ acts) (recv t ∷ es) pl table sent event i [] at stop place order are ready s = absurd (cc)
  goes_to (receives ∷ acts) (recv t ∷ es) pl table sent event i (x ∷ left) at stop place order are ready s =
      one_more receives acts (at_progress table sent event i (x ∷ left)) (at_progress (table ++ x ∷ []) sent (event + 1) i left) at stop place refl
      (goes_to acts es (after_label pl t) (table ++ x ∷ []) sent (event + 1) i left (at + 1) stop place order.1 are (subst (IsVerified has acts) (sym (length-append table (x ∷ []))) ready) s)
  goes_to (sends r ∷ acts) (send t ∷ es) pl table sent event i left at stop place order are ready s =
      let x = slice_get-there table r ready.0 in
      one_more (sends r) acts (at_progress table sent event i left) (at_progress table (sent ++ x.0 ∷ []) (event + 1) i left) at stop place
      (ap (option_map (λ y. saying y (at_progress table sent event i left))) x.1)
      (goes_to acts es pl table (sent ++ x.0 ∷ []) (event + 1) i left (at + 1) stop place order.2 are ready.1 (sym (end_said (slice_get table r) (exec (terms_over has) draw acts table (event + 1) (at + 1) i left)) ∙ s))
  goes_to (takes ∷ acts) [] pl table sent event i left at stop place order are ready s = absurd order
  goes_to (takes ∷ acts) (fresh t ∷ es) pl table sent event i left at stop place order are ready s = absurd order
  goes_to (takes ∷ acts) (send t ∷ es) pl table sent event i left at stop place order are ready s = absurd order
  goes_to (takes ∷ acts) (recv t ∷ es) pl table sent event i left at stop place order are ready s = absurd order
  goes_to (draws ∷ acts) [] pl table sent event i left at stop place order are ready s = absurd order
  goes_to (draws ∷ acts) (know t ∷ es) pl table sent event i left at stop place order are ready s = absurd order
  goes_to (draws ∷ acts) (send t ∷ es) pl table sent event i left at stop place order are ready s = absurd order
  goes_to (draws ∷ acts) (recv t ∷ es) pl table sent event i left at stop place order are ready s = absurd order
  goes_to (receives ∷ acts) [] pl table sent event i left at stop place order are ready s = absurd order
  goes_to (receives ∷ acts) (know t ∷ es) pl table sent event i left at stop place order are ready s = absurd order
  goes_to (receives ∷ acts) (fresh t ∷ es) pl table sent event i left at stop place order are ready s = absurd order
  goes_to (receives ∷ acts) (send t ∷ es) pl table sent event i left at stop place order are ready s = absurd order
  goes_to (sends r ∷ acts) [] pl table sent event i left at stop place order are ready s = absurd order
  goes_to (sends r ∷ acts) (know t ∷ es) pl table sent event i left at stop place order are ready s = absurd order
  goes_to (sends r ∷ acts) (fresh t ∷ es) pl table sent event i left at stop place order are ready s = absurd order
  goes_to (sends r ∷ acts) (recv t ∷ es) pl table sent event i left at stop place order are ready s = absurd order

-- ---- of a role's code

pub record Reaches (has : Op → Bool) (plan : List Event) (acts : List Act) (arrivals : List Tree) (stop place : ℕ) : Type 0 where
  pub count : ℕ
  pub counts : place ≡ suc count
  pub before : Progress Tree
  pub comes : after_all terms (made plan) (take count acts) (begun (known plan) arrivals) ≡ Some before
  pub event : before.event ≡ stop

pub run_reaches : (has : Op → Bool) (plan : List Event) (acts : List Act) (arrivals : List Tree) (stop place : ℕ) → HasTakes has acts 0 (length (known plan)) → Follows acts plan
    → (run_in_terms has plan acts arrivals).end ≡ stopped stop place → Reaches has plan acts arrivals stop place
run_reaches has plan acts arrivals stop place taking order stops =
    let same = exec_is_run (terms_over has) (free_lawful has) (drawn plan) acts (known plan) arrivals taking in
    let here = ap (λ (q : Played Tree). q.end) same ∙ stops in
    let are = from_all (Drawn has (made plan) (drawn plan)) (made plan) (λ k t e. (e, ap (λ o. unwrap_or o (leaf 0)) e)) in
    let g = goes_to has (made plan) (drawn plan) acts plan (start plan) (known plan) [] 0 0 arrivals 0 stop place order are (takes_ready has acts 0 (length (known plan)) taking) here in
    record { count = g.count; counts = (let c = g.counts in omega (arith, c)); before = g.reached; comes = g.goes; event = g.event }

-- ---- a code that lacks a check begins as the code

abbrev Begins : List Act → List Act → Type 0
Begins front acts = (rest : List Act) × (acts ≡ front ++ rest)

read_front : (n check gone used : ℕ) (acts : List Act) → n ≤ check → Begins (take n acts) (read_behind check gone used acts)
read_front zero check gone used acts few = (read_behind check gone used acts, refl)
read_front (suc n) zero gone used acts few = absurd (omega (arith, few))
read_front (suc n) (suc check) gone used [] few = ([], refl)
read_front (suc n) (suc check) gone used (act ∷ acts) few = (let f = read_front n check gone used acts (omega (arith, few)) in (f.0, ap (λ l. act ∷ l) f.1))

read_begins : (reading : Reading) (n check a b : ℕ) (acts : List Act) → n ≤ check → Begins (take n acts) (read_by reading check a b acts)
read_begins Both n check a b acts few = (drop n acts, all n acts) where
  all : (n : ℕ) (acts : List Act) → acts ≡ take n acts ++ drop n acts
  all zero acts = refl
  all (suc n) [] = refl
  all (suc n) (act ∷ acts) = ap (λ l. act ∷ l) (all n acts)
read_begins First n check a b acts few = read_front n check b a acts few
read_begins Second n check a b acts few = read_front n check a b acts few

-- a number below another isn't it
pub below : (i n : ℕ) → i < n → (i == n) ≡ false
below i n less = nat_eq-differs i n (λ same. (let never : ⊥ = omega (arith, same, less) in never))

less_front : (check : ℕ) (front rest : List Act) (k : ℕ) → k + length front < check → Begins front (without (λ n. n == check) k (front ++ rest))
less_front check [] rest k few = (without (λ n. n == check) k rest, refl)
less_front check (act ∷ front) rest k few =
    let f = less_front check front rest (k + 1) (omega (arith, few)) in
    (f.0, kept check act (front ++ rest) k (below (k + 1) check (omega (arith, few))) ∙ ap (λ l. act ∷ l) f.1)

take_few : {A : Type 0} (n : ℕ) (xs : List A) → length (take n xs) ≤ n
take_few zero xs = omega arith
take_few (suc n) [] = omega arith
take_few (suc n) (x ∷ xs) = omega (arith, take_few n xs)

less_begins : (reading : Reading) (n check a b : ℕ) (acts : List Act) → check ≡ suc n → Begins (take n acts) (less check (read_by reading check a b acts))
less_begins reading n check a b acts is =
    let r = read_begins reading n check a b acts (omega (arith, is)) in
    let f = less_front check (take n acts) r.0 0 (omega (arith, is, take_few n acts)) in
    (f.0, ap (without (λ n. n == check) 0) r.1 ∙ f.1)

-- so it sends first what the code sends up to the check
pub less_sends : (has : Op → Bool) (plan : List Event) (acts : List Act) (reading : Reading) (check a b n : ℕ) (arrivals messages : List Tree) (before : Progress Tree) → IsCheck acts check a b → HasTakes has acts 0 (length (known plan)) → check ≡ suc n
    → after_all terms (made plan) (take n acts) (begun (known plan) arrivals) ≡ Some before → (run_in_terms has plan (less check (read_by reading check a b acts)) arrivals).sent ≡ messages → (more : List Tree) × (messages ≡ before.sent ++ more)
less_sends has plan acts reading check a b n arrivals messages before is taking number comes sent =
    let lacking = less check (read_by reading check a b acts) in
    let takes_too = taking_less check has (read_by reading check a b acts) 0 0 (length (known plan)) (taking_by has reading check a b acts (length (known plan)) is taking) in
    let same = exec_is_run (terms_over has) (free_lawful has) (drawn plan) lacking (known plan) arrivals takes_too in
    let parts = less_begins reading n check a b acts number in
    let drawn_is : (i : ℕ) (x : Tree) → slice_get (made plan) i ≡ Some x → drawn plan i ≡ x = λ i x e. ap (λ o. unwrap_or o (leaf 0)) e in
    let first = sends_first (terms_over has) (made plan) (drawn plan) drawn_is (take n acts) parts.0 (known plan) arrivals before (all_same has (made plan) (take n acts) (begun (known plan) arrivals) ∙ comes) in
    (first.0, sym sent ∙ ap (λ (q : Played Tree). q.sent) (sym same) ∙ ap (λ l. (exec (terms_over has) (drawn plan) l (known plan) 0 0 0 arrivals).sent) parts.1 ∙ first.1)
