-- A code that reads one register for another behind a check: it follows the plan, and stops at the check as the code does.
use Rattle.std.proofs.Common.{◌≡◌, ℕ, zero, suc, ◌+◌, ◌<◌, ◌≤◌, List, [], ◌∷◌, ◌++◌, map, Bool, true, false, cond, sym, ◌∙◌, arith}
use Rattle.anb_term.specs.Value.{Meaning, RecipeTree, label, value}
use Rattle.anb_term.specs.Demand.{all_hold}
use Rattle.anb_plays.specs.Plans.{Event, know, fresh, send, recv, known}
use Rattle.anb_plays.specs.Plays.{Played, stopped, ends}
use Rattle.anb_plays.specs.Codes.{Act, takes, draws, receives, sends, works, at_register, writes, demands}
use Rattle.anb_plays.specs.Fits.{Along, AnySend, AnyWork, AnyBorder, Follows, Place, after_take, after_label, after_work, start}
use Rattle.anb_plays.specs.Runs.{run_from}
use Rattle.anb_plays.specs.Honest.{honest}
use Rattle.anb_probe.specs.Laws.{DiffersInPlace, LessGoesOn, StopsThere}
use Rattle.anb_probe.proofs.Dropping.{end_said}
use Rattle.anb_suite.specs.declared.reading.Reading.{Reading}
use Rattle.anb_suite.specs.declared.reading.Reading.TheVariants.{Both, First, Second}
use Rattle.anb_suite.specs.Reading.{OneForOtherDiffers, OneForOtherGoesOn, OneForOtherStops, act_for, read_behind, read_by, work_for}

-- ---- the order of a plan says nothing of registers

module _ (gone used : ℕ) where
  abbrev Ordered : List Act → List Event → Place → Type 0
  Ordered acts es s = Along AnySend AnyWork AnyBorder acts es s

  order_for : (acts : List Act) (es : List Event) (s t : Place) → Ordered acts es s → Ordered (map (act_for gone used) acts) es t
  order_for [] [] s t h = tt
  order_for [] (e ∷ es) s t h = absurd h
  order_for (works w ∷ acts) es s t h = (tt, order_for acts es (after_work s w) (after_work t (work_for gone used w)) h.1)
  order_for (takes ∷ acts) [] s t h = absurd h
  order_for (takes ∷ acts) (know x ∷ es) s t h = order_for acts es (after_take s) (after_take t) h
  order_for (takes ∷ acts) (fresh x ∷ es) s t h = absurd h
  order_for (takes ∷ acts) (send x ∷ es) s t h = absurd h
  order_for (takes ∷ acts) (recv x ∷ es) s t h = absurd h
  order_for (draws ∷ acts) [] s t h = absurd h
  order_for (draws ∷ acts) (know x ∷ es) s t h = absurd h
  order_for (draws ∷ acts) (fresh x ∷ es) s t h = order_for acts es (after_label s x) (after_label t x) h
  order_for (draws ∷ acts) (send x ∷ es) s t h = absurd h
  order_for (draws ∷ acts) (recv x ∷ es) s t h = absurd h
  order_for (receives ∷ acts) [] s t h = absurd h
  order_for (receives ∷ acts) (know x ∷ es) s t h = absurd h
  order_for (receives ∷ acts) (fresh x ∷ es) s t h = absurd h
  order_for (receives ∷ acts) (send x ∷ es) s t h = absurd h
  order_for (receives ∷ acts) (recv x ∷ es) s t h = (tt, order_for acts es (after_label s x) (after_label t x) h.1)
  order_for (sends r ∷ acts) [] s t h = absurd h
  order_for (sends r ∷ acts) (know x ∷ es) s t h = absurd h
  order_for (sends r ∷ acts) (fresh x ∷ es) s t h = absurd h
  order_for (sends r ∷ acts) (send x ∷ es) s t h = (tt, tt, order_for acts es s t h.2)
  order_for (sends r ∷ acts) (recv x ∷ es) s t h = absurd h

  order_behind : (n : ℕ) (acts : List Act) (es : List Event) (s : Place) → Ordered acts es s → Ordered (read_behind n gone used acts) es s
  order_behind zero acts es s h = order_for acts es s s h
  order_behind (suc n) [] es s h = h
  order_behind (suc n) (works w ∷ acts) es s h = (tt, order_behind n acts es (after_work s w) h.1)
  order_behind (suc n) (takes ∷ acts) [] s h = absurd h
  order_behind (suc n) (takes ∷ acts) (know x ∷ es) s h = order_behind n acts es (after_take s) h
  order_behind (suc n) (takes ∷ acts) (fresh x ∷ es) s h = absurd h
  order_behind (suc n) (takes ∷ acts) (send x ∷ es) s h = absurd h
  order_behind (suc n) (takes ∷ acts) (recv x ∷ es) s h = absurd h
  order_behind (suc n) (draws ∷ acts) [] s h = absurd h
  order_behind (suc n) (draws ∷ acts) (know x ∷ es) s h = absurd h
  order_behind (suc n) (draws ∷ acts) (fresh x ∷ es) s h = order_behind n acts es (after_label s x) h
  order_behind (suc n) (draws ∷ acts) (send x ∷ es) s h = absurd h
  order_behind (suc n) (draws ∷ acts) (recv x ∷ es) s h = absurd h
  order_behind (suc n) (receives ∷ acts) [] s h = absurd h
  order_behind (suc n) (receives ∷ acts) (know x ∷ es) s h = absurd h
  order_behind (suc n) (receives ∷ acts) (fresh x ∷ es) s h = absurd h
  order_behind (suc n) (receives ∷ acts) (send x ∷ es) s h = absurd h
  order_behind (suc n) (receives ∷ acts) (recv x ∷ es) s h = (tt, order_behind n acts es (after_label s x) h.1)
  order_behind (suc n) (sends r ∷ acts) [] s h = absurd h
  order_behind (suc n) (sends r ∷ acts) (know x ∷ es) s h = absurd h
  order_behind (suc n) (sends r ∷ acts) (fresh x ∷ es) s h = absurd h
  order_behind (suc n) (sends r ∷ acts) (send x ∷ es) s h = (tt, tt, order_behind n acts es s h.2)
  order_behind (suc n) (sends r ∷ acts) (recv x ∷ es) s h = absurd h

follows_by : (reading : Reading) (check a b : ℕ) (acts : List Act) (plan : List Event) → Follows acts plan → Follows (read_by reading check a b acts) plan
follows_by Both check a b acts plan h = h
follows_by First check a b acts plan h = order_behind b a check acts plan (start plan) h
follows_by Second check a b acts plan h = order_behind a b check acts plan (start plan) h

-- ---- where a run stops up to there, the other stops

module _ {A : Type 0} (m : Meaning A) (draw : ℕ → A) where
  by_hold : (b : Bool) (p : Played A) (e at stop place : ℕ) (left : List A) → (p.end ≡ stopped stop place → at + 1 < place) → (cond b p (ends (stopped e (at + 1)) left)).end ≡ stopped stop place → at < place
  by_hold true p e at stop place left f s = (let l = f s in omega arith)
  by_hold false p e at stop place left f s = (let q : at + 1 ≡ place = cc in omega arith)

  -- it stops behind the instructions that were done
  stops_later : (acts : List Act) (regs : List RecipeTree) (vs : List A) (e at i : ℕ) (arrivals : List A) (stop place : ℕ) → (run_from m draw acts regs vs e at i arrivals).end ≡ stopped stop place → at < place
  stops_later [] regs vs e at i arrivals stop place s = cc
  stops_later (takes ∷ acts) regs vs e at i arrivals stop place s = (let l = stops_later acts (regs ++ label _ ∷ []) vs e (at + 1) i arrivals stop place s in omega arith)
  stops_later (draws ∷ acts) regs vs e at i arrivals stop place s = (let l = stops_later acts (regs ++ label _ ∷ []) (vs ++ draw i ∷ []) e (at + 1) (i + 1) arrivals stop place s in omega arith)
  stops_later (receives ∷ acts) regs vs e at i [] stop place s = cc
  stops_later (receives ∷ acts) regs vs e at i (x ∷ arrivals) stop place s = (let l = stops_later acts (regs ++ label _ ∷ []) (vs ++ x ∷ []) (e + 1) (at + 1) i arrivals stop place s in omega arith)
  stops_later (sends r ∷ acts) regs vs e at i arrivals stop place s =
      (let l = stops_later acts regs vs (e + 1) (at + 1) i arrivals stop place (sym (end_said (value m vs (at_register regs r)) (run_from m draw acts regs vs (e + 1) (at + 1) i arrivals)) ∙ s) in omega arith)
  stops_later (works w ∷ acts) regs vs e at i arrivals stop place s =
      by_hold (all_hold m vs (demands regs w)) (run_from m draw acts (regs ++ writes regs w) vs e (at + 1) i arrivals) e at stop place arrivals (λ t. stops_later acts (regs ++ writes regs w) vs e (at + 1) i arrivals stop place t) s

  module _ (gone used : ℕ) where
    on_hold : (b : Bool) (p q : Played A) (e at stop place : ℕ) (left : List A) → (q.end ≡ stopped stop place → p.end ≡ stopped stop place)
        → (cond b q (ends (stopped e at) left)).end ≡ stopped stop place → (cond b p (ends (stopped e at) left)).end ≡ stopped stop place
    on_hold true p q e at stop place left f s = f s
    on_hold false p q e at stop place left f s = s

    stops_too : (n : ℕ) (acts : List Act) (regs : List RecipeTree) (vs : List A) (e at i : ℕ) (arrivals : List A) (stop place : ℕ) → place ≤ at + n
        → (run_from m draw (read_behind n gone used acts) regs vs e at i arrivals).end ≡ stopped stop place → (run_from m draw acts regs vs e at i arrivals).end ≡ stopped stop place
    stops_too zero acts regs vs e at i arrivals stop place l s =
        absurd (let late = stops_later (map (act_for gone used) acts) regs vs e at i arrivals stop place s in omega (arith, late, l))
    stops_too (suc n) [] regs vs e at i arrivals stop place l s = s
    stops_too (suc n) (takes ∷ acts) regs vs e at i arrivals stop place l s = stops_too n acts (regs ++ label _ ∷ []) vs e (at + 1) i arrivals stop place (omega (arith, l)) s
    stops_too (suc n) (draws ∷ acts) regs vs e at i arrivals stop place l s = stops_too n acts (regs ++ label _ ∷ []) (vs ++ draw i ∷ []) e (at + 1) (i + 1) arrivals stop place (omega (arith, l)) s
    stops_too (suc n) (receives ∷ acts) regs vs e at i [] stop place l s = s
    stops_too (suc n) (receives ∷ acts) regs vs e at i (x ∷ arrivals) stop place l s = stops_too n acts (regs ++ label _ ∷ []) (vs ++ x ∷ []) (e + 1) (at + 1) i arrivals stop place (omega (arith, l)) s
    stops_too (suc n) (sends r ∷ acts) regs vs e at i arrivals stop place l s =
        let o = value m vs (at_register regs r) in
        end_said o (run_from m draw acts regs vs (e + 1) (at + 1) i arrivals)
        ∙ stops_too n acts regs vs (e + 1) (at + 1) i arrivals stop place (omega (arith, l)) (sym (end_said o (run_from m draw (read_behind n gone used acts) regs vs (e + 1) (at + 1) i arrivals)) ∙ s)
    stops_too (suc n) (works w ∷ acts) regs vs e at i arrivals stop place l s =
        on_hold (all_hold m vs (demands regs w)) (run_from m draw acts (regs ++ writes regs w) vs e (at + 1) i arrivals) (run_from m draw (read_behind n gone used acts) (regs ++ writes regs w) vs e (at + 1) i arrivals) e (at + 1) stop place arrivals
        (λ t. stops_too n acts (regs ++ writes regs w) vs e (at + 1) i arrivals stop place (omega (arith, l)) t) s

  -- the code stops at the check where it does as it is read so
  pub stops_by : (reading : Reading) (check a b : ℕ) (acts : List Act) (init arrivals : List A) (stop : ℕ)
      → (run_from m draw (read_by reading check a b acts) [] init 0 0 0 arrivals).end ≡ stopped stop check → (run_from m draw acts [] init 0 0 0 arrivals).end ≡ stopped stop check
  stops_by Both check a b acts init arrivals stop s = s
  stops_by First check a b acts init arrivals stop s = stops_too b a check acts [] init 0 0 0 arrivals stop check (omega arith) s
  stops_by Second check a b acts init arrivals stop s = stops_too a b check acts [] init 0 0 0 arrivals stop check (omega arith) s

-- ---- the laws

pub one_goes_on : {A : Type 0} (m : Meaning A) → LessGoesOn m → OneForOtherGoesOn m
one_goes_on m less names plan code reading check a b case drops atoms draw is follows formed values dropped =
    less names plan (read_by reading check a b code) check case drops atoms draw is (follows_by reading check a b code plan follows) formed values dropped

pub one_stops : {A : Type 0} (m : Meaning A) → StopsThere m → OneForOtherStops m
one_stops m stops names plan code reading check a b case atoms draw is follows formed values differ =
    let at = (stops names plan (read_by reading check a b code) check case atoms draw is (follows_by reading check a b code plan follows) formed values).differ differ in
    (at.0, stops_by m draw reading check a b code (map (honest m atoms) (known plan)) (map (honest m atoms) case.arrivals) at.0 at.1)

pub one_differs : {A : Type 0} (m : Meaning A) → DiffersInPlace m → OneForOtherDiffers m
one_differs m in_place names plan code reading check a b case place atoms draw is follows formed values differ wrong =
    let at = in_place names plan (read_by reading check a b code) check case place atoms draw is (follows_by reading check a b code plan follows) formed values differ wrong in
    (at.0, stops_by m draw reading check a b code (map (honest m atoms) (known plan)) (map (honest m atoms) case.arrivals) at.0 at.1)
