-- A code that follows a plan does the plan's turns in order, or stops before one of them.
use Rattle.std.proofs.Common.{◌≡◌, ℕ, ◌+◌, List, [], ◌∷◌, ◌++◌, length, map, Bool, true, false, Option, Some, None, refl, sym, ap, ◌∙◌, subst, inl, inr, length-append}
use Rattle.std.specs.Prelude.{filter_map, slice_get}
use Rattle.anb_term.specs.Lawful.{Lawful}
use Rattle.anb_term.specs.Value.{Meaning}
use Rattle.anb_term.proofs.Lists.{slice_get-there}
use Rattle.anb_plays.specs.Plays.{stopped, ends, Run}
use Rattle.anb_plays.specs.Codes.{Act, takes, draws, receives, sends, works}
use Rattle.anb_plays.specs.Runs.{says_if}
use Rattle.anb_plays.specs.Exec.{exec, worked, on_written, IsVerified, count_written}
use Rattle.anb_plays.specs.Fits.{Place, Along, AnySend, AnyWork, AnyBorder, after_take, after_label, after_work}
use Rattle.anb_machine.proofs.Works.{written_count}
use Rattle.anb_protocol.specs.Plans.{PlanEvent, to_know, to_make, to_send, to_receive}
use Rattle.anb_protocol.specs.Plays.{event_of}
use Rattle.anb_protocol.specs.Schedules.{Turn}
use Rattle.anb_honest.specs.Acting.{StopsNow, ActsFirst, KeepsOrder}
use Rattle.anb_honest.specs.Inside.{part_of}

acts_same : (b : Bool) (P : Run → Type 0) (f g : Run) → ((xs : List (List ℕ)) → f xs ≡ g xs)
    → ((h k : Run) → ((xs : List (List ℕ)) → h xs ≡ k xs) → P h → P k) → ActsFirst b f P → ActsFirst b g P
acts_same true P f g same ih a = (a.0, a.1, λ xs. sym (same xs) ∙ a.2 xs, a.3)
acts_same false P f g same ih a =
    (a.0, sym (same []) ∙ a.1, λ x. ih (λ xs. f (x ∷ xs)) (λ xs. g (x ∷ xs)) (λ xs. same (x ∷ xs)) (a.2 x))

-- the same order holds of what gives the same
pub order_same : (ts : List Turn) (f g : Run) → ((xs : List (List ℕ)) → f xs ≡ g xs) → KeepsOrder ts f → KeepsOrder ts g
order_same [] f g same k = tt
order_same (t ∷ ts) f g same (inl s) = inl (s.0, λ xs. sym (same xs) ∙ s.1 xs)
order_same (t ∷ ts) f g same (inr a) = inr (acts_same t.sends (KeepsOrder ts) f g same (order_same ts) a)

stops_keep : (ts : List Turn) (f : Run) → StopsNow f → KeepsOrder ts f
stops_keep [] f s = tt
stops_keep (t ∷ ts) f s = inl s

module _ (m : Meaning (List ℕ)) (lawful : Lawful m) (draw : ℕ → List ℕ) (role : ℕ) where
  worked_order : (acts : List Act) (ts : List Turn) (table : List (List ℕ)) (e at i : ℕ) (o : Option (List (List ℕ)))
      → ((ws : List (List ℕ)) → o ≡ Some ws → KeepsOrder ts (λ arrivals. exec m draw acts (table ++ ws) e (at + 1) i arrivals))
      → KeepsOrder ts (λ arrivals. on_written o (λ ws. exec m draw acts (table ++ ws) e (at + 1) i arrivals) (ends (stopped e (at + 1)) arrivals))
  worked_order acts ts table e at i None ih = stops_keep ts _ (record { event = e; at = at + 1 }, λ xs. refl)
  worked_order acts ts table e at i (Some ws) ih = ih ws refl

  said_order : (acts : List Act) (ts : List Turn) (number : ℕ) (table : List (List ℕ)) (e at i : ℕ) (o : Option (List ℕ)) (b : List ℕ) → o ≡ Some b
      → KeepsOrder ts (λ arrivals. exec m draw acts table (e + 1) (at + 1) i arrivals)
      → KeepsOrder (record { role = role; action = number; sends = true } ∷ ts) (λ arrivals. says_if o (exec m draw acts table (e + 1) (at + 1) i arrivals))
  said_order acts ts number table e at i o b is ih =
      inr (b, λ arrivals. exec m draw acts table (e + 1) (at + 1) i arrivals, λ xs. ap (λ q. says_if q (exec m draw acts table (e + 1) (at + 1) i xs)) is, ih)

  along : (acts : List Act) (plan : List PlanEvent) (s : Place) (table : List (List ℕ)) (e at i : ℕ)
      → Along AnySend AnyWork AnyBorder acts (map event_of plan) s → IsVerified m.has acts (length table)
      → KeepsOrder (filter_map (part_of role) plan) (λ arrivals. exec m draw acts table e at i arrivals)
  along [] [] s table e at i f v = tt
  along [] (x ∷ plan) s table e at i f v = absurd f
  along (works w ∷ acts) plan s table e at i f v =
      worked_order acts (filter_map (part_of role) plan) table e at i (worked m table w)
      (λ ws is. along acts plan (after_work s w) (table ++ ws) e (at + 1) i f.1
      (let n : length table + count_written w ≡ length (table ++ ws) = sym (length-append table ws ∙ ap (λ k. length table + k) (written_count m lawful table ws w v.0 is)) in
      subst (IsVerified m.has acts) n v.1))
  along (takes ∷ acts) (to_know t ∷ plan) s table e at i f v = along acts plan (after_take s) table e (at + 1) i f v
  along (draws ∷ acts) (to_make t ∷ plan) s table e at i f v =
      along acts plan (after_label s t) (table ++ draw i ∷ []) e (at + 1) (i + 1) f (subst (IsVerified m.has acts) (sym (length-append table (draw i ∷ []))) v)
  along (receives ∷ acts) (to_receive n t ∷ plan) s table e at i f v =
      inr (e + 1, refl, λ x. along acts plan (after_label s t) (table ++ x ∷ []) (e + 1) (at + 1) i f.1 (subst (IsVerified m.has acts) (sym (length-append table (x ∷ []))) v))
  along (sends r ∷ acts) (to_send n t ∷ plan) s table e at i f v =
      let there = slice_get-there table r v.0 in
      said_order acts (filter_map (part_of role) plan) n table e at i (slice_get table r) there.0 there.1 (along acts plan s table (e + 1) (at + 1) i f.2 v.1)
  along (takes ∷ acts) [] s table e at i f v = absurd f
  along (takes ∷ acts) (to_make t ∷ plan) s table e at i f v = absurd f
  along (takes ∷ acts) (to_send n t ∷ plan) s table e at i f v = absurd f
  along (takes ∷ acts) (to_receive n t ∷ plan) s table e at i f v = absurd f
  along (draws ∷ acts) [] s table e at i f v = absurd f
  along (draws ∷ acts) (to_know t ∷ plan) s table e at i f v = absurd f
  along (draws ∷ acts) (to_send n t ∷ plan) s table e at i f v = absurd f
  along (draws ∷ acts) (to_receive n t ∷ plan) s table e at i f v = absurd f
  along (receives ∷ acts) [] s table e at i f v = absurd f
  along (receives ∷ acts) (to_know t ∷ plan) s table e at i f v = absurd f
  along (receives ∷ acts) (to_make t ∷ plan) s table e at i f v = absurd f
  along (receives ∷ acts) (to_send n t ∷ plan) s table e at i f v = absurd f
  along (sends r ∷ acts) [] s table e at i f v = absurd f
  along (sends r ∷ acts) (to_know t ∷ plan) s table e at i f v = absurd f
  along (sends r ∷ acts) (to_make t ∷ plan) s table e at i f v = absurd f
  along (sends r ∷ acts) (to_receive n t ∷ plan) s table e at i f v = absurd f

  -- what an act and the acts behind it do over a table that is long enough
  pub keeps : (acts : List Act) (plan : List PlanEvent) (s : Place) (init : List (List ℕ))
      → Along AnySend AnyWork AnyBorder acts (map event_of plan) s → IsVerified m.has acts (length init)
      → KeepsOrder (filter_map (part_of role) plan) (λ arrivals. exec m draw acts init 0 0 0 arrivals)
  keeps acts plan s init f v = along acts plan s init 0 0 0 f v
