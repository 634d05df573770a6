-- The narrated terms of a code's registers solve its equations.
use Rattle.std.proofs.Common.{◌≡◌, ℕ, zero, suc, ◌+◌, ◌<◌, ◌≤◌, List, [], ◌∷◌, ◌++◌, length, map, drop, Bool, Some, refl, sym, ap, ◌∙◌, subst, arith, ⊎_elim, length-append}
use Rattle.std.specs.Prelude.{slice_get}
use Rattle.std.specs.List.{AllByRecursion}
use Rattle.std.proofs.lemmas.Bool.{cases_lt}
use Rattle.std.proofs.lemmas.List.{append-nil}
use Rattle.anb_lemmas.proofs.Lists.{drop_got, get_last, got_within}
use Rattle.anb_base.specs.declared.content.Suite.{Suite}
use Rattle.anb_format.specs.Formats.{FormatValue}
use Rattle.anb_term.specs.declared.term.Op.{Op}
use Rattle.anb_term.specs.Tree.{Tree}
use Rattle.anb_term.specs.Value.{values, recipe_trees}
use Rattle.anb_term.specs.FreeAlgebra.{terms_over}
use Rattle.anb_term.proofs.Lists.{slice_get-append}
use Rattle.anb_algebra.specs.ByteMeaning.{byte_meaning, has_operator}
use Rattle.anb_plays.specs.Plans.{Event, known}
use Rattle.anb_plays.specs.Codes.{Act, takes, draws, receives, sends, works, Work, make, undo, equal}
use Rattle.anb_plays.specs.Exec.{count_written, IsReady, NoTakes, HasTakes}
use Rattle.anb_plays.specs.Fits.{Along, AnySend, AnyBorder, IsSound, start}
use Rattle.anb_plays.specs.Honest.{heard, made}
use Rattle.anb_protocol.specs.Plans.{PlanEvent, to_know, to_make, to_send, to_receive}
use Rattle.anb_protocol.specs.Plays.{event_of}
use Rattle.anb_compile.specs.Registers.{register_recipes, all_labels}
use Rattle.anb_compile.specs.Valued.{Walked}
use Rattle.anb_compile.proofs.Lists.{later_part}
use Rattle.anb_compile.proofs.Valuing.{walked_start, walked_take, walked_draw, walked_receive, walked_send, walked_work, work_ready, work_writes}
use Rattle.anb_unify.specs.Substitutions.{IsNamed}
use Rattle.anb_unify.specs.Equations.{Solves, AreOfVariables, AreVariables, atoms_of}
use Rattle.anb_unify.proofs.Putting.{named_stays}
use Rattle.anb_distinguish.specs.Equations.{work_equation, equations_from, received_from, assigned}
use Rattle.anb_distinguish.proofs.Registers.{Holds, HoldsFrom, assigned_keeps, assigned_at}
use Rattle.anb_distinguish.proofs.Ending.{work_solved}
use Rattle.anb_suite.specs.Walks.{sent_in}

-- an equation of a work is of a register that was written
work_within : (has : Op → Bool) (N : ℕ) (x : Work) (n m : ℕ) → IsReady has n x → n + count_written x ≤ m → (work_equation N n x).variable < m
work_within has N (make o rs) n m ready h = omega (arith, h)
work_within has N (undo o ks r) n m ready h = omega (arith, h, ready.3)
work_within has N (equal a b) n m ready h = omega (arith, h, ready.0)

last_at : (ts : List Tree) (n : ℕ) (t : Tree) → length ts ≡ n → slice_get (ts ++ t ∷ []) n ≡ Some t
last_at ts n t long = subst (λ k. slice_get (ts ++ t ∷ []) k ≡ Some t) long (get_last ts t)

module _ (formats : List FormatValue) (suite : Suite) (plan : List Event) (all : List Act) (N : ℕ) (draw : ℕ → Tree) (named : (i : ℕ) → IsNamed N (draw i)) where
  abbrev has : Op → Bool
  has = has_operator formats

  -- what is made from here on is drawn
  abbrev AreDrawn : List PlanEvent → ℕ → Type 0
  AreDrawn es i = (k : ℕ) (t : Tree) → slice_get (made (map event_of es)) k ≡ Some t → draw (i + k) ≡ t

  -- the terms of all registers, of which those of the first are known, and what holds of them
  pub record Told (acts : List Act) (es : List PlanEvent) (ts : List Tree) (n i : ℕ) : Type 0 where
    pub whole : List Tree
    pub ends : Walked formats suite plan all [] [] whole
    pub front : (k : ℕ) (t : Tree) → slice_get ts k ≡ Some t → slice_get whole k ≡ Some t
    pub long : length ts ≤ length whole
    pub solves : AllByRecursion (Solves N (assigned N whole)) (equations_from N draw acts n i)
    pub within : AreOfVariables (length whole) (equations_from N draw acts n i)
    pub came : heard (map event_of es) ≡ map (assigned N whole) (atoms_of N (received_from acts n))
    pub came_within : AreVariables (length whole) (received_from acts n)
    pub sent_within : AreVariables (length whole) (sent_in acts)
    pub sides_within : (j a b : ℕ) → slice_get acts j ≡ Some (works (equal a b)) → (a < length whole) × (b < length whole)

  -- the next check is the first act, or one behind it
  sides_of_work : (x : Work) (acts : List Act) (n m : ℕ) → IsReady has n x → n ≤ m → ((j a b : ℕ) → slice_get acts j ≡ Some (works (equal a b)) → (a < m) × (b < m)) → (j a b : ℕ) → slice_get (works x ∷ acts) j ≡ Some (works (equal a b)) → (a < m) × (b < m)
  sides_of_work x acts n m ready l rest zero a b e =
      let s : x ≡ equal a b = cc in
      let r : IsReady has n (equal a b) = subst (IsReady has n) s ready in
      (omega (arith, l, r.0), omega (arith, l, r.1))
  sides_of_work x acts n m ready l rest (suc j) a b e = rest j a b e

  sides_later : (act : Act) (acts : List Act) (m : ℕ) → ((a b : ℕ) → act ≡ works (equal a b) → ⊥) → ((j a b : ℕ) → slice_get acts j ≡ Some (works (equal a b)) → (a < m) × (b < m)) → (j a b : ℕ) → slice_get (act ∷ acts) j ≡ Some (works (equal a b)) → (a < m) × (b < m)
  sides_later act acts m other rest zero a b e = absurd (other a b (cc))
  sides_later act acts m other rest (suc j) a b e = rest j a b e

  told : (acts : List Act) (es : List PlanEvent) (ts : List Tree) (n i : ℕ) → Walked formats suite plan all acts (map event_of es) ts → NoTakes has acts → length ts ≡ n → AreDrawn es i → Told acts es ts n i
  told [] [] ts n i w none long d = record {
    whole = ts;
    ends = w;
    front = λ k t e. e;
    long = omega arith;
    solves = tt;
    within = tt;
    came = refl;
    came_within = tt;
    sent_within = tt;
    sides_within = λ j a b e. cc;
  }
  told [] (e ∷ es) ts n i w none long d = absurd w.sound
  told (takes ∷ acts) es ts n i w none long d = absurd none
  told (draws ∷ acts) [] ts n i w none long d = absurd w.sound
  told (draws ∷ acts) (to_know t ∷ es) ts n i w none long d = absurd w.sound
  told (draws ∷ acts) (to_send j t ∷ es) ts n i w none long d = absurd w.sound
  told (draws ∷ acts) (to_receive j t ∷ es) ts n i w none long d = absurd w.sound
  told (draws ∷ acts) (to_make t ∷ es) ts n i w none long d =
      let more : length (ts ++ t ∷ []) ≡ length ts + 1 = length-append ts (t ∷ []) in
      let r = told acts es (ts ++ t ∷ []) (n + 1) (i + 1) (walked_draw formats suite plan all acts (to_make t) (map event_of es) ts w) none (more ∙ ap (λ l. l + 1) long)
      (λ k u e. let z : i + 1 + k ≡ i + suc k = omega arith in ap draw z ∙ d (suc k) u e) in
      let at : slice_get r.whole n ≡ Some t = r.front n t (last_at ts n t long) in
      let first : draw i ≡ t = (let z : i ≡ i + 0 = omega arith in ap draw z ∙ d 0 t refl) in
      let put = assigned N r.whole in
      record {
        whole = r.whole;
        ends = r.ends;
        front = λ k u e. r.front k u (slice_get-append ts (t ∷ []) k u e);
        long = omega (arith, r.long, more);
        solves = (assigned_at N r.whole n t at ∙ sym first ∙ sym (named_stays N put (assigned_keeps N r.whole) (draw i) (named i)), r.solves);
        within = (got_within r.whole n t at, r.within);
        came = r.came;
        came_within = r.came_within;
        sent_within = r.sent_within;
        sides_within = sides_later draws acts (length r.whole) (λ a b e. cc) r.sides_within;
      }
  told (receives ∷ acts) [] ts n i w none long d = absurd w.sound
  told (receives ∷ acts) (to_know t ∷ es) ts n i w none long d = absurd w.sound
  told (receives ∷ acts) (to_make t ∷ es) ts n i w none long d = absurd w.sound
  told (receives ∷ acts) (to_send j t ∷ es) ts n i w none long d = absurd w.sound
  told (receives ∷ acts) (to_receive j t ∷ es) ts n i w none long d =
      let more : length (ts ++ t ∷ []) ≡ length ts + 1 = length-append ts (t ∷ []) in
      let r = told acts es (ts ++ t ∷ []) (n + 1) i (walked_receive formats suite plan all acts (to_receive j t) (map event_of es) ts w) none (more ∙ ap (λ l. l + 1) long) d in
      let at : slice_get r.whole n ≡ Some t = r.front n t (last_at ts n t long) in
      let put = assigned N r.whole in
      record {
        whole = r.whole;
        ends = r.ends;
        front = λ k u e. r.front k u (slice_get-append ts (t ∷ []) k u e);
        long = omega (arith, r.long, more);
        solves = r.solves;
        within = r.within;
        came = ap (λ u. u ∷ heard (map event_of es)) (sym (assigned_at N r.whole n t at)) ∙ ap (λ l. put (N + n) ∷ l) r.came;
        came_within = (got_within r.whole n t at, r.came_within);
        sent_within = r.sent_within;
        sides_within = sides_later receives acts (length r.whole) (λ a b e. cc) r.sides_within;
      }
  told (sends s ∷ acts) [] ts n i w none long d = absurd w.sound
  told (sends s ∷ acts) (to_know t ∷ es) ts n i w none long d = absurd w.sound
  told (sends s ∷ acts) (to_make t ∷ es) ts n i w none long d = absurd w.sound
  told (sends s ∷ acts) (to_receive j t ∷ es) ts n i w none long d = absurd w.sound
  told (sends s ∷ acts) (to_send j t ∷ es) ts n i w none long d =
      let r = told acts es ts n i (walked_send formats suite plan all acts s (to_send j t) (map event_of es) ts w) none long d in
      let ready = w.ready in
      record {
        whole = r.whole;
        ends = r.ends;
        front = r.front;
        long = r.long;
        solves = r.solves;
        within = r.within;
        came = r.came;
        came_within = r.came_within;
        sent_within = (omega (arith, ready.0, ready.1.0, r.long), r.sent_within);
        sides_within = sides_later (sends s) acts (length r.whole) (λ a b e. cc) r.sides_within;
      }
  told (works x ∷ acts) es ts n i w none long d =
      let k = work_writes formats suite plan all acts x (map event_of es) ts w in
      let more : length (ts ++ k.0) ≡ n + count_written x = length-append ts k.0 ∙ ap (λ l. l + length k.0) long ∙ ap (λ l. n + l) k.3 in
      let r = told acts es (ts ++ k.0) (n + count_written x) i (walked_work formats suite plan all acts x (map event_of es) ts k.0 w k.1) none more d in
      let front : (j : ℕ) (t : Tree) → slice_get ts j ≡ Some t → slice_get r.whole j ≡ Some t = λ j t e. r.front j t (slice_get-append ts k.0 j t e) in
      let put = assigned N r.whole in
      let holds : Holds N put ts = λ j t e. assigned_at N r.whole j t (front j t e) in
      let later : HoldsFrom N put n k.0 = λ j t e. assigned_at N r.whole (n + j) t (r.front (n + j) t (subst (λ l. slice_get (ts ++ k.0) (l + j) ≡ Some t) long (later_part ts k.0 j t e))) in
      let ready : IsReady has n x = subst (λ l. IsReady has l x) long (work_ready formats suite plan all acts x (map event_of es) ts w) in
      record {
        whole = r.whole;
        ends = r.ends;
        front = front;
        long = omega (arith, r.long, more, long);
        solves = (work_solved has N put x ts k.0 n long holds later ready k.1, r.solves);
        within = (work_within has N x n (length r.whole) ready (omega (arith, r.long, more)), r.within);
        came = r.came;
        came_within = r.came_within;
        sent_within = r.sent_within;
        sides_within = sides_of_work x acts n (length r.whole) ready (omega (arith, r.long, more)) r.sides_within;
      }

  -- ---- from the first act on

  -- the terms of a whole code, of which those of the first registers are what is known
  pub record Begun (acts : List Act) (es : List PlanEvent) (ts : List Tree) (n : ℕ) : Type 0 where
    pub rest : Told acts es ts n 0
    pub knows : (k : ℕ) (t : Tree) → slice_get (known plan) k ≡ Some t → slice_get rest.whole k ≡ Some t

  module _ (n : ℕ) (many : length (known plan) ≡ n) where
    -- what was taken is what is known
    Took : List Tree → Type 0
    Took ts = (k : ℕ) (t : Tree) → slice_get (known plan) k ≡ Some t → k < length ts → slice_get ts k ≡ Some t

    took_more : (ts : List Tree) (t : Tree) → slice_get (known plan) (length ts) ≡ Some t → Took ts → Took (ts ++ t ∷ [])
    unfolding Took
    took_more ts t at took k u e l =
        ⊎_elim (λ less. slice_get-append ts (t ∷ []) k u (took k u e less))
        (λ more.
        let z : length ts ≡ k = omega (arith, more, l, length-append ts (t ∷ [])) in
        let same : t ≡ u = (let q = subst (λ j. slice_get (known plan) j ≡ Some t) z at in cc) in
        subst (λ j. slice_get (ts ++ t ∷ []) j ≡ Some u) z (get_last ts t ∙ ap Some same))
        (cases_lt k (length ts))

    started : (acts : List Act) (es : List PlanEvent) (ts : List Tree) → Walked formats suite plan all acts (map event_of es) ts → HasTakes has acts (length ts) n → Took ts → drop (length ts) (known plan) ≡ known (map event_of es) → AreDrawn es 0
        → Begun acts es ts n
    unfolding Took
    started (takes ∷ acts) [] ts w ready took next d = absurd w.sound
    started (takes ∷ acts) (to_make t ∷ es) ts w ready took next d = absurd w.sound
    started (takes ∷ acts) (to_send j t ∷ es) ts w ready took next d = absurd w.sound
    started (takes ∷ acts) (to_receive j t ∷ es) ts w ready took next d = absurd w.sound
    started (takes ∷ acts) (to_know t ∷ es) ts w ready took next d =
        let got = drop_got (known plan) (known (map event_of es)) (length ts) t next in
        let more : length (ts ++ t ∷ []) ≡ length ts + 1 = length-append ts (t ∷ []) in
        let one : suc (length ts) ≡ length (ts ++ t ∷ []) = omega (arith, more) in
        let b = started acts es (ts ++ t ∷ []) (walked_take formats suite plan all acts (to_know t) (map event_of es) ts w) (subst (λ k. HasTakes has acts k n) one ready) (took_more ts t got.0 took) (ap (λ k. drop k (known plan)) more ∙ got.1) d in
        let r = b.rest in
        record {
          rest = record {
            whole = r.whole;
            ends = r.ends;
            front = λ k u e. r.front k u (slice_get-append ts (t ∷ []) k u e);
            long = omega (arith, r.long, more);
            solves = r.solves;
            within = r.within;
            came = r.came;
            came_within = r.came_within;
            sent_within = r.sent_within;
            sides_within = sides_later takes acts (length r.whole) (λ a b e. cc) r.sides_within;
          };
          knows = b.knows;
        }
    started acts es ts w ready took next d =
        let r = told acts es ts n 0 w ready.2 ready.0 d in
        record { rest = r; knows = λ k t e. r.front k t (took k t e (omega (arith, got_within (known plan) k t e, many, ready.0))) }

    pub begun : (es : List PlanEvent) → plan ≡ map event_of es → HasTakes has all 0 n → Along AnySend (IsSound (byte_meaning formats suite)) AnyBorder all plan (start plan) → ((k : ℕ) (t : Tree) → slice_get (made plan) k ≡ Some t → draw k ≡ t) → Begun all es [] n
    unfolding Took
    begun es is ready sound d =
        let w = walked_start formats suite plan all n ready sound in
        let drawn : AreDrawn es 0 = λ k t e. (let z : 0 + k ≡ k = omega arith in ap draw z ∙ d k t (subst (λ l. slice_get (made l) k ≡ Some t) (sym is) e)) in
        started all es [] (subst (λ l. Walked formats suite plan all all l []) is w) ready (λ k t e l. absurd (omega (arith, l))) (ap known is) drawn

  -- they are the values of the registers' recipes
  pub whole_is : (whole ts : List Tree) → Walked formats suite plan all [] [] whole → values (terms_over has) (all_labels plan) (recipe_trees (register_recipes all)) ≡ Some ts → whole ≡ ts
  whole_is whole ts w e =
      let frame : w.place.frame ≡ all_labels plan = sym (append-nil w.place.frame) ∙ w.labels in
      let a = subst (λ l. values (terms_over has) l (recipe_trees w.place.regs) ≡ Some whole) frame w.have in
      let b = subst (λ l. values (terms_over has) (all_labels plan) (recipe_trees l) ≡ Some whole) w.recipes a in
      let c : Some whole ≡ Some ts = sym b ∙ e in
      cc
