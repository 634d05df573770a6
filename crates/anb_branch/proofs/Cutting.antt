-- A plan cut at the choice, event by event.
use Rattle.std.proofs.Common.{◌≡◌, ℕ, ◌+◌, ◌<◌, List, [], ◌∷◌, length, map, drop, get_or, Bool, true, false, refl, sym, ap, ◌∙◌, arith}
use Rattle.std.specs.Prelude.{if◌then◌else◌}
use Rattle.std.proofs.lemmas.List.{drop_more}
use Rattle.anb_protocol.specs.declared.plans.Event.{Event}
use Rattle.anb_protocol.specs.Plans.{PlanEvent}
use Rattle.anb_protocol.specs.Views.{plan_event}
use Rattle.anb_choice.specs.Lawful.{is_of_stem, stem_len}

-- the stem's length where these events are left behind i, of which the first so many are of the stem
abbrev pub len_from : ℕ → ℕ → ℕ → List PlanEvent → ℕ
len_from stem len i es = if is_of_stem stem es then i + stem_len stem es else len

pub len_at_first : (stem : ℕ) (es : List PlanEvent) → stem_len stem es ≡ len_from stem 0 0 es
len_at_first stem [] = refl
len_at_first stem (e ∷ es) = by (is_of_stem stem (e ∷ es)) where
  by : (b : Bool) → (if b then 1 + stem_len stem es else 0) ≡ (if b then 0 + (if b then 1 + stem_len stem es else 0) else 0)
  by true = omega arith
  by false = refl

-- behind an event that is of the stem
pub len_on : (stem len i : ℕ) (e : PlanEvent) (es : List PlanEvent) → is_of_stem stem (e ∷ es) ≡ true → len_from stem len i (e ∷ es) ≡ len_from stem (i + 1) (i + 1) es
len_on stem len i e es is = step (is_of_stem stem (e ∷ es)) is ∙ rest es where
  step : (b : Bool) → b ≡ true → (if b then i + (if b then 1 + stem_len stem es else 0) else len) ≡ i + (1 + stem_len stem es)
  step true h = refl
  step false h = cc

  rest : (xs : List PlanEvent) → i + (1 + stem_len stem xs) ≡ len_from stem (i + 1) (i + 1) xs
  rest [] = refl
  rest (x ∷ xs) = by (is_of_stem stem (x ∷ xs)) where
    by : (b : Bool) → i + (1 + (if b then 1 + stem_len stem xs else 0)) ≡ (if b then (i + 1) + (if b then 1 + stem_len stem xs else 0) else (i + 1))
    by true = omega arith
    by false = omega arith

pub len_over_made : (stem len i : ℕ) (e : PlanEvent) (es : List PlanEvent) → is_of_stem stem (e ∷ es) ≡ is_of_stem stem es → len_from stem len i (e ∷ es) ≡ len_from stem len (i + 1) es
len_over_made stem len i e es same = by (is_of_stem stem (e ∷ es)) (is_of_stem stem es) same where
  by : (b d : Bool) → b ≡ d → (if b then i + (if b then 1 + stem_len stem es else 0) else len) ≡ (if d then (i + 1) + stem_len stem es else len)
  by true true h = omega arith
  by false false h = refl
  by true false h = cc
  by false true h = cc

pub next_event : (events : List Event) (i : ℕ) (e : Event) → i < length events → e ≡ get_or events i e → map plan_event (drop i events) ≡ plan_event e ∷ map plan_event (drop (i + 1) events)
next_event events i e within at = ap (map plan_event) (drop_more events i e within ∙ ap (λ x. x ∷ drop (i + 1) events) (sym at))
