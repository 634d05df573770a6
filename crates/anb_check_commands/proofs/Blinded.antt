-- What a role does first behind the stem, event by event.
use Rattle.std.proofs.Common.{◌≡◌, ℕ, ◌+◌, ◌<◌, List, length, map, drop, get_or, Option, Some, None, ap, sym, ◌∙◌}
use Rattle.std.specs.Prelude.{unwrap_or}
use Rattle.anb_lemmas.proofs.Lists.{drop_next}
use Rattle.anb_protocol.specs.declared.plans.Event.{Event}
use Rattle.anb_protocol.specs.Views.{plan_event}
use Rattle.anb_check_commands.specs.declared.blindness.First.{First}
use Rattle.anb_check_commands.specs.ChoiceLines.{first_behind, own_first}

module _ (stem : ℕ) (xs : List Event) (i : ℕ) (x : Event) (within : i < length xs) (at : x ≡ get_or xs i x)
    (so_far : first_behind stem (map plan_event (drop i xs)) ≡ first_behind stem (map plan_event xs)) where
  by : (o : Option First) → own_first stem (plan_event x) ≡ o → unwrap_or o (first_behind stem (map plan_event (drop (i + 1) xs))) ≡ first_behind stem (map plan_event xs)
  by o e =
      sym (ap (λ (l : List Event). first_behind stem (map plan_event l)) (drop_next xs i x within at)
      ∙ ap (λ (v : Option First). unwrap_or v (first_behind stem (map plan_event (drop (i + 1) xs)))) e)
      ∙ so_far

  pub here : (first : First) → own_first stem (plan_event x) ≡ Some first → first ≡ first_behind stem (map plan_event xs)
  here first e = by (Some first) e

  pub later : own_first stem (plan_event x) ≡ None → first_behind stem (map plan_event (drop (i + 1) xs)) ≡ first_behind stem (map plan_event xs)
  later e = by None e
