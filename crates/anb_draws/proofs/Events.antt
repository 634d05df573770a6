-- What each of several events brings.
use Rattle.std.proofs.Common.{◌≡◌, ℕ, ◌+◌, ◌<◌, List, [], ◌∷◌, ◌++◌, length, map, take, drop, get_or, ap, ◌∙◌, subst, arith}
use Rattle.std.specs.List.{AllByRecursion}
use Rattle.std.proofs.lemmas.List.{append-nil, map-append}
use Rattle.anb_lemmas.proofs.Each.{each_in_parts, take_next}
use Rattle.anb_term.specs.Tree.{Tree, nodes}
use Rattle.anb_close.proofs.Growing.{nodes_append}
use Rattle.anb_compile.proofs.Events.{labels_append}
use Rattle.anb_compile.proofs.Whole.{events_parted}
use Rattle.anb_compile.specs.Unsent.{label_of, labels_of}
use Rattle.anb_protocol.specs.declared.plans.Event.{Event}
use Rattle.anb_protocol.specs.Views.{plan_event}

module _ (events : List Event) (i : ℕ) (x : Event) (within : i < length events) (here : x ≡ get_or events i x) where
  abbrev Before : List Tree
  Before = labels_of (map plan_event (take i events))

  abbrev After : List Tree
  After = labels_of (map plan_event (drop (i + 1) events))

  -- the first ones, and one more
  pub labels_next : labels_of (map plan_event (take (i + 1) events)) ≡ Before ++ label_of (plan_event x)
  labels_next =
      ap (λ l. labels_of (map plan_event l)) (take_next events i x within here)
      ∙ ap labels_of (map-append plan_event (take i events) (x ∷ []))
      ∙ labels_append (map plan_event (take i events)) (plan_event x ∷ [])
      ∙ ap (λ l. Before ++ l) (append-nil (label_of (plan_event x)))

  parted : labels_of (map plan_event events) ≡ Before ++ (label_of (plan_event x) ++ After)
  parted = ap labels_of (events_parted plan_event events i x within here) ∙ labels_append (map plan_event (take i events)) (plan_event x ∷ map plan_event (drop (i + 1) events))

  pub event_formed : (P : Tree → Type 0) → AllByRecursion P (labels_of (map plan_event events)) → AllByRecursion P (label_of (plan_event x))
  event_formed P all =
      let back = (each_in_parts P Before (label_of (plan_event x) ++ After) (subst (AllByRecursion P) parted all)).1 in
      (each_in_parts P (label_of (plan_event x)) After back).0

  pub event_few : (frame : List Tree) → frame ≡ Before → nodes (labels_of (map plan_event events)) < 4294967295 → nodes frame + nodes (label_of (plan_event x)) < 4294967295
  event_few frame is few =
      omega (arith, ap nodes is, ap nodes parted, nodes_append Before (label_of (plan_event x) ++ After), nodes_append (label_of (plan_event x)) After, few)
