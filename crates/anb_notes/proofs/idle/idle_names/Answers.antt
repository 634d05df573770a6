use Rattle.std.proofs.Common.{◌≡◌, ◌<◌, ℕ, List, length, map, sym, ap, ◌∙◌, subst}
use Rattle.std.specs.List.{AllByRecursion}
use Rattle.anb_protocol.specs.Views.{plan_event}
use Rattle.anb_notes.specs.Idle.{awaiting}
use Rattle.anb_notes.proofs.Waiting.{awaiting_within}
use Rattle.anb_notes.proofs.idle.idle_names.Goals as goal

pub uncounted-requires : goal.uncounted-requires
uncounted-requires c =
    let p = c.args.protocol.now in
    let plan = map plan_event c.args.events.now in
    let same : length p.atoms ≡ length c.deref.result.now = sym (ap length c.deref.ensures.value ∙ c.in_ok-counts.ensures.long ∙ ap length c.declared.ensures) in
    let names : awaiting plan ≡ c.deref-2.result.now = sym (c.deref-2.ensures.value ∙ c.in_ok-names.ensures) in
    subst (λ (l : List ℕ). AllByRecursion (λ x. x < length c.deref.result.now) l) names (subst (λ n. AllByRecursion (λ x. x < n) (awaiting plan)) same (awaiting_within p plan c.requires))
