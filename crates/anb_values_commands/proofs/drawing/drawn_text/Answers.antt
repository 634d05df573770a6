use Rattle.std.proofs.Common.{◌≡◌, ◌≤◌, ◌<◌, ◌*◌, ◌∙◌, ℕ, List, length, All, ap, sym, subst, arith}
use Rattle.std.specs.List.{AllByRecursion, flat_map}
use Rattle.anb_protocol.specs.Checks.{agent_names}
use Rattle.anb_base.specs.declared.TheConstants.{ARRIVAL}
use Rattle.anb_seal.proofs.Words.{length-stream_bytes}
use Rattle.anb_values.specs.Lines.{IsLabel}
use Rattle.anb_protocol.specs.Texts.{known_names}
use Rattle.anb_values_commands.specs.ValuesCommand.{values_from}
use Rattle.anb_values_commands.proofs.Counting.{few_names, names_short}
use Rattle.anb_values_commands.proofs.DrawnValues.{as_many, values_short}
use Rattle.anb_values_commands.proofs.Labels.{name_labels}
use Rattle.anb_values_commands.proofs.drawing.drawn_text.Goals as goal

pub drawn_values-requires : goal.drawn_values-requires
drawn_values-requires c =
    let p = c.args.protocol.now in
    let few = few_names p (c.protocols_hold.ensures p c.name.ensures.protocol) in
    record { few = omega (arith, few, ap length (c.deref.ensures.value ∙ c.in_ok-names.ensures)) }

pub overflow_cast-len : goal.overflow_cast-len
overflow_cast-len c =
    let p = c.args.protocol.now in
    let few = few_names p (c.protocols_hold.ensures p c.name.ensures.protocol) in
    omega (arith, few, ap length c.in_ok-names.ensures, c.len.ensures, c.in_ok-names.names.ok.0)

pub values_text-requires-clause-labels : goal.values_text-requires-clause-labels
values_text-requires-clause-labels c =
    let p = c.args.protocol.now in
    subst (AllByRecursion IsLabel) (sym (c.deref-2.ensures.value ∙ c.in_ok-names.ensures)) (name_labels p c.name.ensures.protocol)

pub values_text-requires-clause-count : goal.values_text-requires-clause-count
values_text-requires-clause-count c =
    let p = c.args.protocol.now in
    let values = c.deref-3.ensures.value ∙ c.in_ok-values.ensures p (c.in_ok-agents.ensures ∙ ap (flat_map agent_names) c.declared.ensures) in
    ap length values ∙ as_many p c.args.seed.now 0 c.deref.result.now ∙ ap length (c.deref.ensures.value ∙ sym c.deref-2.ensures.value)

pub values_text-requires-clause-short : goal.values_text-requires-clause-short
values_text-requires-clause-short c =
    let p = c.args.protocol.now in
    let values = c.deref-3.ensures.value ∙ c.in_ok-values.ensures p (c.in_ok-agents.ensures ∙ ap (flat_map agent_names) c.declared.ensures)
    ∙ ap (values_from p c.args.seed.now 0) (c.deref.ensures.value ∙ c.in_ok-names.ensures) in
    subst (All (λ (v : List ℕ). length v ≤ ARRIVAL)) (sym values)
    (values_short p c.args.seed.now (λ j. length-stream_bytes _ 0 (8 * j) 8) (known_names p) (names_short p c.name.ensures.protocol))
