use Rattle.std.proofs.Common.{◌+◌, ◌∙◌, ap, sym, arith, drop}
use Rattle.std.specs.List.{flat_map}
use Rattle.std.specs.Option.{option_or}
use Rattle.anb_protocol.specs.Choices.{first}
use Rattle.anb_honest.specs.Given.{items_of}
use Rattle.anb_honest.specs.Joint.{long_end}
use Rattle.anb_honest.proofs.Setting.{first_left}
use Rattle.anb_honest.proofs.beginning.first_long.Goals as goal

pub returns-in-Some : goal.returns-in-Some
returns-in-Some c =
    let all = c.args.initial.now in
    let i = c.loop-values.values-index in
    let f = first_left all i c.values-item.result c.first_long_of.result (omega arith) c.values-item.is (c.first_long_of.ensures ∙ ap (first (long_end 0)) c.deref.ensures.value) in
    ap (λ o. option_or o (first (long_end 0) (flat_map items_of (drop (i + 1) all)))) (sym c.in-Some.is) ∙ sym f ∙ c.loop-values.invariant

pub loop-values-preserved : goal.loop-values-preserved
loop-values-preserved c =
    let all = c.args.initial.now in
    let i = c.loop-values.values-index in
    let f = first_left all i c.values-item.result c.first_long_of.result (omega arith) c.values-item.is (c.first_long_of.ensures ∙ ap (first (long_end 0)) c.deref.ensures.value) in
    ap (λ o. option_or o (first (long_end 0) (flat_map items_of (drop (i + 1) all)))) (sym c.in_default.is) ∙ sym f ∙ c.loop-values.invariant
