use Rattle.std.proofs.Common.{map, sym, ap, drop, ◌∙◌, arith}
use Rattle.std.proofs.lemmas.List.{drop-map}
use Rattle.anb_protocol.specs.Views.{plan_event}
use Rattle.anb_choice.specs.Lawful.{is_of_stem}
use Rattle.anb_choice.proofs.Events.{stem_more, stem_stops}
use Rattle.anb_choice.proofs.plans.stem_len.Goals as goal

pub returns-then-not-is_of_stem-clause-len : goal.returns-then-not-is_of_stem-clause-len
returns-then-not-is_of_stem-clause-len c =
    let es = map plan_event c.args.events.now in
    let here = ap (is_of_stem c.args.stem) (drop-map plan_event c.loop-i.i c.args.events.now ∙ ap (map plan_event) (sym c.behind.ensures)) ∙ sym c.is_of_stem.ensures ∙ c.if-not-is_of_stem.true in
    omega (arith, c.loop-i.invariant, stem_stops c.args.stem (drop c.loop-i.i es) here)

pub loop-i-preserved : goal.loop-i-preserved
loop-i-preserved c =
    let es = map plan_event c.args.events.now in
    let here = ap (is_of_stem c.args.stem) (drop-map plan_event c.loop-i.i c.args.events.now ∙ ap (map plan_event) (sym c.behind.ensures)) ∙ sym c.is_of_stem.ensures ∙ c.if-not-is_of_stem.false in
    omega (arith, c.loop-i.invariant, stem_more c.args.stem es c.loop-i.i here)
