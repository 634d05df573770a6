use Rattle.std.proofs.Common.{List, map, ap, sym, ◌∙◌, arith}
use Rattle.std.proofs.lemmas.List.{drop_all}
use Rattle.anb_protocol.specs.declared.plans.Event.{Event}
use Rattle.anb_protocol.specs.Views.{plan_event}
use Rattle.anb_check_commands.specs.ChoiceLines.{first_behind}
use Rattle.anb_check_commands.proofs.Blinded.{here, later}
use Rattle.anb_check_commands.proofs.blindness.first_behind.Goals as goal

pub returns-in-Some : goal.returns-in-Some
returns-in-Some c =
    here c.args.stem c.args.events.now c.loop-i.i c.index-events-i.result c.loop-i-test.true c.index-events-i.is c.loop-i.invariant c.in-Some.first (sym c.own_first.ensures ∙ c.in-Some.is)

pub loop-i-preserved : goal.loop-i-preserved
loop-i-preserved c =
    later c.args.stem c.args.events.now c.loop-i.i c.index-events-i.result c.loop-i-test.true c.index-events-i.is c.loop-i.invariant (sym c.own_first.ensures ∙ c.in_default.is)

pub returns : goal.returns
returns c =
    ap (λ (l : List Event). first_behind c.args.stem (map plan_event l)) (sym (drop_all c.loop-i.i c.args.events.now (omega arith))) ∙ c.loop-i.invariant
