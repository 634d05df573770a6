use Rattle.std.proofs.Common.{List, [], ◌∷◌, map, take, sym, ap, ◌∙◌, subst, arith}
use Rattle.std.proofs.lemmas.List.{map-append, take_all}
use Rattle.anb_lemmas.proofs.Each.{take_next}
use Rattle.anb_machine.specs.Machines.{gives}
use Rattle.anb_transcript.specs.declared.transcript.TranscriptLine.TheVariants.{In}
use Rattle.anb_partner.specs.Steps.{Reaches}
use Rattle.anb_partner.proofs.Reaching.{reaches_here, reaches_joined}
use Rattle.anb_partner.proofs.talking.hand_in.Goals as goal

pub loop-value-init : goal.loop-value-init
loop-value-init c = reaches_here (gives c.args.machine.now)

pub loop-value-preserved : goal.loop-value-preserved
loop-value-preserved c =
    let i = c.loop-value.value-index in
    let values = c.args.values.now in
    let value = c.value-item.result in
    let more = ap (map In) (take_next values i value (omega arith) c.value-item.is) ∙ map-append In (take i values) (value ∷ []) in
    subst (Reaches (gives c.args.machine.now) (gives c.hand.new.machine)) (sym more)
    (reaches_joined (gives c.args.machine.now) (gives c.loop-value.machine) (gives c.hand.new.machine) (map In (take i values)) (In value ∷ []) c.loop-value.invariant c.in_ok-hand.ensures)

pub returns : goal.returns
returns c =
    let values = c.args.values.now in
    let all = take_all c.loop-value.value-index values (omega (arith, c.loop-value-test.false)) in
    subst (λ l. Reaches (gives c.args.machine.now) (gives c.loop-value.machine) (map In l)) all c.loop-value.invariant
