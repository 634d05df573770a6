use Rattle.std.proofs.Common.{ap, ◌++◌, ◌∙◌, sym}
use Rattle.anb_partner.specs.Values.{handed_values_by}
use Rattle.anb_partner.proofs.Ranges.{flat_next}
use Rattle.anb_partner.proofs.valuing.values_for.Goals as goal

pub loop-other-preserved : goal.loop-other-preserved
loop-other-preserved c =
    let f = handed_values_by c.args.p.now c.args.atoms.now c.args.seed.now c.args.role in
    c.in_ok-put_handed.ensures ∙ ap (λ l. l ++ f c.loop-other.other) c.loop-other.invariant ∙ sym (flat_next f c.loop-other.other)
