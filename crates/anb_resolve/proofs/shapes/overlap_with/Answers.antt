use Rattle.std.proofs.Common.{◌≡◌, ap, ◌∙◌, arith, Some}
use Rattle.anb_protocol.specs.declared.refusals.ResolveNo.TheVariants.{Overlap}
use Rattle.anb_protocol.proofs.ApartLemmas.{overlap_here, overlap_next}
use Rattle.anb_resolve.proofs.shapes.overlap_with.Goals as goal

pub returns-then-not-apart : goal.returns-then-not-apart
returns-then-not-apart c =
    let o = c.other-item.result in
    let g = c.args.format.now in
    let e1 : c.in_ok-copy.field-0 ≡ o.name = c.in_ok-copy.ensures ∙ c.name.ensures in
    let e2 : c.in_ok-copy-2.field-0 ≡ g.name = c.in_ok-copy-2.ensures ∙ c.name-then-not-apart.ensures in
    ap (λ x. Some (Overlap x c.in_ok-copy-2.field-0)) e1 ∙ ap (λ y. Some (Overlap o.name y)) e2
    ∙ overlap_here c.args.before.now c.loop-other.other-index o g c.apart.result _ (omega arith) c.other-item.is c.apart.ensures c.loop-other.invariant c.if-not-apart.true

pub loop-other-preserved : goal.loop-other-preserved
loop-other-preserved c = overlap_next c.args.before.now c.loop-other.other-index c.other-item.result c.args.format.now c.apart.result _ (omega arith) c.other-item.is c.apart.ensures c.loop-other.invariant c.if-not-apart.false
