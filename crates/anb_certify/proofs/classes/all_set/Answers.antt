use Rattle.std.proofs.Common.{◌≡◌, false, Some, get_or, sym, ap, ◌∙◌, arith, ⊎_elim}
use Rattle.std.specs.Prelude.{slice_get}
use Rattle.anb_lemmas.proofs.Numbers.{below_or_it}
use Rattle.anb_lemmas.proofs.Lists.{got_within}
use Rattle.anb_certify.proofs.Grouping.{get_here}
use Rattle.anb_certify.proofs.classes.all_set.Goals as goal

pub loop-i-preserved : goal.loop-i-preserved
loop-i-preserved c k b l less e =
    let flags = c.args.flags.now in
    let i = c.loop-i.i in
    ⊎_elim (λ a. c.loop-i.invariant k b l a e)
    (λ s.
    let f : Some (get_or flags i false) ≡ Some b = sym (get_here flags i false c.loop-i-test.true) ∙ ap (slice_get flags) s ∙ e in
    let g : get_or flags i false ≡ b = cc in
    sym g ∙ c.if-not-flags-i.false) (below_or_it k i less)

pub returns : goal.returns
returns c h i b l e = c.loop-i.invariant i b l (omega (arith, got_within c.args.flags.now i b e, c.loop-i.auto.i-end, c.loop-i-test.false)) e
