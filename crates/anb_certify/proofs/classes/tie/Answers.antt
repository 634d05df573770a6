use Rattle.std.proofs.Common.{◌≡◌, ◌<◌, Some, sym, ◌∙◌, subst, arith, ⊎_elim}
use Rattle.std.specs.Prelude.{slice_get}
use Rattle.anb_lemmas.proofs.Numbers.{same_or_not}
use Rattle.anb_certify.proofs.Falling.{falls, falls_or, set_low, named_set, roots_tied, back_tied}
use Rattle.anb_certify.proofs.classes.tie.Goals as goal

pub returns-then-a-b-clause-less : goal.returns-then-a-b-clause-less
returns-then-a-b-clause-less c = let f = falls c.args.names.now c.root-b.result c.root-a.result c.root-b.ensures.own c.if-a-b.true in omega (arith, f)

pub returns-then-a-b-clause-falls : goal.returns-then-a-b-clause-falls
returns-then-a-b-clause-falls c flat apart = falls c.args.names.now c.root-b.result c.root-a.result c.root-b.ensures.own c.if-a-b.true

pub returns-then-a-b-clause-named : goal.returns-then-a-b-clause-named
returns-then-a-b-clause-named c did h t =
    named_set did c.args.names.now c.root-b.result c.root-a.result h (roots_tied did c.args.a c.args.b c.root-a.result c.root-b.result t (c.root-a.ensures.tied did h) (c.root-b.ensures.tied did h))

pub returns-else-a-b-clause-low : goal.returns-else-a-b-clause-low
returns-else-a-b-clause-low c = set_low c.args.names.now c.root-a.result c.root-b.result c.requires.low (omega (arith, c.if-a-b.false))

pub returns-else-a-b-clause-less : goal.returns-else-a-b-clause-less
returns-else-a-b-clause-less c = let f = falls_or c.args.names.now c.root-a.result c.root-b.result c.root-a.ensures.own (omega (arith, c.if-a-b.false)) in omega (arith, f)

pub returns-else-a-b-clause-falls : goal.returns-else-a-b-clause-falls
returns-else-a-b-clause-falls c flat apart =
    let a = c.root-a.result in
    let b = c.root-b.result in
    let less : b < a = ⊎_elim (λ s. absurd (apart (c.root-a.ensures.first flat ∙ subst (λ z. Some z ≡ slice_get c.args.names.now c.args.b) s (sym (c.root-b.ensures.first flat))))) (λ n. omega (arith, n, c.if-a-b.false)) (same_or_not b a) in
    falls c.args.names.now a b c.root-a.ensures.own less

pub returns-else-a-b-clause-named : goal.returns-else-a-b-clause-named
returns-else-a-b-clause-named c did h t =
    let r = roots_tied did c.args.a c.args.b c.root-a.result c.root-b.result t (c.root-a.ensures.tied did h) (c.root-b.ensures.tied did h) in
    named_set did c.args.names.now c.root-a.result c.root-b.result h (back_tied did c.root-b.result c.root-a.result r)
