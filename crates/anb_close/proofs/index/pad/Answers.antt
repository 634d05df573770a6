use Rattle.std.proofs.Common.{◌≡◌, ◌+◌, ◌-◌, ◌++◌, ◌∷◌, [], length, ◌∙◌, ap, arith, append_assoc}
use Rattle.std.proofs.Math.ListN.{replicate}
use Rattle.std.proofs.lemmas.List.{replicate_more}
use Rattle.anb_close.specs.declared.index.Standing.TheVariants.{Nowhere}
use Rattle.anb_close.proofs.index.pad.Goals as goal

pub loop-k-preserved : goal.loop-k-preserved
loop-k-preserved c =
    let ss = c.args.standings.now.items in
    let n = c.loop-k.k - length ss in
    let m : c.loop-k.k + 1 - length ss ≡ n + 1 = omega (arith, c.loop-k.auto.k, c.len-before.ensures) in
    rw m (c.in-Ok.ensures.items ∙ ap (λ l. l ++ Nowhere ∷ []) c.loop-k.invariant ∙ append_assoc ss (replicate n Nowhere) (Nowhere ∷ []) ∙ ap (λ l. ss ++ l) (replicate_more n Nowhere))
