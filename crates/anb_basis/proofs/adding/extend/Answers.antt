use Rattle.std.proofs.Common.{◌≡◌, ◌+◌, ◌-◌, ◌++◌, ◌∷◌, [], length, false, ◌∙◌, ap, arith, append_assoc, length-append}
use Rattle.std.proofs.Math.ListN.{replicate}
use Rattle.std.proofs.lemmas.List.{replicate_more}
use Rattle.anb_basis.proofs.adding.extend.Goals as goal

pub loop-k-preserved : goal.loop-k-preserved
loop-k-preserved c =
    let i = c.loop-k.invariant in
    let ms = c.args.marks.now.items in
    let n = c.loop-k.k - length ms in
    let m : c.loop-k.k + 1 - length ms ≡ n + 1 = omega (arith, c.loop-k.auto.k, c.len-k.ensures, c.args.marks.now.ok.0) in
    record {
      longer = omega (arith, i.longer, ap length c.in_ok-push.ensures.items, length-append c.loop-k.marks.items (false ∷ []));
      is = rw m (c.in_ok-push.ensures.items ∙ ap (λ l. l ++ false ∷ []) i.is ∙ append_assoc ms (replicate n false) (false ∷ []) ∙ ap (λ l. ms ++ l) (replicate_more n false));
    }

pub returns-clause-ok : goal.returns-clause-ok
returns-clause-ok c =
    let ms = c.args.marks.now.items in
    let m : c.loop-k.k - length ms ≡ c.args.count - length ms = omega (arith, c.loop-k.auto.k, c.loop-k.auto.k-end, c.loop-k-test.false, c.len-k.ensures, c.args.marks.now.ok.0, c.requires) in
    c.loop-k.invariant.is ∙ ap (λ n. ms ++ replicate n false) m
