use Rattle.std.proofs.Common.{[], ◌∷◌, sym, ap, ◌∙◌, arith, subst, length, length-append}
use Rattle.anb_close.specs.Parents.{ListsStay}
use Rattle.anb_close.proofs.Linking.{lists_more}
use Rattle.anb_close.proofs.parents.pad.Goals as goal

pub returns-in_err-push-clause-stay : goal.returns-in_err-push-clause-stay
returns-in_err-push-clause-stay c = subst (ListsStay c.args.parents.now.items) (sym c.in_err-push.ensures.items) c.loop-k.invariant.stay

pub loop-k-preserved : goal.loop-k-preserved
loop-k-preserved c =
    let i = c.loop-k.invariant in
    let v = c.new.result in
    let n = ap length c.in_ok-push.ensures.items ∙ length-append c.loop-k.parents.items (v ∷ []) in
    record {
      stay = λ w m e. subst (λ l. ListsStay c.loop-k.parents.items l) (sym c.in_ok-push.ensures.items) (lists_more c.loop-k.parents.items (v ∷ [])) w m (i.stay w m e);
      longer = omega (arith, i.longer, n);
      long = omega (arith, i.long, n);
    }
