use Rattle.std.proofs.Common.{◌++◌, ◌∷◌, [], sym, ap, ◌∙◌}
use Rattle.anb_certify.proofs.Signing.{no_owner, one_none_more}
use Rattle.anb_certify.proofs.signs.no_owners.Goals as goal

pub loop-i-preserved : goal.loop-i-preserved
loop-i-preserved c = c.in_ok-push.ensures.items ∙ ap (λ l. l ++ no_owner ∷ []) c.loop-i.invariant ∙ sym (one_none_more c.loop-i.i)
