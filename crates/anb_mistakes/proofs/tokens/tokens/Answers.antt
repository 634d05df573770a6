use Rattle.std.proofs.Common.{[], ◌∷◌}
use Rattle.anb_mistakes.proofs.Finding.{last_token}
use Rattle.anb_mistakes.proofs.tokens.tokens.Goals as goal

pub returns-in_default-clause-tokens : goal.returns-in_default-clause-tokens
returns-in_default-clause-tokens c =
    let k = last_token c.args.text.now c.tokens.from c.next_token.result c.next_token.ensures.next c.in_default.not-Token in
    record { last = k.0; lexes = c.tokens.invariant.so_far (k.0 ∷ []) k.1 }
