use Rattle.std.proofs.Common.{arith}
use Rattle.anb_syntax.proofs.Scanned.{literal_token, no_literal}
use Rattle.anb_syntax.proofs.tokens.token_at.Goals as goal

pub returns-then-b-eq34-clause-token : goal.returns-then-b-eq34-clause-token
returns-then-b-eq34-clause-token c = literal_token c.args.text.now c.args.i (omega arith) (omega arith) _ c.in_ok-len.ensures.len

pub returns-in_err-len-clause-token : goal.returns-in_err-len-clause-token
returns-in_err-len-clause-token c = rw c.from_residual.ensures (no_literal c.args.text.now c.args.i (omega arith) (omega arith) c.in_err-len.ensures.len)
