use Rattle.std.proofs.Common.{arith}
use Rattle.anb_syntax.proofs.Scanned.{behind_backslash}
use Rattle.anb_syntax.proofs.tokens.character_len.Goals as goal

pub returns-in_ok-escape_len-in-92-clause-some : goal.returns-in_ok-escape_len-in-92-clause-some
returns-in_ok-escape_len-in-92-clause-some c =
    let h = c.in_ok-escape_len-in-92.ensures.some in
    behind_backslash c.args.text.now _ (omega arith) (omega arith) h.0 h.1 h.2
