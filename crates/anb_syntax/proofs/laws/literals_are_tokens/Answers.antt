use Rattle.anb_syntax.proofs.LiteralTokens.{literal_tokens}
use Rattle.anb_syntax.proofs.laws.literals_are_tokens.Goals as goal

pub returns : goal.returns
returns c = literal_tokens
