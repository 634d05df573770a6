use Rattle.std.proofs.Common.{◌≡◌, drop, map}
use Rattle.anb_syntax.specs.Views.{tok_of}
use Rattle.anb_mistakes.specs.Spots.{spells}
use Rattle.anb_mistakes.proofs.listing.spells.Given as goal

abbrev pub invariant-loop-token : goal.invariant-loop-token
invariant-loop-token l = spells l.left (map (tok_of l.text) (drop l.token-index l.tokens)) ≡ spells l.spelled (map (tok_of l.text) l.tokens)
