use Rattle.std.proofs.Common.{map, ◌∙◌}
use Rattle.anb_syntax.specs.Views.{narration_of, tok_of}
use Rattle.anb_mistakes.proofs.Spotting.{no_limit}
use Rattle.anb_mistakes.proofs.spots.spot.Goals as goal

pub returns-in_default-clause-tokens : goal.returns-in_default-clause-tokens
returns-in_default-clause-tokens c =
    c.fault_spot.ensures.tokens
    ∙ no_limit (narration_of c.args.narration.now) c.args.why.now (map (tok_of c.args.text.now) c.args.tokens.now) c.in_default.not-Limit
