use Rattle.std.proofs.Common.{arith, ap, length, length-drop}
use Rattle.anb_syntax.specs.Scanning.{characters_len}
use Rattle.anb_syntax.proofs.Scanned.{from_place, goes_on, none_farther}
use Rattle.anb_syntax.proofs.tokens.literal_len.Goals as goal

pub characters-init : goal.characters-init
characters-init c = record { within = omega arith; so_far = none_farther (characters_len c.args.text.now) }

pub characters-preserved : goal.characters-preserved
characters-preserved c =
    let h = c.in-Some.ensures.some in
    let size = length-drop c.characters.len c.args.text.now in
    record { within = omega (arith, h.1, ap length (from_place c.args.text.now c.characters.len), size, c.characters.invariant.within); so_far = goes_on c.args.text.now c.characters.len c.in-Some.n c.characters.invariant.so_far h.2 }
