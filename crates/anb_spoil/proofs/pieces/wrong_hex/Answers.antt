use Rattle.std.proofs.Common.{arith}
use Rattle.anb_spoil.proofs.Written.{comma_written}
use Rattle.anb_spoil.proofs.pieces.wrong_hex.Goals as goal

pub returns-in_ok-wrong-in-Comma : goal.returns-in_ok-wrong-in-Comma
returns-in_ok-wrong-in-Comma c = comma_written _ _ _ _ c.in-Comma.is c.in_ok-wrong-in-Comma.ensures (omega (arith, c.len-place.ensures, c.in_ok-wrong-in-Comma.wrong.ok.0))
