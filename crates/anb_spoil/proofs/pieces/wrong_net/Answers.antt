use Rattle.std.proofs.Common.{arith}
use Rattle.anb_spoil.proofs.Written.{dot_written, semicolon_written}
use Rattle.anb_spoil.proofs.pieces.wrong_net.Goals as goal

pub returns-in_ok-wrong-in-Semicolon : goal.returns-in_ok-wrong-in-Semicolon
returns-in_ok-wrong-in-Semicolon c =
    semicolon_written _ _ _ _ c.in-Semicolon.is c.in_ok-wrong-in-Semicolon.ensures (omega (arith, c.len.ensures, c.in_ok-wrong-in-Semicolon.wrong.ok.0))

pub returns-in_ok-wrong-in-Dot : goal.returns-in_ok-wrong-in-Dot
returns-in_ok-wrong-in-Dot c = dot_written _ _ _ _ c.in-Dot.is c.in_ok-wrong-in-Dot.ensures (omega (arith, c.len-place.ensures, c.in_ok-wrong-in-Dot.wrong.ok.0))
