use Rattle.std.proofs.lemmas.Nat.{be_bytes_4}
use Rattle.anb_frame.specs.Frames.{length_bytes}
use Rattle.anb_park.proofs.body.read_number.Goals as goal

pub returns : goal.returns
unfolding length_bytes
returns c = be_bytes_4 c.args.head.now _ c.told-head c.fits-head c.from_be_bytes.ensures
