use Rattle.std.proofs.Common.{length}
use Rattle.anb_verdict.proofs.places.+put_place.Given as goal

abbrev pub decreases-put_place : goal.decreases-put_place
decreases-put_place l = length l.path.now
