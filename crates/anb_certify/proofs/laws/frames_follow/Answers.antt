use Rattle.anb_certify.proofs.Followed.{frames_follow}
use Rattle.anb_certify.proofs.laws.frames_follow.Goals as goal

pub returns : goal.returns
returns c = frames_follow
