use Rattle.std.proofs.Common.{◌≡◌, ◌++◌, take}
use Rattle.anb_frame.specs.Frames.{frames, length_bytes}
use Rattle.anb_park.specs.Records.{marker}
use Rattle.anb_park.proofs.body.begin_body.Given as goal

abbrev pub invariant-loop-value : goal.invariant-loop-value
invariant-loop-value l = l.body.items ≡ marker ++ l.fn.id ++ l.fn.seed ++ length_bytes l.fn.session ++ frames (take l.value-index l.fn.init)
