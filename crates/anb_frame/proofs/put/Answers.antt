use Rattle.std.proofs.Common.{◌+◌, length, arith, length-append, rules}
use Rattle.anb_base.proofs.Joined.{Put-joined}
use Rattle.anb_base.specs.Moves.{PutPrefix}
use Rattle.anb_frame.specs.Frames.{length_bytes, frame}
use Rattle.anb_frame.proofs.Lengths.{take-length_bytes, length-length_bytes}
use Rattle.anb_frame.proofs.put.Goals as goal

pub returns-in_err-write_whole-2-clause-failed : goal.returns-in_err-write_whole-2-clause-failed
returns-in_err-write_whole-2-clause-failed g c =
    let first = rw c.written_length.ensures at c.in_ok-write_whole.ensures.put in
    let then = c.in_err-write_whole-2.ensures.failed in
    let prefix : PutPrefix (g.K.Sink.written c.args.snk.now) (g.K.Sink.written c.write_whole-2.new.snk) (frame c.args.bytes.now) =
    (4 + then.0, omega (arith, length-append (length_bytes (length c.args.bytes.now)) c.args.bytes.now, length-length_bytes (length c.args.bytes.now), then.1), rw (take-length_bytes (length c.args.bytes.now) then.0 c.args.bytes.now) (Put-joined _ _ _ _ _ first then.2)) in
    search (rules, prefix)
