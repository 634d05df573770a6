use Rattle.std.proofs.Common.{◌≡◌, length, ◌∙◌, arith}
use Rattle.anb_seal.proofs.Masked.{all_bytes, one_byte_more}
use Rattle.anb_spoil.proofs.tags.put_xored.Goals as goal

pub loop-i-preserved : goal.loop-i-preserved
loop-i-preserved c =
    c.in_ok-push.ensures.items ∙ one_byte_more c.args.out.now.items c.loop-i.out.items c.args.bytes.now c.args.pad.now c.loop-i.i (omega arith) (omega arith) c.loop-i.invariant

pub returns : goal.returns
returns c =
    let done : c.loop-i.i ≡ length c.args.bytes.now = omega arith in
    c.loop-i.invariant ∙ all_bytes c.args.out.now.items c.args.bytes.now c.args.pad.now c.loop-i.i done
