use Rattle.std.proofs.Common.{rules, ◌≡◌, length, ◌∙◌, arith}
use Rattle.anb_seal.proofs.Masked.{one_byte_more, all_bytes}
use Rattle.anb_seal.proofs.stream.append_xored.Goals as goal

pub loop-i-preserved : goal.loop-i-preserved
loop-i-preserved c = record {
  items = c.push_reserved.ensures.items ∙ one_byte_more c.args.masked.now.items c.loop-i.masked.items c.args.bytes.now c.args.pad.now c.loop-i.i (omega arith) (omega arith) c.loop-i.invariant.items;
  len = search rules;
  capacity = search rules;
}

pub returns : goal.returns
returns c =
    let done : c.loop-i.i ≡ length c.args.bytes.now = omega arith in
    record {
      items = c.loop-i.invariant.items ∙ all_bytes c.args.masked.now.items c.args.bytes.now c.args.pad.now c.loop-i.i done;
      len = search rules;
      capacity = search rules;
    }
