use Rattle.std.proofs.Common.{refl}
use Rattle.anb_text.proofs.ReadFacts.{label_utf8}
use Rattle.anb_text.proofs.reading.label_text.Goals as goal

pub returns : goal.returns
returns c = rw (c.new.ensures, c.in_ok-from_utf8_lossy.ensures.ok (label_utf8 c.args.label.now c.requires)) refl
