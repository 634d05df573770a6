use Rattle.std.proofs.Common.{refl}
use Rattle.anb_syntax.proofs.Names.{name_utf8}
use Rattle.anb_syntax.proofs.words.name_text.Goals as goal

pub returns : goal.returns
returns c = rw (c.new.ensures, c.in_ok-from_utf8_lossy.ensures.ok (name_utf8 c.args.name.now c.requires)) refl
