use Rattle.std.proofs.Common.{Some, ap, ◌∙◌}
use Rattle.anb_code.specs.Taking.{take_texts}
use Rattle.anb_command.proofs.Taking.{next_take}
use Rattle.anb_c.proofs.opening.copy_takes.Goals as goal

pub loop-i-preserved : goal.loop-i-preserved
loop-i-preserved c =
    next_take (take_texts c.args.code.now.instrs) c.loop-i.i _ c.loop-i.names.items c.push.new.self.items c.loop-i.invariant
    (ap Some c.in_ok-copy.ensures ∙ c.take_text.ensures) c.in_ok-push.ensures.items
