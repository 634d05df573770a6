use Rattle.std.proofs.Common.{◌∙◌, sym}
use Rattle.anb_stage_commands.proofs.Behind.{read_on}
use Rattle.anb_stage_commands.proofs.words.read_behind.Goals as goal

pub loop-rest-preserved : goal.loop-rest-preserved
loop-rest-preserved c =
    read_on c.args.words.now c.loop-rest.count c.loop-rest.rest.now c.flag-item.result c.role-item.result c.program-item.result c.loop-rest.invariant c.in-len3-up.len_at_least
    c.flag-item.is c.role-item.is c.program-item.is (sym c.is_cast.ensures ∙ c.if-not-is_cast.false)
