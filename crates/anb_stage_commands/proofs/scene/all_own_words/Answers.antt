use Rattle.std.proofs.Common.{◌<◌, [], ap, arith, get_or, length}
use Rattle.anb_stage_commands.proofs.Scenes.{got, own_refused}
use Rattle.anb_stage_commands.proofs.scene.all_own_words.Goals as goal

pub returns-in-Err-clause-refused : goal.returns-in-Err-clause-refused
returns-in-Err-clause-refused c =
    let roles = c.args.protocol.now.roles in
    let n = c.loop-role.role in
    let within : n < length roles = omega (arith, c.loop-role-test.true, ap length c.roles-roles.ensures) in
    own_refused c.args.protocol.now c.args.fitted.now n roles (get_or roles n []) within (got roles n [] within) c.in-Err.status c.loop-role.invariant.short c.in-Err.ensures.refused
