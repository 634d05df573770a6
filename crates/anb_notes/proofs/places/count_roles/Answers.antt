use Rattle.std.proofs.Common.{◌≤◌, length, ap, arith}
use Rattle.anb_notes.proofs.places.count_roles.Goals as goal

pub overflow_cast-result : goal.overflow_cast-result
overflow_cast-result c =
    let few : length c.args.protocol.now.roles ≤ 32 = (c.protocols_hold.ensures c.args.protocol.now c.messages-actions.ensures.protocol).roles in
    let same = ap length c.roles.ensures in
    omega (arith, few, same)
