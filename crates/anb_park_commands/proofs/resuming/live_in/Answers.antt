use Rattle.anb_park_commands.proofs.Records.{accepted_in_play, held_bytes, record_refused}
use Rattle.anb_park_commands.proofs.Small.{small_awake}
use Rattle.anb_park_commands.proofs.resuming.live_in.Goals as goal

pub returns-in-Ok-clause-live : goal.returns-in-Ok-clause-live
returns-in-Ok-clause-live c =
    let owner = c.args.owner.now in
    let role = owner.playable in
    let (s, accepts, parked) = c.in-Ok.ensures.resumed in (
      s,
      parked,
      held_bytes role.protocol role.role role.code c.requires.runs c.gives_bytes.ensures c.unseals_exactly.ensures owner.id c.args.key.now c.args.parked.now c.are_bytes.ensures s accepts,
      small_awake role.protocol role.role role.code c.requires.runs s c.args.key.now c.args.parked.now c.seals_longer.ensures accepts.whole c.requires.size,
      accepted_in_play role.protocol role.role role.code c.requires.runs c.gives_bytes.ensures c.unseals_exactly.ensures owner.id c.args.key.now c.args.parked.now c.are_bytes.ensures s accepts,
    )

pub returns-in-Err-clause-refused : goal.returns-in-Err-clause-refused
returns-in-Err-clause-refused c =
    let owner = c.args.owner.now in
    let role = owner.playable in
    rw c.status_of.ensures.status
    (record_refused role.protocol role.role role.code c.requires.runs c.gives_bytes.ensures c.unseals_exactly.ensures owner.id c.args.key.now c.args.parked.now c.are_bytes.ensures c.in-Err.why c.in-Err.ensures.refused)
