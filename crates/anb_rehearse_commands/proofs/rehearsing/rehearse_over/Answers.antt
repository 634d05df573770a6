use Rattle.anb_honest.specs.Joint.{cast, joint}
use Rattle.anb_rehearse_commands.proofs.Company.{follow, goes, rehearsed_to}
use Rattle.anb_rehearse_commands.proofs.Over.{late_enough, told_from, unreached_late, unreached_over, unreached_told, wrote}
use Rattle.anb_rehearse_commands.proofs.rehearsing.rehearse_over.Goals as goal

pub rehearse_now-requires-clause-goes_on : goal.rehearse_now-requires-clause-goes_on
rehearse_now-requires-clause-goes_on g c =
    let p = c.args.prepared.now in
    goes p.staged.protocol p.staged.codes.items p.staged.values p.staged.seed p.turns.items c.requires c.honest_bytes_exist.ensures c.rehearsals_are_honest.ensures

pub returns-in-Ok-clause-comes : goal.returns-in-Ok-clause-comes
returns-in-Ok-clause-comes g c =
    let p = c.args.prepared.now in
    let S = g.W.Wire.state c.args.wire.now in
    let T = g.W.Wire.state c.reach_stdio.new.wire in
    let U = g.W.Wire.state c.rehearse_now.new.wire in
    let now = c.rehearse_now.ensures in
    rehearsed_to p.staged.protocol p.staged.codes.items p.staged.values p.staged.seed p.turns.items c.requires c.honest_bytes_exist.ensures c.rehearsals_are_honest.ensures c.plays_are_honest.ensures c.complete_is_tested.ensures
    c.rehearse_now.result S.written U.written
    (told_from S T c.in-Ok.ensures.reached U now.only c.rehearse_now.result now.after (joint (cast p.staged.protocol p.staged.codes.items p.staged.values p.staged.seed) p.turns.items) now.told)

pub returns-in-Ok-clause-late : goal.returns-in-Ok-clause-late
returns-in-Ok-clause-late g c =
    let now = c.rehearse_now.ensures in
    late_enough (g.W.Wire.state c.args.wire.now) (g.W.Wire.state c.reach_stdio.new.wire) c.in-Ok.ensures.reached (g.W.Wire.state c.rehearse_now.new.wire) now.only c.rehearse_now.result now.after

pub returns-in-Ok-clause-wire : goal.returns-in-Ok-clause-wire
returns-in-Ok-clause-wire g c =
    let now = c.rehearse_now.ensures in
    wrote (g.W.Wire.state c.args.wire.now) (g.W.Wire.state c.reach_stdio.new.wire) c.in-Ok.ensures.reached (g.W.Wire.state c.rehearse_now.new.wire) now.only c.rehearse_now.result now.after now.cause now.reported

pub returns-in-Err-clause-comes : goal.returns-in-Err-clause-comes
returns-in-Err-clause-comes g c =
    let p = c.args.prepared.now in
    let S = g.W.Wire.state c.args.wire.now in
    let T = g.W.Wire.state c.reach_stdio.new.wire in
    rehearsed_to p.staged.protocol p.staged.codes.items p.staged.values p.staged.seed p.turns.items c.requires c.honest_bytes_exist.ensures c.rehearsals_are_honest.ensures c.plays_are_honest.ensures c.complete_is_tested.ensures
    c.in-Err.status S.written T.written
    (unreached_told S T c.in-Err.status c.in-Err.ensures.failed (joint (cast p.staged.protocol p.staged.codes.items p.staged.values p.staged.seed) p.turns.items))

pub returns-in-Err-clause-late : goal.returns-in-Err-clause-late
returns-in-Err-clause-late g c = unreached_late (g.W.Wire.state c.args.wire.now) (g.W.Wire.state c.reach_stdio.new.wire) c.in-Err.status c.in-Err.ensures.failed

pub returns-in-Err-clause-wire : goal.returns-in-Err-clause-wire
returns-in-Err-clause-wire g c = unreached_over (g.W.Wire.state c.args.wire.now) (g.W.Wire.state c.reach_stdio.new.wire) c.in-Err.status c.in-Err.ensures.failed
