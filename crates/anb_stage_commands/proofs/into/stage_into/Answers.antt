use Rattle.anb_command.proofs.Chains.{told_map}
use Rattle.anb_stage_commands.specs.Asking.{staged}
use Rattle.anb_stage_commands.specs.Words.{staged_files}
use Rattle.anb_stage_commands.proofs.Told.{told_cause, told_completes, told_faults, told_reaches, told_touches}
use Rattle.anb_stage_commands.proofs.into.stage_into.Goals as goal

pub returns-clause-does : goal.returns-clause-does
returns-clause-does g c =
    let e = c.staged_into.ensures in
    record {
      end = c.staged_into.result.status;
      missed = c.staged_into.result.missing;
      does = e.does;
      told_so = c.told.ensures;
      leaves = e.ended.leaves;
      refuses = e.ended.refuses;
      roles = e.ended.roles;
      why_missed = e.ended.why_missed;
      others = e.ended.others;
      recorded = e.ended.recorded;
    }

pub returns-clause-faults : goal.returns-clause-faults
returns-clause-faults g c =
    let s = staged c.args.words in
    let e = c.staged_into.ensures in
    let r = c.staged_into.result in
    let new = c.staged_into.new in
    rw c.told.ensures
    (told_cause c.args.folder.now e.ended.roles (g.P.Spawner.child c.args.spawner.now) (g.P.Spawner.child new.spawner) (g.J.Store.state c.args.journal.now) (g.J.Store.state new.journal)
    r.status r.missing e.ended.why_missed s (staged_files s) (g.F.Shelf.faults c.args.shelf.now) (g.F.Shelf.faults new.shelf) (g.W.Wire.state c.args.wire.now) (g.W.Wire.state new.wire) e.faults)

pub returns-clause-reported : goal.returns-clause-reported
returns-clause-reported g c =
    let s = staged c.args.words in
    let e = c.staged_into.ensures in
    let r = c.staged_into.result in
    let new = c.staged_into.new in
    rw c.told.ensures
    (told_faults c.args.folder.now e.ended.roles (g.P.Spawner.child c.args.spawner.now) (g.P.Spawner.child new.spawner) (g.J.Store.state c.args.journal.now) (g.J.Store.state new.journal)
    r.status r.missing e.ended.why_missed s (staged_files s) (g.F.Shelf.faults c.args.shelf.now) (g.F.Shelf.faults new.shelf) (g.W.Wire.state c.args.wire.now) (g.W.Wire.state new.wire) e.reported)

pub returns-clause-reached : goal.returns-clause-reached
returns-clause-reached g c =
    let s = staged c.args.words in
    let e = c.staged_into.ensures in
    let r = c.staged_into.result in
    let new = c.staged_into.new in
    rw c.told.ensures
    (told_reaches c.args.folder.now e.ended.roles (g.P.Spawner.child c.args.spawner.now) (g.P.Spawner.child new.spawner) (g.J.Store.state c.args.journal.now) (g.J.Store.state new.journal)
    r.status r.missing e.ended.why_missed s (staged_files s) (g.F.Shelf.faults c.args.shelf.now) (g.F.Shelf.faults new.shelf) (g.W.Wire.state c.args.wire.now) (g.W.Wire.state new.wire) e.reached)

pub returns-clause-touches : goal.returns-clause-touches
returns-clause-touches g c =
    let s = staged c.args.words in
    let e = c.staged_into.ensures in
    let r = c.staged_into.result in
    let new = c.staged_into.new in
    rw c.told.ensures
    (told_touches c.args.folder.now e.ended.roles (g.P.Spawner.child c.args.spawner.now) (g.P.Spawner.child new.spawner) (g.J.Store.state c.args.journal.now) (g.J.Store.state new.journal)
    r.status r.missing e.ended.why_missed s (staged_files s) (g.F.Shelf.faults c.args.shelf.now) (g.F.Shelf.faults new.shelf) (g.W.Wire.state c.args.wire.now) (g.W.Wire.state new.wire) e.touches)

pub returns-clause-completes : goal.returns-clause-completes
returns-clause-completes g c = λ quiet calm still.
    let s = staged c.args.words in
    let e = c.staged_into.ensures in
    let r = c.staged_into.result in
    let new = c.staged_into.new in
    rw c.told.ensures
    (told_completes c.args.folder.now e.ended.roles (g.P.Spawner.child c.args.spawner.now) (g.P.Spawner.child new.spawner) (g.J.Store.state c.args.journal.now) (g.J.Store.state new.journal)
    r.status r.missing e.ended.why_missed s (staged_files s) (g.F.Shelf.faults c.args.shelf.now) (g.F.Shelf.faults new.shelf) (g.W.Wire.state c.args.wire.now) (g.W.Wire.state new.wire)
    (g.F.Shelf.files c.args.shelf.now) (g.W.Wire.state c.args.wire.now).written (g.W.Wire.state new.wire).written still
    (told_map (g.F.Shelf.files c.args.shelf.now) (λ files r. λ z given quiet_file. (r z given quiet_file).0) e.ended.recorded) (e.completes quiet calm))
