use Rattle.std.proofs.Common.{[], ◌∷◌, rules}
use Rattle.anb_machine.specs.Machines.{MachineValue}
use Rattle.anb_store.specs.Stores.{StoreState}
use Rattle.anb_branch.specs.Recorded.{Lines}
use Rattle.anb_branch.specs.Stems.{CameBy}
use Rattle.anb_branch.proofs.Recorded.{lines_of, moved_both}
use Rattle.anb_branch.proofs.recording.record_on.Goals as goal

pub returns-clause-came : goal.returns-clause-came
returns-clause-came g c = λ some.
    let new = c.play_on-end.new.played in
    let old = c.args.machine.now in
    let file = c.args.file.now in
    let kept = c.args.kept in
    let b = c.args.arrival in
    let s = g.W.Wire.state c.args.wire.now in
    let store = g.J.Store.state c.args.journal.now in
    let end = c.play_on-end.result in
    let came = c.play_on-end.ensures.came some in
    let on = came.follows in
    moved_both g.J.Store.state _ new.journal.now _ new.played.now _ new.journal.ghost_name _ new.played.ghost_name on.0 (search rules) on.2.played.0 (search rules)
    (λ (now : StoreState) (m : MachineValue). CameBy (Lines file store now kept new.kept) old m m (b ∷ []) s end)
    (record {
      stop = came.stop;
      is = came.is;
      used = came.used;
      follows = lines_of file store (g.J.Store.state new.journal.now) kept new.kept old new.played.now (b ∷ came.used) on.2;
      first = came.first;
      stands = came.stands;
      awaits = came.awaits;
    })
