use Rattle.std.proofs.Common.{rules}
use Rattle.anb_machine.specs.Machines.{MachineValue}
use Rattle.anb_store.specs.Stores.{StoreState}
use Rattle.anb_branch.specs.Recorded.{Lines}
use Rattle.anb_branch.specs.Stems.{CameWithin, HeardUpTo}
use Rattle.anb_branch.proofs.Recorded.{if_err, if_ok, lines_of, moved_both}
use Rattle.anb_branch.proofs.recording.record_stem.Goals as goal

pub returns-clause-heard : goal.returns-clause-heard
returns-clause-heard g c =
    let new = c.play_to_choice-to.new.played in
    let old = c.args.machine.now in
    let file = c.args.file.now in
    let kept = c.args.kept.now in
    let s = g.W.Wire.state c.args.wire.now in
    let t = g.W.Wire.state c.play_to_choice-to.new.wire in
    let store = g.J.Store.state c.args.journal.now in
    if_ok c.play_to_choice-to.result _ _ (λ choice heard.
    moved_both g.J.Store.state _ new.journal.now _ new.played.now _ new.journal.ghost_name _ new.played.ghost_name heard.follows.0 (search rules) heard.follows.2.played.0 (search rules)
    (λ (now : StoreState) (m : MachineValue). HeardUpTo (Lines file store now kept new.kept) old m choice.past.items choice.arrival s t)
    (record { follows = lines_of file store (g.J.Store.state new.journal.now) kept new.kept old new.played.now choice.past.items heard.follows.2; first = heard.first }))
    c.play_to_choice-to.ensures.heard

pub returns-clause-came : goal.returns-clause-came
returns-clause-came g c =
    let new = c.play_to_choice-to.new.played in
    let old = c.args.machine.now in
    let file = c.args.file.now in
    let kept = c.args.kept.now in
    let s = g.W.Wire.state c.args.wire.now in
    let store = g.J.Store.state c.args.journal.now in
    if_err c.play_to_choice-to.result _ _ (λ end came some.
    let within = came some in
    let on = within.0.follows in
    moved_both g.J.Store.state _ new.journal.now _ new.played.now _ new.journal.ghost_name _ new.played.ghost_name on.0 (search rules) on.2.played.0 (search rules)
    (λ (now : StoreState) (m : MachineValue). CameWithin c.args.receives (Lines file store now kept new.kept) old m m s end) (
      record {
        stop = within.0.stop;
        is = within.0.is;
        used = within.0.used;
        follows = lines_of file store (g.J.Store.state new.journal.now) kept new.kept old new.played.now within.0.used on.2;
        first = within.0.first;
        stands = within.0.stands;
        awaits = within.0.awaits;
      },
      within.1,
    ))
    c.play_to_choice-to.ensures.came
