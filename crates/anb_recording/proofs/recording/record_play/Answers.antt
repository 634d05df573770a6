use Rattle.std.proofs.Common.{◌++◌, ◌∙◌, ℕ, List, ap, rules}
use Rattle.anb_machine.specs.Machines.{gives}
use Rattle.anb_store.specs.Stores.{StoreState}
use Rattle.anb_recording.specs.Recordings.{IsRecorded}
use Rattle.anb_recording.proofs.Noting.{moved}
use Rattle.anb_recording.proofs.Replaying.{reached_all, replays_as}
use Rattle.anb_recording.proofs.recording.record_play.Goals as goal

pub returns-clause-recorded : goal.returns-clause-recorded
returns-clause-recorded g c = λ some.
    let came = c.play_all-end.ensures.came some in
    let new = c.play_all-end.new.played in
    let on = came.follows.2 in
    let machine = g.P.Playable.machine in
    let R = gives (machine c.args.played.now) in
    let end = c.play_all-end.result in
    let left = (g.W.Wire.state c.args.wire.now).left in
    moved g.J.Store.state _ new.journal.now _ new.journal.ghost_name came.follows.0 (search rules)
    (λ (s : StoreState). IsRecorded R c.args.file.now (g.J.Store.state c.args.journal.now) s new.kept left end)
    (record {
      lines = on.lines;
      plain = on.plain;
      records = on.records;
      heard = λ arrivals tail cut. let f = came.first arrivals tail cut in (f.0, f.1 ∙ ap (λ (l : List (List ℕ)). l ++ f.0) on.used_is);
      replays = replays_as R (machine new.played.now) on.lines (reached_all R (gives (machine new.played.now)) on.lines on.covers) end came.stands c.play_all-end.ensures.awaits;
    })
