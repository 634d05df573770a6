use Rattle.std.proofs.Common.{◌≡◌, [], sym, ap, subst}
use Rattle.anb_base.specs.Bytes.{IsBytes}
use Rattle.anb_machine.specs.Machines.{gives}
use Rattle.anb_transcript.specs.declared.transcript.TranscriptLine.TheVariants.{Out}
use Rattle.anb_recording.specs.Lines.{spelled}
use Rattle.anb_recording.proofs.Noting.{follows_message}
use Rattle.anb_recording.proofs.recording.RecordingPlayable.advance.Goals as goal

pub returns-in-Message-clause-turned : goal.returns-in-Message-clause-turned
returns-in-Message-clause-turned g c = rw c.note.ensures.same_played c.in-Message.ensures.turned

pub returns-in-Message-clause-followed : goal.returns-in-Message-clause-followed
returns-in-Message-clause-followed g c = λ some.
    let old = c.args.self.now in
    let new = c.note.new.self in
    rw c.note.ensures.same_played
    (follows_message ((new.played.ghost_name ≡ old.played.ghost_name) × g.P.Playable.Follows old.played.now [] c.advance.new.self) (c.note.ensures.same_place, c.in-Message.ensures.followed (λ is. cc)) (gives (g.P.Playable.machine old.played.now)) (gives (g.P.Playable.machine c.advance.new.self))
    old.journal.ghost_name new.journal.ghost_name old.file.now new.file.now c.note.ensures.same_reference c.note.ensures.same_file (g.J.Store.state old.journal.now) (g.J.Store.state new.journal.now) old.kept new.kept
    c.in-Message.message c.in-Message.ensures.turned.0 (subst IsBytes c.as_slice.ensures c.note.ensures.bytes) (c.note.ensures.notes (Out c.in-Message.message) (ap (spelled 62) (sym c.as_slice.ensures))))
