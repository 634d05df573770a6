use Rattle.std.proofs.Common.{◌≡◌, [], ◌∷◌, sym, ap, subst}
use Rattle.anb_base.specs.Bytes.{IsBytes}
use Rattle.anb_machine.specs.Machines.{gives}
use Rattle.anb_transcript.specs.declared.transcript.TranscriptLine.TheVariants.{In}
use Rattle.anb_recording.specs.Lines.{spelled}
use Rattle.anb_recording.proofs.Noting.{follows_arrival, on_both}
use Rattle.anb_recording.proofs.recording.RecordingPlayable.arrive.Goals as goal

pub returns-clause-gives : goal.returns-clause-gives
returns-clause-gives g c = rw (sym c.note.ensures.same_played) c.arrive.ensures.gives

pub returns-clause-followed : goal.returns-clause-followed
returns-clause-followed g c =
    let old = c.args.self.now in
    let new = c.note.new.self in
    on_both c.arrive.result _ _ _ (returns-clause-gives g c) c.arrive.ensures.followed (λ gives_on followed.
    follows_arrival ((new.played.ghost_name ≡ old.played.ghost_name) × g.P.Playable.Follows old.played.now (c.args.bytes ∷ []) c.arrive.new.self)
    (c.note.ensures.same_place, subst (λ p. g.P.Playable.Follows p (c.args.bytes ∷ []) c.arrive.new.self) c.note.ensures.same_played followed) (gives (g.P.Playable.machine old.played.now)) (gives (g.P.Playable.machine c.arrive.new.self))
    old.journal.ghost_name new.journal.ghost_name old.file.now new.file.now c.note.ensures.same_reference c.note.ensures.same_file (g.J.Store.state old.journal.now) (g.J.Store.state new.journal.now) old.kept new.kept
    c.args.bytes c.requires.next gives_on (subst IsBytes c.as_slice.ensures c.note.ensures.bytes, c.requires.short) (c.note.ensures.notes (In c.args.bytes) (ap (spelled 60) (sym c.as_slice.ensures))))
