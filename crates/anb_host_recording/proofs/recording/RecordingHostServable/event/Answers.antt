use Rattle.std.proofs.Common.{List, [], ◌∷◌, ◌++◌, sym, ap, ◌∙◌, subst}
use Rattle.anb_host.specs.Hosts.{HostValue, StandsFor, plays_of}
use Rattle.anb_host.proofs.Turning.{same_plays}
use Rattle.anb_host_recording.proofs.recording.RecordingHostServable.event.Goals as goal

pub returns-clause-stands : goal.returns-clause-stands
returns-clause-stands g c = λ past stands.
    subst (λ (h : HostValue). StandsFor h (past ++ c.args.event ∷ [])) (sym c.note.ensures.same_host) (c.in_ok-told.ensures.stands past stands)

pub returns-clause-followed : goal.returns-clause-followed
returns-clause-followed g c = (
  c.note.ensures.same_place,
  c.note.ensures.same_noted,
  (
    c.note.ensures.same_reference,
    c.note.ensures.same_folder,
    ap plays_of c.note.ensures.same_host ∙ same_plays c.args.self.now.host.now c.event.new.self c.event.ensures.code c.event.ensures.init c.event.ensures.seed,
    λ past stands. (
      returns-clause-stands g c past stands,
      c.note.ensures.notes c.args.event (sym c.session-session.ensures) (sym c.is_start-starts.ensures) c.arrival_line-line.ensures.is (c.arrival_line-line.ensures.plain c.requires) (plays_of c.args.self.now.host.now) past
          (c.deref.ensures.value ∙ c.in_ok-told.ensures.own past stands),
    ),
  ),
)
