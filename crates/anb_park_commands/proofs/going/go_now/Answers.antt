use Rattle.std.proofs.Common.{refl, ap, sym, ◌∙◌, subst}
use Rattle.anb_base.specs.Wires.{WireState}
use Rattle.anb_base.specs.declared.TheConstants.{ARRIVAL}
use Rattle.anb_frame.specs.Cuts.{CutLeft}
use Rattle.anb_machine.specs.Machines.{gives}
use Rattle.anb_park.specs.Records.{after}
use Rattle.anb_session.specs.declared.PlayEnd.TheVariants as ends
use Rattle.anb_status.specs.declared.status.Status.TheVariants.{Waiting}
use Rattle.anb_command.proofs.OverWire.{by_parts}
use Rattle.anb_session.proofs.Prompt.{prompt_placeless}
use Rattle.anb_command.proofs.Reported.{session_told, session_stays, told_further}
use Rattle.anb_park_commands.specs.Going.{ended_so, plays_on, saved}
use Rattle.anb_park_commands.proofs.Handing.{hands_map, hands_none}
use Rattle.anb_park_commands.proofs.Reached.{RunsSo, after_of, cause_further, cause_of, never_parked, parked_after, parks_ended, parks_waiting, prompt_writing, stays_writing}
use Rattle.anb_park_commands.proofs.Small.{fits_frame}
use Rattle.anb_park_commands.proofs.going.go_now.Goals as goal

pub returns-in-Waiting-clause-reached : goal.returns-in-Waiting-clause-reached
returns-in-Waiting-clause-reached g c =
    let S = g.W.Wire.state c.args.wire.now in
    let T = g.W.Wire.state c.play_on.new.wire in
    stays_writing S T (g.W.Wire.state c.keep.new.wire) (session_stays S T (ends.Waiting c.in-Waiting.event) c.in-Waiting.ensures.faults) c.keep.ensures.only

pub keep-requires-clause-small : goal.keep-requires-clause-small
keep-requires-clause-small g c =
    let (code, s, sent, stands, small) = c.requires in
    let again = c.in-Waiting.ensures.parked c.in-Waiting.event code s sent refl stands in
    fits_frame code s small again.more c.play_on.new.live again.parked

pub returns-in-Waiting-clause-parks : goal.returns-in-Waiting-clause-parks
returns-in-Waiting-clause-parks g c = λ code s sent stands.
    let R = gives c.args.live.now.machine in
    let key = c.args.key.now in
    let left = ap (λ (w : WireState). w.left) (g.met.W.Wire.state_tells c.args.wire.now) in
    parks_waiting c.args.way R (saved key s) (g.W.Wire.state c.args.wire.now) (g.W.Wire.state c.play_on.new.wire) c.in-Waiting.event (g.W.Wire.state c.keep.new.wire) c.keep.ensures.only
    (by_parts (λ (S T : WireState). RunsSo c.args.way R (saved key s) S T (ends.Waiting c.in-Waiting.event)) _ _ _ _ (g.met.W.Wire.state_tells c.args.wire.now) (g.met.W.Wire.state_tells c.play_on.new.wire)
    (λ arrivals tail cut. c.in-Waiting.ensures.runs arrivals tail cut)) c.keep.result.status
    (λ arrivals tail cut. c.keep.ensures.writes code (after s arrivals) _ (parked_after code s (g.W.Source.left c.args.wire.now) c.play_on.new.live (c.in-Waiting.ensures.parked c.in-Waiting.event code s sent refl stands) arrivals tail (subst (λ l. CutLeft ARRIVAL l arrivals tail) left cut)).stands)

pub returns-in-Waiting-clause-hands : goal.returns-in-Waiting-clause-hands
returns-in-Waiting-clause-hands g c =
    let left = ap (λ (w : WireState). w.left) (g.met.W.Wire.state_tells c.args.wire.now) in
    hands_map c.args.way _ _ c.keep.result.status c.keep.result.record
    (λ record_bytes is code s sent stands arrivals tail cut.
    is code (after s arrivals) _ (parked_after code s (g.W.Source.left c.args.wire.now) c.play_on.new.live (c.in-Waiting.ensures.parked c.in-Waiting.event code s sent refl stands) arrivals tail (subst (λ l. CutLeft ARRIVAL l arrivals tail) left cut)).stands)
    c.keep.ensures.hands

pub returns-in_default-clause-hands : goal.returns-in_default-clause-hands
returns-in_default-clause-hands g c = rw c.status_of.ensures (hands_none c.args.way _ c.play_on.result)

pub returns-in-Waiting-clause-kept : goal.returns-in-Waiting-clause-kept
returns-in-Waiting-clause-kept g c = λ code s sent stands e arrivals tail is cut.
    let left = ap (λ (w : WireState). w.left) (g.met.W.Wire.state_tells c.args.wire.now) in
    let parked = parked_after code s (g.W.Source.left c.args.wire.now) c.play_on.new.live (c.in-Waiting.ensures.parked c.in-Waiting.event code s sent refl stands) arrivals tail (subst (λ l. CutLeft ARRIVAL l arrivals tail) left cut) in
    (parked.stands.sizes, parked.waiting)

pub returns-in-Waiting-clause-prompt : goal.returns-in-Waiting-clause-prompt
returns-in-Waiting-clause-prompt g c =
    let R = gives c.args.live.now.machine in
    prompt_placeless R (g.W.Wire.state c.args.wire.now) (g.W.Wire.state c.keep.new.wire)
    (prompt_writing R (g.W.Wire.state c.args.wire.now) (g.W.Wire.state c.play_on.new.wire) (g.W.Wire.state c.keep.new.wire) c.keep.ensures.only c.in-Waiting.ensures.prompt)

pub returns-in-Waiting-clause-cause : goal.returns-in-Waiting-clause-cause
returns-in-Waiting-clause-cause g c = λ place.
    let S = g.W.Wire.state c.args.wire.now in
    let T = g.W.Wire.state c.play_on.new.wire in
    cause_further S T (g.W.Wire.state c.keep.new.wire) (session_stays S T (ends.Waiting c.in-Waiting.event) c.in-Waiting.ensures.faults) c.keep.ensures.only
    place c.keep.result.status (c.keep.ensures.cause place)

pub returns-in-Waiting-clause-told : goal.returns-in-Waiting-clause-told
returns-in-Waiting-clause-told g c =
    let S = g.W.Wire.state c.args.wire.now in
    let T = g.W.Wire.state c.play_on.new.wire in
    told_further S T (Waiting c.in-Waiting.event) refl (session_told S T (ends.Waiting c.in-Waiting.event) c.in-Waiting.ensures.faults ended_so refl refl)
    (g.W.Wire.state c.keep.new.wire) c.keep.result.status c.keep.ensures.told

pub returns-in_default-clause-told : goal.returns-in_default-clause-told
returns-in_default-clause-told g c =
    rw c.status_of.ensures (session_told (g.W.Wire.state c.args.wire.now) (g.W.Wire.state c.play_on.new.wire) c.play_on.result c.play_on.ensures.faults ended_so refl refl)

pub returns-in_default-clause-parks : goal.returns-in_default-clause-parks
returns-in_default-clause-parks g c = λ code s sent stands.
    let R = gives c.args.live.now.machine in
    rw c.status_of.ensures
    (parks_ended c.args.way R (saved c.args.key.now s) (g.W.Wire.state c.args.wire.now) (g.W.Wire.state c.play_on.new.wire) c.play_on.result c.in_default.not-Waiting
    (by_parts (λ (S T : WireState). RunsSo c.args.way R (saved c.args.key.now s) S T c.play_on.result) _ _ _ _ (g.met.W.Wire.state_tells c.args.wire.now) (g.met.W.Wire.state_tells c.play_on.new.wire)
    (λ arrivals tail cut. c.play_on.ensures.runs arrivals tail cut)))

pub returns-in_default-clause-kept : goal.returns-in_default-clause-kept
returns-in_default-clause-kept g c = λ code s sent stands e arrivals tail is cut. absurd (never_parked c.play_on.result e (sym c.status_of.ensures ∙ is))

pub returns-in_default-clause-prompt : goal.returns-in_default-clause-prompt
returns-in_default-clause-prompt g c =
    prompt_placeless (gives c.args.live.now.machine) (g.W.Wire.state c.args.wire.now) (g.W.Wire.state c.play_on.new.wire) c.play_on.ensures.prompt

pub returns-in_default-clause-after : goal.returns-in_default-clause-after
returns-in_default-clause-after g c = rw c.status_of.ensures (after_of c.play_on.result)

pub returns-in_default-clause-cause : goal.returns-in_default-clause-cause
returns-in_default-clause-cause g c = λ place.
    let tells = c.play_on.ensures.faults in
    rw c.status_of.ensures (cause_of c.play_on.result place (g.W.Wire.state c.args.wire.now) (g.W.Wire.state c.play_on.new.wire) tells.reading.rose tells.writing.rose)

pub returns-in_default-clause-reached : goal.returns-in_default-clause-reached
returns-in_default-clause-reached g c = session_stays (g.W.Wire.state c.args.wire.now) (g.W.Wire.state c.play_on.new.wire) c.play_on.result c.play_on.ensures.faults
