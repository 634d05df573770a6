use Rattle.std.proofs.Common.{ℕ, true, List, Option, ap, subst}
use Rattle.anb_base.specs.Wires.{WireState}
use Rattle.anb_base.specs.declared.place.Place.{Place}
use Rattle.anb_command.specs.OverWire.{OverWire}
use Rattle.anb_status.specs.declared.status.Status.TheVariants.{Unreached}
use Rattle.anb_command.proofs.OverWire.{left_unreached, no_memory, not_before, not_reached, ran, taken_unreached, written_unreached}
use Rattle.anb_command.proofs.Prompt.{prompt_after, prompt_nowhere}
use Rattle.std.proofs.Common.{refl}
use Rattle.anb_park_commands.specs.Going.{HandsOut, IsSaved, plays_on, saved}
use Rattle.anb_park_commands.proofs.Reached.{kept_after, parks_after, parks_nowhere}
use Rattle.anb_park_commands.proofs.going.go_over.Goals as goal

pub returns-in-Ok-reach-clause-parks : goal.returns-in-Ok-reach-clause-parks
returns-in-Ok-reach-clause-parks g c = λ code s sent stands.
    parks_after c.args.way (plays_on c.args.live.now) (saved c.args.key.now s) c.in-Ok.place (g.W.Wire.state c.args.wire.now) (g.W.Wire.state c.reach.new.wire) (g.W.Wire.state c.go_now.new.wire) c.in-Ok-reach.ensures.reached
    c.go_now.result.status (c.go_now.ensures.parks code s sent stands)

pub returns-in-Ok-reach-clause-hands : goal.returns-in-Ok-reach-clause-hands
returns-in-Ok-reach-clause-hands g c =
    subst (λ (left : Option (List ℕ)). HandsOut c.args.way (IsSaved c.args.live.now c.args.key.now left) c.go_now.result.status c.go_now.result.record)
    (ap (λ (w : WireState). w.left) c.in-Ok-reach.ensures.reached.same) c.go_now.ensures.hands

pub returns-in-Ok-reach-clause-kept : goal.returns-in-Ok-reach-clause-kept
returns-in-Ok-reach-clause-kept g c = λ code s sent stands.
    kept_after code s c.in-Ok.place (g.W.Wire.state c.args.wire.now) (g.W.Wire.state c.reach.new.wire) c.in-Ok-reach.ensures.reached c.go_now.result.status (c.go_now.ensures.kept code s sent stands)

pub returns-in-Ok-reach-clause-prompt : goal.returns-in-Ok-reach-clause-prompt
returns-in-Ok-reach-clause-prompt g c =
    prompt_after (plays_on c.args.live.now) c.in-Ok.place (g.W.Wire.state c.args.wire.now) (g.W.Wire.state c.reach.new.wire) (g.W.Wire.state c.go_now.new.wire) c.in-Ok-reach.ensures.reached c.go_now.ensures.prompt

pub returns-in-Ok-reach-clause-wire : goal.returns-in-Ok-reach-clause-wire
returns-in-Ok-reach-clause-wire g c =
    subst (λ (place : Place). OverWire place true c.go_now.result.status (g.W.Wire.state c.args.wire.now) (g.W.Wire.state c.go_now.new.wire)) c.in-Ok.ensures
    (ran c.in-Ok.place (g.W.Wire.state c.args.wire.now) (g.W.Wire.state c.reach.new.wire) c.in-Ok-reach.ensures.reached (g.W.Wire.state c.go_now.new.wire) c.go_now.ensures.reached
    c.go_now.result.status c.go_now.ensures.after (c.go_now.ensures.cause c.in-Ok.place) c.go_now.ensures.told)

pub returns-in-Ok-reach-clause-late : goal.returns-in-Ok-reach-clause-late
returns-in-Ok-reach-clause-late g c =
    not_before c.in-Ok.place (g.W.Wire.state c.args.wire.now) (g.W.Wire.state c.reach.new.wire) c.in-Ok-reach.ensures.reached (g.W.Wire.state c.go_now.new.wire) c.go_now.ensures.reached c.go_now.result.status c.go_now.ensures.after

pub returns-in-Err-reach-clause-wire : goal.returns-in-Err-reach-clause-wire
returns-in-Err-reach-clause-wire g c =
    subst (λ (place : Place). OverWire place true (Unreached c.in-Ok.place) (g.W.Wire.state c.args.wire.now) (g.W.Wire.state c.reach.new.wire)) c.in-Ok.ensures
    (not_reached c.in-Ok.place (g.W.Wire.state c.args.wire.now) (g.W.Wire.state c.reach.new.wire) c.in-Err-reach.ensures.failed true)

pub returns-in-Err-reach-clause-parks : goal.returns-in-Err-reach-clause-parks
returns-in-Err-reach-clause-parks g c = λ code s sent stands arrivals tail cut. (
  left_unreached c.in-Ok.place (g.W.Wire.state c.args.wire.now) (g.W.Wire.state c.reach.new.wire) c.in-Err-reach.ensures.failed,
  written_unreached c.in-Ok.place (g.W.Wire.state c.args.wire.now) (g.W.Wire.state c.reach.new.wire) c.in-Err-reach.ensures.failed,
)

pub returns-in-Err-reach-clause-kept : goal.returns-in-Err-reach-clause-kept
returns-in-Err-reach-clause-kept g c = λ code s sent stands e arrivals tail is cut. absurd (cc)

pub returns-in-Err-reach-clause-prompt : goal.returns-in-Err-reach-clause-prompt
returns-in-Err-reach-clause-prompt g c =
    prompt_nowhere (plays_on c.args.live.now) (g.W.Wire.state c.args.wire.now) (g.W.Wire.state c.reach.new.wire)
    (left_unreached c.in-Ok.place (g.W.Wire.state c.args.wire.now) (g.W.Wire.state c.reach.new.wire) c.in-Err-reach.ensures.failed)
    (taken_unreached c.in-Ok.place (g.W.Wire.state c.args.wire.now) (g.W.Wire.state c.reach.new.wire) c.in-Err-reach.ensures.failed)

pub returns-in-Err-clause-parks : goal.returns-in-Err-clause-parks
returns-in-Err-clause-parks g c = λ code s sent stands. parks_nowhere c.args.way (plays_on c.args.live.now) (saved c.args.key.now s) (g.W.Wire.state c.args.wire.now)

pub returns-in-Err-clause-kept : goal.returns-in-Err-clause-kept
returns-in-Err-clause-kept g c = λ code s sent stands e arrivals tail is cut. absurd (cc)

pub returns-in-Err-clause-prompt : goal.returns-in-Err-clause-prompt
returns-in-Err-clause-prompt g c = prompt_nowhere (plays_on c.args.live.now) (g.W.Wire.state c.args.wire.now) (g.W.Wire.state c.args.wire.now) refl refl

pub returns-in-Err-clause-wire : goal.returns-in-Err-clause-wire
returns-in-Err-clause-wire g c = no_memory _ true (g.W.Wire.state c.args.wire.now)
