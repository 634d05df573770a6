use Rattle.std.proofs.Common.{arith, refl, sym}
use Rattle.anb_machine.specs.Machines.{gives}
use Rattle.anb_session.specs.Turns.{Ends}
use Rattle.anb_session.proofs.Faults.{quiet_still, quiet_joined, ends_later, wants_memory}
use Rattle.anb_session.proofs.Prompt.{prompt_still}
use Rattle.anb_session.proofs.Turning.{by_told, passes_nowhere, passes_joined, closes_behind, went_nowhere, went_further, heard_at_last, came_at_last}
use Rattle.anb_session.proofs.Written.{written_back}
use Rattle.anb_session.proofs.play_all.Goals as goal

pub loop-end-init : goal.loop-end-init
loop-end-init g c =
    let played = c.args.played.now in
    let s = g.W.Wire.state c.args.wire.now in
    record {
      room = omega (arith, c.in-Ok.ensures.len, c.in-Ok.buffer.ok.0);
      passes = passes_nowhere (gives (g.P.Playable.machine played)) s;
      went_on = went_nowhere g.P.Playable.Follows played played s s refl (g.met.P.Playable.stays played);
      quiet = quiet_still s;
    }

pub loop-end-preserved : goal.loop-end-preserved
loop-end-preserved g c =
    let machine = g.P.Playable.machine in
    let old = c.loop-end.invariant in
    let now = c.in_default-turn.ensures in
    let s = g.W.Wire.state c.args.wire.now in
    let t = g.W.Wire.state c.loop-end.wire in
    let u = g.W.Wire.state c.turn.new.wire in
    record {
      room = written_back c.loop-end.buffer.len _ c.turn.new.buffer c.loop-end.buffer.items (omega (arith, c.loop-end.buffer.ok.0)) (omega (arith, c.turn.auto.buffer, c.deref_mut.ensures.len, c.loop-end.buffer.ok.0)) old.room;
      passes = passes_joined (gives (machine c.args.played.now)) (gives (machine c.loop-end.played)) (gives (machine c.turn.new.played)) s t u old.passes now.passes;
      went_on = went_further g.P.Playable.Follows g.met.P.Playable.joined c.args.played.now c.loop-end.played c.turn.new.played s t old.went_on u now.went_on;
      quiet = quiet_joined s t u old.quiet now.quiet;
    }

pub returns-in-Some : goal.returns-in-Some
returns-in-Some g c =
    let machine = g.P.Playable.machine in
    let old = c.loop-end.invariant in
    let last = c.in-Some.ensures in
    let end = c.in-Some.end in
    let s = g.W.Wire.state c.args.wire.now in
    let t = g.W.Wire.state c.loop-end.wire in
    let u = g.W.Wire.state c.turn.new.wire in
    let R = gives (machine c.args.played.now) in
    let closes = closes_behind R (gives (machine c.loop-end.played)) s t u end old.passes last.closes in
    record {
      runs = by_told (λ a b d e. Ends R a b d e end) _ s _ u (sym (g.met.W.Wire.state_tells c.args.wire.now)) (sym (g.met.W.Wire.state_tells c.turn.new.wire)) closes.ends;
      prompt = closes.prompt;
      awaits = last.awaits;
      heard = heard_at_last g.P.Playable.Follows g.met.P.Playable.joined c.args.played.now c.loop-end.played c.turn.new.played s t old.went_on end last.heard;
      came = λ some. came_at_last g.P.Playable.Follows g.met.P.Playable.joined c.args.played.now c.loop-end.played c.turn.new.played s t old.went_on end (machine c.turn.new.played) (last.stood some) last.stands;
      faults = ends_later s t u end old.quiet last.faults;
    }

pub returns-in_default-clause-prompt : goal.returns-in_default-clause-prompt
returns-in_default-clause-prompt g c = prompt_still (gives (g.P.Playable.machine c.args.played.now)) (g.W.Wire.state c.args.wire.now)

pub returns-in_default-clause-awaits : goal.returns-in_default-clause-awaits
returns-in_default-clause-awaits g c = λ is. absurd (cc)

pub returns-in_default-clause-heard : goal.returns-in_default-clause-heard
returns-in_default-clause-heard g c = λ e is. absurd (cc)

pub returns-in_default-clause-faults : goal.returns-in_default-clause-faults
returns-in_default-clause-faults g c = wants_memory (g.W.Wire.state c.args.wire.now)

pub returns-in_default-clause-came : goal.returns-in_default-clause-came
returns-in_default-clause-came g c = λ some. absurd (some refl)
