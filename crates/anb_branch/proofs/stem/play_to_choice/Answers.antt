use Rattle.std.proofs.Common.{arith, refl, sym, ap, subst, length, List, ℕ}
use Rattle.anb_session.proofs.Faults.{quiet_still, quiet_joined, ends_later, wants_memory}
use Rattle.anb_session.proofs.Written.{written_back}
use Rattle.anb_session.proofs.Turning.{closes_wanting}
use Rattle.anb_branch.specs.Stems.{AreBytes, AreShort, WentBy}
use Rattle.anb_branch.proofs.Stems.{Along, along_nothing, along_further, along_over, along_arrived, by_arrived, by_further, by_nothing, by_over}
use Rattle.anb_branch.proofs.stem.play_to_choice.Goals as goal

pub returns-in_default-clause-ends : goal.returns-in_default-clause-ends
returns-in_default-clause-ends g c = λ R G agree is. closes_wanting R (g.W.Wire.state c.args.wire.now)

pub loop-arrival-init : goal.loop-arrival-init
loop-arrival-init g c =
    let s = g.W.Wire.state c.args.wire.now in
    let none = c.new-past.ensures.items in
    let P : List (List ℕ) → Type 0 = λ l. Along c.args.receives (g.P.Playable.machine c.args.played.now) (g.P.Playable.machine c.args.played.now) l s s in
    record {
      room = omega (arith, c.in-Ok.ensures.len, c.in-Ok.buffer.ok.0);
      few = omega (arith, ap length none);
      bytes = subst AreBytes (sym none) tt;
      short = subst AreShort (sym none) tt;
      along = subst P (sym none) (along_nothing c.args.receives (g.P.Playable.machine c.args.played.now) s);
      by =
          subst (λ (l : List (List ℕ)). WentBy g.P.Playable.Follows c.args.played.now c.args.played.now l s s) (sym none)
          (by_nothing g.P.Playable.Follows c.args.played.now c.args.played.now s s refl (g.met.P.Playable.stays c.args.played.now));
      quiet = quiet_still s;
    }

pub loop-arrival-preserved : goal.loop-arrival-preserved
loop-arrival-preserved g c =
    let old = c.loop-arrival.invariant in
    let now = c.in-On.ensures in
    record {
      room = written_back c.loop-arrival.buffer.len _ c.play_turn.new.buffer c.loop-arrival.buffer.items (omega (arith, c.loop-arrival.buffer.ok.0)) (omega (arith, c.play_turn.auto.buffer, c.deref_mut.ensures.len, c.loop-arrival.buffer.ok.0)) old.room;
      few = now.steps.few;
      bytes = now.steps.bytes;
      short = now.steps.short;
      along =
          along_further c.args.receives (g.P.Playable.machine c.args.played.now) (g.P.Playable.machine c.loop-arrival.played) (g.P.Playable.machine c.play_turn.new.played) c.loop-arrival.past.items c.play_turn.new.past.items
          (g.W.Wire.state c.args.wire.now) (g.W.Wire.state c.loop-arrival.wire) (g.W.Wire.state c.play_turn.new.wire) old.along now.steps;
      by =
          by_further g.P.Playable.Follows g.met.P.Playable.joined c.args.played.now c.loop-arrival.played c.play_turn.new.played (g.P.Playable.machine c.play_turn.new.played) c.loop-arrival.past.items c.play_turn.new.past.items
          (g.W.Wire.state c.args.wire.now) (g.W.Wire.state c.loop-arrival.wire) (g.W.Wire.state c.play_turn.new.wire) old.by now.along;
      quiet = quiet_joined (g.W.Wire.state c.args.wire.now) (g.W.Wire.state c.loop-arrival.wire) (g.W.Wire.state c.play_turn.new.wire) old.quiet now.faults;
    }

pub returns-in-Arrived-clause-chooses : goal.returns-in-Arrived-clause-chooses
returns-in-Arrived-clause-chooses g c =
    let old = c.loop-arrival.invariant in
    along_arrived c.args.receives (g.P.Playable.machine c.args.played.now) (g.P.Playable.machine c.loop-arrival.played) (g.P.Playable.machine c.play_turn.new.played) c.loop-arrival.past.items c.play_turn.new.past.items
    (g.W.Wire.state c.args.wire.now) (g.W.Wire.state c.loop-arrival.wire) (g.W.Wire.state c.play_turn.new.wire) c.in-Arrived.arrival old.few old.bytes old.short old.along c.in-Arrived.ensures.steps

pub returns-in-Over-clause-ends : goal.returns-in-Over-clause-ends
returns-in-Over-clause-ends g c =
    along_over c.args.receives (g.P.Playable.machine c.args.played.now) (g.P.Playable.machine c.loop-arrival.played) (g.P.Playable.machine c.play_turn.new.played) c.loop-arrival.past.items c.play_turn.new.past.items
    (g.W.Wire.state c.args.wire.now) (g.W.Wire.state c.loop-arrival.wire) (g.W.Wire.state c.play_turn.new.wire) c.in-Over.end c.loop-arrival.invariant.along c.in-Over.ensures.steps

pub returns-in_default-clause-faults : goal.returns-in_default-clause-faults
returns-in_default-clause-faults g c = wants_memory (g.W.Wire.state c.args.wire.now)

pub returns-in-Arrived-clause-quiet : goal.returns-in-Arrived-clause-quiet
returns-in-Arrived-clause-quiet g c =
    quiet_joined (g.W.Wire.state c.args.wire.now) (g.W.Wire.state c.loop-arrival.wire) (g.W.Wire.state c.play_turn.new.wire) c.loop-arrival.invariant.quiet c.in-Arrived.ensures.faults

pub returns-in-Over-clause-faults : goal.returns-in-Over-clause-faults
returns-in-Over-clause-faults g c =
    ends_later (g.W.Wire.state c.args.wire.now) (g.W.Wire.state c.loop-arrival.wire) (g.W.Wire.state c.play_turn.new.wire) c.in-Over.end c.loop-arrival.invariant.quiet c.in-Over.ensures.faults

pub returns-in-Arrived-clause-heard : goal.returns-in-Arrived-clause-heard
returns-in-Arrived-clause-heard g c =
    by_arrived g.P.Playable.Follows g.met.P.Playable.joined c.args.played.now c.loop-arrival.played c.play_turn.new.played (g.P.Playable.machine c.play_turn.new.played) c.loop-arrival.past.items c.play_turn.new.past.items
    (g.W.Wire.state c.args.wire.now) (g.W.Wire.state c.loop-arrival.wire) (g.W.Wire.state c.play_turn.new.wire) c.loop-arrival.invariant.by c.in-Arrived.arrival c.in-Arrived.ensures.steps.stays c.in-Arrived.ensures.along

pub returns-in-Over-clause-came : goal.returns-in-Over-clause-came
returns-in-Over-clause-came g c =
    by_over g.P.Playable.Follows g.met.P.Playable.joined c.args.played.now c.loop-arrival.played c.play_turn.new.played (g.P.Playable.machine c.play_turn.new.played) c.loop-arrival.past.items c.play_turn.new.past.items
    (g.W.Wire.state c.args.wire.now) (g.W.Wire.state c.loop-arrival.wire) (g.W.Wire.state c.play_turn.new.wire) c.loop-arrival.invariant.by c.args.receives c.in-Over.end c.loop-arrival.invariant.few c.in-Over.ensures.along

pub returns-in_default-clause-came : goal.returns-in_default-clause-came
returns-in_default-clause-came g c = λ some. absurd (some refl)
