use Rattle.std.proofs.Common.{ℕ, arith, refl, sym, ap, ◌∙◌, ◌<◌, subst, ◌≡◌}
use Rattle.anb_base.specs.Wires.{WireState}
use Rattle.anb_base.proofs.Moving.{Rose-later}
use Rattle.anb_host.specs.HostFrames.{FramesLeft}
use Rattle.anb_host.specs.Runs.{Handled}
use Rattle.anb_host.proofs.Served.{follows_after, follows_spent, handled_none, handled_further, served, spent, stands_after, stands_spent}
use Rattle.anb_host.proofs.Turning.{same_count}
use Rattle.anb_host.proofs.serving.serve_on.Goals as goal

pub loop-init : goal.loop-init
loop-init g c = record {
  handled = handled_none (λ events. g.H.Servable.Follows c.args.host.now events c.args.host.now) (g.met.H.Servable.stays c.args.host.now) (g.H.Servable.host c.args.host.now) (g.W.Wire.state c.args.wire.now);
  quiet_reading = refl;
  quiet_writing = refl;
  code = refl;
  init = refl;
  seed = refl;
  reading = omega arith;
  writing = omega arith;
  reached = refl;
  reach_faults = refl;
}

pub loop-preserved : goal.loop-preserved
loop-preserved g c =
    let was = c.loop.invariant in
    let now = c.in_default.ensures in
    record {
      handled = handled_further (λ events. g.H.Servable.Follows c.args.host.now events c.loop.host) (g.H.Servable.host c.args.host.now) (g.H.Servable.host c.loop.host) (g.W.Wire.state c.args.wire.now) (g.W.Wire.state c.loop.wire) (g.W.Wire.state c.handle.new.wire) c.loop.counter was.handled
          (λ events. g.H.Servable.Follows c.loop.host events c.handle.new.host) (λ events. g.H.Servable.Follows c.args.host.now events c.handle.new.host) (g.met.H.Servable.joined c.args.host.now c.loop.host c.handle.new.host) (g.H.Servable.host c.handle.new.host) now.goes_on;
      quiet_reading = same_count _ _ _ was.quiet_reading now.reading_never_falls (λ rose. let never = now.read_told rose in cc);
      quiet_writing = same_count _ _ _ was.quiet_writing now.writing_never_falls (λ rose. let never = now.write_told rose in cc);
      code = now.code ∙ was.code;
      init = now.init ∙ was.init;
      seed = now.seed ∙ was.seed;
      reading = omega (arith, was.reading, now.reading_never_falls);
      writing = omega (arith, was.writing, now.writing_never_falls);
      reached = now.reached ∙ was.reached;
      reach_faults = now.reach_faults ∙ was.reach_faults;
    }

pub returns-in-Some : goal.returns-in-Some
returns-in-Some g c =
    let was = c.loop.invariant in
    let now = c.in-Some.ensures in
    record {
      serves = λ past events tail st left.
          served (λ events. g.H.Servable.Follows c.args.host.now events c.loop.host) (g.H.Servable.host c.args.host.now) (g.H.Servable.host c.loop.host) (g.W.Wire.state c.args.wire.now) (g.W.Wire.state c.loop.wire) (g.W.Wire.state c.handle.new.wire) c.loop.counter was.handled c.args.budget c.loop-test.true past events tail st
          (subst (λ l. FramesLeft l events tail) (sym (ap (λ (s : WireState). s.left) (g.met.W.Wire.state_tells c.args.wire.now))) left) (λ events. g.H.Servable.Follows c.loop.host events c.handle.new.host) (g.H.Servable.host c.handle.new.host) c.in-Some.end now.ends;
      stands = λ past events tail st left.
          stands_after (λ events. g.H.Servable.Follows c.args.host.now events c.loop.host) (g.H.Servable.host c.args.host.now) (g.H.Servable.host c.loop.host) (g.W.Wire.state c.args.wire.now) (g.W.Wire.state c.loop.wire) (g.W.Wire.state c.handle.new.wire) c.loop.counter was.handled c.args.budget c.loop-test.true past events tail st
          (subst (λ l. FramesLeft l events tail) (sym (ap (λ (s : WireState). s.left) (g.met.W.Wire.state_tells c.args.wire.now))) left) (λ events. g.H.Servable.Follows c.loop.host events c.handle.new.host) (g.H.Servable.host c.handle.new.host) c.in-Some.end now.ends;
      followed =
          follows_after (λ events. g.H.Servable.Follows c.args.host.now events c.loop.host) (g.H.Servable.host c.args.host.now) (g.H.Servable.host c.loop.host) (g.W.Wire.state c.args.wire.now) (g.W.Wire.state c.loop.wire) (g.W.Wire.state c.handle.new.wire) c.loop.counter was.handled c.args.budget c.loop-test.true
          (λ events. g.H.Servable.Follows c.loop.host events c.handle.new.host) (λ events. g.H.Servable.Follows c.args.host.now events c.handle.new.host) (g.met.H.Servable.joined c.args.host.now c.loop.host c.handle.new.host)
          (g.H.Servable.host c.handle.new.host) c.in-Some.end now.ends;
      code = now.code ∙ was.code;
      init = now.init ∙ was.init;
      seed = now.seed ∙ was.seed;
      read_told = λ rose. let told = (now.read_told (subst (λ (n : ℕ). n < g.W.Source.faults c.handle.new.wire) (sym was.quiet_reading) rose)) in cc;
      write_told = λ rose. let told = (now.write_told (subst (λ (n : ℕ). n < g.W.Sink.faults c.handle.new.wire) (sym was.quiet_writing) rose)) in cc;
      read_fault = λ is. Rose-later _ _ _ was.reading (now.read_fault is);
      write_fault = λ is. Rose-later _ _ _ was.writing (now.write_fault is);
      reading_never_falls = omega (arith, was.reading, now.reading_never_falls);
      writing_never_falls = omega (arith, was.writing, now.writing_never_falls);
      reached = now.reached ∙ was.reached;
      reach_faults = now.reach_faults ∙ was.reach_faults;
    }

pub returns : goal.returns
returns g c =
    let was = c.loop.invariant in
    record {
      serves = λ past events tail st left.
          let all : c.loop.counter ≡ c.args.budget = omega (arith, c.loop.auto.counter-end, c.loop-test.false) in
          spent (λ events. g.H.Servable.Follows c.args.host.now events c.loop.host) (g.H.Servable.host c.args.host.now) (g.H.Servable.host c.loop.host) (g.W.Wire.state c.args.wire.now) (g.W.Wire.state c.loop.wire) c.args.budget
          (subst (Handled (λ events. g.H.Servable.Follows c.args.host.now events c.loop.host) (g.H.Servable.host c.args.host.now) (g.H.Servable.host c.loop.host) (g.W.Wire.state c.args.wire.now) (g.W.Wire.state c.loop.wire)) all was.handled) past events tail st
          (subst (λ l. FramesLeft l events tail) (sym (ap (λ (s : WireState). s.left) (g.met.W.Wire.state_tells c.args.wire.now))) left);
      stands = λ past events tail st left other.
          let all : c.loop.counter ≡ c.args.budget = omega (arith, c.loop.auto.counter-end, c.loop-test.false) in
          stands_spent (λ events. g.H.Servable.Follows c.args.host.now events c.loop.host) (g.H.Servable.host c.args.host.now) (g.H.Servable.host c.loop.host) (g.W.Wire.state c.args.wire.now) (g.W.Wire.state c.loop.wire) c.args.budget
          (subst (Handled (λ events. g.H.Servable.Follows c.args.host.now events c.loop.host) (g.H.Servable.host c.args.host.now) (g.H.Servable.host c.loop.host) (g.W.Wire.state c.args.wire.now) (g.W.Wire.state c.loop.wire)) all was.handled) past events tail st
          (subst (λ l. FramesLeft l events tail) (sym (ap (λ (s : WireState). s.left) (g.met.W.Wire.state_tells c.args.wire.now))) left);
      followed = λ other.
          let all : c.loop.counter ≡ c.args.budget = omega (arith, c.loop.auto.counter-end, c.loop-test.false) in
          follows_spent (λ events. g.H.Servable.Follows c.args.host.now events c.loop.host) (g.H.Servable.host c.args.host.now) (g.H.Servable.host c.loop.host) (g.W.Wire.state c.args.wire.now) (g.W.Wire.state c.loop.wire) c.args.budget
          (subst (Handled (λ events. g.H.Servable.Follows c.args.host.now events c.loop.host) (g.H.Servable.host c.args.host.now) (g.H.Servable.host c.loop.host) (g.W.Wire.state c.args.wire.now) (g.W.Wire.state c.loop.wire)) all was.handled);
      code = was.code;
      init = was.init;
      seed = was.seed;
      read_told = λ rose. absurd (omega (arith, rose, was.quiet_reading));
      write_told = λ rose. absurd (omega (arith, rose, was.quiet_writing));
      read_fault = λ is. cc;
      write_fault = λ is. cc;
      reading_never_falls = was.reading;
      writing_never_falls = was.writing;
      reached = was.reached;
      reach_faults = was.reach_faults;
    }
