use Rattle.std.proofs.Common.{◌≡◌, ℕ, List, length, refl, sym, ap, ◌∙◌, subst, arith, length-append}
use Rattle.std.specs.Prelude.{[], ◌∷◌}
use Rattle.anb_base.specs.Moves.{Put}
use Rattle.anb_frame.specs.Frames.{frame}
use Rattle.anb_plays.specs.Plays.{says, stopped, done}
use Rattle.anb_machine.specs.Machines.{gives}
use Rattle.anb_session.specs.declared.PlayEnd.TheVariants.{NoMemory}
use Rattle.anb_session.specs.declared.PlayEnd.TheVariants as ended
use Rattle.std.proofs.lemmas.List.{append-nil}
use Rattle.anb_session.specs.Turns.{EndsSending, EndsWaiting, Receives}
use Rattle.anb_session.proofs.Faults.{quiet_still, ends_quietly, wants_memory}
use Rattle.anb_session.proofs.Turning.{by_told, closes_done, wanting_room, hears_so}
use Rattle.anb_session.proofs.Standing.{stands_unsent, stands_waiting}
use Rattle.anb_branch.specs.Stems.{AreBytes, AreShort}
use Rattle.anb_branch.proofs.Turns.{untold_of, untold_off, untold_stop, goes_saying, over_sending, over_waiting, over_ended, goes_hearing, closes_stopped, over_wanting, bytes_more, short_more}
use Rattle.anb_branch.proofs.Stems.{by_hearing, by_nothing}
use Rattle.anb_branch.proofs.stem.play_turn.Goals as goal

pub returns-in-Ok-clause-steps : goal.returns-in-Ok-clause-steps
returns-in-Ok-clause-steps g c =
    let s = g.W.Wire.state c.args.wire.now in
    let t = g.W.Wire.state c.send.new.wire in
    let b = c.as_slice.result.now in
    let so = λ (xs : List (List ℕ)). c.in-Message.ensures.turned.0 xs ∙ ap (λ m. says m (gives (g.P.Playable.machine c.advance.new.self) xs)) (sym c.as_slice.ensures) in
    let put = by_told (λ a d e f. Put e f (frame b)) s _ t _ (g.met.W.Wire.state_tells c.args.wire.now) (g.met.W.Wire.state_tells c.send.new.wire) c.in-Ok.ensures.put in
    goes_saying c.args.receives (g.P.Playable.machine c.args.played.now) (g.P.Playable.machine c.advance.new.self) c.args.past.now.items s t c.requires.few c.requires.bytes b c.requires.short so
    c.in-Message.ensures.turned.2 c.in-Ok.ensures.took_nothing.left put c.in-Ok.ensures.goes_on

pub returns-in-Message-clause-steps : goal.returns-in-Message-clause-steps
returns-in-Message-clause-steps g c =
    let s = g.W.Wire.state c.args.wire.now in
    let t = g.W.Wire.state c.send.new.wire in
    let b = c.as_slice.result.now in
    let so = λ (xs : List (List ℕ)). c.in-Message.ensures.turned.0 xs ∙ ap (λ m. says m (gives (g.P.Playable.machine c.advance.new.self) xs)) (sym c.as_slice.ensures) in
    let end_so = by_told (λ a d e f. EndsSending b a d e f c.in-Err.end) s _ t _ (g.met.W.Wire.state_tells c.args.wire.now) (g.met.W.Wire.state_tells c.send.new.wire) c.in-Err.ensures.ends in
    over_sending c.args.receives (g.P.Playable.machine c.args.played.now) (g.P.Playable.machine c.advance.new.self) c.args.past.now.items s t c.requires.few c.requires.bytes b c.in-Err.end so end_so c.in-Err.ensures.took_nothing

pub returns-then-len-receives-clause-steps : goal.returns-then-len-receives-clause-steps
returns-then-len-receives-clause-steps g c =
    let s = g.W.Wire.state c.args.wire.now in
    let t = g.W.Wire.state c.receive.new.wire in
    let b = c.in-Ok-receive.arrival in
    let told_old = g.met.W.Wire.state_tells c.args.wire.now in
    let told_new = g.met.W.Wire.state_tells c.receive.new.wire in
    let same = by_told (λ a d e f. f ≡ e) s _ t _ told_old told_new c.in-Ok-receive.ensures.written in
    let receives = by_told (λ a d e f. Receives b a d) s _ t _ told_old told_new c.in-Ok-receive.ensures.receives in
    record {
      waits = c.in-Wants.ensures.turned.2;
      event = c.in-Wants.event;
      next = c.in-Wants.ensures.turned.1;
      fits = c.in-Ok-receive.ensures.receives.fits;
      bytes = rw c.as_slice-in-Ok-receive.ensures at c.are_bytes.ensures;
      stays = refl;
      all = omega (arith, c.if-len-receives.true, c.len.ensures);
      same = c.in-Wants.ensures.turned.0;
      hears = hears_so c.in-Wants.event b s t same receives c.in-Ok-receive.ensures.goes_on;
    }

pub returns-in-Ok-hand_in-clause-steps : goal.returns-in-Ok-hand_in-clause-steps
returns-in-Ok-hand_in-clause-steps g c =
    let s = g.W.Wire.state c.args.wire.now in
    let t = g.W.Wire.state c.receive.new.wire in
    let b = c.in-Ok-receive.arrival in
    let told_old = g.met.W.Wire.state_tells c.args.wire.now in
    let told_new = g.met.W.Wire.state_tells c.receive.new.wire in
    let same = by_told (λ a d e f. f ≡ e) s _ t _ told_old told_new c.in-Ok-receive.ensures.written in
    let receives = by_told (λ a d e f. Receives b a d) s _ t _ told_old told_new c.in-Ok-receive.ensures.receives in
    let kept = c.in-Ok-hand_in.ensures.kept in
    let past = c.args.past.now.items in
    goes_hearing c.args.receives (g.P.Playable.machine c.args.played.now) (g.P.Playable.machine c.hand_in.new.played) past s t c.requires.few c.requires.bytes c.in-Wants.event b (g.P.Playable.machine c.advance.new.self) c.hand_in.new.past.items kept
    (omega (arith, c.requires.few, c.if-len-receives.false, c.len.ensures, ap length kept, length-append past (b ∷ [])))
    (subst AreBytes (sym kept) (bytes_more past b c.requires.bytes (rw c.as_slice-in-Ok-receive.ensures at c.are_bytes.ensures)))
    (subst AreShort (sym kept) (short_more past b c.requires.short c.in-Ok-receive.ensures.receives.fits))
    (omega (arith, c.in-Ok-hand_in.ensures.further, c.in-Wants.ensures.turned.3)) c.in-Wants.ensures.turned.0 c.in-Wants.ensures.turned.1 c.in-Ok-hand_in.ensures.gives
    (hears_so c.in-Wants.event b s t same receives c.in-Ok-receive.ensures.goes_on)

pub returns-in-Ok-receive-clause-steps : goal.returns-in-Ok-receive-clause-steps
returns-in-Ok-receive-clause-steps g c =
    let s = g.W.Wire.state c.args.wire.now in
    let t = g.W.Wire.state c.receive.new.wire in
    let same = by_told (λ a d e f. f ≡ e) s _ t _ (g.met.W.Wire.state_tells c.args.wire.now) (g.met.W.Wire.state_tells c.receive.new.wire) c.in-Ok-receive.ensures.written in
    let w = wanting_room c.in-Wants.event c.in-Ok-receive.arrival s t same c.in-Ok-receive.ensures.goes_on in
    over_waiting c.args.receives (g.P.Playable.machine c.args.played.now) (g.P.Playable.machine c.advance.new.self) c.args.past.now.items s t c.requires.few c.requires.bytes c.in-Wants.event NoMemory (g.P.Playable.machine c.hand_in.new.played) c.hand_in.new.past.items
    c.in-Wants.ensures.turned.0 c.in-Wants.ensures.turned.1 w.0 w.1

pub returns-in-Wants-clause-steps : goal.returns-in-Wants-clause-steps
returns-in-Wants-clause-steps g c =
    let s = g.W.Wire.state c.args.wire.now in
    let t = g.W.Wire.state c.receive.new.wire in
    let e = c.in-Err-receive.end in
    let end_so = by_told (λ a b d f. EndsWaiting c.in-Wants.event a b d f e) s _ t _ (g.met.W.Wire.state_tells c.args.wire.now) (g.met.W.Wire.state_tells c.receive.new.wire) c.in-Err-receive.ensures.ends in
    over_waiting c.args.receives (g.P.Playable.machine c.args.played.now) (g.P.Playable.machine c.advance.new.self) c.args.past.now.items s t c.requires.few c.requires.bytes c.in-Wants.event e (g.P.Playable.machine c.advance.new.self) c.args.past.now.items
    c.in-Wants.ensures.turned.0 c.in-Wants.ensures.turned.1 end_so c.in-Err-receive.ensures.prompt

pub returns-in-Done-clause-steps : goal.returns-in-Done-clause-steps
returns-in-Done-clause-steps g c =
    let s = g.W.Wire.state c.args.wire.now in
    over_ended c.args.receives (g.P.Playable.machine c.args.played.now) (g.P.Playable.machine c.advance.new.self) c.args.past.now.items s s c.requires.few c.requires.bytes done _ (λ event is. cc) c.in-Done.ensures.turned.1
    (λ R is. closes_done R s is)

pub returns-in-Stopped-clause-steps : goal.returns-in-Stopped-clause-steps
returns-in-Stopped-clause-steps g c =
    let s = g.W.Wire.state c.args.wire.now in
    let halt = c.in-Stopped.halt in
    over_ended c.args.receives (g.P.Playable.machine c.args.played.now) (g.P.Playable.machine c.advance.new.self) c.args.past.now.items s s c.requires.few c.requires.bytes (stopped halt.event halt.at) _ (λ event is. cc)
    c.in-Stopped.ensures.turned.1 (λ R is. closes_stopped R s halt.event c.placeless.result c.placeless.ensures.event c.placeless.ensures.at is)

pub returns-clause-steps : goal.returns-clause-steps
returns-clause-steps g c = over_wanting c.args.receives (g.P.Playable.machine c.args.played.now) (g.P.Playable.machine c.advance.new.self) c.args.past.now.items c.args.past.now.items (g.W.Wire.state c.args.wire.now)

-- ---- faults

pub returns-in-Ok-receive-clause-faults : goal.returns-in-Ok-receive-clause-faults
returns-in-Ok-receive-clause-faults g c = ends_quietly (g.W.Wire.state c.args.wire.now) (g.W.Wire.state c.receive.new.wire) NoMemory c.in-Ok-receive.ensures.quiet (λ is. cc) (λ is. cc)

pub returns-in-Done-clause-faults : goal.returns-in-Done-clause-faults
returns-in-Done-clause-faults g c = let s = g.W.Wire.state c.args.wire.now in ends_quietly s s _ (quiet_still s) (λ is. cc) (λ is. cc)

pub returns-in-Stopped-clause-faults : goal.returns-in-Stopped-clause-faults
returns-in-Stopped-clause-faults g c = let s = g.W.Wire.state c.args.wire.now in ends_quietly s s _ (quiet_still s) (λ is. cc) (λ is. cc)

pub returns-clause-faults : goal.returns-clause-faults
returns-clause-faults g c = wants_memory (g.W.Wire.state c.args.wire.now)

-- ---- what is true of what is played

pub hand_in-requires-clause-next : goal.hand_in-requires-clause-next
hand_in-requires-clause-next g c = (c.in-Wants.event, c.in-Wants.ensures.turned.1)

pub returns-in-Ok-clause-along : goal.returns-in-Ok-clause-along
returns-in-Ok-clause-along g c = (
  [],
  by_nothing g.P.Playable.Follows c.args.played.now c.advance.new.self (g.W.Wire.state c.args.wire.now) (g.W.Wire.state c.send.new.wire) c.in-Ok.ensures.took_nothing.left (c.in-Message.ensures.followed (λ is. cc)),
  sym (append-nil c.args.past.now.items),
)

pub returns-in-Message-clause-along : goal.returns-in-Message-clause-along
returns-in-Message-clause-along g c = λ some. record {
  stop = c.in-Err.end;
  is = untold_off c.in-Err.end c.in-Err.ensures.cut_off;
  follows = c.in-Message.ensures.followed (λ is. cc);
  stands = stands_unsent (g.P.Playable.machine c.advance.new.self) c.in-Err.end c.in-Err.ensures.cut_off;
  awaits = λ is. absurd (c.in-Err.ensures.waits is);
}

pub returns-then-len-receives-clause-along : goal.returns-then-len-receives-clause-along
returns-then-len-receives-clause-along g c = (
  c.in-Wants.ensures.followed (λ is. cc),
  by_told (λ a d e f. Receives c.in-Ok-receive.arrival a d) (g.W.Wire.state c.args.wire.now) _ (g.W.Wire.state c.receive.new.wire) _ (g.met.W.Wire.state_tells c.args.wire.now) (g.met.W.Wire.state_tells c.receive.new.wire) c.in-Ok-receive.ensures.receives,
)

pub returns-in-Ok-hand_in-clause-along : goal.returns-in-Ok-hand_in-clause-along
returns-in-Ok-hand_in-clause-along g c =
    let s = g.W.Wire.state c.args.wire.now in
    let t = g.W.Wire.state c.receive.new.wire in
    let b = c.in-Ok-receive.arrival in (
      b ∷ [],
      by_hearing g.P.Playable.Follows c.args.played.now c.hand_in.new.played s t b
          (by_told (λ a d e f. Receives b a d) s _ t _ (g.met.W.Wire.state_tells c.args.wire.now) (g.met.W.Wire.state_tells c.receive.new.wire) c.in-Ok-receive.ensures.receives)
          (g.met.P.Playable.joined c.args.played.now c.advance.new.self c.hand_in.new.played [] (b ∷ []) (c.in-Wants.ensures.followed (λ is. cc)) c.in-Ok-hand_in.ensures.followed),
      c.in-Ok-hand_in.ensures.kept,
    )

pub returns-in-Ok-receive-clause-along : goal.returns-in-Ok-receive-clause-along
returns-in-Ok-receive-clause-along g c = λ some. absurd (some refl)

pub returns-in-Wants-clause-along : goal.returns-in-Wants-clause-along
returns-in-Wants-clause-along g c = λ some. record {
  stop = c.in-Err-receive.end;
  is = untold_of c.in-Wants.event c.in-Err-receive.end c.in-Err-receive.ensures.comes;
  follows = c.in-Wants.ensures.followed (λ is. cc);
  stands = stands_waiting (g.P.Playable.machine c.advance.new.self) c.in-Wants.event c.in-Err-receive.end c.in-Wants.ensures.turned.1 c.in-Err-receive.ensures.comes;
  awaits = λ is. record { waits = c.in-Wants.ensures.turned.2; event = c.in-Wants.event; next = c.in-Wants.ensures.turned.1 };
}

pub returns-in-Done-clause-along : goal.returns-in-Done-clause-along
returns-in-Done-clause-along g c = λ some. record {
  stop = ended.Done;
  is = refl;
  follows = c.in-Done.ensures.followed (λ is. cc);
  stands = sym (c.in-Done.ensures.turned.0 []) ∙ c.in-Done.ensures.turned.1 [];
  awaits = λ is. absurd (cc);
}

pub returns-in-Stopped-clause-along : goal.returns-in-Stopped-clause-along
returns-in-Stopped-clause-along g c = λ some. record {
  stop = ended.Stopped c.in-Stopped.halt;
  is = untold_stop c.in-Stopped.halt c.placeless.result c.placeless.ensures.event c.placeless.ensures.at;
  follows = c.in-Stopped.ensures.followed (λ is. cc);
  stands = sym (c.in-Stopped.ensures.turned.0 []) ∙ c.in-Stopped.ensures.turned.1 [];
  awaits = λ is. absurd (cc);
}

pub returns-clause-along : goal.returns-clause-along
returns-clause-along g c = λ some. absurd (some refl)
