use Rattle.std.proofs.Common.{◌≡◌, ℕ, List, [], ◌∷◌, refl, sym, ap, ◌∙◌}
use Rattle.anb_base.specs.Moves.{Put}
use Rattle.anb_frame.specs.Frames.{frame}
use Rattle.anb_plays.specs.Plays.{Played, says}
use Rattle.anb_machine.specs.Machines.{gives}
use Rattle.anb_session.specs.declared.PlayEnd.TheVariants.{NoMemory}
use Rattle.anb_session.specs.Sessions.{waits_at}
use Rattle.anb_session.specs.Turns.{EndsSending, EndsWaiting, Receives}
use Rattle.anb_session.proofs.Answered.{no_error, no_error_twice, an_error}
use Rattle.anb_session.proofs.Faults.{quiet_still, ends_quietly, wants_memory}
use Rattle.anb_session.proofs.Prompt.{prompt_nothing}
use Rattle.anb_session.proofs.Turning.{by_told, passes_saying, hears_so, closes_done, closes_stopped, closes_wanting, wanting_room, went_nowhere, went_hearing, heard_nothing}
use Rattle.anb_session.proofs.Standing.{stands_unsent, stands_waiting}
use Rattle.anb_session.proofs.turn.Goals as goal

-- ---- a message

pub returns-in-Message-clause-passes : goal.returns-in-Message-clause-passes
returns-in-Message-clause-passes g c =
    let s = g.W.Wire.state c.args.wire.now in
    let t = g.W.Wire.state c.send.new.wire in
    let b = c.as_slice.result.now in
    let R = gives (g.P.Playable.machine c.args.played.now) in
    let R' = gives (g.P.Playable.machine c.advance.new.self) in
    let so = λ (xs : List (List ℕ)). c.in-Message.ensures.turned.0 xs ∙ ap (λ m. says m (R' xs)) (sym c.as_slice.ensures) in
    no_error_twice c.send.result c.err.result _ _ _ c.err.ensures.value c.send.ensures.put c.send.ensures.goes_on (λ put goes_on.
    passes_saying R R' b s t so c.send.ensures.took_nothing.left
    (by_told (λ a d e f. Put e f (frame b)) s _ t _ (g.met.W.Wire.state_tells c.args.wire.now) (g.met.W.Wire.state_tells c.send.new.wire) put) goes_on)

pub returns-in-Message-clause-went_on : goal.returns-in-Message-clause-went_on
returns-in-Message-clause-went_on g c =
    no_error c.send.result c.err.result _ _ c.err.ensures.value c.send.ensures.put (λ put.
    went_nowhere g.P.Playable.Follows c.args.played.now c.advance.new.self (g.W.Wire.state c.args.wire.now) (g.W.Wire.state c.send.new.wire)
    c.send.ensures.took_nothing.left (c.in-Message.ensures.followed (λ is. cc)))

pub returns-in-Message-clause-quiet : goal.returns-in-Message-clause-quiet
returns-in-Message-clause-quiet g c = no_error c.send.result c.err.result _ _ c.err.ensures.value c.send.ensures.quiet (λ quiet. quiet)

pub returns-in-Message-clause-closes : goal.returns-in-Message-clause-closes
returns-in-Message-clause-closes g c =
    let s = g.W.Wire.state c.args.wire.now in
    let t = g.W.Wire.state c.send.new.wire in
    let b = c.as_slice.result.now in
    let R = gives (g.P.Playable.machine c.args.played.now) in
    let R' = gives (g.P.Playable.machine c.advance.new.self) in
    an_error c.send.result c.err.result _ _ c.err.ensures.value c.send.ensures.ends (λ end ends. record {
      ends = by_told (λ a d e f. EndsSending b a d e f end) s _ t _ (g.met.W.Wire.state_tells c.args.wire.now) (g.met.W.Wire.state_tells c.send.new.wire) ends R
          (λ xs. ((R' xs).sent, ap (λ (p : Played (List ℕ)). p.sent) (c.in-Message.ensures.turned.0 xs) ∙ ap (λ (m : List ℕ). m ∷ (R' xs).sent) (sym c.as_slice.ensures)));
      prompt = prompt_nothing R s t c.send.ensures.took_nothing;
    })

pub returns-in-Message-clause-awaits : goal.returns-in-Message-clause-awaits
returns-in-Message-clause-awaits g c = an_error c.send.result c.err.result _ _ c.err.ensures.value c.send.ensures.waits (λ end never is. absurd (never is))

pub returns-in-Message-clause-heard : goal.returns-in-Message-clause-heard
returns-in-Message-clause-heard g c =
    an_error c.send.result c.err.result _ _ c.err.ensures.value c.send.ensures.waits (λ end never e is. absurd (never (ap waits_at is)))

pub returns-in-Message-clause-faults : goal.returns-in-Message-clause-faults
returns-in-Message-clause-faults g c = an_error c.send.result c.err.result _ _ c.err.ensures.value c.send.ensures.faults (λ end faults. faults)

-- ---- an arrival

pub returns-in-Ok-arrive-clause-passes : goal.returns-in-Ok-arrive-clause-passes
returns-in-Ok-arrive-clause-passes g c =
    let s = g.W.Wire.state c.args.wire.now in
    let t = g.W.Wire.state c.receive.new.wire in
    let told_old = g.met.W.Wire.state_tells c.args.wire.now in
    let told_new = g.met.W.Wire.state_tells c.receive.new.wire in
    let b = c.in-Ok.arrival in
    let turned = c.in-Wants.ensures.turned in
    let same = by_told (λ a d e f. f ≡ e) s _ t _ told_old told_new c.receive.ensures.written in
    let receives = by_told (λ a d e f. Receives b a d) s _ t _ told_old told_new c.in-Ok.ensures.receives in
    hears_so c.in-Wants.event b s t same receives c.in-Ok.ensures.goes_on (gives (g.P.Playable.machine c.args.played.now)) (gives (g.P.Playable.machine c.arrive.new.self))
    (turned.0 [] ∙ turned.1) (λ xs. turned.0 (b ∷ xs) ∙ c.in-Ok-arrive.ensures.gives xs)

pub returns-in-Ok-arrive-clause-went_on : goal.returns-in-Ok-arrive-clause-went_on
returns-in-Ok-arrive-clause-went_on g c =
    let s = g.W.Wire.state c.args.wire.now in
    let t = g.W.Wire.state c.receive.new.wire in
    let b = c.in-Ok.arrival in
    went_hearing g.P.Playable.Follows c.args.played.now c.arrive.new.self s t b
    (by_told (λ a d e f. Receives b a d) s _ t _ (g.met.W.Wire.state_tells c.args.wire.now) (g.met.W.Wire.state_tells c.receive.new.wire) c.in-Ok.ensures.receives)
    (g.met.P.Playable.joined c.args.played.now c.advance.new.self c.arrive.new.self [] (b ∷ []) (c.in-Wants.ensures.followed (λ is. cc)) c.in-Ok-arrive.ensures.followed)

pub returns-in-Err-arrive-clause-closes : goal.returns-in-Err-arrive-clause-closes
returns-in-Err-arrive-clause-closes g c =
    let s = g.W.Wire.state c.args.wire.now in
    let t = g.W.Wire.state c.receive.new.wire in
    let R = gives (g.P.Playable.machine c.args.played.now) in
    let turned = c.in-Wants.ensures.turned in
    let same = by_told (λ a d e f. f ≡ e) s _ t _ (g.met.W.Wire.state_tells c.args.wire.now) (g.met.W.Wire.state_tells c.receive.new.wire) c.receive.ensures.written in
    let wanting = wanting_room c.in-Wants.event c.in-Ok.arrival s t same c.in-Ok.ensures.goes_on in
    record { ends = wanting.0 R (turned.0 [] ∙ turned.1); prompt = wanting.1 R (turned.0 [] ∙ turned.1) }

pub returns-in-Err-arrive-clause-faults : goal.returns-in-Err-arrive-clause-faults
returns-in-Err-arrive-clause-faults g c = ends_quietly (g.W.Wire.state c.args.wire.now) (g.W.Wire.state c.receive.new.wire) NoMemory c.in-Ok.ensures.quiet (λ is. cc) (λ is. cc)

pub returns-in-Err-clause-closes : goal.returns-in-Err-clause-closes
returns-in-Err-clause-closes g c =
    let s = g.W.Wire.state c.args.wire.now in
    let t = g.W.Wire.state c.receive.new.wire in
    let R = gives (g.P.Playable.machine c.args.played.now) in
    let turned = c.in-Wants.ensures.turned in
    record {
      ends = by_told (λ a d e f. EndsWaiting c.in-Wants.event a d e f c.in-Err.end) s _ t _ (g.met.W.Wire.state_tells c.args.wire.now) (g.met.W.Wire.state_tells c.receive.new.wire)
          c.in-Err.ensures.ends R (turned.0 [] ∙ turned.1);
      prompt = c.in-Err.ensures.prompt R (turned.0 [] ∙ turned.1);
    }

pub returns-in-Err-clause-awaits : goal.returns-in-Err-clause-awaits
returns-in-Err-clause-awaits g c = λ is. record { waits = c.in-Wants.ensures.turned.2; event = c.in-Wants.event; next = c.in-Wants.ensures.turned.1 }

pub returns-in-Err-clause-heard : goal.returns-in-Err-clause-heard
returns-in-Err-clause-heard g c =
    let s = g.W.Wire.state c.args.wire.now in
    let t = g.W.Wire.state c.receive.new.wire in
    heard_nothing g.P.Playable.Follows c.args.played.now c.advance.new.self s t c.in-Wants.event c.in-Err.end
    (by_told (λ a d e f. EndsWaiting c.in-Wants.event a d e f c.in-Err.end) s _ t _ (g.met.W.Wire.state_tells c.args.wire.now) (g.met.W.Wire.state_tells c.receive.new.wire) c.in-Err.ensures.ends)
    (c.in-Wants.ensures.followed (λ is. cc))

-- ---- over

pub returns-in-Done-clause-closes : goal.returns-in-Done-clause-closes
returns-in-Done-clause-closes g c = closes_done (gives (g.P.Playable.machine c.args.played.now)) (g.W.Wire.state c.args.wire.now) c.in-Done.ensures.turned.1

pub returns-in-Done-clause-faults : goal.returns-in-Done-clause-faults
returns-in-Done-clause-faults g c = let s = g.W.Wire.state c.args.wire.now in ends_quietly s s _ (quiet_still s) (λ is. cc) (λ is. cc)

pub returns-in-Stopped-clause-closes : goal.returns-in-Stopped-clause-closes
returns-in-Stopped-clause-closes g c = closes_stopped (gives (g.P.Playable.machine c.args.played.now)) (g.W.Wire.state c.args.wire.now) c.in-Stopped.halt c.in-Stopped.ensures.turned.1

pub returns-in-Stopped-clause-faults : goal.returns-in-Stopped-clause-faults
returns-in-Stopped-clause-faults g c = let s = g.W.Wire.state c.args.wire.now in ends_quietly s s _ (quiet_still s) (λ is. cc) (λ is. cc)

pub returns-in-NoMemory-clause-closes : goal.returns-in-NoMemory-clause-closes
returns-in-NoMemory-clause-closes g c = closes_wanting (gives (g.P.Playable.machine c.args.played.now)) (g.W.Wire.state c.args.wire.now)

pub returns-in-NoMemory-clause-faults : goal.returns-in-NoMemory-clause-faults
returns-in-NoMemory-clause-faults g c = wants_memory (g.W.Wire.state c.args.wire.now)

-- ---- where it stands

pub arrive-requires-clause-next : goal.arrive-requires-clause-next
arrive-requires-clause-next g c = (c.in-Wants.event, c.in-Wants.ensures.turned.1)

pub returns-in-Message-clause-stood : goal.returns-in-Message-clause-stood
returns-in-Message-clause-stood g c =
    an_error c.send.result c.err.result _ _ c.err.ensures.value c.send.ensures.cut_off (λ end off some. c.in-Message.ensures.followed (λ is. cc))

pub returns-in-Message-clause-stands : goal.returns-in-Message-clause-stands
returns-in-Message-clause-stands g c =
    an_error c.send.result c.err.result _ _ c.err.ensures.value c.send.ensures.cut_off (λ end off. stands_unsent (g.P.Playable.machine c.advance.new.self) end off)

pub returns-in-Err-clause-stood : goal.returns-in-Err-clause-stood
returns-in-Err-clause-stood g c = λ some. c.in-Wants.ensures.followed (λ is. cc)

pub returns-in-Err-clause-stands : goal.returns-in-Err-clause-stands
returns-in-Err-clause-stands g c = stands_waiting (g.P.Playable.machine c.advance.new.self) c.in-Wants.event c.in-Err.end c.in-Wants.ensures.turned.1 c.in-Err.ensures.comes

pub returns-in-Err-arrive-clause-stood : goal.returns-in-Err-arrive-clause-stood
returns-in-Err-arrive-clause-stood g c = λ some. absurd (some refl)

pub returns-in-Done-clause-stood : goal.returns-in-Done-clause-stood
returns-in-Done-clause-stood g c = λ some. c.in-Done.ensures.followed (λ is. cc)

pub returns-in-Done-clause-stands : goal.returns-in-Done-clause-stands
returns-in-Done-clause-stands g c = sym (c.in-Done.ensures.turned.0 []) ∙ c.in-Done.ensures.turned.1 []

pub returns-in-Stopped-clause-stood : goal.returns-in-Stopped-clause-stood
returns-in-Stopped-clause-stood g c = λ some. c.in-Stopped.ensures.followed (λ is. cc)

pub returns-in-Stopped-clause-stands : goal.returns-in-Stopped-clause-stands
returns-in-Stopped-clause-stands g c = sym (c.in-Stopped.ensures.turned.0 []) ∙ c.in-Stopped.ensures.turned.1 []

pub returns-in-NoMemory-clause-stood : goal.returns-in-NoMemory-clause-stood
returns-in-NoMemory-clause-stood g c = λ some. absurd (some refl)
