use Rattle.std.proofs.Common.{ℕ, List, [], ◌∷◌, sym, ap, subst, ◌∙◌}
use Rattle.anb_machine.specs.Machines.{gives}
use Rattle.anb_plays.specs.Plays.{says}
use Rattle.anb_transcript.specs.declared.transcript.TranscriptLine.TheVariants.{In, Out}
use Rattle.anb_spoil.specs.Wrongs.{wrong_by}
use Rattle.anb_partner.specs.Steps.{Stops}
use Rattle.anb_partner.proofs.Reaching.{is_done, is_stopped, reaches_joined, says_first, says_line}
use Rattle.anb_partner.proofs.Going.{if_err, on_ok, still}
use Rattle.anb_partner.proofs.talking.change_value.Goals as goal

pub returns-in-Done-clause-over : goal.returns-in-Done-clause-over
returns-in-Done-clause-over c = λ s. (is_done (gives c.args.machine.now) c.in-Done.ensures.turned.1, still s)

pub returns-in-Stopped-clause-over : goal.returns-in-Stopped-clause-over
returns-in-Stopped-clause-over c = λ s. ((c.in-Stopped.field-0, is_stopped (gives c.args.machine.now) c.in-Stopped.field-0 c.in-Stopped.ensures.turned.1), still s)

pub returns-in-Message-clause-changed : goal.returns-in-Message-clause-changed
returns-in-Message-clause-changed c =
    let R = gives c.args.machine.now in
    let M = gives c.advance.new.self in
    let N = gives c.hand_wrong.new.machine in
    let b = c.as_slice.result.now in
    let so = λ (xs : List (List ℕ)). c.in-Message.ensures.turned.0 xs ∙ ap (λ m. says m (M xs)) (sym c.as_slice.ensures) in
    on_ok c.hand_wrong.result _ _ c.hand_wrong.ensures.handed (λ h.
    (b, h.0, h.1, h.2, reaches_joined R M N (Out b ∷ []) (In h.0 ∷ []) (says_line R M b so) h.3))

pub returns-in-Message-clause-over : goal.returns-in-Message-clause-over
returns-in-Message-clause-over c =
    let R = gives c.args.machine.now in
    let M = gives c.advance.new.self in
    let b = c.as_slice.result.now in
    let so = λ (xs : List (List ℕ)). c.in-Message.ensures.turned.0 xs ∙ ap (λ m. says m (M xs)) (sym c.as_slice.ensures) in
    if_err c.hand_wrong.result _ _ c.hand_wrong.ensures.over (λ stop h s.
    subst (λ d. Stops (wrong_by c.args.formats.now c.args.wrong) d s s stop) (sym (says_first R M b so)) (h s))
