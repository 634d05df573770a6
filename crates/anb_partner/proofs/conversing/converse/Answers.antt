use Rattle.std.proofs.Common.{◌≡◌, ℕ, List, map, replicate, ap, subst, ◌∙◌}
use Rattle.anb_plays.specs.Plays.{Run}
use Rattle.anb_machine.specs.ByteRuns.{run_bytes}
use Rattle.anb_machine.specs.Machines.{gives}
use Rattle.anb_transcript.specs.declared.transcript.TranscriptLine.TheVariants.{In}
use Rattle.anb_partner.specs.Steps.{Reaches}
use Rattle.anb_partner.proofs.Going.{if_err, if_ok}
use Rattle.anb_partner.proofs.Whole.{converses}
use Rattle.anb_partner.proofs.conversing.converse.Goals as goal

pub returns-in-Ok-clause-converses : goal.returns-in-Ok-clause-converses
returns-in-Ok-clause-converses g c =
    let R : Run = run_bytes c.args.partner.now.code c.args.values.now.initial.items (replicate 32 0) 0 in
    let N = gives c.hand_in.new.machine in
    let machine = c.in_ok-machine.machine in
    let each : (xs : List (List ℕ)) → gives machine xs ≡ R xs =
    λ xs. c.in_ok-machine.ensures.run xs ∙ ap (λ (l : List (List ℕ)). run_bytes c.args.partner.now.code l (replicate 32 0) 0 xs) c.deref.ensures.value in
    let begun : gives machine ≡ R = λ i xs. each xs i in
    let handed = subst (λ (l : List (List ℕ)). Reaches (gives machine) N (map In l)) c.deref-2.ensures.value c.in_ok-hand_in.ensures in
    let reaches = subst (λ (S : Run). Reaches S N (map In c.args.values.now.handed.items)) begun handed in
    if_ok c.talk_with.result _ _ c.talk_with.ensures.talked (λ conversation talked.
    converses R N _ _ _ _ _ _ _ _ conversation reaches c.in-Ok.ensures.child c.in-Ok.ensures.asked c.start-2.ensures.ends (rw c.formats.ensures.formats at talked) c.talk_with.ensures.kept c.talk_with.ensures.finished)

pub returns-in-Ok-clause-not_started : goal.returns-in-Ok-clause-not_started
returns-in-Ok-clause-not_started g c = if_err c.talk_with.result _ _ c.talk_with.ensures.no (λ no memory is. absurd (cc))

pub returns-in-Ok-clause-others : goal.returns-in-Ok-clause-others
returns-in-Ok-clause-others g c = λ other differ. c.talk_with.ensures.others other differ ∙ c.start-2.ensures.others other differ
