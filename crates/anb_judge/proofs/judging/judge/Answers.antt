use Rattle.std.proofs.Common.{◌≡◌, ◌≤◌, List, length, map, sym, ap, ◌∙◌, subst}
use Rattle.std.specs.List.{AllByRecursion}
use Rattle.std.proofs.lemmas.List.{length-map}
use Rattle.std.proofs.lemmas.List.Elements.{All-from_recursion, recursion_from_All}
use Rattle.anb_lemmas.proofs.Results.{if_ok_map}
use Rattle.anb_base.specs.declared.TheConstants.{ARRIVAL}
use Rattle.anb_base.specs.declared.content.Suite.{Suite}
use Rattle.anb_format.specs.Formats.{FormatValue}
use Rattle.anb_algebra.specs.ByteMeaning.{byte_meaning}
use Rattle.anb_machine.specs.Machines.{gives}
use Rattle.anb_plays.specs.Statements.{RunsAsPlayed}
use Rattle.anb_protocol.specs.Plays.{event_of, events_of}
use Rattle.anb_protocol.specs.Texts.{known_by, term_text}
use Rattle.anb_judge.specs.Laws.{ConversationsAreObserved, ObservedAreConversations}
use Rattle.anb_judge.specs.Verdicts.{in_place, line_bytes, sides}
use Rattle.anb_judge.proofs.SeenPlays.{observer_judges, placed_all}
use Rattle.anb_judge.proofs.judging.judge.Goals as goal

abbrev Laws : List FormatValue → Suite → Type 0
Laws formats suite =
    RunsAsPlayed (byte_meaning formats suite) × ConversationsAreObserved (byte_meaning formats suite) × ObservedAreConversations (byte_meaning formats suite)

pub observer-requires-clause-holds : goal.observer-requires-clause-holds
observer-requires-clause-holds c = c.protocols_hold.ensures c.args.p.now c.in_ok-plan.ensures.protocol

pub start-requires-clause-count : goal.start-requires-clause-count
start-requires-clause-count c =
    let p = c.args.p.now in
    let sees = c.in_ok-code.ensures in
    c.requires.count ∙ sym (length-map (known_by p c.args.role) (term_text p)) ∙ sym (ap length sees.texts)

pub turn_over-turn-requires : goal.turn_over-turn-requires
turn_over-turn-requires c =
    let short : AllByRecursion (λ b. length b ≤ ARRIVAL) (in_place c.deref.result.now c.lines.result.now) =
    placed_all (λ b. length b ≤ ARRIVAL) c.deref.result.now c.lines.result.now
    (rw c.lines.ensures (recursion_from_All (λ line. length (line_bytes line) ≤ ARRIVAL) c.args.transcript.now c.requires.lines)) in
    All-from_recursion (λ b. length b ≤ ARRIVAL) c.in_ok-arrivals.arrivals.items (rw c.in_ok-arrivals.ensures.placed short)

pub returns : goal.returns
returns c =
    let p = c.args.p.now in
    let role = c.args.role in
    let e = c.new-algebra in
    let formats : e.result.formats ≡ p.formats = e.ensures.formats ∙ c.formats.ensures in
    let suite : e.result.suite ≡ p.suite = e.ensures.suite ∙ c.suite.ensures in
    let mine : Laws e.result.formats e.result.suite = (c.runs_as_played.ensures, c.conversations_are_observed.ensures, c.observed_are_conversations.ensures) in
    let laws : Laws p.formats p.suite = subst (λ s. Laws p.formats s) suite (subst (λ f. Laws f e.result.suite) formats mine) in
    let sides_are : c.deref-2.result.now ≡ sides (events_of p role) =
    c.deref-2.ensures.value ∙ c.in_ok-sides.ensures ∙ ap (λ l. sides (map event_of l)) (c.events.ensures ∙ c.in_ok-plan.ensures.plan) in
    let arrivals = c.in_ok-arrivals.arrivals.items in
    let placed : arrivals ≡ in_place c.deref-2.result.now c.args.transcript.now =
    c.in_ok-arrivals.ensures.placed ∙ ap (λ s. in_place s c.lines.result.now) (c.deref.ensures.value ∙ sym c.deref-2.ensures.value) ∙ ap (in_place c.deref-2.result.now) c.lines.ensures in
    if_ok_map c.verdict.result _ _
    (λ end v. observer_judges p role c.args.initial.now c.args.transcript.now c.in_ok-code.code _ (gives c.in_ok-machine.machine) c.deref-2.result.now arrivals (length c.lines-2.result.now) c.turn_over-turn.result end
    laws.0 laws.1 laws.2 c.made_is_new.ensures c.plans_know_first.ensures c.in_ok-code.ensures c.requires.count c.requires.bytes c.in_ok-machine.ensures.run sides_are placed c.in_ok-arrivals.ensures.bytes
    (ap length c.lines-2.ensures) c.turn_over-turn.ensures v)
    c.verdict.ensures
