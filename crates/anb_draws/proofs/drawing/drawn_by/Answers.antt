use Rattle.std.proofs.Common.{◌≡◌, ◌≢◌, ◌≤◌, ◌++◌, [], false, List, length, map, take, drop, sym, ap, ◌∙◌, subst, arith}
use Rattle.std.specs.Prelude.{◌==◌}
use Rattle.std.specs.List.{AllByRecursion}
use Rattle.std.specs.Vec.{vec_len}
use Rattle.std.proofs.lemmas.List.{take-append-drop}
use Rattle.std.proofs.lemmas.Result.{IfOk-weaker}
use Rattle.std.proofs.lemmas.List.Elements.{All-from_recursion, recursion_from_All}
use Rattle.anb_lemmas.proofs.Each.{each_in_front, each_of_map}
use Rattle.anb_base.specs.declared.TheConstants.{ARRIVAL}
use Rattle.anb_base.specs.declared.content.Suite.{Suite}
use Rattle.anb_format.specs.Formats.{FormatValue}
use Rattle.anb_algebra.specs.ByteMeaning.{byte_meaning}
use Rattle.anb_machine.specs.ByteRuns.{run_bytes}
use Rattle.anb_plays.specs.Statements.{RunsAsPlayed}
use Rattle.anb_compile.specs.Emitting.{known_in}
use Rattle.anb_protocol.specs.Plans.{plan_of}
use Rattle.anb_protocol.specs.Plays.{event_of, events_of, meaning_of}
use Rattle.anb_transcript.specs.declared.transcript.TranscriptLine.{TranscriptLine}
use Rattle.anb_judge.specs.Verdicts.{line_bytes}
use Rattle.anb_draws.specs.Draws.{Tells, names_by}
use Rattle.anb_draws.specs.Telling.{named, value_among, value_of}
use Rattle.anb_draws.proofs.Told.{asked, both_told, both_within, gives_each, none_has, saying, tells}
use Rattle.anb_draws.proofs.drawing.drawn_by.Goals as goal

pub hear-requires : goal.hear-requires
hear-requires c =
    let lines = c.args.lines.now in
    let P = λ (line : TranscriptLine). length (line_bytes line) ≤ ARRIVAL in
    let all = recursion_from_All P lines c.requires.lines in
    let firsts = each_in_front P (take c.args.n lines) (drop c.args.n lines) (subst (AllByRecursion P) (sym (take-append-drop c.args.n lines)) all) in
    let mapped = each_of_map (λ (b : List _). length b ≤ ARRIVAL) line_bytes (take c.args.n lines) firsts in
    All-from_recursion (λ (b : List _). length b ≤ ARRIVAL) c.in_ok-arrivals.arrivals.items (subst (AllByRecursion (λ (b : List _). length b ≤ ARRIVAL)) (sym c.in_ok-arrivals.ensures.same) mapped)

pub returns : goal.returns
returns c =
    let p = c.args.p.now in
    let role = c.args.role in
    let n = c.args.n in
    let initial = c.args.initial.now in
    let lines = c.args.lines.now in
    let e = c.new-algebra in
    let formats : e.result.formats ≡ p.formats = e.ensures.formats ∙ c.formats.ensures in
    let suite : e.result.suite ≡ p.suite = e.ensures.suite ∙ c.suite.ensures in
    let law : RunsAsPlayed (meaning_of p) = subst (λ (s : Suite). RunsAsPlayed (byte_meaning p.formats s)) suite (subst (λ (f : List FormatValue). RunsAsPlayed (byte_meaning f e.result.suite)) formats c.runs_as_played.ensures) in
    let holds = c.protocols_hold.ensures p c.in_ok-plan.ensures.protocol in
    let known = c.deref.result.now in
    let names = c.in_ok-code.field-0.names.items in
    let others = c.in_ok-others.others.items in
    let arrivals = c.in_ok-arrivals.arrivals.items in
    let teller = c.in_ok-code.ensures in
    let ran : run_bytes c.in_ok-code.field-0.code initial _ 0 arrivals ≡ saying (map value_of others) = sym (c.in_ok-machine.ensures.run arrivals) ∙ sym c.in_ok-hear.ensures ∙ c.in_ok-others.ensures.values in
    let each = gives_each p role n known names c.in_ok-code.field-0.code initial _ arrivals (map value_of others) law c.plans_know_first.ensures teller c.requires.count c.requires.bytes c.in_ok-arrivals.ensures.bytes ran in
    let each_here = rw c.in_ok-arrivals.ensures.same at each in
    let is : known ≡ named (known_in (plan_of p role)) initial = c.deref.ensures.value ∙ c.in_ok-draws.ensures ∙ ap (λ l. named (known_in l) initial) (c.events-2.ensures ∙ c.in_ok-plan.ensures.plan) in
    let given = both_told p role initial lines n known others names is c.in_ok-others.ensures.names each_here.0 each_here.1 in
    let within = both_within p role initial lines n known others names c.terms_of_plans.ensures c.in_ok-plan.ensures.protocol is c.in_ok-others.ensures.names teller.left.within in
    let some : names_by n (events_of p role) ≢ [] = λ none.
    let empty : c.in_ok-names.names.items ≡ [] = c.in_ok-names.ensures ∙ ap (λ l. names_by n (map event_of l)) (c.events.ensures ∙ c.in_ok-plan.ensures.plan) ∙ none in
    let long : length c.in_ok-names.names.items ≡ 0 = ap length empty in
    let some : (vec_len c.in_ok-names.names == 0) ≡ false = sym c.is_empty.ensures ∙ c.if-is_empty.false in
    grind (arith, long, some, c.in_ok-names.names.ok.0) in
    let all = c.in_ok-append.ensures.items ∙ ap (λ l. l ++ others) (sym c.deref.ensures.value) in
    IfOk-weaker c.by_name-2.result _ _
    (λ values told name. subst (Tells (asked p role initial lines n) n name) (sym (told name ∙ ap (λ ds. value_among ds name) all))
    (tells p role initial lines n (known ++ others) some within given (none_has p role n known others names holds teller.left c.in_ok-others.ensures.names) name))
    c.by_name-2.ensures
