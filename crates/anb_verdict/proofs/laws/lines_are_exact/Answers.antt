use Rattle.std.proofs.Common.{◌≡◌, List, true, sym, ap, ◌∙◌, subst}
use Rattle.anb_base.specs.declared.content.Suite.{Suite}
use Rattle.anb_format.specs.Formats.{FormatValue}
use Rattle.anb_algebra.specs.ByteMeaning.{byte_meaning}
use Rattle.anb_protocol.specs.Protocols.{ProtocolValue}
use Rattle.anb_protocol.specs.Plays.{meaning_of}
use Rattle.anb_judge.specs.Laws.{ObservedAreConversations}
use Rattle.anb_judge.specs.Verdicts.{Judged}
use Rattle.anb_verdict.specs.declared.seen.Seen.{Seen}
use Rattle.anb_verdict.specs.declared.verdict.Verdict.{Verdict}
use Rattle.anb_verdict.specs.Laws.{NamesAreTold, StopsAreKnown}
use Rattle.anb_verdict.specs.Verdicts.{IsKnown, IsRoles, IsVerdict, is_good}
use Rattle.anb_verdict.proofs.Exact.{exact, right}
use Rattle.anb_verdict.proofs.laws.lines_are_exact.Goals as goal

abbrev Law : List FormatValue → Suite → Type 0
Law formats suite = ObservedAreConversations (byte_meaning formats suite)

pub returns : goal.returns
returns c = λ judged seen verdict same known is.
    let p = c.args.p.now in
    let e = c.new-algebra in
    let formats : e.result.formats ≡ p.formats = e.ensures.formats ∙ c.formats.ensures in
    let suite : e.result.suite ≡ p.suite = e.ensures.suite ∙ c.suite.ensures in
    let mine : Law e.result.formats e.result.suite = c.observed_are_conversations.ensures in
    let law : Law p.formats p.suite = subst (λ s. Law p.formats s) suite (subst (λ f. Law f e.result.suite) formats mine) in
    let ours : ObservedAreConversations (meaning_of judged.protocol) = subst (λ (q : ProtocolValue). ObservedAreConversations (meaning_of q)) (sym same) law in
    let first = c.plans_know_first.ensures judged.protocol judged.role in (
      λ roles stops. ap is_good is.is ∙ right judged first known.placed seen known.stops known.refuses is.end is.judges roles stops,
      λ good told. exact judged first known.placed seen known.values known.bytes known.hears known.stops is.end is.judges ours told (sym (ap is_good is.is) ∙ good),
    )
