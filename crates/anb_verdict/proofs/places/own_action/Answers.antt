use Rattle.std.proofs.Common.{map, sym, ap, ◌∙◌}
use Rattle.anb_protocol.specs.Plans.{messages}
use Rattle.anb_protocol.specs.Protocols.{ProtocolValue}
use Rattle.anb_protocol.specs.Texts.{known_terms}
use Rattle.anb_protocol.specs.Views.{action_value}
use Rattle.anb_lemmas.proofs.Each.{each_in_parts}
use Rattle.anb_protocol.specs.Texts.{IsTermOf}
use Rattle.anb_verdict.specs.Places.{own_of}
use Rattle.anb_verdict.proofs.Parts.{own_term}
use Rattle.anb_verdict.proofs.places.own_action.Goals as goal

pub returns-in-Some-clause-term : goal.returns-in-Some-clause-term
returns-in-Some-clause-term c =
    let p = c.args.p.now in
    let holds = c.protocols_hold.ensures p c.messages.ensures.protocol in
    own_term p c.args.role p.actions c.args.n (action_value c.in-Some.action.now) (each_in_parts (IsTermOf p) (known_terms p) (messages p.actions) holds.terms).1
    (ap (λ l. own_of c.args.role l c.args.n) (sym c.messages.ensures.actions) ∙ c.in-Some.ensures.some)
