-- What is known, and then the rest.
use Rattle.std.proofs.Common.{◌++◌, map, false, ap, ◌∙◌}
use Rattle.anb_term.specs.View.{tree_of}
use Rattle.anb_plays.specs.Plans.{known}
use Rattle.anb_accept.specs.Taking.{later}
use Rattle.anb_accept.specs.Equations.{later_heard}
use Rattle.anb_accept.specs.Events.{event_value}
use Rattle.anb_accept.proofs.frame.frame_of.Goals as goal

pub returns-clause-terms : goal.returns-clause-terms
returns-clause-terms c =
    let es = map event_value c.args.events.now in
    c.in_ok-put_later.ensures.terms
    ∙ ap (λ l. l ++ later es) (c.in_ok-put_known.ensures.terms ∙ ap (λ l. map tree_of l ++ known es) c.new-terms.ensures.items)

pub returns-clause-heard : goal.returns-clause-heard
returns-clause-heard c =
    let es = map event_value c.args.events.now in
    c.in_ok-put_later.ensures.heard
    ∙ ap (λ l. l ++ later_heard es) (c.in_ok-put_known.ensures.heard ∙ ap (λ l. l ++ map (λ t. false) (known es)) c.new-heard.ensures.items)
