-- Messages are terms of the protocol.
use Rattle.std.proofs.Common.{◌++◌, map, sym, ap, ◌∙◌, subst}
use Rattle.std.specs.Prelude.{filter}
use Rattle.std.specs.List.{AllByRecursion}
use Rattle.anb_lemmas.proofs.Each.{each_in_parts}
use Rattle.anb_term.specs.View.{tree_of}
use Rattle.anb_protocol.specs.Plans.{messages}
use Rattle.anb_protocol.specs.Texts.{IsTermOf, known_terms}
use Rattle.anb_protocol.specs.Views.{action_value}
use Rattle.anb_pattern.specs.Taken.{is_received}
use Rattle.anb_pattern.proofs.Standing.{filtered_ours}
use Rattle.anb_pattern.proofs.taken.received.Goals as goal

pub returns-clause-terms : goal.returns-clause-terms
returns-clause-terms c =
    let p = c.args.protocol.now in
    let test = is_received c.args.role in
    let holds = c.protocols_hold.ensures p c.messages-actions.ensures.protocol in
    let all = (each_in_parts (IsTermOf p) (known_terms p) (messages p.actions) holds.terms).1 in
    let is = c.in_ok-put_received.ensures ∙ ap (λ l. map tree_of l ++ messages (filter test (map action_value c.messages-actions.result.now))) c.new-out.ensures.items ∙ ap (λ l. messages (filter test l)) c.messages-actions.ensures.actions in
    subst (AllByRecursion (IsTermOf p)) (sym is) (filtered_ours p test p.actions all)
