-- The lines of the conversation, and what a stranger makes of them.
use Rattle.std.proofs.Common.{◌≡◌, List, map, sym, ap, ◌∙◌, subst}
use Rattle.anb_lemmas.proofs.Results.{if_ok_map}
use Rattle.anb_term.specs.Tree.{Tree, trees_of, AreFormed}
use Rattle.anb_term.specs.View.{tree_of}
use Rattle.anb_term.specs.declared.term.Term.{Term}
use Rattle.anb_algebra.specs.ByteMeaning.{has_operator}
use Rattle.anb_accept.specs.Events.{event_value}
use Rattle.anb_stranger.specs.Reaching.{IsReachIn, Reaches, stranger}
use Rattle.anb_stranger.proofs.Formed.{all_any_formed, stranger_formed}
use Rattle.anb_stranger.proofs.reach.reach_in.Goals as goal

pub how_far-requires : goal.how_far-requires
how_far-requires c =
    let has = has_operator c.args.protocol.now.formats in
    all_any_formed has _ (subst (λ (l : List Term). AreFormed has (trees_of (map tree_of l))) (sym c.deref-2.ensures.value) c.in_ok-lines.ensures.exact.formed)

pub returns : goal.returns
returns c =
    let p = c.args.protocol.now in
    let has = has_operator p.formats in
    let plan = map event_value c.args.events.now in
    let items = c.in_ok-lines.lines.items in
    let lines = map tree_of items in
    let begins : c.in_ok-knowledge.knowledge ≡ stranger p lines = c.in_ok-knowledge.ensures ∙ ap (λ (l : List Term). stranger p (map tree_of l)) c.deref.ensures.value in
    let formed = subst (λ (l : List Tree). AreFormed has (trees_of l)) (sym begins) (stranger_formed p has lines) in
    let line_formed = subst (λ (l : List Term). AreFormed has (trees_of (map tree_of l))) (sym c.deref-2.ensures.value) c.in_ok-lines.ensures.exact.formed in
    if_ok_map c.how_far.result (λ r. Reaches has c.in_ok-knowledge.knowledge (map tree_of c.deref-2.result.now) plan r) (λ r. IsReachIn p plan r)
    (λ r h. record {
      lines = lines;
      conversation = c.in_ok-lines.ensures;
      reaches = subst (λ (l : List Tree). Reaches has l lines plan r) begins (subst (λ (l : List Term). Reaches has c.in_ok-knowledge.knowledge (map tree_of l) plan r) c.deref-2.ensures.value h);
    })
    (c.how_far.ensures has formed line_formed)
