-- One more line, where there is one.
use Rattle.std.proofs.Common.{◌≡◌, ◌++◌, map, true, OnOk, sym, ap, ◌∙◌, subst}
use Rattle.std.proofs.lemmas.List.{append-nil}
use Rattle.anb_term.specs.View.{tree_of}
use Rattle.anb_close.proofs.Growing.{formed_at}
use Rattle.anb_stranger.specs.Steps.{one_line}
use Rattle.anb_stranger.proofs.Lines.{there, absent}
use Rattle.anb_stranger.proofs.reach.hear.Goals as goal

pub learn-requires : goal.learn-requires
learn-requires c =
    let x = c.in-Some.line.now in
    formed_at (λ o. true) (map tree_of c.args.lines.now) c.args.at (tree_of x) c.requires (there c.args.lines.now c.args.at x c.in-Some.ensures.lookup.0 c.in-Some.ensures.lookup.1)

pub returns-in-Some : goal.returns-in-Some
returns-in-Some c =
    let x = c.in-Some.line.now in
    let at = there c.args.lines.now c.args.at x c.in-Some.ensures.lookup.0 c.in-Some.ensures.lookup.1 in
    subst (λ l. OnOk c.learn.result (c.learn.new.self ≡ c.args.having.now ++ l)) (sym (ap one_line at)) c.learn.ensures

pub returns-in-None : goal.returns-in-None
returns-in-None c =
    let none = absent c.args.lines.now c.args.at c.in-None.ensures.lookup.0 in
    sym (ap (λ o. c.args.having.now ++ one_line o) none ∙ append-nil c.args.having.now)
