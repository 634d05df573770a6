use Rattle.std.proofs.Common.{◌≡◌, ◌++◌, [], map, drop, arith, sym, ◌∙◌, ap}
use Rattle.std.proofs.lemmas.List.{append-nil, drop_all}
use Rattle.anb_term.specs.View.{term_of}
use Rattle.anb_term.proofs.Picking.{drop_terms}
use Rattle.anb_term.proofs.term.Terms.copy_from.Goals as goal

pub returns : goal.returns
returns c =
    let items = c.self.inside.items.items in
    let none : drop c.loop-k.k items ≡ [] = drop_all c.loop-k.k items (omega (arith, c.self.inside.items.ok.0)) in
    let all : c.loop-k.rest.items ≡ drop c.args.start items = sym (append-nil c.loop-k.rest.items) ∙ ap (λ l. c.loop-k.rest.items ++ l) (sym none) ∙ c.loop-k.invariant in
    all ∙ sym (drop_terms c.args.start items) ∙ ap (λ l. map term_of (drop c.args.start l)) c.self.view_is
