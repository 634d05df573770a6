use Rattle.std.proofs.Common.{◌≡◌, ◌++◌, [], map, ap, sym, ◌∙◌, arith, subst, append-nil}
use Rattle.std.specs.Prelude.{AllPairs}
use Rattle.anb_term.specs.View.{tree_of}
use Rattle.anb_reason.specs.Reach.{IsBefore}
use Rattle.anb_reason.specs.Found.{trees_in}
use Rattle.anb_reason.proofs.Finding.{sorted_pairs, all_gone}
use Rattle.anb_reason.proofs.found.Found.into_terms.Goals as goal

pub returns-clause-order : goal.returns-clause-order
returns-clause-order c p keyed =
    let i = c.loop-k.invariant in
    let gone : trees_in c.loop-k.self ≡ [] = all_gone c.loop-k.self.terms.entries _ c.loop-k.k i.left (omega (arith, c.loop-k-test.false, c.len-k-end.ensures.len)) in
    let all : c.new.result ≡ trees_in c.args.self = c.new.ensures ∙ sym (i.terms ∙ ap (λ l. map tree_of c.loop-k.terms.items ++ l) gone ∙ append-nil (map tree_of c.loop-k.terms.items)) in
    subst (λ l. AllPairs (IsBefore p) l) (sym all) (sorted_pairs (λ x. x.items) p c.args.self.terms.entries keyed c.len-k-end.ensures.ordered)
