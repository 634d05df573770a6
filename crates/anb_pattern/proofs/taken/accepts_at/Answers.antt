use Rattle.std.proofs.Common.{◌≡◌, List, ℕ, map, drop, sym, ap, ◌∙◌, arith}
use Rattle.anb_lemmas.proofs.Results.{if_ok_map}
use Rattle.anb_term.specs.View.{tree_of}
use Rattle.anb_term.proofs.Lists.{map-drop, split_at}
use Rattle.anb_pattern.specs.Taken.{accepts, accepts_first}
use Rattle.anb_pattern.proofs.taken.accepts_at.Goals as goal

pub returns : goal.returns
returns c =
    let p = c.args.protocol.now in
    let ps = c.args.patterns.now in
    let at = c.args.at in
    let x = c.index-patterns-at.result in
    let t = tree_of c.args.narrated.now in
    let there = sym (map-drop tree_of at ps) ∙ split_at ps at x (omega arith) c.index-patterns-at.is in
    if_ok_map c.accepts.result (λ (notes : List (List ℕ)). notes ≡ accepts p (tree_of x) t) (λ (notes : List (List ℕ)). notes ≡ accepts_first p (drop at (map tree_of ps)) t)
    (λ notes h. h ∙ ap (λ l. accepts_first p l t) (sym there)) c.accepts.ensures
