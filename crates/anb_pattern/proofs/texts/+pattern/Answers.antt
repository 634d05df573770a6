-- One operand more.
use Rattle.std.proofs.Common.{◌+◌, ◌++◌, map, drop, sym, ap, ◌∙◌, arith, append_assoc}
use Rattle.anb_term.specs.Tree.{trees_of}
use Rattle.anb_term.specs.View.{tree_of}
use Rattle.anb_term.proofs.Lists.{one_size, split_at}
use Rattle.anb_pattern.specs.Taken.{comma, operands_text, pattern_text}
use Rattle.anb_pattern.proofs.texts.+pattern.Goals as goal

pub put_operands-put_pattern-requires : goal.put_operands-put_pattern-requires
put_operands-put_pattern-requires t c =
    let one = one_size c.args.terms.now c.loop-i.i c.index-terms-i.result (omega arith) c.index-terms-i.is in omega (arith, one, c.decreases)

pub put_operands-loop-i-preserved : goal.put_operands-loop-i-preserved
put_operands-loop-i-preserved t c =
    let p = c.args.protocol.now in
    let ts = c.args.terms.now in
    let i = c.loop-i.i in
    let x = c.index-terms-i.result in
    let out = c.loop-i.out.items in
    let one = pattern_text p (tree_of x) in
    let rest = operands_text p (i + 1) (trees_of (map tree_of (drop (i + 1) ts))) in
    ap (λ l. l ++ rest) (c.in_ok-put_pattern.ensures ∙ ap (λ l. l ++ one) c.in_ok-put_comma.ensures ∙ append_assoc out (comma i) one) ∙ append_assoc out (comma i ++ one) rest
    ∙ ap (λ l. out ++ l) (append_assoc (comma i) one rest ∙ ap (λ l. operands_text p i (trees_of l)) (sym (split_at ts i x (omega arith) c.index-terms-i.is))) ∙ c.loop-i.invariant
