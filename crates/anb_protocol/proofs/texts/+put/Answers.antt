use Rattle.std.proofs.Common.{◌≡◌, ◌++◌, List, ap, sym, ◌∙◌, subst, arith, append_assoc}
use Rattle.std.specs.Prelude.{string_bytes}
use Rattle.anb_term.specs.declared.term.Term.{Term}
use Rattle.anb_term.specs.Tree.{Tree, trees_of}
use Rattle.anb_term.specs.View.{tree_of}
use Rattle.anb_term.proofs.Lists.{one_size}
use Rattle.anb_protocol.specs.Texts.{term_text, op_text, operands_text, IsTermOf}
use Rattle.anb_protocol.specs.Views.{value_of}
use Rattle.anb_protocol.proofs.TextLemmas.{term_at, node_text}
use Rattle.anb_protocol.proofs.texts.+put.Goals as goal

pub put_operands-put_term-requires : goal.put_operands-put_term-requires
put_operands-put_term-requires t c =
    let ts = c.args.operands.now in
    let here = one_size ts c.loop-t.t-index c.t-item.result (omega arith) c.t-item.is in
    (omega (arith, here, c.decreases), term_at (value_of c.args.parts.now) ts c.loop-t.t-index c.t-item.result (omega arith) c.t-item.is c.requires)

pub put_term-returns-in_ok-put_operands-in-Node : goal.put_term-returns-in_ok-put_operands-in-Node
put_term-returns-in_ok-put_operands-in-Node t c =
    let p = value_of c.args.parts.now in
    let old = string_bytes c.args.out.now in
    let o = c.in-Node.op in
    let us = trees_of c.in-Node.operands in
    let Q : Term → Type 0 = λ u. IsTermOf p (tree_of u) in
    let ours = subst Q c.in-Node.is c.requires in
    let P : Term → Type 0 = λ u. string_bytes c.put_operands.new.out ≡ old ++ term_text p (tree_of u) in
    let named : string_bytes c.push_str-in-Node.new.self ≡ old ++ op_text p o = c.in_ok-push_str-in-Node.ensures.bytes ∙ ap (λ l. old ++ l) c.op_name.ensures in
    let put : string_bytes c.put_operands.new.out ≡ string_bytes c.push_str-in-Node.new.self ++ operands_text p us =
    c.in_ok-put_operands-in-Node.ensures ∙ ap (λ (ts : List Tree). string_bytes c.push_str-in-Node.new.self ++ operands_text p (trees_of ts)) c.as_slice.ensures in
    subst P (sym c.in-Node.is)
    (put ∙ ap (λ l. l ++ operands_text p us) named ∙ append_assoc old (op_text p o) (operands_text p us) ∙ ap (λ l. old ++ l) (sym (node_text p o us ours.1)))
