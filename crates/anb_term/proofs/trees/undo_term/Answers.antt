use Rattle.std.proofs.Common.{rules, ◌≡◌, length, map, take, drop, Some, true, arith, sym, ◌∙◌, ap}
use Rattle.anb_term.specs.declared.term.Term.TheVariants.{Node}
use Rattle.anb_term.specs.View.{tree_of, term_of}
use Rattle.anb_term.specs.Lawful.{picked}
use Rattle.anb_term.specs.Operator.{arity, keys, undoable}
use Rattle.anb_term.specs.FreeAlgebra.{term_meaning}
use Rattle.anb_term.proofs.Parts.{has_parts, no_parts, misbuilt}
use Rattle.anb_term.proofs.trees.undo_term.Goals as goal

pub returns-then-not-begin_with : goal.returns-then-not-begin_with
returns-then-not-begin_with c =
    let ks = picked c.args.table.now c.args.by.now in
    let differ = λ (e : map tree_of ks ≡ take (keys c.args.op) c.in-Node.operands).
    let yes = c.begin_with.ensures.1 (e ∙ ap (λ n. take n c.in-Node.operands) (sym c.requires.count)) in
    let no : ⊥ = cc in no in
    sym (ap (term_meaning.undone c.args.op ks) c.in-Node.is ∙ no_parts c.args.op c.in-Node.root ks c.in-Node.operands differ)

pub returns-in_ok-copy_from-in-Node : goal.returns-in_ok-copy_from-in-Node
returns-in_ok-copy_from-in-Node c =
    let o = c.args.op in
    let ks = picked c.args.table.now c.args.by.now in
    let same : o ≡ c.in-Node.root = search rules in
    let undo : undoable o ≡ true = search rules in
    let long : length c.in-Node.operands ≡ arity o = omega arith in
    let keyed : map tree_of ks ≡ take (keys o) c.in-Node.operands = c.begin_with.ensures.0 (search rules) ∙ ap (λ n. take n c.in-Node.operands) c.requires.count in
    let built = has_parts o ks c.in-Node.operands undo long keyed in
    ap Some (c.in_ok-copy_from-in-Node.ensures ∙ ap (λ n. map term_of (drop n c.in-Node.operands)) c.keys.ensures)
    ∙ sym (ap (term_meaning.undone o ks) (c.in-Node.is ∙ ap (λ p. Node p c.in-Node.operands) (sym same)) ∙ built)

pub returns-then-len-arity : goal.returns-then-len-arity
returns-then-len-arity c =
    let o = c.args.op in
    let ks = picked c.args.table.now c.args.by.now in
    let differ = λ (e : length c.in-Node.operands ≡ arity o). let no : ⊥ = omega (arith, e) in no in
    sym (ap (term_meaning.undone o ks) c.in-Node.is ∙ misbuilt o c.in-Node.root ks c.in-Node.operands differ)
