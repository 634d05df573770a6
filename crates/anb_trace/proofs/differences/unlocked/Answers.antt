use Rattle.std.proofs.Common.{◌≡◌, ◌∷◌, [], ◌++◌, ◌∙◌, ℕ, List, Vec, Global, Option, option_map, map, sym, ap, arith}
use Rattle.anb_term.specs.View.{tree_of}
use Rattle.anb_term.specs.Operator.{keys}
use Rattle.anb_trace.specs.Differences.{held_each}
use Rattle.anb_trace.proofs.Held.{all_places, first_terms, unlocked_is}
use Rattle.anb_trace.proofs.differences.unlocked.Goals as goal

pub returns : goal.returns
returns c =
    let holding = c.args.holding.now in
    let code = holding.code.now in
    let terms = map tree_of holding.terms.now in
    let us = map tree_of c.args.operands.now in
    let table = c.in-Some.table in
    let algebra = c.new-algebra.result in
    let held = sym (ap (held_each terms holding.registers.now) (first_terms c.keys.result (keys c.args.op) c.args.operands.now c.keys.ensures)) ∙ sym c.in_ok-table.ensures
    ∙ ap (λ (o : Option (Vec (List ℕ) Global)). option_map (λ (vs : Vec (List ℕ) Global). vs.items) o) c.in-Some.is in
    let put = c.deref.ensures.value ∙ c.in_ok-push.ensures.items ∙ ap (λ (b : List ℕ). table.items ++ b ∷ []) c.in_ok-copy.ensures in
    unlocked_is code terms holding.registers.now c.args.op us c.args.bytes.now (λ (ps : Vec (List ℕ) Global). ps.items) c.undo.result algebra.formats algebra.suite table.items c.deref.result.now c.len-of.result _
    held put (omega (arith, c.len-of.ensures, table.ok.0)) (c.new-algebra.ensures.formats ∙ c.formats.ensures.formats) (c.new-algebra.ensures.suite ∙ c.suite.ensures) c.undo.ensures
    (cc (all_places c.len-of.result))
