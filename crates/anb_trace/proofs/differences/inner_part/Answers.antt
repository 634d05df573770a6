use Rattle.std.proofs.Common.{◌≡◌, ◌∙◌, ◌-◌, ℕ, List, Vec, Global, Option, option_map, length, map, take, drop, sym, ap}
use Rattle.anb_lemmas.proofs.Results.{if_ok_map}
use Rattle.anb_term.specs.View.{tree_of}
use Rattle.anb_term.specs.Operator.{keys}
use Rattle.anb_trace.specs.Differences.{opened}
use Rattle.anb_trace.proofs.Held.{inner_is, last_terms, operands_long}
use Rattle.anb_trace.proofs.differences.inner_part.Goals as goal

pub opened-requires : goal.opened-requires
opened-requires c = operands_long c.args.term.now c.in-Node.op c.in-Node.operands c.as_slice-operands.result.now c.requires c.in-Node.is c.as_slice-operands.ensures

pub opened-requires-2 : goal.opened-requires-2
opened-requires-2 c = operands_long c.args.term.now c.in-Node.op c.in-Node.operands c.as_slice-operands.result.now c.requires c.in-Node.is c.as_slice-operands.ensures

pub returns : goal.returns
returns c =
    let holding = c.args.holding.now in
    let code = holding.code.now in
    let terms = map tree_of holding.terms.now in
    let table = holding.registers.now in
    let op = c.in-Node.op in
    let us = c.in-Node.operands in
    let xs = c.as_slice-operands.result.now in
    let sides = c.args.sides.now in
    let items = λ (o : Option (Vec (List ℕ) Global)). option_map (λ (vs : Vec (List ℕ) Global). vs.items) o in
    let dues = ap items (sym c.in-Some.is) ∙ c.in_ok-dues.ensures ∙ ap (λ l. opened code terms table op l sides.due) c.as_slice-operands.ensures in
    let cames = ap items (sym c.in-Some-2.is) ∙ c.in_ok-cames.ensures ∙ ap (λ l. opened code terms table op l sides.came) c.as_slice-operands.ensures in
    let is = inner_is code terms table c.args.term.now op us (map tree_of (take (length xs - c.keys.result) (drop c.keys.result xs))) sides.due sides.came
    c.in-Some.dues.items c.in-Some-2.cames.items c.deref.result.now c.deref-2.result.now c.in-Node.is (last_terms c.keys.result (keys op) xs us c.keys.ensures c.as_slice-operands.ensures)
    dues cames c.deref.ensures.value c.deref-2.ensures.value in
    if_ok_map c.first_apart.result _ _ (λ part e. e ∙ is) c.first_apart.ensures
