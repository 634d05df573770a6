use Rattle.std.proofs.Common.{length, option_map, ap, sym, ◌∙◌, arith, List}
use Rattle.std.proofs.lemmas.List.{length-map}
use Rattle.anb_term.specs.Tree.{Tree, trees_of}
use Rattle.anb_term.specs.Operator.{keys}
use Rattle.anb_term.specs.View.{tree_of}
use Rattle.anb_close.specs.declared.entry.Entry.{Entry}
use Rattle.anb_close.specs.Entries.{rows, is_double}
use Rattle.anb_close.proofs.Finding.{rows_length}
use Rattle.anb_close.proofs.Openable.{index_says, not_some, no_double, no_first, no_atom, no_undo, no_parts, no_keys, some_keys, keys_are}
use Rattle.anb_close.proofs.growth.Growth.opens.Goals as goal

pub index-requires : goal.index-requires
index-requires c = let n = length-map (rows c.args.self.now.entries.items) is_double in omega (arith, rows_length c.args.self.now.entries.items, ap length c.requires.doubles, n, c.args.self.now.entries.ok.0, c.args.self.now.doubles.ok.0)

pub returns-then-index : goal.returns-then-index
returns-then-index c = no_double _ _ _ c.args.self.now.doubles.items c.index.result.now c.requires.doubles (omega (arith, c.args.self.now.entries.ok.0)) c.index.ensures c.if-index.true

pub returns-then-index-ne0 : goal.returns-then-index-ne0
returns-then-index-ne0 c = no_first _ _ _ c.index-2.result.now (omega arith) c.index-2.ensures c.if-index-ne0.true

pub returns-then-not-undoes : goal.returns-then-not-undoes
returns-then-not-undoes c = no_undo _ _ _ c.index-3.result.now (omega (arith, c.args.self.now.entries.ok.0)) c.index-3.ensures c.in-Node.op c.in-Node.operands c.in-Node.is (sym c.undoes.ensures ∙ c.if-not-undoes.true)

pub returns-then-len-keys : goal.returns-then-len-keys
returns-then-len-keys c = no_parts _ _ _ c.index-3.result.now (omega (arith, c.args.self.now.entries.ok.0)) c.index-3.ensures c.in-Node.op c.in-Node.operands c.in-Node.is (omega arith)

pub returns-in-Atom : goal.returns-in-Atom
returns-in-Atom c = no_atom _ _ _ c.index-3.result.now (omega (arith, c.args.self.now.entries.ok.0)) c.index-3.ensures c.in-Atom.field-0 c.in-Atom.is

pub returns-in-None : goal.returns-in-None
returns-in-None c =
    let made = keys_are _ c.as_slice.result.now c.in-Node.operands _ (keys c.in-Node.op) _ c.in_ok-mades-in-Node.ensures c.as_slice.ensures c.keys-keys.ensures in
    no_keys _ _ _ c.index-3.result.now (omega (arith, c.args.self.now.entries.ok.0)) c.index-3.ensures c.in-Node.op c.in-Node.operands c.in-Node.is (sym made ∙ ap (option_map (λ (ms : List Tree). trees_of ms)) c.in-None.is)

pub returns-in-Some : goal.returns-in-Some
returns-in-Some c =
    let made = keys_are _ c.as_slice.result.now c.in-Node.operands _ (keys c.in-Node.op) _ c.in_ok-mades-in-Node.ensures c.as_slice.ensures c.keys-keys.ensures in
    some_keys _ _ _ c.index-3.result.now (omega (arith, c.args.self.now.entries.ok.0)) c.index-3.ensures c.args.self.now.doubles.items c.index.result.now c.index-2.result.now c.in-Node.op c.in-Node.operands c.in-Some.made c.requires.doubles c.index.ensures c.if-index.false (omega arith) c.index-2.ensures c.if-index-ne0.false c.in-Node.is (sym c.undoes.ensures ∙ c.if-not-undoes.false) (omega arith) (sym (ap (option_map (λ (ms : List Tree). trees_of ms)) c.in-Some.is) ∙ made)

pub composes-requires : goal.composes-requires
composes-requires c = omega (arith, c.args.self.now.entries.ok.0, ap length c.requires.indexed, length-map c.args.self.now.entries.items (λ (e : Entry). tree_of e.term))

pub returns-then-not-composes : goal.returns-then-not-composes
returns-then-not-composes c =
    let es = c.args.self.now.entries.items in
    let says = index_says es c.args.self.now.index.0 c.args.i c.index-3.result.now c.in-Node.op c.in-Node.operands c.keys-keys.result c.composes.result c.requires.indexed (omega (arith, c.args.self.now.entries.ok.0)) c.index-3.ensures c.in-Node.is c.keys-keys.ensures c.composes.ensures in
    no_keys _ _ _ c.index-3.result.now (omega (arith, c.args.self.now.entries.ok.0)) c.index-3.ensures c.in-Node.op c.in-Node.operands c.in-Node.is (not_some _ c.composes.result says c.if-not-composes.true)
