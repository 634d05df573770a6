use Rattle.std.proofs.Common.{◌≡◌, option_map, Some, None, ap, sym, ◌∙◌, arith, subst, refl}
use Rattle.std.specs.Prelude.{List}
use Rattle.anb_term.specs.declared.term.Term.{Term}
use Rattle.anb_term.specs.View.{tree_of}
use Rattle.anb_term.specs.Tree.{Tree, trees_of}
use Rattle.anb_term.proofs.Lists.{one_size}
use Rattle.anb_close.specs.Rows.{place, made_for, mades_for, rows_of}
use Rattle.anb_close.specs.Entries.{rows}
use Rattle.anb_close.specs.MadeView.{made_tree}
use Rattle.anb_close.proofs.Finding.{place_none, built_none, built_from, mades_on, mades_all}
use Rattle.anb_close.proofs.growth.Growth.+made.Goals as goal

pub made-returns-then-len-arity : goal.made-returns-then-len-arity
made-returns-then-len-arity t c =
    let rs = rows c.args.self.now.entries.items in
    let P : Term → Type 0 = λ u. None ≡ made_for rs (tree_of u) in
    subst P (sym c.in-Node.is) (built_none rs c.in-Node.op c.in-Node.operands (place_none c.args.t.now c.in-Node.op c.in-Node.operands rs c.in-Node.is (sym c.in-None.is ∙ c.in_ok-n.ensures ∙ ap (λ l. place (rows_of l) (tree_of c.args.t.now)) c.requires.indexed)) (λ e. absurd (omega arith)))

pub made-returns-in-Some-2 : goal.made-returns-in-Some-2
made-returns-in-Some-2 t c =
    let rs = rows c.args.self.now.entries.items in
    let made : Some (trees_of c.in-Some-2.made) ≡ mades_for rs (trees_of c.in-Node.operands) = sym (ap (option_map (λ (ms : List Tree). trees_of ms)) c.in-Some-2.is) ∙ c.in_ok-made-in-Node.ensures ∙ ap (λ ts. mades_for rs (trees_of ts)) c.as_slice.ensures in
    let P : Term → Type 0 = λ u. Some (Rattle.anb_term.specs.Tree.node c.in-Node.op (trees_of c.in-Some-2.made)) ≡ made_for rs (tree_of u) in
    subst P (sym c.in-Node.is) (built_from rs c.in-Node.op c.in-Node.operands None (Some (trees_of c.in-Some-2.made)) (place_none c.args.t.now c.in-Node.op c.in-Node.operands rs c.in-Node.is (sym c.in-None.is ∙ c.in_ok-n.ensures ∙ ap (λ l. place (rows_of l) (tree_of c.args.t.now)) c.requires.indexed)) refl (omega arith) made)

pub mades-made-requires : goal.mades-made-requires
mades-made-requires t c =
    let one = one_size c.args.ts.now c.loop-t.t-index c.t-item.result (omega arith) c.t-item.is in
    (omega (arith, one, c.decreases), c.requires.indexed)

pub mades-loop-t-preserved : goal.mades-loop-t-preserved
mades-loop-t-preserved t c =
    let rs = rows c.args.self.now.entries.items in
    let m = c.in-Some.made in
    let e : Some (made_tree m) ≡ made_for rs (tree_of c.t-item.result) = sym (ap (option_map made_tree) c.in-Some.is) ∙ c.in_ok-made.ensures in
    rw (c.in_ok-push-in-Some.ensures.ok) (mades_on rs c.args.ts.now c.loop-t.t-index c.t-item.result c.loop-t.all (made_tree m) _ (omega arith) c.t-item.is e c.loop-t.invariant)

pub mades-returns : goal.mades-returns
mades-returns t c = mades_all (rows c.args.self.now.entries.items) c.args.ts.now c.loop-t.t-index c.loop-t.all _ (omega arith) c.loop-t.invariant
