use Rattle.std.proofs.Common.{◌≡◌, ◌<◌, ◌++◌, ℕ, List, Vec, Global, Option, Some, length, refl, sym, ap, ◌∙◌, subst, arith}
use Rattle.std.specs.Prelude.{option_map, option_and_then, IfSome}
use Rattle.anb_term.specs.Lawful.{picked}
use Rattle.anb_term.specs.FreeAlgebra.{parts_of}
use Rattle.anb_term.proofs.Lists.{picked_length}
use Rattle.anb_intern.specs.declared.node.NodeId.{NodeId}
use Rattle.anb_intern.specs.Nodes.{operands_at, tree_at, AreUnder, IsOver}
use Rattle.anb_intern.proofs.Nodes.{over_more, operands_long}
use Rattle.std.specs.List.{AllByRecursion}
use Rattle.std.proofs.lemmas.List.Elements.{recursion_from_All}
use Rattle.anb_certify.specs.Numbered.{did_in}
use Rattle.anb_certify.specs.Progress.{found_in}
use Rattle.anb_certify.proofs.Progressing.{registers_come}
use Rattle.anb_certify.proofs.Tabling.{more_here}
use Rattle.anb_certify.proofs.Signing.{under_picked, operands_picked}
use Rattle.anb_certify.proofs.Grouping.{get_here, at_register, under_there}
use Rattle.anb_certify.proofs.table.Table.undo.Goals as goal

pub numbers_at-requires : goal.numbers_at-requires
numbers_at-requires c k d l =
    omega (arith, c.requires.ready.1.2 k d l, operands_long c.args.self.now.pool c.args.self.now.ids.items, ap length c.deref.ensures.value)

pub index-requires : goal.index-requires
index-requires c = omega (arith, c.requires.ready.1.3, operands_long c.args.self.now.pool c.args.self.now.ids.items, c.args.self.now.ids.ok.0)

pub get-requires : goal.get-requires
get-requires c =
    let s = c.args.self.now in
    let x = c.index.result.now in
    let below : c.args.of < length s.ids.items = omega (arith, c.requires.ready.1.3, operands_long s.pool s.ids.items) in
    under_there (length s.pool) s.ids.items c.args.of x c.requires.table.under (get_here s.ids.items c.args.of x below ∙ ap Some (sym c.index.ensures))

pub parts-requires : goal.parts-requires
parts-requires c =
    let s = c.args.self.now in
    let within = recursion_from_All _ c.args.keys.now c.requires.ready.1.2 in
    ap length c.deref-2.ensures.value ∙ ap length c.in_ok-keys.ensures ∙ ap (λ (l : List NodeId). length (picked l c.args.keys.now)) c.deref.ensures.value
    ∙ picked_length s.ids.items c.args.keys.now (subst (λ n. AllByRecursion (λ k. k < n) c.args.keys.now) (operands_long s.pool s.ids.items) within) ∙ c.requires.ready.1.1

pub returns-in-Some-clause-table : goal.returns-in-Some-clause-table
returns-in-Some-clause-table c =
    let s = c.args.self.now in
    let x = c.index.result.now in
    let below : c.args.of < length s.ids.items = omega (arith, c.requires.ready.1.3, operands_long s.pool s.ids.items) in
    let there = under_there (length s.pool) s.ids.items c.args.of x c.requires.table.under (get_here s.ids.items c.args.of x below ∙ ap Some (sym c.index.ensures)) in
    let over = over_more x.0 (length s.pool) c.get.result.now (omega (arith, there)) c.get.ensures.before in
    let M : Option (Vec NodeId Global) → Type 0 = λ o. IfSome o (λ ids. (n : ℕ) → IsOver n c.get.result.now → AreUnder n ids.items) in
    let under = subst M c.in-Some.is c.in_ok-ids.ensures.under (length s.pool) over in
    let are = c.in_ok-extend_from_slice-in-Some.ensures.items ∙ ap (λ l. s.ids.items ++ l) c.deref-in-Some.ensures.value in
    let more = more_here s.pool s.ids.items c.in-Some.ids.items c.requires.table.under under in
    record {
      under = subst (AreUnder (length s.pool)) (sym are) more.0;
      progress = registers_come s.ids.items _ c.in-Some.ids.items (operands_at s.pool s.ids.items) _ (operands_at s.pool c.in-Some.ids.items) (did_in s) (found_in s.progress) are (ap (operands_at s.pool) are ∙ more.1) c.requires.table.progress;
    }

pub returns-in-Some-clause-written : goal.returns-in-Some-clause-written
returns-in-Some-clause-written c =
    let s = c.args.self.now in
    let x = c.index.result.now in
    let ks = c.deref-2.result.now in
    let below : c.args.of < length s.ids.items = omega (arith, c.requires.ready.1.3, operands_long s.pool s.ids.items) in
    let here = get_here s.ids.items c.args.of x below ∙ ap Some (sym c.index.ensures) in
    let there = under_there (length s.pool) s.ids.items c.args.of x c.requires.table.under here in
    let over = over_more x.0 (length s.pool) c.get.result.now (omega (arith, there)) c.get.ensures.before in
    let M : Option (Vec NodeId Global) → Type 0 = λ o. IfSome o (λ ids. (n : ℕ) → IsOver n c.get.result.now → AreUnder n ids.items) in
    let under = subst M c.in-Some.is c.in_ok-ids.ensures.under (length s.pool) over in
    let key_are = c.deref-2.ensures.value ∙ c.in_ok-keys.ensures ∙ ap (λ (l : List NodeId). picked l c.args.keys.now) c.deref.ensures.value in
    let key_under = subst (AreUnder (length s.pool)) (sym key_are) (under_picked (length s.pool) s.ids.items c.args.keys.now c.requires.table.under) in
    let term = at_register s.pool s.ids.items c.args.of x (tree_at s.pool c.get.result.now) here c.get.ensures.stands in
    let parts = c.in_ok-ids.ensures.parts s.pool c.len.ensures.distinct over key_under ∙ ap (option_map (λ (ids : Vec NodeId Global). operands_at s.pool ids.items)) c.in-Some.is in
    let key_terms : operands_at s.pool ks ≡ picked (operands_at s.pool s.ids.items) c.args.keys.now = ap (operands_at s.pool) key_are ∙ operands_picked s.pool s.ids.items c.args.keys.now in
    let are = c.in_ok-extend_from_slice-in-Some.ensures.items ∙ ap (λ l. s.ids.items ++ l) c.deref-in-Some.ensures.value in (
      λ f. cc,
      λ f. (
        operands_at s.pool c.in-Some.ids.items,
        ap (option_and_then (parts_of c.args.op (picked (operands_at s.pool s.ids.items) c.args.keys.now))) term ∙ ap (λ l. parts_of c.args.op l (tree_at s.pool c.get.result.now)) (sym key_terms) ∙ parts,
        ap (operands_at s.pool) are ∙ (more_here s.pool s.ids.items c.in-Some.ids.items c.requires.table.under under).1,
        refl,
      ),
    )

pub returns-clause-written : goal.returns-clause-written
returns-clause-written c =
    let s = c.args.self.now in
    let x = c.index.result.now in
    let ks = c.deref-2.result.now in
    let below : c.args.of < length s.ids.items = omega (arith, c.requires.ready.1.3, operands_long s.pool s.ids.items) in
    let here = get_here s.ids.items c.args.of x below ∙ ap Some (sym c.index.ensures) in
    let there = under_there (length s.pool) s.ids.items c.args.of x c.requires.table.under here in
    let over = over_more x.0 (length s.pool) c.get.result.now (omega (arith, there)) c.get.ensures.before in
    let key_are = c.deref-2.ensures.value ∙ c.in_ok-keys.ensures ∙ ap (λ (l : List NodeId). picked l c.args.keys.now) c.deref.ensures.value in
    let key_under = subst (AreUnder (length s.pool)) (sym key_are) (under_picked (length s.pool) s.ids.items c.args.keys.now c.requires.table.under) in
    let term = at_register s.pool s.ids.items c.args.of x (tree_at s.pool c.get.result.now) here c.get.ensures.stands in
    let parts = c.in_ok-ids.ensures.parts s.pool c.len.ensures.distinct over key_under ∙ ap (option_map (λ (ids : Vec NodeId Global). operands_at s.pool ids.items)) c.in-None.is in
    let key_terms : operands_at s.pool ks ≡ picked (operands_at s.pool s.ids.items) c.args.keys.now = ap (operands_at s.pool) key_are ∙ operands_picked s.pool s.ids.items c.args.keys.now in
    (λ f. ap (option_and_then (parts_of c.args.op (picked (operands_at s.pool s.ids.items) c.args.keys.now))) term ∙ ap (λ l. parts_of c.args.op l (tree_at s.pool c.get.result.now)) (sym key_terms) ∙ parts, λ f. cc)
