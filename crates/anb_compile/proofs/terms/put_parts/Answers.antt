use Rattle.std.proofs.Common.{◌≡◌, List, ◌++◌, map, Some, sym, ap, ◌∙◌, subst}
use Rattle.std.specs.Prelude.{option_map, slice_get}
use Rattle.anb_term.specs.declared.term.Term.{Term}
use Rattle.anb_term.specs.FreeAlgebra.{term_meaning}
use Rattle.anb_term.specs.Lawful.{picked}
use Rattle.anb_term.specs.TreeSame.{terms_trees}
use Rattle.anb_term.specs.View.{tree_of, term_of}
use Rattle.anb_term.proofs.Lists.{slice_get-there, map-append}
use Rattle.anb_compile.proofs.Valuing.{undone_of}
use Rattle.anb_compile.proofs.terms.put_parts.Goals as goal

pub unreachable-requires : goal.unreachable-requires
unreachable-requires c =
    let old = c.args.terms.now.items in
    let v = slice_get-there old c.args.of c.requires.of in
    let P : List Term → Type 0 = λ l. slice_get l c.args.of ≡ Some v.0 in
    let undone = c.in_ok-parts.ensures v.0 (subst P (sym c.deref.ensures.value) v.1) ∙ ap (λ (l : List Term). term_meaning.undone c.args.op (picked l c.args.keys.now) v.0) c.deref.ensures.value in
    let parts = c.requires.parts in
    let some = undone_of parts.0 c.args.op c.args.keys.now c.args.of old v.0 parts.1 v.1 parts.2 in
    let none = ap (option_map (λ ps. ps.items)) c.in-None.is in
    cc

pub returns : goal.returns
returns c formats ts is =
    let old = c.args.terms.now.items in
    let v = slice_get-there old c.args.of c.requires.of in
    let P : List Term → Type 0 = λ l. slice_get l c.args.of ≡ Some v.0 in
    let undone = c.in_ok-parts.ensures v.0 (subst P (sym c.deref.ensures.value) v.1) ∙ ap (λ (l : List Term). term_meaning.undone c.args.op (picked l c.args.keys.now) v.0) c.deref.ensures.value in
    let some = undone_of formats c.args.op c.args.keys.now c.args.of old v.0 ts v.1 is in
    let given : c.in-Some.parts.items ≡ map term_of ts = (let h = ap (option_map (λ ps. ps.items)) c.in-Some.is in cc) in
    ap (map tree_of) c.in_ok-append-in-Some.ensures.items ∙ map-append tree_of old c.in-Some.parts.items ∙ ap (λ l. map tree_of old ++ l) (ap (map tree_of) given ∙ terms_trees ts)
