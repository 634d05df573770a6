use Rattle.std.proofs.Common.{◌≡◌, ◌<◌, List, ℕ, length, map, get_or, ap, sym, ◌∙◌, subst, arith, true, []}
use Rattle.std.specs.Prelude.{not}
use Rattle.anb_base.specs.declared.TheConstants.{ARRIVAL, WIDE}
use Rattle.anb_format.specs.Formats.{FormatValue}
use Rattle.anb_term.specs.Tree.{Tree, trees_of, AreFormed}
use Rattle.anb_term.specs.View.{tree_of}
use Rattle.anb_algebra.specs.ByteMeaning.{has_operator}
use Rattle.anb_protocol.specs.declared.refusals.ResolveNo.TheVariants.{Wide}
use Rattle.anb_protocol.specs.declared.refusals.Item.TheVariants.{Know}
use Rattle.anb_protocol.specs.Choices.{refuse_if}
use Rattle.anb_protocol.specs.Texts.{IsTermOf}
use Rattle.anb_protocol.specs.Widths.{all_fit_width}
use Rattle.anb_protocol.specs.Views.{value_of}
use Rattle.anb_protocol.proofs.FirstLemmas.{passes}
use Rattle.anb_protocol.proofs.KnowLemmas.{next_known, role_next, formed_list, get_or_same}
use Rattle.anb_protocol.proofs.parts.Parts.wide_knowledge.Goals as goal

pub fit-requires : goal.fit-requires
fit-requires c =
    let p = value_of c.args.self.now in
    let knows = c.args.self.now.knows.items in
    let names = c.args.self.now.roles.items in
    let i = c.loop-i.i in
    let ts = c.terms-item.result in
    let low : i < length knows = omega (arith, c.loop-i-test.true, ap length c.deref-terms-items.ensures.value) in
    let is : ts ≡ get_or knows i ts = rw c.deref-terms-items.ensures.value at c.terms-item.is in
    let next = next_known (IsTermOf p) knows i ts low is c.loop-i.invariant.ours in
    let P : List Tree → Type 0 = λ us. AreFormed (has_operator p.formats) (trees_of us) in
    let Q : List FormatValue → Type 0 = λ fs. AreFormed (has_operator fs) (trees_of (map tree_of c.as_slice.result.now)) in
    subst Q (sym c.deref.ensures.value) (subst P (sym c.as_slice.ensures) (formed_list p ts next.0))

pub loop-i-preserved : goal.loop-i-preserved
loop-i-preserved c =
    let p = value_of c.args.self.now in
    let knows = c.args.self.now.knows.items in
    let names = c.args.self.now.roles.items in
    let i = c.loop-i.i in
    let ts = c.terms-item.result in
    let low : i < length knows = omega (arith, c.loop-i-test.true, ap length c.deref-terms-items.ensures.value) in
    let is : ts ≡ get_or knows i ts = rw c.deref-terms-items.ensures.value at c.terms-item.is in
    let next = next_known (IsTermOf p) knows i ts low is c.loop-i.invariant.ours in
    let high : i < length names = omega (arith, low, c.requires.knows) in
    let x = get_or names i [] in
    let named : x ≡ get_or names i x = get_or_same names i [] x high in
    let fitting : all_fit_width ARRIVAL p.formats WIDE ts ≡ true =
    ap (λ (us : List Tree). all_fit_width ARRIVAL p.formats WIDE us) (sym c.as_slice.ensures) ∙ ap (λ (fs : List FormatValue). all_fit_width ARRIVAL fs WIDE (map tree_of c.as_slice.result.now)) (sym c.deref.ensures.value)
    ∙ sym c.in_ok-fit.ensures ∙ c.if-not-branch.false in
    let none = passes (not (all_fit_width ARRIVAL p.formats WIDE ts)) (Wide (Know x)) (ap not fitting) in
    record {
      ours = next.1;
      same = role_next (λ (k : List ℕ × List Tree). refuse_if (not (all_fit_width ARRIVAL p.formats WIDE k.1)) (Wide (Know k.0))) names knows i x ts _ high low named is c.loop-i.invariant.same none;
    }
