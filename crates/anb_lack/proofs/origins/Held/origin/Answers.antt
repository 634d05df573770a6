use Rattle.std.proofs.Common.{◌≡◌, ◌-◌, ◌<◌, length, Option, Some, sym, ap, ◌∙◌, subst, arith, option_map}
use Rattle.std.specs.Prelude.{MatchOption}
use Rattle.anb_term.specs.Agree.{HasRecipe}
use Rattle.anb_term.specs.View.{tree_of}
use Rattle.anb_term.proofs.Lists.{slice_get-at}
use Rattle.anb_close.specs.declared.made.Made.{Made}
use Rattle.anb_close.specs.Entries as entries
use Rattle.anb_close.specs.Entries.{rows}
use Rattle.anb_close.specs.MadeView.{made_tree}
use Rattle.anb_close.specs.Rows.{made_for}
use Rattle.anb_close.proofs.Finding.{rows_length}
use Rattle.anb_lack.proofs.Having.{from_entry, from_nothing, made_within}
use Rattle.anb_lack.proofs.origins.Held.origin.Goals as goal

pub returns-then-count-eq0 : goal.returns-then-count-eq0
returns-then-count-eq0 c p plan i held labels formed =
    let es = c.args.self.now.closure in
    let t = tree_of c.args.term.now in
    let m = c.in-Some.made in
    let made : made_for (rows es) t ≡ Some (made_tree m) = sym c.in_ok-made.ensures.chosen ∙ ap (option_map made_tree) c.in-Some.is in
    from_nothing p plan i es c.args.self.now.from.items held labels t (made_tree m) formed made c.needed-count.result c.needed-count.ensures (omega (arith, c.if-count-eq0.true))

pub index-requires : goal.index-requires
index-requires c =
    let es = c.args.self.now.closure in
    let t = tree_of c.args.term.now in
    let m = c.in-Some.made in
    let made : made_for (rows es) t ≡ Some (made_tree m) = sym c.in_ok-made.ensures.chosen ∙ ap (option_map made_tree) c.in-Some.is in
    let most = (c.needed-count.ensures (length (rows es))).1 (made_within (rows es) t (made_tree m) made) in
    omega (arith, most, rows_length es, c.requires.all, c.if-count-eq0.false)

pub unreachable-requires : goal.unreachable-requires
unreachable-requires c =
    let has = c.requires.had.0 in
    let N : Option Made → Type 0 = λ o. MatchOption o (HasRecipe has (entries.labels_of c.args.self.now.closure) (tree_of c.args.term.now) → ⊥) (λ m. Unit {0}) in
    (subst N c.in-None.is (c.in_ok-made.ensures.refused has)) c.requires.had.1

pub returns : goal.returns
returns c p plan i held labels formed =
    let es = c.args.self.now.closure in
    let t = tree_of c.args.term.now in
    let m = c.in-Some.made in
    let made : made_for (rows es) t ≡ Some (made_tree m) = sym c.in_ok-made.ensures.chosen ∙ ap (option_map made_tree) c.in-Some.is in
    let n = c.needed-count.result in
    let most = (c.needed-count.ensures (length (rows es))).1 (made_within (rows es) t (made_tree m) made) in
    let below : n - 1 < length c.args.self.now.from.items = omega (arith, most, rows_length es, c.requires.all, c.if-count-eq0.false) in
    from_entry p plan i es c.args.self.now.from.items held labels t (made_tree m) formed made n (n - 1) c.index.result.now c.needed-count.ensures (omega (arith, c.if-count-eq0.false))
    (slice_get-at c.args.self.now.from.items (n - 1) c.index.result.now below c.index.ensures)
