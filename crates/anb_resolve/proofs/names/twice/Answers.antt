use Rattle.std.proofs.Common.{ℕ, List, ◌++◌, ◌∷◌, [], ap, sym, ◌∙◌, arith, Some}
use Rattle.anb_index.specs.Places.{among}
use denote.Ref.{Bor}
use Rattle.anb_protocol.specs.declared.refusals.ResolveNo.TheVariants.{Twice}
use Rattle.anb_protocol.specs.Choices.{refuse_if}
use Rattle.anb_protocol.specs.Checks.{twice_among}
use Rattle.anb_protocol.specs.Views.{pointed}
use Rattle.anb_protocol.proofs.Elements.{seen_as, within_map}
use Rattle.anb_protocol.proofs.FirstLemmas.{first_here, first_next, refuses, passes}
use Rattle.anb_protocol.proofs.UseLemmas.{next_name}
use Rattle.anb_resolve.proofs.names.twice.Goals as goal

pub returns-then-branch-clause-first : goal.returns-then-branch-clause-first
returns-then-branch-clause-first c =
    let names = c.args.names.now in
    let xs = pointed names in
    let i = c.loop-name.name-index in
    let x = c.name-item.result in
    let here = within_map (λ (y : Bor (List ℕ)). y.now) names i (omega arith) in
    let is = seen_as (λ (y : Bor (List ℕ)). y.now) names i x c.name-item.is in
    let found = ap (λ l. among l x.now) (sym c.loop-name.invariant.seen) ∙ ap (among c.loop-name.seen) (sym c.as_str.ensures) ∙ sym c.in_ok-push.ensures.found ∙ c.if-branch.true in
    ap (λ y. Some (Twice y)) c.in_ok-copy.ensures
    ∙ first_here (λ before y. refuse_if (among before y) (Twice y)) xs i x.now (twice_among xs) here is (Twice x.now) (refuses _ (Twice x.now) found) c.loop-name.invariant.same

pub loop-name-preserved : goal.loop-name-preserved
loop-name-preserved c =
    let names = c.args.names.now in
    let xs = pointed names in
    let i = c.loop-name.name-index in
    let x = c.name-item.result in
    let here = within_map (λ (y : Bor (List ℕ)). y.now) names i (omega arith) in
    let is = seen_as (λ (y : Bor (List ℕ)). y.now) names i x c.name-item.is in
    let none = ap (λ l. among l x.now) (sym c.loop-name.invariant.seen) ∙ ap (among c.loop-name.seen) (sym c.as_str.ensures) ∙ sym c.in_ok-push.ensures.found ∙ c.if-branch.false in
    record {
      seen = c.in_ok-push.ensures.pushed ∙ ap (λ y. c.loop-name.seen ++ y ∷ []) c.as_str.ensures ∙ ap (λ l. l ++ x.now ∷ []) c.loop-name.invariant.seen ∙ next_name xs i x.now here is;
      same = first_next (λ before y. refuse_if (among before y) (Twice y)) xs i x.now (twice_among xs) here is (passes _ (Twice x.now) none) c.loop-name.invariant.same;
    }
