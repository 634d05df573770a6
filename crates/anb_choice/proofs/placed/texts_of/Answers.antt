use Rattle.std.proofs.Common.{◌≤◌, ℕ, List, length, subst, sym}
use Rattle.std.specs.List.{AllByRecursion}
use Rattle.anb_lemmas.proofs.Each.{each_and_last, each_at}
use Rattle.anb_choice.specs.Order.{stem_end}
use Rattle.anb_choice.specs.Standing.{IsSpanOf}
use Rattle.anb_choice.proofs.ArmTexts.{next_text}
use Rattle.anb_choice.proofs.placed.texts_of.Goals as goal

pub in_place-requires : goal.in_place-requires
in_place-requires c =
    let x = c.args.text.now in
    rw c.stem_end-stem_end.ensures
    (each_at (IsSpanOf x (stem_end c.args.marks.now)) c.args.spans.now c.loop-i.i _ c.requires.spans c.loop-i-test.true)

pub loop-i-preserved : goal.loop-i-preserved
loop-i-preserved c =
    let x = c.args.text.now in
    let t : List ℕ = c.in_ok-placed.placed in
    let before = c.loop-i.texts.items in
    record {
      are = next_text x c.args.marks.now c.args.spans.now c.loop-i.i _ c.loop-i-test.true before c.push.new.self.items t c.stem_end-stem_end.result
          c.loop-i.invariant.are c.in_ok-push.ensures.items c.stem_end-stem_end.ensures c.in_ok-placed.ensures.text;
      short = subst (AllByRecursion (λ (u : List ℕ). length u ≤ length x)) (sym c.in_ok-push.ensures.items)
          (each_and_last (λ (u : List ℕ). length u ≤ length x) before t c.loop-i.invariant.short c.in_ok-placed.ensures.short);
    }
