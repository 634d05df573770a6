use Rattle.std.proofs.Common.{◌≡◌, ◌++◌, ◌∷◌, [], ◌∙◌, ℕ, List, length, ap, sym, subst, append_assoc}
use Rattle.anb_suite.specs.declared.cases.Case.{Case}
use Rattle.anb_suite.specs.declared.reading.Reading.TheVariants.{Both}
use Rattle.anb_attempts.specs.Attempts.{IsPartOfCase, PartValue}
use Rattle.anb_attempts.specs.Inner.{AreWithin}
use Rattle.anb_attempts.specs.Parts.{part_value}
use Rattle.anb_attempts.proofs.Adding.{comes_of_more, comes_of_one}
use Rattle.anb_attempts.proofs.checking.part_of_cases.Goals as goal

pub loop-inner-init : goal.loop-inner-init
loop-inner-init c =
    let case = c.args.case in
    let within = c.in_ok-within.within.items in
    let Are : ℕ → List Case → Type 0 = λ spare xs. AreWithin c.args.p.now spare case xs in
    let are = subst (λ (spare : ℕ). Are spare within) c.in_ok-spare.ensures c.in_ok-within.ensures in
    let rest : c.into_iter-inner-iterator.result.rest.items ≡ within = c.into_iter-inner-iterator.ensures.into_iter_gives.0 in (
      [],
      subst (Are (length c.args.p.now.atoms)) (sym rest) are,
      comes_of_one (IsPartOfCase c.args.p.now c.args.role Both c.args.changes.now) c.args.scene case (part_value c.in_ok-part.part) c.in_ok-part.ensures,
    )

pub loop-inner-preserved : goal.loop-inner-preserved
loop-inner-preserved c =
    let case = c.args.case in
    let inv = c.loop-inner.invariant in
    let inner = c.in-Some.inner in
    let more = part_value c.in_ok-more.more in
    let n = length c.args.p.now.atoms in
    let Is : ℕ → Case → PartValue → Type 0 = IsPartOfCase c.args.p.now c.args.role Both c.args.changes.now in
    let here = subst (λ (k : ℕ). Is k inner more) c.scene_behind-next.ensures c.in_ok-more.ensures in (
      inv.0 ++ inner ∷ [],
      subst (AreWithin c.args.p.now n case) (ap (λ l. inv.0 ++ l) c.in-Some.ensures.steps.0 ∙ sym (append_assoc inv.0 (inner ∷ []) c.next.new.self.rest.items)) inv.1,
      comes_of_more Is c.args.scene (case ∷ inv.0) inner (part_value c.loop-inner.part) more (part_value c.join.new.part) inv.2 here c.in_ok-join.ensures,
    )
