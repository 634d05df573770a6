use Rattle.std.proofs.Common.{◌++◌, ◌∷◌, [], ◌∙◌, map, ap, sym, subst, append_assoc}
use Rattle.std.specs.List.{AllZip}
use Rattle.anb_lemmas.proofs.Each.{zip_and_last}
use Rattle.anb_suite.specs.declared.cases.Case.{Case}
use Rattle.anb_attempts.specs.Inner.{InnerValue, IsWithin}
use Rattle.anb_attempts.specs.Parts.{inner_value}
use Rattle.anb_attempts.proofs.inner.cases_of_parts.Goals as goal

pub loop-inner-preserved : goal.loop-inner-preserved
loop-inner-preserved c =
    let inv = c.loop-inner.invariant in
    let here = inner_value c.in-Some.inner in
    let left = map inner_value c.next.new.self.rest.items in
    let R : InnerValue → Case → Type 0 = IsWithin c.args.spare c.args.case.now in
    let further = zip_and_last R inv.0 c.loop-inner.cases.items here c.in_ok-within.within inv.2 c.in_ok-within.ensures in (
      inv.0 ++ here ∷ [],
      inv.1 ∙ ap (λ l. inv.0 ++ map inner_value l) c.in-Some.ensures.steps.0 ∙ sym (append_assoc inv.0 (here ∷ []) left),
      subst (AllZip R (inv.0 ++ here ∷ [])) (sym c.in_ok-push.ensures.items) further,
    )
