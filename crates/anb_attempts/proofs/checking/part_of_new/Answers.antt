use Rattle.std.proofs.Common.{◌≡◌, List, map, true, false, sym, ap, ◌∙◌}
use Rattle.anb_term.specs.View.{tree_of}
use Rattle.anb_term.specs.declared.term.Term.{Term}
use Rattle.anb_attempts.specs.declared.attempts.Scene.{Scene}
use Rattle.anb_attempts.specs.declared.parts.Part.{Part}
use Rattle.anb_attempts.specs.Attempts.{IsPartOfNew, is_heard}
use Rattle.anb_attempts.specs.Parts.{part_value}
use Rattle.anb_attempts.proofs.Turns.{if_one}
use Rattle.anb_attempts.proofs.checking.part_of_new.Goals as goal

pub returns-then-is_heard : goal.returns-then-is_heard
returns-then-is_heard c =
    let heard : is_heard (map tree_of c.args.case.arrivals.items) c.args.before.now.scenes.items ≡ true =
    ap (λ (l : List Term). is_heard (map tree_of l) c.args.before.now.scenes.items) (sym c.deref-2.ensures.value) ∙ ap (λ (l : List Scene). is_heard (map tree_of c.deref-2.result.now) l) (sym c.deref.ensures.value) ∙ sym c.is_heard.ensures ∙ c.if-is_heard.true in
    record { tried = λ e. c.nothing.ensures; new = λ e. absurd (cc) }

pub returns : goal.returns
returns c =
    let new : is_heard (map tree_of c.args.case.arrivals.items) c.args.before.now.scenes.items ≡ false =
    ap (λ (l : List Term). is_heard (map tree_of l) c.args.before.now.scenes.items) (sym c.deref-2.ensures.value) ∙ ap (λ (l : List Scene). is_heard (map tree_of c.deref-2.result.now) l) (sym c.deref.ensures.value) ∙ sym c.is_heard.ensures ∙ c.if-is_heard.false in
    if_one c.part_of_case.result _ (λ (part : Part). IsPartOfNew c.args.p.now c.args.role c.args.reading (part_value c.args.before.now) c.args.scene c.args.case (part_value part)) c.part_of_case.ensures
    (λ part h. record { tried = λ e. absurd (cc); new = λ e. h })
