use Rattle.std.proofs.Common.{◌+◌, ◌∙◌, sym, ap, subst, refl}
use Rattle.std.specs.Prelude.{option_map}
use Rattle.anb_honest.specs.Inside.{GoesOn, turn_value}
use Rattle.anb_honest.proofs.Turning.{passed_over}
use Rattle.anb_honest.proofs.stage.Stage.turn.Goals as goal

pub returns-in-None : goal.returns-in-None
returns-in-None c = λ k s st.
    let old = c.args.self.now in
    let new = record old { passed = old.passed + 1 } in
    subst (λ o. GoesOn k s o new) (ap (option_map (turn_value c.args.role)) (sym c.in-None.is) ∙ c.due.ensures k s st) (passed_over k s old new st refl refl refl refl)
