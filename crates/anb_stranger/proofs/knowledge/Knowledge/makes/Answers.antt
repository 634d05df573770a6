-- Where it doesn't compose there is no recipe.
use Rattle.std.proofs.Common.{◌≡◌, true, false, Option, Some, None, IfOk, sym, subst}
use Rattle.std.specs.Prelude.{MatchOption}
use Rattle.anb_term.specs.Agree.{HasRecipe}
use Rattle.anb_term.specs.View.{tree_of}
use Rattle.anb_stranger.proofs.knowledge.Knowledge.makes.Goals as goal
use Rattle.anb_stranger.proofs.knowledge.Knowledge.makes.Goals.{in-Some, in-None}

never : {X : Type 0} → true ≡ false → X
never e = cc

if_none : {X : Type 0} (o : Option X) (P : Type 0) → MatchOption o P (λ m. Unit {0}) → o ≡ None → P
if_none None P h e = h
if_none (Some x) P h e = cc

pub returns-clause-no : goal.returns-clause-no
returns-clause-no c has = elim c.match-branch-2.branch [
  | in-Some w ↦ subst (λ r. IfOk r (λ makes. makes ≡ false → HasRecipe has c.args.self.now (tree_of c.args.t.now) → ⊥)) (sym w.result-is) (λ e h. never e)
  | in-None w ↦ subst (λ r. IfOk r (λ makes. makes ≡ false → HasRecipe has c.args.self.now (tree_of c.args.t.now) → ⊥)) (sym w.result-is)
      (λ e h. if_none _ _ (c.in_ok-compose.ensures.refused has) w.in-None.is (subst (λ l. HasRecipe has l (tree_of c.args.t.now)) (sym c.self.view_is) h))
]
