use Rattle.std.proofs.Common.{◌<◌, ◌≤◌, length, sym, subst, arith, rules}
use Rattle.anb_base.specs.declared.TheConstants.{SMALL_FILE}
use Rattle.anb_syntax.specs.Canon.{canon}
use Rattle.anb_syntax.specs.Grammar.{IsSpellable}
use Rattle.anb_syntax.specs.Sizes.{size}
use Rattle.anb_gen.specs.Drill.{drill_narration}
use Rattle.anb_gen.proofs.Spellable.{spellable}
use Rattle.anb_gen.proofs.Small.{small}
use Rattle.anb_gen.proofs.Short.{short}
use Rattle.anb_gen.proofs.drill.generate.Goals as goal

pub returns-clause-drill : goal.returns-clause-drill
unfolding drill_narration
returns-clause-drill c = search rules

pub returns-clause-spellable : goal.returns-clause-spellable
returns-clause-spellable c = subst IsSpellable (sym (returns-clause-drill c)) (spellable c.args.n (omega arith))

pub returns-clause-size : goal.returns-clause-size
returns-clause-size c = subst (λ n. size n ≤ 4096) (sym (returns-clause-drill c)) (small c.args.n (omega arith))

pub returns-clause-short : goal.returns-clause-short
returns-clause-short c = subst (λ n. length (canon n) < SMALL_FILE) (sym (returns-clause-drill c)) (omega (arith, short c.args.n (omega arith)))
