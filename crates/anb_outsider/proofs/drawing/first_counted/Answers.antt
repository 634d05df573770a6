-- One more name that isn't counted.
use Rattle.std.proofs.Common.{◌≡◌, ℕ, zero, suc, ◌+◌, ◌<◌, List, [], ◌∷◌, take, get_or, Some, sym, ap, ◌∙◌, subst, ⊎_elim, arith}
use Rattle.std.specs.Prelude.{slice_get}
use Rattle.std.proofs.lemmas.List.{take_all}
use Rattle.anb_lemmas.proofs.Lists.{take_got}
use Rattle.anb_term.proofs.Lists.{slice_get-last}
use Rattle.anb_unify.proofs.Steps.{got}
use Rattle.anb_outsider.specs.Searching.{IsUncounted}
use Rattle.anb_outsider.proofs.drawing.first_counted.Goals as goal

before : (xs : List ℕ) (i h n : ℕ) → h < i → slice_get xs h ≡ Some n → slice_get (take i xs) h ≡ Some n
before xs zero h n l e = absurd (omega (arith, l))
before [] (suc i) h n l e = e
before (x ∷ xs) (suc i) zero n l e = e
before (x ∷ xs) (suc i) (suc h) n l e = before xs i h n (omega (arith, l)) e

pub returns-then-is_counted-clause-some : goal.returns-then-is_counted-clause-some
returns-then-is_counted-clause-some c =
    let names = c.args.names.now in
    let i = c.loop-name.name-index in
    let k = c.is_counted.ensures.counted c.if-is_counted.true in
    record {
      draw = i;
      is = got names i 0 c.loop-name-test.true;
      count = k.0;
      counted = k.1;
      some = k.2;
      first = λ h n l e. c.loop-name.invariant h n (before names i h n l e);
    }

pub loop-name-preserved : goal.loop-name-preserved
loop-name-preserved c =
    let names = c.args.names.now in
    let i = c.loop-name.name-index in
    let x = get_or names i 0 in
    let un = c.is_counted.ensures.uncounted c.if-is_counted.false in
    λ j n e.
    ⊎_elim (λ h. c.loop-name.invariant j n h) (λ (a, b). subst (IsUncounted c.args.counts.now) b un)
    (slice_get-last (take i names) x n j (ap (λ (l : List ℕ). slice_get l j) (sym (take_got names i x (got names i 0 c.loop-name-test.true))) ∙ e))

pub returns-clause-none : goal.returns-clause-none
returns-clause-none c =
    λ j n e. c.loop-name.invariant j n (ap (λ (l : List ℕ). slice_get l j) (take_all c.loop-name.name-index c.args.names.now c.loop-name-test.false) ∙ e)
