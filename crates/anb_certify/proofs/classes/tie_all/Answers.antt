use Rattle.std.proofs.Common.{◌≡◌, refl, ◌<◌, ◌≤◌, [], ◌∷◌, ℕ, List, length, get_or, sym, ◌∙◌, subst, arith, inr, ⊎_elim}
use Rattle.anb_lemmas.proofs.Each.{each_got}
use Rattle.anb_certify.specs.declared.links.Pair.{Pair}
use Rattle.anb_certify.specs.Falling.{weight, AreApart, AreFlat}
use Rattle.anb_certify.specs.Links.{IsTiedLink}
use Rattle.anb_certify.proofs.Grouping.{get_here}
use Rattle.anb_certify.proofs.classes.tie_all.Goals as goal

pub loop-link-preserved : goal.loop-link-preserved
loop-link-preserved c =
    let d : Pair = record { 0 = 0; 1 = 0 } in
    let old = c.args.names.now in
    let links = c.args.links.now in
    let names = c.loop-link.names in
    let i = c.loop-link.link-index in
    let inv = c.loop-link.invariant in
    let link = get_or links i d in
    let here = get_here links i d c.loop-link-test.true in
    record {
      long = c.tie.ensures.long ∙ inv.long;
      low = c.tie.ensures.low;
      falls = ⊎_elim
          (λ s.
          let apart = each_got (λ l. AreApart old l.0 l.1) links i link c.requires.apart here in
          let A : List ℕ → Type 0 = λ l. AreApart l link.0 link.1 in
          let f = c.tie.ensures.falls (subst AreFlat (sym s.1) c.requires.flat) (subst A (sym s.1) apart) in
          inr (subst (λ l. weight c.tie.new.names < weight l) s.1 f))
          (λ f. inr (omega (arith, f, c.tie.ensures.less))) inv.falls;
      named = λ did h t. c.tie.ensures.named did (inv.named did h t) (each_got (IsTiedLink (length old) did) links i link t here).2;
    }

pub returns-clause-falls : goal.returns-clause-falls
returns-clause-falls c =
    ⊎_elim (λ s. absurd (none c.args.links.now (omega (arith, s.0, c.loop-link.auto.link-index-end, c.loop-link-test.false)) c.requires.some))
    (λ f. omega (arith, f, c.flatten.ensures.less)) c.loop-link.invariant.falls where
      none : (links : List Pair) → length links ≤ 0 → (links ≡ [] → ⊥) → ⊥
      none [] l h = h refl
      none (x ∷ links) l h = absurd (omega (arith, l))
