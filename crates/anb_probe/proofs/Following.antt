-- The laws of cases: what holds of their runs in terms holds of the runs over values.
use Rattle.std.proofs.Common.{◌≡◌, ℕ, zero, suc, ◌+◌, ◌<◌, ◌≤◌, List, [], ◌∷◌, map, Bool, true, refl, sym, ap, ◌∙◌, arith}
use Rattle.std.specs.Prelude.{slice_get, unwrap_or, ◌==◌}
use Rattle.std.proofs.lemmas.Bool.{eqb-true, eq-eqb}
use Rattle.anb_term.specs.declared.term.Op.{Op}
use Rattle.anb_term.specs.Tree.{leaf, trees_of, IsFormed, AreFormed}
use Rattle.anb_term.specs.Value.{Meaning}
use Rattle.anb_term.specs.FreeAlgebra.{terms_over}
use Rattle.anb_term.specs.Statements.{AgreeHolds}
use Rattle.anb_term.proofs.Lists.{slice_get-there}
use Rattle.anb_plays.specs.Plans.{Event, know, fresh, send, recv, known}
use Rattle.anb_plays.specs.Codes.{Act}
use Rattle.anb_plays.specs.Fits.{Follows, start}
use Rattle.anb_plays.specs.Honest.{honest, made, LabelsAreFormed}
use Rattle.anb_plays.specs.Statements.{HonestAgree}
use Rattle.anb_probe.specs.Cases.{IsOver, less_all, drawn, run_in_terms, CaseValue, IsCase}
use Rattle.anb_probe.specs.Laws.{AreValuesOf, run_over, LessGoesOn, StopsAt, StopsThere}
use Rattle.anb_probe.proofs.Dropping.{over_more, at_check}
use Rattle.anb_probe.proofs.Valued.{count_draws, draws_without, draws_made, over_values, compared_values}

known_formed : (has : Op → Bool) (plan : List Event) → LabelsAreFormed has plan → AreFormed has (trees_of (known plan))
known_formed has [] f = tt
known_formed has (know t ∷ es) f = (f.0, known_formed has es f.1)
known_formed has (fresh t ∷ es) f = known_formed has es f.1
known_formed has (send t ∷ es) f = known_formed has es f
known_formed has (recv t ∷ es) f = known_formed has es f.1

made_formed : (has : Op → Bool) (plan : List Event) → LabelsAreFormed has plan → (i : ℕ) → IsFormed has (unwrap_or (slice_get (made plan) i) (leaf 0))
made_formed has [] f i = tt
made_formed has (know t ∷ es) f i = made_formed has es f.1 i
made_formed has (fresh t ∷ es) f zero = f.0
made_formed has (fresh t ∷ es) f (suc i) = made_formed has es f.1 i
made_formed has (send t ∷ es) f i = made_formed has es f i
made_formed has (recv t ∷ es) f i = made_formed has es f.1 i

module _ {A : Type 0} (m : Meaning A) (agrees : HonestAgree m) (holds : AgreeHolds m) (names : ℕ) (plan : List Event) (code : List Act) (check : ℕ) (case : CaseValue) (atoms draw : ℕ → A)
    (is : IsCase m.has names plan code check case) (follows : Follows code plan) (formed : LabelsAreFormed m.has plan) (values : AreValuesOf m plan atoms draw) where
  draws_are : (acts : List Act) → count_draws acts ≡ count_draws code → (j : ℕ) → 0 ≤ j → j < 0 + count_draws acts → draw j ≡ honest m atoms (drawn plan j)
  draws_are acts same j l h =
      let x = slice_get-there (made plan) j (omega (arith, h, same, draws_made code plan (start plan) follows)) in
      values.drawn j x.0 x.1 ∙ ap (λ o. honest m atoms (unwrap_or o (leaf 0))) (sym x.1)

  over_less : (drops : ℕ → Bool) → drops check ≡ true → IsOver (run_over m atoms draw plan (less_all drops code) case.arrivals)
  over_less drops dropped =
      let more : IsOver (run_in_terms m.has plan (less_all drops code) case.arrivals) =
      over_more (terms_over m.has) (drawn plan) (λ n. n == check) drops code 0 (λ n l t. let s : n ≡ check = eqb-true n check t in ap drops s ∙ dropped) [] (known plan) 0 0 0 0 case.arrivals is.goes_on in
      over_values m agrees holds atoms draw values.values (drawn plan) (made_formed m.has plan formed) (less_all drops code) [] (known plan) 0 0 0 case.arrivals (known_formed m.has plan formed) is.formed.1.1
      (draws_are (less_all drops code) (draws_without drops 0 code)) more

  stops : StopsAt m atoms draw plan code check case
  stops =
      let of = honest m atoms in
      let found = compared_values m agrees holds atoms draw values.values (drawn plan) (made_formed m.has plan formed) check code [] (known plan) 0 0 case.arrivals case.sides (known_formed m.has plan formed) is.formed.1.1
      (draws_are code refl) is.finds in
      let told = at_check m draw check code 0 [] (map of (known plan)) 0 0 0 (map of case.arrivals) (record { one = of case.sides.one; other = of case.sides.other }) (over_less (λ n. n == check) (eq-eqb check check refl)) found in
      record { same = told.same; differ = told.differ }

pub less_goes_on : {A : Type 0} (m : Meaning A) → HonestAgree m → AgreeHolds m → LessGoesOn m
less_goes_on m agrees holds names plan code check case drops atoms draw is follows formed values dropped = over_less m agrees holds names plan code check case atoms draw is follows formed values drops dropped

pub stops_there : {A : Type 0} (m : Meaning A) → HonestAgree m → AgreeHolds m → StopsThere m
stops_there m agrees holds names plan code check case atoms draw is follows formed values = stops m agrees holds names plan code check case atoms draw is follows formed values
