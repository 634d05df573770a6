-- A walk up to an opening, and behind it.
use Rattle.std.proofs.Common.{◌≡◌, ◌<◌, ◌≤◌, ℕ, zero, suc, ◌+◌, ◌-◌, List, [], ◌∷◌, ◌++◌, take, drop, true, Some, refl, sym, ap, ◌∙◌, subst, arith, take-append-drop}
use Rattle.std.specs.Prelude.{slice_get}
use Rattle.std.specs.Option.{option_and_then}
use Rattle.std.specs.List.{AllByRecursion}
use Rattle.anb_lemmas.proofs.Each.{each_from_got, each_in_parts}
use Rattle.anb_base.specs.declared.TheConstants.{ARRIVAL, WIDE}
use Rattle.anb_term.specs.Tree.{Tree}
use Rattle.anb_term.specs.FreeAlgebra.{terms}
use Rattle.anb_term.proofs.Steps.{bound}
use Rattle.anb_plays.specs.Codes.{Act}
use Rattle.anb_code.specs.CodeValue.{CodeValue}
use Rattle.anb_code.specs.Meaning.{acts_of}
use Rattle.anb_code.specs.Verified.{IsVerifiedCode}
use Rattle.anb_machine.specs.Works.{HasFewFields}
use Rattle.anb_machine.proofs.Verified.{few_at}
use Rattle.anb_openings.specs.Steps.{Progress, after, after_all, StopsAt}
use Rattle.anb_openings.specs.Openings.{HasOpening}
use Rattle.anb_openings.specs.Walks.{AreReady, WritesAsMany}
use Rattle.anb_openings.proofs.Readying.{ready_on}

-- ---- formats of instructions

few_parts : (code : CodeValue) (k : ℕ) → IsVerifiedCode ARRIVAL WIDE code → AllByRecursion (HasFewFields code.formats) (take k code.instrs) × AllByRecursion (HasFewFields code.formats) (drop k code.instrs)
few_parts code k verified =
    let all = each_from_got (HasFewFields code.formats) code.instrs (few_at code.formats verified.formats code.instrs verified.instrs) in
    each_in_parts (HasFewFields code.formats) (take k code.instrs) (drop k code.instrs) (subst (AllByRecursion (HasFewFields code.formats)) (sym (take-append-drop k code.instrs)) all)

pub few_before : (code : CodeValue) (k : ℕ) → IsVerifiedCode ARRIVAL WIDE code → AllByRecursion (HasFewFields code.formats) (take k code.instrs)
few_before code k verified = (few_parts code k verified).0

pub few_behind : (code : CodeValue) (k : ℕ) → IsVerifiedCode ARRIVAL WIDE code → AllByRecursion (HasFewFields code.formats) (drop k code.instrs)
few_behind code k verified = (few_parts code k verified).1

-- ---- registers that were written

-- with the parts in the registers that an opening writes
pub ready_behind_opening : (code : CodeValue) (instruction n many : ℕ) → HasOpening code instruction → WritesAsMany code instruction many → AreReady (drop (instruction - 1) (acts_of code)) n → AreReady (drop instruction (acts_of code)) (n + many)
ready_behind_opening code instruction n many (o, ks, r, is) writes h =
    let place : instruction - 1 ≡ is.at = omega (arith, is.counts) in
    let on = ready_on (λ o. true) (acts_of code) is.at n many o ks r is.here (writes o ks r is) (subst (λ k. AreReady (drop k (acts_of code)) n) place h) in
    subst (λ k. AreReady (drop k (acts_of code)) (n + many)) (sym is.counts) on

-- ---- acts in two parts

module _ (made : List Tree) where
  -- where two parts go on, both do
  pub all_in_parts : (xs ys : List Act) (s t : Progress Tree) → after_all terms made (xs ++ ys) s ≡ Some t → (u : Progress Tree) × (after_all terms made xs s ≡ Some u) × (after_all terms made ys u ≡ Some t)
  all_in_parts [] ys s t e = (s, refl, e)
  all_in_parts (act ∷ xs) ys s t e =
      let b = bound (after_all terms made (xs ++ ys)) (after terms made act s) t e in
      let r = all_in_parts xs ys b.0 t b.2 in
      (r.0, ap (option_and_then (after_all terms made xs)) b.1 ∙ r.1, r.2)

  -- and where both do, the two together
  pub all_of_parts : (xs ys : List Act) (s u t : Progress Tree) → after_all terms made xs s ≡ Some u → after_all terms made ys u ≡ Some t → after_all terms made (xs ++ ys) s ≡ Some t
  all_of_parts [] ys s u t e f = let same : s ≡ u = cc in ap (after_all terms made ys) same ∙ f
  all_of_parts (act ∷ xs) ys s u t e f =
      let b = bound (after_all terms made xs) (after terms made act s) u e in
      ap (option_and_then (after_all terms made (xs ++ ys))) b.1 ∙ all_of_parts xs ys b.0 u t b.2 f

  -- ---- a stop among the first acts is one of the whole

  taken_twice : {X : Type 0} (xs : List X) (i k : ℕ) → i ≤ k → take i (take k xs) ≡ take i xs
  taken_twice [] zero zero h = refl
  taken_twice [] zero (suc k) h = refl
  taken_twice [] (suc i) zero h = refl
  taken_twice [] (suc i) (suc k) h = refl
  taken_twice (x ∷ xs) zero k h = refl
  taken_twice (x ∷ xs) (suc i) zero h = absurd (omega (arith, h))
  taken_twice (x ∷ xs) (suc i) (suc k) h = ap (λ l. x ∷ l) (taken_twice xs i k (omega (arith, h)))

  got_before : {X : Type 0} (xs : List X) (i k : ℕ) (x : X) → slice_get (take k xs) i ≡ Some x → (i < k) × (slice_get xs i ≡ Some x)
  got_before [] i zero x e = cc
  got_before [] i (suc k) x e = cc
  got_before (y ∷ xs) i zero x e = cc
  got_before (y ∷ xs) zero (suc k) x e = (omega arith, e)
  got_before (y ∷ xs) (suc i) (suc k) x e = let r = got_before xs i k x e in (omega (arith, r.0), r.1)

  pub stops_before : (acts : List Act) (k : ℕ) (s : Progress Tree) (place : ℕ) → StopsAt terms made (take k acts) s place → (place < k) × StopsAt terms made acts s place
  stops_before acts k s place stop =
      let g = got_before acts place k stop.act stop.here in (
        g.0,
        record {
          act = stop.act;
          here = g.1;
          reached = stop.reached;
          comes = subst (λ l. after_all terms made l s ≡ Some stop.reached) (taken_twice acts place k (omega (arith, g.0))) stop.comes;
          stuck = stop.stuck;
        },
      )
