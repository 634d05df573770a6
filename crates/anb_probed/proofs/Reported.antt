-- What the status of a report says of its cases.
use Rattle.std.proofs.Common.{◌≡◌, ℕ, suc, ◌+◌, List, [], ◌∷◌, length, Bool, true, false, cond, Some, refl, ap, ◌∙◌, arith}
use Rattle.std.specs.Prelude.{count_by, not, slice_get, ◌==◌}
use Rattle.std.specs.List.{AllByRecursion}
use Rattle.std.proofs.lemmas.Bool.{eqb-true}
use Rattle.std.proofs.lemmas.List.Sums.{sum_by-cons}
use Rattle.anb_lemmas.proofs.Each.{each_got}
use Rattle.anb_lemmas.proofs.Lists.{got_within}
use Rattle.anb_term.proofs.Lists.{slice_get-there}
use Rattle.anb_protocol.specs.Protocols.{ProtocolValue}
use Rattle.anb_status.specs.declared.status.Status.{Status}
use Rattle.anb_status.specs.declared.status.Status.TheVariants.{CasesNotOk, Done}
use Rattle.anb_tries.specs.Laws.{Attempt}
use Rattle.anb_verdict.specs.Verdicts.{is_good}
use Rattle.anb_verdict.specs.declared.verdict.Verdict.{Verdict}
use Rattle.anb_probe_commands.specs.Plays.{CaseEnd, verdicts_of}
use Rattle.anb_probe_commands.specs.Reports.{is_failed, status_for}
use Rattle.anb_probed.specs.Laws.{DoneIsAsTheRole, IsCase, LaxProgramsAreTold, RightProgramsAreDone, RightProgramsPass, attempt_of, cases_of}

-- nothing is said against the program
abbrev pub IsGood : CaseEnd → Type 0
IsGood end = is_good end.verdict ≡ true

-- how many failed
abbrev failed : List CaseEnd → ℕ
failed ends = count_by is_failed (verdicts_of ends)

-- what a case adds
abbrev counted : (good : Bool) → ℕ
counted good = cond (not good) 1 0

one_more : (end : CaseEnd) (ends : List CaseEnd) → failed (end ∷ ends) ≡ counted (is_good end.verdict) + failed ends
one_more end ends = sum_by-cons (λ (v : Verdict). counted (is_good v)) end.verdict (verdicts_of ends)

none_failed : (ends : List CaseEnd) → AllByRecursion IsGood ends → failed ends ≡ 0
none_failed [] all = refl
none_failed (end ∷ ends) all =
    let here : counted (is_good end.verdict) ≡ 0 = ap counted all.0 in
    omega (arith, one_more end ends, here, none_failed ends all.1)

all_good : (ends : List CaseEnd) → failed ends ≡ 0 → AllByRecursion IsGood ends
all_good [] none = tt
all_good (end ∷ ends) none = by (is_good end.verdict) refl (all_good ends) where
  by : (b : Bool) → is_good end.verdict ≡ b → (failed ends ≡ 0 → AllByRecursion IsGood ends) → IsGood end × AllByRecursion IsGood ends
  by true e later =
      let here : counted (is_good end.verdict) ≡ 0 = ap counted e in
      let rest : failed ends ≡ 0 = omega (arith, one_more end ends, here, none) in
      (e, later rest)
  by false e later =
      let here : counted (is_good end.verdict) ≡ 1 = ap counted e in
      absurd (omega (arith, one_more end ends, here, none))

abbrev status_by : (failed cases : ℕ) → (is_none : Bool) → Status
status_by failed cases is_none = cond is_none Done (CasesNotOk failed cases)

none_if_done : (n cases : ℕ) (b : Bool) → (n == 0) ≡ b → status_by n cases b ≡ Done → n ≡ 0
none_if_done n cases true e is = eqb-true n 0 e
none_if_done n cases false e is = absurd (cc)

pub done_all_good : (ends : List CaseEnd) → status_for (verdicts_of ends) ≡ Done → AllByRecursion IsGood ends
done_all_good ends is = all_good ends (none_if_done (failed ends) (length (verdicts_of ends)) (failed ends == 0) refl is)

good_is_done : (ends : List CaseEnd) → AllByRecursion IsGood ends → status_for (verdicts_of ends) ≡ Done
good_is_done ends all = ap (λ n. status_by n (length (verdicts_of ends)) (n == 0)) (none_failed ends all)

each_at : (P : CaseEnd → Type 0) (ends : List CaseEnd) → ((i : ℕ) (end : CaseEnd) → slice_get ends i ≡ Some end → P end) → AllByRecursion P ends
each_at P [] at = tt
each_at P (end ∷ ends) at = (at 0 end refl, each_at P ends (λ i e is. at (suc i) e is))

pub done_as_role : (p : ProtocolValue) → LaxProgramsAreTold p → DoneIsAsTheRole p
done_as_role p law ends old new played is a case =
    let good = each_got IsGood ends case.place case.end (done_all_good ends is) case.ended in
    law ends old new played a case (ap (λ (x : Attempt). is_good x.verdict) case.is ∙ good)

pub right_done : (p : ProtocolValue) → RightProgramsPass p → RightProgramsAreDone p
right_done p law ends old new played all right =
    good_is_done ends
    (each_at IsGood ends (λ i end at.
    let there = slice_get-there (cases_of played) i (let within = got_within ends i end at in omega (arith, within, all)) in
    let a : Attempt = attempt_of (played.played.each i there.0 end there.1 at).1 in
    let case : IsCase played a = record { place = i; attempt = there.0; here = there.1; end = end; ended = at; is = refl } in
    law ends old new played a case (right a case)))
