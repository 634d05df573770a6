-- A program that lacks a check that is tried comes to a report that something failed.
use Rattle.std.proofs.Common.{◌≡◌, ℕ, true, false, Some, refl, sym, ap, ◌∙◌, subst, arith}
use Rattle.std.specs.List.{AllByRecursion}
use Rattle.anb_lemmas.proofs.Bools.{never_both}
use Rattle.anb_lemmas.proofs.Each.{each_got, each_in_parts}
use Rattle.anb_lemmas.proofs.Lists.{got_within}
use Rattle.anb_term.proofs.Lists.{slice_get-there}
use Rattle.anb_protocol.specs.Laws.{HoldsOf}
use Rattle.anb_protocol.specs.Plans.{messages, plan_of, term_in}
use Rattle.anb_protocol.specs.Protocols.{ProtocolValue}
use Rattle.anb_protocol.specs.Texts.{IsTermOf, known_terms}
use Rattle.anb_attempts.specs.Attempts.{IsSceneOf}
use Rattle.anb_attempts.specs.declared.attempts.Scene.{Scene}
use Rattle.anb_tries.specs.Laws.{Attempt, IsAttempt}
use Rattle.anb_verdict.specs.Verdicts.{is_good}
use Rattle.anb_dues.specs.Laws.{IsTriedOf, ValuesAreOfNames}
use Rattle.anb_mutants.specs.Laws.{IsOfCheck, MutantsAreSeen as AttemptsSeeMutants, MutantsAreTold as AttemptsTellMutants}
use Rattle.anb_probed.specs.Laws.{CasesAreAttempts, IsCase, MutantsAreSeen, MutantsAreTold, attempt_of, cases_of}
use Rattle.anb_probed.proofs.Given.{are_given}
use Rattle.anb_probed.proofs.Played.{Known, is_attempt, of_suite}
use Rattle.anb_probed.proofs.Reported.{IsGood, done_all_good}

pub mutants_fail : (p : ProtocolValue) → HoldsOf p → ((role : ℕ) → AllByRecursion (λ e. IsTermOf p (term_in e)) (plan_of p role)) → ValuesAreOfNames p → AttemptsTellMutants p → MutantsAreTold p
mutants_fail p holds plans names law ends old new i all check tried drops dropped is_mutant over =
    let of_p : Known p = record { knows = (each_in_parts (IsTermOf p) (known_terms p) (messages p.actions) holds.terms).0; plans = plans; names = names } in
    let at_q : Known i.q.protocol = subst Known (sym i.protocol) of_p in
    let are = are_given i.files i.asked.narration i.asked.role i.asked.values i.host_seed i.q i.asks in
    let ended = slice_get-there ends tried.place (let within = got_within _ tried.place tried.attempt tried.here in omega (arith, within, all)) in
    let t = (i.played.each tried.place tried.attempt ended.0 tried.here ended.1).1 in
    let a : Attempt = attempt_of t in
    let at : IsAttempt a = is_attempt i.q at_q are i.asked.trying i.suit tried.attempt tried.place tried.here _ _ _ _ ended.0 _ t in
    let of : IsTriedOf i.q.protocol a = of_suite i.q at_q are i.asked.trying i.suit tried.attempt tried.place tried.here _ _ _ _ ended.0 _ t in
    let case : IsCase i a = record { place = tried.place; attempt = tried.attempt; here = tried.here; end = ended.0; ended = ended.1; is = refl } in
    let mutant = is_mutant a case refl in
    let both : Some tried.scene ≡ Some t.scene = sym tried.scene_is ∙ t.at in
    let same : tried.scene ≡ t.scene = cc in
    let of_check : IsOfCheck i.q.protocol a of check = record {
      at = record { case = tried.case; is_case = tried.is_case; scene = subst (IsSceneOf _ tried.case) same tried.is };
      event = tried.event;
      due = ap (λ (s : Scene). s.due) (sym same) ∙ tried.due;
    } in
    let bad : is_good a.verdict ≡ false = subst AttemptsTellMutants (sym i.protocol) law a at of mutant.0 check of_check drops dropped mutant.1 in
    let good : is_good a.verdict ≡ true = each_got IsGood ends tried.place ended.0 (done_all_good ends over) ended.1 in
    never_both (is_good a.verdict) good bad

-- so does one whose sides differ in a case, where no stop is known
pub mutants_seen : (p : ProtocolValue) → CasesAreAttempts p → AttemptsSeeMutants p → MutantsAreSeen p
mutants_seen p attempts law ends old new i all place check within drops dropped apart over =
    let here = slice_get-there (cases_of i) place within in
    let ended = slice_get-there ends place (omega (arith, within, all)) in
    let t = (i.played.each place here.0 ended.0 here.1 ended.1).1 in
    let a : Attempt = attempt_of t in
    let case : IsCase i a = record { place = place; attempt = here.0; here = here.1; end = ended.0; ended = ended.1; is = refl } in
    let is = attempts ends old new i a case in
    let got = apart a case refl is.0 is.1 in
    let bad : is_good a.verdict ≡ false = law a is.0 is.1 got.0 check drops dropped got.1.0 got.1.1 in
    let good : is_good a.verdict ≡ true = each_got IsGood ends place ended.0 (done_all_good ends over) ended.1 in
    never_both (is_good a.verdict) good bad
