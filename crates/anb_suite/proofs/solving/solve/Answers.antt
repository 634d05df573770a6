-- The terms of the registers are a solution of the equations.
use Rattle.std.proofs.Common.{◌≡◌, ◌+◌, ℕ, List, ◌++◌, ◌∷◌, length, map, sym, ap, ◌∙◌, subst, arith}
use Rattle.std.specs.List.{AllByRecursion}
use Rattle.std.proofs.lemmas.List.{length-map}
use Rattle.anb_base.specs.declared.TheConstants.{ARRIVAL, WIDE}
use Rattle.anb_term.specs.View.{tree_of}
use Rattle.anb_algebra.specs.ByteMeaning.{has_operator}
use Rattle.anb_plays.specs.Plans.{Event, known}
use Rattle.anb_plays.specs.Exec.{HasTakes}
use Rattle.anb_code.specs.CodeValue.{CodeValue}
use Rattle.anb_code.specs.Meaning.{acts_of}
use Rattle.anb_code.specs.Taking.{take_texts}
use Rattle.anb_compile.specs.Fitting.{FitsRole}
use Rattle.anb_protocol.specs.Protocols.{ProtocolValue}
use Rattle.anb_protocol.specs.Plans.{PlanEvent, plan_of, term_in}
use Rattle.anb_protocol.specs.Plays.{event_of, events_of}
use Rattle.anb_protocol.specs.Texts.{IsTermOf}
use Rattle.anb_compile.proofs.Valuing.{is_operator}
use Rattle.anb_unify.specs.Equations.{EquationValue, HasSolution, IsMostGeneral, AreOfVariables, AreVariables, atoms_of}
use Rattle.anb_unify.specs.Views.{equation_value}
use Rattle.anb_distinguish.specs.Finding.{less_equations, received_in}
use Rattle.anb_suite.specs.declared.walking.Walk.{Walk}
use Rattle.anb_suite.specs.Walks.{events_in, gone_by, used_by, IsWalked}
use Rattle.anb_suite.proofs.Found.{many}
use Rattle.anb_suite.specs.Reading.{read_behind, read_by}
use Rattle.anb_suite.specs.declared.reading.Reading.{Reading}
use Rattle.anb_suite.specs.Sparing.{asked, IsSolvedAs}
use Rattle.anb_suite.proofs.Honest.{takes_are_known, reads_told, over_names, has_solution, of_registers, asked_within, is_honest, sides_one, side_named}
use Rattle.anb_suite.proofs.Replaced.{reads_so}
use Rattle.anb_suite.proofs.solving.solve.Goals as goal
use Rattle.anb_suite.proofs.solving.solve.Goals.{In_ok-patterns}

-- as many takes as what is known
taken : (p : ProtocolValue) (role : ℕ) (code : CodeValue) → FitsRole p role code → HasTakes (has_operator code.formats) (acts_of code) 0 (length (take_texts code.instrs)) → HasTakes (has_operator p.formats) (acts_of code) 0 (length (known (events_of p role)))
taken p role code fits ready =
    subst (λ f. HasTakes (has_operator f) (acts_of code) 0 (length (known (events_of p role)))) fits.formats (subst (λ n. HasTakes (has_operator code.formats) (acts_of code) 0 n) (takes_are_known p role code fits) ready)

plan_terms : (p : ProtocolValue) (role : ℕ) (plan : List PlanEvent) → AllByRecursion (λ e. IsTermOf p (term_in e)) plan → plan ≡ plan_of p role → AllByRecursion (λ e. IsTermOf p (term_in e)) (plan_of p role)
plan_terms p role plan all is = subst (λ (l : List PlanEvent). AllByRecursion (λ e. IsTermOf p (term_in e)) l) is all

-- what was walked over is the role's, as it is read
walked_is : (p : ProtocolValue) (role : ℕ) (code : CodeValue) (reading : Reading) (check a b gone used spare : ℕ) (plan : List PlanEvent) (events : List Event) (walk : Walk) → spare ≡ length p.atoms → plan ≡ plan_of p role → events ≡ map event_of plan
    → gone ≡ gone_by reading a b → used ≡ used_by reading a b
    → IsWalked (spare + 1) events (read_behind check gone used (acts_of code)) check walk → IsWalked (length p.atoms + 1) (events_of p role) (read_by reading check a b (acts_of code)) check walk
walked_is p role code reading check a b gone used spare plan events walk s e is g u w =
    let acts : read_behind check gone used (acts_of code) ≡ read_by reading check a b (acts_of code) =
    ap (λ k. read_behind check k used (acts_of code)) g ∙ ap (λ k. read_behind check (gone_by reading a b) k (acts_of code)) u ∙ reads_so reading check a b (acts_of code) in
    subst (λ l. IsWalked (length p.atoms + 1) (events_of p role) l check walk) acts
    (subst (λ k. IsWalked (k + 1) (events_of p role) (read_behind check gone used (acts_of code)) check walk) s (subst (λ l. IsWalked (spare + 1) l (read_behind check gone used (acts_of code)) check walk) (is ∙ ap (map event_of) e) w))

pub most_general-requires-clause-narrated : goal.most_general-requires-clause-narrated
most_general-requires-clause-narrated c =
    let p = c.args.p.now in
    let role = c.args.role in
    let code = c.args.code.now in
    let check = c.args.check in
    let fits = c.requires.fits in
    let e = c.in_ok-explanation in
    let ts = e.explanation.terms in
    let ready = c.verified_is_runnable.ensures ARRIVAL WIDE code c.formats.ensures.verified (has_operator code.formats) (is_operator code.formats) in
    let of_plan = plan_terms p role e.explanation.plan e.ensures.ours.plan e.ensures.plan in
    let r = c.args.reading in
    let a = c.compared-a.result.0 in
    let b = c.compared-a.result.1 in
    let w = walked_is p role code r check a b c.read_in_place-gone.result.0 c.read_in_place-gone.result.1 c.in_ok-spare.spare e.explanation.plan (events_in c.events-events.result.now) c.in_ok-walked.walked c.in_ok-spare.ensures.is e.ensures.plan (ap (map event_of) c.events-events.ensures)
    c.read_in_place-gone.ensures.gone c.read_in_place-gone.ensures.used c.in_ok-walked.ensures in
    let k = reads_told p role code r check a b ts fits (taken p role code fits ready) of_plan e.ensures.terms e.ensures.ours.terms c.compared-a.ensures in
    let acts = read_by r check a b (acts_of code) in
    let qs : map equation_value c.deref-3.result.now ≡ less_equations (length p.atoms) (events_of p role) acts check = ap (map equation_value) c.deref-3.ensures.value ∙ w.equations in
    let all = has_solution p role acts check a b ts k.taking k.can k.of_plan k.ours k.told k.is in
    subst (λ k. HasSolution (k + 1) (map tree_of c.terms-terms.result.now) (map equation_value c.deref-3.result.now)) (sym c.in_ok-spare.ensures.is)
    (subst (λ l. HasSolution (length p.atoms + 1) l (map equation_value c.deref-3.result.now)) (sym c.terms-terms.ensures) (subst (HasSolution (length p.atoms + 1) ts) (sym qs) all))

pub most_general-requires-clause-equations : goal.most_general-requires-clause-equations
most_general-requires-clause-equations c =
    let p = c.args.p.now in
    let role = c.args.role in
    let code = c.args.code.now in
    let check = c.args.check in
    let fits = c.requires.fits in
    let e = c.in_ok-explanation in
    let ts = e.explanation.terms in
    let ready = c.verified_is_runnable.ensures ARRIVAL WIDE code c.formats.ensures.verified (has_operator code.formats) (is_operator code.formats) in
    let of_plan = plan_terms p role e.explanation.plan e.ensures.ours.plan e.ensures.plan in
    let r = c.args.reading in
    let a = c.compared-a.result.0 in
    let b = c.compared-a.result.1 in
    let w = walked_is p role code r check a b c.read_in_place-gone.result.0 c.read_in_place-gone.result.1 c.in_ok-spare.spare e.explanation.plan (events_in c.events-events.result.now) c.in_ok-walked.walked c.in_ok-spare.ensures.is e.ensures.plan (ap (map event_of) c.events-events.ensures)
    c.read_in_place-gone.ensures.gone c.read_in_place-gone.ensures.used c.in_ok-walked.ensures in
    let k = reads_told p role code r check a b ts fits (taken p role code fits ready) of_plan e.ensures.terms e.ensures.ours.terms c.compared-a.ensures in
    let acts = read_by r check a b (acts_of code) in
    let qs : map equation_value c.deref-3.result.now ≡ less_equations (length p.atoms) (events_of p role) acts check = ap (map equation_value) c.deref-3.ensures.value ∙ w.equations in
    let long : length ts ≡ length c.terms-terms.result.now = sym (ap length c.terms-terms.ensures) ∙ length-map c.terms-terms.result.now tree_of in
    let all = of_registers p role acts check a b ts k.taking k.can k.of_plan k.ours k.told k.is in
    subst (λ n. AreOfVariables n (map equation_value c.deref-3.result.now)) long (subst (AreOfVariables (length ts)) (sym qs) all)

pub most_general-requires-clause-at : goal.most_general-requires-clause-at
most_general-requires-clause-at c =
    let p = c.args.p.now in
    let role = c.args.role in
    let code = c.args.code.now in
    let check = c.args.check in
    let fits = c.requires.fits in
    let e = c.in_ok-explanation in
    let ts = e.explanation.terms in
    let ready = c.verified_is_runnable.ensures ARRIVAL WIDE code c.formats.ensures.verified (has_operator code.formats) (is_operator code.formats) in
    let of_plan = plan_terms p role e.explanation.plan e.ensures.ours.plan e.ensures.plan in
    let r = c.args.reading in
    let a = c.compared-a.result.0 in
    let b = c.compared-a.result.1 in
    let w = walked_is p role code r check a b c.read_in_place-gone.result.0 c.read_in_place-gone.result.1 c.in_ok-spare.spare e.explanation.plan (events_in c.events-events.result.now) c.in_ok-walked.walked c.in_ok-spare.ensures.is e.ensures.plan (ap (map event_of) c.events-events.ensures)
    c.read_in_place-gone.ensures.gone c.read_in_place-gone.ensures.used c.in_ok-walked.ensures in
    let k = reads_told p role code r check a b ts fits (taken p role code fits ready) of_plan e.ensures.terms e.ensures.ours.terms c.compared-a.ensures in
    let acts = read_by r check a b (acts_of code) in
    let at : c.deref-4.result.now ≡ asked p role acts a b = c.deref-4.ensures.value ∙ c.in_ok-at.ensures ∙ ap (λ l. l ++ a ∷ b ∷ c.deref-2.result.now) (c.deref.ensures.value ∙ w.received) ∙ ap (λ l. received_in (events_of p role) acts ++ a ∷ b ∷ l) (c.deref-2.ensures.value ∙ w.sent) in
    let long : length ts ≡ length c.terms-terms.result.now = sym (ap length c.terms-terms.ensures) ∙ length-map c.terms-terms.result.now tree_of in
    let all = asked_within p role acts check a b ts k.taking k.can k.of_plan k.ours k.told k.is in
    subst (λ n. AreVariables n c.deref-4.result.now) long (subst (AreVariables (length ts)) (sym at) all)

solved : (c : In_ok-patterns) → IsSolvedAs c.args.p.now c.args.role c.args.code.now c.args.reading c.args.check (record { spare = c.in_ok-spare.spare; explanation = c.in_ok-explanation.explanation; count = length c.in_ok-walked.walked.received.items; patterns = c.in_ok-patterns.patterns })
solved c =
    let p = c.args.p.now in
    let role = c.args.role in
    let code = c.args.code.now in
    let check = c.args.check in
    let fits = c.requires.fits in
    let e = c.in_ok-explanation in
    let ts = e.explanation.terms in
    let ready = c.verified_is_runnable.ensures ARRIVAL WIDE code c.formats.ensures.verified (has_operator code.formats) (is_operator code.formats) in
    let of_plan = plan_terms p role e.explanation.plan e.ensures.ours.plan e.ensures.plan in
    let r = c.args.reading in
    let a = c.compared-a.result.0 in
    let b = c.compared-a.result.1 in
    let w = walked_is p role code r check a b c.read_in_place-gone.result.0 c.read_in_place-gone.result.1 c.in_ok-spare.spare e.explanation.plan (events_in c.events-events.result.now) c.in_ok-walked.walked c.in_ok-spare.ensures.is e.ensures.plan (ap (map event_of) c.events-events.ensures)
    c.read_in_place-gone.ensures.gone c.read_in_place-gone.ensures.used c.in_ok-walked.ensures in
    let k = reads_told p role code r check a b ts fits (taken p role code fits ready) of_plan e.ensures.terms e.ensures.ours.terms c.compared-a.ensures in
    let acts = read_by r check a b (acts_of code) in
    let at : c.deref-4.result.now ≡ asked p role acts a b = c.deref-4.ensures.value ∙ c.in_ok-at.ensures ∙ ap (λ l. l ++ a ∷ b ∷ c.deref-2.result.now) (c.deref.ensures.value ∙ w.received) ∙ ap (λ l. received_in (events_of p role) acts ++ a ∷ b ∷ l) (c.deref-2.ensures.value ∙ w.sent) in
    let qs : map equation_value c.deref-3.result.now ≡ less_equations (length p.atoms) (events_of p role) acts check = ap (map equation_value) c.deref-3.ensures.value ∙ w.equations in
    let ps = map tree_of c.in_ok-patterns.patterns.items in
    let P : ℕ → Type 0 = λ k. IsMostGeneral (k + 1) (map equation_value c.deref-3.result.now) (atoms_of (k + 1) c.deref-4.result.now) ps in
    let Q : List EquationValue → Type 0 = λ q. IsMostGeneral (length p.atoms + 1) q (atoms_of (length p.atoms + 1) c.deref-4.result.now) ps in
    let R : List ℕ → Type 0 = λ l. IsMostGeneral (length p.atoms + 1) (less_equations (length p.atoms) (events_of p role) acts check) (atoms_of (length p.atoms + 1) l) ps in
    record {
      a = a;
      b = b;
      compares = c.compared-a.ensures;
      solved_is = record {
        is = k.is;
        spare = c.in_ok-spare.ensures.is;
        over = over_names p role acts check a b ts k.taking k.can k.of_plan k.ours k.told k.is;
        honest = is_honest p role acts check a b ts k.taking k.can k.of_plan k.ours k.told k.is;
        same = sides_one p role acts check a b ts k.taking k.can k.of_plan k.ours k.told k.is;
        named = side_named p role acts check a b ts k.taking k.can k.of_plan k.ours k.told k.is;
        terms = e.ensures.ours.terms;
        general = subst R at (subst Q qs (subst P c.in_ok-spare.ensures.is c.in_ok-patterns.ensures));
        count = ap length w.received;
      };
    }

pub returns-clause-solved : goal.returns-clause-solved
returns-clause-solved c =
    let x = (goal.at.returns-clause-solved c).In_ok-patterns in
    let walked = x.in_ok-walked.walked.received in
    let many : c.len.result ≡ length walked.items = omega (arith, c.len.ensures, walked.ok.0) in
    subst (λ n. IsSolvedAs x.args.p.now x.args.role x.args.code.now x.args.reading x.args.check (record { spare = x.in_ok-spare.spare; explanation = x.in_ok-explanation.explanation; count = n; patterns = x.in_ok-patterns.patterns })) (sym many) (solved x)

pub returns-clause-many : goal.returns-clause-many
returns-clause-many c =
    let x = (goal.at.returns-clause-many c).In_ok-patterns in
    let s = solved x in
    let z = many x.args.p.now x.args.role x.args.code.now x.args.reading x.args.check s.a s.b s.compares (record { spare = x.in_ok-spare.spare; explanation = x.in_ok-explanation.explanation; count = length x.in_ok-walked.walked.received.items; patterns = x.in_ok-patterns.patterns }) s.solved_is in
    omega (arith, z, c.len.ensures, length-map x.in_ok-patterns.patterns.items tree_of)
