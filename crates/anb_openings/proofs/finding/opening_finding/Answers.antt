-- The role's opening.
use Rattle.std.proofs.Common.{◌≡◌, ◌<◌, ℕ, List, length, map, drop, Bool, true, Some, refl, sym, ap, ◌∙◌, subst, arith}
use Rattle.std.specs.Prelude.{slice_get}
use Rattle.std.specs.List.{AllByRecursion}
use Rattle.std.proofs.lemmas.List.{length-map}
use Rattle.anb_base.specs.declared.TheConstants.{ARRIVAL, WIDE}
use Rattle.anb_term.specs.declared.term.Op.{Op}
use Rattle.anb_term.specs.Operator.{keys}
use Rattle.anb_term.specs.Tree.{Tree, node, trees_of}
use Rattle.anb_term.specs.View.{tree_of}
use Rattle.anb_term.proofs.Lists.{slice_get-map}
use Rattle.anb_algebra.specs.ByteMeaning.{has_operator}
use Rattle.anb_plays.specs.Plans.{known}
use Rattle.anb_plays.specs.Exec.{HasTakes}
use Rattle.anb_plays.proofs.Exec.{takes_ready}
use Rattle.anb_code.specs.Meaning.{acts_of}
use Rattle.anb_protocol.specs.Plans.{PlanEvent, term_in}
use Rattle.anb_protocol.specs.Plays.{event_of, events_of}
use Rattle.anb_protocol.specs.Texts.{IsTermOf}
use Rattle.anb_compile.proofs.Valuing.{is_operator}
use Rattle.anb_openings.specs.Openings.{IsOpening}
use Rattle.anb_openings.specs.Walks.{events_in, AreReady, IsFoundOn, IsStage}
use Rattle.anb_openings.proofs.Found.{is_finding, many, parts_are, taken, within, Grounds}
use Rattle.anb_openings.proofs.Gone.{ok_more}
use Rattle.anb_openings.proofs.finding.opening_finding.Goals as goal
use Rattle.anb_openings.proofs.finding.opening_finding.Goals.{In_ok-explanation, In_ok-stage}

-- what is known of the code and of its explanation
grounds : (c : In_ok-explanation) → Grounds c.args.p.now c.args.role c.args.code.now c.in_ok-explanation.explanation.terms
grounds c =
    let p = c.args.p.now in
    let role = c.args.role in
    let code = c.args.code.now in
    let fits = c.requires.fits in
    let e = c.in_ok-explanation in
    let ready = λ (has : Op → Bool). c.verified_is_runnable.ensures ARRIVAL WIDE code c.formats.ensures.verified has in
    record {
      fits = fits;
      taking = subst (λ f. HasTakes (has_operator f) (acts_of code) 0 (length (known (events_of p role)))) fits.formats (taken p role code (has_operator code.formats) fits (ready (has_operator code.formats) (is_operator code.formats)));
      any = taken p role code (λ o. true) fits (ready (λ o. true) (λ o is. refl));
      of_plan = subst (λ (l : List PlanEvent). AllByRecursion (λ q. IsTermOf p (term_in q)) l) e.ensures.plan e.ensures.ours.plan;
      explained = e.ensures.terms;
      ours = e.ensures.ours.terms;
    }

pub nth-opened-requires : goal.nth-opened-requires
nth-opened-requires c =
    let found = c.requires.opening in
    let ts = c.in_ok-explanation.explanation.terms in
    let g = grounds (goal.at.nth-opened-requires c).In_ok-explanation in
    let inside : found.2 < length ts = within c.args.p.now c.args.role c.args.code.now c.args.instruction found.0 found.1 found.2 found.3 ts g in
    let of = c.opening_at-op.ensures found.0 found.1 found.2 found.3 in
    let long : length ts ≡ length c.terms.result.now = sym (ap length c.terms.ensures) ∙ length-map c.terms.result.now tree_of in
    omega (arith, inside, of.1, long)

module _ (c : In_ok-stage) where
  -- the plan, and the term that is opened
  events_are : events_in c.events.result.now ≡ events_of c.args.p.now c.args.role
  events_are = ap (map event_of) c.events.ensures ∙ ap (map event_of) c.in_ok-explanation.ensures.plan

  stage_is : IsStage (length c.args.p.now.atoms) (tree_of c.nth-opened.result.now) (events_of c.args.p.now c.args.role) c.in_ok-stage.stage
  stage_is = subst (λ l. IsStage (length c.args.p.now.atoms) (tree_of c.nth-opened.result.now) l c.in_ok-stage.stage) events_are (subst (λ n. IsStage n (tree_of c.nth-opened.result.now) (events_in c.events.result.now) c.in_ok-stage.stage) c.in_ok-spare.ensures c.in_ok-stage.ensures)

  module _ (o : Op) (ks : List ℕ) (r : ℕ) (opening : IsOpening (acts_of c.args.code.now) c.args.instruction o ks r) where
    here : slice_get c.in_ok-explanation.explanation.terms r ≡ Some (tree_of c.nth-opened.result.now)
    here =
        let x = c.nth-opened.result.now in
        let at : slice_get c.terms.result.now r ≡ Some x = ap (slice_get c.terms.result.now) (sym (c.opening_at-op.ensures o ks r opening).1) ∙ sym c.nth-opened.ensures in
        ap (λ l. slice_get l r) (sym c.terms.ensures) ∙ slice_get-map tree_of c.terms.result.now r x at

    parts_told : (q : Op) (ts : List Tree) → tree_of c.nth-opened.result.now ≡ node q (trees_of ts) → map tree_of c.in_ok-parts.parts.items ≡ drop (keys o) ts
    parts_told q ts e = c.in_ok-parts.ensures q ts e ∙ ap (λ n. drop n ts) (c.keys.ensures ∙ ap keys (c.opening_at-op.ensures o ks r opening).0)

pub finding_on-requires-clause-ready : goal.finding_on-requires-clause-ready
finding_on-requires-clause-ready c =
    let x = (goal.at.finding_on-requires-clause-ready c).In_ok-stage in
    let plan = events_of c.args.p.now c.args.role in
    let acts = acts_of c.args.code.now in
    let g = grounds (goal.at.finding_on-requires-clause-ready c).In_ok-explanation in
    let s = stage_is x in
    let long : length (known plan) ≡ length c.in_ok-stage.stage.known.items = sym (ap length s.known_are) ∙ length-map c.in_ok-stage.stage.known.items tree_of in
    subst (λ n. AreReady acts n) long (takes_ready (λ o. true) acts 0 (length (known plan)) g.any)

pub finding_on-requires-clause-parts : goal.finding_on-requires-clause-parts
finding_on-requires-clause-parts c = λ o ks r opening.
    let x = (goal.at.finding_on-requires-clause-parts c).In_ok-stage in
    let p = c.args.p.now in
    let code = c.args.code.now in
    let ts = c.in_ok-explanation.explanation.terms in
    let g = grounds (goal.at.finding_on-requires-clause-parts c).In_ok-explanation in
    let opened = tree_of c.nth-opened.result.now in
    let these = parts_are p c.args.role code c.args.instruction o ks r opening ts g opened (here x o ks r opening) (map tree_of c.in_ok-parts.parts.items) (parts_told x o ks r opening) in
    sym (length-map c.in_ok-parts.parts.items tree_of) ∙ ap length these ∙ many p c.args.role code c.args.instruction o ks r opening ts g opened (here x o ks r opening)

pub returns : goal.returns
returns c =
    let x = (goal.at.returns c).In_ok-stage in
    let p = c.args.p.now in
    let code = c.args.code.now in
    let ts = c.in_ok-explanation.explanation.terms in
    let found = c.requires.opening in
    let o = found.0 in
    let ks = found.1 in
    let r = found.2 in
    let g = grounds (goal.at.returns c).In_ok-explanation in
    let opened = tree_of c.nth-opened.result.now in
    let at = here x o ks r found.3 in
    let ps = map tree_of c.in_ok-parts.parts.items in
    let these = parts_are p c.args.role code c.args.instruction o ks r found.3 ts g opened at ps (parts_told x o ks r found.3) in
    let of = c.opening_at-op.ensures o ks r found.3 in
    ok_more c.finding_on.result _ _ (λ f h. is_finding p c.args.role code c.args.instruction o ks r found.3 ts g opened at c.in_ok-stage.stage (stage_is x) ps these f (subst (λ n. IsFoundOn code c.args.instruction n ps c.in_ok-stage.stage f) of.1 h)) c.finding_on.ensures
