-- On a stage.
use Rattle.std.proofs.Common.{◌≡◌, ℕ, List, map, Option, Some, None, refl, sym, subst}
use Rattle.std.specs.Prelude.{slice_get}
use Rattle.anb_term.specs.declared.term.Term.{Term}
use Rattle.anb_term.specs.Tree.{leaf}
use Rattle.anb_term.specs.View.{tree_of}
use Rattle.anb_code.specs.Meaning.{acts_of}
use Rattle.anb_openings.specs.Walks.{HasCome, HasGoneOn}
use Rattle.anb_openings.proofs.Gone.{none_left}
use Rattle.anb_openings.proofs.Staging.{earlier, own, later, whole}
use Rattle.anb_openings.proofs.finding.finding_on.Goals as goal
use Rattle.anb_openings.proofs.finding.finding_on.Goals.{In_ok-number, In_ok-number-2}

-- how it came
comes : (c : In_ok-number) (found : Option ℕ) → c.in_ok-number.field-0 ≡ found → HasCome c.args.stage.made.items c.args.stage.arrivals.items (acts_of c.args.code.now) c.args.instruction c.begin-walk.result c.come.new.walk found
comes c found e =
    let acts = acts_of c.args.code.now in
    let first = c.begin-walk.result in
    let new = c.come.new.walk in
    subst (HasCome c.args.stage.made.items c.args.stage.arrivals.items acts c.args.instruction first new) e
    (subst (λ l. HasCome c.args.stage.made.items l acts c.args.instruction first new c.in_ok-number.field-0) c.deref-2.ensures.value
    (subst (λ l. HasCome l c.deref-2.result.now acts c.args.instruction first new c.in_ok-number.field-0) c.deref.ensures.value c.in_ok-number.ensures))

-- and how it went on
goes : (c : In_ok-number-2) (found : Option ℕ) → c.in_ok-number-2.field-0 ≡ found → HasGoneOn c.args.stage.made.items c.args.stage.arrivals.items (acts_of c.args.code.now) c.args.instruction (map tree_of c.args.parts.items) c.come.new.walk c.go_on.new.walk found
goes c found e =
    let acts = acts_of c.args.code.now in
    let parts = map tree_of c.args.parts.items in
    let old = c.come.new.walk in
    let new = c.go_on.new.walk in
    subst (HasGoneOn c.args.stage.made.items c.args.stage.arrivals.items acts c.args.instruction parts old new) e
    (subst (λ l. HasGoneOn c.args.stage.made.items l acts c.args.instruction parts old new c.in_ok-number-2.field-0) c.deref-5.ensures.value
    (subst (λ l. HasGoneOn l c.deref-5.result.now acts c.args.instruction parts old new c.in_ok-number-2.field-0) c.deref-4.ensures.value c.in_ok-number-2.ensures))

pub returns-in-Some : goal.returns-in-Some
returns-in-Some c =
    let l = c.no_case-lack in
    earlier c.args.code.now c.args.instruction c.args.of (map tree_of c.args.parts.items) c.args.stage c.begin-walk.result c.begin-walk.ensures.begun c.in-Some.number l.result (comes (goal.at.returns-in-Some c).In_ok-number (Some c.in-Some.number) c.in-Some.is)
    (record { instruction_is = l.ensures.instruction; event_is = l.ensures.event; arrivals_are = l.ensures.arrivals; opened_is = l.ensures.opened; why_is = l.ensures.why })

pub returns-then-not-has_name : goal.returns-then-not-has_name
returns-then-not-has_name c =
    let l = c.no_case-lack-then-not-has_name in
    let came = comes (goal.at.returns-then-not-has_name c).In_ok-number None (none_left c.in_ok-number.field-0 c.in_default.not-Some) in
    let other : slice_get (map tree_of c.come.new.walk.table.items) c.args.of ≡ Some (leaf c.args.stage.spare) → ⊥ =
    λ e. (let has = c.has_name.ensures.1 (subst (λ (ts : List Term). slice_get (map tree_of ts) c.args.of ≡ Some (leaf c.args.stage.spare)) (sym c.deref-3.ensures.value) e) in let not = c.if-not-has_name.true in cc) in
    own c.args.code.now c.args.instruction c.args.of (map tree_of c.args.parts.items) c.args.stage c.begin-walk.result c.begin-walk.ensures.begun c.come.new.walk came l.result other
    (record { instruction_is = l.ensures.instruction; event_is = l.ensures.event; arrivals_are = l.ensures.arrivals; opened_is = l.ensures.opened; why_is = l.ensures.why })

pub returns-in-Some-2 : goal.returns-in-Some-2
returns-in-Some-2 c =
    let l = c.no_case-lack-in-Some-2 in
    let came = comes (goal.at.returns-in-Some-2 c).In_ok-number None (none_left c.in_ok-number.field-0 c.in_default.not-Some) in
    let finds = subst (λ (ts : List Term). slice_get (map tree_of ts) c.args.of ≡ Some (leaf c.args.stage.spare)) c.deref-3.ensures.value (c.has_name.ensures.0 c.if-not-has_name.false) in
    later c.args.code.now c.args.instruction c.args.of (map tree_of c.args.parts.items) c.args.stage c.begin-walk.result c.begin-walk.ensures.begun c.come.new.walk came finds c.in-Some-2.number l.result (goes (goal.at.returns-in-Some-2 c).In_ok-number-2 (Some c.in-Some-2.number) c.in-Some-2.is)
    (record { instruction_is = l.ensures.instruction; event_is = l.ensures.event; arrivals_are = l.ensures.arrivals; opened_is = l.ensures.opened; why_is = l.ensures.why })

pub returns : goal.returns
returns c =
    let came = comes (goal.at.returns c).In_ok-number None (none_left c.in_ok-number.field-0 c.in_default.not-Some) in
    let finds = subst (λ (ts : List Term). slice_get (map tree_of ts) c.args.of ≡ Some (leaf c.args.stage.spare)) c.deref-3.ensures.value (c.has_name.ensures.0 c.if-not-has_name.false) in
    let gone = goes (goal.at.returns c).In_ok-number-2 None (none_left c.in_ok-number-2.field-0 c.in_default-2.not-Some) in
    whole c.args.code.now c.args.instruction c.args.of (map tree_of c.args.parts.items) c.args.stage c.begin-walk.result c.begin-walk.ensures.begun c.come.new.walk came finds c.go_on.new.walk
    (record { instruction = c.args.instruction; event = c.come.new.walk.event; arrivals = c.args.stage.arrivals; messages = c.go_on.new.walk.sent; opened = c.args.stage.opened }) gone refl refl refl refl refl
