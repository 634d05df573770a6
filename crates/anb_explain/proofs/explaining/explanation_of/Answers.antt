use Rattle.std.proofs.Common.{◌≡◌, ℕ, List, length, map, Some, sym, ap, ◌∙◌, subst}
use Rattle.std.specs.List.{AllByRecursion}
use Rattle.anb_base.specs.declared.content.Suite.{Suite}
use Rattle.anb_format.specs.Formats.{FormatValue}
use Rattle.anb_term.specs.Tree.{Tree}
use Rattle.anb_term.specs.Value.{values, recipe_trees}
use Rattle.anb_term.specs.FreeAlgebra.{terms_over}
use Rattle.anb_term.specs.View.{tree_of}
use Rattle.anb_term.proofs.Lists.{values_length}
use Rattle.anb_algebra.specs.ByteMeaning.{byte_meaning, has_operator}
use Rattle.anb_plays.specs.Fits.{Along, AnySend, AnyBorder, IsSound, start}
use Rattle.anb_code.specs.CodeValue.{CodeValue}
use Rattle.anb_code.specs.Meaning.{acts_of}
use Rattle.anb_protocol.specs.Protocols.{ProtocolValue}
use Rattle.anb_protocol.specs.Plans.{PlanEvent, plan_of, term_in}
use Rattle.anb_protocol.specs.Plays.{event_of, events_of}
use Rattle.anb_protocol.specs.Texts.{IsTermOf}
use Rattle.anb_compile.specs.Registers.{register_recipes, all_labels}
use Rattle.anb_code.specs.Verified.{count_registers}
use Rattle.anb_explain.specs.Explained.{explained_by, register_terms}
use Rattle.anb_explain.proofs.Terms.{labels_are, registers_count, values_are_terms}
use Rattle.anb_explain.proofs.explaining.explanation_of.Goals as goal
use Rattle.anb_explain.proofs.explaining.explanation_of.Goals.{In_ok-terms}

-- the terms of the registers are the protocol's
ours : (p : ProtocolValue) (role : ℕ) (code : CodeValue) (trees : List Tree) → AllByRecursion (λ e. IsTermOf p (term_in e)) (plan_of p role) → code.formats ≡ p.formats
    → register_terms p role code ≡ Some trees → AllByRecursion (IsTermOf p) trees
ours p role code trees plan formats are =
    let recipes = recipe_trees (register_recipes (acts_of code)) in
    let Q : List FormatValue → Type 0 = λ f. values (terms_over (has_operator f)) (all_labels (events_of p role)) recipes ≡ Some trees in
    values_are_terms p (all_labels (events_of p role)) (labels_are p (plan_of p role) plan) recipes trees (subst Q formats are)

pub terms_of-requires-clause-sound : goal.terms_of-requires-clause-sound
terms_of-requires-clause-sound c =
    let fits = c.requires.fits in
    let acts = acts_of c.args.code.now in
    let P : List PlanEvent → Type 0 = λ l. Along AnySend (IsSound (byte_meaning c.args.code.now.formats c.args.code.now.suite)) AnyBorder acts (map event_of l) (start (map event_of l)) in
    let Q : List FormatValue → Suite → Type 0 = λ f s. Along AnySend (IsSound (byte_meaning f s)) AnyBorder acts (events_of c.args.protocol.now c.args.role) (start (events_of c.args.protocol.now c.args.role)) in
    let formats = subst (λ f. Q f c.args.protocol.now.suite) (sym fits.formats) fits.fits.sound in
    subst P (sym c.in_ok-plan.ensures.plan) (subst (λ s. Q c.args.code.now.formats s) (sym fits.suite) formats)

plan_ours : (c : In_ok-terms) → AllByRecursion (λ e. IsTermOf c.args.protocol.now (term_in e)) c.in_ok-plan.plan
plan_ours c =
    let p = c.args.protocol.now in
    let P : List PlanEvent → Type 0 = AllByRecursion (λ e. IsTermOf p (term_in e)) in
    subst P (sym c.in_ok-plan.ensures.plan) (c.terms_of_plans.ensures p c.args.role c.in_ok-plan.ensures.protocol)

have : (c : In_ok-terms) → register_terms c.args.protocol.now c.args.role c.args.code.now ≡ Some (map tree_of c.in_ok-terms.terms.items)
have c =
    let code = c.args.code.now in
    let P : List PlanEvent → Type 0 = λ l. values (terms_over (has_operator code.formats)) (all_labels (map event_of l)) (recipe_trees (register_recipes (acts_of code))) ≡ Some (map tree_of c.in_ok-terms.terms.items) in
    subst P c.in_ok-plan.ensures.plan c.in_ok-terms.ensures

all_ours : (c : In_ok-terms) → AllByRecursion (IsTermOf c.args.protocol.now) (map tree_of c.in_ok-terms.terms.items)
all_ours c =
    let p = c.args.protocol.now in
    ours p c.args.role c.args.code.now _ (c.terms_of_plans.ensures p c.args.role c.in_ok-plan.ensures.protocol) c.requires.fits.formats (have c)

counted : (c : In_ok-terms) → length (map tree_of c.in_ok-terms.terms.items) ≡ count_registers c.args.code.now.formats c.args.code.now.instrs
counted c =
    let code = c.args.code.now in
    let ts = c.in_ok-terms.terms.items in
    let recipes = register_recipes (acts_of code) in
    values_length (terms_over (has_operator code.formats)) (all_labels (map event_of c.in_ok-plan.plan)) recipes (map tree_of ts) c.in_ok-terms.ensures ∙ registers_count code.formats code.instrs

pub returns-clause-is : goal.returns-clause-is
returns-clause-is c =
    let step = (goal.at.returns-clause-is c).In_ok-terms in
    let p = c.args.protocol.now in
    let code = c.args.code.now in
    let trees = map tree_of c.in_ok-terms.terms.items in
    record {
      terms = trees;
      are = have step;
      ours = all_ours step;
      stands = ap (λ (plan : List PlanEvent). explained_by p plan code trees) (sym c.in_ok-plan.ensures.plan);
    }

pub returns-clause-ours : goal.returns-clause-ours
returns-clause-ours c =
    let step = (goal.at.returns-clause-ours c).In_ok-terms in
    record {
      plan = plan_ours step;
      terms = all_ours step;
      count = counted step;
    }

pub returns-clause-terms : goal.returns-clause-terms
returns-clause-terms c = have ((goal.at.returns-clause-terms c).In_ok-terms)
