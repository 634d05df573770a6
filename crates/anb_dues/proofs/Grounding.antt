-- What is known of a role's code, and so of the attempts of its suite.
use Rattle.std.proofs.Common.{◌≡◌, ◌≢◌, ◌⊎◌, ℕ, List, [], ◌∷◌, length, map, Option, Some, None, sym, ◌∙◌, subst, inl, inr}
use Rattle.std.specs.List.{AllByRecursion}
use Rattle.anb_lemmas.proofs.Each.{each_in_parts}
use Rattle.anb_base.specs.declared.TheConstants.{ARRIVAL, WIDE}
use Rattle.anb_base.specs.declared.content.Suite.{Suite}
use Rattle.anb_format.specs.Formats.{FormatValue}
use Rattle.anb_algebra.specs.ByteMeaning.{byte_meaning, has_operator}
use Rattle.anb_code.specs.CodeValue.{CodeValue}
use Rattle.anb_code.specs.Meaning.{acts_of}
use Rattle.anb_machine.proofs.Verified.{has_takes}
use Rattle.anb_plays.specs.Exec.{HasTakes}
use Rattle.anb_plays.specs.Honest.{heard, LabelsAreFormed}
use Rattle.anb_plays.specs.Plans.{known}
use Rattle.anb_plays.specs.Statements.{RunsAsPlayed}
use Rattle.anb_protocol.specs.Laws.{HoldsOf, MadeIsNew, PlansKnowFirst}
use Rattle.anb_protocol.specs.Plans.{PlanEvent, to_know, to_make, to_send, to_receive, messages, plan_of, term_in}
use Rattle.anb_protocol.specs.Plays.{event_of, events_of, meaning_of}
use Rattle.anb_protocol.specs.Protocols.{ProtocolValue}
use Rattle.anb_protocol.specs.Texts.{IsTermOf, known_terms}
use Rattle.anb_protocol.proofs.KnowLemmas.{formed}
use Rattle.anb_openings.proofs.Found.{taken}
use Rattle.anb_openings.proofs.Spared.{heard_terms, made_terms}
use Rattle.anb_partner.specs.Laws.{PartnersPlay}
use Rattle.anb_partner.specs.Plans.{Script, said}
use Rattle.anb_tries.specs.Laws.{Attempt, IsAttempt}
use Rattle.anb_attempts.specs.Attempts.{script_in}
use Rattle.anb_dues.specs.Laws.{AreOfNames, IsCodeOf, IsOfSealed, IsTriedOf}
use Rattle.anb_dues.proofs.Checks.{GoesAlong}
use Rattle.anb_dues.proofs.Firsts.{Text}
use Rattle.anb_dues.proofs.Lines.{IsChanged}
use Rattle.anb_dues.proofs.Opening.{ComesAlong}
use Rattle.anb_dues.proofs.Stopped.{IsStopping}
use Rattle.anb_dues.proofs.Stopping.{Changes, Grounds, Stops}
use Rattle.anb_dues.proofs.Suites.{IsSealed, suite_good}

labels_formed : (p : ProtocolValue) (es : List PlanEvent) → AllByRecursion (λ e. IsTermOf p (term_in e)) es → LabelsAreFormed (has_operator p.formats) (map event_of es)
labels_formed p [] all = tt
labels_formed p (to_know t ∷ es) all = (formed p t all.0, labels_formed p es all.1)
labels_formed p (to_make t ∷ es) all = (formed p t all.0, labels_formed p es all.1)
labels_formed p (to_send i t ∷ es) all = labels_formed p es all.1
labels_formed p (to_receive i t ∷ es) all = (formed p t all.0, labels_formed p es all.1)

-- what is said along a plan of terms of a protocol
said_terms : (p : ProtocolValue) (es : List PlanEvent) → AllByRecursion (λ e. IsTermOf p (term_in e)) es → AllByRecursion (IsTermOf p) (said (map event_of es))
said_terms p [] all = tt
said_terms p (to_know t ∷ es) all = said_terms p es all.1
said_terms p (to_make t ∷ es) all = said_terms p es all.1
said_terms p (to_send i t ∷ es) all = (all.0, said_terms p es all.1)
said_terms p (to_receive i t ∷ es) all = said_terms p es all.1

pub grounds : (p : ProtocolValue) (role : ℕ) (code : CodeValue) → HoldsOf p → ((other : ℕ) → AllByRecursion (λ e. IsTermOf p (term_in e)) (plan_of p other)) → PlansKnowFirst → MadeIsNew → RunsAsPlayed (meaning_of p) → IsCodeOf p role code → Grounds p role (acts_of code)
grounds p role code holds of_plans first new plays is = record {
  fits = is.fits.fits;
  taking = subst (λ f. HasTakes (has_operator f) (acts_of code) 0 (length (known (events_of p role)))) is.fits.formats (taken p role code (has_operator code.formats) is.fits (has_takes ARRIVAL WIDE code is.verified));
  formed = labels_formed p (plan_of p role) (of_plans role);
  ours = record {
    knows = (each_in_parts (IsTermOf p) (known_terms p) (messages p.actions) holds.terms).0;
    makes = λ other. made_terms p (plan_of p other) (of_plans other);
    says = λ other. said_terms p (plan_of p other) (of_plans other);
    hears = λ other. heard_terms p (plan_of p other) (of_plans other);
  };
  first = first p role;
  new = new p role;
  plays = plays;
}

-- the same of runs by a protocol's formats and suite
pub plays_by : (p : ProtocolValue) (formats : List FormatValue) (suite : Suite) → formats ≡ p.formats → suite ≡ p.suite → RunsAsPlayed (byte_meaning formats suite) → RunsAsPlayed (meaning_of p)
plays_by p formats suite of_formats of_suite plays = subst (λ s. RunsAsPlayed (byte_meaning p.formats s)) of_suite (subst (λ f. RunsAsPlayed (byte_meaning f suite)) of_formats plays)

-- in a script of the honest scene all is as narrated, and no stop is known
pub record IsHonest (s : Script) (a : Attempt) : Type 0 where
  pub arrivals : s.arrivals ≡ heard (events_of s.protocol s.role)
  pub messages : s.messages ≡ said (events_of s.protocol s.role)
  pub due : a.due ≡ None

-- in the script of a scene in which something is made wrong and no stop is known, the code says no messages but the script's; or
-- something that was sealed is changed, and the code comes to its opening
abbrev pub Untold : (p : ProtocolValue) (a : Attempt) → IsTriedOf p a → Script → Type 0
Untold p a of s = GoesAlong (acts_of of.code) s ⊎ ((sealed : IsOfSealed p a of) × ComesAlong (acts_of of.code) sealed.case.event s)

-- what is known of the script of an attempt and of how its right value is made wrong
pub record Told (p : ProtocolValue) (a : Attempt) (of : IsTriedOf p a) (s : Script) : Type 0 where
  pub law : PartnersPlay s.protocol
  pub base : Grounds s.protocol s.role (acts_of of.code)
  pub names : AreOfNames s.protocol s.role a.initial a.handed
  pub stops : (event : ℕ) → a.due ≡ Some event → Stops s (acts_of of.code) a.wrong event
  pub honest : s.right ≡ None → IsHonest s a
  pub untold : s.right ≢ None → a.due ≡ None → Untold p a of s

pub told : (p : ProtocolValue) → PartnersPlay p → (a : Attempt) (of : IsTriedOf p a) → Grounds p of.role (acts_of of.code) → Told p a of a.script
told p law a of g =
    let i = of.is in
    let s = script_in p of.role i.scene in
    let good = suite_good p of.role of.code g of.all of.suite of.is_suite i.place i.attempt i.scene i.attempt_is i.scene_is in
    let stops : (event : ℕ) → a.due ≡ Some event → Stops s (acts_of of.code) a.wrong event =
    λ event due. subst (λ (w : Text → Option Text). Stops s (acts_of of.code) w event) (sym i.wrong) (good.stops event (sym i.due ∙ due)) in
    let honest : s.right ≡ None → IsHonest s a = λ none. (let n = good.honest none in record { arrivals = n.arrivals; messages = n.messages; due = i.due ∙ n.due }) in
    let there : Told p a of s = record { law = law; base = g; names = i.names; stops = stops; honest = honest; untold = λ some none. untold_as (good.untold some (sym i.due ∙ none)) } in
    subst (Told p a of) (sym i.script) there where
      untold_as : GoesAlong (acts_of of.code) (script_in p of.role of.is.scene) ⊎ IsSealed p of.role of.code g of.is.scene → Untold p a of (script_in p of.role of.is.scene)
      untold_as (inl along) = inl along
      untold_as (inr x) = inr (record { instruction = x.instruction; case = x.case; is_case = x.is_case; sealed = x.sealed; scene = x.is }, x.comes)

module _ (p : ProtocolValue) (a : Attempt) (is : IsAttempt a) (of : IsTriedOf p a) (t : Told p a of a.script) where
  -- where it is known that the role stops
  pub stopping_in : (event : ℕ) → a.due ≡ Some event → IsStopping a (acts_of of.code) event
  stopping_in event due = record { is = is; law = t.law; base = t.base; names = t.names; stops = t.stops event due }

  -- and where a value is made wrong
  pub changed_in : Changes a.script → IsChanged a (acts_of of.code)
  changed_in changes = record { is = is; law = t.law; base = t.base; names = t.names; changes = changes }
