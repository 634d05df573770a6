-- A case that was played is an attempt on a program, as the suite of the role has it.
use Rattle.std.proofs.Common.{◌≡◌, ℕ, List, length, map, Some, refl, sym, ap, ◌∙◌, subst, arith}
use Rattle.std.specs.Prelude.{slice_get}
use Rattle.std.specs.List.{AllByRecursion}
use Rattle.std.proofs.lemmas.List.{length-map}
use Rattle.anb_lemmas.proofs.Each.{each_in_parts}
use Rattle.anb_base.specs.Bytes.{IsBytes}
use Rattle.anb_base.specs.declared.TheConstants.{ARRIVAL, WIDE}
use Rattle.anb_term.specs.Tree.{Tree}
use Rattle.anb_term.specs.View.{tree_of}
use Rattle.anb_algebra.specs.ByteMeaning.{has_operator}
use Rattle.anb_code.specs.CodeValue.{CodeValue}
use Rattle.anb_code.specs.Meaning.{acts_of}
use Rattle.anb_machine.proofs.Verified.{has_takes}
use Rattle.anb_plays.specs.Exec.{HasTakes}
use Rattle.anb_plays.specs.Plans.{known}
use Rattle.anb_protocol.specs.Laws.{HoldsOf}
use Rattle.anb_protocol.specs.Plans.{messages, plan_of, term_in}
use Rattle.anb_protocol.specs.Plays.{events_of, honest_bytes}
use Rattle.anb_protocol.specs.Protocols.{ProtocolValue}
use Rattle.anb_protocol.specs.Texts.{IsTermOf, known_by, known_terms}
use Rattle.anb_openings.proofs.Found.{taken}
use Rattle.anb_partner.specs.Plans.{handed_terms}
use Rattle.anb_partner.specs.Trials.{Trial}
use Rattle.anb_spoil.specs.Wrongs.{wrong_by}
use Rattle.anb_attempts.specs.declared.attempts.Attempt as asked
use Rattle.anb_tries.specs.Laws.{IsAttempt, IsWhole}
use Rattle.anb_dues.specs.Laws.{AreOfNames, IsTriedOf, ValuesAreOfNames}
use Rattle.anb_probe_commands.specs.Cases.{lack_of}
use Rattle.anb_probe_commands.specs.Plays.{CaseEnd, IsTried, handed, initial}
use Rattle.anb_probe_commands.specs.Probings.{Probing}
use Rattle.anb_probe_commands.specs.ProbeCommand.{Suit, agenda_of}
use Rattle.anb_probe_commands.specs.Words.{Trying}
use Rattle.anb_probed.specs.Laws.{CasesAreAttempts, attempt_of}
use Rattle.anb_probed.proofs.Full.{suite_full}
use Rattle.anb_probed.proofs.Given.{AreGiven, are_given}
use Rattle.anb_probed.proofs.Handed.{handed_ours, known_ours, term_bytes}
use Rattle.anb_probed.proofs.Listed.{among}

-- what is known of a protocol
pub record Known (p : ProtocolValue) : Type 0 where
  pub knows : AllByRecursion (IsTermOf p) (known_terms p)
  pub plans : (role : ℕ) → AllByRecursion (λ e. IsTermOf p (term_in e)) (plan_of p role)
  pub names : ValuesAreOfNames p

-- bytes of so many terms
pub record AreBytes (p : ProtocolValue) (ts : List Tree) (values : List (List ℕ)) : Type 0 where
  pub count : length values ≡ length ts
  pub bytes : AllByRecursion IsBytes values

are_bytes : (p : ProtocolValue) (atoms : ℕ → List ℕ) → ((n : ℕ) → IsBytes (atoms n)) → (ts : List Tree) (values : List (List ℕ)) → values ≡ map (honest_bytes p atoms) ts → AllByRecursion (IsTermOf p) ts → AreBytes p ts values
are_bytes p atoms bytes ts values is all = record {
  count = ap length is ∙ length-map ts (honest_bytes p atoms);
  bytes = subst (AllByRecursion IsBytes) (sym is) (term_bytes p atoms bytes ts all);
}

module _ (q : Probing) (of_protocol : Known q.protocol) (are : AreGiven q.protocol q.values) where
  pub names : AreOfNames q.protocol q.role (initial q) (handed q)
  names = of_protocol.names q.values q.seed q.role are.count are.bytes

  begins_so : AreBytes q.protocol (known_by q.protocol q.role) (initial q)
  begins_so = are_bytes q.protocol names.atoms names.bytes (known_by q.protocol q.role) (initial q) names.begins (known_ours q.protocol of_protocol.knows q.role)

  handed_so : AreBytes q.protocol (handed_terms q.protocol q.role) (handed q)
  handed_so = are_bytes q.protocol names.atoms names.bytes (handed_terms q.protocol q.role) (handed q) names.hands (handed_ours q.protocol of_protocol.plans q.role)

  module _ (trying : Trying) (suit : Suit q trying) (attempt : asked.Attempt) (place : ℕ) (here : slice_get (agenda_of suit).cases place ≡ Some attempt)
      (order : List (List ℕ)) (reached : ℕ) (old new : Trial) (end : CaseEnd) (got : ℕ) (t : IsTried q (agenda_of suit).scenes order attempt reached old new end got) where
    abbrev pub of_suite : IsTriedOf q.protocol (attempt_of t)
    of_suite =
        let found = among (map lack_of suit.partners) trying.case 1 suit.suite.attempts.items place attempt here in
        record {
          role = q.role;
          code = suit.code;
          all = trying.all;
          suite = suit.suite;
          is_code = record { fits = suit.fits; verified = suit.verified };
          is_suite = suit.is;
          is = record {
            place = found.0;
            attempt = attempt;
            attempt_is = found.1;
            scene = t.scene;
            scene_is = t.at;
            script = refl;
            wrong = ap (λ (code : CodeValue). wrong_by code.formats attempt.wrong) t.partner.names;
            due = refl;
            names = names;
          };
        }

    -- the code takes what the role knows, and has its registers
    taking : HasTakes (has_operator q.protocol.formats) (acts_of suit.code) 0 (length (known (events_of q.protocol q.role)))
    taking =
        subst (λ f. HasTakes (has_operator f) (acts_of suit.code) 0 (length (known (events_of q.protocol q.role)))) suit.fits.formats
        (taken q.protocol q.role suit.code (has_operator suit.code.formats) suit.fits (has_takes ARRIVAL WIDE suit.code suit.verified))

    is_whole : IsWhole (attempt_of t)
    is_whole =
        let full = suite_full q.protocol q.role suit.code taking suit.fits.fits.order trying.all suit.suite suit.is attempt.scene t.scene t.at in
        let arrivals = length-map t.scene.arrivals.items tree_of in
        let messages = length-map t.scene.messages.items tree_of in
        record { heard_all = omega (arith, full.heard_all, arrivals); said_all = omega (arith, full.said_all, messages) }

    pub is_attempt : IsAttempt (attempt_of t)
    is_attempt = record {
      partner = t.partner;
      whole = is_whole;
      hook = refl;
      count = begins_so.count;
      each = handed_so.count;
      values = begins_so.bytes;
      handed_values = handed_so.bytes;
      converses = t.converses;
      lines = t.bytes;
      long = t.long;
      verdict = t.judged;
    }

pub case_is : (p : ProtocolValue) → HoldsOf p → ((role : ℕ) → AllByRecursion (λ e. IsTermOf p (term_in e)) (plan_of p role)) → ValuesAreOfNames p → CasesAreAttempts p
case_is p holds plans law ends old new i a c =
    let of_p : Known p = record { knows = (each_in_parts (IsTermOf p) (known_terms p) (messages p.actions) holds.terms).0; plans = plans; names = law } in
    let at_q : Known i.q.protocol = subst Known (sym i.protocol) of_p in
    let tried = (i.played.each c.place c.attempt c.end c.here c.ended).1 in
    let are = are_given i.files i.asked.narration i.asked.role i.asked.values i.host_seed i.q i.asks in
    let one = is_attempt i.q at_q are i.asked.trying i.suit c.attempt c.place c.here _ _ _ _ c.end _ tried in
    let two = of_suite i.q at_q are i.asked.trying i.suit c.attempt c.place c.here _ _ _ _ c.end _ tried in
    (subst IsAttempt (sym c.is) one, subst (λ (r : ProtocolValue). IsTriedOf r a) i.protocol (subst (IsTriedOf i.q.protocol) (sym c.is) two))
