-- In an attempt in the honest scene all is as narrated, and so a child that plays the role isn't called wrong in any attempt of a suite.
use Rattle.std.proofs.Common.{◌≡◌, ◌≢◌, ◌⊎◌, ℕ, [], Option, Some, None, refl, sym, ◌∙◌, subst, inl, inr}
use Rattle.anb_base.specs.Bytes.{IsBytes-pass}
use Rattle.anb_code.specs.Meaning.{acts_of}
use Rattle.anb_protocol.specs.Plays.{events_of, meaning_of}
use Rattle.anb_protocol.specs.Protocols.{ProtocolValue}
use Rattle.anb_protocol.specs.Texts.{IsTermOf, known_by}
use Rattle.anb_protocol.proofs.KnowLemmas.{formed_list}
use Rattle.anb_compile.proofs.Protocols.{all_known}
use Rattle.anb_term.specs.Tree.{Tree, trees_of, AreFormed}
use Rattle.anb_partner.specs.Plans.{handed_terms, said}
use Rattle.anb_partner.specs.declared.conversation.TalkEnd.TheVariants.{Refused}
use Rattle.anb_tries.specs.Laws.{Attempt, IsAttempt, IsNarrated, PlaysRole, StopsAreSeen}
use Rattle.anb_dues.specs.Laws.{IsClear, IsTriedOf, StopsThere}
use Rattle.anb_dues.proofs.Grounding.{Told, Untold, changed_in, stopping_in}
use Rattle.anb_dues.proofs.Labels.{partner_formed}
use Rattle.anb_dues.proofs.Naming.{draws_named, handed_ours, hands_named, knows_named, named, named_bytes}
use Rattle.anb_dues.proofs.Unrefused.{stops_known, unrefused_along, unrefused_stopping, unrefused_there}

module _ (p : ProtocolValue) (a : Attempt) (is : IsAttempt a) (of : IsTriedOf p a) (t : Told p a of a.script) (plays : PlaysRole a) where
  abbrev q : ProtocolValue
  q = a.script.protocol

  abbrev role : ℕ
  role = a.script.role

  -- where nothing is made wrong, all is as narrated, with the draws for the names that the role makes
  pub narrated_in : a.script.right ≡ None → IsNarrated a plays
  narrated_in none =
      let n = t.honest none in
      let ours = t.base.ours in
      let has = (meaning_of a.script.protocol).has in
      let says : AreFormed has (trees_of a.script.messages) = subst (λ ts. AreFormed has (trees_of ts)) (sym n.messages) (formed_list q (said (events_of q role)) (ours.says role)) in
      record {
        arrivals = n.arrivals;
        messages = n.messages;
        right = none;
        due = n.due;
        atoms = λ k. named a.script.protocol a.script.role plays.draw t.names.atoms [] k;
        bytes = named_bytes q role ours plays.draw t.names.atoms [] t.names.bytes plays.drawn (IsBytes-pass [] refl);
        begins = t.names.begins ∙ sym (knows_named q role ours plays.draw t.names.atoms []);
        hands = t.names.hands ∙ sym (hands_named q role ours plays.draw t.names.atoms []);
        draws = draws_named q role ours plays.draw t.names.atoms [];
        formed = t.base.formed;
        partner_formed = partner_formed has a.script (formed_list q (known_by q role) (all_known (IsTermOf q) q.knows role ours.knows)) (formed_list q (handed_terms q role) (handed_ours q role ours)) says;
      }

  -- where it is known that the role stops, the child isn't refused, and stops there, if it stops
  known_in : (event : ℕ) → a.due ≡ Some event → (a.conversation.end ≢ Refused) × StopsAreSeen a plays
  known_in event due = (let s = stopping_in p a is of t event due in (unrefused_stopping a (acts_of of.code) event s plays, stops_known a (acts_of of.code) event s plays due))

  -- and where it isn't known it isn't refused, if sealed bytes that are changed don't open
  clear_in : a.script.right ≢ None → a.due ≡ None → IsClear p a of plays → a.conversation.end ≢ Refused
  clear_in some due clear = by (t.untold some due) where
    by : Untold p a of a.script → a.conversation.end ≢ Refused
    by (inl along) = unrefused_along a (acts_of of.code) (changed_in p a is of t along.0) plays along.1
    by (inr sealed) = shut (clear.unopened sealed.0) where
      shut : StopsThere a plays sealed.0.case.event ⊎ (a.conversation.end ≢ Refused) → a.conversation.end ≢ Refused
      shut (inl there) = unrefused_there a (acts_of of.code) (changed_in p a is of t sealed.1.0) plays sealed.0.case.event sealed.1.1 there
      shut (inr unrefused) = unrefused

  some_right : (r : Tree) → a.script.right ≡ Some r → a.script.right ≢ None
  some_right r right none = (let both : None ≡ Some r = sym none ∙ right in cc)

  -- one of both, where it is clear what comes of it in all other attempts
  pub one_of_both : {X : Type 0} → (a.conversation.end ≢ Refused → StopsAreSeen a plays → X) → (IsNarrated a plays → X) → (a.script.right ≢ None → a.due ≡ None → IsClear p a of plays) → X
  one_of_both {X} unrefused narrated asked = by a.due refl a.script.right refl where
    by : (due : Option ℕ) → a.due ≡ due → (right : Option Tree) → a.script.right ≡ right → X
    by (Some event) due right right_is = (let k = known_in event due in unrefused k.0 k.1)
    by None due None none = narrated (narrated_in none)
    by None due (Some r) right = (let some = some_right r right in let clear = asked some due in unrefused (clear_in some due clear) clear.stops)
