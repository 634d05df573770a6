-- Protocols and events told apart by numbers.
use Rattle.std.specs.Prelude.{◌≡◌, ℕ, zero, suc, List, refl}
use Rattle.std.specs.Coded.{Coded, code_by, coded×, coded_ℕ, coded_list}
use Rattle.anb_base.specs.declared.content.Suite.{Suite}
use Rattle.anb_format.specs.Formats.{FormatValue}
use Rattle.anb_term.specs.Tree.{Tree}
use Rattle.anb_term.specs.TreeCode.{coded_tree}
use Rattle.anb_protocol.specs.declared.parts.Atom.{Atom}
use Rattle.anb_protocol.specs.Protocols.{ActionValue, ProtocolValue}
use Rattle.anb_protocol.specs.Plans.{PlanEvent, to_know, to_make, to_send, to_receive}

abbrev pub kind_of : PlanEvent → ℕ
kind_of (to_know t) = 0
kind_of (to_make t) = 1
kind_of (to_send i t) = 2
kind_of (to_receive i t) = 3

abbrev pub number_of : PlanEvent → ℕ
number_of (to_know t) = 0
number_of (to_make t) = 0
number_of (to_send i t) = i
number_of (to_receive i t) = i

abbrev pub term_of : PlanEvent → Tree
term_of (to_know t) = t
term_of (to_make t) = t
term_of (to_send i t) = t
term_of (to_receive i t) = t

abbrev pub event_with : ℕ → ℕ → Tree → PlanEvent
event_with zero i t = to_know t
event_with (suc zero) i t = to_make t
event_with (suc (suc zero)) i t = to_send i t
event_with (suc (suc (suc k))) i t = to_receive i t

pub again : (e : PlanEvent) → event_with (kind_of e) (number_of e) (term_of e) ≡ e
again (to_know t) = refl
again (to_make t) = refl
again (to_send i t) = refl
again (to_receive i t) = refl

abbrev pub coded_event : Coded PlanEvent
coded_event = code_by (ℕ × (ℕ × Tree)) (coded× coded_ℕ (coded× coded_ℕ coded_tree)) (λ e. (kind_of e, (number_of e, term_of e))) (λ p. event_with p.0 p.1.0 p.1.1) again

abbrev pub coded_action : Coded ActionValue
coded_action = code_by (ℕ × (ℕ × Tree)) (coded× coded_ℕ (coded× coded_ℕ coded_tree)) (λ a. (a.from, (a.to, a.message))) (λ p. record { from = p.0; to = p.1.0; message = p.1.1 }) (λ _. refl)

-- by those of the suite, the formats and the atoms
abbrev pub coded_protocol : Coded Suite → Coded FormatValue → Coded Atom → Coded ProtocolValue
coded_protocol suite format atom =
    code_by (List ℕ × (Suite × (List FormatValue × (List (List ℕ) × (List Atom × (List (List Tree) × List ActionValue))))))
    (coded× (coded_list coded_ℕ) (coded× suite (coded× (coded_list format) (coded× (coded_list (coded_list coded_ℕ)) (coded× (coded_list atom) (coded× (coded_list (coded_list coded_tree)) (coded_list coded_action)))))))
    (λ p. (p.name, (p.suite, (p.formats, (p.roles, (p.atoms, (p.knows, p.actions)))))))
    (λ t. record { name = t.0; suite = t.1.0; formats = t.1.1.0; roles = t.1.1.1.0; atoms = t.1.1.1.1.0; knows = t.1.1.1.1.1.0; actions = t.1.1.1.1.1.1 })
    (λ _. refl)
