-- What is told of a role beside its code.
use Rattle.std.specs.Prelude.{◌≡◌, List, length, refl}
use Rattle.std.specs.Coded.{Coded, code_by, coded×, coded_list}
use Rattle.std.specs.List.{AllByRecursion}
use Rattle.anb_term.specs.Tree.{Tree}
use Rattle.anb_term.specs.TreeCode.{coded_tree}
use Rattle.anb_protocol.specs.Codes.{coded_event}
use Rattle.anb_protocol.specs.Protocols.{ProtocolValue}
use Rattle.anb_protocol.specs.Plans.{PlanEvent, term_in}
use Rattle.anb_protocol.specs.Texts.{IsTermOf}
use Rattle.anb_code.specs.CodeValue.{CodeValue}
use Rattle.anb_code.specs.Verified.{count_registers}

-- the events of its plan, and the terms of the code's registers in the order of writing
pub record ExplanationValue : Type 0 where
  pub plan : List PlanEvent
  pub terms : List Tree

abbrev pub coded_explanation : Coded ExplanationValue
coded_explanation = code_by (List PlanEvent × List Tree) (coded× (coded_list coded_event) (coded_list coded_tree)) (λ e. (e.plan, e.terms)) (λ t. record { plan = t.0; terms = t.1 }) (λ _. refl)

-- all terms are the protocol's, and each register has one
pub record AreOurs (p : ProtocolValue) (code : CodeValue) (e : ExplanationValue) : Type 0 where
  pub plan : AllByRecursion (λ event. IsTermOf p (term_in event)) e.plan
  pub terms : AllByRecursion (IsTermOf p) e.terms
  pub count : length e.terms ≡ count_registers code.formats code.instrs
