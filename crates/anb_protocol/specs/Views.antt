-- What the types of the code stand for.
use denote.Ref.{Bor}
use Rattle.std.specs.Prelude.{List, map}
use Rattle.anb_term.specs.View.{tree_of}
use Rattle.anb_protocol.specs.declared.parts.Action.{Action}
use Rattle.anb_protocol.specs.declared.parts.Parts.{Parts}
use Rattle.anb_protocol.specs.declared.plans.Event.{Event}
use Rattle.anb_protocol.specs.declared.plans.Event.TheVariants.{Know, Fresh, Send, Recv}
use Rattle.anb_protocol.specs.Protocols.{ActionValue, ProtocolValue}
use Rattle.anb_protocol.specs.Plans.{PlanEvent, to_know, to_make, to_send, to_receive}

abbrev pub action_value : Action → ActionValue
action_value a = record { from = a.from; to = a.to; message = tree_of a.message }

abbrev pub value_of : Parts → ProtocolValue
value_of p = record {
  name = p.name;
  suite = p.suite;
  formats = p.formats.items;
  roles = p.roles.items;
  atoms = p.atoms.items;
  knows = p.knows.items;
  actions = map action_value p.actions.items;
}

abbrev pub plan_event : Event → PlanEvent
plan_event (Know t) = to_know (tree_of t)
plan_event (Fresh t) = to_make (tree_of t)
plan_event (Send i t) = to_send i (tree_of t)
plan_event (Recv i t) = to_receive i (tree_of t)

-- what references point to
abbrev pub pointed : {X : Type 0} → List (Bor X) → List X
pointed {X} xs = map (λ (x : Bor X). x.now) xs
