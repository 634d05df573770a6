-- A role's conversation: what it hears and what it says, in order.
use Rattle.std.specs.Prelude.{List, map}
use Rattle.anb_term.specs.Tree.{Tree}
use Rattle.anb_plays.specs.Plans.{Event, know, fresh, send, recv}
use Rattle.anb_protocol.specs.Plans.{PlanEvent, to_know, to_make, to_send, to_receive}
use Rattle.anb_protocol.specs.Protocols.{ProtocolValue}
use Rattle.anb_accept.specs.Roles.{ArePatternsIn}

-- what the role says is heard, as what comes is
abbrev pub as_heard : Event → Event
as_heard (know t) = know t
as_heard (fresh t) = fresh t
as_heard (send t) = recv t
as_heard (recv t) = recv t

abbrev pub overheard : List Event → List Event
overheard plan = map as_heard plan

-- the same of an event with the number of its action
abbrev pub to_hear : PlanEvent → PlanEvent
to_hear (to_know t) = to_know t
to_hear (to_make t) = to_make t
to_hear (to_send action t) = to_receive action t
to_hear (to_receive action t) = to_receive action t

-- Terms for all that a role hears and says, of which any two recipes that the narration makes equal give one: these are
-- exactly the instances of such lines.
abbrev pub IsConversationIn : ProtocolValue → List Event → List Tree → Type 0
IsConversationIn p plan lines = ArePatternsIn p (overheard plan) lines
