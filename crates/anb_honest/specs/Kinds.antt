-- for proofs alone: the kinds of acts and events.
use Rattle.std.specs.Prelude.{List, map, Option, Some, None}
use Rattle.anb_protocol.specs.declared.plans.Event as code
use Rattle.anb_protocol.specs.Plays.{event_of}
use Rattle.anb_protocol.specs.Views.{plan_event}
use Rattle.anb_plays.specs.Plans.{Event, know, fresh, send, recv}
use Rattle.anb_plays.specs.Codes.{Act, takes, draws, receives, sends, works}
use Rattle.anb_honest.specs.declared.kind.Kind.{Kind}
use Rattle.anb_honest.specs.declared.kind.Kind.TheVariants.{Know, Make, Send, Receive}

abbrev pub kind_of : Act → Option Kind
kind_of takes = Some Know
kind_of draws = Some Make
kind_of receives = Some Receive
kind_of (sends n) = Some Send
kind_of (works w) = None

abbrev pub event_kind : Event → Kind
event_kind (know t) = Know
event_kind (fresh t) = Make
event_kind (send t) = Send
event_kind (recv t) = Receive

abbrev pub kinds_of : List code.Event → List Kind
kinds_of events = map event_kind (map event_of (map plan_event events))
