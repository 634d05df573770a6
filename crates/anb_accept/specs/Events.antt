-- An event of a role's plan, as plays tell it.
use Rattle.anb_protocol.specs.declared.plans.Event as code
use Rattle.anb_protocol.specs.Views.{plan_event}
use Rattle.anb_protocol.specs.Plays.{event_of}
use Rattle.anb_plays.specs.Plans.{Event}

abbrev pub event_value : code.Event → Event
event_value e = event_of (plan_event e)
