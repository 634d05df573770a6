-- for proofs alone: what contracts see of a session under way, by what it keeps.
use Rattle.std.specs.Prelude.{if◌then◌else◌}
use Rattle.anb_machine.specs.declared.turn.Last.TheVariants as last
use Rattle.anb_park.specs.declared.live.Live.TheInside.{Inside}
use Rattle.anb_park.specs.Lives.{LiveValue}

-- where memory was wanting, the machine is one that answers so from then on
abbrev pub live_of : Inside → LiveValue
live_of live = record {
  machine = if live.failed then record live.machine { last = last.NoMemory } else live.machine;
  body = live.body.items;
}
