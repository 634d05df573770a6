-- Up to one end a recording isn't taken, and it is up to each before another.
use Rattle.std.proofs.Common.{◌≡◌, ℕ, ◌+◌, ◌-◌, ◌<◌, ◌≤◌, length, map, Some}
use Rattle.std.specs.Prelude.{slice_get}
use Rattle.anb_algebra.specs.ByteMeaning.{has_operator}
use Rattle.anb_accept.specs.Events.{event_value}
use Rattle.anb_outsider.specs.Recordings.{ReceivesAt}
use Rattle.anb_outsider.specs.Searching.{GoesTo, StopsFor}
use Rattle.anb_outsider.proofs.recording.first_stop.Given as goal

abbrev pub invariant-halves : goal.invariant-halves
invariant-halves l = record {
  within : l.high < length l.ends;
  order : l.low ≤ l.high;
  stops : (end : ℕ) → slice_get l.ends l.high ≡ Some end → StopsFor (has_operator l.protocol.formats) (length l.protocol.atoms) (map event_value l.events) end l.name;
  goes : (k end : ℕ) → slice_get l.ends l.low ≡ Some end → ReceivesAt (map event_value l.events) k → k + 1 < end → GoesTo (has_operator l.protocol.formats) (length l.protocol.atoms) (map event_value l.events) (k + 1);
}

abbrev pub decreases-halves : goal.decreases-halves
decreases-halves l = l.high - l.low
