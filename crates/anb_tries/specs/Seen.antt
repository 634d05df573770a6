-- What is seen of a program in a conversation.
use Rattle.std.specs.Prelude.{ℕ, ◌||◌, Bool, true, false, Option, Some, None, if◌then◌else◌}
use Rattle.anb_partner.specs.declared.conversation.Conversation.{Conversation}
use Rattle.anb_partner.specs.declared.conversation.TalkEnd.{TalkEnd}
use Rattle.anb_partner.specs.declared.conversation.TalkEnd.TheVariants.{Done, Refused, Missing, Cut, Long, ReadFault, WriteFault, TooLong, Unchanged}
use Rattle.anb_partner.specs.declared.trials.ChildEnd.{ChildEnd}
use Rattle.anb_partner.specs.declared.trials.ChildEnd.TheVariants as child
use Rattle.anb_verdict.specs.declared.seen.Ended.{Ended}
use Rattle.anb_verdict.specs.declared.seen.Ended.TheVariants.{Status, Signal, Unseen, Silent, Lost}
use Rattle.anb_verdict.specs.declared.seen.Seen.{Seen}

-- the partner refused the last message
abbrev pub is_refused : TalkEnd → Bool
is_refused Refused = true
is_refused Done = false
is_refused Missing = false
is_refused (Cut have need) = false
is_refused (Long len) = false
is_refused ReadFault = false
is_refused WriteFault = false
is_refused TooLong = false
is_refused Unchanged = false

-- where a message was due came bytes that are none: a part of one at the output's end, or one that is too long
abbrev pub is_no_message : TalkEnd → Bool
is_no_message (Cut have need) = true
is_no_message (Long len) = true
is_no_message Done = false
is_no_message Refused = false
is_no_message Missing = false
is_no_message ReadFault = false
is_no_message WriteFault = false
is_no_message TooLong = false
is_no_message Unchanged = false

-- reading failed where a message was due, so what was said isn't known
abbrev pub is_unread : TalkEnd → Bool
is_unread ReadFault = true
is_unread Done = false
is_unread Refused = false
is_unread Missing = false
is_unread (Cut have need) = false
is_unread (Long len) = false
is_unread WriteFault = false
is_unread TooLong = false
is_unread Unchanged = false

-- by its end, where that is told
abbrev pub ended_by : Option ChildEnd → Ended
ended_by (Some (child.Status n)) = Status n
ended_by (Some (child.Signal n)) = Signal n
ended_by (Some child.Closed) = Unseen
ended_by None = Lost

abbrev pub ended_of : Conversation → Ended
ended_of c = if c.silent then Silent else if is_unread c.end then Lost else ended_by c.child

-- where the role is known to stop at this event, and the honest case got so far
abbrev pub seen_of : Conversation → (due : Option ℕ) → (reached : ℕ) → Seen
seen_of c due reached = record {
  due = due;
  more = c.behind;
  loose = c.loose || is_no_message c.end;
  refused = is_refused c.end;
  ended = ended_of c;
  reached = reached;
}
