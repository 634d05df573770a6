-- What a conversation in a case says of the program that plays a role.
use Rattle.std.specs.Prelude.{◌≡◌, ℕ, ◌+◌, ◌==◌, ◌&&◌, nat_le, nat_lt, not, List, [], ◌∷◌, length, map, drop, Bool, true, false, IsTrue, Option, Some, None, if◌then◌else◌}
use Rattle.std.specs.List.{AllByRecursion, position_from}
use Rattle.std.specs.Option.{option_map_or}
use Rattle.anb_base.specs.Bytes.{IsBytes}
use Rattle.anb_plays.specs.Plays.{End, stopped, waiting, done, Played, Play}
use Rattle.anb_protocol.specs.Plays.{meaning_of}
use Rattle.anb_transcript.specs.Replays.{arrivals_of, messages_of}
use Rattle.anb_transcript.specs.declared.transcript.TranscriptLine.{TranscriptLine}
use Rattle.anb_transcript.specs.declared.transcript.TranscriptLine.TheVariants.{In, Out}
use Rattle.anb_transcript.specs.declared.following.Due.TheVariants.{Send, Receive, End as Over}
use Rattle.anb_transcript.specs.declared.following.ReplayEnd.{ReplayEnd}
use Rattle.anb_transcript.specs.declared.following.ReplayEnd.TheVariants.{Follows, Differs, Short, Stopped, NoMemory}
use Rattle.anb_judge.specs.Verdicts.{Judged, Judges, IsBegun, in_place, is_said, line_bytes, own_plan, refused_at, sides}
use Rattle.anb_verdict.specs.declared.seen.Ended.{Ended}
use Rattle.anb_verdict.specs.declared.seen.Ended.TheVariants.{Status, Signal, Unseen, Silent, Lost}
use Rattle.anb_verdict.specs.declared.seen.Seen.{Seen}
use Rattle.anb_verdict.specs.declared.verdict.Verdict.{Verdict}
use Rattle.anb_verdict.specs.declared.verdict.Verdict.TheVariants as says

-- ---- what is seen of the program is what the role does

-- the first message that the role says behind an event
abbrev pub next_said : List Bool → ℕ → Option ℕ
next_said sides event = position_from (λ said. said) (event + 1) (drop event sides)

abbrev pub is_there : Option ℕ → Bool
is_there (Some n) = true
is_there None = false

-- How a program that plays the role may end: with the status 0 where the play is over. At a stop it is another one, or any
-- where the role would say something behind the event: that this doesn't come shows the stop. Where its end isn't seen,
-- nothing is asked of it.
abbrev pub MayEnd : List Bool → End → Ended → Type 0
MayEnd sides done (Status n) = n ≡ 0
MayEnd sides (stopped event at) (Status n) = n ≡ 0 → is_there (next_said sides event) ≡ true
MayEnd sides done Unseen = Unit {0}
MayEnd sides (stopped event at) Unseen = Unit {0}
MayEnd sides _ _ = ⊥

-- For some draws the role says these messages and no others over what came to it, stops at an event or comes to its end,
-- and a program that plays it may end so.
pub record IsRoles (judged : Judged) (seen : Seen) : Type 0 where
  pub draw : ℕ → List ℕ
  pub drawn : (i : ℕ) → IsTrue ((meaning_of judged.protocol).is_value (draw i))
  pub played : Played (List ℕ)
  pub play : Play (meaning_of judged.protocol) draw (own_plan judged) judged.initial (arrivals_of judged.lines) played
  pub says : messages_of judged.lines ≡ played.sent
  pub no_more : seen.more ≡ 0
  pub whole : played.end ≡ done → seen.loose ≡ false
  pub ends : MayEnd (sides (own_plan judged)) played.end seen.ended

-- ---- the verdict, by what is answered to who sees the role

-- Where it is known that the role stops at an event whatever it draws, and these lines come to it, it stops there; unless
-- a line before is refused.
abbrev pub stops_when_due : Option ℕ → (lines : ℕ) → ReplayEnd → ReplayEnd
stops_when_due None lines end = end
stops_when_due (Some due) lines end =
    if nat_le due lines && option_map_or (λ n. nat_le due n) (refused_at end) true
    then Stopped (record { event = due; at = 0 }) due
    else end

-- how many messages of the role came behind an event: in the lines, and behind them
abbrev pub came_behind : ℕ → List TranscriptLine → (more : ℕ) → ℕ
came_behind event lines more = length (messages_of (drop event lines)) + more

-- by its status, or this where its end isn't seen, or that it ended otherwise
abbrev pub by_end : (ℕ → Verdict) → (unseen : Verdict) → Ended → Verdict
by_end f unseen (Status n) = f n
by_end f unseen (Signal n) = says.Signal n
by_end f unseen Unseen = unseen
by_end f unseen Silent = says.Silent
by_end f unseen Lost = says.Lost

-- a message came where it must stop: the next one that it says, or one that isn't narrated
abbrev pub lax_message : Option ℕ → (stop : ℕ) → Verdict
lax_message (Some event) stop = says.LaxMessage event stop
lax_message None stop = says.LaxUnnarrated stop

-- It stopped where it must. The status 0 tells that it didn't, where nothing else can tell; and the stop tells nothing
-- where in the honest case it got no further.
abbrev pub stop_by_status : Option ℕ → (stop reached status : ℕ) → Verdict
stop_by_status next stop reached status =
    if status == 0 && not (is_there next) then says.LaxEnd stop
    else if nat_le reached stop then says.Skipped
    else says.Good

-- And where its end isn't seen: that it stopped is seen only by the next message, which doesn't come.
abbrev pub stop_unseen : Option ℕ → (stop reached : ℕ) → Verdict
stop_unseen next stop reached =
    if not (is_there next) then says.NotSeen
    else if nat_le reached stop then says.Skipped
    else says.Good

abbrev pub at_stop : List Bool → List TranscriptLine → Seen → ℕ → Verdict
at_stop sides lines seen stop =
    if nat_lt 0 (came_behind stop lines seen.more) then lax_message (next_said sides stop) stop
    else by_end (stop_by_status (next_said sides stop) stop seen.reached) (stop_unseen (next_said sides stop) stop seen.reached) seen.ended

-- the lines are its play, as far as they go: it ended before this event
abbrev pub at_short : List Bool → Seen → ℕ → Verdict
at_short sides seen event =
    if is_said sides event then by_end (λ n. says.StrictMessage event n) (says.StrictUnseen event) seen.ended
    else by_end (λ n. says.StrictEnd n) says.Lost seen.ended

-- and they go to its end
abbrev pub at_over : Seen → Verdict
at_over seen =
    if nat_lt 0 seen.more then says.Unnarrated
    else if seen.loose then says.Loose
    else by_end (λ n. if n == 0 then says.Good else says.StrictEnd n) says.Good seen.ended

-- what the partner refused is the last line
abbrev pub unless_refused : Seen → (lines : ℕ) → Verdict → Verdict
unless_refused seen lines verdict = if seen.refused then says.Wrong lines else verdict

abbrev pub verdict_at : List Bool → List TranscriptLine → Seen → ReplayEnd → Verdict
verdict_at sides lines seen (Stopped halt event) = at_stop sides lines seen event
verdict_at sides lines seen (Differs event (Send message)) = says.Wrong event
verdict_at sides lines seen (Differs event Receive) = says.Unnarrated
verdict_at sides lines seen (Differs event Over) = says.Unnarrated
verdict_at sides lines seen (Short event) = unless_refused seen (length lines) (at_short sides seen event)
verdict_at sides lines seen Follows = unless_refused seen (length lines) (at_over seen)
verdict_at sides lines seen NoMemory = says.Lost

abbrev pub verdict_of : List Bool → ReplayEnd → List TranscriptLine → Seen → Verdict
verdict_of sides end lines seen = verdict_at sides lines seen (stops_when_due seen.due (length lines) end)

-- the verdict on a conversation, by what comes of its lines
pub record IsVerdict (judged : Judged) (seen : Seen) (verdict : Verdict) : Type 0 where
  pub end : ReplayEnd
  pub judges : Judges judged end
  pub is : verdict ≡ verdict_of (sides (own_plan judged)) end judged.lines seen

-- nothing is said against the program
abbrev pub is_good : Verdict → Bool
is_good says.Good = true
is_good says.Skipped = true
is_good says.NotSeen = true
is_good says.Unchanged = true
is_good says.TooLong = true
is_good _ = false

-- ---- how far the honest case got

-- the number of the last message that the role said, from 1, where so many lines come before these
abbrev pub last_said : (before last : ℕ) → List TranscriptLine → ℕ
last_said before last [] = last
last_said before last (In arrival ∷ lines) = last_said (before + 1) last lines
last_said before last (Out message ∷ lines) = last_said (before + 1) (before + 1) lines

-- behind all of its lines where all was good, and else up to the last message
abbrev pub reached_by : Verdict → List TranscriptLine → ℕ
reached_by verdict lines = if is_good verdict then length lines + 1 else last_said 0 0 lines

-- ---- what is known of a conversation

-- What the role begins with, hears and says are bytes, and each line goes the way that is due. Where it is known that the
-- role stops, it hears something, and no draws go on over it; and none allow what the partner refuses.
pub record IsKnown (judged : Judged) (seen : Seen) : Type 0 where
  pub values : AllByRecursion IsBytes judged.initial
  pub bytes : AllByRecursion IsBytes (map line_bytes judged.lines)
  pub placed : in_place (sides (own_plan judged)) judged.lines ≡ map line_bytes judged.lines
  pub hears : (event : ℕ) → seen.due ≡ Some event → is_said (sides (own_plan judged)) event ≡ false
  pub stops : (event : ℕ) → seen.due ≡ Some event → IsBegun judged event → ⊥
  pub refuses : seen.refused ≡ true → IsBegun judged (length judged.lines) → ⊥
