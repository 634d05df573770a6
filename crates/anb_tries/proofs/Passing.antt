-- A program that plays its role passes.
use Rattle.std.proofs.Common.{◌≡◌, ◌≢◌, ℕ, zero, suc, ◌+◌, ◌≤◌, ◌<◌, ◌&&◌, ◌||◌, ◌⊎◌, List, [], ◌∷◌, ◌++◌, length, map, take, Bool, true, false, Option, Some, None, IfSome, Result, Ok, refl, sym, ap, ◌∙◌, subst, inl, inr, append_assoc, append-nil, arith}
use Rattle.std.specs.Prelude.{if◌then◌else◌, nat_le}
use Rattle.std.proofs.lemmas.Bool.Decides.{nat_tests}
use Rattle.std.proofs.lemmas.List.{take-map}
use Rattle.std.specs.List.{AllByRecursion}
use Rattle.anb_base.specs.Bytes.{is_bytes-IsBytes}
use Rattle.anb_base.specs.Moves.{AtEnd, Took}
use Rattle.anb_base.specs.Wires.{WireState}
use Rattle.anb_base.specs.declared.TheConstants.{ARRIVAL}
use Rattle.anb_frame.specs.Frames.{frames, length_bytes}
use Rattle.anb_frame.specs.Cuts.{Cut, End}
use Rattle.anb_algebra.proofs.Picks.{tests}
use Rattle.anb_lemmas.proofs.Bools.{never_both}
use Rattle.anb_lemmas.proofs.Numbers.{below_or_not}
use Rattle.anb_machine.specs.declared.turn.Halt.{Halt}
use Rattle.anb_plays.specs.Plans.{Event, know, fresh, send, recv, known, FreshIsNew}
use Rattle.anb_plays.specs.Plays.{End as PlayEnd, stopped, waiting, done, Played, Walk, Play}
use Rattle.anb_protocol.specs.Laws.{KnowsFirst}
use Rattle.anb_protocol.specs.Plays.{meaning_of}
use Rattle.anb_term.specs.Agree.{Agree}
use Rattle.anb_term.specs.Statements.{NewAtomAgrees}
use Rattle.anb_term.specs.Tree.{Tree}
use Rattle.anb_term.specs.Value.{Meaning}
use Rattle.anb_transcript.specs.declared.following.Due.{Due}
use Rattle.anb_transcript.specs.declared.following.Due.TheVariants.{Send}
use Rattle.anb_transcript.specs.declared.following.ReplayEnd.TheVariants.{Differs, Stopped}
use Rattle.anb_transcript.specs.declared.transcript.TranscriptLine.{TranscriptLine}
use Rattle.anb_transcript.specs.declared.transcript.TranscriptLine.TheVariants.{In, Out}
use Rattle.anb_transcript.specs.Replays.{arrivals_of, due_after, messages_of}
use Rattle.anb_judge.specs.Observed.{hears, observed, over, says_in}
use Rattle.anb_judge.specs.Verdicts.{IsBegun, due_at, is_said, line_bytes, own_plan, refused_at, sides, up_to, verdict}
use Rattle.anb_judge.proofs.Begun.{cut_known}
use Rattle.anb_partner.specs.Laws.{PartnersPlay}
use Rattle.anb_partner.specs.Talks.{Ends, IsLoose, IsShort}
use Rattle.anb_partner.specs.declared.conversation.Conversation.{Conversation}
use Rattle.anb_partner.specs.declared.conversation.TalkEnd.{TalkEnd}
use Rattle.anb_partner.specs.declared.conversation.TalkEnd.TheVariants.{Done, Refused, Missing, Cut as WasCut, Long, ReadFault, WriteFault, TooLong, Unchanged}
use Rattle.anb_partner.specs.declared.trials.ChildEnd.{ChildEnd}
use Rattle.anb_verdict.specs.declared.seen.Ended.TheVariants.{Silent, Lost}
use Rattle.anb_verdict.specs.declared.seen.Seen.{Seen}
use Rattle.anb_verdict.specs.Laws.{CanBeTold, LinesAreExact}
use Rattle.anb_verdict.specs.Verdicts.{IsKnown, IsRoles, IsVerdict, MayEnd, at_stop, is_good, stops_when_due, verdict_at, verdict_of}
use Rattle.anb_tries.specs.Seen.{ended_by, ended_of, is_no_message, is_refused, is_unread}
use Rattle.anb_tries.specs.Tries.{IsTriedVerdict}
use Rattle.anb_tries.specs.Laws.{Attempt, DueIsKnown, IsAttempt, IsRead, PlaysRole, StopsAreSeen, judged, seen}
use Rattle.anb_tries.proofs.Along.{Fits, next}
use Rattle.anb_tries.proofs.Framed.{LeftOf, cut_behind, frames_no_length, frames_no_part, left_of, no_length, no_part, none_framed, none_left, whole_cut}
use Rattle.anb_tries.proofs.Placed.{R, hears_next, over_next, own, placed, ss}
use Rattle.anb_tries.proofs.Stopping.{StopsThere, begun_from, same_event, stops_at_start, stops_over}

abbrev Text : Type 0
Text = List ℕ

-- ---- the role's play over the lines

never_empty : (xs rest : List Text) (x : Text) → [] ≡ xs ++ x ∷ rest → ⊥
never_empty [] rest x is = cc
never_empty (y ∷ xs) rest x is = cc

sends_none : (p : Played Text) (xs rest : List Text) (x : Text) → p.sent ≡ [] → p.sent ≡ xs ++ x ∷ rest → ⊥
sends_none p xs rest x none more = never_empty xs rest x (sym none ∙ more)

module _ (m : Meaning Text) (draw : ℕ → Text) (x : Text) (rest : List Text) where
  -- where it says more than the lines have, it is to say something next
  says_next : (es : List Event) (F : List Tree) (vs : List Text) (k i : ℕ) (ls : List TranscriptLine) (p : Played Text) → Fits (sides es) ls
      → Walk m draw es F vs k i (arrivals_of ls) p → p.sent ≡ messages_of ls ++ x ∷ rest → next (sides es) ls ≡ Some true
  says_next [] F vs k i [] p fits walk more = absurd (sends_none p [] rest x (ap (λ (q : Played Text). q.sent) walk) more)
  says_next [] F vs k i (l ∷ ls) p fits walk more = absurd (cc)
  says_next (know t ∷ es) F vs k i ls p fits walk more = says_next es F vs k i ls p fits walk more
  says_next (fresh t ∷ es) F vs k i ls p fits walk more = says_next es (F ++ t ∷ []) (vs ++ draw i ∷ []) k (i + 1) ls p fits walk more
  says_next (send t ∷ es) F vs k i [] p fits walk more = refl
  says_next (send t ∷ es) F vs k i (In b ∷ ls) p fits walk more = absurd (cc)
  says_next (send t ∷ es) F vs k i (Out b ∷ ls) p fits walk more =
      let q = walk.1 in
      let first : p.sent ≡ walk.0 ∷ q.sent = ap (λ (q : Played Text). q.sent) walk.4 in
      let later : q.sent ≡ messages_of ls ++ x ∷ rest = cc in
      says_next es F vs (k + 1) i ls q (cc) walk.3 later
  says_next (recv t ∷ es) F vs k i [] p fits walk more = absurd (sends_none p [] rest x (ap (λ (q : Played Text). q.sent) walk) more)
  says_next (recv t ∷ es) F vs k i (Out b ∷ ls) p fits walk more = absurd (cc)
  says_next (recv t ∷ es) F vs k i (In b ∷ ls) p fits (inl h) more = says_next es (F ++ t ∷ []) (vs ++ b ∷ []) (k + 1) i ls p (cc) h.1 more
  says_next (recv t ∷ es) F vs k i (In b ∷ ls) p fits (inr h) more = absurd (sends_none p (messages_of ls) rest x (ap (λ (q : Played Text). q.sent) h.1) more)

  play_says_next : (es : List Event) (init : List Text) (ls : List TranscriptLine) (p : Played Text) → Fits (sides es) ls
      → Play m draw es init (arrivals_of ls) p → p.sent ≡ messages_of ls ++ x ∷ rest → next (sides es) ls ≡ Some true
  play_says_next es init ls p fits (inl h) more = says_next es (known es) init 0 0 ls p fits h.1 more
  play_says_next es init ls p fits (inr h) more = absurd (sends_none p (messages_of ls) rest x (ap (λ (q : Played Text). q.sent) h.1) more)

short_messages : (ls : List TranscriptLine) → AllByRecursion IsShort ls → AllByRecursion (λ b. length b ≤ ARRIVAL) (messages_of ls)
short_messages [] all = tt
short_messages (In b ∷ ls) all = short_messages ls all.1
short_messages (Out b ∷ ls) all = (all.0, short_messages ls all.1)

-- ---- ends

read_all : (end : TalkEnd) → end ≢ ReadFault → is_unread end ≡ false
read_all Done read = refl
read_all Refused read = refl
read_all Missing read = refl
read_all (WasCut have need) read = refl
read_all (Long len) read = refl
read_all ReadFault read = absurd (read refl)
read_all WriteFault read = refl
read_all TooLong read = refl
read_all Unchanged read = refl

was_refused : (end : TalkEnd) → is_refused end ≡ true → end ≡ Refused
was_refused Refused is = refl
was_refused Done is = absurd (cc)
was_refused Missing is = absurd (cc)
was_refused (WasCut have need) is = absurd (cc)
was_refused (Long len) is = absurd (cc)
was_refused ReadFault is = absurd (cc)
was_refused WriteFault is = absurd (cc)
was_refused TooLong is = absurd (cc)
was_refused Unchanged is = absurd (cc)

pub same_end : (o told : Option ChildEnd) (e f : ChildEnd) → IfSome o (λ end. IfSome told (λ t. end ≡ t)) → o ≡ Some e → told ≡ Some f → e ≡ f
same_end None told e f is had was = absurd (cc)
same_end (Some x) None e f is had was = absurd (cc)
same_end (Some x) (Some y) e f is had was = cc

pub ended_is : (silent unread : Bool) (o : Option ChildEnd) (end : ChildEnd) → silent ≡ false → unread ≡ false → o ≡ Some end
    → (if silent then Silent else if unread then Lost else ended_by o) ≡ ended_by (Some end)
ended_is true unread o end loud read is = absurd (never_both true refl loud)
ended_is false true o end loud read is = absurd (never_both true refl read)
ended_is false false o end loud read is = ap ended_by is

first_none : (xs ys : Text) → [] ≡ xs ++ ys → [] ≡ xs
first_none [] ys is = refl
first_none (x ∷ xs) ys is = absurd (cc)

not_both : None ≡ Some true → ⊥
not_both e = cc

not_said : Some false ≡ Some true → ⊥
not_said e = cc

false_or : (b c : Bool) → (b ≡ true → ⊥) → c ≡ false → (b || c) ≡ false
false_or true c never is = absurd (never refl)
false_or false c never is = is

-- the child's pipes behind the lines, and behind the talk
abbrev pub behind : (a : Attempt) → IsAttempt a → WireState
behind a is = is.converses.talks.mid

abbrev pub after : (a : Attempt) → IsAttempt a → WireState
after a is = is.converses.mid

-- a source that is at its end has nothing left
pub ended_at : (o : Option Text) (xs : Text) → o ≡ Some xs → AtEnd o → xs ≡ []
ended_at o xs is at = subst AtEnd is at

-- ---- what is left of an output of these messages

module _ (a : Attempt) (is : IsAttempt a) (sent : List Text) (short : AllByRecursion (λ message. length message ≤ ARRIVAL) sent) (output : a.old.pipes.left ≡ Some (frames sent)) where
  -- behind the lines
  pub left_behind : LeftOf (frames sent) (behind a is).left (frames (messages_of a.conversation.lines))
  left_behind =
      let said = messages_of a.conversation.lines in
      left_of (frames sent) (behind a is).left (frames said) (subst (λ o. Took o (behind a is).left (frames said)) output is.converses.talks.passed.took)

  -- the lines have the first of the messages, and all else is left
  pub first_lines : (rest : List Text) × (sent ≡ messages_of a.conversation.lines ++ rest) × Cut ARRIVAL left_behind.left rest End
  first_lines =
      cut_behind (messages_of a.conversation.lines) left_behind.left sent End (short_messages a.conversation.lines is.converses.talks.short)
      (subst (λ x. Cut ARRIVAL x sent End) left_behind.all (whole_cut sent short))

  -- behind what was taken at the talk's end
  pub taken_last : (part : Text) → Took (behind a is).left (after a is).left part → LeftOf left_behind.left (after a is).left part
  taken_last part took = left_of left_behind.left (after a is).left part (subst (λ o. Took o (after a is).left part) left_behind.is took)

module _ (a : Attempt) (is : IsAttempt a) (law : PartnersPlay a.script.protocol) (read : IsRead a) (unrefused : a.conversation.end ≢ Refused) (plays : PlaysRole a) where
  abbrev c : Conversation
  c = a.conversation

  abbrev sent : List Text
  sent = plays.played.sent

  abbrev said : List Text
  said = messages_of c.lines

  abbrev due : Result Due Halt
  due = due_after (R a is law) (own a is law)

  abbrev left : Text
  left = (left_behind a is sent plays.short plays.output).left

  behind_has : (behind a is).left ≡ Some left
  behind_has = (left_behind a is sent plays.short plays.output).is

  -- ---- nothing is left behind the lines

  module _ (x : Text) (rest : List Text) (more : sent ≡ said ++ x ∷ rest) (here : Cut ARRIVAL left (x ∷ rest) End) where
    is_next : next (ss a is law) c.lines ≡ Some true
    is_next = play_says_next (meaning_of a.script.protocol) plays.draw x rest (own_plan (judged a)) a.initial c.lines plays.played (placed a is law) plays.play more

    heard_next : (b : Text) → due ≡ Ok (Send b) → ⊥
    heard_next b is_due = not_said (sym (hears_next a is law b is_due) ∙ is_next)

    never : (end : TalkEnd) → c.end ≡ end → Ends a.wrong due (behind a is) (after a is) end → ⊥
    never Done is_end e = not_both (sym (over_next a is law e.0) ∙ is_next)
    never Refused is_end e = unrefused is_end
    never Missing is_end e =
        let none = ended_at (behind a is).left left behind_has e.2 in
        let whole : [] ≡ frames (x ∷ rest) ++ here.0 = sym none ∙ here.1 in
        let empty : x ∷ rest ≡ [] = (none_framed (x ∷ rest) here.0 whole).0 in absurd (cc)
    never (WasCut have need) is_end e =
        let l = taken_last a is sent plays.short plays.output e.1.0 e.1.1.took in
        frames_no_part left e.1.0 l.left (x ∷ rest) have need here l.all (ended_at (after a is).left l.left l.is e.2) e.1.2
    never (Long len) is_end e = (let l = taken_last a is sent plays.short plays.output (length_bytes len) e.1.took in frames_no_length left l.left (x ∷ rest) len here l.all e.2 (is.long len is_end))
    never ReadFault is_end e = read.read is_end
    never WriteFault is_end e = heard_next e.0.0 e.0.1
    never TooLong is_end e = heard_next e.0.0 e.0.1
    never Unchanged is_end e = heard_next e.0.0 e.0.1

  none_more : (rest : List Text) → sent ≡ said ++ rest → Cut ARRIVAL left rest End → (sent ≡ said) × (left ≡ [])
  none_more [] all here = (all ∙ append-nil said, none_left left here)
  none_more (x ∷ rest) all here = absurd (never x rest all here c.end refl is.converses.talks.ends)

  all_said : (sent ≡ said) × (left ≡ [])
  all_said = (let l = first_lines a is sent plays.short plays.output in none_more l.0 l.1 l.2)

  behind_is : (behind a is).left ≡ Some []
  behind_is = behind_has ∙ ap Some all_said.1

  -- nor behind the talk
  after_talk : (end : TalkEnd) → c.end ≡ end → Ends a.wrong due (behind a is) (after a is) end → ((after a is).left ≡ Some []) × (is_no_message end ≡ false)
  after_talk Done is_end e = (e.1.took.left ∙ behind_is, refl)
  after_talk Refused is_end e = absurd (unrefused is_end)
  after_talk Missing is_end e = (e.1.took.left ∙ behind_is, refl)
  after_talk (WasCut have need) is_end e =
      let l = taken_last a is sent plays.short plays.output e.1.0 e.1.1.took in
      absurd (no_part e.1.0 have need e.1.2 (sym (first_none e.1.0 l.left (sym all_said.1 ∙ l.all))))
  after_talk (Long len) is_end e = (let l = taken_last a is sent plays.short plays.output (length_bytes len) e.1.took in absurd (no_length len l.left (sym all_said.1 ∙ l.all)))
  after_talk ReadFault is_end e = absurd (read.read is_end)
  after_talk WriteFault is_end e = (e.1.left ∙ behind_is, refl)
  after_talk TooLong is_end e = (e.1.took.left ∙ behind_is, refl)
  after_talk Unchanged is_end e = (e.1.took.left ∙ behind_is, refl)

  ends_here : ((after a is).left ≡ Some []) × (is_no_message c.end ≡ false)
  ends_here = after_talk c.end refl is.converses.talks.ends

  drained : LeftOf [] a.new.pipes.left (frames is.converses.drained.messages ++ is.converses.drained.rest)
  drained = left_of [] a.new.pipes.left (frames is.converses.drained.messages ++ is.converses.drained.rest)
      (subst (λ o. Took o a.new.pipes.left (frames is.converses.drained.messages ++ is.converses.drained.rest)) ends_here.0 is.converses.drained.took)

  nothing_drained : (is.converses.drained.messages ≡ []) × ([] ≡ is.converses.drained.rest)
  nothing_drained =
      let d = is.converses.drained in
      let none = none_framed d.messages (d.rest ++ drained.left) (drained.all ∙ append_assoc (frames d.messages) d.rest drained.left) in
      (none.0, first_none d.rest drained.left (sym none.1))

  no_more : c.behind ≡ 0
  no_more = sym is.converses.drained.count ∙ ap length nothing_drained.0

  never_loose : c.loose ≡ true → ⊥
  never_loose loose = by (is.converses.drained.loose loose) where
    by : IsLoose a.new.pipes is.converses.drained.rest → ⊥
    by (inl h) = no_part is.converses.drained.rest h.0 h.1 h.2 (sym nothing_drained.1)
    by (inr h) = no_length h.0 [] (nothing_drained.1 ∙ h.1 ∙ sym (append-nil (length_bytes h.0)))

  whole : (c.loose || is_no_message c.end) ≡ false
  whole = false_or c.loose (is_no_message c.end) never_loose ends_here.1

  -- ---- so it is what the role does

  ended : ended_of c ≡ ended_by (Some plays.end)
  ended =
      let same = same_end c.child a.old.ends read.end plays.end is.converses.child read.ended plays.ends in
      ended_is c.silent (is_unread c.end) c.child plays.end read.loud (read_all c.end read.read) (read.ended ∙ ap Some same)

  abbrev roles : IsRoles (judged a) (seen a)
  roles = record {
    draw = plays.draw;
    drawn = λ i. is_bytes-IsBytes (plays.draw i) (plays.drawn i);
    played = plays.played;
    play = plays.play;
    says = sym all_said.0;
    no_more = no_more;
    whole = λ over. whole;
    ends = subst (λ e. MayEnd (sides (own_plan (judged a))) plays.played.end e) (sym ended) plays.may;
  }

  known_of : DueIsKnown a → IsKnown (judged a) (seen a)
  known_of due = record {
    values = is.values;
    bytes = is.lines;
    placed = placed a is law;
    hears = due.hears;
    stops = due.stops;
    refuses = λ refused begun. unrefused (was_refused c.end refused);
  }

-- the verdict is good where that on the lines is, and where nothing was tried
good_of : (a : Attempt) (end : TalkEnd) → IsTriedVerdict (judged a) (seen a) end a.verdict → (IsVerdict (judged a) (seen a) a.verdict → is_good a.verdict ≡ true) → is_good a.verdict ≡ true
good_of a Unchanged is good = ap is_good is
good_of a TooLong is good = ap is_good is
good_of a Done is good = good is
good_of a Refused is good = good is
good_of a Missing is good = good is
good_of a (WasCut have need) is good = good is
good_of a (Long len) is good = good is
good_of a ReadFault is good = good is
good_of a WriteFault is good = good is

-- where it doesn't stop, or this was known beforehand
pub known_passes : (a : Attempt) → PartnersPlay a.script.protocol → LinesAreExact a.script.protocol → IsAttempt a → DueIsKnown a → IsRead a → a.conversation.end ≢ Refused → (plays : PlaysRole a)
    → ((event at : ℕ) → plays.played.end ≡ stopped event at → a.due ≡ Some event) → is_good a.verdict ≡ true
known_passes a law exact is due read unrefused plays stops =
    good_of a a.conversation.end is.verdict (λ v. (exact (judged a) (seen a) a.verdict refl (known_of a is law read unrefused plays due) v).0
    (roles a is law read unrefused plays) stops)

-- ---- where who sees it stops there too

some_event : (e f : ℕ) → ◌≡◌ {A = Option ℕ} (Some e) (Some f) → e ≡ f
some_event e f is = cc

-- a stop is told as it is by whatever is known of stops that aren't earlier
told_at : (ss : List Bool) (lines : List TranscriptLine) (s : Seen) (o : Option ℕ) (f : ℕ) → ((e : ℕ) → o ≡ Some e → e ≤ length lines → f ≤ e)
    → verdict_at ss lines s (stops_when_due o (length lines) (Stopped (record { event = f; at = 0 }) f)) ≡ at_stop ss lines s f
told_at ss lines s None f late = refl
told_at ss lines s (Some e) f late = by (nat_le e (length lines)) (nat_le e f) refl refl where
  by : (b c : Bool) → nat_le e (length lines) ≡ b → nat_le e f ≡ c
      → verdict_at ss lines s (if b && c then Stopped (record { event = e; at = 0 }) e else Stopped (record { event = f; at = 0 }) f) ≡ at_stop ss lines s f
  by false c few before = refl
  by true false few before = refl
  by true true few before =
      let within : e ≤ length lines = grind (arith, nat_tests, few) in
      let most : e ≤ f = grind (arith, nat_tests, before) in
      let same : e ≡ f = omega (arith, most, late e refl within) in ap (at_stop ss lines s) same

module _ (a : Attempt) (is : IsAttempt a) (law : PartnersPlay a.script.protocol) (read : IsRead a) (unrefused : a.conversation.end ≢ Refused) (plays : PlaysRole a) (first : KnowsFirst (own_plan (judged a))) (due : DueIsKnown a) where
  abbrev lines : List TranscriptLine
  lines = a.conversation.lines

  abbrev plan : List Event
  plan = own_plan (judged a)

  abbrev mine : IsRoles (judged a) (seen a)
  mine = roles a is law read unrefused plays

  -- before it stops its lines are begun
  begun : (f at n : ℕ) → plays.played.end ≡ stopped f at → n < f → n ≤ length lines → IsBegun (judged a) n
  begun f at n end before few = record {
    count = few;
    placed = ap (take n) (placed a is law) ∙ take-map line_bytes n lines;
    conversation = record { draw = mine.draw; drawn = mine.drawn; play = by plays.play };
  } where
    m : Meaning Text
    m = meaning_of a.script.protocol

    by : Play m plays.draw plan a.initial (arrivals_of lines) plays.played → Play m plays.draw (up_to n plan) a.initial (hears (up_to n plan) (map line_bytes (take n lines))) (over (says_in (up_to n plan) (map line_bytes (take n lines))))
    by (inr h) = let none = same_event 0 0 f at (sym (ap (λ (q : Played Text). q.end) h.1) ∙ end) in absurd (omega (arith, none, before))
    by (inl h) =
        let walk = begun_from m plays.draw plan (known plan) a.initial 0 0 n lines plays.played f at (placed a is law) few end (omega (arith, before)) mine.says h.1 in
        inl (subst (λ F. Agree m F a.initial × Walk m plays.draw (up_to n plan) F a.initial 0 0 (hears (up_to n plan) (map line_bytes (take n lines))) (over (says_in (up_to n plan) (map line_bytes (take n lines)))))
        (sym (cut_known n plan first)) (h.0, walk))

  module _ (exact : LinesAreExact a.script.protocol) (v : IsVerdict (judged a) (seen a) a.verdict) (f at : ℕ) (end : plays.played.end ≡ stopped f at) (there : StopsThere (sides plan) f f v.judges.played) where
    -- as if the stop had been known beforehand
    abbrev with_due : Seen
    with_due = record (seen a) { due = Some f }

    judged_so : v.end ≡ Stopped (record { event = f; at = 0 }) f
    judged_so =
        v.judges.is ∙ ap (verdict (sides plan) (length lines)) there.end
        ∙ ap (λ b. if b then Differs f (due_at (sides plan) f) else Stopped (record { event = f; at = 0 }) f) there.heard

    known_so : IsKnown (judged a) with_due
    known_so =
        let k = known_of a is law read unrefused plays due in record {
          values = k.values;
          bytes = k.bytes;
          placed = k.placed;
          hears = λ event at_event. subst (λ e. is_said (sides plan) e ≡ false) (some_event f event at_event) there.heard;
          stops = λ event at_event b. v.judges.none event (ap refused_at judged_so ∙ at_event) b;
          refuses = k.refuses;
        }

    abbrev roles_so : IsRoles (judged a) with_due
    roles_so = record {
      draw = mine.draw;
      drawn = mine.drawn;
      played = mine.played;
      play = mine.play;
      says = mine.says;
      no_more = mine.no_more;
      whole = mine.whole;
      ends = mine.ends;
    }

    -- no stop is known before
    late : (e : ℕ) → a.due ≡ Some e → e ≤ length lines → f ≤ e
    late e is_due few = by (below_or_not e f) where
      by : (e < f) ⊎ (f ≤ e) → f ≤ e
      by (inr most) = most
      by (inl less) = absurd (due.stops e is_due (begun f at e end less few))

    never_before : (e : ℕ) → Some f ≡ Some e → e ≤ length lines → f ≤ e
    never_before e same few = let is = some_event f e same in omega (arith, is)

    pub seen_passes : is_good a.verdict ≡ true
    seen_passes =
        let ss = sides plan in
        let good = (exact (judged a) with_due (verdict_of ss v.end lines with_due) refl known_so (record { end = v.end; judges = v.judges; is = refl })).0 roles_so
        (λ event by stops. ap Some (same_event f at event by (sym end ∙ stops))) in
        let told : verdict_of ss v.end lines with_due ≡ at_stop ss lines (seen a) f =
        ap (λ x. verdict_at ss lines with_due (stops_when_due (Some f) (length lines) x)) judged_so ∙ told_at ss lines with_due (Some f) f never_before in
        let here : a.verdict ≡ at_stop ss lines (seen a) f =
        v.is ∙ ap (λ x. verdict_at ss lines (seen a) (stops_when_due a.due (length lines) x)) judged_so ∙ told_at ss lines (seen a) a.due f late in
        ap is_good (here ∙ sym told) ∙ good

-- where it stops, this was known beforehand, or who sees it stops there too
pub right_passes : (a : Attempt) → PartnersPlay a.script.protocol → LinesAreExact a.script.protocol → NewAtomAgrees (meaning_of a.script.protocol) → FreshIsNew (own_plan (judged a)) → KnowsFirst (own_plan (judged a))
    → IsAttempt a → DueIsKnown a → IsRead a → a.conversation.end ≢ Refused → (plays : PlaysRole a) → StopsAreSeen a plays → is_good a.verdict ≡ true
right_passes a law exact new_atom new first is due read unrefused plays stops = by plays.played.end refl where
  m : Meaning Text
  m = meaning_of a.script.protocol

  plan : List Event
  plan = own_plan (judged a)

  lines : List TranscriptLine
  lines = a.conversation.lines

  mine : IsRoles (judged a) (seen a)
  mine = roles a is law read unrefused plays

  goes : ((event at : ℕ) → plays.played.end ≡ stopped event at → a.due ≡ Some event) → is_good a.verdict ≡ true
  goes known = known_passes a law exact is due read unrefused plays known

  watched : (v : IsVerdict (judged a) (seen a) a.verdict) → Play m plays.draw (observed plan) a.initial (map line_bytes lines) v.judges.played
  watched v = subst (λ xs. Play m plays.draw (observed plan) a.initial xs v.judges.played) (placed a is law) (v.judges.seen plays.draw)

  stops_too : (f at : ℕ) → plays.played.end ≡ stopped f at → ((v : IsVerdict (judged a) (seen a) a.verdict) → StopsThere (sides plan) f f v.judges.played) → is_good a.verdict ≡ true
  stops_too f at end there = good_of a a.conversation.end is.verdict (λ v. seen_passes a is law read unrefused plays first due exact v f at end (there v))

  over_message : (n at : ℕ) → plays.played.end ≡ stopped (suc n) at → (a.due ≡ Some (suc n)) ⊎ CanBeTold (judged a) n → is_good a.verdict ≡ true
  over_message n at end (inl known) = goes (λ event by stop. known ∙ ap Some (same_event (suc n) at event by (sym end ∙ stop)))
  over_message n at end (inr told) = stops_too (suc n) at end (λ v.
      stops_over m plays.draw plays.draw plan a.initial lines plays.played v.judges.played plays.play (watched v) new_atom mine.drawn new first (tests a.initial is.values) (tests (map line_bytes lines) is.lines)
      (placed a is law) [] (mine.says ∙ sym (append-nil plays.played.sent)) n at told.made end)

  at_start : (at : ℕ) → plays.played.end ≡ stopped 0 at → is_good a.verdict ≡ true
  at_start at end = stops_too 0 at end (λ v. record { end = stops_at_start m plays.draw plays.draw plan a.initial lines plays.played v.judges.played plays.play (watched v) at end; heard = refl })

  by : (x : PlayEnd) → plays.played.end ≡ x → is_good a.verdict ≡ true
  by done end = goes (λ event at stop. absurd (let never = sym end ∙ stop in cc))
  by (waiting e) end = goes (λ event at stop. absurd (let never = sym end ∙ stop in cc))
  by (stopped zero at) end = at_start at end
  by (stopped (suc n) at) end = over_message n at end (stops n at end)
