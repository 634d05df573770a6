-- In an attempt in a scene in which a value is made wrong a child that plays the role isn't refused by its partner, if its messages are the
-- scene's: where the code says no others, where it is known to stop, and where the child stops before it could say others.
use Rattle.std.proofs.Common.{◌≡◌, ◌≢◌, ℕ, suc, ◌+◌, ◌≤◌, List, ◌++◌, length, map, take, drop, Some, sym, ap, ◌∙◌, subst, inl, arith, append_assoc, length-append, take-append-drop}
use Rattle.std.proofs.Math.Seq.{take-length}
use Rattle.anb_base.specs.Bytes.{IsBytes}
use Rattle.anb_term.specs.Tree.{Tree}
use Rattle.anb_plays.specs.Codes.{Act}
use Rattle.anb_plays.specs.Honest.{heard}
use Rattle.anb_plays.specs.Plans.{Event}
use Rattle.anb_plays.specs.Plays.{Play, stopped}
use Rattle.anb_protocol.specs.Plays.{event_of, events_of, meaning_of}
use Rattle.anb_transcript.specs.declared.transcript.TranscriptLine.{TranscriptLine}
use Rattle.anb_transcript.specs.Replays.{arrivals_of, messages_of}
use Rattle.anb_judge.specs.Verdicts.{sides}
use Rattle.anb_partner.specs.Plans.{partner_plan}
use Rattle.anb_partner.specs.declared.conversation.TalkEnd.TheVariants.{Refused}
use Rattle.anb_tries.specs.Laws.{Attempt, HearsRight, PlaysRole, StopsAreSeen}
use Rattle.anb_tries.proofs.Along.{Fits}
use Rattle.anb_tries.proofs.Narrated.{arrivals_both, fits_first, messages_both}
use Rattle.anb_tries.proofs.Passing.{first_lines}
use Rattle.anb_tries.proofs.Placed.{own, placed}
use Rattle.anb_tries.proofs.Refusing.{refuses_none}
use Rattle.anb_tries.proofs.Stopping.{same_event}
use Rattle.anb_dues.specs.Laws.{StopsThere}
use Rattle.anb_dues.proofs.Alike.{play_said_few, play_says_alike, play_stops_alike}
use Rattle.anb_dues.proofs.Counting.{said_in}
use Rattle.anb_dues.proofs.Firsts.{Are, Text, are_all, are_taken}
use Rattle.anb_dues.proofs.Labels.{partner_formed}
use Rattle.anb_dues.proofs.Lines.{Came, IsChanged, agrees, claims, hands_formed, knows_formed, names_bytes, of, partner_begins, partner_hears, play, run_with, said_along, said_right, sent_count, with_value, wrong, wrong_is}
use Rattle.anb_dues.proofs.Naming.{named}
use Rattle.anb_dues.proofs.Saying.{SaysFirst}
use Rattle.anb_dues.proofs.Stopped.{IsStopping, Stopping, changed, run_stops, stopping}
use Rattle.anb_dues.proofs.Stopping.{ComesTo, SaysAlong}

module _ (a : Attempt) (acts : List Act) (s : IsChanged a acts) (plays : PlaysRole a) where
  abbrev lines : List TranscriptLine
  lines = a.conversation.lines

  abbrev plan : List Event
  plan = events_of a.script.protocol a.script.role

  -- what it says behind the first lines
  behind : (k : ℕ) → (rest : List Text) × (plays.played.sent ≡ messages_of (take k lines) ++ rest)
  behind k =
      let front = take k lines in
      let back = drop k lines in
      let whole : lines ≡ front ++ back = sym (take-append-drop k lines) in
      let first = first_lines a s.is plays.played.sent plays.short plays.output in
      (messages_of back ++ first.0, first.1 ∙ ap (λ l. l ++ first.0) (ap messages_of whole ∙ messages_both front back) ∙ append_assoc (messages_of front) (messages_of back) first.0)

  -- with any bytes of the names, over which the first lines came, the run says them first
  says : (v : Text) → IsBytes v → (k : ℕ) → Are (λ t. with_value a acts s plays.draw plays.drawn v t) (arrivals_of (take k lines)) a.script.arrivals
      → SaysFirst (run_with a acts s plays.draw plays.drawn v) (messages_of (take k lines))
  says v is_bytes k are =
      let by = λ (t : Tree). with_value a acts s plays.draw plays.drawn v t in
      let front = take k lines in
      let back = drop k lines in
      let r = run_with a acts s plays.draw plays.drawn v in
      let whole : lines ≡ front ++ back = sym (take-append-drop k lines) in
      let fits = fits_first (sides plan) front back (subst (Fits (sides plan)) whole (placed a s.is s.law)) in
      play_says_alike (meaning_of a.script.protocol) plays.draw plan a.initial front (arrivals_of back) (map by (drop (length (arrivals_of front)) a.script.arrivals)) (behind k).0 plays.played r fits
      (subst (λ xs. Play (meaning_of a.script.protocol) plays.draw plan a.initial xs plays.played) (ap arrivals_of whole ∙ arrivals_both front back) plays.play) (behind k).1
      (subst (λ xs. Play (meaning_of a.script.protocol) plays.draw plan a.initial xs r) (sym (are_all by (arrivals_of front) a.script.arrivals are)) (play a acts s plays.draw plays.drawn v is_bytes))

  -- so also with the wrong value that was made
  says_it : (k : ℕ) → Came a acts s plays.draw plays.drawn k → SaysFirst (run_with a acts s plays.draw plays.drawn (wrong a acts s plays.draw plays.drawn)) (messages_of (take k lines))
  says_it k came = says (wrong a acts s plays.draw plays.drawn) (wrong_is a acts s plays.draw plays.drawn) k came.0

  abbrev AreSaid : ℕ → Type 0
  AreSaid k = Are (λ t. of a acts s plays.draw plays.drawn t) (messages_of (take k lines)) a.script.messages

  -- where its messages are the scene's as long as the scene's values came
  module _ (said : (k : ℕ) → Came a acts s plays.draw plays.drawn k → AreSaid k) where
    pub all_came : Came a acts s plays.draw plays.drawn (length lines)
    all_came = claims a acts s plays.draw plays.drawn (length lines) (λ k below came. said k came) (length lines) (omega arith)

    hears : HearsRight a s.is
    hears =
        let all = subst (λ ls. Are (λ t. of a acts s plays.draw plays.drawn t) (messages_of ls) a.script.messages) (take-length lines) (said (length lines) all_came) in
        record {
          atoms = λ n. named a.script.protocol a.script.role plays.draw s.names.atoms (wrong a acts s plays.draw plays.drawn) n;
          bytes = names_bytes a acts s plays.draw plays.drawn (wrong a acts s plays.draw plays.drawn) (wrong_is a acts s plays.draw plays.drawn);
          begins = partner_begins a acts s plays.draw plays.drawn;
          hears = (
            length (arrivals_of (own a s.is s.law)),
            are_taken (λ t. of a acts s plays.draw plays.drawn t) (arrivals_of (own a s.is s.law)) (heard (map event_of (partner_plan a.script))) (partner_hears a acts s plays.draw plays.drawn all),
          );
          formed = partner_formed (meaning_of a.script.protocol).has a.script (knows_formed a acts s plays.draw plays.drawn) (hands_formed a acts s plays.draw plays.drawn) s.changes.messages_formed;
        }

    unrefused : a.conversation.end ≢ Refused
    unrefused refused = refuses_none a s.is s.law (agrees a.script.protocol a.script.role acts s.base) hears refused

  -- The partner refuses none of its messages where the code says no others than the scene's,
  pub unrefused_along : SaysAlong a.script acts → a.conversation.end ≢ Refused
  unrefused_along along = unrefused (λ k came. said_along a acts s plays.draw plays.drawn along (messages_of (take k lines)) (says_it k came))

  module _ (event : ℕ) (to : ComesTo a.script acts event) where
    few_are : (k : ℕ) → length (messages_of (take k lines)) ≤ said_in event (sides plan) → Came a acts s plays.draw plays.drawn k → AreSaid k
    few_are k few came = said_right a acts s plays.draw plays.drawn event to (messages_of (take k lines)) (says_it k came) (let same = sent_count a acts s plays.draw plays.drawn event to in omega (arith, few, same))

    -- and where it stops at an event that the code comes to
    pub unrefused_there : StopsThere a plays event → a.conversation.end ≢ Refused
    unrefused_there there = unrefused (λ k came. few_are k (few_lines k) came) where
      few_lines : (k : ℕ) → length (messages_of (take k lines)) ≤ said_in event (sides plan)
      few_lines k =
          let rest = (behind k).0 in
          let parts : length plays.played.sent ≡ length (messages_of (take k lines)) + length rest = ap length (behind k).1 ∙ length-append (messages_of (take k lines)) rest in
          let most = play_said_few (meaning_of a.script.protocol) plays.draw plan a.initial (arrivals_of lines) plays.played event there.0 there.1 plays.play in
          omega (arith, most, parts)

module _ (a : Attempt) (acts : List Act) (event : ℕ) (s : IsStopping a acts event) (plays : PlaysRole a) where
  abbrev by_value : Text → Tree → Text
  by_value v t = with_value a acts (changed s) plays.draw plays.drawn v t

  abbrev there_plan : List Event
  there_plan = events_of a.script.protocol a.script.role

  -- where the role is known to stop, the lines have no more messages than the role says before
  few : (k : ℕ) → Stopping a acts event s plays.draw plays.drawn k → length (messages_of (take k a.conversation.lines)) ≤ said_in event (sides there_plan)
  few k c =
      let r = run_with a acts (changed s) plays.draw plays.drawn c.v in
      let first = says a acts (changed s) plays c.v c.strings k c.are in
      let most : length r.sent ≤ said_in event (sides there_plan) =
      play_said_few (meaning_of a.script.protocol) plays.draw there_plan a.initial (map (by_value c.v) a.script.arrivals) r event 0 (run_stops a acts event s plays.draw plays.drawn c.v c.stops)
      (play a acts (changed s) plays.draw plays.drawn c.v c.strings) in
      let parts : length r.sent ≡ length (messages_of (take k a.conversation.lines)) + length first.0 = ap length first.1 ∙ length-append (messages_of (take k a.conversation.lines)) first.0 in
      omega (arith, most, parts)

  -- so they are the scene's
  said : (k : ℕ) → Came a acts (changed s) plays.draw plays.drawn k → Are (λ t. of a acts (changed s) plays.draw plays.drawn t) (messages_of (take k a.conversation.lines)) a.script.messages
  said k came = few_are a acts (changed s) plays event s.stops.comes_to k (few k (stopping a acts event s plays.draw plays.drawn k came)) came

  -- and the partner refuses none
  pub unrefused_stopping : a.conversation.end ≢ Refused
  unrefused_stopping = unrefused a acts (changed s) plays said

  -- it stops there, if it does
  stops_there : (e at : ℕ) → plays.played.end ≡ stopped e at → e ≡ event
  stops_there e at end =
      let lines = a.conversation.lines in
      let c = stopping a acts event s plays.draw plays.drawn (length lines) (all_came a acts (changed s) plays said) in
      let by = by_value c.v in
      let r = run_with a acts (changed s) plays.draw plays.drawn c.v in
      let are : Are by (arrivals_of lines) a.script.arrivals = subst (λ ls. Are by (arrivals_of ls) a.script.arrivals) (take-length lines) c.are in
      let more = map by (drop (length (arrivals_of lines)) a.script.arrivals) in
      let there = play_stops_alike (meaning_of a.script.protocol) plays.draw there_plan a.initial (arrivals_of lines) more plays.played r e at end plays.play
      (subst (λ xs. Play (meaning_of a.script.protocol) plays.draw there_plan a.initial xs r) (sym (are_all by (arrivals_of lines) a.script.arrivals are)) (play a acts (changed s) plays.draw plays.drawn c.v c.strings)) in
      same_event e at event 0 (sym there ∙ run_stops a acts event s plays.draw plays.drawn c.v c.stops)

  -- so each of its stops is known
  pub stops_known : a.due ≡ Some event → StopsAreSeen a plays
  stops_known due = λ n at end. inl (due ∙ ap Some (sym (stops_there (suc n) at end)))
