-- In an attempt in such a scene the role hears something where it stops, and no draws go on over that event.
use Rattle.std.proofs.Common.{◌≡◌, ℕ, ◌≤◌, List, [], length, map, drop, take, Some, refl, sym, subst, arith}
use Rattle.anb_base.specs.Bytes.{IsBytes, IsBytes-pass}
use Rattle.anb_term.specs.Tree.{Tree}
use Rattle.anb_plays.specs.Codes.{Act}
use Rattle.anb_plays.specs.Plays.{Play}
use Rattle.anb_protocol.specs.Plays.{events_of, meaning_of}
use Rattle.anb_transcript.specs.Replays.{arrivals_of, messages_of}
use Rattle.anb_judge.specs.Verdicts.{IsBegun, sides}
use Rattle.anb_tries.specs.Laws.{Attempt, DueIsKnown, judged}
use Rattle.anb_tries.proofs.Placed.{placed}
use Rattle.anb_dues.proofs.Beginning.{Goes, begun_goes}
use Rattle.anb_dues.proofs.Counting.{messages_few, more_said}
use Rattle.anb_dues.proofs.Firsts.{Are, Text, are_all}
use Rattle.anb_dues.proofs.Lines.{Came, claims, of, play, run_with, said_right, sent_count, with_value, wrong, wrong_is}
use Rattle.anb_dues.proofs.Stopped.{IsStopping, changed, hears_there, run_stops, stopping}

module _ (a : Attempt) (acts : List Act) (event : ℕ) (s : IsStopping a acts event) (starts : IsBegun (judged a) event) where
  abbrev d : ℕ → Text
  d = starts.conversation.draw

  d_bytes : (i : ℕ) → IsBytes (d i)
  d_bytes i = IsBytes-pass (d i) (starts.conversation.drawn i)

  -- with any bytes of the names, over which these lines came, the run says them first and doesn't stop at them
  goes : (v : Text) → IsBytes v → (k : ℕ) → k ≤ event → Are (λ t. with_value a acts (changed s) starts.conversation.draw d_bytes v t) (arrivals_of (take k a.conversation.lines)) a.script.arrivals
      → Goes (meaning_of a.script.protocol) starts.conversation.draw k 0 (messages_of (take k a.conversation.lines)) (run_with a acts (changed s) starts.conversation.draw d_bytes v)
  goes v is_bytes k few are =
      let by = λ (t : Tree). with_value a acts (changed s) d d_bytes v t in
      let xs = arrivals_of (take k a.conversation.lines) in
      let r = run_with a acts (changed s) d d_bytes v in
      let all = are_all by xs a.script.arrivals are in
      begun_goes (meaning_of a.script.protocol) d (events_of a.script.protocol a.script.role) s.base.first a.initial event k a.conversation.lines (map by (drop (length xs) a.script.arrivals)) r few (placed a s.is s.law) starts.conversation.play
      (subst (λ l. Play (meaning_of a.script.protocol) d (events_of a.script.protocol a.script.role) a.initial l r) (sym all) (play a acts (changed s) d d_bytes v is_bytes))

  -- so its messages are the scene's
  said : (k : ℕ) → k ≤ event → Came a acts (changed s) starts.conversation.draw d_bytes k → Are (λ t. of a acts (changed s) starts.conversation.draw d_bytes t) (messages_of (take k a.conversation.lines)) a.script.messages
  said k few came =
      let go = goes (wrong a acts (changed s) d d_bytes) (wrong_is a acts (changed s) d d_bytes) k few came.0 in
      let ss = sides (events_of a.script.protocol a.script.role) in
      let first = messages_few ss a.conversation.lines k (placed a s.is s.law) in
      said_right a acts (changed s) d d_bytes event s.stops.comes_to (messages_of (take k a.conversation.lines)) (go.rest, go.sent) (omega (arith, first, more_said k event ss few, sent_count a acts (changed s) d d_bytes event s.stops.comes_to))

  goes_over : ⊥
  goes_over =
      let c = stopping a acts event s d d_bytes event (claims a acts (changed s) d d_bytes event said event (omega arith)) in
      let late = (goes c.v c.strings event (omega arith) c.are).later event 0 (run_stops a acts event s d d_bytes c.v c.stops) in
      omega (arith, late)

-- where the role is known to stop in the attempt's scene, that is so
pub known_in : (a : Attempt) (acts : List Act) → ((event : ℕ) → a.due ≡ Some event → IsStopping a acts event) → DueIsKnown a
known_in a acts stops = record {
  hears = λ event due. hears_there a acts event (stops event due) (λ i. []) (λ i. IsBytes-pass [] refl);
  stops = λ event due starts. goes_over a acts event (stops event due) starts;
}
