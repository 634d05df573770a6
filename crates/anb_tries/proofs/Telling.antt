-- A lax program is told.
use Rattle.std.proofs.Common.{◌≡◌, ◌≢◌, ℕ, List, length, Bool, true, false, refl, sym, ap, ◌∙◌}
use Rattle.std.specs.Prelude.{if◌then◌else◌}
use Rattle.anb_transcript.specs.declared.following.Due.TheVariants.{Send, Receive, End as Over}
use Rattle.anb_transcript.specs.declared.following.ReplayEnd.{ReplayEnd}
use Rattle.anb_transcript.specs.declared.following.ReplayEnd.TheVariants as replayed
use Rattle.anb_transcript.specs.declared.transcript.TranscriptLine.{TranscriptLine}
use Rattle.anb_judge.specs.Verdicts.{Judged, own_plan, sides}
use Rattle.anb_partner.specs.Laws.{PartnersPlay}
use Rattle.anb_partner.specs.declared.conversation.TalkEnd.{TalkEnd}
use Rattle.anb_partner.specs.declared.conversation.TalkEnd.TheVariants.{Done, Refused, Missing, Cut, Long, ReadFault, WriteFault, TooLong, Unchanged}
use Rattle.anb_verdict.specs.declared.seen.Seen.{Seen}
use Rattle.anb_verdict.specs.declared.verdict.Verdict.{Verdict}
use Rattle.anb_verdict.specs.declared.verdict.Verdict.TheVariants as says
use Rattle.anb_verdict.specs.Laws.{LinesAreExact, NamesAreTold}
use Rattle.anb_verdict.specs.Verdicts.{IsKnown, IsRoles, IsVerdict, is_good, stops_when_due, verdict_at, verdict_of}
use Rattle.anb_tries.specs.Tries.{IsTriedVerdict}
use Rattle.anb_tries.specs.Laws.{Attempt, DueIsKnown, IsAttempt, IsTried, judged, seen}
use Rattle.anb_tries.proofs.Placed.{placed}

-- what the partner refused isn't looked at
abbrev unrefused : Seen → Seen
unrefused s = record s { refused = false }

good_unless : (b : Bool) (lines : ℕ) (v : Verdict) → is_good (if b then says.Wrong lines else v) ≡ true → is_good v ≡ true
good_unless true lines v good = absurd (cc)
good_unless false lines v good = good

-- what is good then is good without it
good_at : (ss : List Bool) (lines : List TranscriptLine) (s : Seen) (end : ReplayEnd) → is_good (verdict_at ss lines s end) ≡ true → is_good (verdict_at ss lines (unrefused s) end) ≡ true
good_at ss lines s (replayed.Stopped halt event) good = good
good_at ss lines s (replayed.Differs event (Send message)) good = good
good_at ss lines s (replayed.Differs event Receive) good = good
good_at ss lines s (replayed.Differs event Over) good = good
good_at ss lines s (replayed.Short event) good = good_unless s.refused (length lines) _ good
good_at ss lines s replayed.Follows good = good_unless s.refused (length lines) _ good
good_at ss lines s replayed.NoMemory good = good

-- where something was tried the verdict is that on the lines
tried_verdict : (a : Attempt) (end : TalkEnd) → end ≢ Unchanged → end ≢ TooLong → IsTriedVerdict (judged a) (seen a) end a.verdict → IsVerdict (judged a) (seen a) a.verdict
tried_verdict a Unchanged made sent is = absurd (made refl)
tried_verdict a TooLong made sent is = absurd (sent refl)
tried_verdict a Done made sent is = is
tried_verdict a Refused made sent is = is
tried_verdict a Missing made sent is = is
tried_verdict a (Cut have need) made sent is = is
tried_verdict a (Long len) made sent is = is
tried_verdict a ReadFault made sent is = is
tried_verdict a WriteFault made sent is = is

as_seen : (j : Judged) (s : Seen) → IsRoles j (unrefused s) → IsRoles j s
as_seen j s r = record {
  draw = r.draw;
  drawn = r.drawn;
  played = r.played;
  play = r.play;
  says = r.says;
  no_more = r.no_more;
  whole = r.whole;
  ends = r.ends;
}

pub lax_is_told : (a : Attempt) → PartnersPlay a.script.protocol → LinesAreExact a.script.protocol → IsAttempt a → DueIsKnown a → IsTried a → is_good a.verdict ≡ true → NamesAreTold (judged a) → IsRoles (judged a) (seen a)
lax_is_told a law exact is due tried good told =
    let v = tried_verdict a a.conversation.end tried.made tried.sent is.verdict in
    let ss = sides (own_plan (judged a)) in
    let lines = a.conversation.lines in
    let s = unrefused (seen a) in
    let known : IsKnown (judged a) s = record {
      values = is.values;
      bytes = is.lines;
      placed = placed a is law;
      hears = due.hears;
      stops = due.stops;
      refuses = λ refused begun. absurd (cc);
    } in
    let now = verdict_of ss v.end lines s in
    let judged_now : IsVerdict (judged a) s now = record { end = v.end; judges = v.judges; is = refl } in
    let good_now = good_at ss lines (seen a) (stops_when_due a.due (length lines) v.end) (sym (ap is_good v.is) ∙ good) in
    as_seen (judged a) (seen a) ((exact (judged a) s now refl known judged_now).1 good_now told)
