-- A child that runs the role's code less some checks, one of which has a case, is told in an attempt in the scene of that case.
use Rattle.std.proofs.Common.{◌≡◌, ◌≢◌, ℕ, zero, suc, ◌≤◌, List, [], ◌∷◌, ◌++◌, length, map, Bool, true, false, Some, None, Result, Ok, refl, sym, ap, ◌∙◌, subst, arith, append-nil}
use Rattle.std.specs.Prelude.{slice_get}
use Rattle.std.proofs.lemmas.List.{length-map}
use Rattle.anb_lemmas.proofs.Items.{bytes_differ}
use Rattle.anb_base.specs.Bytes.{is_bytes-IsBytes}
use Rattle.anb_base.specs.Moves.{AtEnd}
use Rattle.anb_base.specs.declared.TheConstants.{ARRIVAL}
use Rattle.anb_frame.specs.Frames.{frames, length_bytes}
use Rattle.anb_frame.specs.Cuts.{Cut, End}
use Rattle.anb_term.specs.Lawful.{Lawful}
use Rattle.anb_term.specs.FreeAlgebra.{terms_over}
use Rattle.anb_term.specs.Tree.{Tree}
use Rattle.anb_term.specs.Value.{Meaning}
use Rattle.anb_term.specs.View.{tree_of}
use Rattle.anb_term.specs.Statements.{NewAtomAgrees}
use Rattle.anb_term.proofs.Demands.{agree_holds_all}
use Rattle.anb_algebra.proofs.Picks.{tests}
use Rattle.anb_algebra.specs.ByteLawful.{bytes_are_lawful}
use Rattle.anb_code.specs.CodeValue.{CodeValue}
use Rattle.anb_code.specs.Meaning.{acts_of}
use Rattle.anb_machine.specs.declared.turn.Halt.{Halt}
use Rattle.anb_plays.specs.Codes.{Act}
use Rattle.anb_plays.specs.Fits.{start}
use Rattle.anb_plays.specs.Honest.{honest, heard}
use Rattle.anb_plays.specs.Plans.{Event, known}
use Rattle.anb_plays.specs.Plays.{stopped, Played, Play}
use Rattle.anb_plays.specs.Runs.{no_place, run, without_place}
use Rattle.anb_plays.proofs.Honest.{honest_agree}
use Rattle.anb_protocol.specs.Plays.{events_of, meaning_of}
use Rattle.anb_protocol.specs.Protocols.{ProtocolValue}
use Rattle.anb_transcript.specs.declared.following.Due.{Due}
use Rattle.anb_transcript.specs.declared.following.Due.TheVariants.{End as Over}
use Rattle.anb_transcript.specs.declared.transcript.TranscriptLine.{TranscriptLine}
use Rattle.anb_transcript.specs.Replays.{arrivals_of, due_after, messages_of}
use Rattle.anb_judge.specs.Observed.{observed}
use Rattle.anb_judge.specs.Verdicts.{line_bytes, sides, verdict}
use Rattle.anb_probe.specs.Cases.{drawn, less_all}
use Rattle.anb_probe.proofs.Following.{stops_there}
use Rattle.anb_suite.specs.Suites.{IsCaseOf, case_value}
use Rattle.anb_suite.specs.declared.cases.Case.{Case}
use Rattle.anb_suite.specs.declared.reading.Reading.TheVariants.{Both}
use Rattle.anb_partner.specs.Laws.{PartnersPlay}
use Rattle.anb_partner.specs.Talks.{Ends}
use Rattle.anb_partner.specs.declared.conversation.TalkEnd.{TalkEnd}
use Rattle.anb_partner.specs.declared.conversation.TalkEnd.TheVariants.{Done, Refused, Missing, Cut as WasCut, Long, ReadFault, WriteFault, TooLong, Unchanged}
use Rattle.anb_partner.specs.declared.trials.ChildEnd.TheVariants as child
use Rattle.anb_verdict.specs.declared.seen.Ended.TheVariants.{Status}
use Rattle.anb_verdict.specs.Laws.{CanBeTold}
use Rattle.anb_verdict.specs.Verdicts.{IsVerdict, is_good, verdict_of}
use Rattle.anb_tries.specs.Laws.{Attempt, IsAttempt, judged, seen}
use Rattle.anb_tries.specs.Seen.{ended_of, is_unread}
use Rattle.anb_tries.specs.Tries.{IsTriedVerdict}
use Rattle.anb_tries.proofs.Framed.{frames_no_length, frames_no_part, none_framed}
use Rattle.anb_tries.proofs.Passing.{after, behind, ended_at, ended_is, first_lines, left_behind, same_end, taken_last}
use Rattle.anb_tries.proofs.Placed.{R, over_next, own, placed}
use Rattle.anb_tries.proofs.Stopping.{stops_at_start, stops_over}
use Rattle.anb_dues.proofs.Firsts.{Are, Text}
use Rattle.anb_dues.proofs.Checks.{one_event}
use Rattle.anb_dues.proofs.Lines.{played}
use Rattle.anb_dues.proofs.Stopping.{Grounds}
use Rattle.anb_mutants.specs.Laws.{AreNamesOf, IsHeardOut, RunsLess}
use Rattle.anb_mutants.proofs.Before.{less_begins}
use Rattle.anb_mutants.proofs.Judging.{heard_all, stopped_bad, stops_within, verdict_bad}
use Rattle.anb_mutants.proofs.Talking.{SaysLess, Scened, all_came, all_says, is_over, knows, more_said, refuses_none, val}

-- ---- lists

none_got : {A : Type 0} (xs : List A) (i : ℕ) → slice_get xs i ≡ None → length xs ≤ i
none_got [] i e = omega arith
none_got (x ∷ xs) zero e = absurd (cc)
none_got (x ∷ xs) (suc i) e = omega (arith, none_got xs i e)

are_whole : (of : Tree → Text) (xs : List Text) (ts : List Tree) → Are of xs ts → length ts ≤ length xs → xs ≡ map of ts
are_whole of [] [] h few = refl
are_whole of [] (t ∷ ts) h few = absurd (omega (arith, few))
are_whole of (x ∷ xs) [] h few = absurd h
are_whole of (x ∷ xs) (t ∷ ts) h few = ap (λ y. y ∷ xs) h.0 ∙ ap (λ l. of t ∷ l) (are_whole of xs ts h.1 (omega (arith, few)))

-- ---- an attempt

module _ (a : Attempt) (is : IsAttempt a) (code : CodeValue) (check : ℕ) (case : Case) (h : Scened code check case a.script a) (out : IsHeardOut a)
    (drops : ℕ → Bool) (dropped : drops check ≡ true) (mutant : RunsLess a code drops) (atoms : ℕ → Text) (names : AreNamesOf a is mutant.draw atoms) where
  abbrev p : ProtocolValue
  p = a.script.protocol

  abbrev law : PartnersPlay a.script.protocol
  law = h.law

  abbrev g : Grounds a.script.protocol a.script.role (acts_of code)
  g = h.base

  abbrev is_case : IsCaseOf a.script.protocol a.script.role code Both check case
  is_case = h.is_case

  abbrev role : ℕ
  role = a.script.role

  abbrev by_bytes : Meaning Text
  by_bytes = meaning_of a.script.protocol

  abbrev events : List Event
  events = events_of a.script.protocol a.script.role

  abbrev acts : List Act
  acts = acts_of code

  lawful : Lawful by_bytes
  lawful = bytes_are_lawful a.script.protocol.formats a.script.protocol.suite

  abbrev spare : ℕ
  spare = length a.script.protocol.atoms

  abbrev lines : List TranscriptLine
  lines = a.conversation.lines

  abbrev d : ℕ → Text
  d = mutant.draw

  abbrev came : List Tree
  came = map tree_of case.arrivals.items

  abbrev of : Tree → Text
  of t = honest (meaning_of a.script.protocol) atoms t

  abbrev R_less : List Text → Played Text
  R_less xs = run (meaning_of a.script.protocol) mutant.draw (less_all drops (acts_of code)) a.initial xs

  first : (rest : List Text) × (mutant.played.sent ≡ messages_of lines ++ rest) × Cut ARRIVAL (left_behind a is mutant.played.sent mutant.short mutant.output).left rest End
  first = first_lines a is mutant.played.sent mutant.short mutant.output

  -- so it says first what the code less the checks says
  abbrev speaks : SaysLess a is code check
  speaks = record {
    drops = drops;
    dropped = dropped;
    draw = mutant.draw;
    atoms = atoms;
    names = names;
    later = first.0;
    first = ap (λ (q : Played Text). q.sent) (sym mutant.runs) ∙ first.1;
  }

  came_right : Are of (arrivals_of lines) a.script.arrivals
  came_right = all_came a is code check case h speaks

  -- ---- the talk's end

  abbrev due : Result Due Halt
  due = due_after (R a is law) (own a is law)

  abbrev left : Text
  left = (left_behind a is mutant.played.sent mutant.short mutant.output).left

  behind_has : (behind a is).left ≡ Some left
  behind_has = (left_behind a is mutant.played.sent mutant.short mutant.output).is

  not_missing : (x : Text) (later : List Text) → first.0 ≡ x ∷ later → AtEnd (behind a is).left → ⊥
  not_missing x later more at =
      let none = ended_at (behind a is).left left behind_has at in
      let whole : [] ≡ frames first.0 ++ first.2.0 = sym none ∙ first.2.1 in
      let empty : x ∷ later ≡ [] = sym more ∙ (none_framed first.0 first.2.0 whole).0 in
      nothing x later empty where
        nothing : (x : Text) (later : List Text) → x ∷ later ≡ [] → ⊥
        nothing x later e = cc

  is_done : (end : TalkEnd) → a.conversation.end ≡ end → Ends a.wrong due (behind a is) (after a is) end → (end ≡ Done) × (due ≡ Ok Over)
  is_done Done here e = (refl, e.0)
  is_done Refused here e = absurd (refuses_none a is code check case h speaks e.0.0 e.0.1)
  is_done Missing here e = (let m = more_said a is code check case h speaks e.0 in absurd (not_missing m.0 m.1 m.2 e.2))
  is_done (WasCut have need) here e =
      let l = taken_last a is mutant.played.sent mutant.short mutant.output e.1.0 e.1.1.took in
      absurd (frames_no_part left e.1.0 l.left first.0 have need first.2 l.all (ended_at (after a is).left l.left l.is e.2) e.1.2)
  is_done (Long len) here e = (let l = taken_last a is mutant.played.sent mutant.short mutant.output (length_bytes len) e.1.took in absurd (frames_no_length left l.left first.0 len first.2 l.all e.2 (is.long len here)))
  is_done ReadFault here e = absurd (out.read.read here)
  is_done WriteFault here e = absurd (out.written here)
  is_done TooLong here e = absurd (out.tried.sent here)
  is_done Unchanged here e = absurd (out.tried.made here)

  talk_done : (a.conversation.end ≡ Done) × (due ≡ Ok Over)
  talk_done = is_done a.conversation.end refl is.converses.talks.ends

  -- ---- all came

  all_lines : length (sides events) ≤ length lines
  all_lines = none_got (sides events) (length lines) (over_next a is law talk_done.1)

  arrived : arrivals_of lines ≡ map of came
  arrived =
      let many : length (heard events) ≤ length (arrivals_of lines) = heard_all events lines (placed a is law) all_lines in
      let count : length came ≡ length (heard events) = sym (length-map came _) ∙ ap length is_case.is.narrated in
      are_whole of (arrivals_of lines) came (subst (Are of (arrivals_of lines)) h.arrivals came_right) (omega (arith, many, count))

  status_was : a.old.ends ≡ Some (child.Status 0)
  status_was = mutant.ends (ap (λ (x : Played Text). x.end) (mutant.runs ∙ ap R_less arrived) ∙ (is_over a is code check case h speaks).end)

  ended : ended_of a.conversation ≡ Status 0
  ended =
      let same = same_end a.conversation.child a.old.ends out.read.end (child.Status 0) is.converses.child out.read.ended status_was in
      ended_is a.conversation.silent (is_unread a.conversation.end) a.conversation.child (child.Status 0) out.read.loud (ap is_unread talk_done.0) (out.read.ended ∙ ap Some same)

  -- ---- the verdict

  is_verdict : IsVerdict (judged a) (seen a) a.verdict
  is_verdict = subst (λ end. IsTriedVerdict (judged a) (seen a) end a.verdict) talk_done.0 is.verdict

  -- where it is known that the role stops
  pub told : (event : ℕ) → a.due ≡ Some event → event ≡ case.event → is_good a.verdict ≡ false
  told event due_is same =
      let within = stops_within (terms_over by_bytes.has) (drawn events) acts events (start events) [] (known events) 0 0 0 came case.event check g.fits.order is_case.event in
      let few : event ≤ length lines = omega (arith, same, within, all_lines) in
      ap is_good is_verdict.is ∙ verdict_bad (sides events) lines (seen a) (placed a is law) all_lines ended event few due_is is_verdict.end

  -- ---- where the sides differ in bytes

  -- the child said what the lines have
  nothing_more : first.0 ≡ []
  nothing_more = (all_says a is code check case h speaks).none (over_next a is law talk_done.1)

  abbrev R_role : List Text → Played Text
  R_role xs = run (meaning_of a.script.protocol) mutant.draw (acts_of code) a.initial xs

  -- which is first what the role says
  role_first : (more : List Text) × (messages_of lines ≡ (R_role (arrivals_of lines)).sent ++ more)
  role_first =
      let begins = less_begins by_bytes d drops acts 0 [] a.initial 0 0 0 0 (arrivals_of lines) in
      let sent : mutant.played.sent ≡ messages_of lines = first.1 ∙ ap (λ l. messages_of lines ++ l) nothing_more ∙ append-nil (messages_of lines) in
      (begins.0, sym sent ∙ ap (λ (x : Played Text). x.sent) mutant.runs ∙ begins.1)

  role_plays : Play by_bytes d events a.initial (arrivals_of lines) (without_place (R_role (arrivals_of lines)))
  role_plays =
      subst (λ xs. Play by_bytes d events a.initial xs (without_place (R_role xs))) (sym arrived)
      (played p role acts g atoms d a.initial came (val a is code check case h speaks) (λ i. is_bytes-IsBytes (d i) (mutant.drawn i)) (knows a is code check case h speaks) is_case.is.formed.1.1)

  module _ (differ : of (tree_of case.one) ≢ of (tree_of case.other)) (new_atom : NewAtomAgrees by_bytes) (can_tell : (n : ℕ) → case.event ≡ suc n → CanBeTold (judged a) n) where
    -- the role stops there
    role_stops : (R_role (arrivals_of lines)).end ≡ stopped case.event check
    role_stops =
        let at = stops_there by_bytes (honest_agree by_bytes lawful) (agree_holds_all by_bytes lawful) spare events acts check (case_value case) atoms d is_case.is g.fits.order g.formed (val a is code check case h speaks) in
        let stop = at.differ (bytes_differ (of (tree_of case.one)) (of (tree_of case.other)) differ) in
        let same = one_event p role code g by_bytes (terms_over by_bytes.has) d (drawn events) (map of (known events)) (map of came) (known events) came stop.0 case.event check stop.1 is_case.event in
        ap (λ xs. (R_role xs).end) arrived ∙ ap (λ l. (run by_bytes d acts l (map of came)).end) (knows a is code check case h speaks) ∙ stop.1 ∙ ap (λ e. stopped e check) same

    abbrev role_played : Played Text
    role_played = without_place (run (meaning_of a.script.protocol) mutant.draw (acts_of code) a.initial (arrivals_of a.conversation.lines))

    stops_so : role_played.end ≡ stopped case.event 0
    stops_so = ap no_place role_stops

    watched : Play by_bytes d (observed events) a.initial (map line_bytes lines) is_verdict.judges.played
    watched = subst (λ xs. Play by_bytes d (observed events) a.initial xs is_verdict.judges.played) (placed a is law) (is_verdict.judges.seen d)

    -- and so does who sees it
    seer_stops : (event : ℕ) → case.event ≡ event → is_verdict.judges.played.end ≡ stopped event 0
    seer_stops zero here = stops_at_start by_bytes d d events a.initial lines role_played is_verdict.judges.played role_plays watched 0 (stops_so ∙ ap (λ e. stopped e 0) here)
    seer_stops (suc n) here =
        (stops_over by_bytes d d events a.initial lines role_played is_verdict.judges.played role_plays watched new_atom (λ i. is_bytes-IsBytes (d i) (mutant.drawn i)) g.new g.first
        (tests a.initial is.values) (tests (map line_bytes lines) is.lines) (placed a is law) role_first.0 role_first.1 n 0 (can_tell n here).made (stops_so ∙ ap (λ e. stopped e 0) here)).end

    pub told_apart : is_good a.verdict ≡ false
    told_apart =
        let end : is_verdict.end ≡ verdict (sides events) (length lines) (stopped case.event 0) = is_verdict.judges.is ∙ ap (verdict (sides events) (length lines)) (seer_stops case.event refl) in
        ap is_good is_verdict.is ∙ ap (λ e. is_good (verdict_of (sides events) e lines (seen a))) end ∙ stopped_bad (sides events) lines (seen a) (placed a is law) all_lines ended case.event
