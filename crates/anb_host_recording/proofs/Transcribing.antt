-- The lines of a session are its transcript.
use Rattle.std.proofs.Common.{◌≡◌, ◌⊎◌, ℕ, ◌+◌, ◌<◌, arith, List, [], ◌∷◌, ◌++◌, length, map, drop, Bool, true, false, cond, not, ◌&&◌, ◌||◌, Ok, Err, refl, sym, ap, ◌∙◌, subst, inl, inr, append_assoc, append-nil, length-append}
use Rattle.std.specs.Prelude.{nat_lt}
use Rattle.std.specs.List.{flat_map}
use Rattle.std.proofs.lemmas.List.{drop_at}
use Rattle.anb_plays.specs.Plays.{Played, End, Run, stopped, waiting, done, says}
use Rattle.anb_transcript.specs.Replays.{IsDue, Replays, arrivals_of, due_after, due_of, last_arrival, messages_of}
use Rattle.anb_transcript.specs.Turns.{Covers}
use Rattle.anb_transcript.specs.declared.following.Due.TheVariants.{Receive}
use Rattle.anb_transcript.specs.declared.transcript.TranscriptLine.{TranscriptLine}
use Rattle.anb_transcript.specs.declared.transcript.TranscriptLine.TheVariants.{In, Out}
use Rattle.anb_transcript.proofs.Reached.{Reached, due_there, none_are_due, reached_further}
use Rattle.anb_host.specs.declared.event.HostEvent.{HostEvent}
use Rattle.anb_host.specs.declared.event.HostEvent.TheVariants.{Start, Arrive, Oversize}
use Rattle.anb_host.specs.declared.event.Notice.{Notice}
use Rattle.anb_host.specs.declared.event.Notice.TheVariants.{Message, Stopped, Finished, Refused}
use Rattle.anb_host.specs.declared.event.Cause.{Cause}
use Rattle.anb_host.specs.declared.event.Cause.TheVariants as cause
use Rattle.anb_host.specs.Alone.{SendsOn}
use Rattle.anb_host.specs.Own.{accepted, arrival_of, end_notices, has_start, is_over, is_start, notices, own}
use Rattle.anb_host.proofs.Past.{accepted-last, accepted-none, has_start-last}
use Rattle.anb_host.proofs.Responding.{is_low}
use Rattle.anb_host_recording.specs.Entries.{is_refusal, line_in, line_out, lines_of}
use Rattle.anb_host_recording.specs.Laws.{LinesAreTranscripts}
use Rattle.anb_host_recording.specs.Sessions.{IsTranscript, lines_after, replay_end, session_lines}

-- ---- the lines of a play's notices

outs_of : (s : ℕ) (sent : List (List ℕ)) (e : End) → flat_map line_out (notices s sent e) ≡ map Out sent
outs_of s [] (stopped e at) = refl
outs_of s [] (waiting e) = refl
outs_of s [] done = refl
outs_of s (m ∷ sent) e = ap (λ (l : List TranscriptLine). Out m ∷ l) (outs_of s sent e)

pub no_refusal : (s : ℕ) (sent : List (List ℕ)) (e : End) → is_refusal (notices s sent e) ≡ false
no_refusal s [] (stopped e at) = refl
no_refusal s [] (waiting e) = refl
no_refusal s [] done = refl
no_refusal s (m ∷ sent) e = refl

lines_told : (s : ℕ) (x : HostEvent) (told : List Notice) (sent : List (List ℕ)) (e : End) → told ≡ notices s sent e → lines_of x told ≡ line_in x ++ map Out sent
lines_told s x told sent e is =
    ap (lines_of x) is ∙ ap (λ (b : Bool). cond b [] (line_in x ++ flat_map line_out (notices s sent e))) (no_refusal s sent e) ∙ ap (λ (l : List TranscriptLine). line_in x ++ l) (outs_of s sent e)

none_told : (s : ℕ) (x : HostEvent) (told : List Notice) (why : Cause) → told ≡ Refused s why ∷ [] → lines_of x told ≡ []
none_told s x told why is = ap (lines_of x) is

arrivals_joined : (xs ys : List TranscriptLine) → arrivals_of (xs ++ ys) ≡ arrivals_of xs ++ arrivals_of ys
arrivals_joined [] ys = refl
arrivals_joined (In b ∷ xs) ys = ap (λ t. b ∷ t) (arrivals_joined xs ys)
arrivals_joined (Out b ∷ xs) ys = arrivals_joined xs ys

outs_hear : (sent : List (List ℕ)) → arrivals_of (map Out sent) ≡ []
outs_hear [] = refl
outs_hear (m ∷ sent) = outs_hear sent

not_over : (e : End) → is_over e ≡ false → (event : ℕ) × (e ≡ waiting event)
not_over (stopped e at) never = absurd cc
not_over (waiting e) is = (e, refl)
not_over done never = absurd cc

-- ---- a play behind some arrivals and messages

module _ (play : Run) (grows : SendsOn play) where
  abbrev behind : (at : List (List ℕ)) → (covered : ℕ) → Run
  behind at covered more = record (play (at ++ more)) { sent = drop covered (play (at ++ more)).sent }

  -- one message more
  said : (at : List (List ℕ)) (before after : List (List ℕ)) (m : List ℕ) (covered : ℕ) → (play at).sent ≡ before ++ m ∷ after → length before ≡ covered
      → Covers (behind at covered) (behind at (covered + 1)) (Out m)
  said at before after m covered is long = record { due = rw (first []) refl; on = on } where
    sent_on : (more : List (List ℕ)) → (play (at ++ more)).sent ≡ before ++ m ∷ (after ++ (grows at more).0)
    sent_on more = (grows at more).1 ∙ ap (λ l. l ++ (grows at more).0) is ∙ append_assoc before (m ∷ after) (grows at more).0

    first : (more : List (List ℕ)) → drop covered (play (at ++ more)).sent ≡ m ∷ (after ++ (grows at more).0)
    first more = ap (drop covered) (sent_on more) ∙ drop_at before (m ∷ (after ++ (grows at more).0)) covered long

    second : (more : List (List ℕ)) → drop (covered + 1) (play (at ++ more)).sent ≡ after ++ (grows at more).0
    second more =
        ap (drop (covered + 1)) (sent_on more ∙ sym (append_assoc before (m ∷ []) (after ++ (grows at more).0)))
        ∙ drop_at (before ++ m ∷ []) (after ++ (grows at more).0) (covered + 1) (length-append before (m ∷ []) ∙ ap (λ n. n + 1) long)

    on : (more : List (List ℕ)) → behind at covered more ≡ says m (behind at (covered + 1) more)
    on more = ap (λ (l : List (List ℕ)). record (play (at ++ more)) { sent = l }) (first more ∙ ap (λ l. m ∷ l) (sym (second more)))

  -- an arrival more, where all was said and it waits
  heard : (at : List (List ℕ)) (b : List ℕ) → is_over (play at).end ≡ false
      → Covers (behind at (length (play at).sent)) (behind (at ++ b ∷ []) (length (play at).sent)) (In b)
  heard at b goes = record { due = rw due tt; on = λ more. ap (λ (xs : List (List ℕ)). record (play xs) { sent = drop (length (play at).sent) (play xs).sent }) (sym (append_assoc at (b ∷ []) more)) } where
    due : due_after (behind at (length (play at).sent)) [] ≡ Ok Receive
    due =
        ap (λ (xs : List (List ℕ)). due_of (drop 0 (drop (length (play at).sent) (play xs).sent)) (play xs).end) (append-nil at)
        ∙ ap (λ (l : List (List ℕ)). due_of (drop 0 l) (play at).end) (ap (drop (length (play at).sent)) (sym (append-nil (play at).sent)) ∙ drop_at (play at).sent [] (length (play at).sent) refl)
        ∙ ap (due_of []) (not_over (play at).end goes).1

  -- messages more
  all_said : (at : List (List ℕ)) (before sent after : List (List ℕ)) (covered : ℕ) (lines : List TranscriptLine) → (play at).sent ≡ before ++ (sent ++ after) → length before ≡ covered
      → Reached play (behind at covered) lines → Reached play (behind at (covered + length sent)) (lines ++ map Out sent)
  all_said at before [] after covered lines is long reached =
      let none : covered ≡ covered + 0 = omega arith in
      subst (λ n. Reached play (behind at n) (lines ++ [])) none (subst (Reached play (behind at covered)) (sym (append-nil lines)) reached)
  all_said at before (m ∷ sent) after covered lines is long reached =
      let next = reached_further play (behind at covered) (behind at (covered + 1)) lines reached (Out m) (said at before (sent ++ after) m covered is long) in
      let rest = all_said at (before ++ m ∷ []) sent after (covered + 1) (lines ++ Out m ∷ []) (is ∙ sym (append_assoc before (m ∷ []) (sent ++ after))) (length-append before (m ∷ []) ∙ ap (λ n. n + 1) long) next in
      let count : (covered + 1) + length sent ≡ covered + length (m ∷ sent) = omega arith in
      subst (λ n. Reached play (behind at n) (lines ++ map Out (m ∷ sent))) count (subst (Reached play (behind at ((covered + 1) + length sent))) (append_assoc lines (Out m ∷ []) (map Out sent)) rest)

  -- ---- a session so far

  -- what its lines are behind its events
  pub record Transcribed (past : List HostEvent) (lines : List TranscriptLine) : Type 0 where
    pub reached : Reached play (behind (accepted play past) (length (play (accepted play past)).sent)) lines
    pub arrivals : arrivals_of lines ≡ accepted play past

  abbrev SoFar : List HostEvent → List TranscriptLine → Type 0
  SoFar past lines = ((has_start past ≡ false) × (lines ≡ [])) ⊎ ((has_start past ≡ true) × Transcribed past lines)

  module _ (s : ℕ) (small : nat_lt 1023 s ≡ false) where
    same_so : (past next : List HostEvent) (lines added : List TranscriptLine) → added ≡ [] → has_start next ≡ has_start past → accepted play next ≡ accepted play past → SoFar past lines → SoFar next (lines ++ added)
    same_so past next lines added none h a (inl (unstarted, is)) = inl (h ∙ unstarted, ap (λ (l : List TranscriptLine). lines ++ l) none ∙ append-nil lines ∙ is)
    same_so past next lines added none h a (inr (started, t)) = inr (
      h ∙ started,
      record {
        reached =
            subst (λ (at : List (List ℕ)). Reached play (behind at (length (play at).sent)) (lines ++ added)) (sym a)
            (subst (Reached play (behind (accepted play past) (length (play (accepted play past)).sent))) (sym (append-nil lines) ∙ ap (λ (l : List TranscriptLine). lines ++ l) (sym none)) t.reached);
        arrivals = ap arrivals_of (ap (λ (l : List TranscriptLine). lines ++ l) none ∙ append-nil lines) ∙ t.arrivals ∙ sym a;
      },
    )

    or_no : (b : Bool) → (b || false) ≡ b
    or_no true = refl
    or_no false = refl

    unstarted : (past : List HostEvent) (x : HostEvent) → is_start x ≡ false → has_start (past ++ x ∷ []) ≡ has_start past
    unstarted past x other = has_start-last past x ∙ rw other (or_no (has_start past))

    quiet : (past : List HostEvent) (x : HostEvent) → arrival_of x ≡ [] → accepted play (past ++ x ∷ []) ≡ accepted play past
    quiet past x none = accepted-last play past x _ refl ∙ by (has_start past && not (is_over (play (accepted play past)).end)) where
      by : (b : Bool) → cond b (accepted play past ++ arrival_of x) (accepted play past) ≡ accepted play past
      by true = rw none (append-nil (accepted play past))
      by false = refl

    started : (past : List HostEvent) (t : ℕ) (lines : List TranscriptLine) (b : Bool) → has_start past ≡ b → SoFar past lines → SoFar (past ++ Start t ∷ []) (lines ++ lines_of (Start t) (own play s past (Start t)))
    started past t lines true h so =
        same_so past (past ++ Start t ∷ []) lines _ (none_told s (Start t) (own play s past (Start t)) cause.Started (rw (small, h) refl)) (has_start-last past (Start t) ∙ rw h refl) (quiet past (Start t) refl) so
    started past t lines false h (inr (was, t')) = absurd (let never : true ≡ false = sym was ∙ h in cc)
    started past t lines false h (inl (was, empty)) =
        let none : accepted play past ≡ [] = accepted-none play past h in
        let o : own play s past (Start t) ≡ notices s (play []).sent (play []).end = rw (small, h, none) refl in
        let a : accepted play (past ++ Start t ∷ []) ≡ [] = quiet past (Start t) refl ∙ none in
        let on : has_start (past ++ Start t ∷ []) ≡ true = has_start-last past (Start t) ∙ rw h refl in
        let here : Reached play (behind [] 0) [] = record { sent = λ xs. refl; ends = λ xs. refl; due = none_are_due play } in
        let zero : 0 + length (play []).sent ≡ length (play []).sent = omega arith in
        let all : Reached play (behind [] (length (play []).sent)) (map Out (play []).sent) =
        subst (λ n. Reached play (behind [] n) (map Out (play []).sent)) zero (all_said [] [] (play []).sent [] 0 [] (sym (append-nil (play []).sent)) refl here) in
        let lines_are : lines ++ lines_of (Start t) (own play s past (Start t)) ≡ map Out (play []).sent = ap (λ (l : List TranscriptLine). l ++ lines_of (Start t) (own play s past (Start t))) empty ∙ lines_told s (Start t) (own play s past (Start t)) (play []).sent (play []).end o in
        inr (
          on,
          record {
            reached = subst (λ (at : List (List ℕ)). Reached play (behind at (length (play at).sent)) (lines ++ lines_of (Start t) (own play s past (Start t)))) (sym a) (subst (Reached play (behind [] (length (play []).sent))) (sym lines_are) all);
            arrivals = ap arrivals_of lines_are ∙ outs_hear (play []).sent ∙ sym a;
          },
        )

    arrived : (past : List HostEvent) (t : ℕ) (y : List ℕ) (lines : List TranscriptLine) (b over : Bool) → has_start past ≡ b → is_over (play (accepted play past)).end ≡ over
        → SoFar past lines → SoFar (past ++ Arrive t y ∷ []) (lines ++ lines_of (Arrive t y) (own play s past (Arrive t y)))
    arrived past t y lines false over h e so =
        same_so past (past ++ Arrive t y ∷ []) lines _ (none_told s (Arrive t y) (own play s past (Arrive t y)) cause.NotStarted (rw (small, h) refl)) (unstarted past (Arrive t y) refl) (accepted-last play past (Arrive t y) false (rw h refl)) so
    arrived past t y lines true true h e so =
        same_so past (past ++ Arrive t y ∷ []) lines _ (none_told s (Arrive t y) (own play s past (Arrive t y)) cause.Ended (rw (small, h, e) refl)) (unstarted past (Arrive t y) refl) (accepted-last play past (Arrive t y) false (rw (h, e) refl)) so
    arrived past t y lines true false h e (inl (was, empty)) = absurd (let never : false ≡ true = sym was ∙ h in cc)
    arrived past t y lines true false h e (inr (was, so)) =
        let at = accepted play past in
        let first = (play at).sent in
        let now = play (at ++ y ∷ []) in
        let g = grows at (y ∷ []) in
        let o : own play s past (Arrive t y) ≡ notices s (drop (length first) now.sent) now.end = rw (small, h, e) refl in
        let more : drop (length first) now.sent ≡ g.0 = ap (drop (length first)) g.1 ∙ drop_at first g.0 (length first) refl in
        let a : accepted play (past ++ Arrive t y ∷ []) ≡ at ++ y ∷ [] = accepted-last play past (Arrive t y) true (rw (h, e) refl) in
        let on : has_start (past ++ Arrive t y ∷ []) ≡ true = has_start-last past (Arrive t y) ∙ rw h refl in
        let into = reached_further play (behind at (length first)) (behind (at ++ y ∷ []) (length first)) lines so.reached (In y) (heard at y e) in
        let whole : now.sent ≡ first ++ (g.0 ++ []) = g.1 ∙ ap (λ l. first ++ l) (sym (append-nil g.0)) in
        let all = all_said (at ++ y ∷ []) first g.0 [] (length first) (lines ++ In y ∷ []) whole refl into in
        let count : length first + length g.0 ≡ length now.sent = sym (length-append first g.0) ∙ ap length (sym g.1) in
        let told = lines_told s (Arrive t y) (own play s past (Arrive t y)) (drop (length first) now.sent) now.end o ∙ ap (λ (l : List (List ℕ)). In y ∷ map Out l) more in
        let lines_are : lines ++ lines_of (Arrive t y) (own play s past (Arrive t y)) ≡ (lines ++ In y ∷ []) ++ map Out g.0 = ap (λ (l : List TranscriptLine). lines ++ l) told ∙ sym (append_assoc lines (In y ∷ []) (map Out g.0)) in
        inr (
          on,
          record {
            reached =
                subst (λ (xs : List (List ℕ)). Reached play (behind xs (length (play xs).sent)) (lines ++ lines_of (Arrive t y) (own play s past (Arrive t y)))) (sym a)
                (subst (λ n. Reached play (behind (at ++ y ∷ []) n) (lines ++ lines_of (Arrive t y) (own play s past (Arrive t y)))) count
                (subst (Reached play (behind (at ++ y ∷ []) (length first + length g.0))) (sym lines_are) all));
            arrivals =
                ap arrivals_of lines_are ∙ arrivals_joined (lines ++ In y ∷ []) (map Out g.0) ∙ ap (λ l. arrivals_of (lines ++ In y ∷ []) ++ l) (outs_hear g.0) ∙ append-nil (arrivals_of (lines ++ In y ∷ []))
                ∙ arrivals_joined lines (In y ∷ []) ∙ ap (λ l. l ++ y ∷ []) so.arrivals ∙ sym a;
          },
        )

    oversized : (past : List HostEvent) (t n : ℕ) (lines : List TranscriptLine) (b over : Bool) → has_start past ≡ b → is_over (play (accepted play past)).end ≡ over
        → SoFar past lines → SoFar (past ++ Oversize t n ∷ []) (lines ++ lines_of (Oversize t n) (own play s past (Oversize t n)))
    oversized past t n lines false over h e so =
        same_so past (past ++ Oversize t n ∷ []) lines _ (none_told s (Oversize t n) (own play s past (Oversize t n)) cause.NotStarted (rw (small, h) refl)) (unstarted past (Oversize t n) refl) (quiet past (Oversize t n) refl) so
    oversized past t n lines true true h e so =
        same_so past (past ++ Oversize t n ∷ []) lines _ (none_told s (Oversize t n) (own play s past (Oversize t n)) cause.Ended (rw (small, h, e) refl)) (unstarted past (Oversize t n) refl) (quiet past (Oversize t n) refl) so
    oversized past t n lines true false h e so =
        same_so past (past ++ Oversize t n ∷ []) lines _ (none_told s (Oversize t n) (own play s past (Oversize t n)) cause.Oversize (rw (small, h, e) refl)) (unstarted past (Oversize t n) refl) (quiet past (Oversize t n) refl) so

    one_more : (past : List HostEvent) (x : HostEvent) (lines : List TranscriptLine) → SoFar past lines → SoFar (past ++ x ∷ []) (lines ++ lines_of x (own play s past x))
    one_more past (Start t) lines so = started past t lines (has_start past) refl so
    one_more past (Arrive t y) lines so = arrived past t y lines (has_start past) (is_over (play (accepted play past)).end) refl refl so
    one_more past (Oversize t n) lines so = oversized past t n lines (has_start past) (is_over (play (accepted play past)).end) refl refl so

    all_more : (past events : List HostEvent) (lines : List TranscriptLine) → SoFar past lines → SoFar (past ++ events) (lines ++ lines_after play s past events)
    all_more past [] lines so =
        subst (λ (p : List HostEvent). SoFar p (lines ++ [])) (sym (append-nil past)) (subst (SoFar past) (sym (append-nil lines)) so)
    all_more past (x ∷ events) lines so =
        subst (λ (p : List HostEvent). SoFar p (lines ++ lines_after play s past (x ∷ events))) (append_assoc past (x ∷ []) events)
        (subst (SoFar ((past ++ x ∷ []) ++ events)) (append_assoc lines (lines_of x (own play s past x)) (lines_after play s (past ++ x ∷ []) events))
        (all_more (past ++ x ∷ []) events (lines ++ lines_of x (own play s past x)) (one_more past x lines so)))

  -- ---- its end

  ends_so : (events : List HostEvent) (lines : List TranscriptLine) → Transcribed events lines → (e : End) → (play (accepted play events)).end ≡ e → Replays play lines (replay_end lines e)
  ends_so events lines t e is = by e is where
    at : List (List ℕ)
    at = accepted play events

    due : due_after play lines ≡ due_of [] (play at).end
    due =
        due_there play (behind at (length (play at).sent)) lines t.reached
        ∙ ap (λ (xs : List (List ℕ)). due_of (drop 0 (drop (length (play at).sent) (play xs).sent)) (play xs).end) (append-nil at)
        ∙ ap (λ (l : List (List ℕ)). due_of (drop 0 l) (play at).end) (ap (drop (length (play at).sent)) (sym (append-nil (play at).sent)) ∙ drop_at (play at).sent [] (length (play at).sent) refl)

    by : (x : End) → (play at).end ≡ x → Replays play lines (replay_end lines x)
    by done is = (t.reached.due, due ∙ ap (due_of []) is)
    by (stopped e at') is = (lines, [], sym (append-nil lines), refl, t.reached.due, due ∙ ap (due_of []) is)
    by (waiting e) is = (Receive, t.reached.due, due ∙ ap (due_of []) is, λ never. cc, refl)

pub are_transcripts : LinesAreTranscripts
are_transcripts play s events below grows on = from (all_more play grows s (is_low s below) [] events [] (inl (refl, refl))) where
  from : SoFar play grows events (session_lines play s events) → IsTranscript play events (session_lines play s events)
  from (inl (never, empty)) = absurd (let no : false ≡ true = sym never ∙ on in cc)
  from (inr (started, t)) = record { heard = t.arrivals; replays = ends_so play grows events (session_lines play s events) t (play (accepted play events)).end refl }
