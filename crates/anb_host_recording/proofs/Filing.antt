-- Which files the lines of a host's events go to.
use Rattle.std.proofs.Common.{◌≡◌, ◌≢◌, ℕ, ◌+◌, ◌<◌, arith, List, [], ◌∷◌, ◌++◌, Bool, true, false, cond, not, ◌&&◌, ◌||◌, Option, Some, None, refl, sym, ap, ◌∙◌, subst, append_assoc, append-nil}
use Rattle.std.specs.Prelude.{◌==◌, codes, decimal, nat_lt, unwrap_or}
use Rattle.std.proofs.lemmas.Bool.{eq-eqb, eqb-true, ltb-false, ne_eqb}
use Rattle.std.proofs.lemmas.Fmt.{decimal_injective}
use Rattle.std.proofs.lemmas.List.{append_cancel_left}
use Rattle.std.proofs.lemmas.List.Elements.{filter-append}
use Rattle.std.proofs.lemmas.List.Folds.{list_any-append}
use Rattle.anb_lemmas.proofs.Items.{bytes_differ, bytes_eq-same}
use Rattle.anb_plays.specs.Plays.{Run}
use Rattle.anb_store.specs.Stores.{StoreState, with_file}
use Rattle.anb_transcript.specs.declared.transcript.TranscriptLine.{TranscriptLine}
use Rattle.anb_recording.specs.Journals.{Files}
use Rattle.anb_recording.specs.Lines.{line_text, lines_text}
use Rattle.anb_host.specs.declared.event.HostEvent.{HostEvent}
use Rattle.anb_host.specs.declared.event.HostEvent.TheVariants.{Start, Arrive, Oversize}
use Rattle.anb_host.specs.declared.event.Notice.{Notice}
use Rattle.anb_host.specs.Own.{answer, events_of, has_start, is_start, notices, own, session_of}
use Rattle.anb_host.proofs.Past.{accepted-none, events_of-last, has_start-last}
use Rattle.anb_host.proofs.Responding.{is_low}
use Rattle.anb_host_recording.specs.Entries.{all_noted, is_refusal, lines_of, noted, put_into, transcript_of}
use Rattle.anb_host_recording.specs.Laws.{FilesAreOfSessions, IsOfStarted}
use Rattle.anb_host_recording.specs.Sessions.{lines_after, session_lines}
use Rattle.anb_host_recording.proofs.Transcribing.{no_refusal}

-- ---- texts, and names of files

pub text_joined : (xs ys : List TranscriptLine) → lines_text (xs ++ ys) ≡ lines_text xs ++ lines_text ys
text_joined [] ys = refl
text_joined (x ∷ xs) ys = ap (λ l. line_text x ++ l) (text_joined xs ys) ∙ sym (append_assoc (line_text x) (lines_text xs) (lines_text ys))

names_are_one : (folder : List ℕ) (s t : ℕ) → s < 1024 → t < 1024 → transcript_of folder s ≡ transcript_of folder t → s ≡ t
names_are_one folder s t below within is =
    decimal_injective s t (omega (arith, below)) (omega (arith, within)) (append_cancel_left (folder ++ codes "/transcript-") (decimal s) (decimal t) is)

with_same : (files : Files) (name content : List ℕ) → with_file files name content name ≡ Some content
with_same files name content = rw (bytes_eq-same name) refl

with_other : (files : Files) (name content other : List ℕ) → other ≢ name → with_file files name content other ≡ files other
with_other files name content other differ = rw (bytes_differ other name differ) refl

-- ---- what isn't refused

or_no : (b : Bool) → (b || false) ≡ b
or_no true = refl
or_no false = refl

not_start : (past : List HostEvent) (x : HostEvent) → is_start x ≡ false → has_start (past ++ x ∷ []) ≡ has_start past
not_start past x other = has_start-last past x ∙ rw other (or_no (has_start past))

-- such an event is of a session that was started
module _ (play : Run) (s : ℕ) where
  pub within_range : (past : List HostEvent) (x : HostEvent) (b : Bool) → nat_lt 1023 s ≡ b → is_refusal (own play s past x) ≡ false → s < 1024
  within_range past x true high goes = absurd (let never : true ≡ false = sym (rw high refl) ∙ goes in cc)
  within_range past x false low goes = omega (arith, ltb-false 1023 s low)

  module _ (small : nat_lt 1023 s ≡ false) where
    started_by : (past : List HostEvent) (x : HostEvent) (b : Bool) → has_start past ≡ b → is_refusal (own play s past x) ≡ false → has_start (past ++ x ∷ []) ≡ true
    started_by past (Start t) true h goes = has_start-last past (Start t) ∙ rw h refl
    started_by past (Start t) false h goes = has_start-last past (Start t) ∙ rw h refl
    started_by past (Arrive t y) true h goes = not_start past (Arrive t y) refl ∙ h
    started_by past (Arrive t y) false h goes = absurd (let never : true ≡ false = sym (rw (small, h) refl) ∙ goes in cc)
    started_by past (Oversize t n) true h goes = not_start past (Oversize t n) refl ∙ h
    started_by past (Oversize t n) false h goes = absurd (let never : true ≡ false = sym (rw (small, h) refl) ∙ goes in cc)

-- ---- what a session's own events make of its file

-- what stands before the lines that come: nothing where the file is made
abbrev had : (starts : Bool) → Option (List ℕ) → List ℕ
had true o = []
had false o = unwrap_or o []

put_files : (starts : Bool) (name lines : List ℕ) (store : StoreState) (files : Files) → store.files ≡ Some files
    → (put_into starts store name lines).files ≡ Some (with_file files name (had starts (files name) ++ lines))
put_files true name lines store files told = rw told refl
put_files false name lines store files told = rw told refl

module _ (play : Run) (s : ℕ) where
  abbrev grown_by : Option (List ℕ) → List HostEvent → HostEvent → Option (List ℕ)
  grown_by o past x = cond (is_refusal (own play s past x)) o (Some (had (is_start x) o ++ lines_text (lines_of x (own play s past x))))

  abbrev grown : Option (List ℕ) → (past : List HostEvent) → List HostEvent → Option (List ℕ)
  grown o past [] = o
  grown o past (x ∷ events) = grown (grown_by o past x) (past ++ x ∷ []) events

  -- a refused event adds nothing
  passed_over : (o : Option (List ℕ)) (past : List HostEvent) (x : HostEvent) (events : List HostEvent) → is_refusal (own play s past x) ≡ true
      → grown o (past ++ x ∷ []) events ≡ Some (lines_text (lines_after play s (past ++ x ∷ []) events))
      → grown o past (x ∷ events) ≡ Some (lines_text (lines_after play s past (x ∷ events)))
  passed_over o past x events refused rest =
      let none : lines_of x (own play s past x) ≡ [] = rw refused refl in
      ap (λ (b : Bool). grown (cond b o (Some (had (is_start x) o ++ lines_text (lines_of x (own play s past x))))) (past ++ x ∷ []) events) refused
      ∙ rest
      ∙ ap (λ (l : List TranscriptLine). Some (lines_text (l ++ lines_after play s (past ++ x ∷ []) events))) (sym none)

  module _ (small : nat_lt 1023 s ≡ false) where
    -- once the session was started, what isn't refused is appended
    had_there : (text : List ℕ) (past : List HostEvent) (x : HostEvent) → has_start past ≡ true → is_refusal (own play s past x) ≡ false → had (is_start x) (Some text) ≡ text
    had_there text past (Start t) h goes = absurd (let never : true ≡ false = sym (rw (small, h) refl) ∙ goes in cc)
    had_there text past (Arrive t y) h goes = refl
    had_there text past (Oversize t n) h goes = refl

    still_started : (past : List HostEvent) (x : HostEvent) → has_start past ≡ true → has_start (past ++ x ∷ []) ≡ true
    still_started past x h = has_start-last past x ∙ rw h refl

    -- a file that is there has the lines behind what it had
    grown_there : (text : List ℕ) (past events : List HostEvent) → has_start past ≡ true → grown (Some text) past events ≡ Some (text ++ lines_text (lines_after play s past events))
    grown_there text past [] h = ap (λ (t : List ℕ). Some t) (sym (append-nil text))
    grown_there text past (x ∷ events) h = by (λ t. grown_there t (past ++ x ∷ []) events (still_started past x h)) (is_refusal (own play s past x)) refl where
      by : ((t : List ℕ) → grown (Some t) (past ++ x ∷ []) events ≡ Some (t ++ lines_text (lines_after play s (past ++ x ∷ []) events)))
          → (b : Bool) → is_refusal (own play s past x) ≡ b → grown (Some text) past (x ∷ events) ≡ Some (text ++ lines_text (lines_after play s past (x ∷ events)))
      by again true refused =
          let told : List Notice = own play s past x in
          let none : lines_of x told ≡ [] = rw refused refl in
          ap (λ (b : Bool). grown (cond b (Some text) (Some (had (is_start x) (Some text) ++ lines_text (lines_of x told)))) (past ++ x ∷ []) events) refused
          ∙ again text
          ∙ ap (λ (l : List TranscriptLine). Some (text ++ lines_text (l ++ lines_after play s (past ++ x ∷ []) events))) (sym none)
      by again false goes =
          let told : List Notice = own play s past x in
          let rest : List TranscriptLine = lines_after play s (past ++ x ∷ []) events in
          ap (λ (b : Bool). grown (cond b (Some text) (Some (had (is_start x) (Some text) ++ lines_text (lines_of x told)))) (past ++ x ∷ []) events) goes
          ∙ ap (λ (t : List ℕ). grown (Some (t ++ lines_text (lines_of x told))) (past ++ x ∷ []) events) (had_there text past x h goes)
          ∙ again (text ++ lines_text (lines_of x told))
          ∙ ap (λ (t : List ℕ). Some t) (append_assoc text (lines_text (lines_of x told)) (lines_text rest) ∙ ap (λ (t : List ℕ). text ++ t) (sym (text_joined (lines_of x told) rest)))

    started_is_not_refused : (past : List HostEvent) (t : ℕ) → has_start past ≡ false → is_refusal (own play s past (Start t)) ≡ false
    started_is_not_refused past t h =
        let o : own play s past (Start t) ≡ notices s (play []).sent (play []).end = rw (small, h, accepted-none play past h) refl in
        ap is_refusal o ∙ no_refusal s (play []).sent (play []).end

    -- before the start nothing is done, and the start makes the file
    grown_first : (o : Option (List ℕ)) (past events : List HostEvent) → has_start past ≡ false → has_start events ≡ true
        → grown o past events ≡ Some (lines_text (lines_after play s past events))
    grown_first o past [] h never = absurd cc
    grown_first o past (Start t ∷ events) h on =
        let first : List TranscriptLine = lines_of (Start t) (own play s past (Start t)) in
        ap (λ (b : Bool). grown (cond b o (Some (lines_text first))) (past ++ Start t ∷ []) events) (started_is_not_refused past t h)
        ∙ grown_there (lines_text first) (past ++ Start t ∷ []) events (has_start-last past (Start t) ∙ rw h refl)
        ∙ ap (λ (l : List ℕ). Some l) (sym (text_joined first (lines_after play s (past ++ Start t ∷ []) events)))
    grown_first o past (Arrive t y ∷ events) h on =
        passed_over o past (Arrive t y) events (rw (small, h) refl) (grown_first o (past ++ Arrive t y ∷ []) events (not_start past (Arrive t y) refl ∙ h) on)
    grown_first o past (Oversize t n ∷ events) h on =
        passed_over o past (Oversize t n) events (rw (small, h) refl) (grown_first o (past ++ Oversize t n ∷ []) events (not_start past (Oversize t n) refl ∙ h) on)

-- ---- all sessions

module _ (plays : ℕ → Run) (folder : List ℕ) where
  abbrev file_of : ℕ → List ℕ
  file_of session = transcript_of folder session

  record Filed (past events : List HostEvent) (store : StoreState) (files : Files) : Type 0 where
    now : Files
    told : (all_noted plays folder store past events).files ≡ Some now
    mine : (s : ℕ) → s < 1024 → now (file_of s) ≡ grown (plays s) s (files (file_of s)) (events_of s past) (events_of s events)
    others : (name : List ℕ) → ((s : ℕ) → s < 1024 → has_start (events_of s (past ++ events)) ≡ true → name ≡ file_of s → ⊥) → now name ≡ files name

  module _ (past : List HostEvent) (x : HostEvent) (events : List HostEvent) (files : Files) where
    abbrev t : ℕ
    t = session_of x

    abbrev ours : List HostEvent
    ours = events_of t past

    abbrev told_x : List Notice
    told_x = answer plays past x

    -- the session's own events, with this one
    mine_past : events_of t (past ++ x ∷ []) ≡ ours ++ x ∷ []
    mine_past = events_of-last t past x ∙ ap (λ b. ours ++ cond b (x ∷ []) []) (eq-eqb t t refl)

    mine_next : events_of t (x ∷ events) ≡ x ∷ events_of t events
    mine_next = ap (λ b. cond b (x ∷ events_of t events) (events_of t events)) (eq-eqb t t refl)

    apart_past : (s : ℕ) → (t == s) ≡ false → events_of s (past ++ x ∷ []) ≡ events_of s past
    apart_past s e = events_of-last s past x ∙ ap (λ b. events_of s past ++ cond b (x ∷ []) []) e ∙ append-nil (events_of s past)

    apart_next : (s : ℕ) → (t == s) ≡ false → events_of s (x ∷ events) ≡ events_of s events
    apart_next s e = ap (λ b. cond b (x ∷ events_of s events) (events_of s events)) e

    whole : (past ++ x ∷ []) ++ events ≡ past ++ x ∷ events
    whole = append_assoc past (x ∷ []) events

    -- what a session's file is by then
    at_session : (s : ℕ) (o : Option (List ℕ)) (p es : List HostEvent) → p ≡ events_of s past → es ≡ events_of s (x ∷ events) → grown (plays s) s o p es ≡ grown (plays s) s o (events_of s past) (events_of s (x ∷ events))
    at_session s o p es one two = rw (one, two) refl

    mine_by : (files_now : Files) → (now : Files) → files_now (file_of t) ≡ grown_by (plays t) t (files (file_of t)) ours x
        → ((s : ℕ) → s < 1024 → (t == s) ≡ false → files_now (file_of s) ≡ files (file_of s))
        → ((s : ℕ) → s < 1024 → now (file_of s) ≡ grown (plays s) s (files_now (file_of s)) (events_of s (past ++ x ∷ [])) (events_of s events))
        → (s : ℕ) → s < 1024 → now (file_of s) ≡ grown (plays s) s (files (file_of s)) (events_of s past) (events_of s (x ∷ events))
    mine_by files_now now its apart rest s within = by (t == s) refl where
      by : (b : Bool) → (t == s) ≡ b → now (file_of s) ≡ grown (plays s) s (files (file_of s)) (events_of s past) (events_of s (x ∷ events))
      by true e = subst (λ (i : ℕ). i < 1024 → now (file_of i) ≡ grown (plays i) i (files (file_of i)) (events_of i past) (events_of i (x ∷ events))) (eqb-true t s e) here within where
        here : t < 1024 → now (file_of t) ≡ grown (plays t) t (files (file_of t)) ours (events_of t (x ∷ events))
        here below =
            rest t below
            ∙ ap (λ (p : List HostEvent). grown (plays t) t (files_now (file_of t)) p (events_of t events)) mine_past
            ∙ ap (λ (o : Option (List ℕ)). grown (plays t) t o (ours ++ x ∷ []) (events_of t events)) its
            ∙ ap (λ (es : List HostEvent). grown (plays t) t (files (file_of t)) ours es) (sym mine_next)
      by false e =
          rest s within
          ∙ ap (λ (p : List HostEvent). grown (plays s) s (files_now (file_of s)) p (events_of s events)) (apart_past s e)
          ∙ ap (λ (o : Option (List ℕ)). grown (plays s) s o (events_of s past) (events_of s events)) (apart s within e)
          ∙ ap (λ (es : List HostEvent). grown (plays s) s (files (file_of s)) (events_of s past) es) (sym (apart_next s e))

    started_all : is_refusal told_x ≡ false → (t < 1024) × (has_start (events_of t (past ++ x ∷ events)) ≡ true)
    started_all goes =
        let below = within_range (plays t) t ours x (nat_lt 1023 t) refl goes in
        let here : has_start (ours ++ x ∷ []) ≡ true = started_by (plays t) t (is_low t below) ours x (has_start ours) refl goes in
        (below, all_of here) where
          all_of : has_start (ours ++ x ∷ []) ≡ true → has_start (events_of t (past ++ x ∷ events)) ≡ true
          all_of here =
              ap (λ (p : List HostEvent). has_start (events_of t p)) (sym whole)
              ∙ ap has_start (filter-append (λ e. session_of e == t) (past ++ x ∷ []) events)
              ∙ list_any-append is_start (events_of t (past ++ x ∷ [])) (events_of t events)
              ∙ ap (λ (p : List HostEvent). has_start p || has_start (events_of t events)) mine_past
              ∙ ap (λ b. b || has_start (events_of t events)) here

  filed : (past events : List HostEvent) (store : StoreState) (files : Files) → store.files ≡ Some files → Filed past events store files
  filed past [] store files told = record { now = files; told = told; mine = λ s within. refl; others = λ name other. refl }
  filed past (x ∷ events) store files told = by (λ at fs is. filed (past ++ x ∷ []) events at fs is) (is_refusal (answer plays past x)) refl where
    by : ((at : StoreState) (fs : Files) → at.files ≡ Some fs → Filed (past ++ x ∷ []) events at fs) → (b : Bool) → is_refusal (answer plays past x) ≡ b → Filed past (x ∷ events) store files
    by again true refused =
        let same : noted folder store x (answer plays past x) ≡ store = rw refused refl in
        let f = again store files told in
        record {
          now = f.now;
          told = ap (λ (s : StoreState). (all_noted plays folder s (past ++ x ∷ []) events).files) same ∙ f.told;
          mine = mine_by past x events files files f.now (rw refused refl) (λ s within e. refl) f.mine;
          others = λ name other. f.others name (λ s within on is. other s within (ap (λ (p : List HostEvent). has_start (events_of s p)) (sym (whole past x events files)) ∙ on) is);
        }
    by again false goes =
        let lines : List ℕ = lines_text (lines_of x (answer plays past x)) in
        let text : List ℕ = had (is_start x) (files (file_of (session_of x))) ++ lines in
        let next : Files = with_file files (file_of (session_of x)) text in
        let grew : (noted folder store x (answer plays past x)).files ≡ Some next =
        ap (λ (b : Bool). (cond b store (put_into (is_start x) store (file_of (session_of x)) lines)).files) goes ∙ put_files (is_start x) (file_of (session_of x)) lines store files told in
        let f = again (noted folder store x (answer plays past x)) next grew in
        let all = started_all past x events files goes in
        record {
          now = f.now;
          told = f.told;
          mine = mine_by past x events files next f.now (with_same files (file_of (session_of x)) text ∙ rw goes refl)
              (λ s within e. with_other files (file_of (session_of x)) text (file_of s) (λ is. differ s within e (names_are_one folder s (session_of x) within all.0 is))) f.mine;
          others = λ name other.
              f.others name (λ s within on is. other s within (ap (λ (p : List HostEvent). has_start (events_of s p)) (sym (whole past x events files)) ∙ on) is)
              ∙ with_other files (file_of (session_of x)) text name (λ is. other (session_of x) all.0 all.1 is);
        } where
          differ : (s : ℕ) → s < 1024 → (session_of x == s) ≡ false → s ≡ session_of x → ⊥
          differ s within e is = let same : (session_of x == s) ≡ true = eq-eqb (session_of x) s (sym is) in absurd (let never : true ≡ false = sym same ∙ e in cc)

pub are_of_sessions : FilesAreOfSessions
are_of_sessions plays folder events store files told =
    let f = filed plays folder [] events store files told in (
      f.now,
      f.told,
      λ s within on. f.mine s within ∙ grown_first (plays s) s (is_low s within) (files (transcript_of folder s)) [] (events_of s events) refl on,
      λ name other. f.others name (λ s within on is. other (s, within, on, is)),
    )
