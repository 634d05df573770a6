-- What is recorded of a host, as statuses and folders tell it.
use Rattle.std.proofs.Common.{◌≡◌, ◌≢◌, ◌<◌, ℕ, arith, true, List, [], ◌∷◌, ◌++◌, length, take, Option, Some, None, Ok, refl, sym, ap, ◌∙◌, subst, inl, inr, append_assoc, ◌+◌, ◌≤◌, ◌⊎◌}
use Rattle.std.specs.Prelude.{codes, decimal}
use Rattle.std.specs.List.{AllByRecursion}
use Rattle.std.proofs.lemmas.Bool.{cases_lt}
use Rattle.std.proofs.lemmas.List.{append_cancel_left}
use Rattle.anb_base.specs.Bytes.{IsBytes}
use Rattle.anb_base.specs.Moves.{Rose, Took}
use Rattle.anb_base.specs.Wires.{WireState}
use Rattle.anb_base.proofs.Moving.{took_nothing}
use Rattle.anb_code.specs.CodeValue.{CodeValue}
use Rattle.anb_code.specs.Taking.{take_texts}
use Rattle.anb_plays.specs.Plays.{Run}
use Rattle.anb_store.specs.Stores.{StoreState, replaced, with_file}
use Rattle.anb_recording.specs.Joining.{others_joined}
use Rattle.anb_recording.specs.Journals.{Files as StoreFiles, IsAbsent, OthersStay}
use Rattle.anb_recording.specs.Lines.{IsPlain, lines_text}
use Rattle.anb_transcript.specs.declared.transcript.TranscriptLine.{TranscriptLine}
use Rattle.anb_host.specs.declared.event.HostEvent.{HostEvent}
use Rattle.anb_host.specs.declared.serving.HostEnd.{HostEnd}
use Rattle.anb_host.specs.declared.serving.HostEnd.TheVariants as ends
use Rattle.anb_host.specs.Alone.{SendsOn}
use Rattle.anb_host.specs.HostFrames.{End, FramesLeft, HasFrames, HostFrames, Tail}
use Rattle.anb_host.specs.Hosts.{HostValue, StandsFor, plays_of}
use Rattle.anb_host.specs.Own.{events_of, has_start, own}
use Rattle.anb_host.specs.Serving.{FollowsAfter, IsBehind}
use Rattle.anb_host_recording.specs.Entries.{all_noted, lines_of, transcript_of}
use Rattle.anb_host_recording.specs.Keeps.{IsOfSession, Keeps}
use Rattle.anb_host_recording.specs.Laws.{FilesAreOfSessions, LinesAreTranscripts}
use Rattle.anb_host_recording.specs.Sessions.{IsTranscript, lines_after, session_lines}
use Rattle.anb_host_recording.specs.declared.recording.Noted.{Noted}
use Rattle.anb_host_recording.specs.declared.recording.Noted.TheVariants as noted
use Rattle.anb_host_recording.proofs.Plain.{plain_session}
use Rattle.anb_host_commands.specs.HostCommand.{ArePlays, Takes}
use Rattle.anb_host_commands.specs.Serving.{runs_by, status_of}
use Rattle.anb_host_commands.specs.declared.hosting.TheConstants.{FRAMES}
use Rattle.anb_host_commands.proofs.Alike.{Alike, AreBytes, HaveBytes, HasBytes, both_have, of_session, same_own}
use Rattle.anb_host_commands.proofs.Sessions.{are_plays, runs_alike, runs_send_on}
use Rattle.anb_host_commands.proofs.Sizes.{events_bytes, take_bytes}
use Rattle.anb_values.specs.Fit.{Fit}
use Rattle.anb_status.specs.declared.status.Status.{Status}
use Rattle.anb_status.specs.declared.status.Status.TheVariants.{NoMemory}
use Rattle.anb_command.specs.Fetches.{Files, IfTold}
use Rattle.anb_command.specs.Prepared.{IsRunBy}
use Rattle.anb_command.specs.Steps.{Answer, HasOneAnswer, given}
use Rattle.anb_command.proofs.Ones.{same_given}
use Rattle.anb_role_commands.specs.Jobs.{Job, JobIs}
use Rattle.anb_role_commands.specs.Playing.{IsPlayableInEach, IsPreparedFor, PlayIn, play_in}
use Rattle.anb_record_commands.specs.HostInto.{HasSessions, HoldsSessions, IsFresh, IsOfHost, IsStarted, RecordsHost, lines_in}
use Rattle.anb_recorded.specs.Names.{values_in}
use Rattle.anb_recorded.specs.Outcomes.{IsMissing, TakesNoneOver}
use Rattle.anb_record_commands.specs.Outcomes.{IsReadAgain, Valued, text_of}
use Rattle.anb_record_commands.specs.PlayInto.{job_values}
use Rattle.anb_record_commands.specs.Running.{IsHostOpened, MissesSessions, RecordsServed, RecordsSessions, missing_of_host}
use Rattle.anb_recorded.specs.declared.ended.Missing.{Missing}
use Rattle.anb_recorded.specs.declared.ended.Missing.TheVariants as missing
use Rattle.anb_recorded.proofs.Holding.{with_other, with_same}
use Rattle.anb_record_commands.proofs.Holding.{others_within}

-- ---- behind serving

-- the files of sessions are the host's
of_host : (folder : List ℕ) (store now : StoreState) → OthersStay (IsOfSession folder) store now → OthersStay (IsOfHost folder) store now
of_host folder store now others = others_within (IsOfSession folder) (IsOfHost folder) store now (λ name is. inr is) others

module _ (h : HostValue) (folder : List ℕ) (store now : StoreState) (S T : WireState) (end : HostEnd) where
  abbrev Followed : Noted → Type 0
  Followed kept = end ≢ ends.NoMemory → FollowsAfter h FRAMES S T (λ some. Keeps (plays_of h) folder [] some store now noted.Whole kept)

  some_end : status_of end ≢ NoMemory → end ≢ ends.NoMemory
  some_end some none = some (ap status_of none)

  pub misses_sessions : (kept : Noted) → Followed kept → MissesSessions folder store now (status_of end) (missing_of_host kept)
  misses_sessions noted.Whole is = λ some. let k = (is (some_end some)).followed in (k.quiet (λ name e. cc), of_host folder store now k.others)
  misses_sessions noted.NoMemory is = λ some. let k = (is (some_end some)).followed in (k.quiet (λ name e. cc), of_host folder store now k.others)
  misses_sessions (noted.Unwritten name) is = λ some. let k = (is (some_end some)).followed in elim (k.failed name refl) [
    | inl never ↦ absurd (cc)
    | inr mine ↦ (inr mine.0, mine.1, of_host folder store now k.others)
  ]

  pub records_sessions : (kept : Noted) → StandsFor h [] → Followed kept → status_of end ≢ NoMemory → missing_of_host kept ≡ missing.Nothing
      → RecordsSessions folder store now (plays_of h) S.left T.left
  records_sessions (noted.Unwritten name) stands is some whole = absurd (cc)
  records_sessions noted.NoMemory stands is some whole = absurd (cc)
  records_sessions noted.Whole stands is some whole =
      let f = is (some_end some) in
      record {
        some = f.some;
        plain = f.followed.plain refl;
        store = (f.followed.whole refl).1;
        taken = λ events tail left.
            let a = f.are [] events tail stands left in
            let frames = a.4.0 in
            (a.1, a.3, (frames.0, subst (λ (es : List HostEvent). HostFrames frames.0 es End) (sym a.5) frames.2, frames.1), (a.0, a.5));
      }

-- the same sessions over the same input
pub records_by : (P Q : ℕ → Run) (folder : List ℕ) (store now : StoreState) (left before left_now : Option (List ℕ)) → P ≡ Q → left ≡ before
    → RecordsSessions folder store now P left left_now → RecordsSessions folder store now Q before left_now
records_by P Q folder store now left before left_now same at is =
    subst (λ (plays : ℕ → Run). RecordsSessions folder store now plays before left_now) same (subst (λ (l : Option (List ℕ)). RecordsSessions folder store now P l left_now) at is)

-- nothing was served
pub records_none : (plays : ℕ → Run) (folder : List ℕ) (store : StoreState) (left left_now : Option (List ℕ)) → left_now ≡ left → RecordsSessions folder store store plays left left_now
records_none plays folder store left left_now same = record {
  some = [];
  plain = tt;
  store = refl;
  taken = λ events tail frames. ([], inl (inl refl), ([], refl, subst (λ (l : Option (List ℕ)). Took left l []) (sym same) (took_nothing left)), (0, refl));
}

-- ---- behind the files that are made

-- what the sessions miss is missing in the folder
pub missing_of_sessions : (folder : List ℕ) (store mid now : StoreState) (old new : WireState) (end : Status) (m : Missing) → mid.faults ≡ store.faults → OthersStay (IsOfHost folder) store mid
    → MissesSessions folder mid now end m → IsMissing (IsOfHost folder) store now old new end m
missing_of_sessions folder store mid now old new end m same first is = of m is where
  others : OthersStay (IsOfHost folder) mid now → OthersStay (IsOfHost folder) store now
  others then = others_joined (IsOfHost folder) store mid now first then

  of : (m : Missing) → MissesSessions folder mid now end m → IsMissing (IsOfHost folder) store now old new end m
  of missing.Nothing is = λ some. let c = is some in (c.0 ∙ same, others c.1)
  of missing.NoMemory is = λ some. let c = is some in (c.0 ∙ same, others c.1)
  of (missing.Unwritten name) is = λ some. let mine = is some in (mine.0, subst (λ (n : ℕ). Rose n now.faults) same mine.1, others mine.2)
  of (missing.There name) is = absurd is

-- making the values touches no other file
pub values_alone : (folder text : List ℕ) (store mid : StoreState) → mid ≡ replaced store (values_in folder) text → OthersStay (IsOfHost folder) store mid
values_alone folder text store mid is = subst (OthersStay (IsOfHost folder) store) (sym is) at_once where
  at_once : OthersStay (IsOfHost folder) store (replaced store (values_in folder) text)
  at_once files told = (with_file files (values_in folder) text, rw told refl, λ name not. with_other files (values_in folder) text name (λ same. not (inl same)))

-- the values are a file of the host
pub values_mine : (folder values : List ℕ) (store now : StoreState) → values ≡ values_in folder → OthersStay (λ name. name ≡ values) store now → OthersStay (IsOfHost folder) store now
values_mine folder values store now v others = others_within (λ name. name ≡ values) (IsOfHost folder) store now (λ name is. inl (is ∙ v)) others

-- the values stand in the folder, and the lines behind them
pub served_in : (plays : ℕ → Run) (valued : Valued) (folder text : List ℕ) (store mid now : StoreState) (left left_now : Option (List ℕ)) → mid ≡ replaced store (values_in folder) text
    → text ≡ text_of valued → Fit text valued.labels (Ok (record { values = valued.initial; seed = Some valued.seed })) → RecordsSessions folder mid now plays left left_now
    → RecordsServed plays valued folder store now left left_now
served_in plays valued folder text store mid now left left_now made written reads is = record {
  mid = mid;
  made = made ∙ ap (λ (t : List ℕ). replaced store (values_in folder) t) written;
  reads = subst (λ (t : List ℕ). Fit t valued.labels (Ok (record { values = valued.initial; seed = Some valued.seed }))) written reads;
  sessions = is;
}

-- none of the files is there
pub fresh_by : (folder : List ℕ) (store : StoreState) → IsAbsent store (values_in folder) → ((session : ℕ) → session < 1024 → IsAbsent store (transcript_of folder session)) → IsFresh folder store
fresh_by folder store values sessions name mine = elim mine [
  | inl is ↦ subst (IsAbsent store) (sym is) values
  | inr s ↦ subst (IsAbsent store) (sym s.2) (sessions s.0 s.1)
]

-- no recording is taken over
pub none_over : (folder : List ℕ) (store now : StoreState) (S T : WireState) → (T ≡ S) ⊎ IsFresh folder store → TakesNoneOver (IsOfHost folder) store now S T
none_over folder store now S T (inl same) = inl same
none_over folder store now S T (inr fresh) = inr (inl fresh)

-- one more session's file isn't there
pub absent_further : (folder : List ℕ) (store : StoreState) (k : ℕ) → ((session : ℕ) → session < k → IsAbsent store (transcript_of folder session)) → IsAbsent store (transcript_of folder k)
    → (session : ℕ) → session < k + 1 → IsAbsent store (transcript_of folder session)
absent_further folder store k so_far here session below = by (cases_lt session k) where
  by : (session < k) ⊎ (k ≤ session) → IsAbsent store (transcript_of folder session)
  by (inl less) = so_far session less
  by (inr other) = let is : k ≡ session = omega (arith, other, below) in subst (λ (s : ℕ). IsAbsent store (transcript_of folder s)) is here

-- ---- in a folder

abbrev second : List ℕ → ℕ
second (a ∷ b ∷ rest) = b
second _ = 0

values_apart : (folder : List ℕ) (session : ℕ) → values_in folder ≢ transcript_of folder session
values_apart folder session is =
    let tails : codes "/values" ≡ codes "/transcript-" ++ decimal session =
    append_cancel_left folder (codes "/values") (codes "/transcript-" ++ decimal session) (is ∙ append_assoc folder (codes "/transcript-") (decimal session)) in
    let never : 118 ≡ 116 = ap second tails in
    omega (arith, never)

-- lines of plays that sessions are told alike
module _ (P Q : Run) (alike : (arrivals : List (List ℕ)) → AreBytes arrivals → Alike (P arrivals) (Q arrivals)) (s : ℕ) where
  same_after : (past events : List HostEvent) → HaveBytes past → HaveBytes events → lines_after P s past events ≡ lines_after Q s past events
  same_after past [] have none = refl
  same_after past (x ∷ events) have (b, more) =
      ap (λ o. lines_of x o ++ lines_after P s (past ++ x ∷ []) events) (same_own P Q alike s past x have b)
      ∙ ap (λ (l : List TranscriptLine). lines_of x (own Q s past x) ++ l) (same_after (past ++ x ∷ []) events (both_have past (x ∷ []) have (b, tt)) more)

  same_lines : (events : List HostEvent) → HaveBytes events → session_lines P s events ≡ session_lines Q s events
  same_lines events have = same_after [] events tt have

module _ (P Q : ℕ → Run) (folder values : List ℕ) (store mid now : StoreState) (some : List HostEvent) (filed : FilesAreOfSessions)
    (made : mid ≡ replaced store (values_in folder) values)
    (same : (session : ℕ) → session_lines (P session) session (events_of session some) ≡ session_lines (Q session) session (events_of session some)) where
  made_files : (files : StoreFiles) → store.files ≡ Some files → mid.files ≡ Some (with_file files (values_in folder) values)
  made_files files told = ap (λ (s : StoreState). s.files) made ∙ rw told refl

  pub holds_sessions : now ≡ all_noted P folder mid [] some → HoldsSessions folder store now values Q some
  holds_sessions is files told =
      let first = with_file files (values_in folder) values in
      let f = filed P folder some mid first (made_files files told) in (
        f.0,
        ap (λ (s : StoreState). s.files) is ∙ f.1,
        f.3 (values_in folder) (λ mine. values_apart folder mine.0 mine.3) ∙ with_same files (values_in folder) values,
        λ session started.
            f.2 session started.0 started.1
            ∙ ap (λ (l : List TranscriptLine). Some (lines_text l)) (same session),
        λ name differ apart. f.3 name (λ mine. apart mine.0 (mine.1, mine.2) mine.3) ∙ with_other files (values_in folder) values name differ,
      )

-- ---- what was asked for, recorded

module _ (narration name values : List ℕ) (host_seed : Option (List ℕ)) (one : (files : Files) → HasOneAnswer (JobIs files narration name values host_seed)) (exists : HasFrames)
    (filed : FilesAreOfSessions) (transcripts : LinesAreTranscripts) where
  abbrev Asks : Files → Answer Job → Type 0
  Asks files = JobIs files narration name values host_seed

  module _ (code : CodeValue) (initial : List (List ℕ)) (seed folder : List ℕ) (store now : StoreState) (S T : WireState) where
    abbrev valued : Valued
    valued = record { labels = take_texts code.instrs; initial = initial; seed = seed }

    module _ (files : Files) (p : IsPreparedFor (Asks files) code initial seed) (e : IsPlayableInEach (Asks files) code initial seed)
        (served : RecordsServed (runs_by code initial seed) valued folder store now S.left T.left) (left : List ℕ) (told : S.left ≡ Some left) (bytes : IsBytes left) where
      abbrev job : Job
      job = record { protocol = p.protocol; role = p.role; initial = initial; seed = seed }

      abbrev P : ℕ → Run
      P = runs_by code initial seed

      abbrev Q : ℕ → Run
      Q = play_in code initial seed

      comes : (session : ℕ) → IsRunBy (PlayIn session) job (play_in code initial seed session)
      comes = subst (λ (j : Job). (session : ℕ) → IsRunBy (PlayIn session) j (play_in code initial seed session)) (same_given e.asked job (one files (given e.asked) (given job) e.asks p.asks)) e.comes

      are : ArePlays job Q
      are = are_plays job code initial seed comes

      abbrev some : List HostEvent
      some = served.sessions.some

      reading : (events : List HostEvent) × (tail : Tail) × HostFrames left events tail
      reading = exists left bytes

      abbrev taken : (z : List ℕ) × IsBehind z × ((frames : List ℕ) × HostFrames frames some End × Took S.left T.left (frames ++ z)) × ((k : ℕ) × (some ≡ take k reading.0))
      taken = served.sessions.taken reading.0 reading.1 (subst (λ (l : Option (List ℕ)). FramesLeft l reading.0 reading.1) (sym told) reading.2)

      have : HaveBytes some
      have = subst HaveBytes (sym taken.3.1) (take_bytes taken.3.0 reading.0 (events_bytes left reading.0 reading.1 bytes reading.2))

      same : (session : ℕ) → session_lines (P session) session (events_of session some) ≡ session_lines (Q session) session (events_of session some)
      same session = same_lines (P session) (Q session) (runs_alike job code initial seed comes Q are session) session (events_of session some) (of_session session some have)

      sends_on : (session : ℕ) → SendsOn (Q session)
      sends_on session arrivals more = runs_send_on code initial seed session arrivals more

      texts : valued ≡ job_values job
      texts = ap (λ (t : List (List ℕ)). record { labels = t; initial = initial; seed = seed }) p.texts

      pub has_sessions : HasSessions job folder store now S.left T.left
      has_sessions = record {
        some = some;
        z = taken.0;
        behind = taken.1;
        takes = record { plays = Q; are = are; frames = taken.2.0; are_frames = taken.2.1; took = taken.2.2 };
        transcripts = λ session started. (
          subst (AllByRecursion IsPlain) (same session) (plain_session P session some served.sessions.plain),
          transcripts (Q session) session (events_of session some) started.0 (sends_on session) started.1,
        );
        reads = subst IsReadAgain texts served.reads;
        holds = subst (λ (g : Valued). HoldsSessions folder store now (text_of g) Q some) texts
            (holds_sessions P Q folder (text_of valued) store served.mid now some filed served.made same served.sessions.store);
      }

    over_input : (files : Files) → IsPreparedFor (Asks files) code initial seed → IsPlayableInEach (Asks files) code initial seed
        → RecordsServed (runs_by code initial seed) valued folder store now S.left T.left
        → IfTold S.left (λ left. IsBytes left → (job : Job) × Asks files (given job) × HasSessions job folder store now S.left T.left)
    over_input files p e served = by S.left refl where
      by : (o : Option (List ℕ)) → S.left ≡ o → IfTold o (λ left. IsBytes left → (job : Job) × Asks files (given job) × HasSessions job folder store now S.left T.left)
      by None told = tt
      by (Some left) told = λ bytes. (job files p e served left told bytes, p.asks, has_sessions files p e served left told bytes)

  pub sessions_recorded : (told : Option Files) (code : CodeValue) (initial : List (List ℕ)) (seed folder : List ℕ) (store now : StoreState) (S T : WireState) (end : Status)
      → IfTold told (λ files. IsPreparedFor (Asks files) code initial seed) → IfTold told (λ files. IsPlayableInEach (Asks files) code initial seed)
      → RecordsServed (runs_by code initial seed) (record { labels = take_texts code.instrs; initial = initial; seed = seed }) folder store now S.left T.left
      → RecordsHost narration name values told host_seed S T folder store now end
  sessions_recorded None code initial seed folder store now S T end prepared each served = tt
  sessions_recorded (Some files) code initial seed folder store now S T end prepared each served = over_input code initial seed folder store now S T files prepared each served
