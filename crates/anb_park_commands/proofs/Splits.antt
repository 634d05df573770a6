-- Parts of a session are the whole play.
use Rattle.std.proofs.Common.{◌≡◌, ◌≢◌, ℕ, ◌+◌, ◌≤◌, List, [], ◌∷◌, ◌++◌, length, All, AllPairs, Option, Some, None, refl, sym, ap, ◌∙◌, subst, inl, inr, arith, length-append, append_assoc}
use Rattle.std.specs.Prelude.{Bool, IfSome, Ok, false, replicate, true}
use Rattle.std.specs.List.{sum_by}
use Rattle.std.proofs.lemmas.List.{append-nil, append_cancel_left, append_cancel_right}
use Rattle.std.proofs.lemmas.Grind.{flat_map-append}
use Rattle.sha2.proofs.Facts256.{length-sha256}
use Rattle.anb_base.specs.Bytes.{IsBytes}
use Rattle.anb_base.specs.declared.TheConstants.{ARRIVAL}
use Rattle.anb_base.specs.declared.content.Suite.TheVariants.{One}
use Rattle.anb_frame.specs.Frames.{frame, frames, length_bytes}
use Rattle.anb_frame.specs.Cuts.{Tail, End, Short, Long, Cut, HasCut, HasOneCut}
use Rattle.anb_frame.proofs.Lengths.{length-length_bytes}
use Rattle.anb_park.specs.Lives.{started}
use Rattle.anb_park.specs.Records.{HasSizes, Parked, after, body_of, marker, record_of}
use Rattle.anb_plays.specs.Plays as plays
use Rattle.anb_plays.specs.Plays.{Played}
use Rattle.anb_plays.proofs.Plays.{plays_are_one}
use Rattle.anb_read.specs.Laws.{NarrationsAreUnique, NoneIsBoth, RefusalsAreUnique}
use Rattle.anb_protocol.specs.Laws.{KnownTextsDiffer, ProtocolsHold}
use Rattle.anb_protocol.specs.Plays.{events_of, meaning_of}
use Rattle.anb_protocol.specs.Protocols.{ProtocolValue}
use Rattle.anb_protocol.specs.Texts.{known_texts}
use Rattle.anb_protocol.specs.WellFormed.{IsProtocol}
use Rattle.anb_seal.specs.Laws.{SealsLonger}
use Rattle.anb_seal.specs.Streams.{draw_of}
use Rattle.anb_syntax.specs.Canon.{canon}
use Rattle.anb_syntax.specs.Grammar.{Narration}
use Rattle.anb_values.specs.Fit.{Fit, FitIsUnique}
use Rattle.anb_values.specs.declared.fitted.Fitted.{Fitted}
use Rattle.anb_values.proofs.Sizes.{entries_fit, values_fit}
use Rattle.anb_command.specs.declared.limits.TheConstants.{KEY_LIMIT, RECORD_LIMIT, VALUES_LIMIT}
use Rattle.anb_status.specs.declared.status.Status.{Status}
use Rattle.anb_status.specs.declared.status.Status.TheVariants as status
use Rattle.anb_command.specs.Fetches.{Files}
use Rattle.anb_command.specs.Files.{FileIs, NarrationInFile, NarrationIs, ProtocolInFile, ProtocolIs}
use Rattle.anb_command.specs.Outcomes as playing
use Rattle.anb_command.specs.Outcomes.{LeavesAt}
use Rattle.anb_command.specs.Roles.{Part, PartInFile, PartOf}
use Rattle.anb_command.specs.Seeds.{seed_of}
use Rattle.anb_status.specs.Statuses.{before_reach, phase_of}
use Rattle.anb_command.specs.Steps.{Answer, refused, given, InTurn}
use Rattle.anb_command.proofs.Cutting.{cut_behind}
use Rattle.anb_command.proofs.Given.{fit_count, fit_seed, fit_short}
use Rattle.anb_command.proofs.Ones.{not_both, same_given, same_refusal}
use Rattle.anb_role_commands.specs.Jobs.{Job, JobIs, makes_names}
use Rattle.anb_role_commands.specs.PlayCommand.{PlayOf}
use Rattle.anb_role_commands.proofs.Tasks.{job_one, job_quiet}
use Rattle.anb_park_commands.specs.Identities.{IdentityIs, identity}
use Rattle.anb_park_commands.specs.ParkCommand.{NewSessionIs}
use Rattle.anb_park_commands.specs.declared.ended.RecordWay.{RecordWay}
use Rattle.anb_park_commands.specs.declared.ended.RecordWay.TheVariants.{ByWire, ToFile}
use Rattle.anb_park_commands.specs.Parking.{IsPlayed, due, record_after, status_at}
use Rattle.anb_park_commands.specs.Records.{RecordIs}
use Rattle.anb_park_commands.specs.ResumeCommand.{ResumedIs}
use Rattle.anb_park_commands.specs.Sessions.{Begins, GoesOn, RoleSession, count_known}
use Rattle.anb_park_commands.specs.Splits.{EndsAs, Finds, GoesOnAsPlayed, IsParked, IsSplitAsWhole, Parks, Plays, Resumes, Resuming, WereParked}
use Rattle.anb_park_commands.proofs.Ending.{parked_waits}
use Rattle.anb_park_commands.proofs.Bounds.{few_known, few_receives, length_frames, sum_short}
use Rattle.anb_park_commands.proofs.Small.{body_size}
use Rattle.anb_park_commands.specs.Keys.{KeyIs, KeyOf}
use Rattle.anb_park_commands.proofs.Tasks.{key_one, resumed_one}
use Rattle.anb_park_commands.proofs.Walking.{Uses, count_receives, play_on, play_uses}

-- ---- ends and what is left

abbrev made : List (List ℕ) → plays.End → List (List ℕ) → Played (List ℕ)
made sent x left = record { sent = sent; end = x; left = left }

ends_as : (way : RecordWay) (x : plays.End) (tail : Tail) (sent left : List (List ℕ)) (kept : List ℕ) → EndsAs way (playing.status_at x tail) (frames sent) (status_at x tail) (frames (due way (made sent x left) tail kept))
ends_as ByWire plays.done tail sent left kept = (refl, ap frames (append-nil sent))
ends_as ByWire (plays.stopped e at) tail sent left kept = (refl, ap frames (append-nil sent))
ends_as ByWire (plays.waiting e) End sent left kept = (refl, (kept, flat_map-append frame sent (kept ∷ []) ∙ ap (λ b. frames sent ++ b) (append-nil (frame kept))))
ends_as ByWire (plays.waiting e) (Short have need) sent left kept = (refl, ap frames (append-nil sent))
ends_as ByWire (plays.waiting e) (Long len) sent left kept = (refl, ap frames (append-nil sent))
ends_as ToFile plays.done tail sent left kept = (refl, refl)
ends_as ToFile (plays.stopped e at) tail sent left kept = (refl, refl)
ends_as ToFile (plays.waiting e) End sent left kept = (refl, (kept, sym (append-nil (frames sent))))
ends_as ToFile (plays.waiting e) (Short have need) sent left kept = (refl, refl)
ends_as ToFile (plays.waiting e) (Long len) sent left kept = (refl, refl)

ends_early : (way : RecordWay) (s : Status) (out : List ℕ) → phase_of s ≡ before_reach → out ≡ [] → EndsAs way s [] s out
ends_early way (status.Waiting e) out early is = absurd (cc)
ends_early way _ out early is = (refl, is)

joined : (xs ys : List (List ℕ)) → frames (xs ++ ys) ≡ frames xs ++ frames ys
joined xs ys = flat_map-append frame xs ys

module _ (heard later : List ℕ) (front bs unused : List (List ℕ)) (tail : Tail) (rest : List ℕ) (is : heard ≡ frames front) where
  in_front : (used : List (List ℕ)) (behind : List ℕ) → later ≡ frames used ++ behind → heard ++ later ≡ frames (front ++ used) ++ behind
  in_front used behind left = ap (λ h. h ++ later) is ∙ ap (λ l. frames front ++ l) left ∙ sym (append_assoc (frames front) (frames used) behind) ∙ ap (λ f. f ++ behind) (sym (joined front used))

  off_front : (used : List (List ℕ)) (behind : List ℕ) → heard ++ later ≡ frames (front ++ used) ++ behind → later ≡ frames used ++ behind
  off_front used behind left =
      append_cancel_left (frames front) later (frames used ++ behind)
      (ap (λ h. h ++ later) (sym is) ∙ left ∙ ap (λ f. f ++ behind) (joined front used) ∙ append_assoc (frames front) (frames used) behind)

  leaves_whole : (x : plays.End) → LeavesAt x later bs unused tail rest → LeavesAt x (heard ++ later) (front ++ bs) unused tail rest
  leaves_whole (plays.waiting e) leaves = by tail leaves where
    by : (t : Tail) → LeavesAt (plays.waiting e) later bs unused t rest → LeavesAt (plays.waiting e) (heard ++ later) (front ++ bs) unused t rest
    by End left = left
    by (Short have need) left = left
    by (Long len) left = in_front bs (length_bytes len ++ rest) left
  leaves_whole (plays.stopped e at) (used, all, left) = (front ++ used, ap (λ l. front ++ l) all ∙ sym (append_assoc front used unused), in_front used rest left)
  leaves_whole plays.done (used, all, left) = (front ++ used, ap (λ l. front ++ l) all ∙ sym (append_assoc front used unused), in_front used rest left)

  leaves_part : (x : plays.End) (used : List (List ℕ)) → bs ≡ used ++ unused → LeavesAt x (heard ++ later) (front ++ bs) unused tail rest → LeavesAt x later bs unused tail rest
  leaves_part (plays.waiting e) used all leaves = by tail leaves where
    by : (t : Tail) → LeavesAt (plays.waiting e) (heard ++ later) (front ++ bs) unused t rest → LeavesAt (plays.waiting e) later bs unused t rest
    by End left = left
    by (Short have need) left = left
    by (Long len) left = off_front bs (length_bytes len ++ rest) left
  leaves_part (plays.stopped e at) used all (taken, is_all, left) = (used, all, off_front used rest (left ∙ ap (λ u. frames u ++ rest) (same used taken all is_all))) where
    same : (used taken : List (List ℕ)) → bs ≡ used ++ unused → front ++ bs ≡ taken ++ unused → taken ≡ front ++ used
    same used taken all is_all = append_cancel_right taken (front ++ used) unused (sym is_all ∙ ap (λ l. front ++ l) all ∙ sym (append_assoc front used unused))
  leaves_part plays.done used all (taken, is_all, left) = (used, all, off_front used rest (left ∙ ap (λ u. frames u ++ rest) (same used taken all is_all))) where
    same : (used taken : List (List ℕ)) → bs ≡ used ++ unused → front ++ bs ≡ taken ++ unused → taken ≡ front ++ used
    same used taken all is_all = append_cancel_right taken (front ++ used) unused (sym is_all ∙ ap (λ l. front ++ l) all ∙ sym (append_assoc front used unused))

-- ---- files that are as they were

module _ (f g : Files) where
  file_as : (name : List ℕ) (limit : ℕ) → g name ≡ f name → (answer : Answer (List ℕ)) → FileIs g name limit answer → FileIs f name limit answer
  file_as name limit same (refused s) (is, longer) = (is, record { text = longer.text; holds = sym same ∙ longer.holds; long = longer.long })
  file_as name limit same (given text) has = record { holds = sym same ∙ has.holds; short = has.short }

first_as : {A B : Type 0} (one also : Answer A → Type 0) (next : A → Answer B → Type 0) → ((a : Answer A) → one a → also a) → (answer : Answer B) → InTurn one next answer → InTurn also next answer
first_as one also next by answer (inl (t, is, refuses)) = inl (t, by (refused t) is, refuses)
first_as one also next by answer (inr (a, is, comes)) = inr (a, by (given a) is, comes)

key_as : (f g : Files) (key : List ℕ) → g key ≡ f key → (answer : Answer (List ℕ)) → KeyIs g key answer → KeyIs f key answer
key_as f g key same = first_as _ _ KeyOf (file_as f g key KEY_LIMIT same)

module _ (f g : Files) (narration name : List ℕ) (same : g narration ≡ f narration) where
  narration_as : (answer : Answer Narration) → NarrationInFile g narration answer → NarrationInFile f narration answer
  narration_as = first_as _ _ NarrationIs (file_as f g narration _ same)

  protocol_as : (answer : Answer ProtocolValue) → ProtocolInFile g narration answer → ProtocolInFile f narration answer
  protocol_as = first_as _ _ ProtocolIs narration_as

  part_as : (answer : Answer Part) → PartInFile g narration name answer → PartInFile f narration name answer
  part_as = first_as _ _ (λ p. PartOf p name) protocol_as

  identity_as : (answer : Answer (List ℕ)) → IdentityIs g narration name answer → IdentityIs f narration name answer
  identity_as answer (n, in_file, is) = (n, narration_as (given n) in_file, is)

-- ---- what is known of a job

record PartFacts (files : Files) (narration : List ℕ) (part : Part) : Type 0 where
  n : Narration
  in_file : NarrationInFile files narration (given n)
  protocol : IsProtocol part.protocol

part_of_protocol : (p : ProtocolValue) (name : List ℕ) (part : Part) → PartOf p name (given part) → part.protocol ≡ p
part_of_protocol p name part (inl (t, first, never)) = not_both t part (sym never)
part_of_protocol p name part (inr (role, named, inl (t, first, never))) = not_both t part (sym never)
part_of_protocol p name part (inr (role, named, inr (u, all, is))) =
    ap (λ (q : Part). q.protocol) (same_given part (record { protocol = p; role = role }) is)

part_facts : (files : Files) (narration name : List ℕ) (part : Part) → PartInFile files narration name (given part) → PartFacts files narration part
part_facts files narration name part (inl (t, first, never)) = not_both t part (sym never)
part_facts files narration name part (inr (p, inl (t, first, never), of)) = not_both t p (sym never)
part_facts files narration name part (inr (p, inr (n, inl (t, first, never), is), of)) = not_both t n (sym never)
part_facts files narration name part (inr (p, inr (n, inr (text, file, told), (well, is)), of)) = record {
  n = n;
  in_file = inr (text, file, told);
  protocol =
      subst IsProtocol (sym (part_of_protocol p name part of)) (record { narration = n; spellable = record { valid = told.valid; fit = told.fit }; well_formed = well; is = is });
}

record JobFacts (files : Files) (narration name : List ℕ) (job : Job) : Type 0 where
  in_file : PartInFile files narration name (given (record { protocol = job.protocol; role = job.role }))
  of : PartFacts files narration (record { protocol = job.protocol; role = job.role })
  text : List ℕ
  short : length text ≤ VALUES_LIMIT
  fitted : Fitted
  fit : Fit text (known_texts job.protocol job.role) (Ok fitted)
  initial_is : job.initial ≡ fitted.values
  seed_is : length job.seed ≡ 32

seed_size : (makes : Bool) (told host_seed : Option (List ℕ)) (seed : List ℕ) → IfSome host_seed (λ s. length s ≡ 32) → ((s : List ℕ) → told ≡ Some s → length s ≡ 32) → seed_of makes told host_seed ≡ Some seed → length seed ≡ 32
seed_size makes (Some s) host_seed seed handed told is = let same : s ≡ seed = cc in ap length (sym same) ∙ told s refl
seed_size makes None (Some s) seed handed told is = let same : s ≡ seed = cc in ap length (sym same) ∙ handed
seed_size true None None seed handed told is = absurd (cc)
seed_size false None None seed handed told is = let same : replicate 32 0 ≡ seed = cc in ap length (sym same)

job_facts : (files : Files) (narration name values : List ℕ) (host_seed : Option (List ℕ)) (job : Job) → IfSome host_seed (λ s. length s ≡ 32) → JobIs files narration name values host_seed (given job)
    → JobFacts files narration name job
job_facts files narration name values host_seed job handed (inl (t, first, never)) = not_both t job (sym never)
job_facts files narration name values host_seed job handed (inr (part, in_file, inl (t, first, never))) = not_both t job (sym never)
job_facts files narration name values host_seed job handed (inr (part, in_file, inr (fitted, inl (t, first, never), next))) = not_both t fitted (sym never)
job_facts files narration name values host_seed job handed (inr (part, in_file, inr (fitted, inr (text, file, fit), inl (t, first, never)))) = not_both t job (sym never)
job_facts files narration name values host_seed job handed (inr (part, in_file, inr (fitted, inr (text, file, fit), inr (seed, some, is)))) =
    let is_job : Job = record { protocol = part.protocol; role = part.role; initial = fitted.values; seed = seed } in
    subst (JobFacts files narration name) (sym (same_given job is_job is)) (record {
      in_file = in_file;
      of = part_facts files narration name part in_file;
      text = text;
      short = file.short;
      fitted = fitted;
      fit = fit;
      initial_is = refl;
      seed_is = seed_size (makes_names part.protocol part.role) fitted.seed host_seed seed handed (λ s is_seed. fit_seed text (known_texts part.protocol part.role) fitted s fit is_seed) some;
    })

-- ---- sizes

initial_total : (text : List ℕ) (names : List (List ℕ)) (fitted : Fitted) → AllPairs (λ (one other : List ℕ). one ≢ other) names → Fit text names (Ok fitted) → sum_by length fitted.values ≤ length text
initial_total text names fitted differ (entries, said, none, values, seed) =
    omega (arith, values_fit names entries fitted.values differ values, entries_fit text entries said)

identity_size : (files : Files) (narration name id : List ℕ) → IdentityIs files narration name (given id) → length id ≡ 32
identity_size files narration name id (n, in_file, is) = ap length (same_given id (identity n name) is) ∙ length-sha256 (canon n ++ name)

-- ---- where a session stands

module _ (way : RecordWay) (narrations : NarrationsAreUnique) (refusals : RefusalsAreUnique) (none : NoneIsBoth) (one_fit : FitIsUnique) (longer : SealsLonger) (hold : ProtocolsHold) (differ : KnownTextsDiffer)
    (narration name values key : List ℕ) (host_seed : Option (List ℕ)) (files : Files) (handed : IfSome host_seed (λ s. length s ≡ 32)) where
  abbrev session_after : Job → (id : List ℕ) → List (List ℕ) → Parked
  session_after job id arrivals = after (started id job.initial job.seed 0) arrivals

  -- `play` waits over all that was heard, and has written the same; the record is that of its session
  record Stand (heard written kept : List ℕ) : Type 0 where
    job : Job
    asks : JobIs files narration name values host_seed (given job)
    secret : List ℕ
    key_is : KeyIs files key (given secret)
    id : List ℕ
    id_is : IdentityIs files narration name (given id)
    arrivals : List (List ℕ)
    cut : Cut ARRIVAL heard arrivals End
    play : Played (List ℕ)
    it_plays : PlayOf job arrivals play
    event : ℕ
    waits : play.end ≡ plays.waiting event
    written_is : written ≡ frames play.sent
    kept_is : kept ≡ record_of secret (session_after job id arrivals)

  play_one : (job : Job) (arrivals : List (List ℕ)) (p q : Played (List ℕ)) → PlayOf job arrivals p → PlayOf job arrivals q → p ≡ q
  play_one job arrivals p q is also = plays_are_one (meaning_of job.protocol) (draw_of job.seed 0) (events_of job.protocol job.role) job.initial arrivals p q is also

  module _ (heard written kept : List ℕ) (st : Stand heard written kept) where
    facts : JobFacts files narration name st.job
    facts = job_facts files narration name values host_seed st.job handed st.asks

    heard_is : heard ≡ frames st.arrivals
    heard_is = st.cut.1 ∙ ap (λ z. frames st.arrivals ++ z) st.cut.3 ∙ append-nil (frames st.arrivals)

    uses : Uses st.arrivals (count_receives (events_of st.job.protocol st.job.role)) st.play
    uses = play_uses (meaning_of st.job.protocol) (draw_of st.job.seed 0) (events_of st.job.protocol st.job.role) st.job.initial st.arrivals st.play st.it_plays

    used_all : st.play.left ≡ []
    used_all = uses.all st.event st.waits

    few : length st.arrivals ≤ 256
    few =
        let size : length st.arrivals ≡ length uses.used = ap length (uses.is ∙ ap (λ l. uses.used ++ l) used_all ∙ append-nil uses.used) in
        omega (arith, size, uses.few, few_receives st.job.protocol st.job.role, (hold st.job.protocol facts.of.protocol).actions)

    sizes : HasSizes (count_known st.job.protocol st.job.role) (session_after st.job st.id st.arrivals)
    sizes = record {
      id = identity_size files narration name st.id st.id_is;
      seed = facts.seed_is;
      session = omega arith;
      init = ap length facts.initial_is ∙ fit_count facts.text (known_texts st.job.protocol st.job.role) facts.fitted facts.fit;
      values = subst (All (λ v. length v ≤ ARRIVAL)) (sym facts.initial_is) (fit_short facts.text (known_texts st.job.protocol st.job.role) facts.fitted facts.fit);
      arrivals = st.cut.2;
    }

    accepted : RecordIs st.job.protocol st.job.role st.id st.secret kept (given (session_after st.job st.id st.arrivals))
    accepted = record {
      whole = st.kept_is;
      body = record { whole = refl; sizes = sizes; own = refl; waits = (st.play, st.it_plays, (st.event, st.waits), used_all) };
    }

    initial_size : length (frames st.job.initial) ≤ 1310720
    initial_size =
        let names = known_texts st.job.protocol st.job.role in
        let count : length st.job.initial ≡ length names = ap length facts.initial_is ∙ fit_count facts.text names facts.fitted facts.fit in
        let total = initial_total facts.text names facts.fitted (differ st.job.protocol st.job.role facts.of.protocol) facts.fit in
        let sum : sum_by length st.job.initial ≡ sum_by length facts.fitted.values = ap (sum_by (length {A = ℕ})) facts.initial_is in
        omega (arith, length_frames st.job.initial, count, few_known st.job.protocol st.job.role (hold st.job.protocol facts.of.protocol), sum, total, facts.short)

    heard_size : length (frames st.arrivals) ≤ 67109888
    heard_size = omega (arith, length_frames st.arrivals, sum_short ARRIVAL st.arrivals st.cut.2, few)

    kept_short : length kept ≤ RECORD_LIMIT
    kept_short =
        let s = session_after st.job st.id st.arrivals in
        let sealed_size : length kept ≡ length (body_of s) + 32 = ap length st.kept_is ∙ longer One st.secret (body_of s) in
        let size : length (body_of s) ≡ 71 + (length (frames st.job.initial) + length (frames st.arrivals)) = body_size st.id st.job.seed 0 (frames st.job.initial) (frames st.arrivals) sizes.id sizes.seed in
        omega (arith, sealed_size, size, initial_size, heard_size)

    -- ---- it goes on

    abbrev session : RoleSession
    session = record { protocol = st.job.protocol; role = st.job.role; parked = session_after st.job st.id st.arrivals; key = st.secret }

    module _ (r : Resuming) (finds : Finds narration name values key host_seed files r kept) where
      resumed : ResumedIs narration name r.saved key r.files (given session)
      resumed = inr (
        record { protocol = st.job.protocol; role = st.job.role },
        part_as r.files files narration name (sym finds.same_narration) (given (record { protocol = st.job.protocol; role = st.job.role })) facts.in_file,
        inr (
          kept,
          record { holds = finds.kept_there; short = kept_short },
          inr (
            st.secret,
            key_as r.files files key (sym finds.same_key) (given st.secret) st.key_is,
            inr (st.id, identity_as r.files files narration name (sym finds.same_narration) (given st.id) st.id_is, inr (session_after st.job st.id st.arrivals, accepted, refl)),
          ),
        ),
      )

      same_session : (s : RoleSession) → ResumedIs narration name r.saved key r.files (given s) → s ≡ session
      same_session s asks = same_given s session (resumed_one narrations refusals none r.files narration name r.saved key (given s) (given session) asks resumed)

      never_refused : {P : Type 0} (s : Status) → ResumedIs narration name r.saved key r.files (refused s) → P
      never_refused s refuses = not_both s session (resumed_one narrations refusals none r.files narration name r.saved key (refused s) (given session) refuses resumed)

    -- the play over all that arrived, from what comes of the session over what arrived last
    whole_play : (more : List (List ℕ)) (q : Played (List ℕ)) → GoesOn session more q → PlayOf st.job (st.arrivals ++ more) (record q { sent = st.play.sent ++ q.sent })
    whole_play more q goes =
        let was : goes.earlier ≡ st.play = play_one st.job st.arrivals goes.earlier st.play goes.was st.it_plays in
        subst (λ (e : Played (List ℕ)). PlayOf st.job (st.arrivals ++ more) (record q { sent = e.sent ++ q.sent })) was goes.plays

    further : (r : Resuming) (sent held : List ℕ) → Finds narration name values key host_seed files r kept → IsParked way GoesOn (ResumedIs narration name r.saved key r.files) r.input sent held
        → Stand (heard ++ r.input) (written ++ sent) held
    further r sent held finds parked =
        let same = same_session r finds parked.session parked.asks in
        let ends = parked_waits parked.is.play.end parked.tail parked.event parked.is.status_is in
        let q = parked.is.play in
        let goes : GoesOn session parked.arrivals q = subst (λ (s : RoleSession). GoesOn s parked.arrivals q) same parked.is.plays in
        record {
          job = st.job;
          asks = st.asks;
          secret = st.secret;
          key_is = st.key_is;
          id = st.id;
          id_is = st.id_is;
          arrivals = st.arrivals ++ parked.arrivals;
          cut = cut_behind (heard ++ r.input) r.input st.arrivals parked.arrivals End st.cut.2 (ap (λ h. h ++ r.input) heard_is) (subst (λ (t : Tail). Cut ARRIVAL r.input parked.arrivals t) ends.1 parked.cut);
          play = record q { sent = st.play.sent ++ q.sent };
          it_plays = whole_play parked.arrivals q goes;
          event = parked.event;
          waits = ends.0;
          written_is = ap (λ w. w ++ sent) st.written_is ∙ ap (λ s. frames st.play.sent ++ s) parked.written_is ∙ sym (joined st.play.sent q.sent);
          kept_is = parked.kept_is ∙ ap (λ (s : RoleSession). record_after s parked.arrivals) same;
        }

    goes_on : (each_cut : HasCut ARRIVAL) (cuts : HasOneCut ARRIVAL) (r : Resuming) → Finds narration name values key host_seed files r kept → IsBytes r.input
        → GoesOnAsPlayed narration name values key host_seed files way heard written r.input (Resumes narration name values key host_seed files way r)
    goes_on each_cut cuts r finds bytes = record { is = is; only = only } where
      whole_cut : (bs : List (List ℕ)) (tail : Tail) → Cut ARRIVAL r.input bs tail → Cut ARRIVAL (heard ++ r.input) (st.arrivals ++ bs) tail
      whole_cut bs tail cut = cut_behind (heard ++ r.input) r.input st.arrivals bs tail st.cut.2 (ap (λ h. h ++ r.input) heard_is) cut

      is : (s : Status) (out rest : List ℕ) → Resumes narration name values key host_seed files way r s out rest
          → (as_played : Status) × (sent : List ℕ) × EndsAs way as_played sent s out × Plays narration name values key host_seed files (heard ++ r.input) as_played (written ++ sent) rest
      is s out rest (bs, tail, cut, inl refusal) = never_refused r finds s refusal.refuses
      is s out rest (bs, tail, cut, inr (asked, asks, it)) =
          let same = same_session r finds asked asks in
          let q = it.play in
          let goes : GoesOn session bs q = subst (λ (a : RoleSession). GoesOn a bs q) same it.plays in (
            playing.status_at q.end tail,
            frames q.sent,
            subst (λ (o : List ℕ). EndsAs way (playing.status_at q.end tail) (frames q.sent) s o) (sym it.writes)
                (subst (λ (t : Status). EndsAs way (playing.status_at q.end tail) (frames q.sent) t (frames (due way q tail (record_after asked bs)))) (sym it.status_is) (ends_as way q.end tail q.sent q.left (record_after asked bs))),
            (
              st.arrivals ++ bs,
              tail,
              whole_cut bs tail cut,
              inr (
                st.job,
                st.asks,
                record {
                  play = record q { sent = st.play.sent ++ q.sent };
                  plays = whole_play bs q goes;
                  status_is = refl;
                  writes = ap (λ w. w ++ frames q.sent) st.written_is ∙ sym (joined st.play.sent q.sent);
                  leaves = leaves_whole heard r.input st.arrivals bs q.left tail rest heard_is q.end it.leaves;
                },
              ),
            ),
          )

      only_cut : (bs : List (List ℕ)) (tail : Tail) → Cut ARRIVAL r.input bs tail → (as_played : Status) (all rest : List ℕ)
          → (job : Job) → JobIs files narration name values host_seed (given job) → playing.IsPlayed PlayOf job (heard ++ r.input) (st.arrivals ++ bs) tail as_played all rest
          → (s : Status) × (sent : List ℕ) × (out : List ℕ) × (all ≡ written ++ sent) × EndsAs way as_played sent s out × Resumes narration name values key host_seed files way r s out rest
      only_cut bs tail cut as_played all rest job asks it =
          let same : job ≡ st.job = same_given job st.job (job_one narrations refusals none one_fit files narration name values host_seed (given job) (given st.job) asks st.asks) in
          let w = it.play in
          let plays_it : PlayOf st.job (st.arrivals ++ bs) w = subst (λ (j : Job). PlayOf j (st.arrivals ++ bs) w) same it.plays in
          let went = play_on (meaning_of st.job.protocol) (draw_of st.job.seed 0) (events_of st.job.protocol st.job.role) st.job.initial st.arrivals bs st.play w st.event st.it_plays st.waits plays_it in
          let q : Played (List ℕ) = made went.later w.end w.left in
          let goes : GoesOn session bs q = record {
            earlier = st.play;
            was = st.it_plays;
            plays = subst (λ (p : Played (List ℕ)). PlayOf st.job (st.arrivals ++ bs) p) (ap (λ (l : List (List ℕ)). made l w.end w.left) went.sent) plays_it;
          } in
          let kept_now = record_after session bs in (
            status_at w.end tail,
            frames went.later,
            frames (due way q tail kept_now),
            it.writes ∙ ap frames went.sent ∙ joined st.play.sent went.later ∙ ap (λ v. v ++ frames went.later) (sym st.written_is),
            subst (λ (t : Status). EndsAs way t (frames went.later) (status_at w.end tail) (frames (due way q tail kept_now))) (sym it.status_is) (ends_as way w.end tail went.later w.left kept_now),
            (
              bs,
              tail,
              cut,
              inr (
                session,
                resumed r finds,
                record { play = q; plays = goes; status_is = refl; writes = refl; leaves = leaves_part heard r.input st.arrivals bs w.left tail rest heard_is w.end went.used went.is it.leaves },
              ),
            ),
          )

      only : (as_played : Status) (all rest : List ℕ) → Plays narration name values key host_seed files (heard ++ r.input) as_played all rest
          → (s : Status) × (sent : List ℕ) × (out : List ℕ) × (all ≡ written ++ sent) × EndsAs way as_played sent s out × Resumes narration name values key host_seed files way r s out rest
      only as_played all rest (arrivals, tail, cut, inl refusal) =
          not_both as_played st.job (job_one narrations refusals none one_fit files narration name values host_seed (refused as_played) (given st.job) refusal.refuses st.asks)
      only as_played all rest (arrivals, tail, cut, inr (job, asks, it)) =
          let (bs, t, part) = each_cut r.input bytes in
          let same = cuts (heard ++ r.input) arrivals (st.arrivals ++ bs) tail t cut (whole_cut bs t part) in
          only_cut bs t part as_played all rest job asks
          (subst (λ (u : Tail). playing.IsPlayed PlayOf job (heard ++ r.input) (st.arrivals ++ bs) u as_played all rest) same.1
          (subst (λ (bs : List (List ℕ)). playing.IsPlayed PlayOf job (heard ++ r.input) bs tail as_played all rest) same.0 it))

  -- ---- where it begins

  session_is : (s : RoleSession) → NewSessionIs narration name values key host_seed files (given s)
      → (job : Job) × (secret : List ℕ) × (id : List ℕ) × JobIs files narration name values host_seed (given job) × KeyIs files key (given secret) × IdentityIs files narration name (given id)
      × (s ≡ record { protocol = job.protocol; role = job.role; parked = started id job.initial job.seed 0; key = secret })
  session_is s (inl (t, first, never)) = not_both t s (sym never)
  session_is s (inr (job, asks, inl (t, first, never))) = not_both t s (sym never)
  session_is s (inr (job, asks, inr (secret, key_is, inl (t, first, never)))) = not_both t s (sym never)
  session_is s (inr (job, asks, inr (secret, key_is, inr (id, id_is, is)))) = (job, secret, id, asks, key_is, id_is, same_given s _ is)

  begun : (input written kept : List ℕ) → IsParked way Begins (NewSessionIs narration name values key host_seed files) input written kept → Stand input written kept
  begun input written kept parked =
      let (job, secret, id, asks, key_is, id_is, same) = session_is parked.session parked.asks in
      let ends = parked_waits parked.is.play.end parked.tail parked.event parked.is.status_is in
      record {
        job = job;
        asks = asks;
        secret = secret;
        key_is = key_is;
        id = id;
        id_is = id_is;
        arrivals = parked.arrivals;
        cut = subst (λ (t : Tail). Cut ARRIVAL input parked.arrivals t) ends.1 parked.cut;
        play = parked.is.play;
        it_plays = subst (λ (s : RoleSession). Begins s parked.arrivals parked.is.play) same parked.is.plays;
        event = parked.event;
        waits = ends.0;
        written_is = parked.written_is;
        kept_is = parked.kept_is ∙ ap (λ (s : RoleSession). record_after s parked.arrivals) same;
      }

  begins : (secret input : List ℕ) → KeyIs files key (given secret) → GoesOnAsPlayed narration name values key host_seed files way [] [] input (Parks narration name values key host_seed files way input)
  begins secret input key_is = record { is = is; only = only } where
    early : (s : Status) → JobIs files narration name values host_seed (refused s) → phase_of s ≡ before_reach
    early s refuses = ((job_quiet files narration name values host_seed).each s refuses).1

    job_refused : (s : Status) → NewSessionIs narration name values key host_seed files (refused s) → JobIs files narration name values host_seed (refused s)
    job_refused s (inl (t, first, is)) = subst (λ (u : Status). JobIs files narration name values host_seed (refused u)) (sym (same_refusal s t is)) first
    job_refused s (inr (job, asks, inl (t, no_key, is))) = not_both t secret (key_one files key (refused t) (given secret) no_key key_is)
    job_refused s (inr (job, asks, inr (other, also, inl (t, (n, in_file, never), is)))) = not_both t (identity n name) never
    job_refused s (inr (job, asks, inr (other, also, inr (id, id_is, never)))) = not_both s _ never

    is : (s : Status) (out rest : List ℕ) → Parks narration name values key host_seed files way input s out rest
        → (as_played : Status) × (sent : List ℕ) × EndsAs way as_played sent s out × Plays narration name values key host_seed files input as_played sent rest
    is s out rest (bs, tail, cut, inl refusal) =
        let refuses = job_refused s refusal.refuses in
        (s, [], ends_early way s out (early s refuses) refusal.writes, (bs, tail, cut, inl (record { refuses = refuses; writes = refl; leaves = refusal.leaves })))
    is s out rest (bs, tail, cut, inr (asked, asks, it)) =
        let (job, other, id, job_asks, also, id_is, same) = session_is asked asks in
        let q = it.play in
        let plays_it : PlayOf job bs q = subst (λ (a : RoleSession). Begins a bs q) same it.plays in (
          playing.status_at q.end tail,
          frames q.sent,
          subst (λ (o : List ℕ). EndsAs way (playing.status_at q.end tail) (frames q.sent) s o) (sym it.writes)
              (subst (λ (t : Status). EndsAs way (playing.status_at q.end tail) (frames q.sent) t (frames (due way q tail (record_after asked bs)))) (sym it.status_is) (ends_as way q.end tail q.sent q.left (record_after asked bs))),
          (bs, tail, cut, inr (job, job_asks, record { play = q; plays = plays_it; status_is = refl; writes = refl; leaves = it.leaves })),
        )

    only : (as_played : Status) (all rest : List ℕ) → Plays narration name values key host_seed files input as_played all rest
        → (s : Status) × (sent : List ℕ) × (out : List ℕ) × (all ≡ sent) × EndsAs way as_played sent s out × Parks narration name values key host_seed files way input s out rest
    only as_played all rest (bs, tail, cut, inl refusal) = (
      as_played,
      [],
      [],
      refusal.writes,
      ends_early way as_played [] (early as_played refusal.refuses) refl,
      (bs, tail, cut, inl (record { refuses = inl (as_played, refusal.refuses, refl); writes = refl; leaves = refusal.leaves })),
    )
    only as_played all rest (bs, tail, cut, inr (job, asks, it)) =
        let of = (job_facts files narration name values host_seed job handed asks).of in
        let id = identity of.n name in
        let s : RoleSession = record { protocol = job.protocol; role = job.role; parked = started id job.initial job.seed 0; key = secret } in
        let q = it.play in
        let kept_now = record_after s bs in (
          status_at q.end tail,
          frames q.sent,
          frames (due way q tail kept_now),
          it.writes,
          subst (λ (t : Status). EndsAs way t (frames q.sent) (status_at q.end tail) (frames (due way q tail kept_now))) (sym it.status_is) (ends_as way q.end tail q.sent q.left kept_now),
          (
            bs,
            tail,
            cut,
            inr (
              s,
              inr (job, asks, inr (secret, key_is, inr (id, (of.n, of.in_file, refl), refl))),
              record { play = q; plays = it.plays; status_is = refl; writes = refl; leaves = it.leaves },
            ),
          ),
        )

  -- ---- one after another

  stands : (first : List ℕ) (resumed : List Resuming) (heard written kept : List ℕ) → WereParked narration name values key host_seed files way first resumed heard written kept → Stand heard written kept
  stands first [] heard written kept (is, parked) = subst (λ (h : List ℕ). Stand h written kept) (sym is) (begun first written kept parked)
  stands first (r ∷ earlier) heard written kept (before, sent, held, more, were, finds, parked, heard_is, written_is) =
      subst (λ (h : List ℕ). Stand h written kept) (sym heard_is)
      (subst (λ (w : List ℕ). Stand (before ++ r.input) w kept) (sym written_is) (further before sent held (stands first earlier before sent held were) r more kept finds parked))

  pub split_as_whole : HasCut ARRIVAL → HasOneCut ARRIVAL → IsSplitAsWhole narration name values key host_seed files way
  split_as_whole each_cut cuts = record {
    begins = begins;
    short = λ first resumed heard written kept were. kept_short heard written kept (stands first resumed heard written kept were);
    goes_on = λ first resumed heard written kept r were finds bytes. goes_on heard written kept (stands first resumed heard written kept were) each_cut cuts r finds bytes;
  }
