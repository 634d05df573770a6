-- A role file of a code that fits is enacted as its role is played: one that `compile` wrote, and one that
-- `certify` certified.
use Rattle.std.proofs.Common.{◌≡◌, ℕ, Bool, List, length, Option, refl, sym, ap, ◌∙◌, subst, inl, inr}
use Rattle.std.specs.List.{AllByRecursion}
use Rattle.std.proofs.lemmas.List.{length-map}
use Rattle.anb_base.specs.Bytes.{IsBytes}
use Rattle.anb_base.specs.declared.TheConstants.{ARRIVAL}
use Rattle.anb_code.specs.CodeValue.{CodeValue}
use Rattle.anb_code.specs.Taking.{take_texts}
use Rattle.anb_frame.specs.Cuts.{Tail, End, Short, Long, Cut}
use Rattle.anb_frame.specs.Frames.{frames}
use Rattle.anb_machine.specs.ByteRuns.{run_bytes}
use Rattle.anb_plays.specs.Plays as plays
use Rattle.anb_plays.specs.Plays.{Played}
use Rattle.anb_plays.specs.Runs.{no_place, without_place}
use Rattle.anb_compile.specs.Fitting.{FitsRole}
use Rattle.anb_compile.specs.Laws.{FittingCodesPlay}
use Rattle.anb_read.specs.Laws.{NarrationsAreUnique, NoneIsBoth, RefusalsAreUnique}
use Rattle.anb_protocol.specs.Protocols.{ProtocolValue}
use Rattle.anb_protocol.specs.Texts.{known_by, known_texts, term_text}
use Rattle.anb_text.specs.Laws.{CodesAreUnique, FaultsAreUnique, FilesAreUnique, NoneIsBoth as NoFileIsFaulty}
use Rattle.anb_values.specs.declared.fitted.Fitted.{Fitted}
use Rattle.anb_command.specs.declared.limits.TheConstants.{ROLE_FILE_LIMIT}
use Rattle.anb_status.specs.declared.status.Status.{Status}
use Rattle.anb_status.specs.declared.status.Status.TheVariants.{Stopped}
use Rattle.anb_words.specs.declared.words.RoleText.TheVariants.{RoleFile}
use Rattle.anb_command.specs.Errands.{Errand, ErrandOf, draws}
use Rattle.anb_command.specs.Fetches.{Files}
use Rattle.anb_command.specs.Files.{CodeInFile, HasFile, ProtocolInFile, ValuesInFile}
use Rattle.anb_command.specs.Outcomes.{IsPlayed, IsRefused, LeavesAt, Outcome, status_at}
use Rattle.anb_command.specs.Roles.{Part, PartInFile, PartOf, RoleIs}
use Rattle.anb_command.specs.Seeds.{SeedIs}
use Rattle.anb_status.specs.Statuses.{before_reach, phase_of}
use Rattle.anb_command.specs.Steps.{Answer, refused, given, InTurn, AnswersWith}
use Rattle.anb_command.proofs.Cutting.{bytes_in_cut}
use Rattle.anb_command.proofs.Ones.{RefusesQuietly, as_given, as_refused, code_in_file_one, is_quiet, not_both, part_one, protocol_in_file_one, role_one, same_given, seed_quiet, then_quiet, values_in_file_quiet}
use Rattle.anb_certify_commands.specs.CertifyCommand.{CertifyText, IsCertificate}
use Rattle.anb_role_commands.specs.EnactCommand.{ErrandIs, RunOf}
use Rattle.anb_role_commands.specs.Jobs.{Job, JobIs, JobOf, makes_names}
use Rattle.anb_role_commands.specs.PlayCommand.{PlayOf}
use Rattle.anb_role_commands.proofs.Draws.{draws_as_made}
use Rattle.anb_text_commands.specs.TextCommands.{IsDescribed}
use Rattle.anb_file_laws.specs.Certified.{CertifiedFilesPlay}
use Rattle.anb_file_laws.specs.Compiled.{CompiledFilesPlay, IsEnactedAs, IsEnactedAsPlayed, IsLoadedAgain, as_played}
use Rattle.anb_command.proofs.Given.{fit_bytes, fit_count}

-- ---- how an end is told

as_ended : (e : plays.End) (tail : Tail) → as_played (status_at e tail) ≡ status_at (no_place e) tail
as_ended plays.done tail = refl
as_ended (plays.stopped e at) tail = refl
as_ended (plays.waiting e) End = refl
as_ended (plays.waiting e) (Short have need) = refl
as_ended (plays.waiting e) (Long len) = refl

module _ (left : List ℕ) (arrivals unused : List (List ℕ)) (tail : Tail) (rest : List ℕ) where
  leaves_as : (e : plays.End) → LeavesAt e left arrivals unused tail rest → LeavesAt (no_place e) left arrivals unused tail rest
  leaves_as plays.done leaves = leaves
  leaves_as (plays.stopped e at) leaves = leaves
  leaves_as (plays.waiting e) leaves = leaves

  leaves_of : (e : plays.End) → LeavesAt (no_place e) left arrivals unused tail rest → LeavesAt e left arrivals unused tail rest
  leaves_of plays.done leaves = leaves
  leaves_of (plays.stopped e at) leaves = leaves
  leaves_of (plays.waiting e) leaves = leaves

kept_before : (s : Status) → phase_of s ≡ before_reach → as_played s ≡ s
kept_before (Stopped halt) early = absurd (cc)
kept_before _ early = refl

-- ---- steps that answer alike

abbrev answer_by : {A B : Type 0} → (A → B) → Answer A → Answer B
answer_by f (refused s) = refused s
answer_by f (given a) = given (f a)

as_refused_by : {A B : Type 0} (f : A → B) (answer : Answer A) (s : Status) → answer ≡ as_refused A s → answer_by f answer ≡ as_refused B s
as_refused_by f answer s is = ap (answer_by f) is

in_turn_by : {A B C : Type 0} (f : B → C) (first also : Answer A → Type 0) (next : A → Answer B → Type 0) (then : A → Answer C → Type 0) → ((answer : Answer A) → first answer → also answer)
    → ((a : A) (answer : Answer B) → first (given a) → next a answer → then a (answer_by f answer)) → (answer : Answer B) → InTurn first next answer → InTurn also then (answer_by f answer)
in_turn_by f first also next then as_first as_next answer (inl (t, is, refuses)) = inl (t, as_first (refused t) is, as_refused_by f answer t refuses)
in_turn_by f first also next then as_first as_next answer (inr (a, is, comes)) = inr (a, as_first (given a) is, as_next a answer is comes)

-- ---- what an errand is of

-- the values of a code's takes and a seed
record IsErrand (code : CodeValue) (errand : Errand) : Type 0 where
  same : errand.code ≡ code
  count : length errand.initial ≡ length (take_texts code.instrs)
  bytes : AllByRecursion IsBytes errand.initial

module _ (files : Files) (values : List ℕ) (host_seed : Option (List ℕ)) (code : CodeValue) where
  is_errand : (errand : Errand) → ErrandOf files values host_seed code (given errand) → IsErrand code errand
  is_errand errand (inl (t, first, never)) = not_both t errand (sym never)
  is_errand errand (inr (fitted, inl (t, first, never), next)) = not_both t fitted (sym never)
  is_errand errand (inr (fitted, inr (text, file, fit), inl (t, first, never))) = not_both t errand (sym never)
  is_errand errand (inr (fitted, inr (text, file, fit), inr (seed, some, is))) =
      let same : errand ≡ record { code = code; initial = fitted.values; seed = seed } = same_given errand (record { code = code; initial = fitted.values; seed = seed }) is in
      subst (IsErrand code) (sym same) (record { same = refl; count = fit_count text (take_texts code.instrs) fitted fit; bytes = fit_bytes text (take_texts code.instrs) fitted fit })

-- ---- a role file of a code that fits

module _ (files : Files) (narration name file values : List ℕ) (host_seed : Option (List ℕ)) (part : Part) (code : CodeValue)
    (fits : FitsRole part.protocol part.role code) (fitting : FittingCodesPlay part.protocol) where
  abbrev job_by : Errand → Job
  job_by errand = record { protocol = part.protocol; role = part.role; initial = errand.initial; seed = errand.seed }

  abbrev errand_by : Job → Errand
  errand_by job = record { code = code; initial = job.initial; seed = job.seed }

  seed_as : (told : Option (List ℕ)) (answer : Answer (List ℕ)) → SeedIs (draws code) told host_seed answer → SeedIs (makes_names part.protocol part.role) told host_seed answer
  seed_as told answer is = subst (λ (b : Bool). SeedIs b told host_seed answer) (draws_as_made part.protocol part.role code fits) is

  seed_of : (told : Option (List ℕ)) (answer : Answer (List ℕ)) → SeedIs (makes_names part.protocol part.role) told host_seed answer → SeedIs (draws code) told host_seed answer
  seed_of told answer is = subst (λ (b : Bool). SeedIs b told host_seed answer) (sym (draws_as_made part.protocol part.role code fits)) is

  -- what is answered behind the values, and behind the seed too
  abbrev ErrandBy : Fitted → List ℕ → Answer Errand → Type 0
  ErrandBy fitted seed = AnswersWith (record { code = code; initial = fitted.values; seed = seed })

  abbrev JobBy : Fitted → List ℕ → Answer Job → Type 0
  JobBy fitted seed = AnswersWith (record { protocol = part.protocol; role = part.role; initial = fitted.values; seed = seed })

  abbrev ErrandFrom : Fitted → Answer Errand → Type 0
  ErrandFrom fitted = InTurn (SeedIs (draws code) fitted.seed host_seed) (ErrandBy fitted)

  abbrev JobFrom : Fitted → Answer Job → Type 0
  JobFrom fitted = InTurn (SeedIs (makes_names part.protocol part.role) fitted.seed host_seed) (JobBy fitted)

  asked_as : (answer : Answer Errand) → ErrandOf files values host_seed code answer → JobOf files values host_seed part (answer_by job_by answer)
  asked_as =
      in_turn_by job_by (ValuesInFile files values (take_texts code.instrs)) (ValuesInFile files values (known_texts part.protocol part.role)) ErrandFrom JobFrom
      (λ answer is. subst (λ (ns : List (List ℕ)). ValuesInFile files values ns answer) fits.texts is)
      (λ fitted answer first. in_turn_by job_by (SeedIs (draws code) fitted.seed host_seed) (SeedIs (makes_names part.protocol part.role) fitted.seed host_seed) (ErrandBy fitted) (JobBy fitted)
      (seed_as fitted.seed) (λ seed last some is. by_errand last (record { code = code; initial = fitted.values; seed = seed }) is) answer) where
        by_errand : (last : Answer Errand) (errand : Errand) → last ≡ given errand → answer_by job_by last ≡ given (job_by errand)
        by_errand last errand is = ap (answer_by job_by) is

  asked_of : (answer : Answer Job) → JobOf files values host_seed part answer → ErrandOf files values host_seed code (answer_by errand_by answer)
  asked_of =
      in_turn_by errand_by (ValuesInFile files values (known_texts part.protocol part.role)) (ValuesInFile files values (take_texts code.instrs)) JobFrom ErrandFrom
      (λ answer is. subst (λ (ns : List (List ℕ)). ValuesInFile files values ns answer) (sym fits.texts) is)
      (λ fitted answer first. in_turn_by errand_by (SeedIs (makes_names part.protocol part.role) fitted.seed host_seed) (SeedIs (draws code) fitted.seed host_seed) (JobBy fitted) (ErrandBy fitted)
      (seed_of fitted.seed) (λ seed last some is. by_job last (record { protocol = part.protocol; role = part.role; initial = fitted.values; seed = seed }) is) answer) where
        by_job : (last : Answer Job) (job : Job) → last ≡ given job → answer_by errand_by last ≡ given (errand_by job)
        by_job last job is = ap (answer_by errand_by) is

  is_job : (job : Job) → JobOf files values host_seed part (given job) → job ≡ job_by (errand_by job)
  is_job job (inl (t, first, never)) = not_both t job (sym never)
  is_job job (inr (fitted, first, inl (t, none, never))) = not_both t job (sym never)
  is_job job (inr (fitted, first, inr (seed, some, is))) =
      let same : job ≡ record { protocol = part.protocol; role = part.role; initial = fitted.values; seed = seed } = same_given job (record { protocol = part.protocol; role = part.role; initial = fitted.values; seed = seed }) is in
      same ∙ ap (λ (j : Job). job_by (errand_by j)) (sym same)

  count_known : (errand : Errand) → IsErrand code errand → length errand.initial ≡ length (known_by part.protocol part.role)
  count_known errand is = is.count ∙ ap length fits.texts ∙ length-map (known_by part.protocol part.role) (term_text part.protocol)

  job_of_quiet : RefusesQuietly (JobOf files values host_seed part)
  job_of_quiet =
      then_quiet (values_in_file_quiet files values (known_texts part.protocol part.role)) (λ (fitted : Fitted).
      then_quiet (seed_quiet (makes_names part.protocol part.role) fitted.seed host_seed) (λ (seed : List ℕ). is_quiet _))

  module _ (role_files : FilesAreUnique) (codes : CodesAreUnique) (no_file : NoFileIsFaulty) (faults : FaultsAreUnique) (it_is : CodeInFile files file (given code))
      (Prepares : Answer Job → Type 0) (of_part : (answer : Answer Job) → Prepares answer → JobOf files values host_seed part answer)
      (from_part : (answer : Answer Job) → JobOf files values host_seed part answer → Prepares answer) where
    once : (answer : Answer CodeValue) → CodeInFile files file answer → answer ≡ as_given CodeValue code
    once answer is = code_in_file_one role_files codes no_file faults files file answer (given code) is it_is

    -- what is asked of `enact` is asked of the code, and what is played is asked of the role
    of_code : (answer : Answer Errand) → ErrandIs files file values host_seed answer → ErrandOf files values host_seed code answer
    of_code answer (inl (t, first, is)) = not_both t code (once (refused t) first)
    of_code answer (inr (loaded, first, next)) = subst (λ (c : CodeValue). ErrandOf files values host_seed c answer) (same_given loaded code (once (given loaded) first)) next

    as_job : (answer : Answer Errand) → ErrandIs files file values host_seed answer → Prepares (answer_by job_by answer)
    as_job answer is = from_part (answer_by job_by answer) (asked_as answer (of_code answer is))

    as_errand : (answer : Answer Job) → Prepares answer → ErrandIs files file values host_seed (answer_by errand_by answer)
    as_errand answer is = inr (code, it_is, asked_of answer (of_part answer is))

    kept_status : (s : Status) → Prepares (refused s) → as_played s ≡ s
    kept_status s is = kept_before s (job_of_quiet.each s (of_part (refused s) is)).1

    module _ (left : List ℕ) (bytes : IsBytes left) (arrivals : List (List ℕ)) (tail : Tail) (out rest : List ℕ) (cut : Cut ARRIVAL left arrivals tail) where
      -- the play of the role is the run of the code
      law : (errand : Errand) → IsErrand code errand → PlayOf (job_by errand) arrivals (without_place (run_bytes code errand.initial errand.seed 0 arrivals))
          × ((p : Played (List ℕ)) → PlayOf (job_by errand) arrivals p → p ≡ without_place (run_bytes code errand.initial errand.seed 0 arrivals))
      law errand is = fitting part.role code errand.initial errand.seed 0 arrivals fits (count_known errand is) is.bytes (bytes_in_cut left arrivals tail bytes cut)

      played_as : (errand : Errand) (status : Status) → IsErrand code errand → IsPlayed RunOf errand left arrivals tail status out rest → IsPlayed PlayOf (job_by errand) left arrivals tail (as_played status) out rest
      played_as errand status is played =
          let run = played.plays ∙ ap (λ (c : CodeValue). run_bytes c errand.initial errand.seed 0 arrivals) is.same in record {
            play = without_place played.play;
            plays = subst (λ (p : Played (List ℕ)). PlayOf (job_by errand) arrivals (without_place p)) (sym run) (law errand is).0;
            status_is = ap as_played played.status_is ∙ as_ended played.play.end tail;
            writes = played.writes;
            leaves = leaves_as left arrivals played.play.left tail rest played.play.end played.leaves;
          }

      abbrev IsEnacted : Status → Type 0
      IsEnacted status = (enacted : Status) × (status ≡ as_played enacted) × Outcome RunOf (ErrandIs files file values host_seed) left arrivals tail enacted out rest

      played_of : (errand : Errand) (status : Status) → ErrandIs files file values host_seed (given errand) → IsErrand code errand
          → IsPlayed PlayOf (job_by errand) left arrivals tail status out rest → IsEnacted status
      played_of errand status asks is played =
          let q = run_bytes code errand.initial errand.seed 0 arrivals in
          let run : played.play ≡ without_place q = (law errand is).1 played.play played.plays in (
            status_at q.end tail,
            played.status_is ∙ ap (λ (p : Played (List ℕ)). status_at p.end tail) run ∙ sym (as_ended q.end tail),
            inr (
              errand,
              asks,
              record {
                play = q;
                plays = ap (λ (c : CodeValue). run_bytes c errand.initial errand.seed 0 arrivals) (sym is.same);
                status_is = refl;
                writes = played.writes ∙ ap (λ (p : Played (List ℕ)). frames p.sent) run;
                leaves = leaves_of left arrivals q.left tail rest q.end (subst (λ (p : Played (List ℕ)). LeavesAt p.end left arrivals p.left tail rest) run played.leaves);
              },
            ),
          )

      as_outcome : (status : Status) → Outcome RunOf (ErrandIs files file values host_seed) left arrivals tail status out rest → Outcome PlayOf Prepares left arrivals tail (as_played status) out rest
      as_outcome status (inl refusal) =
          let refuses = as_job (refused status) refusal.refuses in
          inl (subst (λ (s : Status). IsRefused Prepares left s out rest) (sym (kept_status status refuses)) (record { refuses = refuses; writes = refusal.writes; leaves = refusal.leaves }))
      as_outcome status (inr (errand, asks, played)) = inr (job_by errand, as_job (given errand) asks, played_as errand status (is_errand files values host_seed code errand (of_code (given errand) asks)) played)

      of_outcome : (status : Status) → Outcome PlayOf Prepares left arrivals tail status out rest → IsEnacted status
      of_outcome status (inl refusal) =
          (status, sym (kept_status status refusal.refuses), inl (record { refuses = as_errand (refused status) refusal.refuses; writes = refusal.writes; leaves = refusal.leaves }))
      of_outcome status (inr (job, asks, played)) =
          let errand = errand_by job in
          let also = as_errand (given job) asks in
          let same = is_job job (of_part (given job) asks) in
          played_of errand status also (is_errand files values host_seed code errand (of_code (given errand) also)) (subst (λ (j : Job). IsPlayed PlayOf j left arrivals tail status out rest) same played)

    pub enacted_as : (left : List ℕ) → IsBytes left → IsEnactedAs Prepares files file values host_seed left
    enacted_as left bytes arrivals tail status out rest cut = (
      of_outcome left bytes arrivals tail out rest cut status,
      λ enacted. subst (λ (s : Status). Outcome PlayOf Prepares left arrivals tail s out rest) (sym enacted.1) (as_outcome left bytes arrivals tail out rest cut enacted.0 enacted.2),
    )

  -- what `play` asks of the role
  module _ (narrations : NarrationsAreUnique) (refusals : RefusalsAreUnique) (none : NoneIsBoth) (in_file : PartInFile files narration name (given part)) where
    of_play : (answer : Answer Job) → JobIs files narration name values host_seed answer → JobOf files values host_seed part answer
    of_play answer (inl (t, first, is)) = not_both t part (part_one narrations refusals none files narration name (refused t) (given part) first in_file)
    of_play answer (inr (other, first, next)) =
        subst (λ (q : Part). JobOf files values host_seed q answer) (same_given other part (part_one narrations refusals none files narration name (given other) (given part) first in_file)) next

    pub enacted_as_played : FilesAreUnique → CodesAreUnique → NoFileIsFaulty → FaultsAreUnique → CodeInFile files file (given code) → (left : List ℕ) → IsBytes left
        → IsEnactedAsPlayed files narration name file values host_seed left
    enacted_as_played role_files codes no_file faults it_is =
        enacted_as role_files codes no_file faults it_is (JobIs files narration name values host_seed) of_play (λ answer is. inr (part, in_file, is))

-- ---- a role file that was written

module _ (files : Files) (narration name file text : List ℕ) (part : Part) (d : IsDescribed RoleFile part text)
    (role_files : FilesAreUnique) (codes : CodesAreUnique) (no_file : NoFileIsFaulty) (faults : FaultsAreUnique)
    (in_file : PartInFile files narration name (given part)) (has : HasFile files file ROLE_FILE_LIMIT text) where
  written_is : CodeInFile files file (given d.code)
  written_is = inr (text, has, (d.accepted, (d.spellable, inl d.is)))

  loaded_again : IsLoadedAgain files narration name file text
  loaded_again = record {
    part = part;
    role = in_file;
    written = d;
    loaded = λ answer. (
      λ is. code_in_file_one role_files codes no_file faults files file answer (given d.code) is written_is,
      λ is. subst (CodeInFile files file) (sym is) written_is,
    );
  }

pub compiled_files_play : NarrationsAreUnique → RefusalsAreUnique → NoneIsBoth → FilesAreUnique → CodesAreUnique → NoFileIsFaulty → FaultsAreUnique → CompiledFilesPlay
compiled_files_play narrations refusals none role_files codes no_file faults files narration name file text (inl (t, first, never)) = λ has. not_both t text (sym never)
compiled_files_play narrations refusals none role_files codes no_file faults files narration name file text (inr (part, in_file, d)) = λ has. (
  loaded_again files narration name file text part d role_files codes no_file faults in_file has,
  λ values host_seed left bytes. enacted_as_played files narration name file values host_seed part d.code d.fits d.plays narrations refusals none in_file role_files codes no_file faults
      (written_is files narration name file text part d role_files codes no_file faults in_file has) left bytes,
)

-- ---- a role file that is certified

-- the role of this name
part_is : (p : ProtocolValue) (role : ℕ) (part : Part) (name : List ℕ) → RoleIs p name (given role) → PartOf p name (given part) → part ≡ record { protocol = p; role = role }
part_is p role part name named (inl (t, first, never)) = not_both t part (sym never)
part_is p role part name named (inr (other, also, inl (t, first, never))) = not_both t part (sym never)
part_is p role part name named (inr (other, also, inr (u, all, is))) =
    let same : other ≡ role = same_given other role (role_one p name (given other) (given role) also named) in
    same_given part (record { protocol = p; role = other }) is ∙ ap (λ (r : ℕ). record { protocol = p; role = r }) same

module _ (narrations : NarrationsAreUnique) (refusals : RefusalsAreUnique) (none : NoneIsBoth)
    (role_files : FilesAreUnique) (codes : CodesAreUnique) (no_file : NoFileIsFaulty) (faults : FaultsAreUnique) where
  of_protocol : (files : Files) (narration name : List ℕ) (p : ProtocolValue) → ProtocolInFile files narration (given p) → (part : Part) → PartInFile files narration name (given part) → PartOf p name (given part)
  of_protocol files narration name p is part (inl (t, first, never)) = not_both t part (sym never)
  of_protocol files narration name p is part (inr (q, also, of)) =
      subst (λ (r : ProtocolValue). PartOf r name (given part)) (same_given q p (protocol_in_file_one narrations refusals none files narration (given q) (given p) also is)) of

  -- the code of the file is certified for the role
  record IsCertifiedFor (files : Files) (file : List ℕ) (p : ProtocolValue) (role : ℕ) : Type 0 where
    code : CodeValue
    it_is : CodeInFile files file (given code)
    certificate : IsCertificate p role code

  certified_for : (files : Files) (narration name file text : List ℕ) → CertifyText files narration name file (given text) → (p : ProtocolValue) (role : ℕ) → ProtocolInFile files narration (given p) → RoleIs p name (given role)
      → IsCertifiedFor files file p role
  certified_for files narration name file text (inl (t, first, never)) p role in_file named = not_both t text (sym never)
  certified_for files narration name file text (inr (q, is, inl (t, first, never))) p role in_file named = not_both t text (sym never)
  certified_for files narration name file text (inr (q, is, inr (r, also, inl (t, first, never)))) p role in_file named = not_both t text (sym never)
  certified_for files narration name file text (inr (q, is, inr (r, also, inr (code, it_is, certificate)))) p role in_file named =
      let same : q ≡ p = same_given q p (protocol_in_file_one narrations refusals none files narration (given q) (given p) is in_file) in
      let same_role : r ≡ role = same_given r role (role_one p name (given r) (given role) (subst (λ (v : ProtocolValue). RoleIs v name (given r)) same also) named) in
      record {
        code = code;
        it_is = it_is;
        certificate = subst (λ (v : ProtocolValue). IsCertificate v role code) same (subst (λ (n : ℕ). IsCertificate q n code) same_role certificate.0);
      }

  pub certified_files_play : CertifiedFilesPlay
  certified_files_play files narration name file text certified p role in_file named values host_seed left bytes = (alone, together) where
    c : IsCertifiedFor files file p role
    c = certified_for files narration name file text certified p role in_file named

    alone : IsEnactedAs (JobOf files values host_seed (record { protocol = p; role = role })) files file values host_seed left
    alone =
        enacted_as files narration name file values host_seed (record { protocol = p; role = role }) c.code c.certificate.fits c.certificate.plays role_files codes no_file faults c.it_is
        (JobOf files values host_seed (record { protocol = p; role = role })) (λ answer is. is) (λ answer is. is) left bytes

    together : (part : Part) → PartInFile files narration name (given part) → IsEnactedAsPlayed files narration name file values host_seed left
    together part part_in =
        let same = part_is p role part name named (of_protocol files narration name p in_file part part_in) in
        enacted_as_played files narration name file values host_seed part c.code
        (subst (λ (q : Part). FitsRole q.protocol q.role c.code) (sym same) c.certificate.fits) (subst (λ (q : Part). FittingCodesPlay q.protocol) (sym same) c.certificate.plays)
        narrations refusals none part_in role_files codes no_file faults c.it_is left bytes
