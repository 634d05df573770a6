-- From the steps of a play's preparation to what is asked.
use Rattle.std.proofs.Common.{◌≡◌, ℕ, Bool, List, length, Option, Some, None, refl, ap, sym, ◌∙◌, subst, inl, inr}
use Rattle.std.proofs.lemmas.List.{length-map}
use Rattle.std.specs.List.{AllByRecursion}
use Rattle.anb_base.specs.Bytes.{IsBytes}
use Rattle.anb_plays.specs.Plays.{Played}
use Rattle.anb_code.specs.CodeValue.{CodeValue}
use Rattle.anb_code.specs.Taking.{take_texts}
use Rattle.anb_protocol.specs.Protocols.{ProtocolValue}
use Rattle.anb_protocol.specs.Texts.{known_by, term_text}
use Rattle.anb_compile.specs.Fitting.{FitsRole}
use Rattle.anb_compile.specs.Laws.{FittingCodesPlay}
use Rattle.anb_status.specs.declared.status.Status.{Status}
use Rattle.anb_command.specs.Errands.{Errand, ErrandOf, draws}
use Rattle.anb_command.specs.Fetches.{Files, IfTold}
use Rattle.anb_command.specs.Files.{ValuesInFile}
use Rattle.anb_command.specs.Prepared.{IsRunBy}
use Rattle.anb_command.specs.Roles.{Part, PartInFile}
use Rattle.anb_command.specs.Seeds.{SeedIs}
use Rattle.anb_command.specs.Steps.{refused, given, InTurn, AnswersWith}
use Rattle.anb_command.proofs.Chains.{told_map}
use Rattle.anb_command.proofs.Ones.{as_given, as_refused, not_both, same_given, same_refusal}
use Rattle.anb_command.proofs.Preparing.{told_both}
use Rattle.anb_role_commands.specs.Jobs.{IsRead, Job, JobIs, JobOf, makes_names}
use Rattle.anb_role_commands.specs.PlayCommand.{PlayOf}
use Rattle.anb_role_commands.specs.Playing.{IsPlayable, IsPlayableInEach, IsPreparedFor, PlayIn, play_by, play_in}
use Rattle.anb_role_commands.proofs.Draws.{draws_as_made}

-- ---- a code that fits plays its job

-- as many initial values as the role knows
pub count_known : (p : ProtocolValue) (role : ℕ) (code : CodeValue) (initial : List (List ℕ)) → FitsRole p role code → length initial ≡ length (take_texts code.instrs) → length initial ≡ length (known_by p role)
count_known p role code initial fits each = each ∙ ap length fits.texts ∙ length-map (known_by p role) (term_text p)

pub plays_in : (p : ProtocolValue) (role : ℕ) (code : CodeValue) (initial : List (List ℕ)) (seed : List ℕ) → FittingCodesPlay p → FitsRole p role code
    → length initial ≡ length (known_by p role) → AllByRecursion IsBytes initial → (session : ℕ) → IsRunBy (PlayIn session) (record { protocol = p; role = role; initial = initial; seed = seed }) (play_in code initial seed session)
plays_in p role code initial seed law fits count bytes session arrivals are_bytes q =
    let both = law role code initial seed session arrivals fits count bytes are_bytes in
    let J : Job = record { protocol = p; role = role; initial = initial; seed = seed } in
    (λ plays. both.1 q plays, λ is. subst (λ (r : Played (List ℕ)). PlayIn session J arrivals r) (sym is) both.0)

pub plays_as : (p : ProtocolValue) (role : ℕ) (code : CodeValue) (initial : List (List ℕ)) (seed : List ℕ) → FittingCodesPlay p → FitsRole p role code
    → length initial ≡ length (known_by p role) → AllByRecursion IsBytes initial → IsRunBy PlayOf (record { protocol = p; role = role; initial = initial; seed = seed }) (play_by code initial seed)
plays_as p role code initial seed law fits count bytes arrivals are_bytes q = plays_in p role code initial seed law fits count bytes 0 arrivals are_bytes q

-- ---- the values and the seed

abbrev as_job : ProtocolValue → ℕ → List (List ℕ) → List ℕ → Job
as_job p role initial seed = record { protocol = p; role = role; initial = initial; seed = seed }

abbrev as_errand : CodeValue → List (List ℕ) → List ℕ → Errand
as_errand code initial seed = record { code = code; initial = initial; seed = seed }

module _ (values : List ℕ) (host_seed : Option (List ℕ)) (p : ProtocolValue) (role : ℕ) (code : CodeValue) (fits : FitsRole p role code) where
  values_refused : (files : Files) (s : Status) → ErrandOf files values host_seed code (refused s) → JobOf files values host_seed (record { protocol = p; role = role }) (refused s)
  values_refused files s (inl (t, first, is)) = inl (t, subst (λ (ns : List (List ℕ)). ValuesInFile files values ns (refused t)) fits.texts first, is_refusal s t is) where
    is_refusal : (s t : Status) → as_refused Errand s ≡ as_refused Errand t → as_refused Job s ≡ as_refused Job t
    is_refusal s t is = ap refused (same_refusal s t is)
  values_refused files s (inr (fitted, first, next)) = inr (fitted, subst (λ (ns : List (List ℕ)). ValuesInFile files values ns (given fitted)) fits.texts first, by next) where
    by : InTurn (SeedIs (draws code) fitted.seed host_seed) (λ seed. AnswersWith (as_errand code fitted.values seed)) (refused s)
        → InTurn (SeedIs (makes_names p role) fitted.seed host_seed) (λ seed. AnswersWith (as_job p role fitted.values seed)) (refused s)
    by (inl (t, none, is)) = inl (t, subst (λ (b : Bool). SeedIs b fitted.seed host_seed (refused t)) (draws_as_made p role code fits) none, ap refused (same_refusal s t is))
    by (inr (seed, some, never)) = not_both s (as_errand code fitted.values seed) never

  pub job_given : (files : Files) (initial : List (List ℕ)) (seed : List ℕ) → ErrandOf files values host_seed code (given (record { code = code; initial = initial; seed = seed }))
      → JobOf files values host_seed (record { protocol = p; role = role }) (given (record { protocol = p; role = role; initial = initial; seed = seed }))
  job_given files initial seed (inl (t, first, never)) = not_both t (as_errand code initial seed) (sym never)
  job_given files initial seed (inr (fitted, first, next)) = inr (fitted, subst (λ (ns : List (List ℕ)). ValuesInFile files values ns (given fitted)) fits.texts first, by next) where
    by : InTurn (SeedIs (draws code) fitted.seed host_seed) (λ seed. AnswersWith (as_errand code fitted.values seed)) (given (record { code = code; initial = initial; seed = seed }))
        → InTurn (SeedIs (makes_names p role) fitted.seed host_seed) (λ seed. AnswersWith (as_job p role fitted.values seed)) (given (record { protocol = p; role = role; initial = initial; seed = seed }))
    by (inl (t, none, never)) = not_both t (as_errand code initial seed) (sym never)
    by (inr (s, some, is)) = inr (s, subst (λ (b : Bool). SeedIs b fitted.seed host_seed (given s)) (draws_as_made p role code fits) some, ap (λ (e : Errand). as_given Job (as_job p role e.initial e.seed)) (same_given (as_errand code initial seed) (as_errand code fitted.values s) is))

  pub role_refused : (told : Option Files) (s : Status) → IfTold told (λ files. ErrandOf files values host_seed code (refused s))
      → IfTold told (λ files. JobOf files values host_seed (record { protocol = p; role = role }) (refused s))
  role_refused told s errand = told_map told (λ files e. values_refused files s e) errand

  pub role_ready : (told : Option Files) (same : CodeValue) (initial : List (List ℕ)) (seed : List ℕ) → same ≡ code → IfTold told (λ files. ErrandOf files values host_seed code (given (record { code = same; initial = initial; seed = seed })))
      → FittingCodesPlay p → length initial ≡ length (take_texts same.instrs) → AllByRecursion IsBytes initial
      → IfTold told (λ files. IsPlayable (JobOf files values host_seed (record { protocol = p; role = role })) same initial seed)
  role_ready told same initial seed is errand law each bytes =
      subst (λ (c : CodeValue). IfTold told (λ files. IsPlayable (JobOf files values host_seed (record { protocol = p; role = role })) c initial seed)) (sym is)
      (told_map told (λ files e. record {
        asked = record { protocol = p; role = role; initial = initial; seed = seed };
        asks = job_given files initial seed e;
        comes = plays_as p role code initial seed law fits (count_known p role code initial fits (subst (λ (c : CodeValue). length initial ≡ length (take_texts c.instrs)) is each)) bytes;
      }) (subst (λ (c : CodeValue). IfTold told (λ files. ErrandOf files values host_seed code (given (record { code = c; initial = initial; seed = seed })))) is errand))

  pub role_prepared : (told : Option Files) (same : CodeValue) (initial : List (List ℕ)) (seed : List ℕ) → same ≡ code → IfTold told (λ files. ErrandOf files values host_seed code (given (record { code = same; initial = initial; seed = seed })))
      → FittingCodesPlay p → length initial ≡ length (take_texts same.instrs) → AllByRecursion IsBytes initial
      → IfTold told (λ files. IsPreparedFor (JobOf files values host_seed (record { protocol = p; role = role })) same initial seed)
  role_prepared told same initial seed is errand law each bytes =
      subst (λ (c : CodeValue). IfTold told (λ files. IsPreparedFor (JobOf files values host_seed (record { protocol = p; role = role })) c initial seed)) (sym is)
      (told_map told (λ files e. record {
        protocol = p;
        role = role;
        asks = job_given files initial seed e;
        texts = fits.texts;
        comes = plays_as p role code initial seed law fits (count_known p role code initial fits (subst (λ (c : CodeValue). length initial ≡ length (take_texts c.instrs)) is each)) bytes;
      }) (subst (λ (c : CodeValue). IfTold told (λ files. ErrandOf files values host_seed code (given (record { code = c; initial = initial; seed = seed })))) is errand))

  pub role_ready_in_each : (told : Option Files) (same : CodeValue) (initial : List (List ℕ)) (seed : List ℕ) → same ≡ code → IfTold told (λ files. ErrandOf files values host_seed code (given (record { code = same; initial = initial; seed = seed })))
      → FittingCodesPlay p → length initial ≡ length (take_texts same.instrs) → AllByRecursion IsBytes initial
      → IfTold told (λ files. IsPlayableInEach (JobOf files values host_seed (record { protocol = p; role = role })) same initial seed)
  role_ready_in_each told same initial seed is errand law each bytes =
      subst (λ (c : CodeValue). IfTold told (λ files. IsPlayableInEach (JobOf files values host_seed (record { protocol = p; role = role })) c initial seed)) (sym is)
      (told_map told (λ files e. record {
        asked = record { protocol = p; role = role; initial = initial; seed = seed };
        asks = job_given files initial seed e;
        comes = plays_in p role code initial seed law fits (count_known p role code initial fits (subst (λ (c : CodeValue). length initial ≡ length (take_texts c.instrs)) is each)) bytes;
      }) (subst (λ (c : CodeValue). IfTold told (λ files. ErrandOf files values host_seed code (given (record { code = c; initial = initial; seed = seed })))) is errand))

-- ---- all steps

module _ (told : Option Files) (narration name values : List ℕ) (host_seed : Option (List ℕ)) where
  pub part_refused : (s : Status) → IfTold told (λ files. PartInFile files narration name (refused s)) → IfTold told (λ files. JobIs files narration name values host_seed (refused s))
  part_refused s first = told_map told (λ files f. inl (s, f, refl)) first

  pub job_refused : (part : Part) (s : Status) → IfTold told (λ files. PartInFile files narration name (given part)) → IfTold told (λ files. JobOf files values host_seed part (refused s))
      → IfTold told (λ files. JobIs files narration name values host_seed (refused s))
  job_refused part s first next = told_both told (λ files f n. inr (part, f, n)) first next

  pub whole_ready : (part : Part) (code : CodeValue) (initial : List (List ℕ)) (seed : List ℕ) → IfTold told (λ files. PartInFile files narration name (given part))
      → IfTold told (λ files. IsPlayable (JobOf files values host_seed part) code initial seed) → IfTold told (λ files. IsPlayable (JobIs files narration name values host_seed) code initial seed)
  whole_ready part code initial seed first next = told_both told (λ files f n. record { asked = n.asked; asks = inr (part, f, n.asks); comes = n.comes }) first next

  pub whole_ready_in_each : (part : Part) (code : CodeValue) (initial : List (List ℕ)) (seed : List ℕ) → IfTold told (λ files. PartInFile files narration name (given part))
      → IfTold told (λ files. IsPlayableInEach (JobOf files values host_seed part) code initial seed) → IfTold told (λ files. IsPlayableInEach (JobIs files narration name values host_seed) code initial seed)
  whole_ready_in_each part code initial seed first next = told_both told (λ files f n. record { asked = n.asked; asks = inr (part, f, n.asks); comes = n.comes }) first next

  pub whole_prepared : (part : Part) (code : CodeValue) (initial : List (List ℕ)) (seed : List ℕ) → IfTold told (λ files. PartInFile files narration name (given part))
      → IfTold told (λ files. IsPreparedFor (JobOf files values host_seed part) code initial seed) → IfTold told (λ files. IsPreparedFor (JobIs files narration name values host_seed) code initial seed)
  whole_prepared part code initial seed first next =
      told_both told (λ files f n. record { protocol = n.protocol; role = n.role; asks = inr (part, f, n.asks); texts = n.texts; comes = n.comes }) first next

  pub narration_read : (file : List ℕ) → file ≡ narration → IfTold told (λ files. IsRead files narration name values file)
  narration_read file is = by told where
    by : (t : Option Files) → IfTold t (λ files. IsRead files narration name values file)
    by None = tt
    by (Some files) = inl is

  pub values_read : (part : Part) (file : List ℕ) → IfTold told (λ files. PartInFile files narration name (given part)) → file ≡ values → IfTold told (λ files. IsRead files narration name values file)
  values_read part file first is = told_map told (λ files f. inr (is, (part, f))) first
