-- What is asked has one answer, and its refusals come before the wire is reached.
use Rattle.std.proofs.Common.{◌≡◌, ◌⊎◌, ℕ, ◌+◌, ◌<◌, Bool, cond, List, [], ◌∷◌, map, Option, Some, None, refl, ap, sym, ◌∙◌, subst, inl, inr, IsTrue}
use Rattle.std.specs.Prelude.{◌↔◌, is_none, length}
use Rattle.std.specs.List.{position_from}
use Rattle.std.proofs.lemmas.Bool.Decides.{same_from_decides}
use Rattle.anb_base.specs.Moves.{Rose}
use Rattle.anb_read.specs.Laws.{NarrationsAreUnique, RefusalsAreUnique, NoneIsBoth}
use Rattle.anb_values.specs.Fit.{FitIsUnique}
use Rattle.anb_values.specs.declared.fitted.Fitted.{Fitted}
use Rattle.anb_protocol.specs.Plans.{MakesNames}
use Rattle.anb_protocol.specs.Protocols.{ProtocolValue, role_named}
use Rattle.anb_protocol.specs.Texts.{known_names}
use Rattle.anb_honest.specs.Words.{names_none, words_of}
use Rattle.anb_command.specs.declared.limits.TheConstants.{SCHEDULE_LIMIT}
use Rattle.anb_status.specs.declared.status.Status.{Status}
use Rattle.anb_status.specs.declared.status.Status.TheVariants.{BadTurn}
use Rattle.anb_command.specs.Fetches.{Files, IfTold, IsOneOf}
use Rattle.anb_command.specs.Files.{FileIs, ProtocolInFile, ValuesInFile}
use Rattle.anb_command.specs.Roles.{AllSend, SendableInFile, SendableOf}
use Rattle.anb_command.specs.Seeds.{SeedIs}
use Rattle.anb_command.specs.Steps.{Answer, refused, given, InTurn, AnswersWith, HasOneAnswer}
use Rattle.anb_command.proofs.Chains.{told_map}
use Rattle.anb_command.proofs.Preparing.{told_both}
use Rattle.anb_command.proofs.Ones.{RefusesQuietly, file_one, file_quiet, is_one, is_quiet, narration_in_file_quiet, protocol_in_file_one, protocol_quiet, quiet_as, seed_one, seed_quiet, send_one, send_quiet, then_one, then_quiet, values_in_file_one, values_in_file_quiet}
use Rattle.anb_rehearse_commands.specs.Rehearsals.{IsReadForSetting, IsReadToRehearse, Rehearsal, RehearsalIs, RehearsalOf, ScheduleInFile, ScheduleIs, SeedFor, Setting, SettingIs, SettingOf}
use Rattle.anb_rehearse_commands.specs.Telling.{asked_by, setting_by}

-- ---- one answer

pub seed_for_one : (p : ProtocolValue) (told host_seed : Option (List ℕ)) → HasOneAnswer (SeedFor p told host_seed)
seed_for_one p told host_seed one other (a, x, s) (b, y, t) =
    seed_one a told host_seed one other s (subst (λ (makes : Bool). SeedIs makes told host_seed other) (same_from_decides {P = MakesNames p} b a y x) t)

-- where each word names a role, none is the first that names none
all_named : (p : ProtocolValue) (i : ℕ) (turns : List ℕ) (words : List (List ℕ)) → map Some turns ≡ map (role_named p) words → position_from (names_none p) i words ≡ None
all_named p i turns [] e = refl
all_named p i [] (w ∷ words) e = absurd (cc)
all_named p i (r ∷ turns) (w ∷ words) e =
    let first : Some r ≡ role_named p w = cc in
    let rest : map Some turns ≡ map (role_named p) words = cc in
    ap (λ o. cond (is_none o) (Some i) (position_from (names_none p) (i + 1) words)) (sym first) ∙ all_named p (i + 1) turns words rest

same_turns : (xs ys : List ℕ) → map Some xs ≡ map Some ys → xs ≡ ys
same_turns [] [] e = refl
same_turns [] (y ∷ ys) e = absurd (cc)
same_turns (x ∷ xs) [] e = absurd (cc)
same_turns (x ∷ xs) (y ∷ ys) e =
    let first : Some x ≡ Some y = cc in
    let is : x ≡ y = cc in
    let rest : map Some xs ≡ map Some ys = cc in
    ap (λ z. z ∷ xs) is ∙ ap (λ l. y ∷ l) (same_turns xs ys rest)

schedule_one : (p : ProtocolValue) (text : List ℕ) → HasOneAnswer (ScheduleIs p text)
schedule_one p text (refused s) (refused t) (n, is, x) (m, js, y) =
    let same : Some n ≡ Some m = sym x ∙ y in
    let e : n ≡ m = cc in ap refused (is ∙ ap BadTurn e ∙ sym js)
schedule_one p text (refused s) (given turns) (n, is, x) y = let never : Some n ≡ None = sym x ∙ all_named p 1 turns (words_of text) y in absurd (cc)
schedule_one p text (given turns) (refused s) y (n, is, x) = let never : Some n ≡ None = sym x ∙ all_named p 1 turns (words_of text) y in absurd (cc)
schedule_one p text (given turns) (given others) x y = ap given (same_turns turns others (x ∙ sym y))

module _ (narrations : NarrationsAreUnique) (refusals : RefusalsAreUnique) (none : NoneIsBoth) (fits : FitIsUnique) (files : Files) where
  sendable_one : (narration : List ℕ) → HasOneAnswer (SendableInFile files narration)
  sendable_one narration =
      then_one (ProtocolInFile files narration) SendableOf (protocol_in_file_one narrations refusals none files narration) (λ p.
      then_one _ _ (send_one p) (λ u. is_one p))

  setting_one : (narration values : List ℕ) (host_seed : Option (List ℕ)) → HasOneAnswer (SettingIs files narration values host_seed)
  setting_one narration values host_seed =
      then_one (SendableInFile files narration) (SettingOf files values host_seed) (sendable_one narration) (λ p.
      then_one _ _ (values_in_file_one fits files values (known_names p)) (λ fitted.
      then_one _ _ (seed_for_one p fitted.seed host_seed) (λ seed.
      is_one (setting_by p fitted.values seed))))

  pub rehearsal_one : (narration values schedule : List ℕ) (host_seed : Option (List ℕ)) → HasOneAnswer (RehearsalIs files narration values schedule host_seed)
  rehearsal_one narration values schedule host_seed =
      then_one (SettingIs files narration values host_seed) (RehearsalOf files schedule) (setting_one narration values host_seed) (λ setting.
      then_one _ _ (then_one (FileIs files schedule SCHEDULE_LIMIT) (ScheduleIs setting.protocol) (file_one files schedule SCHEDULE_LIMIT) (schedule_one setting.protocol)) (λ turns.
      is_one (record { setting = setting; turns = turns })))

-- ---- refusals

pub seed_for_quiet : (p : ProtocolValue) (told host_seed : Option (List ℕ)) → RefusesQuietly (SeedFor p told host_seed)
seed_for_quiet p told host_seed = record { each = λ s why. (seed_quiet why.0 told host_seed).each s why.2 }

schedule_quiet : (p : ProtocolValue) (text : List ℕ) → RefusesQuietly (ScheduleIs p text)
schedule_quiet p text = record { each = λ s why. quiet_as s _ why.1 (refl, refl) }

module _ (files : Files) where
  sendable_quiet : (narration : List ℕ) → RefusesQuietly (SendableInFile files narration)
  sendable_quiet narration =
      then_quiet (then_quiet (narration_in_file_quiet files narration) protocol_quiet) (λ (p : ProtocolValue). then_quiet (send_quiet p) (λ (u : Unit {0}). is_quiet _))

  pub rehearsal_quiet : (narration values schedule : List ℕ) (host_seed : Option (List ℕ)) → RefusesQuietly (RehearsalIs files narration values schedule host_seed)
  rehearsal_quiet narration values schedule host_seed =
      then_quiet
      (then_quiet (sendable_quiet narration) (λ (p : ProtocolValue).
      then_quiet (values_in_file_quiet files values (known_names p)) (λ (fitted : Fitted).
      then_quiet (seed_for_quiet p fitted.seed host_seed) (λ (seed : List ℕ). is_quiet _))))
      (λ (setting : Setting).
      then_quiet (then_quiet (file_quiet files schedule SCHEDULE_LIMIT) (schedule_quiet setting.protocol)) (λ (turns : List ℕ). is_quiet _))

-- ---- step by step

module _ (told : Option Files) where
  pub sendable_given : (narration : List ℕ) (p : ProtocolValue) → IfTold told (λ files. ProtocolInFile files narration (given p)) → AllSend p (given tt) → IfTold told (λ files. SendableInFile files narration (given p))
  sendable_given narration p first sends = told_map told (λ files f. inr (p, f, inr (tt, sends, refl))) first

  pub protocol_refused : (narration : List ℕ) (s : Status) → IfTold told (λ files. ProtocolInFile files narration (refused s)) → IfTold told (λ files. SendableInFile files narration (refused s))
  protocol_refused narration s first = told_map told (λ files f. inl (s, f, refl)) first

  pub sending_refused : (narration : List ℕ) (p : ProtocolValue) (s : Status) → IfTold told (λ files. ProtocolInFile files narration (given p)) → AllSend p (refused s)
      → IfTold told (λ files. SendableInFile files narration (refused s))
  sending_refused narration p s first sends = told_map told (λ files f. inr (p, f, inl (s, sends, refl))) first

  module _ (narration values : List ℕ) (host_seed : Option (List ℕ)) where
    pub company_refused : (s : Status) → IfTold told (λ files. SendableInFile files narration (refused s)) → IfTold told (λ files. SettingIs files narration values host_seed (refused s))
    company_refused s first = told_map told (λ files f. inl (s, f, refl)) first

    module _ (p : ProtocolValue) (first : IfTold told (λ files. SendableInFile files narration (given p))) where
      pub values_refused : (s : Status) → IfTold told (λ files. ValuesInFile files values (known_names p) (refused s)) → IfTold told (λ files. SettingIs files narration values host_seed (refused s))
      values_refused s next = told_both told (λ files f n. inr (p, f, inl (s, n, refl))) first next

      module _ (fitted : Fitted) (next : IfTold told (λ files. ValuesInFile files values (known_names p) (given fitted))) (makes : Bool) (tells : IsTrue makes ↔ MakesNames p) where
        pub seed_refused : (s : Status) → SeedIs makes fitted.seed host_seed (refused s) → IfTold told (λ files. SettingIs files narration values host_seed (refused s))
        seed_refused s seed = told_both told (λ files f n. inr (p, f, inr (fitted, n, inl (s, (makes, tells, seed), refl)))) first next

        pub setting_given : (seed : List ℕ) → SeedIs makes fitted.seed host_seed (given seed) → IfTold told (λ files. SettingIs files narration values host_seed (given (setting_by p fitted.values seed)))
        setting_given seed is = told_both told (λ files f n. inr (p, f, inr (fitted, n, inr (seed, (makes, tells, is), refl)))) first next

      pub values_read : (file : List ℕ) → file ≡ values → IfTold told (λ files. IsReadForSetting files narration values file)
      values_read file is = told_map told (λ files f. inr (is, (p, f))) first

    pub narration_read : (file : List ℕ) → file ≡ narration → IfTold told (λ files. IsReadForSetting files narration values file)
    narration_read file is = by told where
      by : (t : Option Files) → IfTold t (λ files. IsReadForSetting files narration values file)
      by None = tt
      by (Some files) = inl is

    module _ (schedule : List ℕ) where
      pub setting_refused : (s : Status) → IfTold told (λ files. SettingIs files narration values host_seed (refused s)) → IfTold told (λ files. RehearsalIs files narration values schedule host_seed (refused s))
      setting_refused s first = told_map told (λ files f. inl (s, f, refl)) first

      module _ (setting : Setting) (first : IfTold told (λ files. SettingIs files narration values host_seed (given setting))) where
        pub schedule_refused : (s : Status) → IfTold told (λ files. ScheduleInFile files schedule setting.protocol (refused s)) → IfTold told (λ files. RehearsalIs files narration values schedule host_seed (refused s))
        schedule_refused s next = told_both told (λ files f n. inr (setting, f, inl (s, n, refl))) first next

        pub rehearsal_given : (turns : List ℕ) → IfTold told (λ files. ScheduleInFile files schedule setting.protocol (given turns))
            → IfTold told (λ files. RehearsalIs files narration values schedule host_seed (given (record { setting = setting; turns = turns })))
        rehearsal_given turns next = told_both told (λ files f n. inr (setting, f, inr (turns, n, refl))) first next

        pub schedule_read : (file : List ℕ) → file ≡ schedule → IfTold told (λ files. IsReadToRehearse files narration values schedule host_seed file)
        schedule_read file is = told_map told (λ files f. inr (is, (setting, f))) first

      pub earlier_read : (file : List ℕ) → IfTold told (λ files. IsReadForSetting files narration values file) → IfTold told (λ files. IsReadToRehearse files narration values schedule host_seed file)
      earlier_read file read = told_map told (λ files r. inl r) read

-- ---- names of files

pub one_of_two : (a b file : List ℕ) → file ≡ a → IsOneOf (a ∷ b ∷ []) file
one_of_two a b file is = inl is

pub other_of_two : (a b file : List ℕ) → file ≡ b → IsOneOf (a ∷ b ∷ []) file
other_of_two a b file is = inr (inl is)

pub two_of_three : (a b d file : List ℕ) → IsOneOf (a ∷ b ∷ []) file → IsOneOf (a ∷ b ∷ d ∷ []) file
two_of_three a b d file (inl is) = inl is
two_of_three a b d file (inr (inl is)) = inr (inl is)
two_of_three a b d file (inr (inr never)) = absurd never

pub third_of_three : (a b d file : List ℕ) → file ≡ d → IsOneOf (a ∷ b ∷ d ∷ []) file
third_of_three a b d file is = inr (inr (inl is))
