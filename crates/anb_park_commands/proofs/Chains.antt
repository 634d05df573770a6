-- The steps before the wire, one after another.
use Rattle.std.proofs.Common.{◌≡◌, ℕ, List, Option, Some, None, refl, ap, sym, subst, inl, inr}
use Rattle.std.specs.List.{AllByRecursion}
use Rattle.anb_base.specs.Bytes.{IsBytes}
use Rattle.anb_code.specs.CodeValue.{CodeValue}
use Rattle.anb_compile.specs.Fitting.{FitsRole}
use Rattle.anb_park.specs.Records.{Parked}
use Rattle.anb_protocol.specs.Protocols.{ProtocolValue}
use Rattle.anb_syntax.specs.Grammar.{Narration}
use Rattle.anb_command.specs.declared.limits.TheConstants.{RECORD_LIMIT}
use Rattle.anb_status.specs.declared.status.Status.{Status}
use Rattle.anb_status.specs.declared.status.Status.TheVariants.{FileLong}
use Rattle.anb_command.specs.Errands.{ErrandOf}
use Rattle.anb_command.specs.Fetches.{Files, IfTold}
use Rattle.anb_command.specs.Files.{FileIs, HasLonger, NarrationInFile}
use Rattle.anb_command.specs.Roles.{Part, PartInFile}
use Rattle.anb_command.specs.Steps.{Answer, refused, given}
use Rattle.anb_command.proofs.Chains.{told_map}
use Rattle.anb_command.proofs.Ones.{as_refused, same_refusal}
use Rattle.anb_role_commands.specs.Jobs.{JobIs, JobOf}
use Rattle.anb_role_commands.proofs.Preparing.{job_given, role_refused}
use Rattle.anb_park_commands.specs.Going.{HasSession, HaveBytes, IsAwake, PartOfNarration, RefusesAwake, RunsRole, begun}
use Rattle.anb_park_commands.specs.Identities.{IdentityIs, identity}
use Rattle.anb_park_commands.specs.Keys.{KeyIs}
use Rattle.anb_park_commands.specs.ParkCommand.{IsReadToPark, NewSessionIs}
use Rattle.anb_park_commands.specs.ResumeCommand.{IsReadToResume, ResumedIs}
use Rattle.anb_park_commands.specs.Sessions.{RoleSession}

-- a file that is too long
pub file_refused : (told : Option Files) (name : List ℕ) (limit : ℕ) (s : Status) → (s ≡ FileLong name) × IfTold told (λ files. HasLonger files name limit) → IfTold told (λ files. FileIs files name limit (refused s))
file_refused told name limit s (is, long) = told_map told (λ files longer. (is, longer)) long

-- ---- the role

module _ (told : Option Files) (narration name : List ℕ) where
  pub narration_refused : (s : Status) → IfTold told (λ files. NarrationInFile files narration (refused s)) → IfTold told (λ files. PartInFile files narration name (refused s))
  narration_refused s first = told_map told (λ files f. inl (s, inl (s, f, refl), refl)) first

  pub part_of : (n : Narration) (answer : Answer Part) → PartOfNarration n name answer → IfTold told (λ files. NarrationInFile files narration (given n)) → IfTold told (λ files. PartInFile files narration name answer)
  part_of n answer next first = told_map told (λ files f. by files f next) first where
    by : (files : Files) → NarrationInFile files narration (given n) → PartOfNarration n name answer → PartInFile files narration name answer
    by files f (inl (s, why, is)) = inl (s, inr (n, f, why), is)
    by files f (inr (p, is, more)) = inr (p, inr (n, f, is), more)

  pub identity_of : (n : Narration) (id : List ℕ) → id ≡ identity n name → IfTold told (λ files. NarrationInFile files narration (given n)) → IfTold told (λ files. IdentityIs files narration name (given id))
  identity_of n id is first = told_map told (λ files f. (n, f, ap given is)) first

-- ---- a new session

module _ (told : Option Files) (narration name values key : List ℕ) (host_seed : Option (List ℕ)) where
  pub begun_no_part : (s : Status) → IfTold told (λ files. PartInFile files narration name (refused s)) → IfTold told (λ files. NewSessionIs narration name values key host_seed files (refused s))
  begun_no_part s first = told_map told (λ files f. inl (s, inl (s, f, refl), refl)) first

  pub narration_read : (file : List ℕ) → file ≡ narration → IfTold told (λ files. IsReadToPark narration name values key host_seed files file)
  narration_read file is = by told where
    by : (t : Option Files) → IfTold t (λ files. IsReadToPark narration name values key host_seed files file)
    by None = tt
    by (Some files) = inl (inl is)

  module _ (p : ProtocolValue) (role : ℕ) (code : CodeValue) (fits : FitsRole p role code) where
    abbrev part : Part
    part = record { protocol = p; role = role }

    pub values_read : (file : List ℕ) → file ≡ values → IfTold told (λ files. PartInFile files narration name (given part)) → IfTold told (λ files. IsReadToPark narration name values key host_seed files file)
    values_read file is first = told_map told (λ files f. inl (inr (is, (part, f)))) first

    pub begun_no_values : (s : Status) → IfTold told (λ files. PartInFile files narration name (given part)) → IfTold told (λ files. ErrandOf files values host_seed code (refused s))
        → IfTold told (λ files. NewSessionIs narration name values key host_seed files (refused s))
    begun_no_values s first errand = by told first (role_refused values host_seed p role code fits told s errand) where
      by : (t : Option Files) → IfTold t (λ files. PartInFile files narration name (given part)) → IfTold t (λ files. JobOf files values host_seed part (refused s))
          → IfTold t (λ files. NewSessionIs narration name values key host_seed files (refused s))
      by None f j = tt
      by (Some files) f j = inl (s, inr (part, f, j), refl)

    module _ (same : CodeValue) (initial : List (List ℕ)) (seed : List ℕ) (is : same ≡ code)
        (first : IfTold told (λ files. PartInFile files narration name (given part)))
        (errand : IfTold told (λ files. ErrandOf files values host_seed code (given (record { code = same; initial = initial; seed = seed })))) where
      jobs : IfTold told (λ files. JobIs files narration name values host_seed (given (record { protocol = p; role = role; initial = initial; seed = seed })))
      jobs = by told first (subst (λ (c : CodeValue). IfTold told (λ files. ErrandOf files values host_seed code (given (record { code = c; initial = initial; seed = seed })))) is errand) where
        by : (t : Option Files) → IfTold t (λ files. PartInFile files narration name (given part)) → IfTold t (λ files. ErrandOf files values host_seed code (given (record { code = code; initial = initial; seed = seed })))
            → IfTold t (λ files. JobIs files narration name values host_seed (given (record { protocol = p; role = role; initial = initial; seed = seed })))
        by None f e = tt
        by (Some files) f e = inr (part, f, job_given values host_seed p role code fits files initial seed e)

      pub key_read : (file : List ℕ) → file ≡ key → IfTold told (λ files. IsReadToPark narration name values key host_seed files file)
      key_read file at = told_map told (λ files job. inr (at, (_, job))) jobs

      pub begun_no_key : (s : Status) → IfTold told (λ files. KeyIs files key (refused s)) → IfTold told (λ files. NewSessionIs narration name values key host_seed files (refused s))
      begun_no_key s no_key = by told jobs no_key where
        by : (t : Option Files) → IfTold t (λ files. JobIs files narration name values host_seed (given (record { protocol = p; role = role; initial = initial; seed = seed })))
            → IfTold t (λ files. KeyIs files key (refused s)) → IfTold t (λ files. NewSessionIs narration name values key host_seed files (refused s))
        by None j k = tt
        by (Some files) j k = inr (_, j, inl (s, k, refl))

      pub begun_given : (id secret : List ℕ) → RunsRole p role code → AllByRecursion IsBytes initial → IfTold told (λ files. IdentityIs files narration name (given id))
          → IfTold told (λ files. KeyIs files key (given secret))
          → IfTold told (λ files. HasSession (NewSessionIs narration name values key host_seed files) same (begun id seed initial) secret)
      begun_given id secret runs bytes id_is key_is = by told jobs id_is key_is where
        by : (t : Option Files) → IfTold t (λ files. JobIs files narration name values host_seed (given (record { protocol = p; role = role; initial = initial; seed = seed })))
            → IfTold t (λ files. IdentityIs files narration name (given id)) → IfTold t (λ files. KeyIs files key (given secret))
            → IfTold t (λ files. HasSession (NewSessionIs narration name values key host_seed files) same (begun id seed initial) secret)
        by None j i k = tt
        by (Some files) j i k = record {
          protocol = p;
          role = role;
          asks = inr (_, j, inr (secret, k, inr (id, i, refl)));
          runs = subst (λ (c : CodeValue). RunsRole p role c) (sym is) runs;
          bytes = record { init = bytes; arrivals = tt };
        }

-- ---- a session that goes on

as_session : {s t : Status} → as_refused Parked s ≡ as_refused Parked t → as_refused RoleSession s ≡ as_refused RoleSession t
as_session {s} {t} is = ap refused (same_refusal s t is)

module _ (told : Option Files) (narration name saved key : List ℕ) where
  pub resumed_no_part : (s : Status) → IfTold told (λ files. PartInFile files narration name (refused s)) → IfTold told (λ files. ResumedIs narration name saved key files (refused s))
  resumed_no_part s first = told_map told (λ files f. inl (s, f, refl)) first

  pub narration_read_again : (file : List ℕ) → file ≡ narration → IfTold told (λ files. IsReadToResume narration name saved key files file)
  narration_read_again file is = by told where
    by : (t : Option Files) → IfTold t (λ files. IsReadToResume narration name saved key files file)
    by None = tt
    by (Some files) = inl is

  module _ (p : ProtocolValue) (role : ℕ) (first : IfTold told (λ files. PartInFile files narration name (given (record { protocol = p; role = role })))) where
    abbrev of : Part
    of = record { protocol = p; role = role }

    pub record_read : (file : List ℕ) → file ≡ saved → IfTold told (λ files. IsReadToResume narration name saved key files file)
    record_read file is = told_map told (λ files f. inr (inl (is, (of, f)))) first

    pub secret_read : (file : List ℕ) → file ≡ key → IfTold told (λ files. (bytes : List ℕ) × FileIs files saved RECORD_LIMIT (given bytes)) → IfTold told (λ files. IsReadToResume narration name saved key files file)
    secret_read file is file_is = by told first file_is where
      by : (t : Option Files) → IfTold t (λ files. PartInFile files narration name (given of)) → IfTold t (λ files. (bytes : List ℕ) × FileIs files saved RECORD_LIMIT (given bytes))
          → IfTold t (λ files. IsReadToResume narration name saved key files file)
      by None f b = tt
      by (Some files) f b = inr (inr (is, (of, f), b))

    module _ (id : List ℕ) (id_is : IfTold told (λ files. IdentityIs files narration name (given id))) where
      pub resumed_refused : (s : Status) → IfTold told (λ files. RefusesAwake files p role id saved key s) → IfTold told (λ files. ResumedIs narration name saved key files (refused s))
      resumed_refused s why = by told first id_is why where
        by : (t : Option Files) → IfTold t (λ files. PartInFile files narration name (given of)) → IfTold t (λ files. IdentityIs files narration name (given id)) → IfTold t (λ files. RefusesAwake files p role id saved key s)
            → IfTold t (λ files. ResumedIs narration name saved key files (refused s))
        by None f i w = tt
        by (Some files) f i (inl (t, no_file, is)) = inr (of, f, inl (t, no_file, as_session is))
        by (Some files) f i (inr (bytes, b, inl (t, no_key, is))) = inr (of, f, inr (bytes, b, inl (t, no_key, as_session is)))
        by (Some files) f i (inr (bytes, b, inr (secret, k, why_not))) = inr (of, f, inr (bytes, b, inr (secret, k, inr (id, i, inl (s, why_not, refl)))))

      pub resumed_given : (code : CodeValue) (s : Parked) (secret : List ℕ) → RunsRole p role code → HaveBytes s → IfTold told (λ files. IsAwake files p role id saved key s secret)
          → IfTold told (λ files. HasSession (ResumedIs narration name saved key files) code s secret)
      resumed_given code s secret runs have awake = by told first id_is awake where
        by : (t : Option Files) → IfTold t (λ files. PartInFile files narration name (given of)) → IfTold t (λ files. IdentityIs files narration name (given id)) → IfTold t (λ files. IsAwake files p role id saved key s secret)
            → IfTold t (λ files. HasSession (ResumedIs narration name saved key files) code s secret)
        by None f i w = tt
        by (Some files) f i (bytes, b, k, accepted) = record {
          protocol = p;
          role = role;
          asks = inr (of, f, inr (bytes, b, inr (secret, k, inr (id, i, inr (s, accepted, refl)))));
          runs = runs;
          bytes = have;
        }
