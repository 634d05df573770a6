-- How a session is opened, and why none is.
use Rattle.std.specs.Prelude.{◌≡◌, ◌≢◌, ◌⊎◌, ◌≤◌, ◌<◌, ℕ, ℤ, pos, nat_lt, List, [], ◌∷◌, length, replicate, Bool, true, false, Option, Some, None, Ok, Err}
use Rattle.anb_base.specs.declared.content.Suite.TheVariants.{One}
use Rattle.anb_base.specs.declared.TheConstants.{ARRIVAL, LARGE_FILE, SMALL_FILE, WIDE}
use Rattle.anb_seal.specs.Primitives.{hash_of}
use Rattle.anb_code.specs.CodeValue.{CodeValue}
use Rattle.anb_code.specs.Taking.{count_fresh, take_texts}
use Rattle.anb_code.specs.Verified.{IsVerifiedCode}
use Rattle.anb_text.specs.Refusals.{IsRefusal}
use Rattle.anb_text.specs.RoleFiles.{IsTextOf}
use Rattle.anb_text.specs.declared.refusal.LoadNo.TheVariants as loading
use Rattle.anb_values.specs.Fit.{Fit}
use Rattle.anb_values.specs.declared.fitted.Fitted.{Fitted}
use Rattle.anb_values.specs.declared.refusal.ValuesNo.TheVariants as fitting
use Rattle.anb_park.specs.Lives.{started}
use Rattle.anb_park.specs.Records.{Parked, Accepts, Refuses, IsWaiting, count_takes, play_of}
use Rattle.anb_park.specs.declared.resuming.ParkNo.TheVariants as parking
use Rattle.anb_c.specs.declared.opening.OpenNo.{OpenNo}
use Rattle.anb_c.specs.declared.opening.OpenNo.TheVariants.{Misused, RoleLong, Role, ValuesLong, Values, NoSeed, Record, NoMemory}
use Rattle.anb_c.specs.declared.session.Session.{Session}
use Rattle.anb_c.specs.Sessions.{IsAt}

-- the role file spells this code, which is verified
abbrev pub Spells : List ℕ → CodeValue → Type 0
Spells role code = IsVerifiedCode ARRIVAL WIDE code × IsTextOf role code

-- whose a session's records are: the hash of its role file
abbrev pub identity_of : List ℕ → List ℕ
identity_of role = hash_of One role

-- a caller gives 32 bytes as the seed, or none
abbrev pub IsSeed : List ℕ → Type 0
IsSeed seed = (length seed ≡ 0) ⊎ (length seed ≡ 32)

-- the seed of the draws: that of the values, else the caller's. A code that draws nothing needs none
abbrev pub seed_of : Bool → Option (List ℕ) → List ℕ → Option (List ℕ)
seed_of draws (Some seed) given = Some seed
seed_of draws None (b ∷ bs) = Some (b ∷ bs)
seed_of true None [] = None
seed_of false None [] = Some (replicate 32 0)

abbrev pub draws : CodeValue → Bool
draws code = nat_lt 0 (count_fresh code.instrs)

-- why the role file gives no code
abbrev pub IsRoleRefusal : List ℕ → OpenNo → Type 0
IsRoleRefusal role RoleLong = LARGE_FILE < length role
IsRoleRefusal role (Role why) = (length role ≤ LARGE_FILE) × (why ≢ loading.NoMemory) × IsRefusal role why
IsRoleRefusal role NoMemory = Unit {0}
IsRoleRefusal role _ = ⊥

module _ (role : List ℕ) where
  module _ (values seed : List ℕ) where
    -- the session of the role file's code with these values, before its first turn
    pub record Opens (session : Option Session) : Type 0 where
      pub code : CodeValue
      pub spelled : Spells role code
      pub fitted : Fitted
      pub fits : Fit values (take_texts code.instrs) (Ok fitted)
      pub seed_used : List ℕ
      pub seeds : seed_of (draws code) fitted.seed seed ≡ Some seed_used
      pub stands : IsAt code (started (identity_of role) fitted.values seed_used 0) [] session

    -- why there is none: the first that holds, where `held` is what the handle held before
    abbrev pub RefusesOpening : (held : Option Session) → OpenNo → Type 0
    RefusesOpening held Misused = (held ≢ None) ⊎ (IsSeed seed → ⊥)
    RefusesOpening held RoleLong = LARGE_FILE < length role
    RefusesOpening held (Role why) = (length role ≤ LARGE_FILE) × (why ≢ loading.NoMemory) × IsRefusal role why
    RefusesOpening held ValuesLong = (code : CodeValue) × Spells role code × (SMALL_FILE < length values)
    RefusesOpening held (Values why) =
        (code : CodeValue) × Spells role code × (length values ≤ SMALL_FILE) × (why ≢ fitting.NoMemory)
        × Fit values (take_texts code.instrs) (Err why)
    RefusesOpening held NoSeed =
        (code : CodeValue) × Spells role code × (fitted : Fitted)
        × Fit values (take_texts code.instrs) (Ok fitted) × (seed_of (draws code) fitted.seed seed ≡ None)
    RefusesOpening held (Record why) = ⊥
    RefusesOpening held NoMemory = Unit {0}

  module _ (key sealed : List ℕ) where
    -- the session that the record is of, where it waits
    pub record Resumes (session : Option Session) : Type 0 where
      pub code : CodeValue
      pub spelled : Spells role code
      pub p : Parked
      pub accepts : Accepts (count_takes code) (IsWaiting code) (identity_of role) key sealed p
      pub stands : IsAt code p (play_of code p).sent session

    abbrev pub RefusesResuming : (held : Option Session) → OpenNo → Type 0
    RefusesResuming held Misused = held ≢ None
    RefusesResuming held RoleLong = LARGE_FILE < length role
    RefusesResuming held (Role why) = (length role ≤ LARGE_FILE) × (why ≢ loading.NoMemory) × IsRefusal role why
    RefusesResuming held (Record why) =
        (code : CodeValue) × Spells role code × (why ≢ parking.NoMemory)
        × Refuses (count_takes code) (IsWaiting code) (identity_of role) key sealed why
    RefusesResuming held NoMemory = Unit {0}
    RefusesResuming held _ = ⊥

-- how each refusal is told; 99 is want of memory
abbrev pub status_of : OpenNo → ℕ
status_of RoleLong = 3
status_of ValuesLong = 3
status_of (Values why) = 7
status_of NoSeed = 8
status_of (Role why) = 16
status_of (Record why) = 30
status_of NoMemory = 99
status_of Misused = 102

-- a call with this status opened the session; or it told why there is none, and left what was held
abbrev pub IsOpening : (Opened : Option Session → Type 0) → (Refused : OpenNo → Type 0) → (held new : Option Session) → (status : ℤ) → Type 0
IsOpening Opened Refused held new status =
    ((status ≡ pos 0) × (held ≡ None) × Opened new)
    ⊎ ((why : OpenNo) × (status ≡ pos (status_of why)) × Refused why × (new ≡ held))
