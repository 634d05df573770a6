-- The words of `probe`.
use Rattle.std.specs.Prelude.{ℕ, Bool, true, false, ◌&&◌, nat_le, List, [], ◌∷◌, codes, bytes_eq, Option, Some, None, if◌then◌else◌}
use Rattle.std.specs.Option.{option_map}
use Rattle.anb_words.specs.Words.{is_operand, seconds_in}
use Rattle.anb_partner.specs.Trials.{asked_with}

-- whether all cases are tried, the number of the one that is asked for, for how many seconds a program
-- may be silent, and the name of the record's folder, where these are said; and what is tried, as words: `--` and those of
-- a program, or `--dial` and where
pub record Trying : Type 0 where
  pub all : Bool
  pub case : Option ℕ
  pub limit : Option ℕ
  pub folder : Option (List ℕ)
  pub target : List (List ℕ)

-- the names of the narration's file, of the role and of the values file, and how it is tried
pub record Probed : Type 0 where
  pub narration : List ℕ
  pub role : List ℕ
  pub values : List ℕ
  pub trying : Trying

abbrev pub trying : Bool → (case limit : Option ℕ) → (folder : Option (List ℕ)) → List (List ℕ) → Trying
trying all case limit folder target =
    record { all = all; case = case; limit = limit; folder = folder; target = target }

-- what is asked of each child: the limit and what is tried
abbrev pub order_of : Trying → List (List ℕ)
order_of trying = asked_with trying.limit trying.target

abbrev pub probed : (narration role values : List ℕ) → Trying → Probed
probed narration role values trying = record { narration = narration; role = role; values = values; trying = trying }

-- a case has a number from 1 to 4,096, which is written as seconds are
abbrev pub case_of : Option ℕ → Option ℕ
case_of None = None
case_of (Some n) = if nat_le n 4096 then Some n else None

-- `--dial` and where, as it is with `play`
abbrev pub dialled_in : (place : List ℕ) → List (List ℕ) → Option (List (List ℕ))
dialled_in place [] = if is_operand place then Some (codes "--dial" ∷ place ∷ []) else None
dialled_in place words = None

-- last stands what is tried: `--` and the words of the program, of which there is one at least, and nothing is asked of them;
-- or where it is dialled
abbrev pub target_in : List (List ℕ) → Option (List (List ℕ))
target_in (mark ∷ name ∷ words) =
    if bytes_eq mark (codes "--") then Some (codes "--" ∷ name ∷ words)
    else if bytes_eq mark (codes "--dial") then dialled_in name words
    else None
target_in words = None

abbrev pub marked_in : Bool → (case limit : Option ℕ) → (folder : Option (List ℕ)) → List (List ℕ) → Option Trying
marked_in all case limit folder words = option_map (trying all case limit folder) (target_in words)

-- before them may stand `--record` and the name of a folder
abbrev pub recorded_in : Bool → (case limit : Option ℕ) → List (List ℕ) → Option Trying
recorded_in all case limit (flag ∷ folder ∷ words) =
    if bytes_eq flag (codes "--record")
    then (if is_operand folder then marked_in all case limit (Some folder) words else None)
    else marked_in all case limit None (flag ∷ folder ∷ words)
recorded_in all case limit words = marked_in all case limit None words

abbrev pub limited_in : Bool → (case limit : Option ℕ) → List (List ℕ) → Option Trying
limited_in all case None words = None
limited_in all case (Some seconds) words = recorded_in all case (Some seconds) words

-- before these may stand `--timeout` and seconds
abbrev pub timed_in : Bool → (case : Option ℕ) → List (List ℕ) → Option Trying
timed_in all case (flag ∷ seconds ∷ words) =
    if bytes_eq flag (codes "--timeout") then limited_in all case (seconds_in seconds) words
    else recorded_in all case None (flag ∷ seconds ∷ words)
timed_in all case words = recorded_in all case None words

abbrev pub cased_in : Bool → (case : Option ℕ) → List (List ℕ) → Option Trying
cased_in all None words = None
cased_in all (Some n) words = timed_in all (Some n) words

-- before these may stand `--case` and a number
abbrev pub numbered_in : Bool → List (List ℕ) → Option Trying
numbered_in all (flag ∷ number ∷ words) =
    if bytes_eq flag (codes "--case") then cased_in all (case_of (seconds_in number)) words
    else timed_in all None (flag ∷ number ∷ words)
numbered_in all words = timed_in all None words

-- and before these `--all`
abbrev pub trying_in : List (List ℕ) → Option Trying
trying_in (flag ∷ words) =
    if bytes_eq flag (codes "--all") then numbered_in true words else numbered_in false (flag ∷ words)
trying_in words = numbered_in false words

abbrev pub probed_in : List (List ℕ) → Option Probed
probed_in (narration ∷ role ∷ values ∷ words) =
    if is_operand narration && is_operand role && is_operand values
    then option_map (probed narration role values) (trying_in words) else None
probed_in words = None

abbrev pub probed_of : List (List ℕ) → Option Probed
probed_of [] = None
probed_of (command ∷ words) = if bytes_eq command (codes "probe") then probed_in words else None
