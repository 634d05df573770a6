-- The words that are accepted, and what they ask for.
use Rattle.std.specs.Prelude.{ℕ, Bool, true, false, not, ◌&&◌, ◌==◌, nat_le, List, [], ◌∷◌, codes, bytes_eq, Option, Some, None, is_some, if◌then◌else◌}
use Rattle.std.specs.Option.{option_map}
use Rattle.anb_base.specs.declared.place.Place.{Place}
use Rattle.anb_base.specs.declared.place.Place.TheVariants.{Stdio, Dial, Listen}
use Rattle.anb_help.specs.Pages.{page_of}
use Rattle.anb_help.specs.declared.pages.Page.{Page}
use Rattle.anb_help.specs.declared.pages.Page.TheVariants.{Overview, Version}
use Rattle.anb_text.specs.Reading.{number_of}
use Rattle.anb_words.specs.declared.words.RoleText.{RoleText}
use Rattle.anb_words.specs.declared.words.RoleText.TheVariants.{RoleFile, Explanation}

-- what a word list asks for: the names of its files as they are given, a role, and the place of the wire
pub data Asked : Type 0 where
  fmt : (narration : List ℕ) → Asked
  describe : RoleText → (narration role : List ℕ) → Asked
  play : (narration role values : List ℕ) → Place → Asked
  enact : (code values : List ℕ) → Place → Asked
  replay : (narration role values transcript : List ℕ) → Asked
  host : (narration role values : List ℕ) → Place → Asked
  rehearse : (narration values schedule : List ℕ) → Asked
  drill : (exchanges : ℕ) → Asked
  help : Asked
  page : Page → Asked
  certify : (narration role code : List ℕ) → Asked
  why : (narration : List ℕ) → Asked
  park : (narration role values key : List ℕ) → Place → Asked
  resume : (narration role parked key : List ℕ) → Place → Asked
  chart : (narration : List ℕ) → Asked
  role_chart : (narration role : List ℕ) → Asked
  branch : (narration role values : List ℕ) → (told : Option ℕ) → Place → Asked
  check : (narration : List ℕ) → Asked
  check_values : (narration role values : List ℕ) → Asked
  trace : (narration role values transcript : List ℕ) → Asked
  all_values : (narration : List ℕ) → Asked
  role_values : (narration role values : List ℕ) → Asked
  judge : (narration role values transcript : List ℕ) → Asked

-- a name may be any word that isn't empty and doesn't begin with `-`
abbrev pub is_operand : List ℕ → Bool
is_operand [] = false
is_operand (first ∷ rest) = not (first == 45)

-- seconds are a number from 1 to 86,400, in decimal without a sign or leading zeros
abbrev pub seconds_of : Option ℕ → Option ℕ
seconds_of None = None
seconds_of (Some n) = if nat_le 1 n && nat_le n 86400 then Some n else None

abbrev pub seconds_in : List ℕ → Option ℕ
seconds_in text = seconds_of (number_of text)

abbrev pub are_seconds : List ℕ → Bool
are_seconds text = is_some (seconds_in text)

-- the place of a flag and where
abbrev pub place_at : (flag at : List ℕ) → Option Place
place_at flag at =
    if not (is_operand at) then None
    else if bytes_eq flag (codes "--dial") then Some (Dial at)
    else if bytes_eq flag (codes "--listen") then Some (Listen at)
    else None

-- The place that the last words name: none, or `--dial` or `--listen` and where. Behind it may stand
-- `--timeout` and seconds, on which no meaning depends.
abbrev pub place_in : List (List ℕ) → Option Place
place_in [] = Some Stdio
place_in (flag ∷ at ∷ []) = place_at flag at
place_in (flag ∷ at ∷ timeout ∷ seconds ∷ []) =
    if bytes_eq timeout (codes "--timeout") && are_seconds seconds then place_at flag at else None
place_in words = None

abbrev pub fmt_in : List (List ℕ) → Option Asked
fmt_in (narration ∷ []) = if is_operand narration then Some (fmt narration) else None
fmt_in words = None

abbrev pub describe_in : RoleText → List (List ℕ) → Option Asked
describe_in text (narration ∷ role ∷ []) = if is_operand narration && is_operand role then Some (describe text narration role) else None
describe_in text words = None

abbrev pub play_in : List (List ℕ) → Option Asked
play_in (narration ∷ role ∷ values ∷ place) =
    if is_operand narration && is_operand role && is_operand values then option_map (play narration role values) (place_in place) else None
play_in words = None

abbrev pub enact_in : List (List ℕ) → Option Asked
enact_in (code ∷ values ∷ place) =
    if is_operand code && is_operand values then option_map (enact code values) (place_in place) else None
enact_in words = None

abbrev pub replay_in : List (List ℕ) → Option Asked
replay_in (narration ∷ role ∷ values ∷ transcript ∷ []) =
    if is_operand narration && is_operand role && is_operand values && is_operand transcript
    then Some (replay narration role values transcript) else None
replay_in words = None

abbrev pub host_in : List (List ℕ) → Option Asked
host_in (narration ∷ role ∷ values ∷ place) =
    if is_operand narration && is_operand role && is_operand values then option_map (host narration role values) (place_in place) else None
host_in words = None

abbrev pub rehearse_in : List (List ℕ) → Option Asked
rehearse_in (narration ∷ values ∷ schedule ∷ []) =
    if is_operand narration && is_operand values && is_operand schedule
    then Some (rehearse narration values schedule) else None
rehearse_in words = None

-- a drill has 1 to 200 exchanges, in decimal without a sign or leading zeros
abbrev pub drill_of : Option ℕ → Option Asked
drill_of None = None
drill_of (Some exchanges) = if nat_le 1 exchanges && nat_le exchanges 200 then Some (drill exchanges) else None

abbrev pub drill_in : List (List ℕ) → Option Asked
drill_in (exchanges ∷ []) = drill_of (number_of exchanges)
drill_in words = None

abbrev pub certify_in : List (List ℕ) → Option Asked
certify_in (narration ∷ role ∷ code ∷ []) =
    if is_operand narration && is_operand role && is_operand code then Some (certify narration role code) else None
certify_in words = None

abbrev pub why_in : List (List ℕ) → Option Asked
why_in (narration ∷ []) = if is_operand narration then Some (why narration) else None
why_in words = None

abbrev pub park_in : List (List ℕ) → Option Asked
park_in (narration ∷ role ∷ values ∷ key ∷ place) =
    if is_operand narration && is_operand role && is_operand values && is_operand key
    then option_map (park narration role values key) (place_in place) else None
park_in words = None

abbrev pub resume_in : List (List ℕ) → Option Asked
resume_in (narration ∷ role ∷ parked ∷ key ∷ place) =
    if is_operand narration && is_operand role && is_operand parked && is_operand key
    then option_map (resume narration role parked key) (place_in place) else None
resume_in words = None

abbrev pub chart_in : List (List ℕ) → Option Asked
chart_in (narration ∷ []) = if is_operand narration then Some (chart narration) else None
chart_in (narration ∷ flag ∷ role ∷ []) =
    if is_operand narration && bytes_eq flag (codes "--role") && is_operand role
    then Some (role_chart narration role) else None
chart_in words = None

-- an arm has a number from 1 to 8, in decimal without a sign or leading zeros
abbrev pub arm_of : Option ℕ → Option ℕ
arm_of None = None
arm_of (Some arm) = if nat_le 1 arm && nat_le arm 8 then Some arm else None

abbrev pub branch_arm : (narration role values : List ℕ) → (arm : Option ℕ) → List (List ℕ) → Option Asked
branch_arm narration role values None place = None
branch_arm narration role values (Some arm) place = option_map (branch narration role values (Some arm)) (place_in place)

-- before the place may stand `--arm` and the number of an arm
abbrev pub branch_on : (narration role values : List ℕ) → List (List ℕ) → Option Asked
branch_on narration role values (flag ∷ arm ∷ place) =
    if bytes_eq flag (codes "--arm") then branch_arm narration role values (arm_of (number_of arm)) place
    else option_map (branch narration role values None) (place_in (flag ∷ arm ∷ place))
branch_on narration role values place = option_map (branch narration role values None) (place_in place)

abbrev pub branch_in : List (List ℕ) → Option Asked
branch_in (narration ∷ role ∷ values ∷ words) =
    if is_operand narration && is_operand role && is_operand values then branch_on narration role values words else None
branch_in words = None

abbrev pub check_in : List (List ℕ) → Option Asked
check_in (narration ∷ []) = if is_operand narration then Some (check narration) else None
check_in (narration ∷ role ∷ values ∷ []) =
    if is_operand narration && is_operand role && is_operand values
    then Some (check_values narration role values) else None
check_in words = None

abbrev pub trace_in : List (List ℕ) → Option Asked
trace_in (narration ∷ role ∷ values ∷ transcript ∷ []) =
    if is_operand narration && is_operand role && is_operand values && is_operand transcript
    then Some (trace narration role values transcript) else None
trace_in words = None

abbrev pub values_in : List (List ℕ) → Option Asked
values_in (narration ∷ []) = if is_operand narration then Some (all_values narration) else None
values_in (narration ∷ role ∷ values ∷ []) =
    if is_operand narration && is_operand role && is_operand values
    then Some (role_values narration role values) else None
values_in words = None

-- `help` may be asked of a command
abbrev pub judge_in : List (List ℕ) → Option Asked
judge_in (narration ∷ role ∷ values ∷ transcript ∷ []) =
    if is_operand narration && is_operand role && is_operand values && is_operand transcript
    then Some (judge narration role values transcript) else None
judge_in words = None

abbrev pub help_in : List (List ℕ) → Option Asked
help_in [] = Some help
help_in (command ∷ []) = option_map page (page_of command)
help_in words = None

-- a page that is asked for by one word
abbrev pub alone_in : Page → List (List ℕ) → Option Asked
alone_in about [] = Some (page about)
alone_in about words = None

abbrev pub command_in : (command : List ℕ) → List (List ℕ) → Option Asked
command_in command words =
    if bytes_eq command (codes "fmt") then fmt_in words
    else if bytes_eq command (codes "compile") then describe_in RoleFile words
    else if bytes_eq command (codes "explain") then describe_in Explanation words
    else if bytes_eq command (codes "play") then play_in words
    else if bytes_eq command (codes "enact") then enact_in words
    else if bytes_eq command (codes "replay") then replay_in words
    else if bytes_eq command (codes "host") then host_in words
    else if bytes_eq command (codes "rehearse") then rehearse_in words
    else if bytes_eq command (codes "drill") then drill_in words
    else if bytes_eq command (codes "help") then help_in words
    else if bytes_eq command (codes "certify") then certify_in words
    else if bytes_eq command (codes "why") then why_in words
    else if bytes_eq command (codes "park") then park_in words
    else if bytes_eq command (codes "resume") then resume_in words
    else if bytes_eq command (codes "chart") then chart_in words
    else if bytes_eq command (codes "branch") then branch_in words
    else if bytes_eq command (codes "check") then check_in words
    else if bytes_eq command (codes "trace") then trace_in words
    else if bytes_eq command (codes "values") then values_in words
    else if bytes_eq command (codes "--help") then alone_in Overview words
    else if bytes_eq command (codes "--version") then alone_in Version words
    else if bytes_eq command (codes "judge") then judge_in words
    else None

abbrev pub asked_of : List (List ℕ) → Option Asked
asked_of [] = None
asked_of (command ∷ words) = command_in command words

-- the files that are asked for, in the order in which they are fetched
abbrev pub files_of : Option Asked → List (List ℕ)
files_of None = []
files_of (Some (fmt narration)) = narration ∷ []
files_of (Some (describe text narration role)) = narration ∷ []
files_of (Some (play narration role values place)) = narration ∷ values ∷ []
files_of (Some (enact code values place)) = code ∷ values ∷ []
files_of (Some (replay narration role values transcript)) = narration ∷ values ∷ transcript ∷ []
files_of (Some (host narration role values place)) = narration ∷ values ∷ []
files_of (Some (rehearse narration values schedule)) = narration ∷ values ∷ schedule ∷ []
files_of (Some (drill exchanges)) = []
files_of (Some help) = []
files_of (Some (page about)) = []
files_of (Some (certify narration role code)) = narration ∷ code ∷ []
files_of (Some (why narration)) = narration ∷ []
files_of (Some (park narration role values key place)) = narration ∷ values ∷ key ∷ []
files_of (Some (resume narration role parked key place)) = narration ∷ parked ∷ key ∷ []
files_of (Some (chart narration)) = narration ∷ []
files_of (Some (role_chart narration role)) = narration ∷ []
files_of (Some (branch narration role values told place)) = narration ∷ values ∷ []
files_of (Some (check narration)) = narration ∷ []
files_of (Some (check_values narration role values)) = narration ∷ values ∷ []
files_of (Some (trace narration role values transcript)) = narration ∷ values ∷ transcript ∷ []
files_of (Some (all_values narration)) = narration ∷ []
files_of (Some (role_values narration role values)) = narration ∷ values ∷ []
files_of (Some (judge narration role values transcript)) = narration ∷ values ∷ transcript ∷ []

-- the place that is reached
abbrev pub place_of : Option Asked → Option Place
place_of None = None
place_of (Some (fmt narration)) = Some Stdio
place_of (Some (describe text narration role)) = Some Stdio
place_of (Some (play narration role values place)) = Some place
place_of (Some (enact code values place)) = Some place
place_of (Some (replay narration role values transcript)) = Some Stdio
place_of (Some (host narration role values place)) = Some place
place_of (Some (rehearse narration values schedule)) = Some Stdio
place_of (Some (drill exchanges)) = Some Stdio
place_of (Some help) = Some Stdio
place_of (Some (page about)) = Some Stdio
place_of (Some (certify narration role code)) = Some Stdio
place_of (Some (why narration)) = Some Stdio
place_of (Some (park narration role values key place)) = Some place
place_of (Some (resume narration role parked key place)) = Some place
place_of (Some (chart narration)) = Some Stdio
place_of (Some (role_chart narration role)) = Some Stdio
place_of (Some (branch narration role values told place)) = Some place
place_of (Some (check narration)) = Some Stdio
place_of (Some (check_values narration role values)) = Some Stdio
place_of (Some (trace narration role values transcript)) = Some Stdio
place_of (Some (all_values narration)) = Some Stdio
place_of (Some (role_values narration role values)) = Some Stdio
place_of (Some (judge narration role values transcript)) = Some Stdio

-- whether the input is read
abbrev pub is_reading : Option Asked → Bool
is_reading (Some (play narration role values place)) = true
is_reading (Some (enact code values place)) = true
is_reading (Some (host narration role values place)) = true
is_reading (Some (park narration role values key place)) = true
is_reading (Some (resume narration role parked key place)) = true
is_reading (Some (branch narration role values told place)) = true
is_reading asked = false
