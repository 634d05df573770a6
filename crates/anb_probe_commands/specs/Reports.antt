-- The report on a program, by the verdicts on the cases that were tried.
use Rattle.std.specs.Prelude.{ℕ, zero, suc, ◌+◌, ◌==◌, ◌&&◌, not, List, [], ◌∷◌, ◌++◌, length, map, count_by, Bool, true, false, Option, Some, None, option_and_then, if◌then◌else◌}
use Rattle.std.specs.List.{concat}
use Rattle.std.specs.Option.{option_map_or}
use Rattle.std.specs.Str.{bytes_eq}
use Rattle.anb_code.specs.Uses.{is_among}
use Rattle.anb_protocol.specs.Plays.{events_of}
use Rattle.anb_protocol.specs.Protocols.{ProtocolValue}
use Rattle.anb_draws.specs.Draws.{Values, names_made, value_in}
use Rattle.anb_verdict.specs.declared.verdict.Verdict.{Verdict}
use Rattle.anb_verdict.specs.declared.verdict.Verdict.TheVariants as says
use Rattle.anb_verdict.specs.Texts.{case_lines, first_lines, last_line, missing_line, same_line, twin_line}
use Rattle.anb_verdict.specs.Verdicts.{is_good}
use Rattle.anb_attempts.specs.declared.attempts.Attempt.{Attempt}
use Rattle.anb_attempts.specs.declared.attempts.Scene.{Scene}
use Rattle.anb_status.specs.declared.status.Status.{Status}
use Rattle.anb_status.specs.declared.status.Status.TheVariants.{CasesNotOk, Done}
use Rattle.anb_probe_commands.specs.Cases.{joined_once}
use Rattle.anb_probe_commands.specs.Frames.{frames_in}
use Rattle.anb_probe_commands.specs.Plays.{CaseEnd, verdicts_of}

-- ---- counts

-- something was tried, and nothing is said against the program
abbrev pub is_passed : Verdict → Bool
is_passed says.Good = true
is_passed verdict = false

-- nothing is said against it, as nothing could be tried, or seen
abbrev pub is_skipped : Verdict → Bool
is_skipped says.Skipped = true
is_skipped says.NotSeen = true
is_skipped says.Unchanged = true
is_skipped says.TooLong = true
is_skipped verdict = false

abbrev pub is_failed : Verdict → Bool
is_failed verdict = not (is_good verdict)

-- the program went on where it must stop
abbrev pub is_lax : Verdict → Bool
is_lax (says.LaxMessage event stop) = true
is_lax (says.LaxUnnarrated stop) = true
is_lax (says.LaxEnd stop) = true
is_lax verdict = false

-- done, where no case failed
abbrev pub status_for : List Verdict → Status
status_for verdicts =
    if count_by is_failed verdicts == 0 then Done else CasesNotOk (count_by is_failed verdicts) (length verdicts)

-- ---- names that come out equal

-- a value is also told as this one
abbrev pub is_value : List ℕ → Option (List ℕ) → Bool
is_value value None = false
is_value value (Some other) = bytes_eq value other

-- what a name is told as in the cases
abbrev pub values_of : (name : ℕ) → List Values → List (Option (List ℕ))
values_of name told = map (λ values. value_in values name) told

-- the number of the first of these cases, from here, in which it is told as this value, where there is one
abbrev pub case_with : Option (List ℕ) → (number : ℕ) → List (Option (List ℕ)) → Option ℕ
case_with None number values = None
case_with (Some value) number [] = None
case_with (Some value) number (other ∷ values) =
    if is_value value other then Some number else case_with (Some value) (number + 1) values

-- Behind these cases, the first in which it is told as a value that it had before, and the first of those before.
abbrev pub same_from : (before : List (Option (List ℕ))) → List (Option (List ℕ)) → Option (ℕ × ℕ)
same_from before [] = None
same_from before (value ∷ values) =
    option_map_or (λ one. Some (one, length before + 1)) (case_with value 1 before) (same_from (before ++ value ∷ []) values)

-- the first of so many names from this one, but these, that is told as a value
abbrev pub twin_in : (apart : List ℕ) → (value : List ℕ) → Values → (first count : ℕ) → Option ℕ
twin_in apart value values first zero = None
twin_in apart value values first (suc count) =
    if is_value value (value_in values first) && not (is_among apart first) then Some first
    else twin_in apart value values (first + 1) count

-- the first of the narration's names that is told as the value of this one
abbrev pub twin_of : (names : ℕ) → (apart : List ℕ) → (name : ℕ) → Values → Option ℕ
twin_of names apart name values = option_and_then (λ value. twin_in apart value values 0 names) (value_in values name)

-- and the first of these cases, from here, in which there is one
abbrev pub twin_from : (names : ℕ) → (apart : List ℕ) → (name number : ℕ) → List Values → Option (ℕ × ℕ)
twin_from names apart name number [] = None
twin_from names apart name number (values ∷ told) =
    option_map_or (λ other. Some (other, number)) (twin_of names apart name values) (twin_from names apart name (number + 1) told)

-- ---- lines

module _ (p : ProtocolValue) (told : List Values) where
  -- that a name is told as the same value in two of the cases, where it is
  abbrev pub same_in : (name : ℕ) → List (List ℕ)
  same_in name = option_map_or (λ (cases : ℕ × ℕ). same_line p name cases.0 cases.1 ∷ []) (same_from [] (values_of name told)) []

  -- that it is told as the value of another name, but of these, in one of them
  abbrev pub twin_lines : (apart : List ℕ) → (name : ℕ) → List (List ℕ)
  twin_lines apart name = option_map_or (λ (twin : ℕ × ℕ). twin_line p name twin.0 twin.1 ∷ []) (twin_from (length p.atoms) apart name 1 told) []

  -- of each of these names, which the role makes in this order: whether it is one that was there before it, and whether
  -- it is the same twice
  abbrev pub equal_lines : (names : List ℕ) → List (List ℕ)
  equal_lines [] = []
  equal_lines (name ∷ names) = twin_lines (name ∷ names) name ++ same_in name ++ equal_lines names

module _ (p : ProtocolValue) (role : ℕ) where
  -- what the program lacks that went on in a case
  abbrev pub lacking_lines : Attempt → Verdict → List (List ℕ)
  lacking_lines a v = if is_lax v then option_map_or (λ m. missing_line p role m ∷ []) a.lacks [] else []

  abbrev pub all_lacking : List Attempt → List Verdict → List (List ℕ)
  all_lacking [] verdicts = []
  all_lacking (a ∷ rest) [] = []
  all_lacking (a ∷ rest) (v ∷ vs) = lacking_lines a v ++ all_lacking rest vs

  -- of each name that the role makes
  abbrev pub same_lines : List Values → List (List ℕ)
  same_lines told = equal_lines p told (names_made (events_of p role))

  -- behind the cases: which names come out equal; what the program lacks, each once, in the order of the first case that
  -- shows it; what wasn't tried; and the counts
  abbrev pub notes : List Attempt → (untried : List (List ℕ)) → List Values → List Verdict → List ℕ
  notes cases untried told verdicts =
      concat (same_lines told) ++ concat (joined_once [] (all_lacking cases verdicts)) ++ concat untried
      ++ last_line (count_by is_passed verdicts) (length verdicts) (count_by is_skipped verdicts)

  module _ (scenes : List Scene) (is_shown : Bool) where
    -- the lines of a case, and behind them its frames where these are shown
    abbrev pub shown_frames : Attempt → CaseEnd → List ℕ
    shown_frames a end = if is_shown then frames_in p role scenes a.scene end.lines else []

    abbrev pub case_text : (number : ℕ) → Attempt → CaseEnd → List ℕ
    case_text number a end = case_lines p role number a.title end.verdict ++ shown_frames a end

    -- those of cases that came to these ends, numbered from here
    abbrev pub played_lines : (number : ℕ) → List Attempt → List CaseEnd → List ℕ
    played_lines number [] ends = []
    played_lines number (a ∷ rest) [] = []
    played_lines number (a ∷ rest) (end ∷ ends) = case_text number a end ++ played_lines (number + 1) rest ends

    -- the report up to the last of these
    abbrev pub report_so_far : List Attempt → List CaseEnd → List ℕ
    report_so_far cases ends = first_lines (length cases) ++ played_lines 1 cases ends

    -- and the whole, where this is told of what the program drew in each
    abbrev pub report : List Attempt → (untried : List (List ℕ)) → List Values → List CaseEnd → List ℕ
    report cases untried told ends = report_so_far cases ends ++ notes cases untried told (verdicts_of ends)
