-- What is tried of a role, and what can't be.
use Rattle.std.specs.Prelude.{◌≡◌, ℕ, ◌+◌, ◌==◌, ◌||◌, nat_lt, List, [], ◌∷◌, ◌++◌, map, get_or, slice_get, count_by, Bool, true, false, is_none, codes, decimal, Option, Some, None, Result, Ok, Err, if◌then◌else◌}
use Rattle.std.specs.List.{flat_map, list_any}
use Rattle.std.specs.Option.{option_map_or}
use Rattle.std.specs.Str.{bytes_eq}
use Rattle.anb_protocol.specs.Protocols.{ProtocolValue}
use Rattle.anb_partner.specs.Plans.{IsPartner, RefusesPartner, hook_at}
use Rattle.anb_partner.specs.declared.planning.Partner.{Partner}
use Rattle.anb_partner.specs.declared.planning.PartnerNo.TheVariants as no
use Rattle.anb_verdict.specs.declared.title.Title.{Title}
use Rattle.anb_verdict.specs.declared.title.Title.TheVariants.{Narrated, Changed, Sized, Earlier}
use Rattle.anb_verdict.specs.Texts.{not_tried_line}
use Rattle.anb_attempts.specs.Attempts.{script_in, why_words}
use Rattle.anb_attempts.specs.declared.attempts.Attempt.{Attempt}
use Rattle.anb_attempts.specs.declared.attempts.Gap.{Gap}
use Rattle.anb_attempts.specs.declared.attempts.Scene.{Scene}
use Rattle.anb_attempts.specs.declared.attempts.Suite.{Suite}
use Rattle.anb_probe_commands.specs.declared.partners.Lack.{Lack}
use Rattle.anb_probe_commands.specs.declared.partners.Lack.TheVariants.{Blocked, Large}

-- ---- partners

-- the partner of a scene, or why there is none
abbrev pub IsMade : ProtocolValue → ℕ → Scene → Result Partner Lack → Type 0
IsMade p role scene (Ok partner) = IsPartner (script_in p role scene) partner.code × (partner.hook ≡ hook_at (script_in p role scene))
IsMade p role scene (Err (Blocked line)) = RefusesPartner (script_in p role scene) (no.CannotSend line)
IsMade p role scene (Err Large) = RefusesPartner (script_in p role scene) no.Large

-- those of all scenes, in order
abbrev pub AreMade : ProtocolValue → ℕ → List Scene → List (Result Partner Lack) → Type 0
AreMade p role scenes made =
    (i : ℕ) (scene : Scene) (r : Result Partner Lack) → slice_get scenes i ≡ Some scene → slice_get made i ≡ Some r → IsMade p role scene r

abbrev pub lack_of : Result Partner Lack → Option Lack
lack_of (Ok partner) = None
lack_of (Err lack) = Some lack

-- ---- cases

-- why a scene has no partner, where it has none
abbrev pub lack_in : List (Option Lack) → (scene : ℕ) → Option Lack
lack_in lacks scene = get_or lacks scene None

abbrev pub lack_at : List (Option Lack) → Attempt → Option Lack
lack_at lacks a = lack_in lacks a.scene

abbrev pub has_partner : List (Option Lack) → Attempt → Bool
has_partner lacks a = is_none (lack_at lacks a)

-- all cases, or the first and the one with this number
abbrev pub is_wanted : Option ℕ → (number : ℕ) → Bool
is_wanted None number = true
is_wanted (Some n) number = (number == 1) || (number == n)

-- those of the attempts with a partner, numbered from here
abbrev pub cases_from : List (Option Lack) → Option ℕ → (number : ℕ) → List Attempt → List Attempt
cases_from lacks case number [] = []
cases_from lacks case number (a ∷ rest) =
    if has_partner lacks a
    then (if is_wanted case number then a ∷ cases_from lacks case (number + 1) rest else cases_from lacks case (number + 1) rest)
    else cases_from lacks case number rest

abbrev pub case_count : List (Option Lack) → List Attempt → ℕ
case_count lacks attempts = count_by (has_partner lacks) attempts

-- there is no case with this number
abbrev pub is_beyond : Option ℕ → (count : ℕ) → Bool
is_beyond None count = false
is_beyond (Some n) count = nat_lt count n

-- ---- lines, each of which stands once

abbrev pub is_among : List ℕ → List (List ℕ) → Bool
is_among line lines = list_any (bytes_eq line) lines

abbrev pub with_line : (lines : List (List ℕ)) → List ℕ → List (List ℕ)
with_line lines line = if is_among line lines then lines else lines ++ line ∷ []

-- these lines, and behind them those of others that don't stand there yet
abbrev pub joined_once : (lines others : List (List ℕ)) → List (List ℕ)
joined_once lines [] = lines
joined_once lines (line ∷ others) = joined_once (with_line lines line) others

-- ---- what can't be tried

abbrev pub lack_words : Lack → List ℕ
lack_words (Blocked line) = codes "the others can't make it"
lack_words Large = codes "its partner is too large"

abbrev pub earlier_line : (event : ℕ) → (why : List ℕ) → List ℕ
earlier_line event why = codes "# not tried: the message of an earlier session at event " ++ (decimal event ++ (codes ": " ++ (why ++ 10 ∷ [])))

-- that there are more than the most attempts
abbrev pub more_lines : Bool → List (List ℕ)
more_lines more = if more then codes "# not tried: what comes after the first 4096 cases\n" ∷ [] else []

module _ (p : ProtocolValue) (role : ℕ) where
  -- that an attempt with this title can't be made
  abbrev pub untried_lines : Title → (why : List ℕ) → List (List ℕ)
  untried_lines Narrated why = []
  untried_lines (Changed place words) why = not_tried_line p role place why ∷ []
  untried_lines (Sized event places bytes) why = option_map_or (λ place. not_tried_line p role place why ∷ []) (slice_get places.items 0) []
  untried_lines (Earlier event) why = earlier_line event why ∷ []

  abbrev pub lack_lines : List (Option Lack) → Attempt → List (List ℕ)
  lack_lines lacks a = option_map_or (λ lack. untried_lines a.title (lack_words lack)) (lack_at lacks a) []

  abbrev pub gap_line : Gap → List ℕ
  gap_line gap = not_tried_line p role gap.place (why_words gap.why)

  -- all that can't be
  abbrev pub untried_in : Suite → List (Option Lack) → List (List ℕ)
  untried_in suite lacks =
      joined_once [] (map gap_line suite.gaps.items ++ more_lines suite.more ++ flat_map (lack_lines lacks) suite.attempts.items)

  -- nothing is said of it where one case is asked for
  abbrev pub all_untried : Suite → List (Option Lack) → (case : Option ℕ) → List (List ℕ)
  all_untried suite lacks (Some number) = []
  all_untried suite lacks None = untried_in suite lacks
