-- The lines of a report, in the Test Anything Protocol of version 13. Each ends with the byte 0A.
use Rattle.std.specs.Prelude.{ℕ, ◌+◌, ◌==◌, List, [], ◌∷◌, ◌++◌, Bool, true, false, codes, decimal, if◌then◌else◌}
use Rattle.std.specs.Option.{option_map_or}
use Rattle.anb_protocol.specs.Protocols.{ProtocolValue, role_name}
use Rattle.anb_protocol.specs.Texts.{atom_name, term_text}
use Rattle.anb_verdict.specs.declared.place.Place.{Place}
use Rattle.anb_verdict.specs.declared.title.Title.{Title}
use Rattle.anb_verdict.specs.declared.title.Title.TheVariants.{Narrated, Changed, Sized, Earlier}
use Rattle.anb_verdict.specs.declared.missing.Other.{Other}
use Rattle.anb_verdict.specs.declared.missing.Other.TheVariants.{Drew, Knows, Came, Makes}
use Rattle.anb_verdict.specs.declared.missing.Missing.{Missing}
use Rattle.anb_verdict.specs.declared.missing.Missing.TheVariants as missing
use Rattle.anb_verdict.specs.declared.verdict.Verdict.{Verdict}
use Rattle.anb_verdict.specs.declared.verdict.Verdict.TheVariants as says
use Rattle.anb_verdict.specs.Places.{head_text, narrated_at, part_text, place_text, sender_at}
use Rattle.anb_verdict.specs.Verdicts.{is_good}

-- ---- the first lines and the last one

abbrev pub first_lines : (cases : ℕ) → List ℕ
first_lines cases = codes "TAP version 13\n1.." ++ decimal cases ++ 10 ∷ []

-- where one case was asked for that isn't there
abbrev pub no_such_case : (cases : ℕ) → List ℕ
no_such_case cases = codes "TAP version 13\n1..0 # SKIP there are " ++ decimal cases ++ codes " cases\n"

abbrev pub skipped_text : (skipped : ℕ) → List ℕ
skipped_text skipped = if skipped == 0 then [] else codes ", " ++ decimal skipped ++ codes " skipped"

abbrev pub counted_text : (good cases : ℕ) → List ℕ
counted_text good cases = codes "# " ++ decimal good ++ codes " of " ++ decimal cases ++ codes " ok"

abbrev pub last_line : (good cases skipped : ℕ) → List ℕ
last_line good cases skipped = counted_text good cases ++ skipped_text skipped ++ 10 ∷ []

-- ---- what a case does

-- behind a title
abbrev pub skip_text : Verdict → List ℕ
skip_text says.Skipped = codes " # SKIP the right message isn't taken either"
skip_text says.NotSeen = codes " # SKIP not seen over TCP"
skip_text says.Unchanged = codes " # SKIP the change gives the right bytes"
skip_text says.TooLong = codes " # SKIP a message is longer than a frame may be"
skip_text verdict = []

-- a number at a line's end
abbrev pub number_end : ℕ → List ℕ
number_end n = decimal n ++ 10 ∷ []

-- the notes on a message where it must stop, and on one that didn't come
abbrev pub lax_front : (event : ℕ) → List ℕ
lax_front event = codes "# too lax: it sent the message of event " ++ decimal event ++ codes ", where it must stop at event "

abbrev pub lax_text : (event stop : ℕ) → List ℕ
lax_text event stop = lax_front event ++ number_end stop

abbrev pub strict_front : (event : ℕ) → List ℕ
strict_front event = codes "# too strict: no message of event " ++ decimal event ++ codes " came, it ended with "

abbrev pub strict_text : (event status : ℕ) → List ℕ
strict_text event status = strict_front event ++ number_end status

-- where something can't be tried
abbrev pub at_event : (event : ℕ) → List ℕ
at_event event = codes " at event " ++ decimal event ++ codes ": "

module _ (p : ProtocolValue) (role : ℕ) where
  -- what is narrated at these places, with commas between them
  abbrev pub further_parts : List Place → List ℕ
  further_parts [] = []
  further_parts (place ∷ places) = codes ", " ++ part_text p role place ++ further_parts places

  abbrev pub parts_text : List Place → List ℕ
  parts_text [] = []
  parts_text (place ∷ places) = part_text p role place ++ further_parts places

  abbrev pub event_text : (event : ℕ) → List ℕ
  event_text event = codes "event " ++ decimal event ++ codes ", from " ++ sender_at p role event ++ codes ": "

  abbrev pub sized_text : (event : ℕ) → List Place → (bytes : ℕ) → List ℕ
  sized_text event places bytes = event_text event ++ parts_text places ++ codes " of " ++ decimal bytes ++ codes " bytes"

  -- how the bytes at a place are changed, which these words say
  abbrev pub changed_text : Place → (words : List ℕ) → List ℕ
  changed_text place words = event_text place.event ++ place_text p role (codes " in ") place ++ codes ", " ++ words

  abbrev pub title_text : Title → List ℕ
  title_text Narrated = codes "all as narrated"
  title_text (Changed place words) = changed_text place words
  title_text (Sized event places bytes) = sized_text event places.items bytes
  title_text (Earlier event) = event_text event ++ codes "the message of an earlier session"

  -- ---- what comes of it

  -- the note on a message that isn't what is due
  abbrev pub wrong_text : (event : ℕ) → List ℕ
  wrong_text event = (codes "# wrong: its message of event " ++ decimal event ++ codes " isn't ") ++ option_map_or (term_text p) (narrated_at p role event) [] ++ 10 ∷ []

  abbrev pub note_text : Verdict → List ℕ
  note_text says.Good = []
  note_text says.Skipped = []
  note_text says.NotSeen = []
  note_text says.Unchanged = []
  note_text says.TooLong = []
  note_text (says.LaxMessage event stop) = lax_text event stop
  note_text (says.LaxUnnarrated stop) = codes "# too lax: it sent a message that isn't narrated, where it must stop at event " ++ decimal stop ++ 10 ∷ []
  note_text (says.LaxEnd stop) = codes "# too lax: it ended with 0, where it must stop at event " ++ decimal stop ++ 10 ∷ []
  note_text (says.StrictMessage event status) = strict_text event status
  note_text (says.StrictUnseen event) = codes "# too strict: no message of event " ++ decimal event ++ codes " came\n"
  note_text (says.StrictEnd status) = codes "# too strict: it ended with " ++ decimal status ++ 10 ∷ []
  note_text (says.Wrong event) = wrong_text event
  note_text says.Unnarrated = codes "# wrong: it sent a message that isn't narrated\n"
  note_text says.Loose = codes "# wrong: after its last message came bytes that are none\n"
  note_text (says.Signal signal) = codes "# ended by signal " ++ decimal signal ++ 10 ∷ []
  note_text says.Silent = codes "# silent for too long\n"
  note_text says.Lost = codes "# its end isn't known\n"

  -- a case's line, and the note behind it
  abbrev pub case_lines : (number : ℕ) → Title → Verdict → List ℕ
  case_lines number title verdict =
      (if is_good verdict then codes "ok " else codes "not ok ") ++ decimal number ++ codes " - " ++ title_text title ++ skip_text verdict ++ 10 ∷ note_text verdict

  -- ---- what the cases show

  abbrev pub other_text : Place → Other → List ℕ
  other_text place Drew = codes "the " ++ part_text p role place ++ codes " that " ++ role_name p role ++ codes " drew"
  other_text place Knows = codes "the " ++ part_text p role place ++ codes " that " ++ role_name p role ++ codes " knows"
  other_text place Came = codes "the other " ++ part_text p role place ++ codes " that came"
  other_text place Makes = codes "what " ++ role_name p role ++ codes " makes itself"

  abbrev pub missing_text : Missing → List ℕ
  missing_text (missing.Comparison place other) = place_text p role (codes " inside ") place ++ codes " isn't compared with " ++ other_text place other
  missing_text (missing.Tag place) = codes "the tag of " ++ place_text p role (codes " in ") place ++ codes " isn't compared"
  missing_text (missing.Literal place) = codes "the literal of " ++ head_text p role place ++ codes " isn't compared"
  missing_text missing.NotMinimal = codes "a length that isn't minimal is taken"
  missing_text missing.BeyondEnd = codes "a length beyond the end is taken"
  missing_text missing.BytesBehind = codes "bytes after the end are taken"
  missing_text missing.Earlier = codes "the message of an earlier session is taken"

  abbrev pub missing_line : Missing → List ℕ
  missing_line m = codes "# missing: " ++ missing_text m ++ 10 ∷ []

  -- what is at a place can't be tried
  abbrev pub not_tried_line : Place → (why : List ℕ) → List ℕ
  not_tried_line place why = codes "# not tried: " ++ place_text p role (codes " in ") place ++ at_event place.event ++ why ++ 10 ∷ []

-- a name that the role drew has the same value in two cases
abbrev pub cases_front : (one : ℕ) → List ℕ
cases_front one = codes " is the same in cases " ++ decimal one ++ codes " and "

abbrev pub cases_text : (one other : ℕ) → List ℕ
cases_text one other = cases_front one ++ number_end other

abbrev pub same_line : ProtocolValue → (name one other : ℕ) → List ℕ
same_line p name one other = codes "# " ++ atom_name p name ++ cases_text one other

-- and that of another name in one
abbrev pub twin_front : ProtocolValue → (other : ℕ) → List ℕ
twin_front p other = codes " is the same as " ++ atom_name p other ++ codes " in case "

abbrev pub twin_text : ProtocolValue → (other case : ℕ) → List ℕ
twin_text p other case = twin_front p other ++ number_end case

abbrev pub twin_line : ProtocolValue → (name other case : ℕ) → List ℕ
twin_line p name other case = codes "# " ++ atom_name p name ++ twin_text p other case
