-- All that is tried of a role: the honest attempt, and for each check and each opening of its code a scene with its
-- attempts, or why there is none.
use Rattle.std.specs.Prelude.{◌≡◌, ◌+◌, ◌<◌, ℕ, List, [], ◌∷◌, ◌++◌, ◌||◌, length, map, filter, codes, slice_get, Bool, true, false, Option, Some, None, unwrap_or, IfSome, ◌⊎◌}
use Rattle.std.specs.List.{AllByRecursion, AllZip, flat_map, list_any}
use Rattle.std.specs.Option.{option_map, option_map_or}
use Rattle.anb_term.specs.Tree.{Tree, trees_eqb, trees_of}
use Rattle.anb_term.specs.View.{tree_of}
use Rattle.anb_plays.specs.Honest.{heard}
use Rattle.anb_code.specs.CodeValue.{CodeValue}
use Rattle.anb_code.specs.Meaning.{acts_of}
use Rattle.anb_format.specs.Formats.{FormatValue}
use Rattle.anb_format.specs.declared.pieces.Piece.{Piece}
use Rattle.anb_openings.specs.Openings.{HasOpening, IsOpeningFinding, openings_of, parsed_at}
use Rattle.anb_openings.specs.declared.cases.NoCase.{NoCase}
use Rattle.anb_openings.specs.declared.cases.Obstacle.{Obstacle}
use Rattle.anb_openings.specs.declared.cases.Obstacle.TheVariants.{Earlier, OwnTerm, Later}
use Rattle.anb_openings.specs.declared.cases.OpeningCase.{OpeningCase}
use Rattle.anb_openings.specs.declared.cases.OpeningFinding.{OpeningFinding}
use Rattle.anb_openings.specs.declared.cases.OpeningFinding.TheVariants as opening
use Rattle.anb_protocol.specs.Plans.{plan_of}
use Rattle.anb_protocol.specs.Protocols.{ProtocolValue}
use Rattle.anb_protocol.specs.Texts.{term_text}
use Rattle.anb_protocol.specs.Plays.{events_of}
use Rattle.anb_probe.specs.Cases.{DifferAt}
use Rattle.anb_partner.specs.Plans.{MayStand, Script, said, script_of}
use Rattle.anb_suite.specs.Suites.{checks_of, HasCheck, IsFinding}
use Rattle.anb_suite.specs.declared.reading.Reading.{Reading}
use Rattle.anb_suite.specs.declared.reading.Reading.TheVariants.{Both, First, Second}
use Rattle.anb_suite.specs.declared.cases.Case.{Case}
use Rattle.anb_suite.specs.declared.cases.Finding.{Finding}
use Rattle.anb_suite.specs.declared.cases.Finding.TheVariants as finding
use Rattle.anb_spoil.specs.Rows.{is_default, rows_of}
use Rattle.anb_spoil.specs.Words.{argument_of, change_words, false_tag_words, row_words}
use Rattle.anb_spoil.specs.declared.changes.Change.{Change}
use Rattle.anb_spoil.specs.declared.changes.Change.TheVariants.{LastByte, WithoutLast, FirstByte, ByteMore, ZeroInFront}
use Rattle.anb_spoil.specs.declared.rows.Row.{Row}
use Rattle.anb_spoil.specs.declared.rows.Row.TheVariants.{At, Behind}
use Rattle.anb_spoil.specs.declared.rows.Spoiling.{Spoiling}
use Rattle.anb_spoil.specs.declared.rows.Spoiling.TheVariants as spoiling
use Rattle.anb_spoil.specs.declared.wrongs.Wrong.{Wrong}
use Rattle.anb_spoil.specs.declared.wrongs.Wrong.TheVariants as wrong
use Rattle.anb_verdict.specs.Others.{other_than}
use Rattle.anb_verdict.specs.Places.{narrated_at, operand, part_at, place_in_arrivals, place_value}
use Rattle.anb_verdict.specs.declared.place.Place as verdict
use Rattle.anb_verdict.specs.declared.missing.Missing.{Missing}
use Rattle.anb_verdict.specs.declared.missing.Missing.TheVariants.{Comparison, Tag, Literal, NotMinimal, BeyondEnd, BytesBehind}
use Rattle.anb_verdict.specs.declared.missing.Other.{Other}
use Rattle.anb_verdict.specs.declared.missing.Other.TheVariants.{Makes}
use Rattle.anb_verdict.specs.declared.title.Title.{Title}
use Rattle.anb_verdict.specs.declared.title.Title.TheVariants.{Narrated, Changed}
use Rattle.anb_attempts.specs.Inner.{AreWithin}
use Rattle.anb_attempts.specs.Retagging.{RetaggingValue, retagging_at}
use Rattle.anb_attempts.specs.declared.attempts.TheConstants.{MOST}
use Rattle.anb_attempts.specs.declared.attempts.Attempt.{Attempt}
use Rattle.anb_attempts.specs.declared.attempts.Gap.{Gap}
use Rattle.anb_attempts.specs.declared.attempts.Scene.{Scene}
use Rattle.anb_attempts.specs.declared.attempts.Suite.{Suite}
use Rattle.anb_attempts.specs.declared.attempts.Why.{Why}
use Rattle.anb_attempts.specs.declared.attempts.Why.TheVariants.{Large, Before, Own, After}
use Rattle.anb_attempts.specs.declared.points.Point.{Point}
use Rattle.anb_attempts.specs.declared.points.Point.TheVariants.{Check, Opening}

-- ---- scenes

-- Only formats and bodies of seals stand above the spare name, at some place of both sides: so these differ in bytes
-- for every wrong value that isn't the right one, whatever the values and draws are.
abbrev pub DifferInPlace : (spare : ℕ) → (wrong one other : Tree) → Type 0
DifferInPlace spare wrong one other = (place : List ℕ) × DifferAt spare wrong place one other

abbrev pub SidesDiffer : (spare : ℕ) → Case → Type 0
SidesDiffer spare case = DifferInPlace spare (tree_of case.wrong) (tree_of case.one) (tree_of case.other)

-- where it stops is known exactly where they do, and is where the case says
pub record IsDue (spare : ℕ) (case : Case) (due : Option ℕ) : Type 0 where
  pub known : (event : ℕ) → due ≡ Some event → (event ≡ case.event) × SidesDiffer spare case
  pub all : SidesDiffer spare case → due ≡ Some case.event

-- the scene of a case
pub record IsSceneOf (spare : ℕ) (case : Case) (scene : Scene) : Type 0 where
  pub arrivals : scene.arrivals ≡ case.arrivals
  pub messages : scene.messages ≡ case.messages
  pub right : scene.right ≡ Some case.wrong
  pub due : IsDue spare case scene.due

-- That of the case of an opening. Bytes that are none of a format are never parsed, so where a format is parsed it is known
-- that the role stops.
pub record IsSceneOfOpening (parsed : Option ℕ) (case : OpeningCase) (scene : Scene) : Type 0 where
  pub arrivals : scene.arrivals ≡ case.arrivals
  pub messages : scene.messages ≡ case.messages
  pub right : scene.right ≡ Some case.opened
  pub due : scene.due ≡ option_map (λ format. case.event) parsed

-- And that of the same case where what is opened gets a false tag, which is made of this value. It is known that the role
-- stops, since what has a false tag is never opened.
pub record IsSceneOfTag (case : OpeningCase) (pair : Tree) (scene : Scene) : Type 0 where
  pub arrivals : scene.arrivals ≡ case.arrivals
  pub messages : scene.messages ≡ case.messages
  pub right : option_map tree_of scene.right ≡ Some pair
  pub due : scene.due ≡ Some case.event

-- what the role's partner does in one
abbrev pub script_in : ProtocolValue → (role : ℕ) → Scene → Script
script_in p role s = script_of p role (map tree_of s.arrivals.items) (map tree_of s.messages.items) (option_map tree_of s.right)

-- the honest one
pub record IsNarrated (p : ProtocolValue) (role : ℕ) (scene : Scene) : Type 0 where
  pub arrivals : map tree_of scene.arrivals.items ≡ heard (events_of p role)
  pub messages : map tree_of scene.messages.items ≡ said (events_of p role)
  pub right : scene.right ≡ None
  pub due : scene.due ≡ None

-- its terms may stand in a partner's plan
pub record SceneMayStand (p : ProtocolValue) (scene : Scene) : Type 0 where
  pub arrivals : AllByRecursion (MayStand p) (map tree_of scene.arrivals.items)
  pub messages : AllByRecursion (MayStand p) (map tree_of scene.messages.items)
  pub right : IfSome (option_map tree_of scene.right) (MayStand p)

-- and so may those of a case
pub record TermsMayStand (p : ProtocolValue) (heard said : List Tree) (right : Tree) : Type 0 where
  pub arrivals : AllByRecursion (MayStand p) heard
  pub messages : AllByRecursion (MayStand p) said
  pub wrong : MayStand p right

abbrev pub CaseMayStand : ProtocolValue → Case → Type 0
CaseMayStand p case = TermsMayStand p (map tree_of case.arrivals.items) (map tree_of case.messages.items) (tree_of case.wrong)

abbrev pub OpeningMayStand : ProtocolValue → OpeningCase → Type 0
OpeningMayStand p case = TermsMayStand p (map tree_of case.arrivals.items) (map tree_of case.messages.items) (tree_of case.opened)

abbrev pub TagMayStand : ProtocolValue → OpeningCase → (pair : Tree) → Type 0
TagMayStand p case pair = TermsMayStand p (map tree_of case.arrivals.items) (map tree_of case.messages.items) pair

-- ---- attempts

-- of each value, by default and where all are asked for
abbrev pub changes_tried : (all : Bool) → List Change
changes_tried false = LastByte ∷ WithoutLast ∷ []
changes_tried true = LastByte ∷ WithoutLast ∷ FirstByte ∷ ByteMore ∷ ZeroInFront ∷ []

abbrev pub Place : Type 0
Place = ℕ × List ℕ

-- where the spare name is in what arrives, or this event where it isn't there
abbrev pub place_at : ProtocolValue → (role : ℕ) → (arrivals : List Tree) → (event : ℕ) → Place
place_at p role arrivals event = unwrap_or (place_in_arrivals p role arrivals (length p.atoms)) (event, [])

abbrev pub case_place : ProtocolValue → (role : ℕ) → Case → Place
case_place p role case = place_at p role (map tree_of case.arrivals.items) case.event

-- what is at a place is changed, as these words say
abbrev pub SaysChanged : Place → (words : List ℕ) → Title → Type 0
SaysChanged at words (Changed place w) = (place_value place ≡ at) × (w ≡ words)
SaysChanged at words title = ⊥

-- what is narrated at a place must be compared with this
abbrev pub other_for : ProtocolValue → (role : ℕ) → Place → Other
other_for p role at = option_map_or (other_than (plan_of p role)) (option_map_or (λ t. part_at t at.1) (narrated_at p role at.0) None) Makes

-- it isn't compared so
abbrev pub LacksComparison : ProtocolValue → (role : ℕ) → Place → Option Missing → Type 0
LacksComparison p role at (Some (Comparison place other)) = (place_value place ≡ at) × (other ≡ other_for p role at)
LacksComparison p role at missing = ⊥

-- how a report tells a program that reads one of the two values for the other
abbrev pub reading_words : Reading → List ℕ
reading_words Both = []
reading_words First = codes ", one value used for both"
reading_words Second = codes ", one value used for both"

-- An attempt that changes the value at a place. Its title is that of a value of more than one byte.
pub record IsAttempt (p : ProtocolValue) (role scene : ℕ) (at : Place) (reading : Reading) (change : Change) (attempt : Attempt) : Type 0 where
  pub scene_is : attempt.scene ≡ scene
  pub wrong_is : attempt.wrong ≡ wrong.Changed change
  pub title : SaysChanged at (change_words change 2 ++ reading_words reading) attempt.title
  pub lacks : LacksComparison p role at attempt.lacks

-- the honest one
pub record IsHonestAttempt (attempt : Attempt) : Type 0 where
  pub scene : attempt.scene ≡ 0
  pub title : attempt.title ≡ Narrated
  pub lacks : attempt.lacks ≡ None

-- it is the first one
abbrev pub BeginsHonestly : List Attempt → Type 0
BeginsHonestly [] = ⊥
BeginsHonestly (attempt ∷ attempts) = IsHonestAttempt attempt

-- why something isn't tried, as a report has it
abbrev pub why_words : Why → List ℕ
why_words Large = codes "a term is too large"
why_words Before = codes "a check before it fails then"
why_words Own = codes "the role makes it itself"
why_words After = codes "a check behind it fails then"

-- ---- attempts at an opening

-- In what ways bytes of a format are made wrong: by default one length that isn't minimal is enough; and sealed bytes, where
-- the protocol has no format that their false tag could be made with.
abbrev pub is_tried : (all : Bool) → List Piece → Row → Bool
is_tried all pieces row = all || is_default pieces row

abbrev pub format_ways : (all : Bool) → (format : ℕ) → List Piece → List Wrong
format_ways all format pieces = map (wrong.Spoilt format) (filter (is_tried all pieces) (rows_of pieces))

abbrev pub tag_ways : (all : Bool) → List Wrong
tag_ways false = wrong.Changed LastByte ∷ []
tag_ways true = wrong.Changed LastByte ∷ wrong.Changed FirstByte ∷ []

-- What a program lacks that takes a piece that is written so. Of a sign beside a field and of capital digits the title says it.
abbrev pub lack_of_piece : Spoiling → verdict.Place → Option Missing
lack_of_piece spoiling.OtherByte place = Some (Literal place)
lack_of_piece spoiling.LongLength place = Some NotMinimal
lack_of_piece spoiling.LeadingZero place = Some NotMinimal
lack_of_piece spoiling.LengthBeyond place = Some BeyondEnd
lack_of_piece spoiling.Semicolon place = None
lack_of_piece spoiling.Dot place = None
lack_of_piece spoiling.Comma place = None
lack_of_piece spoiling.Capitals place = None

-- and one that takes what is made wrong so
abbrev pub lack_by : Wrong → verdict.Place → Option Missing
lack_by (wrong.Changed change) place = Some (Tag place)
lack_by (wrong.Spoilt format (At i piece)) place = lack_of_piece piece place
lack_by (wrong.Spoilt format Behind) place = Some BytesBehind
lack_by (wrong.FalseTag suite way format) place = Some (Tag place)

pub record Lacks (at : Place) (way : Wrong) (missing : Option Missing) : Type 0 where
  pub place : verdict.Place
  pub at_is : place_value place ≡ at
  pub is : missing ≡ lack_by way place

-- by its instruction: it parses the format at this place, or takes off a tag
abbrev pub ways_of : ProtocolValue → (all : Bool) → (parsed : Option ℕ) → List Wrong
ways_of p all None = tag_ways all
ways_of p all (Some format) = option_map_or (λ (f : FormatValue). format_ways all format f.pieces) (slice_get p.formats format) []

module _ (p : ProtocolValue) (role : ℕ) where
  -- the text of an operand of what is narrated at a place
  abbrev pub operand_at : Place → (i : ℕ) → List ℕ
  operand_at at i = option_map_or (λ t. option_map_or (term_text p) (operand i t) []) (option_map_or (λ t. part_at t at.1) (narrated_at p role at.0) None) []

  -- how the report names what is made wrong there
  abbrev pub name_at : Place → List Piece → Row → List ℕ
  name_at at pieces row = option_map_or (operand_at at) (argument_of pieces row) []

  abbrev pub way_words : Place → Wrong → List ℕ
  way_words at (wrong.Changed change) = change_words change 2
  way_words at (wrong.Spoilt format row) =
      option_map_or (λ (f : FormatValue). row_words f.pieces row (name_at at f.pieces row)) (slice_get p.formats format) []
  way_words at (wrong.FalseTag suite way format) = false_tag_words

  -- An attempt that makes what is opened at a place wrong in a way.
  pub record IsOpeningAttempt (scene : ℕ) (at : Place) (way : Wrong) (attempt : Attempt) : Type 0 where
    pub scene_is : attempt.scene ≡ scene
    pub wrong_is : attempt.wrong ≡ way
    pub title : SaysChanged at (way_words at way) attempt.title
    pub lacks : Lacks at way attempt.lacks

-- ---- what comes of one check, and of one opening

pub record PartValue : Type 0 where
  pub scenes : List Scene
  pub attempts : List Attempt
  pub gaps : List Gap

abbrev pub nothing : PartValue
nothing = record { scenes = []; attempts = []; gaps = [] }

-- one part, and then another
pub record IsJoined (first second both : PartValue) : Type 0 where
  pub scenes : both.scenes ≡ first.scenes ++ second.scenes
  pub attempts : both.attempts ≡ first.attempts ++ second.attempts
  pub gaps : both.gaps ≡ first.gaps ++ second.gaps

-- a scene has these arrivals, and one of these has
abbrev pub hears : (arrivals : List Tree) → Scene → Bool
hears arrivals scene = trees_eqb (trees_of (map tree_of scene.arrivals.items)) (trees_of arrivals)

abbrev pub is_heard : (arrivals : List Tree) → List Scene → Bool
is_heard arrivals scenes = list_any (hears arrivals) scenes

-- one gap
pub record IsGap (at : Place) (why : Why) (part : PartValue) : Type 0 where
  pub gap : Gap
  pub place : place_value gap.place ≡ at
  pub why_is : gap.why ≡ why
  pub scenes : part.scenes ≡ []
  pub attempts : part.attempts ≡ []
  pub gaps : part.gaps ≡ gap ∷ []

-- why there is no case
abbrev pub why_not : Obstacle → Why
why_not (Earlier instruction) = Before
why_not OwnTerm = Own
why_not (Later instruction) = After

-- the instructions of a code at which something is tried: its checks, and then its openings
abbrev pub points_of : CodeValue → List Point
points_of code = map Check (checks_of (acts_of code)) ++ map Opening (openings_of (acts_of code))

abbrev pub HasPoint : CodeValue → Point → Type 0
HasPoint code (Check check) = HasCheck code check
HasPoint code (Opening instruction) = HasOpening code instruction

module _ {X : Type 0} (Is : ℕ → X → PartValue → Type 0) where
  -- of each in order there is a part, where so many scenes stand before
  abbrev pub AreParts : (number : ℕ) → List X → List PartValue → Type 0
  AreParts number [] [] = Unit {0}
  AreParts number [] (part ∷ parts) = ⊥
  AreParts number (x ∷ xs) [] = ⊥
  AreParts number (x ∷ xs) (part ∷ parts) = Is number x part × AreParts (number + length part.scenes) xs parts

  -- one part of all of them
  pub record ComesOf (number : ℕ) (xs : List X) (part : PartValue) : Type 0 where
    pub parts : List PartValue
    pub are : AreParts number xs parts
    pub scenes : part.scenes ≡ flat_map (λ (q : PartValue). q.scenes) parts
    pub attempts : part.attempts ≡ flat_map (λ (q : PartValue). q.attempts) parts
    pub gaps : part.gaps ≡ flat_map (λ (q : PartValue). q.gaps) parts

module _ (p : ProtocolValue) (role : ℕ) where
  abbrev pub opening_place : OpeningCase → Place
  opening_place case = place_at p role (map tree_of case.arrivals.items) case.event

  abbrev pub obstacle_place : NoCase → Place
  obstacle_place none = place_at p role (map tree_of none.arrivals.items) none.event

  -- a scene with this number, and an attempt for each change
  pub record IsTried (reading : Reading) (changes : List Change) (number : ℕ) (case : Case) (part : PartValue) : Type 0 where
    pub stands : CaseMayStand p case
    pub scene : Scene
    pub is : IsSceneOf (length p.atoms) case scene
    pub scenes : part.scenes ≡ scene ∷ []
    pub attempts : AllZip (IsAttempt p role number (case_place p role case) reading) changes part.attempts
    pub gaps : part.gaps ≡ []

  -- or a gap, since a term of it is too large
  abbrev pub IsPartOfCase : Reading → List Change → (number : ℕ) → Case → PartValue → Type 0
  IsPartOfCase reading changes number case part = IsTried reading changes number case part ⊎ ((CaseMayStand p case → ⊥) × IsGap (case_place p role case) Large part)

  -- of a case, and then of those for the parts of what it makes wrong, in scenes with numbers from here
  pub record IsPartOfCases (changes : List Change) (number : ℕ) (case : Case) (part : PartValue) : Type 0 where
    pub within : List Case
    pub are_within : AreWithin p (length p.atoms) case within
    pub comes : ComesOf (IsPartOfCase Both changes) number (case ∷ within) part

  -- and nothing where the others imply the check
  abbrev pub IsPartOf : List Change → (number : ℕ) → Finding → PartValue → Type 0
  IsPartOf changes number (finding.Case case) part = IsPartOfCases changes number case part
  IsPartOf changes number finding.Implied part = part ≡ nothing

  -- of a check of the code as it is
  abbrev pub IsPartOfOwn : CodeValue → List Change → (number check : ℕ) → PartValue → Type 0
  IsPartOfOwn code changes number check part = (found : Finding) × IsFinding p role code Both check found × IsPartOf changes number found part

  -- of the case of a code that reads one of the two values for the other: nothing where what arrives is tried before, and
  -- else a scene with one attempt
  pub record IsPartOfNew (reading : Reading) (before : PartValue) (number : ℕ) (case : Case) (part : PartValue) : Type 0 where
    pub tried : is_heard (map tree_of case.arrivals.items) before.scenes ≡ true → part ≡ nothing
    pub new : is_heard (map tree_of case.arrivals.items) before.scenes ≡ false → IsPartOfCase reading (LastByte ∷ []) number case part

  abbrev pub IsPartOfOther : Reading → (before : PartValue) → (number : ℕ) → Finding → PartValue → Type 0
  IsPartOfOther reading before number (finding.Case case) part = IsPartOfNew reading before number case part
  IsPartOfOther reading before number finding.Implied part = part ≡ nothing

  abbrev pub IsPartOfReading : CodeValue → Reading → (before : PartValue) → (number check : ℕ) → PartValue → Type 0
  IsPartOfReading code reading before number check part = (found : Finding) × IsFinding p role code reading check found × IsPartOfOther reading before number found part

  -- Of a check: what comes of the code that reads both of its values behind it; of that which reads the first for the
  -- second; and of that which reads the second for the first.
  pub record IsPartOfCheck (code : CodeValue) (changes : List Change) (number check : ℕ) (part : PartValue) : Type 0 where
    pub own : PartValue
    pub own_is : IsPartOfOwn code changes number check own
    pub first : PartValue
    pub first_is : IsPartOfReading code First own (number + length own.scenes) check first
    pub both : PartValue
    pub both_are : IsJoined own first both
    pub second : PartValue
    pub second_is : IsPartOfReading code Second both (number + length both.scenes) check second
    pub all : IsJoined both second part

  -- of the case of an opening: a scene with this number, and an attempt for each way to make it wrong
  pub record IsOpened (all : Bool) (parsed : Option ℕ) (number : ℕ) (case : OpeningCase) (part : PartValue) : Type 0 where
    pub stands : OpeningMayStand p case
    pub scene : Scene
    pub is : IsSceneOfOpening parsed case scene
    pub scenes : part.scenes ≡ scene ∷ []
    pub attempts : AllZip (IsOpeningAttempt p role number (opening_place case)) (ways_of p all parsed) part.attempts
    pub gaps : part.gaps ≡ []

  abbrev pub IsPartOfOpened : (all : Bool) → (parsed : Option ℕ) → (number : ℕ) → OpeningCase → PartValue → Type 0
  IsPartOfOpened all parsed number case part =
      IsOpened all parsed number case part ⊎ ((OpeningMayStand p case → ⊥) × IsGap (opening_place case) Large part)

  -- of the same with a false tag: a scene with this number, and one attempt
  pub record IsRetagged (tag : RetaggingValue) (number : ℕ) (case : OpeningCase) (part : PartValue) : Type 0 where
    pub stands : TagMayStand p case tag.pair
    pub scene : Scene
    pub is : IsSceneOfTag case tag.pair scene
    pub attempt : Attempt
    pub falsely : IsOpeningAttempt p role number (opening_place case) tag.way attempt
    pub scenes : part.scenes ≡ scene ∷ []
    pub attempts : part.attempts ≡ attempt ∷ []
    pub gaps : part.gaps ≡ []

  abbrev pub IsPartOfTag : RetaggingValue → (number : ℕ) → OpeningCase → PartValue → Type 0
  IsPartOfTag tag number case part =
      IsRetagged tag number case part ⊎ ((TagMayStand p case tag.pair → ⊥) × IsGap (opening_place case) Large part)

  -- a false tag where there is one, and else the other ways
  abbrev pub IsPartOfTried : (all : Bool) → (parsed : Option ℕ) → Option RetaggingValue → (number : ℕ) → OpeningCase → PartValue → Type 0
  IsPartOfTried all parsed None number case part = IsPartOfOpened all parsed number case part
  IsPartOfTried all parsed (Some tag) number case part = IsPartOfTag tag number case part

  -- and a gap where there is no case
  abbrev pub IsPartOfFound : (all : Bool) → (parsed : Option ℕ) → (number : ℕ) → OpeningFinding → PartValue → Type 0
  IsPartOfFound all parsed number (opening.Case case) part = IsPartOfTried all parsed (retagging_at p parsed (tree_of case.opened)) number case part
  IsPartOfFound all parsed number (opening.NoCase none) part = IsGap (obstacle_place none) (why_not none.why) part

  abbrev pub IsPartOfOpening : CodeValue → (all : Bool) → (number instruction : ℕ) → PartValue → Type 0
  IsPartOfOpening code all number instruction part =
      (found : OpeningFinding) × IsOpeningFinding p role code instruction found × IsPartOfFound all (parsed_at code instruction) number found part

  -- of either
  abbrev pub IsPartOfPoint : CodeValue → (all : Bool) → (number : ℕ) → Point → PartValue → Type 0
  IsPartOfPoint code all number (Check check) part = IsPartOfCheck code (changes_tried all) number check part
  IsPartOfPoint code all number (Opening instruction) part = IsPartOfOpening code all number instruction part

-- ---- what comes of all

module _ {X : Type 0} (Is : ℕ → X → PartValue → Type 0) where
  -- these are added to what was there before
  pub record HasAdded (xs : List X) (old new : Suite) : Type 0 where
    pub parts : List PartValue
    pub are : AreParts Is (length old.scenes.items) xs parts
    pub scenes : new.scenes.items ≡ old.scenes.items ++ flat_map (λ (part : PartValue). part.scenes) parts
    pub attempts : new.attempts.items ≡ old.attempts.items ++ flat_map (λ (part : PartValue). part.attempts) parts
    pub gaps : new.gaps.items ≡ old.gaps.items ++ flat_map (λ (part : PartValue). part.gaps) parts

  -- the attempts of the next one would be too many
  pub record IsFull (left : List X) (suite : Suite) : Type 0 where
    pub next : X
    pub behind : List X
    pub left_is : left ≡ next ∷ behind
    pub part : PartValue
    pub is : Is (length suite.scenes.items) next part
    pub many : MOST < length suite.attempts.items + length part.attempts

  -- All are added in order; or those before the first one whose attempts would be too many.
  pub record Covers (xs : List X) (old new : Suite) : Type 0 where
    pub tried : List X
    pub left : List X
    pub all : xs ≡ tried ++ left
    pub added : HasAdded tried old new
    pub whole : new.more ≡ false → left ≡ []
    pub full : new.more ≡ true → IsFull left new

-- the honest attempt alone
pub record IsBegun (p : ProtocolValue) (role : ℕ) (suite : Suite) : Type 0 where
  pub scene : Scene
  pub narrated : IsNarrated p role scene
  pub attempt : Attempt
  pub honest : IsHonestAttempt attempt
  pub scenes : suite.scenes.items ≡ scene ∷ []
  pub attempts : suite.attempts.items ≡ attempt ∷ []
  pub gaps : suite.gaps.items ≡ []
  pub more : suite.more ≡ false

-- the honest attempt, and then what comes of each check and of each opening of the code, in order
pub record IsSuite (p : ProtocolValue) (role : ℕ) (code : CodeValue) (all : Bool) (suite : Suite) : Type 0 where
  pub begun : Suite
  pub begins : IsBegun p role begun
  pub covers : Covers (IsPartOfPoint p role code all) (points_of code) begun suite
