-- A message at a place of a text.
use Rattle.std.specs.Prelude.{ℕ, ◌+◌, ◌-◌, nat_le, nat_lt, Bool, true, false, ◌&&◌, List, [], ◌∷◌, ◌++◌, length, take, drop, replicate, slice_index, ◌==◌, codes, decimal, if◌then◌else◌}
use Rattle.std.specs.List.{flat_map}
use Rattle.anb_visible.specs.Visible.{visible}
use Rattle.anb_mistakes.specs.Places.{place_at, before_at, line_at}

-- a space below each byte, but for those that go on a character
abbrev pub below : ℕ → List ℕ
below b = if nat_le 128 b && nat_lt b 192 then [] else 32 ∷ []

-- a number, in five columns or as many as it has digits
abbrev pub padded : ℕ → List ℕ
padded n = replicate (5 - length (decimal n)) 32 ++ decimal n

-- as many spaces as it is wide
abbrev pub blank : ℕ → List ℕ
blank n = replicate (length (padded n)) 32

abbrev pub heading : List ℕ → ℕ → ℕ → List ℕ → List ℕ
heading name line column message =
    name ++ (codes ":" ++ (decimal line ++ (codes ":" ++ (decimal column ++ (codes ": " ++ (message ++ codes "\n"))))))

-- how many bytes are left out at the front of a line with so many, where so many stand before the place:
-- a line of more than 120 is shown from 60 before the place on
abbrev pub skipped : (all before : ℕ) → ℕ
skipped all before = if nat_le all 120 then 0 else before - 60

-- where bytes are left out
abbrev pub gap : Bool → List ℕ
gap true = codes ".."
gap false = []

-- the part of a line behind so many bytes
abbrev pub part : ℕ → List ℕ → List ℕ
part from line = gap (nat_lt 0 from) ++ (take 120 (drop from line) ++ gap (nat_lt (from + 120) (length line)))

-- as wide a space as bytes of a line take as they are shown, behind so many that aren't
abbrev pub space : ℕ → List ℕ → List ℕ
space from before = flat_map below (visible (gap (nat_lt 0 from) ++ drop from before))

abbrev pub shown_from : (from line : ℕ) → (before source : List ℕ) → List ℕ
shown_from from line before source =
    padded line ++ (codes " | " ++ (part from source ++ (codes "\n" ++ (blank line ++ (codes " | " ++ (space from before ++ codes "^\n"))))))

-- a line without the carriage return that ends it
abbrev pub unreturned : List ℕ → List ℕ
unreturned line =
    if nat_lt 0 (length line) && slice_index line (length line - 1) == 13
    then take (length line - 1) line else line

-- the source line with its number, and below it a sign behind these bytes of the line
abbrev pub shown : ℕ → List ℕ → List ℕ → List ℕ
shown line before source =
    shown_from (skipped (length (unreturned source)) (length before)) line before (unreturned source)

-- a message at a line and a column of the text, whose offset this is
abbrev pub located_at : List ℕ → List ℕ → ℕ → ℕ × ℕ → List ℕ → List ℕ
located_at name x at place message =
    heading name place.0 place.1 message ++ shown place.0 (before_at x at place.1) (line_at x at place.1)

-- A message on the file of this name, whose text is x, at an offset: where and why, and the source line.
abbrev pub located : List ℕ → List ℕ → ℕ → List ℕ → List ℕ
located name x at message = located_at name x at (place_at x at) message

-- the same, and what would mend it
abbrev pub pointed : List ℕ → List ℕ → ℕ → List ℕ → List ℕ → List ℕ
pointed name x at message mend = located name x at message ++ (mend ++ codes "\n")

-- A message on one line of the file of this name, which has this number, behind so many of its bytes.
abbrev pub pointed_in : (name : List ℕ) → (number : ℕ) → (line : List ℕ) → (before : ℕ) → (message mend : List ℕ) → List ℕ
pointed_in name number line before message mend =
    heading name number (before + 1) message ++ (shown number (take before line) line ++ (mend ++ codes "\n"))
