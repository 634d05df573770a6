-- The text of a schedule.
use Rattle.std.specs.Prelude.{ℕ, List, length, Bool, not, ◌==◌, ◌||◌, Option, filter, is_none}
use Rattle.std.specs.List.{position_from, slice_split}
use Rattle.std.specs.Str.{bytes_eq}
use Rattle.anb_protocol.specs.Protocols.{ProtocolValue, role_named}

-- a space, a tab, and the bytes 0A and 0D
abbrev pub is_blank : ℕ → Bool
is_blank b = (b == 32) || (b == 9) || (b == 10) || (b == 13)

abbrev pub is_word : List ℕ → Bool
is_word part = not (length part == 0)

-- the parts between blanks, without those that are empty
abbrev pub words_of : List ℕ → List (List ℕ)
words_of text = filter is_word (slice_split is_blank text)

abbrev pub names_none : ProtocolValue → List ℕ → Bool
names_none p name = is_none (role_named p name)
