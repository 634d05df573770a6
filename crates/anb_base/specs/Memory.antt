-- Wires and shelves in memory: what they hold, and which of their calls fail.
use Rattle.std.specs.Prelude.{◌≡◌, ℕ, ◌+◌, ◌==◌, ◌≢◌, ◌<◌, ◌≤◌, ◌⊎◌, Bool, IsTrue, List, [], ◌++◌, length, drop, min, replicate, position, slice_get, slice_index, slice_set, AllPairs, Option, Some, None, option_and_then}
use Rattle.std.specs.List.{list_any}
use Rattle.std.specs.Str.{bytes_eq}
use Rattle.std.specs.Option.{option_map}
use Rattle.anb_base.specs.Moves.{last_count}

-- a count after one more, which stays at its last value
abbrev pub raised : ℕ → ℕ
raised count = min (count + 1) last_count

-- whether the call after so many fails
abbrev pub fails_after : ℕ → List ℕ → Bool
fails_after calls fails = list_any (λ number. number == raised calls) fails

pub record MemoryWire : Type 0 where
  -- the bytes that can still be read, and those that were written and reached
  pub left : List ℕ
  pub written : List ℕ
  pub reached : List ℕ
  -- for each byte that was read, how many had been written by then
  pub taken_at : List ℕ
  -- how many bytes a call moves at most, and how many can be written, and reached, in all
  pub piece : ℕ
  pub room : ℕ
  -- how many calls came, and the numbers from 1 of those that fail
  pub calls : ℕ
  pub fails : List ℕ
  pub read_faults : ℕ
  pub write_faults : ℕ
  pub reach_faults : ℕ

-- the wire after one more call
abbrev pub called : MemoryWire → MemoryWire
called wire = record wire { calls = raised wire.calls }

-- a wire on which nothing was read, written or reached
abbrev pub fresh_wire : List ℕ → ℕ → ℕ → List ℕ → MemoryWire
fresh_wire input piece room fails = record {
  left = input;
  written = [];
  reached = [];
  taken_at = [];
  piece = piece;
  room = room;
  calls = 0;
  fails = fails;
  read_faults = 0;
  write_faults = 0;
  reach_faults = 0;
}

-- the number of the next call is one of those that fail
abbrev pub IsDueToFail : MemoryWire → Type 0
IsDueToFail wire = IsTrue (fails_after wire.calls wire.fails)

-- bytes are to be written, and none can be
abbrev pub HasNoRoom : MemoryWire → List ℕ → Type 0
HasNoRoom wire piece = (0 < length piece) × (wire.room ≤ length wire.written)

-- the line can't be reached whole
abbrev pub HasNoRoomForLine : MemoryWire → List ℕ → Type 0
HasNoRoomForLine wire line = wire.room < length wire.reached + length line

-- the wire after a call that failed
abbrev pub read_failed : MemoryWire → MemoryWire
read_failed wire = record (called wire) { read_faults = raised wire.read_faults }

abbrev pub write_failed : MemoryWire → MemoryWire
write_failed wire = record (called wire) { write_faults = raised wire.write_faults }

abbrev pub reach_failed : MemoryWire → MemoryWire
reach_failed wire = record (called wire) { reach_faults = raised wire.reach_faults }

-- the wire after so many bytes were read, and after bytes were written, and a line reached
abbrev pub after_read : MemoryWire → ℕ → MemoryWire
after_read wire n = record (called wire) {
  left = drop n wire.left;
  taken_at = wire.taken_at ++ replicate n (length wire.written);
}

abbrev pub after_write : MemoryWire → List ℕ → MemoryWire
after_write wire bytes = record (called wire) { written = wire.written ++ bytes }

abbrev pub after_reach : MemoryWire → List ℕ → MemoryWire
after_reach wire line = record (called wire) { reached = wire.reached ++ line }

pub record MemoryShelf : Type 0 where
  -- names and contents, and the faults of each
  pub files : List (List ℕ × List ℕ)
  pub faults : List ℕ
  pub calls : ℕ
  pub fails : List ℕ

-- a shelf from which nothing was fetched
abbrev pub fresh_shelf : List (List ℕ × List ℕ) → List ℕ → MemoryShelf
fresh_shelf files fails = record {
  files = files;
  faults = replicate (length files) 0;
  calls = 0;
  fails = fails;
}

-- the shelf after one more call
abbrev pub fetched : MemoryShelf → MemoryShelf
fetched shelf = record shelf { calls = raised shelf.calls }

-- no two files have one name
abbrev pub NamesDiffer : List (List ℕ × List ℕ) → Type 0
NamesDiffer files = AllPairs (λ (one other : List ℕ × List ℕ). one.0 ≢ other.0) files

-- where the file of this name stands
abbrev pub place_among : List (List ℕ × List ℕ) → List ℕ → Option ℕ
place_among files name = position (λ (file : List ℕ × List ℕ). bytes_eq file.0 name) files

abbrev pub place_of : MemoryShelf → List ℕ → Option ℕ
place_of shelf name = place_among shelf.files name

abbrev pub content_at : MemoryShelf → ℕ → Option (List ℕ)
content_at shelf place =
    option_map (λ (file : List ℕ × List ℕ). file.1) (slice_get shelf.files place)

abbrev pub content_of : MemoryShelf → List ℕ → Option (List ℕ)
content_of shelf name = option_and_then (content_at shelf) (place_of shelf name)

-- the count of faults of a place, which for an absent name stands at the last value
abbrev pub faults_at : MemoryShelf → Option ℕ → ℕ
faults_at shelf None = last_count
faults_at shelf (Some place) = slice_index shelf.faults place

abbrev pub faults_of : MemoryShelf → List ℕ → ℕ
faults_of shelf name = faults_at shelf (place_of shelf name)

-- the next fetch of this name fails: there is no file, or its number is one of those that fail
abbrev pub FetchFails : MemoryShelf → List ℕ → Type 0
FetchFails shelf name =
    (place_of shelf name ≡ None) ⊎ IsTrue (fails_after shelf.calls shelf.fails)

-- the shelf with one more fault of a place
abbrev pub failed_at : MemoryShelf → Option ℕ → MemoryShelf
failed_at shelf None = shelf
failed_at shelf (Some place) = record shelf {
  faults = slice_set shelf.faults place (raised (slice_index shelf.faults place));
}

-- the shelf after a fetch of this name that failed
abbrev pub failed_for : MemoryShelf → List ℕ → MemoryShelf
failed_for shelf name = failed_at (fetched shelf) (place_of shelf name)
