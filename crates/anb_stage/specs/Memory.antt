-- A spawner in memory: what it holds, and which of its calls fail.
use Rattle.std.specs.Prelude.{ℕ, Bool, false, ◌+◌, ◌<◌, ◌≤◌, IsTrue, List, [], ◌∷◌, ◌++◌, length, drop, replicate, get_or, slice_set, Option, Some}
use Rattle.anb_base.specs.Memory.{raised, fails_after}
use Rattle.anb_base.specs.Moves.{last_count}
use Rattle.anb_stage.specs.Children.{Child, lines}
use Rattle.anb_stage.specs.Words.{asked_by}
use Rattle.anb_stage.specs.declared.words.ChildWords.{ChildWords}

-- a child: what is left of its output, how many bytes had been written to all children when each byte
-- of it was read, what was written to it, what was asked of it, its status, how many bytes can be
-- written to it, and asked of it, in all, its count of faults, whether the last was that it was silent,
-- and its phase
pub record MemoryChild : Type 0 where
  pub left : List ℕ
  pub taken_at : List ℕ
  pub written : List ℕ
  pub asked : List ℕ
  pub status : ℕ
  pub room : ℕ
  pub faults : ℕ
  pub silent : Bool
  pub phase : ℕ

pub record MemorySpawner : Type 0 where
  pub children : List MemoryChild
  -- how many calls came, and the numbers from 1 of those that fail
  pub calls : ℕ
  pub fails : List ℕ
  -- whether calls fail since a child is silent
  pub is_silence : Bool

-- what is there for a role without an output
abbrev pub absent : MemoryChild
absent = record {
  left = [];
  taken_at = [];
  written = [];
  asked = [];
  status = 0;
  room = 0;
  faults = last_count;
  silent = false;
  phase = 0;
}

abbrev pub child_at : MemorySpawner → ℕ → MemoryChild
child_at spawner role = get_or spawner.children role absent

-- all of it is told
abbrev pub told : MemoryChild → Child
told c = record {
  left = Some c.left;
  taken_at = Some c.taken_at;
  written = Some c.written;
  asked = Some c.asked;
  status = Some c.status;
  faults = c.faults;
  silent = c.silent;
  phase = c.phase;
}

-- a child of which nothing was asked
abbrev pub fresh_child : ℕ → List ℕ → ℕ → MemoryChild
fresh_child room output status = record {
  left = output;
  taken_at = [];
  written = [];
  asked = [];
  status = status;
  room = room;
  faults = 0;
  silent = false;
  phase = 0;
}

-- all children
abbrev pub children_of : MemorySpawner → ℕ → Child
children_of spawner role = told (child_at spawner role)

-- one of each output and its status
abbrev pub fresh_children : ℕ → List (List ℕ) → List ℕ → List MemoryChild
fresh_children room [] statuses = []
fresh_children room (output ∷ outputs) [] = []
fresh_children room (output ∷ outputs) (status ∷ statuses) =
    fresh_child room output status ∷ fresh_children room outputs statuses

abbrev pub fresh_spawner : List (List ℕ) → List ℕ → ℕ → List ℕ → MemorySpawner
fresh_spawner outputs statuses room fails = record {
  children = fresh_children room outputs statuses;
  calls = 0;
  fails = fails;
  is_silence = false;
}

-- the number of the next call is one of those that fail
abbrev pub IsDueToFail : MemorySpawner → Type 0
IsDueToFail spawner = IsTrue (fails_after spawner.calls spawner.fails)

-- the role has no output
abbrev pub HasNoOutput : MemorySpawner → ℕ → Type 0
HasNoOutput spawner role = length spawner.children ≤ role

-- bytes are to be written, and none can be
abbrev pub HasNoRoom : MemoryChild → List ℕ → Type 0
HasNoRoom c piece = (0 < length piece) × (c.room ≤ length c.written)

-- what is asked can't be kept whole
abbrev pub HasNoRoomForWords : MemoryChild → Option ℕ → ChildWords → Type 0
HasNoRoomForWords c limit own = c.room < length c.asked + length (lines (asked_by limit own))

-- the spawner after one more call, by which the child of this role became this one
abbrev pub with_child : MemorySpawner → ℕ → MemoryChild → MemorySpawner
with_child spawner role c = record spawner {
  children = slice_set spawner.children role c;
  calls = raised spawner.calls;
}

-- a child after a call that failed, by silence or not
abbrev pub failed : Bool → MemoryChild → MemoryChild
failed silent c = record c { faults = raised c.faults; silent = silent }

-- and that of a role
abbrev pub failed_at : MemorySpawner → ℕ → MemoryChild
failed_at spawner role = failed spawner.is_silence (child_at spawner role)

-- after so many bytes were read while so many were written to all children, after bytes were written,
-- after it was started with this limit and these words, and after it was finished
abbrev pub after_read : MemoryChild → (written n : ℕ) → MemoryChild
after_read c written n = record c {
  left = drop n c.left;
  taken_at = c.taken_at ++ replicate n written;
}

abbrev pub after_write : MemoryChild → List ℕ → MemoryChild
after_write c bytes = record c { written = c.written ++ bytes }

abbrev pub after_start : MemoryChild → Option ℕ → ChildWords → MemoryChild
after_start c limit own = record c { asked = c.asked ++ lines (asked_by limit own); phase = 1 }

abbrev pub after_finish : MemoryChild → MemoryChild
after_finish c = record c { phase = 2 }
