-- What stands beside one side of one role's child, while that side is lent.
use Rattle.std.specs.Prelude.{ℕ, zero, suc, ◌+◌, ◌==◌, if◌then◌else◌, Bool, true, false, List, [], ◌∷◌, replicate, Option, Some, None}
use Rattle.anb_stage.specs.Children.{Child, written_to_all}

-- a status and one more, or 0 where it is untold
abbrev pub number_of : Option ℕ → ℕ
number_of None = 0
number_of (Some status) = status + 1

abbrev pub number_of_truth : Bool → ℕ
number_of_truth false = 0
number_of_truth true = 1

-- the parts of a child, each as bytes and a number
abbrev pub with_parts : Child → List (Option (List ℕ) × ℕ) → List (Option (List ℕ) × ℕ)
with_parts c others =
    (c.left, c.faults) ∷ (c.written, number_of_truth c.silent) ∷ (c.asked, number_of c.status)
    ∷ (c.taken_at, c.phase) ∷ others

-- those of the children of the roles below a number
unfoldable pub parts_below : ℕ → (ℕ → Child) → List (Option (List ℕ) × ℕ)
parts_below zero children = []
parts_below (suc n) children = with_parts (children n) (parts_below n children)

-- a child without its output, and without its input, and without what is told of its faults
abbrev pub without_output : Child → Child
without_output c = record c { left = None; taken_at = None; faults = 0; silent = false }

abbrev pub without_input : Child → Child
without_input c = record c { written = None; faults = 0; silent = false }

-- the children, with that of one role replaced
abbrev pub replaced : ℕ → (Child → Child) → (ℕ → Child) → ℕ → Child
replaced role f children other = if other == role then f (children other) else children other

-- What a lent side keeps: bytes that are told first, which spawner is lent, and which role, and all
-- that the spawner tells but for that side.
abbrev pub kept_beside : (first : Option (List ℕ)) → (spawner role : ℕ) → (Child → Child)
    → (ℕ → Child) → List (Option (List ℕ) × ℕ)
kept_beside first spawner role f children =
    (first, spawner) ∷ (None, role) ∷ parts_below 32 (replaced role f children)

-- An output tells first as many bytes as are written to all children; an input changes that.
abbrev pub beside_output : (spawner role : ℕ) → (ℕ → Child) → List (Option (List ℕ) × ℕ)
beside_output spawner role children =
    kept_beside (Some (replicate (written_to_all children) 0)) spawner role without_output children

abbrev pub beside_input : (spawner role : ℕ) → (ℕ → Child) → List (Option (List ℕ) × ℕ)
beside_input spawner role children = kept_beside None spawner role without_input children
