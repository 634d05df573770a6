-- What a border found, on which the next one builds.
use Rattle.std.specs.Prelude.{◌≡◌, ℕ, ◌<◌, ◌≤◌, List, length, take, Bool, true, false, Option, Some, slice_get, if◌then◌else◌, ◌⊎◌}
use Rattle.std.specs.List.{list_all}
use Rattle.anb_term.specs.Operator.{keys, undoable}
use Rattle.anb_term.specs.Tree.{Tree, leaf, node, list_of}
use Rattle.anb_intern.specs.declared.node.NodeId.{NodeId}
use Rattle.anb_intern.specs.Nodes.{AreUnder}
use Rattle.anb_plays.specs.Codes.{Work}
use Rattle.anb_certify.specs.declared.progress.Progress.{Progress}
use Rattle.anb_certify.specs.declared.table.Table.{Table}
use Rattle.anb_reason.specs.Decided.{composes}
use Rattle.anb_certify.specs.Numbered.{did_in, terms_in, AreBelow, AreSeen, AreSettled, IsKnown}

-- a term that is to be built or undone, where these are there: the operands of a hash or mac compose, or the keys of another
abbrev pub wanted_test : List Tree → Tree → Bool
wanted_test ts (leaf n) = false
wanted_test ts (node o us) = if undoable o then list_all (composes ts) (take (keys o) (list_of us)) else list_all (composes ts) (list_of us)

-- flags that are set only for classes that are known
abbrev pub HaveKnown : List (ℕ × Work) → List ℕ → List Bool → Type 0
HaveKnown did names flags = (c : ℕ) → slice_get flags c ≡ Some true → IsKnown did names c

-- a register is known, or an atom's, or listed
abbrev pub IsCovered : List Tree → List Bool → List ℕ → ℕ → Type 0
IsCovered ts known pending f = (slice_get known f ≡ Some true) ⊎ (((m : ℕ) × (slice_get ts f ≡ Some (leaf m))) ⊎ ((k : ℕ) × (slice_get pending k ≡ Some f)))

-- and so is each that is the first of its term
abbrev pub AreCovered : List Tree → List ℕ → List Bool → List ℕ → Type 0
AreCovered ts firsts known pending = (f : ℕ) → slice_get firsts f ≡ Some f → IsCovered ts known pending f

-- all flags are set
abbrev pub AreSet : List Bool → Type 0
AreSet flags = (i : ℕ) (b : Bool) → slice_get flags i ≡ Some b → b ≡ true

-- none of the listed registers' terms is to be built or undone
abbrev pub AreQuiet : List Tree → List ℕ → Type 0
AreQuiet ts pending = (k f : ℕ) (t : Tree) → slice_get pending k ≡ Some f → slice_get ts f ≡ Some t → wanted_test ts t ≡ false

-- there are more places, and nothing stands in them
pub record HasRoom (old new : List (Option ℕ)) : Type 0 where
  pub kept : (n : ℕ) (o : Option ℕ) → slice_get old n ≡ Some o → slice_get new n ≡ Some o
  pub only : (n f : ℕ) → slice_get new n ≡ Some (Some f) → slice_get old n ≡ Some (Some f)

-- what was found of the first registers
pub record ProgressValue : Type 0 where
  pub seen : List (Option ℕ)
  pub firsts : List ℕ
  pub flags : List Bool
  pub known : List Bool
  pub pending : List ℕ

abbrev pub found_in : Progress → ProgressValue
found_in p = record { seen = p.seen.items; firsts = p.firsts.items; flags = p.flags.items; known = p.known.items; pending = p.pending.items }

-- it is right for registers with these numbers and terms, after this work
pub record HasFound (ids : List NodeId) (ts : List Tree) (did : List (ℕ × Work)) (v : ProgressValue) : Type 0 where
  pub few : length v.firsts ≤ length ids
  pub flags_long : length v.flags ≡ length v.firsts
  pub known_long : length v.known ≡ length v.firsts
  pub under : (i : ℕ) (id : NodeId) → i < length v.firsts → slice_get ids i ≡ Some id → id.0 < length v.seen
  pub seen : AreSeen ids (length v.firsts) v.seen v.firsts
  pub settled : AreSettled did v.firsts v.flags
  pub known : HaveKnown did v.firsts v.known
  pub covered : AreCovered ts v.firsts v.known v.pending
  pub below : AreBelow (length v.firsts) v.pending

-- and each of them is tied to the first of its term
abbrev pub IsProgress : List NodeId → List Tree → List (ℕ × Work) → ProgressValue → Type 0
IsProgress ids ts did v = HasFound ids ts did v × AreSet v.flags

-- its numbers are the pool's, and what the last border found still stands
pub record IsTable (table : Table) : Type 0 where
  pub under : AreUnder (length table.pool) table.ids.items
  pub progress : IsProgress table.ids.items (terms_in table) (did_in table) (found_in table.progress)
