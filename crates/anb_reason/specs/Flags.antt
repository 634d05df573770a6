-- Flags of terms by their numbers in a pool.
use Rattle.std.specs.Prelude.{List, length, take, drop, Bool, true, false, ◌&&◌, ◌||◌, ◌==◌, not, slice_get, unwrap_or, if◌then◌else◌}
use Rattle.std.specs.List.{list_all}
use Rattle.anb_term.specs.Operator.{arity, keys, undoable}
use Rattle.anb_intern.specs.declared.node.NodeId.{NodeId}
use Rattle.anb_intern.specs.declared.node.Node.{Node}
use Rattle.anb_intern.specs.declared.node.Node.TheVariants.{Atom, Apply}

abbrev pub flag_at : List Bool → NodeId → Bool
flag_at flags id = unwrap_or (slice_get flags id.0) false

abbrev pub all_flagged : List Bool → List NodeId → Bool
all_flagged flags ids = list_all (flag_at flags) ids

-- an operator on as many operands as it takes, all of which have the flag
abbrev pub is_built : List Bool → Node → Bool
is_built flags (Atom n) = false
is_built flags (Apply o ids) = (length ids.items == arity o) && all_flagged flags ids.items

-- where the keys have the second flag, the parts have the first
abbrev pub is_parted : List Bool → List Bool → Node → Bool
is_parted marks composing (Atom n) = true
is_parted marks composing (Apply o ids) = not (undoable o && all_flagged composing (take (keys o) ids.items)) || all_flagged marks (drop (keys o) ids.items)

-- a term that is to be built or undone: the operands of a hash or mac have the flag, or the keys of another
abbrev pub is_wanted : List Bool → Node → Bool
is_wanted composing (Atom n) = false
is_wanted composing (Apply o ids) = if undoable o then all_flagged composing (take (keys o) ids.items) else all_flagged composing ids.items
