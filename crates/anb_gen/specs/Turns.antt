-- The turns of a drill: at each action its sender's, and then its receiver's.
use Rattle.std.specs.Prelude.{ℕ, List, [], ◌∷◌, codes, if◌then◌else◌}
use Rattle.std.specs.List.{flat_map}
use Rattle.std.specs.Str.{bytes_eq}
use Rattle.anb_syntax.specs.Grammar.{ActionItem, Narration}

-- `A` is role 0, and `B` is role 1
abbrev pub role_number : List ℕ → ℕ
role_number name = if bytes_eq name (codes "A") then 0 else 1

-- the sender's turn, and then the receiver's
abbrev pub action_turns : ActionItem → List ℕ
action_turns a = role_number a.from ∷ role_number a.to ∷ []

-- the turns of each action in order
abbrev pub turns_of : Narration → List ℕ
turns_of n = flat_map action_turns n.actions
