-- The narration of a drill. `A` sends `B` a sealed number, under a key that `B` hasn't. Then both send
-- numbers to and fro under a key that both know, each with the hash of the number before it. At the end
-- `A` sends the first key.
use Rattle.std.specs.Prelude.{ℕ, ◌+◌, ◌-◌, ◌%◌, List, [], ◌∷◌, ◌++◌, map, codes, decimal, ◌==◌, if◌then◌else◌}
use Rattle.std.specs.List.{range_with_len}
use Rattle.anb_base.specs.declared.content.Suite.TheVariants.{One}
use Rattle.anb_format.specs.declared.pieces.FieldKind.TheVariants.{Len}
use Rattle.anb_format.specs.declared.pieces.Piece.TheVariants.{Lit, Field}
use Rattle.anb_syntax.specs.declared.narration.Sort.TheVariants.{Agent, Number, Key}
use Rattle.anb_syntax.specs.Grammar.{Tree, none, more, atom, apply, hash, seal, TypeItem, FormatItem, KnowItem, ActionItem, Narration}

-- the roles
abbrev pub role_names : List (List ℕ)
role_names = codes "A" ∷ codes "B" ∷ []

-- `N` and the number in decimal
abbrev pub number_name : ℕ → List ℕ
number_name i = codes "N" ++ decimal i

-- the names: two roles, the numbers from 0 to n, and two keys
abbrev pub drill_types : ℕ → List TypeItem
drill_types n =
    record { sort = Agent; names = role_names }
    ∷ record { sort = Number; names = map number_name (range_with_len 0 (n + 1)) }
    ∷ record { sort = Key; names = codes "K" ∷ codes "L" ∷ [] }
    ∷ []

-- a pair: `P`, and two fields with their lengths
abbrev pub pair_format : FormatItem
pair_format = record { title = codes "p"; pieces = Lit (codes "P") ∷ Field Len ∷ Field Len ∷ [] }

-- each role knows both roles and the key `K`, and neither knows `L`
abbrev pub drill_know : List ℕ → KnowItem
drill_know role = record { role = role; terms = more (atom (codes "A")) (more (atom (codes "B")) (more (atom (codes "K")) none)) }

abbrev pub forth : Tree → ActionItem
forth t = record { from = codes "A"; to = codes "B"; message = t }

abbrev pub back : Tree → ActionItem
back t = record { from = codes "B"; to = codes "A"; message = t }

-- the first number, sealed under `L`
abbrev pub opening : ActionItem
opening = forth (seal (atom (codes "L")) (atom (number_name 0)))

-- number i and the hash of the number before it, sealed under `K`
abbrev pub exchange_message : ℕ → Tree
exchange_message i = seal (atom (codes "K")) (apply (codes "p") (more (atom (number_name i)) (more (hash (atom (number_name (i - 1)))) none)))

-- exchange i, counted from 1: `A` sends the odd ones, and `B` the even ones
abbrev pub exchange : ℕ → ActionItem
exchange i = if i % 2 == 1 then forth (exchange_message i) else back (exchange_message i)

-- the key `L`
abbrev pub closing : ActionItem
closing = forth (atom (codes "L"))

-- the opening, n exchanges and the closing
abbrev pub drill_actions : ℕ → List ActionItem
drill_actions n = opening ∷ map exchange (range_with_len 1 n) ++ closing ∷ []

-- the narration of a drill of n exchanges
unfoldable pub drill_narration : ℕ → Narration
drill_narration n = record {
  title = codes "Drill";
  suite = One;
  types = drill_types n;
  formats = pair_format ∷ [];
  knows = map drill_know role_names;
  actions = drill_actions n;
}
