-- What a role's partner is handed.
use Rattle.std.specs.Prelude.{ℕ, ◌==◌, List, [], ◌++◌, length, map, count_by, if◌then◌else◌}
use Rattle.std.specs.List.{flat_map, range_with_len}
use Rattle.anb_seal.specs.Streams.{draw_of}
use Rattle.anb_honest.specs.Joint.{cast, init_of}
use Rattle.anb_protocol.specs.Plans.{plan_of, is_to_make}
use Rattle.anb_protocol.specs.Protocols.{ProtocolValue}

-- with these values of the names that occur in some role's knowledge, and the draws under a seed
module _ (p : ProtocolValue) (values : List (List ℕ)) (seed : List ℕ) where
  -- what a role knows
  abbrev pub initial_values : ℕ → List (List ℕ)
  initial_values role = init_of (cast p [] values seed) role

  -- and makes: its draws, as in a rehearsal
  abbrev pub made_values : ℕ → List (List ℕ)
  made_values role = map (draw_of seed role) (range_with_len 0 (count_by is_to_make (plan_of p role)))

  -- what the other roles know and make
  abbrev pub handed_values_by : (role other : ℕ) → List (List ℕ)
  handed_values_by role other = if other == role then [] else initial_values other ++ made_values other

  abbrev pub handed_values : ℕ → List (List ℕ)
  handed_values role = flat_map (handed_values_by role) (range_with_len 0 (length p.roles))
