-- for proofs alone: values by a table of places.
use Rattle.std.specs.Prelude.{◌≡◌, ℕ, ◌-◌, ◌==◌, suc, if◌then◌else◌, List, [], get_or, unwrap_or, slice_get}
use Rattle.std.specs.Prelude.{Vec}
use Rattle.std.specs.Global.{Global}
use Rattle.std.specs.Option.{option_map_or}
use Rattle.std.specs.List.{position_from}
use Rattle.anb_honest.specs.declared.given.Given.{Given}

-- for each number listed one more than its place, and else 0
abbrev pub IsTable : List ℕ → List ℕ → Type 0
IsTable listed table = (a : ℕ) → get_or table a 0 ≡ option_map_or suc (position_from (λ b. b == a) 0 listed) 0

abbrev pub value_in : List ℕ → List (List ℕ) → ℕ → List ℕ
value_in table values a = if get_or table a 0 == 0 then [] else unwrap_or (slice_get values (get_or table a 0 - 1)) []

-- these are the values of all atoms
abbrev pub Gives : Given → (ℕ → List ℕ) → Type 0
Gives given atoms = (a : ℕ) → atoms a ≡ value_in given.places.items given.values.now a

abbrev pub items_of : Vec (List ℕ) Global → List (List ℕ)
items_of values = values.items
