-- The arm that is taken, and what comes of it.
use Rattle.std.specs.Prelude.{◌≡◌, ◌≤◌, ◌↔◌, ℕ, suc, ◌-◌, List, [], ◌∷◌, length, All, Bool, true, false, Option, Some, None, nat_eq, slice_get, unwrap_or, if◌then◌else◌}
use Rattle.std.specs.Option.{option_map_or}
use Rattle.std.specs.List.{AllByRecursion, list_any, position_from, starts_with}
use Rattle.std.specs.Str.{bytes_eq}
use Rattle.anb_base.specs.Bytes.{IsBytes}
use Rattle.anb_format.specs.Formats.{FormatValue, head}
use Rattle.anb_plays.specs.Plays.{Played, done, ends, Run}
use Rattle.anb_plays.specs.Runs.{without_place}
use Rattle.anb_code.specs.CodeValue.{CodeValue}
use Rattle.anb_code.specs.Taking.{take_texts}
use Rattle.anb_machine.specs.ByteRuns.{run_bytes}
use Rattle.anb_protocol.specs.Protocols.{ProtocolValue, role_number}
use Rattle.anb_protocol.specs.Plans.{PlanEvent, to_know, to_make, to_send, to_receive}
use Rattle.anb_protocol.specs.Plays.{IsPlay}
use Rattle.anb_choice.specs.Lawful.{BranchedValue, plan_named, stem_part, is_free, told_by}

-- how many of these events are receives
abbrev pub count_receives : List PlanEvent → ℕ
count_receives [] = 0
count_receives (to_know t ∷ es) = count_receives es
count_receives (to_make t ∷ es) = count_receives es
count_receives (to_send action t ∷ es) = count_receives es
count_receives (to_receive action t ∷ es) = suc (count_receives es)

-- how many messages a role receives in the stem of an arm, which is the same in all arms
abbrev pub receives_in : ℕ → List ℕ → ProtocolValue → ℕ
receives_in stem role arm = count_receives (stem_part stem (plan_named arm role))

abbrev pub stem_receives : BranchedValue → List ℕ → ℕ
stem_receives b role = option_map_or (receives_in b.stem role) (slice_get b.arms 0) 0

-- an arrival begins with the head of this format
abbrev pub has_head : List FormatValue → List ℕ → ℕ → Bool
has_head formats arrival i =
    option_map_or (λ (f : FormatValue). starts_with nat_eq arrival (head f.pieces))
    (slice_get formats i) false

-- it begins with the head of the format at the root of the role's first message in the arm
abbrev pub begins_arm : ℕ → List ℕ → List ℕ → ProtocolValue → Bool
begins_arm stem role arrival arm =
    option_map_or (has_head arm.formats arrival) (told_by stem role arm) false

-- The place, from 0, of the arm that it begins so, and that of arm 1 where there is none.
abbrev pub place_begun : BranchedValue → List ℕ → List ℕ → ℕ
place_begun b role arrival = unwrap_or (position_from (begins_arm b.stem role arrival) 0 b.arms) 0

-- The place, from 0, of the arm that is taken. A role that is told an arm, by its number from 1,
-- takes that. Another role that is free in some arm takes the one that its arrival after those of
-- the stem begins, and arm 1 where there is no such arrival. Every other role takes arm 1.
abbrev pub place_taken : BranchedValue → List ℕ → (told : Option ℕ) → List (List ℕ) → ℕ
place_taken b role (Some number) arrivals = number - 1
place_taken b role None arrivals =
    if list_any (is_free b.stem role) b.arms
    then option_map_or (place_begun b role) (slice_get arrivals (stem_receives b role)) 0
    else 0

-- an arm's number is told, and the role is the chooser, or neither
abbrev pub IsTold : BranchedValue → List ℕ → Option ℕ → Type 0
IsTold b role None = bytes_eq role b.chooser ≡ false
IsTold b role (Some number) =
    (bytes_eq role b.chooser ≡ true) × (1 ≤ number) × (number ≤ length b.arms)

-- what comes of the code at a place
abbrev pub run_at : List CodeValue → ℕ → List (List ℕ) → List ℕ → Run
run_at codes place init seed arrivals =
    option_map_or (λ code. run_bytes code init seed 0 arrivals)
    (slice_get codes place) (ends done arrivals)

-- there is a value for each take of each code
abbrev pub TakeAll : List CodeValue → List (List ℕ) → Type 0
TakeAll codes init = All (λ (code : CodeValue). length init ≡ length (take_texts code.instrs)) codes

module _ (b : BranchedValue) (role : List ℕ) (told : Option ℕ)
    (init : List (List ℕ)) (seed : List ℕ) where
  -- What comes of the code of the arm that is taken, in session 0. It tells no instructions, as a
  -- play tells none.
  abbrev pub run_taken : List CodeValue → Run
  run_taken codes arrivals =
      without_place (run_at codes (place_taken b role told arrivals) init seed arrivals)

  -- a play of the role in the protocol of the arm that is taken, in session 0
  pub record IsPlayTaken (arrivals : List (List ℕ)) (played : Played (List ℕ)) : Type 0 where
    pub arm : ProtocolValue
    pub taken : slice_get b.arms (place_taken b role told arrivals) ≡ Some arm
    pub plays : IsPlay arm (role_number arm.roles role) init seed 0 arrivals played

  -- a run is that play, and there is no other
  abbrev pub PlaysTaken : Run → Type 0
  PlaysTaken R = (arrivals : List (List ℕ)) → AllByRecursion IsBytes arrivals
      → (played : Played (List ℕ)) → IsPlayTaken arrivals played ↔ (played ≡ R arrivals)
