-- for proofs alone: what a role still does.
use Rattle.std.specs.Prelude.{◌≡◌, ◌⊎◌, ℕ, ◌==◌, List, [], ◌∷◌, length, Bool, true, false, Option}
use Rattle.anb_plays.specs.Plays.{Played, stopped, waiting, ends, says, Run}
use Rattle.anb_machine.specs.Machines.{gives}
use Rattle.anb_machine.specs.declared.turn.Halt.{Halt}
use Rattle.anb_protocol.specs.Schedules.{Turn}
use Rattle.anb_honest.specs.declared.player.Player.{Player}
use Rattle.anb_honest.specs.declared.player.Stop.{Stop}
use Rattle.anb_honest.specs.declared.player.Stop.TheVariants.{Stuck, NoMemory}
use Rattle.anb_honest.specs.Joint.{halt_behind}

-- it stops so before anything else
abbrev pub StopsWith : Run → Halt → Type 0
StopsWith coming halt =
    (arrivals : List (List ℕ)) → coming arrivals ≡ ends (stopped halt.event halt.at) arrivals

abbrev pub StopsNow : Run → Type 0
StopsNow coming = (halt : Halt) × StopsWith coming halt

-- want of memory says nothing
abbrev pub Stops : Run → Stop → Type 0
Stops coming (Stuck halt) = StopsWith coming halt
Stops coming NoMemory = Unit {0}

-- a message comes first, and then what is such
abbrev pub TellsFirst : Run → (Run → Type 0) → Type 0
TellsFirst coming Next =
    (b : List ℕ) × (later : Run)
    × ((arrivals : List (List ℕ)) → coming arrivals ≡ says b (later arrivals)) × Next later

-- it waits for an arrival, and behind each it is such
abbrev pub HearsFirst : Run → (Run → Type 0) → Type 0
HearsFirst coming Next =
    (e : ℕ) × (coming [] ≡ ends (waiting e) [])
    × ((x : List ℕ) → Next (λ arrivals. coming (x ∷ arrivals)))

abbrev pub ActsFirst : Bool → Run → (Run → Type 0) → Type 0
ActsFirst true coming Next = TellsFirst coming Next
ActsFirst false coming Next = HearsFirst coming Next

-- it does these turns in order, or stops before one of them
abbrev pub KeepsOrder : List Turn → Run → Type 0
KeepsOrder [] coming = Unit {0}
KeepsOrder (t ∷ ts) coming = StopsNow coming ⊎ ActsFirst t.sends coming (KeepsOrder ts)

abbrev pub AnyComing : Run → Type 0
AnyComing coming = Unit {0}

-- it stops, or a message or the wait for an arrival comes next
abbrev pub TellsNow : Run → Type 0
TellsNow coming = StopsNow coming ⊎ TellsFirst coming AnyComing

abbrev pub HearsNow : Run → Type 0
HearsNow coming = StopsNow coming ⊎ HearsFirst coming AnyComing

-- how a role's run stopped, where it did and nothing comes before
abbrev pub halt_of : Player → Option Halt
halt_of player =
    halt_behind (gives player.machine []).sent (gives player.machine []).end

abbrev pub is_done : Player → Bool
is_done player = player.done == length player.parts.items
