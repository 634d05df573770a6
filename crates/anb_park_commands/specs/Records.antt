-- Which records a role goes on from, said of its play.
use Rattle.std.specs.Prelude.{◌≡◌, ◌≢◌, ℕ, List}
use Rattle.anb_park.specs.Records.{Parked, Accepts, Refuses}
use Rattle.anb_park.specs.declared.resuming.ParkNo.{ParkNo}
use Rattle.anb_park.specs.declared.resuming.ParkNo.TheVariants as cause
use Rattle.anb_protocol.specs.Protocols.{ProtocolValue}
use Rattle.anb_status.specs.declared.status.Status.TheVariants.{BadRecord}
use Rattle.anb_command.specs.Steps.{Answer, refused, given}
use Rattle.anb_park_commands.specs.Sessions.{WaitsIn, count_known}

-- the session of a role that a record under a key holds, or the first cause for which it is refused
abbrev pub RecordIs : ProtocolValue → (role : ℕ) → (id key bytes : List ℕ) → Answer Parked → Type 0
RecordIs p role id key bytes (refused status) =
    (why : ParkNo) × (status ≡ BadRecord why) × (why ≢ cause.NoMemory)
    × Refuses (count_known p role) (WaitsIn p role) id key bytes why
RecordIs p role id key bytes (given s) =
    Accepts (count_known p role) (WaitsIn p role) id key bytes s
