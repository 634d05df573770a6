-- What comes of a code that fits.
use Rattle.std.specs.Prelude.{◌≡◌, ℕ, List, length}
use Rattle.std.specs.List.{AllByRecursion}
use Rattle.anb_base.specs.Bytes.{IsBytes}
use Rattle.anb_algebra.specs.ByteMeaning.{byte_meaning}
use Rattle.anb_seal.specs.Streams.{draw_of}
use Rattle.anb_plays.specs.Plays.{Played}
use Rattle.anb_plays.specs.Runs.{run, without_place}
use Rattle.anb_code.specs.CodeValue.{CodeValue}
use Rattle.anb_code.specs.Meaning.{acts_of}
use Rattle.anb_protocol.specs.Protocols.{ProtocolValue}
use Rattle.anb_protocol.specs.Texts.{known_by}
use Rattle.anb_protocol.specs.Plays.{IsPlay}
use Rattle.anb_compile.specs.Fitting.{FitsRole}

-- the run of a code over initial values, a session's draws under a seed, and arrivals
abbrev pub run_of : CodeValue → List (List ℕ) → List ℕ → ℕ → List (List ℕ) → Played (List ℕ)
run_of code init seed session arrivals = run (byte_meaning code.formats code.suite) (draw_of seed session) (acts_of code) init arrivals

-- The run of a code that fits, without the instruction of its stop, is a play of the role's plan, and the only one.
abbrev pub FittingCodesPlay : ProtocolValue → Type 0
FittingCodesPlay p = (role : ℕ) (code : CodeValue) (init : List (List ℕ)) (seed : List ℕ) (session : ℕ) (arrivals : List (List ℕ))
    → FitsRole p role code → length init ≡ length (known_by p role) → AllByRecursion IsBytes init → AllByRecursion IsBytes arrivals
    → IsPlay p role init seed session arrivals (without_place (run_of code init seed session arrivals))
    × ((played : Played (List ℕ)) → IsPlay p role init seed session arrivals played → played ≡ without_place (run_of code init seed session arrivals))
