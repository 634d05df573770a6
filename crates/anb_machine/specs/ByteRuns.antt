-- The run of a code over byte strings.
use Rattle.std.specs.Prelude.{ℕ, List}
use Rattle.anb_term.specs.Value.{Meaning}
use Rattle.anb_seal.specs.Streams.{draw_of}
use Rattle.anb_algebra.specs.ByteMeaning.{byte_meaning}
use Rattle.anb_plays.specs.Plays.{Played}
use Rattle.anb_plays.specs.Runs.{run}
use Rattle.anb_code.specs.CodeValue.{CodeValue}
use Rattle.anb_code.specs.Meaning.{acts_of}

-- what the operators mean over the code's formats, in its suite
abbrev pub meaning_of : CodeValue → Meaning (List ℕ)
meaning_of code = byte_meaning code.formats code.suite

-- what comes of a code, for initial values, the draws of a session and arrivals
abbrev pub run_bytes : CodeValue → List (List ℕ) → List ℕ → ℕ → List (List ℕ) → Played (List ℕ)
run_bytes code init seed session arrivals = run (meaning_of code) (draw_of seed session) (acts_of code) init arrivals
