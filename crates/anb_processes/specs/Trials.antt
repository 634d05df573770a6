-- What is told of the children of cases: which calls for them have failed, and their phases; nothing of
-- their bytes, their words and their ends.
use Rattle.std.specs.Prelude.{ℕ, Bool, false, List, get_or, None}
use Rattle.anb_base.specs.Moves.{last_count}
use Rattle.anb_base.specs.Wires.{WireState}
use Rattle.anb_partner.specs.Trials.{Trial}

-- how often reading a child's output has failed, and writing its input
pub record Pipes : Type 0 where
  pub reads : ℕ
  pub writes : ℕ

-- the pipes of a case's child, how often starting it or waiting for its end has failed, whether it was
-- silent the last time, and its phase
pub record Case : Type 0 where
  pub pipes : Pipes
  pub faults : ℕ
  pub silent : Bool
  pub phase : ℕ

-- a case of which nothing was asked
abbrev pub fresh_case : Case
fresh_case = record { pipes = record { reads = 0; writes = 0 }; faults = 0; silent = false; phase = 0 }

-- beyond the last case no child can be started, and the count of faults stands at its last value
abbrev pub absent : Case
absent = record { pipes = record { reads = 0; writes = 0 }; faults = last_count; silent = false; phase = 0 }

abbrev pub state_of : Pipes → WireState
state_of pipes = record {
  left = None;
  taken_at = None;
  read_faults = pipes.reads;
  written = None;
  write_faults = pipes.writes;
  reached = None;
  reach_faults = 0;
}

abbrev pub told : Case → Trial
told case = record {
  pipes = state_of case.pipes;
  asked = None;
  ends = None;
  faults = case.faults;
  silent = case.silent;
  phase = case.phase;
}

abbrev pub trial_of : List Case → ℕ → Trial
trial_of cases case = told (get_or cases case absent)
