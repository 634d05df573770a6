-- Children in memory: what they hold, and which calls fail.
use Rattle.std.specs.Prelude.{ℕ, Bool, false, List, [], ◌∷◌, get_or, Option, Some, None}
use Rattle.std.specs.Option.{option_map_or}
use Rattle.anb_base.specs.Memory.{MemoryWire, fails_after}
use Rattle.anb_base.specs.Moves.{last_count}
use Rattle.anb_base.specs.Wires.{WireState}
use Rattle.anb_partner.specs.declared.trials.ChildEnd.{ChildEnd}
use Rattle.anb_partner.specs.declared.trials.ChildEnd.TheVariants.{Status}
use Rattle.anb_partner.specs.Trials.{Trial}

-- a child: its pipes, which it has itself while it runs, how it ends, what was asked of it, its count of
-- faults, whether it was silent, and its phase
pub record MemoryTrial : Type 0 where
  pub wire : Option MemoryWire
  pub end : ChildEnd
  pub asked : List ℕ
  pub faults : ℕ
  pub silent : Bool
  pub phase : ℕ

pub record MemoryTrials : Type 0 where
  pub trials : List MemoryTrial
  -- how many starts and finishes came, and the numbers from 1 of those that fail
  pub calls : ℕ
  pub fails : List ℕ
  -- whether finishes fail since a child is silent
  pub is_silence : Bool

-- what is there for a case without a child
abbrev pub absent : MemoryTrial
absent = record {
  wire = None;
  end = Status 0;
  asked = [];
  faults = last_count;
  silent = false;
  phase = 0;
}

abbrev pub trial_at : MemoryTrials → ℕ → MemoryTrial
trial_at s case = get_or s.trials case absent

-- what a wire in memory tells
abbrev pub state_of : MemoryWire → WireState
state_of wire = record {
  left = Some wire.left;
  taken_at = Some wire.taken_at;
  read_faults = wire.read_faults;
  written = Some wire.written;
  write_faults = wire.write_faults;
  reached = Some wire.reached;
  reach_faults = wire.reach_faults;
}

-- pipes that nothing is told of
abbrev pub untold : WireState
untold = record {
  left = None;
  taken_at = None;
  read_faults = 0;
  written = None;
  write_faults = 0;
  reached = None;
  reach_faults = 0;
}

-- all of it is told
abbrev pub told : MemoryTrial → Trial
told t = record {
  pipes = option_map_or state_of t.wire untold;
  asked = Some t.asked;
  ends = Some t.end;
  faults = t.faults;
  silent = t.silent;
  phase = t.phase;
}

abbrev pub trials_of : MemoryTrials → ℕ → Trial
trials_of s case = told (trial_at s case)

-- a child of which nothing was asked
abbrev pub fresh_trial : MemoryWire → ChildEnd → MemoryTrial
fresh_trial wire end = record {
  wire = Some wire;
  end = end;
  asked = [];
  faults = 0;
  silent = false;
  phase = 0;
}

-- one of each wire and its end
abbrev pub fresh_trials : List MemoryWire → List ChildEnd → List MemoryTrial
fresh_trials [] ends = []
fresh_trials (wire ∷ wires) [] = []
fresh_trials (wire ∷ wires) (end ∷ ends) = fresh_trial wire end ∷ fresh_trials wires ends
