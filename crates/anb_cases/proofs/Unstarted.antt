-- Children in memory that weren't started.
use Rattle.std.proofs.Common.{◌≡◌, ℕ, zero, suc, List, [], ◌∷◌, get_or, refl, Result, Ok, Err, IfOk}
use Rattle.anb_base.specs.Memory.{MemoryWire}
use Rattle.anb_partner.specs.Memory.{MemoryTrials, absent, fresh_trials, trial_at}
use Rattle.anb_partner.specs.declared.trials.ChildEnd.{ChildEnd}

fresh_phase : (wires : List MemoryWire) (ends : List ChildEnd) (case : ℕ) → (get_or (fresh_trials wires ends) case absent).phase ≡ 0
fresh_phase [] ends case = refl
fresh_phase (wire ∷ wires) [] case = refl
fresh_phase (wire ∷ wires) (end ∷ ends) zero = refl
fresh_phase (wire ∷ wires) (end ∷ ends) (suc case) = fresh_phase wires ends case

pub none_runs : {E : Type 0} (wires : List MemoryWire) (ends : List ChildEnd) (made : Result MemoryTrials E)
    → IfOk made (λ trials. trials.trials ≡ fresh_trials wires ends) → IfOk made (λ trials. (case : ℕ) → (trial_at trials case).phase ≡ 0)
none_runs wires ends (Ok trials) fresh = λ case. rw fresh (fresh_phase wires ends case)
none_runs wires ends (Err e) fresh = tt
