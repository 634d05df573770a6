-- Cases of which nothing was asked.
use Rattle.std.proofs.Common.{◌≡◌, ℕ, zero, suc, get_or, replicate, refl}
use Rattle.anb_processes.specs.Trials.{absent, fresh_case}

pub fresh_at : (n case : ℕ) → (get_or (replicate n fresh_case) case absent).phase ≡ 0
fresh_at zero case = refl
fresh_at (suc n) zero = refl
fresh_at (suc n) (suc case) = fresh_at n case
