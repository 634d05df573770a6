-- A run as it is shown.
use Rattle.std.proofs.Common.{◌≡◌, ℕ, List, refl}
use Rattle.std.specs.Prelude.{IsUtf8}
use Rattle.std.specs.List.{flat_map}
use Rattle.std.proofs.lemmas.Bool.{false_from_ne_true}
use Rattle.std.proofs.lemmas.Str.{IsUtf8-from_is_utf8, is_utf8-from_IsUtf8}
use Rattle.anb_visible.specs.Visible.{escaped, shown_run}

pub run_kept : (run : List ℕ) → IsUtf8 run → shown_run run ≡ run
run_kept run is = rw (is_utf8-from_IsUtf8 run is) refl

pub run_escaped : (run : List ℕ) → (IsUtf8 run → ⊥) → shown_run run ≡ flat_map escaped run
run_escaped run never = rw (false_from_ne_true _ (λ is. never (IsUtf8-from_is_utf8 run is))) refl
