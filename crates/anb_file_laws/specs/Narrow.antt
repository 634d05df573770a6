-- How long the messages of a role file are.
use Rattle.std.specs.Prelude.{List, ℕ, Option}
use Rattle.anb_base.specs.declared.TheConstants.{ARRIVAL}
use Rattle.anb_frame.specs.Cuts.{Tail, Cut}
use Rattle.anb_machine.specs.ByteRuns.{run_bytes}
use Rattle.anb_machine.specs.Laws.{SendsWithin}
use Rattle.anb_command.specs.Errands.{Errand}
use Rattle.anb_command.specs.Fetches.{Files}
use Rattle.anb_command.specs.Steps.{given}
use Rattle.anb_role_commands.specs.EnactCommand.{ErrandIs}

-- Over every input, each message that `enact` of a role file sends is no longer than the width of its
-- register, nor than any width may be, so the four bytes of its frame hold its length. By what `compiled`
-- says the same holds of `play`.
abbrev pub EnactedMessagesAreNarrow : Type 0
EnactedMessagesAreNarrow =
    (files : Files) (file values : List ℕ) (host_seed : Option (List ℕ)) (errand : Errand) → ErrandIs files file values host_seed (given errand)
    → (left : List ℕ) (arrivals : List (List ℕ)) (tail : Tail) → Cut ARRIVAL left arrivals tail
    → SendsWithin errand.code (run_bytes errand.code errand.initial errand.seed 0 arrivals).sent
