-- What holds of runs whatever they are.
use Rattle.std.specs.Prelude.{◌≡◌, ℕ, ◌≤◌, List, [], ◌∷◌, length, take, slice_index, All}
use Rattle.anb_base.specs.declared.TheConstants.{ARRIVAL, WIDE}
use Rattle.anb_format.specs.Laws.{AreWithin}
use Rattle.anb_code.specs.declared.instr.Instr.{Instr}
use Rattle.anb_code.specs.declared.instr.Instr.TheVariants.{Send}
use Rattle.anb_code.specs.CodeValue.{CodeValue}
use Rattle.anb_code.specs.Registers.{register_widths}
use Rattle.anb_code.specs.Taking.{take_texts}
use Rattle.anb_code.specs.Verified.{IsVerifiedCode}
use Rattle.anb_machine.specs.ByteRuns.{run_bytes}

-- the widths of the messages, in the order of sending, where the registers have these widths
abbrev pub message_widths : List ℕ → List Instr → List ℕ
message_widths widths [] = []
message_widths widths (Send r ∷ instrs) = slice_index widths r ∷ message_widths widths instrs
message_widths widths (instr ∷ instrs) = message_widths widths instrs

-- each is at most as long as an arrival may be
abbrev pub AreArrivals : List (List ℕ) → Type 0
AreArrivals strings = All (λ b. length b ≤ ARRIVAL) strings

-- each message of a code is at most as long as the width of its register, and as any width may be
pub record SendsWithin (code : CodeValue) (sent : List (List ℕ)) : Type 0 where
  pub each : AreWithin sent (take (length sent)
      (message_widths (register_widths ARRIVAL code.formats code.instrs) code.instrs))
  pub narrow : All (λ b. length b ≤ WIDE) sent

-- so it is for a verified code, in each run over initial values and arrivals that are that short
abbrev pub RunsSendWithin : Type 0
RunsSendWithin = (code : CodeValue) → IsVerifiedCode ARRIVAL WIDE code
    → (init : List (List ℕ)) → length init ≡ length (take_texts code.instrs) → AreArrivals init
    → (seed : List ℕ) (session : ℕ) (arrivals : List (List ℕ)) → AreArrivals arrivals
    → SendsWithin code (run_bytes code init seed session arrivals).sent
