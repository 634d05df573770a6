-- The messages of a role file are within the widths of their registers.
use Rattle.std.proofs.Common.{◌≡◌, ◌≤◌, ℕ, List, length, All, Option, sym, subst, inl, inr}
use Rattle.anb_base.specs.declared.TheConstants.{ARRIVAL, WIDE}
use Rattle.anb_code.specs.CodeValue.{CodeValue}
use Rattle.anb_code.specs.Taking.{take_texts}
use Rattle.anb_code.specs.Verified.{IsVerifiedCode}
use Rattle.anb_machine.specs.Laws.{RunsSendWithin}
use Rattle.anb_command.specs.Errands.{Errand, ErrandOf}
use Rattle.anb_command.specs.Fetches.{Files}
use Rattle.anb_command.specs.Files.{CodeInFile}
use Rattle.anb_command.specs.Steps.{given}
use Rattle.anb_command.proofs.Given.{fit_count, fit_short}
use Rattle.anb_command.proofs.Ones.{not_both, same_given}
use Rattle.anb_role_commands.specs.EnactCommand.{ErrandIs}
use Rattle.anb_file_laws.specs.Narrow.{EnactedMessagesAreNarrow}

-- a verified code with a short value for each take
record IsNarrow (errand : Errand) : Type 0 where
  accepted : IsVerifiedCode ARRIVAL WIDE errand.code
  count : length errand.initial ≡ length (take_texts errand.code.instrs)
  short : All (λ v. length v ≤ ARRIVAL) errand.initial

accepted_in : (files : Files) (file : List ℕ) (code : CodeValue) → CodeInFile files file (given code) → IsVerifiedCode ARRIVAL WIDE code
accepted_in files file code (inl (t, first, never)) = not_both t code (sym never)
accepted_in files file code (inr (text, first, is)) = is.0

of_code : (files : Files) (values : List ℕ) (host_seed : Option (List ℕ)) (code : CodeValue) (errand : Errand) → IsVerifiedCode ARRIVAL WIDE code → ErrandOf files values host_seed code (given errand) → IsNarrow errand
of_code files values host_seed code errand accepted (inl (t, first, never)) = not_both t errand (sym never)
of_code files values host_seed code errand accepted (inr (fitted, inl (t, first, never), next)) = not_both t fitted (sym never)
of_code files values host_seed code errand accepted (inr (fitted, inr (text, file, fit), inl (t, first, never))) = not_both t errand (sym never)
of_code files values host_seed code errand accepted (inr (fitted, inr (text, file, fit), inr (seed, some, is))) =
    let same : errand ≡ record { code = code; initial = fitted.values; seed = seed } = same_given errand (record { code = code; initial = fitted.values; seed = seed }) is in
    subst IsNarrow (sym same) (record { accepted = accepted; count = fit_count text (take_texts code.instrs) fitted fit; short = fit_short text (take_texts code.instrs) fitted fit })

is_narrow : (files : Files) (file values : List ℕ) (host_seed : Option (List ℕ)) (errand : Errand) → ErrandIs files file values host_seed (given errand) → IsNarrow errand
is_narrow files file values host_seed errand (inl (t, first, never)) = not_both t errand (sym never)
is_narrow files file values host_seed errand (inr (code, in_file, of)) = of_code files values host_seed code errand (accepted_in files file code in_file) of

pub enacted_messages_are_narrow : RunsSendWithin → EnactedMessagesAreNarrow
enacted_messages_are_narrow within files file values host_seed errand asks left arrivals tail cut =
    let n = is_narrow files file values host_seed errand asks in
    within errand.code n.accepted errand.initial n.count n.short errand.seed 0 arrivals cut.2
