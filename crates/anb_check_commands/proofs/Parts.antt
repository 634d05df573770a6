-- The role of a text is that of its file, and no refusal of it is one of values.
use Rattle.std.proofs.Common.{ℕ, List, refl, inl, inr}
use Rattle.anb_syntax.specs.Grammar.{Narration}
use Rattle.anb_protocol.specs.Protocols.{ProtocolValue}
use Rattle.anb_command.specs.declared.limits.TheConstants.{NARRATION_LIMIT}
use Rattle.anb_command.specs.Fetches.{Files}
use Rattle.anb_command.specs.Files.{FileIs, HasFile, ProtocolIs}
use Rattle.anb_command.specs.Roles.{Part, PartInFile, PartOf}
use Rattle.anb_command.specs.Steps.{Answer, IsFailure, refused}
use Rattle.anb_status.specs.declared.status.Status.{Status}
use Rattle.anb_status.specs.declared.status.Status.TheVariants.{BadValues}
use Rattle.anb_check_commands.specs.Telling.{IsBeforeValues, PartOfText}

module _ (files : Files) (narration name x : List ℕ) where
  pub in_file : (answer : Answer Part) → HasFile files narration NARRATION_LIMIT x → PartOfText x name answer → PartInFile files narration name answer
  in_file answer file (inl (s, is, e)) = inl (s, inl (s, inr (x, file, is), refl), e)
  in_file answer file (inr (n, is, inl (s, ill, e))) = inl (s, inr (n, inr (x, file, is), ill), e)
  in_file answer file (inr (n, is, inr (p, well, part))) = inr (p, inr (n, inr (x, file, is), well), part)

pub no_file : (files : Files) (narration name : List ℕ) (s : Status) → FileIs files narration NARRATION_LIMIT (refused s) → PartInFile files narration name (refused s)
no_file files narration name s is = inl (s, inl (s, inl (s, is, refl), refl), refl)

pub part_before : (p : ProtocolValue) (name : List ℕ) (s : Status) → IsFailure s (λ file. ⊥) (PartOf p name (refused s)) → IsBeforeValues s
part_before p name (BadValues why) (inl (s, is, e)) = let no_role = is.0 in cc
part_before p name (BadValues why) (inr (role, f, inl (s, (first, action, sender, is, named, status), e))) = cc
part_before p name (BadValues why) (inr (role, f, inr (u, all, answers))) = cc
part_before p name _ fails = tt

pub protocol_before : (n : Narration) (s : Status) → IsFailure s (λ file. ⊥) (ProtocolIs n (refused s)) → IsBeforeValues s
protocol_before n (BadValues why) (fault, is, first) = cc
protocol_before n _ fails = tt
