-- What is written for a whole narration.
use Rattle.std.proofs.Common.{◌≡◌, ℕ, true, List, Option, None, refl, sym, ap, ◌∙◌, inl, inr}
use Rattle.anb_read.specs.Laws.{NarrationsAreUnique, RefusalsAreUnique, NoneIsBoth}
use Rattle.anb_protocol.specs.Protocols.{ProtocolValue}
use Rattle.anb_status.specs.declared.status.Status.{Status}
use Rattle.anb_command.specs.Fetches.{Files, IfTold}
use Rattle.anb_command.specs.Files.{ProtocolInFile}
use Rattle.anb_command.specs.Seeds.{SeedIs}
use Rattle.anb_command.specs.Steps.{Answer, given, refused, HasOneAnswer}
use Rattle.anb_command.proofs.Chains.{told_map}
use Rattle.anb_command.proofs.Ones.{RefusesQuietly, narration_in_file_quiet, protocol_in_file_one, protocol_quiet, seed_one, seed_quiet, then_one, then_quiet}
use Rattle.anb_values_commands.specs.ValuesCommand.{DrawnIs, DrawnOf, ValuesText}

drawn_one : (p : ProtocolValue) (seed : List ℕ) → HasOneAnswer (DrawnIs p seed)
drawn_one p seed (refused s) other x y = absurd x
drawn_one p seed (given t) (refused s) x y = absurd y
drawn_one p seed (given t) (given u) x y = ap given (x.is ∙ sym y.is)

drawn_quiet : (p : ProtocolValue) (seed : List ℕ) → RefusesQuietly (DrawnIs p seed)
drawn_quiet p seed = record { each = λ s never. absurd never }

module _ (narration : List ℕ) (host_seed : Option (List ℕ)) where
  pub values_one : NarrationsAreUnique → RefusalsAreUnique → NoneIsBoth → (files : Files) → HasOneAnswer (ValuesText files narration host_seed)
  values_one narrations refusals none files =
      then_one (ProtocolInFile files narration) (DrawnOf host_seed) (protocol_in_file_one narrations refusals none files narration) (λ p.
      then_one (SeedIs true None host_seed) (DrawnIs p) (seed_one true None host_seed) (drawn_one p))

  pub values_quiet : (files : Files) → RefusesQuietly (ValuesText files narration host_seed)
  values_quiet files =
      then_quiet (then_quiet (narration_in_file_quiet files narration) protocol_quiet) (λ (p : ProtocolValue).
      then_quiet (seed_quiet true None host_seed) (drawn_quiet p))

  -- ---- the chain

  module _ (told : Option Files) where
    pub narration_refused : (s : Status) → IfTold told (λ files. ProtocolInFile files narration (refused s)) → IfTold told (λ files. ValuesText files narration host_seed (refused s))
    narration_refused s first = told_map told (λ files is. inl (s, is, refl)) first

    module _ (p : ProtocolValue) (first : IfTold told (λ files. ProtocolInFile files narration (given p))) where
      pub seed_refused : (s : Status) → SeedIs true None host_seed (refused s) → IfTold told (λ files. ValuesText files narration host_seed (refused s))
      seed_refused s is = told_map told (λ files f. inr (p, f, inl (s, is, refl))) first

      pub text_given : (seed text : List ℕ) → SeedIs true None host_seed (given seed) → DrawnIs p seed (given text) → IfTold told (λ files. ValuesText files narration host_seed (given text))
      text_given seed text is last = told_map told (λ files f. inr (p, f, inr (seed, is, last))) first
