-- The values that a file gives for `probe` are bytes, one for each name that some role knows.
use Rattle.std.proofs.Common.{◌≡◌, ℕ, List, length, Option, sym, ◌∙◌, subst, inl, inr}
use Rattle.std.specs.List.{AllByRecursion}
use Rattle.std.proofs.lemmas.List.{length-map}
use Rattle.anb_base.specs.Bytes.{IsBytes}
use Rattle.anb_honest.specs.Joint.{known_atoms}
use Rattle.anb_protocol.specs.Protocols.{ProtocolValue}
use Rattle.anb_protocol.specs.Texts.{atom_name, known_names}
use Rattle.anb_values.specs.declared.fitted.Fitted.{Fitted}
use Rattle.anb_command.specs.Fetches.{Files}
use Rattle.anb_command.specs.Files.{ValuesInFile}
use Rattle.anb_command.specs.Roles.{Part}
use Rattle.anb_command.specs.Steps.{given}
use Rattle.anb_command.proofs.Given.{fit_bytes, fit_count}
use Rattle.anb_probe_commands.specs.Probings.{Probing, ProbingIs, ProbingOf, Settles}

-- values of all names that some role knows
pub record AreGiven (p : ProtocolValue) (values : List (List ℕ)) : Type 0 where
  pub count : length values ≡ length (known_atoms p)
  pub bytes : AllByRecursion IsBytes values

file_gives : (p : ProtocolValue) (files : Files) (name : List ℕ) (fitted : Fitted) → ValuesInFile files name (known_names p) (given fitted) → AreGiven p fitted.values
file_gives p files name fitted (inl (status, refused, never)) = absurd (cc)
file_gives p files name fitted (inr (text, there, fits)) = record {
  count = fit_count text (known_names p) fitted fits ∙ length-map (known_atoms p) (atom_name p);
  bytes = fit_bytes text (known_names p) fitted fits;
}

settles : (part : Part) (fitted : Fitted) (host_seed : Option (List ℕ)) (q : Probing) → AreGiven part.protocol fitted.values → Settles part fitted host_seed (given q) → AreGiven q.protocol q.values
settles part fitted host_seed q are (inl (status, refused, never)) = absurd (cc)
settles part fitted host_seed q are (inr (seed, for, inl (status, refused, never))) = absurd (cc)
settles part fitted host_seed q are (inr (seed, for, inr (short, all, is))) = (let same : q ≡ record { protocol = part.protocol; role = part.role; values = fitted.values; seed = seed } = cc in subst (λ (x : Probing). AreGiven x.protocol x.values) (sym same) are)

of_part : (files : Files) (values : List ℕ) (host_seed : Option (List ℕ)) (part : Part) (q : Probing) → ProbingOf files values host_seed part (given q) → AreGiven q.protocol q.values
of_part files values host_seed part q (inl (status, refused, never)) = absurd (cc)
of_part files values host_seed part q (inr (fitted, there, ends)) = settles part fitted host_seed q (file_gives part.protocol files values fitted there) ends

pub are_given : (files : Files) (narration role values : List ℕ) (host_seed : Option (List ℕ)) (q : Probing) → ProbingIs files narration role values host_seed (given q) → AreGiven q.protocol q.values
are_given files narration role values host_seed q (inl (status, refused, never)) = absurd (cc)
are_given files narration role values host_seed q (inr (part, found, ends)) = of_part files values host_seed part q ends
