use Rattle.std.proofs.Common.{refl, inr}
use Rattle.anb_park_commands.proofs.laws.accepted_records_go_on.Goals as goal

pub returns : goal.returns
returns c = λ files narration name saved key part s secret bytes part_in id_in file_in key_in accepted.
    inr (part, part_in, inr (bytes, file_in, inr (secret, key_in, inr (s.id, id_in, inr (s, accepted, refl)))))
