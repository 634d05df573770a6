use Rattle.std.proofs.Common.{ℕ, Option, false, ap}
use Rattle.std.specs.Prelude.{nat_le}
use Rattle.std.specs.Option.{option_map_or}
use Rattle.anb_notes.proofs.tables.is_bare.Goals as goal

pub returns-in-Some : goal.returns-in-Some
returns-in-Some c many all are within = ap (λ (o : Option ℕ). option_map_or (λ first. nat_le first c.args.place.now.number) o false) (c.in-Some.ensures many all are within)

pub returns-in-None : goal.returns-in-None
returns-in-None c many all are within = ap (λ (o : Option ℕ). option_map_or (λ first. nat_le first c.args.place.now.number) o false) (c.in-None.ensures many all are within)
