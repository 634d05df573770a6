use Rattle.std.proofs.Common.{ℕ, Option, false, map, ap, ◌∙◌}
use Rattle.std.specs.Option.{option_map_or}
use Rattle.anb_protocol.specs.Views.{action_value}
use Rattle.anb_notes.specs.Places.{is_for_other}
use Rattle.anb_notes.proofs.tables.is_from_other.Goals as goal

pub returns-in-Some : goal.returns-in-Some
returns-in-Some c many all are within =
    c.is_for_other.ensures ∙ ap (λ (o : Option ℕ). option_map_or (is_for_other (map action_value c.args.actions.now) c.args.place.now.number) o false) (c.in-Some.ensures many all are within)

pub returns-in-None : goal.returns-in-None
returns-in-None c many all are within =
    ap (λ (o : Option ℕ). option_map_or (is_for_other (map action_value c.args.actions.now) c.args.place.now.number) o false) (c.in-None.ensures many all are within)
