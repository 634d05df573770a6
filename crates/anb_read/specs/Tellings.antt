-- What a narration as it was read stands for.
use Rattle.std.specs.Prelude.{option_map, map}
use Rattle.anb_syntax.specs.Grammar as grammar
use Rattle.anb_syntax.specs.Views.{type_of, format_of, know_of, action_of}
use Rattle.anb_read.specs.declared.sections.Written.{Written}

abbrev pub written_of : Written → grammar.Written
written_of w = record {
  title = w.name;
  suite = w.suite;
  types = map type_of w.types.items;
  formats = option_map (λ is. map format_of is.items) w.formats;
  knows = option_map (λ is. map know_of is.items) w.knows;
  actions = map action_of w.actions.items;
  goals = w.goals;
}
