-- What the code's reading of the words stands for.
use Rattle.std.specs.Prelude.{Option, Some, None}
use Rattle.anb_base.specs.declared.place.Place.{Place}
use Rattle.anb_base.specs.declared.place.Place.TheVariants as place
use Rattle.anb_words.specs.declared.words.Command.{Command}
use Rattle.anb_words.specs.declared.words.Command.TheVariants as command
use Rattle.anb_words.specs.declared.words.Endpoint.{Endpoint}
use Rattle.anb_words.specs.declared.words.Endpoint.TheVariants as endpoint
use Rattle.anb_words.specs.Words.{Asked, fmt, describe, play, enact, replay, host, rehearse, drill, help, page, certify, why, park, resume, chart, role_chart, branch, check, check_values, trace, all_values, role_values, judge}

abbrev pub place_by : Endpoint → Place
place_by endpoint.Stdio = place.Stdio
place_by (endpoint.Dial at timeout) = place.Dial at.now
place_by (endpoint.Listen at timeout) = place.Listen at.now

abbrev pub asked_by : Option Command → Option Asked
asked_by None = None
asked_by (Some (command.Fmt narration)) = Some (fmt narration.now)
asked_by (Some (command.Describe text narration role)) = Some (describe text narration.now role.now)
asked_by (Some (command.Play role)) = Some (play role.narration.now role.name.now role.values.now (place_by role.endpoint))
asked_by (Some (command.Enact file)) = Some (enact file.code.now file.values.now (place_by file.endpoint))
asked_by (Some (command.Replay words)) =
    Some (replay words.narration.now words.name.now words.values.now words.transcript.now)
asked_by (Some (command.Host role)) = Some (host role.narration.now role.name.now role.values.now (place_by role.endpoint))
asked_by (Some (command.Rehearse words)) = Some (rehearse words.narration.now words.values.now words.schedule.now)
asked_by (Some (command.Drill exchanges)) = Some (drill exchanges)
asked_by (Some command.Help) = Some help
asked_by (Some (command.Page about)) = Some (page about)
asked_by (Some (command.Certify words)) = Some (certify words.narration.now words.name.now words.code.now)
asked_by (Some (command.Why narration)) = Some (why narration.now)
asked_by (Some (command.Park words)) =
    Some (park words.play.narration.now words.play.name.now words.play.values.now words.key.now (place_by words.play.endpoint))
asked_by (Some (command.Resume words)) =
    Some (resume words.narration.now words.name.now words.parked.now words.key.now (place_by words.endpoint))
asked_by (Some (command.Chart narration)) = Some (chart narration.now)
asked_by (Some (command.RoleChart narration role)) = Some (role_chart narration.now role.now)
asked_by (Some (command.Branch words)) =
    Some (branch words.play.narration.now words.play.name.now words.play.values.now words.told (place_by words.play.endpoint))
asked_by (Some (command.Check narration)) = Some (check narration.now)
asked_by (Some (command.CheckValues narration role values)) = Some (check_values narration.now role.now values.now)
asked_by (Some (command.Trace words)) =
    Some (trace words.narration.now words.name.now words.values.now words.transcript.now)
asked_by (Some (command.Values narration)) = Some (all_values narration.now)
asked_by (Some (command.RoleValues narration role values)) = Some (role_values narration.now role.now values.now)
asked_by (Some (command.Judge words)) =
    Some (judge words.narration.now words.name.now words.values.now words.transcript.now)
