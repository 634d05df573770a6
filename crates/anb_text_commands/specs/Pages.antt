-- What the program says of itself. The texts are constants, in src/texts.rt.
use Rattle.std.specs.Prelude.{ℕ, List}
use Rattle.anb_help.specs.declared.pages.Page.{Page}
use Rattle.anb_help.specs.declared.pages.Page.TheVariants.{Overview, Version, Check, Chart, Explain, Fmt, Why, Play, Probe, Values, Branch, Park, Resume, Host, Replay, Judge, Trace, Stage, Rehearse, Drill, Compile, Enact, Certify, Help}
use Rattle.anb_text_commands.specs.declared.texts.TheConstants as texts

-- the text of a page
abbrev pub text_of : Page → List ℕ
text_of Overview = texts.OVERVIEW.now
text_of Version = texts.VERSION.now
text_of Check = texts.CHECK.now
text_of Chart = texts.CHART.now
text_of Explain = texts.EXPLAIN.now
text_of Fmt = texts.FMT.now
text_of Why = texts.WHY.now
text_of Play = texts.PLAY.now
text_of Probe = texts.PROBE.now
text_of Values = texts.VALUES.now
text_of Branch = texts.BRANCH.now
text_of Park = texts.PARK.now
text_of Resume = texts.RESUME.now
text_of Host = texts.HOST.now
text_of Replay = texts.REPLAY.now
text_of Judge = texts.JUDGE.now
text_of Trace = texts.TRACE.now
text_of Stage = texts.STAGE.now
text_of Rehearse = texts.REHEARSE.now
text_of Drill = texts.DRILL.now
text_of Compile = texts.COMPILE.now
text_of Enact = texts.ENACT.now
text_of Certify = texts.CERTIFY.now
text_of Help = texts.HELP.now
