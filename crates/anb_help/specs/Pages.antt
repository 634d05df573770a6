-- What can be asked of the program about itself.
use Rattle.std.specs.Prelude.{ℕ, List, codes, bytes_eq, Option, Some, None, if◌then◌else◌}
use Rattle.anb_help.specs.declared.pages.Page.{Page}
use Rattle.anb_help.specs.declared.pages.Page.TheVariants.{Check, Chart, Explain, Fmt, Why, Play, Probe, Values, Branch, Park, Resume, Host, Replay, Judge, Trace, Stage, Rehearse, Drill, Compile, Enact, Certify, Help}

-- the page on the command of this name
abbrev pub page_of : List ℕ → Option Page
page_of command =
    if bytes_eq command (codes "check") then Some Check
    else if bytes_eq command (codes "chart") then Some Chart
    else if bytes_eq command (codes "explain") then Some Explain
    else if bytes_eq command (codes "fmt") then Some Fmt
    else if bytes_eq command (codes "why") then Some Why
    else if bytes_eq command (codes "play") then Some Play
    else if bytes_eq command (codes "probe") then Some Probe
    else if bytes_eq command (codes "values") then Some Values
    else if bytes_eq command (codes "branch") then Some Branch
    else if bytes_eq command (codes "park") then Some Park
    else if bytes_eq command (codes "resume") then Some Resume
    else if bytes_eq command (codes "host") then Some Host
    else if bytes_eq command (codes "replay") then Some Replay
    else if bytes_eq command (codes "judge") then Some Judge
    else if bytes_eq command (codes "trace") then Some Trace
    else if bytes_eq command (codes "stage") then Some Stage
    else if bytes_eq command (codes "rehearse") then Some Rehearse
    else if bytes_eq command (codes "drill") then Some Drill
    else if bytes_eq command (codes "compile") then Some Compile
    else if bytes_eq command (codes "enact") then Some Enact
    else if bytes_eq command (codes "certify") then Some Certify
    else if bytes_eq command (codes "help") then Some Help
    else None
