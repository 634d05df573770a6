-- The run of a code that fits is the role's play.
use Rattle.std.proofs.Common.{◌≡◌, ℕ, ◌*◌, List, length, sym, ap, ◌∙◌, subst, IsTrue}
use Rattle.std.specs.List.{AllByRecursion, All}
use Rattle.std.proofs.lemmas.List.Elements.{All-from_recursion}
use Rattle.anb_base.specs.Bytes.{IsBytes, is_bytes}
use Rattle.anb_base.specs.declared.content.Suite.{Suite}
use Rattle.anb_format.specs.Formats.{FormatValue}
use Rattle.anb_seal.specs.Streams.{draw_of}
use Rattle.anb_seal.proofs.ByteLemmas.{bytes-stream}
use Rattle.anb_algebra.specs.ByteMeaning.{byte_meaning}
use Rattle.anb_algebra.proofs.Picks.{tests}
use Rattle.anb_plays.specs.Plans.{known}
use Rattle.anb_plays.specs.Plays.{Played}
use Rattle.anb_plays.specs.Runs.{run, without_place}
use Rattle.anb_plays.specs.Statements.{RunsAsPlayed}
use Rattle.anb_code.specs.Meaning.{acts_of}
use Rattle.anb_protocol.specs.Protocols.{ProtocolValue}
use Rattle.anb_protocol.specs.Plans.{plan_of}
use Rattle.anb_protocol.specs.Plays.{events_of, meaning_of, IsPlay}
use Rattle.anb_protocol.specs.Laws.{MadeIsNew}
use Rattle.anb_compile.specs.Laws.{FittingCodesPlay}
use Rattle.anb_compile.proofs.Events.{known_events}
use Rattle.anb_compile.proofs.Protocols.{known_of_plan}

pub fitting_codes : (p : ProtocolValue) → RunsAsPlayed (meaning_of p) → MadeIsNew → FittingCodesPlay p
fitting_codes p law new role code init seed session arrivals fits long bytes strings =
    let values : (bs : List (List ℕ)) → AllByRecursion IsBytes bs → All (λ b. IsTrue (is_bytes b)) bs = λ bs all. All-from_recursion (λ b. IsTrue (is_bytes b)) bs (tests bs all) in
    let count : length init ≡ length (known (events_of p role)) = long ∙ sym (ap length (known_events (plan_of p role) ∙ known_of_plan p role)) in
    let go = law (draw_of seed session) (acts_of code) (events_of p role) init arrivals fits.fits (new p role) (λ i. bytes-stream _ session (8 * i) 8) (values init bytes) (values arrivals strings) count in
    let P : List FormatValue → Type 0 = λ f. (let r = without_place (run (byte_meaning f p.suite) (draw_of seed session) (acts_of code) init arrivals) in
    IsPlay p role init seed session arrivals r × ((q : Played (List ℕ)) → IsPlay p role init seed session arrivals q → q ≡ r)) in
    let Q : Suite → Type 0 = λ s. (let r = without_place (run (byte_meaning code.formats s) (draw_of seed session) (acts_of code) init arrivals) in
    IsPlay p role init seed session arrivals r × ((q : Played (List ℕ)) → IsPlay p role init seed session arrivals q → q ≡ r)) in
    subst Q (sym fits.suite) (subst P (sym fits.formats) go)
