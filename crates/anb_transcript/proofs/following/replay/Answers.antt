use Rattle.std.proofs.Common.{◌≡◌, ◌+◌, ◌≤◌, List, [], ◌∷◌, ◌++◌, length, take, drop, refl, sym, ap, subst, ◌∙◌, arith}
use Rattle.std.proofs.lemmas.List.{length-take-le, take_all}
use Rattle.std.specs.List.{AllByRecursion}
use Rattle.std.proofs.lemmas.List.Elements.{recursion_from_All}
use Rattle.anb_base.specs.declared.TheConstants.{ARRIVAL}
use Rattle.anb_machine.specs.Machines.{gives}
use Rattle.anb_transcript.specs.declared.transcript.TranscriptLine.{TranscriptLine}
use Rattle.anb_transcript.specs.Replays.{Replays, arrivals_of, last_arrival}
use Rattle.anb_transcript.proofs.Reached.{short_at, reached_here, reached_further, ends_at, ends_behind, heard_in, heard_before, taken, parted}
use Rattle.anb_transcript.proofs.following.replay.Goals as goal
use Rattle.anb_transcript.proofs.following.replay.Goals.{in-In, in_default-line}

pub loop-line-init : goal.loop-line-init
loop-line-init c = record { covered = refl; heard = refl; reached = reached_here (gives c.args.machine.now) }

pub overflow_add-covered : goal.overflow_add-covered
overflow_add-covered c = omega (arith, c.requires.few, c.loop-line-test.true, ap length c.lines-line-items.ensures, c.loop-line.invariant.covered)

pub overflow_add-covered-in-loop-line : goal.overflow_add-covered-in-loop-line
overflow_add-covered-in-loop-line c = omega (arith, c.requires.few, c.loop-line-test.true, ap length c.lines-line-items.ensures, c.loop-line.invariant.covered)

pub returns-in-Err : goal.returns-in-Err
returns-in-Err c =
    let old = c.loop-line.invariant in
    let lines = c.lines-line-items.result.now in
    let i = c.loop-line.line-index in
    let size : length (take i lines) ≡ i = length-take-le i lines (omega (arith, c.loop-line-test.true)) in
    ends_at (gives c.args.machine.now) (gives c.loop-line.machine) (take i lines) old.reached c.args.transcript.now (drop (i + 1) lines) c.line-item.result (c.loop-line.covered + 1) c.loop-line.heard c.in-Err.end
    (sym c.lines-line-items.ensures ∙ parted lines i c.line-item.result c.loop-line-test.true c.line-item.is)
    (omega (arith, size, old.covered)) old.heard c.in-Err.ensures.ends

pub loop-line-preserved : goal.loop-line-preserved
loop-line-preserved c =
    let old = c.loop-line.invariant in
    let lines = c.lines-line-items.result.now in
    let i = c.loop-line.line-index in
    let size : length (take i lines) ≡ i = length-take-le i lines (omega (arith, c.loop-line-test.true)) in
    let heard : c.match-line.heard ≡ last_arrival (take i lines ++ c.line-item.result ∷ []) = elim c.match-line.branch [
      | in-In w ↦ heard_in (take i lines) c.line-item.result w.in-In.field-0 c.match-line.heard w.in-In.is (omega (arith, w.heard-is, size, old.covered))
      | in_default-line w ↦ heard_before (take i lines) c.line-item.result c.match-line.heard w.in_default-line.not-In (w.heard-is ∙ old.heard)
    ] in
    rw (taken lines i c.line-item.result c.loop-line-test.true c.line-item.is)
    (record {
      covered = omega (arith, old.covered);
      heard = heard;
      reached = reached_further (gives c.args.machine.now) (gives c.loop-line.machine) (gives c.cover.new.machine) (take i lines) old.reached c.line-item.result c.in_default.ensures.covers;
    })

pub returns : goal.returns
returns c =
    let old = c.loop-line.invariant in
    let lines = c.lines-line-items.result.now in
    let i = c.loop-line.line-index in
    let size : length (take i lines) ≡ i = length-take-le i lines (omega (arith, c.loop-line.auto.line-index-end)) in
    let all : take i lines ≡ c.args.transcript.now = take_all i lines (omega (arith, c.loop-line-test.false)) ∙ c.lines-line-items.ensures in
    subst (λ (t : List TranscriptLine). Replays (gives c.args.machine.now) t c.end_behind.result) all
    (ends_behind (gives c.args.machine.now) (gives c.loop-line.machine) (take i lines) old.reached c.loop-line.covered c.loop-line.heard c.end_behind.result (omega (arith, size, old.covered)) old.heard c.end_behind.ensures)

pub cover-requires : goal.cover-requires
cover-requires c =
    let lines : c.lines-line-items.result.now ≡ c.args.transcript.now = c.lines-line-items.ensures in
    short_at c.lines-line-items.result.now c.loop-line.line-index c.line-item.result (subst (λ (ls : List TranscriptLine). AllByRecursion (λ arrival. length arrival ≤ ARRIVAL) (arrivals_of ls)) (sym lines) (recursion_from_All (λ arrival. length arrival ≤ ARRIVAL) (arrivals_of c.args.transcript.now) c.requires.arrivals))
    c.loop-line-test.true c.line-item.is
