use Rattle.std.proofs.Common.{◌≡◌, ℕ, List, ap, ◌∙◌, arith}
use Rattle.anb_machine.specs.ByteRuns.{run_bytes}
use Rattle.anb_machine.specs.Machines.{gives}
use Rattle.anb_park.specs.Records.{count_takes}
use Rattle.anb_park.proofs.Bodies.{no_frames, few_frames}
use Rattle.anb_park.proofs.Standing.{session_of, whole_of, sizes_of, goes_on_from, waiting_from, refused_from}
use Rattle.anb_park.proofs.resuming.run_again.Goals as goal

pub returns-in_default-count_frames-clause-refused : goal.returns-in_default-count_frames-clause-refused
returns-in_default-count_frames-clause-refused c =
    no_frames (count_takes c.args.code.now) c.args.body.now c.in-Some.head c.in-Some.frames.now c.in-Some.ensures.some c.in_default-count_frames.ensures.none

pub returns-then-count-takes-clause-refused : goal.returns-then-count-takes-clause-refused
returns-then-count-takes-clause-refused c =
    let (bs, a, count) = c.in-Some-count_frames.ensures.some in
    few_frames (count_takes c.args.code.now) c.args.body.now c.in-Some.head c.in-Some.frames.now c.in-Some.ensures.some bs a (omega (arith, count, c.takes.ensures, c.if-count-takes.true))

pub returns-then-differ-clause-refused : goal.returns-then-differ-clause-refused
returns-then-differ-clause-refused c =
    let (bs, a, count) = c.in-Some-count_frames.ensures.some in
    let code = c.args.code.now in
    let m = c.args.body.now in
    let h = c.in-Some.ensures.some in (
      session_of c.in-Some.head bs c.takes.result,
      whole_of m c.in-Some.head c.in-Some.frames.now bs c.takes.result h a,
      sizes_of code m c.in-Some.head c.in-Some.frames.now bs c.takes.result h a c.takes.ensures (omega (arith, count, c.if-count-takes.false)),
      c.differ.ensures.other c.if-differ.true,
    )

pub returns-in-Err-clause-refused : goal.returns-in-Err-clause-refused
returns-in-Err-clause-refused c =
    let (bs, a, count) = c.in-Some-count_frames.ensures.some in
    let code = c.args.code.now in
    let m = c.args.body.now in
    let h = c.in-Some.ensures.some in
    let takes = c.takes-2.result in
    let head = c.in-Some.head in
    refused_from code c.args.id.now m (session_of head bs takes) c.in-Ok-start.machine c.in-Ok.arrivals.now c.in-Err.no (whole_of m head c.in-Some.frames.now bs takes h a)
    (sizes_of code m head c.in-Some.frames.now bs takes h a c.takes-2.ensures (omega (arith, count, c.if-count-takes.false, c.takes.ensures, c.takes-2.ensures))) (c.differ.ensures.same c.if-differ.false)
    (c.in-Ok.ensures.rest bs a) (λ xs. c.in-Ok-start.ensures.run xs ∙ ap (λ i. run_bytes code i head.seed head.session xs) (c.deref.ensures.value ∙ c.in-Ok.ensures.values bs a)) c.in-Err.ensures.err

pub returns-clause-resumed : goal.returns-clause-resumed
returns-clause-resumed c =
    let (bs, a, count) = c.in-Some-count_frames.ensures.some in
    let code = c.args.code.now in
    let m = c.args.body.now in
    let h = c.in-Some.ensures.some in
    let takes = c.takes-2.result in
    let head = c.in-Some.head in
    let p = session_of head bs takes in
    let same : (xs : List (List ℕ)) → gives c.in-Ok-start.machine xs ≡ run_bytes code p.init p.seed p.session xs =
    λ xs. c.in-Ok-start.ensures.run xs ∙ ap (λ i. run_bytes code i head.seed head.session xs) (c.deref.ensures.value ∙ c.in-Ok.ensures.values bs a) in
    let to = c.in-Ok-run_over.ensures.ok p.arrivals (c.in-Ok.ensures.rest bs a) in (
      p,
      record {
        whole = whole_of m head c.in-Some.frames.now bs takes h a;
        sizes = sizes_of code m head c.in-Some.frames.now bs takes h a c.takes-2.ensures (omega (arith, count, c.if-count-takes.false, c.takes.ensures, c.takes-2.ensures));
        own = c.differ.ensures.same c.if-differ.false;
        waits = waiting_from code p c.in-Ok-start.machine c.run_over.new.machine same to;
      },
      goes_on_from code p c.in-Ok-start.machine c.run_over.new.machine same to,
    )
