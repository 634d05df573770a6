use Rattle.std.proofs.Common.{◌≡◌, ◌≤◌, length, ap, ◌∙◌, sym, true, false, rules, tests, arith}
use Rattle.std.specs.List.{range_with_len}
use Rattle.std.specs.Str.{bytes_eq}
use Rattle.std.proofs.lemmas.Bool.{not_from_true, not_from_false}
use Rattle.anb_base.specs.declared.TheConstants.{ARRIVAL, WIDE}
use Rattle.anb_code.specs.Registers.{width_of}
use Rattle.anb_code.specs.Spelling.{instr_of}
use Rattle.anb_code.specs.Table.{has_its_format, reads_unwritten, writes_next}
use Rattle.anb_code.proofs.Rows.{late_first, taken_first, bad_first, unwritten_first, order_first, wide_first, no_fault}
use Rattle.anb_code.proofs.Steps.{length-known, unwritten_by, next_by, narrow_is, knows_more, too_wide_is}
use Rattle.anb_code.proofs.checks.check_instr.Goals as goal

pub overflow_cast-registers : goal.overflow_cast-registers
overflow_cast-registers c = omega (arith, c.len-registers.ensures, length-known c.args.formats.now c.args.before.now c.args.widths.now.items c.requires.known, c.requires.destinations)

pub returns-then-is_late-clause-refused : goal.returns-then-is_late-clause-refused
returns-then-is_late-clause-refused c = λ other. late_first ARRIVAL WIDE c.args.formats.now c.args.before.now c.args.instr.now (search (rules, tests))

pub returns-then-is_taken-clause-refused : goal.returns-then-is_taken-clause-refused
returns-then-is_taken-clause-refused c = λ other. taken_first ARRIVAL WIDE c.args.formats.now c.args.before.now c.args.instr.now (search (rules, tests)) (search (rules, tests))

pub returns-then-not-has_its_format-clause-refused : goal.returns-then-not-has_its_format-clause-refused
returns-then-not-has_its_format-clause-refused c =
    let no_format : has_its_format c.args.formats.now c.args.instr.now c.args.instr.now.what ≡ false = search (rules, tests) in
    λ other. bad_first ARRIVAL WIDE c.args.formats.now c.args.before.now c.args.instr.now (search (rules, tests)) (search (rules, tests)) (not_from_false _ no_format)

pub returns-then-reads_unwritten-clause-refused : goal.returns-then-reads_unwritten-clause-refused
returns-then-reads_unwritten-clause-refused c =
    let has_format : has_its_format c.args.formats.now c.args.instr.now c.args.instr.now.what ≡ true = search (rules, tests) in
    let many : c.len-registers.result ≡ length c.args.widths.now.items = omega arith in
    let unwritten : reads_unwritten c.args.before.now c.args.instr.now ≡ true = unwritten_by c.args.formats.now c.args.before.now c.args.widths.now.items c.requires.known c.args.instr.now c.len-registers.result many ∙ sym c.if-reads_unwritten.ensures in
    λ other. unwritten_first ARRIVAL WIDE c.args.formats.now c.args.before.now c.args.instr.now (search (rules, tests)) (search (rules, tests)) (not_from_true _ has_format) unwritten

pub returns-then-not-writes_next-clause-refused : goal.returns-then-not-writes_next-clause-refused
returns-then-not-writes_next-clause-refused c =
    let has_format : has_its_format c.args.formats.now c.args.instr.now c.args.instr.now.what ≡ true = search (rules, tests) in
    let many : c.len-registers.result ≡ length c.args.widths.now.items = omega arith in
    let is_written : reads_unwritten c.args.before.now c.args.instr.now ≡ false = unwritten_by c.args.formats.now c.args.before.now c.args.widths.now.items c.requires.known c.args.instr.now c.len-registers.result many ∙ sym c.if-reads_unwritten.ensures in
    let unordered : writes_next c.args.before.now c.args.instr.now ≡ false = next_by c.args.formats.now c.args.before.now c.args.widths.now.items c.requires.known c.args.instr.now c.len-registers.result many ∙ sym c.if-not-writes_next.ensures in
    λ other. order_first ARRIVAL WIDE c.args.formats.now c.args.before.now c.args.instr.now (search (rules, tests)) (search (rules, tests)) (not_from_true _ has_format) is_written (not_from_false _ unordered)

pub returns-in_default-clause-refused : goal.returns-in_default-clause-refused
returns-in_default-clause-refused c =
    let widths = c.args.widths.now.items in
    let has_format : has_its_format c.args.formats.now c.args.instr.now c.args.instr.now.what ≡ true = search (rules, tests) in
    let many : c.len-registers.result ≡ length widths = omega arith in
    let is_written : reads_unwritten c.args.before.now c.args.instr.now ≡ false = unwritten_by c.args.formats.now c.args.before.now widths c.requires.known c.args.instr.now c.len-registers.result many ∙ sym c.if-reads_unwritten.ensures in
    let ordered : writes_next c.args.before.now c.args.instr.now ≡ true = next_by c.args.formats.now c.args.before.now widths c.requires.known c.args.instr.now c.len-registers.result many ∙ sym c.if-not-writes_next.ensures in
    let same : c.deref.result.now ≡ widths = c.deref.ensures.value in
    let none = rw c.in_default.is at c.in_ok-width.ensures in
    let too_wide : width_of ARRIVAL c.args.formats.now widths (instr_of c.args.formats.now c.args.instr.now) ≤ WIDE → ⊥ = rw same at none in
    λ other. wide_first ARRIVAL WIDE c.args.formats.now c.args.before.now c.args.instr.now (search (rules, tests)) (search (rules, tests)) (not_from_true _ has_format) is_written (not_from_true _ ordered)
    (too_wide_is c.args.formats.now c.args.before.now widths c.requires.known c.args.instr.now c.requires.counts has_format too_wide)

pub returns-clause-fine : goal.returns-clause-fine
returns-clause-fine c =
    let widths = c.args.widths.now.items in
    let has_format : has_its_format c.args.formats.now c.args.instr.now c.args.instr.now.what ≡ true = search (rules, tests) in
    let many : c.len-registers.result ≡ length widths = omega arith in
    let is_written : reads_unwritten c.args.before.now c.args.instr.now ≡ false = unwritten_by c.args.formats.now c.args.before.now widths c.requires.known c.args.instr.now c.len-registers.result many ∙ sym c.if-reads_unwritten.ensures in
    let ordered : writes_next c.args.before.now c.args.instr.now ≡ true = next_by c.args.formats.now c.args.before.now widths c.requires.known c.args.instr.now c.len-registers.result many ∙ sym c.if-not-writes_next.ensures in
    let same : c.deref.result.now ≡ widths = c.deref.ensures.value in
    let some = rw c.in-Some.is at c.in_ok-width.ensures in
    let narrow : width_of ARRIVAL c.args.formats.now widths (instr_of c.args.formats.now c.args.instr.now) ≤ WIDE = rw same at some.0 in
    no_fault ARRIVAL WIDE c.args.formats.now c.args.before.now c.args.instr.now (search (rules, tests)) (search (rules, tests)) (not_from_true _ has_format) is_written (not_from_true _ ordered)
    (narrow_is c.args.formats.now c.args.before.now widths c.requires.known c.args.instr.now narrow)

pub returns-clause-known : goal.returns-clause-known
returns-clause-known c =
    let widths = c.args.widths.now.items in
    let has_format : has_its_format c.args.formats.now c.args.instr.now c.args.instr.now.what ≡ true = search (rules, tests) in
    let many : c.len-registers.result ≡ length widths = omega arith in
    let ordered : bytes_eq c.args.instr.now.to (range_with_len (length widths) (length c.args.instr.now.to)) ≡ true =
    ap (λ n. bytes_eq c.args.instr.now.to (range_with_len n (length c.args.instr.now.to))) (sym many) ∙ sym c.if-not-writes_next.ensures in
    let same : c.deref.result.now ≡ widths = c.deref.ensures.value in
    let some = rw c.in-Some.is at c.in_ok-width.ensures in
    let narrow : width_of ARRIVAL c.args.formats.now widths (instr_of c.args.formats.now c.args.instr.now) ≤ WIDE = rw same at some.0 in
    let is : c.in-Some.width ≡ width_of ARRIVAL c.args.formats.now widths (instr_of c.args.formats.now c.args.instr.now) = rw same at some.1 in
    rw (c.in_ok-put_copies.ensures, c.count_destinations.ensures, is)
    (knows_more c.args.formats.now c.args.before.now widths c.requires.known c.args.instr.now c.requires.counts has_format ordered narrow)
