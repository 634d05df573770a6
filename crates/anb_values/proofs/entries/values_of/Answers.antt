use Rattle.std.proofs.Common.{◌≡◌, ◌+◌, ◌∙◌, Some, None, drop, sym}
use Rattle.anb_values.specs.Fit.{missing, value_of}
use Rattle.anb_values.proofs.FitLemmas.{missing_at, missing_past, values_push}
use Rattle.anb_values.proofs.entries.values_of.Goals as goal

pub returns-in_default-clause-refused : goal.returns-in_default-clause-refused
returns-in_default-clause-refused c =
    let none : value_of c.args.entries.now c.name-item.result ≡ None = rw c.as_str.ensures at (sym c.in_default.ensures) in (
      missing (drop (c.loop-name.name-index + 1) c.args.names.now) c.args.entries.now,
      rw c.in_ok-copy.ensures (sym c.loop-name.invariant.missing ∙ missing_at c.args.names.now c.args.entries.now c.loop-name.name-index c.name-item.result c.loop-name-test.true c.name-item.is none),
    )

pub loop-name-preserved : goal.loop-name-preserved
loop-name-preserved c =
    let some : value_of c.args.entries.now c.name-item.result ≡ Some c.in-Some.value.now = rw c.as_str.ensures at (sym c.in-Some.ensures) in record {
      missing = sym (missing_past c.args.names.now c.args.entries.now c.loop-name.name-index c.name-item.result c.in-Some.value.now c.loop-name-test.true c.name-item.is some) ∙ c.loop-name.invariant.missing;
      values = rw (c.in_ok-push.ensures.items, c.in_ok-copy-2.ensures) (values_push c.args.names.now c.args.entries.now c.loop-name.name-index c.name-item.result c.loop-name.values.items c.in-Some.value.now c.loop-name-test.true c.name-item.is some c.loop-name.invariant.values);
    }
