use Rattle.std.proofs.Common.{◌≡◌, map, slice_index, Some, sym, ◌∙◌}
use Rattle.std.specs.List.{find}
use Rattle.anb_code.specs.Spelling.{is_named}
use Rattle.anb_code.proofs.Naming.{pieces_at-place_of}
use Rattle.anb_code.proofs.checks.built_width.Goals as goal

pub returns-in-Some : goal.returns-in-Some
returns-in-Some c =
    let found : find (is_named c.args.name.now) c.args.formats.now ≡ Some c.in-Some.format.now = sym c.in-Some.ensures in
    let operands : c.deref.result.now ≡ map (slice_index c.args.widths.now) c.args.args.now = c.deref.ensures.value ∙ c.in_ok-operands.ensures in
    rw (pieces_at-place_of c.args.formats.now c.args.name.now c.in-Some.format.now found, ← operands) c.width.ensures
