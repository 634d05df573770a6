use Rattle.std.proofs.Common.{◌≡◌, ◌∙◌}
use Rattle.std.specs.Prelude.{decimal}
use Rattle.anb_check_commands.proofs.Choosing.{numbered_put}
use Rattle.anb_check_commands.proofs.blindness.put_arm.Goals as goal

pub returns : goal.returns
returns c =
    let digits : c.as_bytes.result.now ≡ decimal c.args.arm = c.as_bytes.ensures.value ∙ c.format.ensures.text in
    rw (c.in_ok-extend_from_slice-3.ensures.items, c.in_ok-extend_from_slice-2.ensures.items, digits, c.in_ok-extend_from_slice.ensures.items)
    (numbered_put c.args.out.now.items (decimal c.args.arm) c.args.rest.now)
