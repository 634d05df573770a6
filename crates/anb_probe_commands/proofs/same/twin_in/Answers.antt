use Rattle.std.proofs.Common.{◌≡◌, ◌<◌, true, sym, ap, ◌∙◌, rules}
use Rattle.std.specs.Prelude.{◌&&◌, not}
use Rattle.anb_code.specs.Uses.{is_among}
use Rattle.anb_draws.specs.Draws.{value_in}
use Rattle.anb_probe_commands.specs.Reports.{is_value}
use Rattle.anb_probe_commands.proofs.Found.{twin_next}
use Rattle.anb_probe_commands.proofs.same.twin_in.Goals as goal
use Rattle.anb_probe_commands.proofs.same.twin_in.Goals.{else-has_value-via-then-has_value+else-not-is_among, else-has_value-via-else-has_value}

pub loop-name-preserved : goal.loop-name-preserved
loop-name-preserved c =
    let values = c.args.values.now in
    let apart = c.args.apart.now in
    let value = c.args.value.now in
    let name = c.loop-name.name in
    let within : name < c.args.all = search rules in
    let next = twin_next apart value values name c.args.all within in
    elim c.else-has_value.branch [
      | else-has_value-via-then-has_value+else-not-is_among w ↦
          let has : is_value value (value_in values name) ≡ true = sym c.has_value.ensures ∙ w.if-has_value.true in
          sym (next (ap (λ b. b && not (is_among apart name)) has ∙ ap not (sym w.is_among.ensures ∙ w.if-not-is_among.false))) ∙ c.loop-name.invariant
      | else-has_value-via-else-has_value w ↦
          sym (next (ap (λ b. b && not (is_among apart name)) (sym c.has_value.ensures ∙ w.if-has_value.false))) ∙ c.loop-name.invariant
    ]
