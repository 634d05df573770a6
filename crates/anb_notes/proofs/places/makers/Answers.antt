use Rattle.std.proofs.Common.{◌+◌, ◌-◌, ◌++◌, length, sym, ap, ◌∙◌, arith, append_assoc}
use Rattle.std.specs.List.{flat_map, range_with_len}
use Rattle.anb_notes.specs.Places.{made_by}
use Rattle.anb_notes.proofs.Ranges.{next_of}
use Rattle.anb_notes.proofs.places.makers.Goals as goal

pub loop-role-preserved : goal.loop-role-preserved
loop-role-preserved c =
    let f = made_by c.args.protocol.now in
    let i = c.loop-role.role in
    let n = length c.args.protocol.now.roles in
    let out = c.loop-role.out.items in
    let later = flat_map f (range_with_len (i + 1) (n - (i + 1))) in
    ap (λ l. l ++ later) c.in_ok-put_made_by.ensures ∙ append_assoc out (f i) later ∙ ap (λ l. out ++ flat_map f l) (sym (next_of i n (omega (arith, c.count_roles-role-end.ensures)))) ∙ c.loop-role.invariant
