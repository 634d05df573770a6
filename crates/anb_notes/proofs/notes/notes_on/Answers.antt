-- One name more.
use Rattle.std.proofs.Common.{◌+◌, ◌-◌, ◌++◌, length, sym, ap, ◌∙◌, arith, append_assoc}
use Rattle.std.specs.List.{flat_map, range_with_len}
use Rattle.anb_notes.specs.Notes.{name_notes}
use Rattle.anb_notes.proofs.Ranges.{next_of}
use Rattle.anb_notes.proofs.notes.notes_on.Goals as goal

pub loop-x-preserved : goal.loop-x-preserved
loop-x-preserved c =
    let f = name_notes c.args.protocol.now in
    let i = c.loop-x.x in
    let n = length c.args.protocol.now.atoms in
    let out = c.loop-x.out.items in
    let later = flat_map f (range_with_len (i + 1) (n - (i + 1))) in
    ap (λ l. l ++ later) c.in_ok-put_name_notes.ensures ∙ append_assoc out (f i) later ∙ ap (λ l. out ++ flat_map f l) (sym (next_of i n (omega (arith, ap length c.declared-many.ensures)))) ∙ c.loop-x.invariant
