use Rattle.std.proofs.Common.{◌≡◌, List, [], ◌∷◌, ◌++◌, map, take, get_or, sym, ap, ◌∙◌, arith, append_assoc}
use Rattle.std.specs.Prelude.{filter}
use Rattle.std.proofs.lemmas.List.{map-append}
use Rattle.std.proofs.lemmas.List.Elements.{filter-append}
use Rattle.anb_spoil.specs.declared.rows.Row.TheVariants.{At}
use Rattle.anb_spoil.specs.declared.rows.Spoiling.TheVariants.{OtherByte}
use Rattle.anb_spoil.specs.declared.wrongs.Wrong.{Wrong}
use Rattle.anb_spoil.specs.declared.wrongs.Wrong.TheVariants.{Spoilt}
use Rattle.anb_attempts.specs.Attempts.{is_tried}
use Rattle.anb_attempts.proofs.Turns.{taken_next}
use Rattle.anb_attempts.proofs.ways.put_ways.Goals as goal

pub loop-row-preserved : goal.loop-row-preserved
loop-row-preserved c =
    let old = c.args.ways.now.items in
    let rows = c.args.rows.now in
    let i = c.loop-row.row-index in
    let test = is_tried c.args.all c.args.format.now.pieces in
    let way = Spoilt c.args.place in
    let row = get_or rows i (At 0 OtherByte) in
    let next = map way (filter test (row ∷ [])) in
    let one : c.put_way.new.ways.items ≡ c.loop-row.ways.items ++ next = c.in_ok-put_way.ensures in
    one ∙ ap (λ (l : List Wrong). l ++ next) c.loop-row.invariant
    ∙ append_assoc old (map way (filter test (take i rows))) next
    ∙ ap (λ (l : List Wrong). old ++ l) (sym (map-append way (filter test (take i rows)) (filter test (row ∷ [])))
    ∙ sym (ap (map way) (filter-append test (take i rows) (row ∷ [])))
    ∙ sym (ap (λ l. map way (filter test l)) (taken_next rows i (At 0 OtherByte) (omega arith))))
