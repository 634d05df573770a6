use Rattle.std.proofs.Common.{◌≡◌, ◌∙◌, Option, option_map, map, sym, ap, arith}
use Rattle.anb_term.specs.View.{tree_of}
use Rattle.anb_trace.specs.declared.differences.Part.{Part}
use Rattle.anb_trace.specs.Differences.{Difference}
use Rattle.anb_trace.specs.Inside.{difference_of, part_value}
use Rattle.anb_trace.proofs.Inward.{inner_ours, inner_smaller, inner_stands}
use Rattle.anb_trace.proofs.Placed.{innermost_here, innermost_within, place_here, place_within}
use Rattle.anb_trace.proofs.differences.+put_place.Goals as goal

pub put_place-requires : goal.put_place-requires
put_place-requires t c =
    let holding = c.args.holding.now in
    let code = holding.code.now in
    let terms = map tree_of holding.terms.now in
    let d = difference_of (tree_of c.args.term.now) c.args.sides in
    let q = part_value c.in-Some.field-0 in
    let stands = inner_stands code terms holding.registers.now q d (sym c.in_ok-inner_part.ensures ∙ ap (λ (o : Option Part). option_map part_value o) c.in-Some.is) in
    (omega (arith, inner_smaller code terms holding.registers.now q d stands, c.decreases), inner_ours code terms holding.registers.now c.args.protocol.now q d stands c.requires)

pub returns-in_ok-put_term-in-None-clause-place : goal.returns-in_ok-put_term-in-None-clause-place
returns-in_ok-put_term-in-None-clause-place t c =
    let holding = c.args.holding.now in
    let d = difference_of (tree_of c.args.term.now) c.args.sides in
    place_here c.args.protocol.now holding.code.now (map tree_of holding.terms.now) holding.registers.now d c.args.out.now.items c.put_term.new.out.items
    (sym c.in_ok-inner_part.ensures ∙ ap (λ (o : Option Part). option_map part_value o) c.in-None.is) c.in_ok-put_term-in-None.ensures

pub returns-in_ok-put_term-in-None-clause-due : goal.returns-in_ok-put_term-in-None-clause-due
returns-in_ok-put_term-in-None-clause-due t c =
    let holding = c.args.holding.now in
    let d = difference_of (tree_of c.args.term.now) c.args.sides in
    ap (λ (x : Difference). x.due) (innermost_here c.args.protocol.now holding.code.now (map tree_of holding.terms.now) holding.registers.now d
    (sym c.in_ok-inner_part.ensures ∙ ap (λ (o : Option Part). option_map part_value o) c.in-None.is))

pub returns-in_ok-put_term-in-None-clause-came : goal.returns-in_ok-put_term-in-None-clause-came
returns-in_ok-put_term-in-None-clause-came t c =
    let holding = c.args.holding.now in
    let d = difference_of (tree_of c.args.term.now) c.args.sides in
    ap (λ (x : Difference). x.came) (innermost_here c.args.protocol.now holding.code.now (map tree_of holding.terms.now) holding.registers.now d
    (sym c.in_ok-inner_part.ensures ∙ ap (λ (o : Option Part). option_map part_value o) c.in-None.is))

pub returns-in_ok-put_term-in-Some-clause-place : goal.returns-in_ok-put_term-in-Some-clause-place
returns-in_ok-put_term-in-Some-clause-place t c =
    let holding = c.args.holding.now in
    let d = difference_of (tree_of c.args.term.now) c.args.sides in
    let q = part_value c.in-Some.field-0 in
    place_within c.args.protocol.now holding.code.now (map tree_of holding.terms.now) holding.registers.now d q
    (sym c.in_ok-inner_part.ensures ∙ ap (λ (o : Option Part). option_map part_value o) c.in-Some.is)
    c.args.out.now.items c.put_place.new.out.items c.extend_from_slice.new.self.items c.put_term-in-Some.new.out.items
    c.in_ok-innermost-in-Some.ensures.place c.in_ok-extend_from_slice-in-Some.ensures.items c.in_ok-put_term-in-Some.ensures

pub returns-in_ok-put_term-in-Some-clause-due : goal.returns-in_ok-put_term-in-Some-clause-due
returns-in_ok-put_term-in-Some-clause-due t c =
    let holding = c.args.holding.now in
    let d = difference_of (tree_of c.args.term.now) c.args.sides in
    let q = part_value c.in-Some.field-0 in
    c.in_ok-innermost-in-Some.ensures.due
    ∙ ap (λ (x : Difference). x.due) (innermost_within c.args.protocol.now holding.code.now (map tree_of holding.terms.now) holding.registers.now d q
    (sym c.in_ok-inner_part.ensures ∙ ap (λ (o : Option Part). option_map part_value o) c.in-Some.is))

pub returns-in_ok-put_term-in-Some-clause-came : goal.returns-in_ok-put_term-in-Some-clause-came
returns-in_ok-put_term-in-Some-clause-came t c =
    let holding = c.args.holding.now in
    let d = difference_of (tree_of c.args.term.now) c.args.sides in
    let q = part_value c.in-Some.field-0 in
    c.in_ok-innermost-in-Some.ensures.came
    ∙ ap (λ (x : Difference). x.came) (innermost_within c.args.protocol.now holding.code.now (map tree_of holding.terms.now) holding.registers.now d q
    (sym c.in_ok-inner_part.ensures ∙ ap (λ (o : Option Part). option_map part_value o) c.in-Some.is))
