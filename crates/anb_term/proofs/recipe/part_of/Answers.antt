use Rattle.std.proofs.Common.{◌≡◌, ◌≤◌, ◌<◌, length, Some, arith, sym, ◌∙◌, ap, option_map, refl}
use Rattle.std.specs.Prelude.{option_and_then, slice_get}
use Rattle.std.proofs.lemmas.Option.{slice_get_read, slice_get_past}
use Rattle.anb_term.proofs.Places.{part_is}
use Rattle.anb_term.proofs.recipe.part_of.Goals as goal

pub returns-then-from-len : goal.returns-then-from-len
returns-then-from-len g c =
    let ps = c.in-Some.parts.items in
    let j = c.args.j in
    let part = part_is (g.A.Algebra.meaning c.args.a.now) c.args.op c.requires j c.keys-2.result c.from.result c.deref.result.now c.args.by.items c.deref-2.result.now c.args.of (option_map (λ v. v.items) c.in_ok-parts.field-0) (c.deref.ensures.value ∙ c.in_ok-push.ensures.items) (c.deref-2.ensures.value ∙ c.in_ok-at.ensures) (omega (arith, c.args.by.ok.0)) c.keys-2.ensures (omega arith) c.in_ok-parts.ensures in
    let at : c.from-then-from-len.result ≡ j = omega arith in
    let within : j < length ps = omega (arith, c.in-Some.parts.ok.0) in
    let one : slice_get ps j ≡ Some c.swap_remove.result = slice_get_read ps (length ps) j _ refl within (rw (← at) c.swap_remove.ensures.value) in
    sym (part ∙ ap (λ r. option_and_then (λ xs. slice_get xs j) (option_map (λ v. v.items) r)) c.in-Some.is ∙ one)

pub returns : goal.returns
returns g c =
    let ps = c.in-Some.parts.items in
    let j = c.args.j in
    let part = part_is (g.A.Algebra.meaning c.args.a.now) c.args.op c.requires j c.keys-2.result c.from.result c.deref.result.now c.args.by.items c.deref-2.result.now c.args.of (option_map (λ v. v.items) c.in_ok-parts.field-0) (c.deref.ensures.value ∙ c.in_ok-push.ensures.items) (c.deref-2.ensures.value ∙ c.in_ok-at.ensures) (omega (arith, c.args.by.ok.0)) c.keys-2.ensures (omega arith) c.in_ok-parts.ensures in
    let past : length ps ≤ j = omega (arith, c.in-Some.parts.ok.0) in
    sym (part ∙ ap (λ r. option_and_then (λ xs. slice_get xs j) (option_map (λ v. v.items) r)) c.in-Some.is ∙ slice_get_past ps j past)
