use Rattle.std.proofs.Common.{◌≡◌, ◌<◌, ◌^◌, length, ap, sym, ◌∙◌, subst, arith, refl, Option, Some, Err}
use Rattle.std.specs.Prelude.{IfOk}
use Rattle.std.specs.Option.{option_map}
use Rattle.anb_format.specs.Formats.{IsSound}
use Rattle.anb_syntax.specs.Grammar.{FormatItem}
use Rattle.anb_syntax.specs.Views.{format_of}
use Rattle.anb_protocol.specs.declared.refusals.ResolveNo.{ResolveNo}
use Rattle.anb_protocol.specs.declared.refusals.ResolveNo.TheVariants.{FormatShape}
use Rattle.anb_protocol.specs.Checks.{shape_fault}
use Rattle.anb_protocol.proofs.FirstLemmas.{plain_here, plain_next, all_rest}
use Rattle.anb_protocol.proofs.ShapeLemmas.{shape_told, shape_none}
use Rattle.anb_resolve.proofs.shapes.misshapen.Goals as goal

pub returns-in-Err : goal.returns-in-Err
returns-in-Err c =
    let x = c.format-item.result in
    let ps = c.deref.result.now in
    let told : shape_fault ps ≡ Some c.in-Err.no = shape_told ps c.in-Err.no (λ e. c.in-Err.ensures.no_head.0 (ap (λ y. Err y) e)) (λ i e. let h = (c.in-Err.ensures.rest_not_last i).0 (ap (λ y. Err y) e) in (h.0, h.1)) in
    let is : shape_fault x.pieces.items ≡ Some c.in-Err.no = ap shape_fault (sym c.deref.ensures.value) ∙ told in
    let total = plain_here (λ (f : FormatItem). option_map (λ y. FormatShape f.title y) (shape_fault f.pieces)) format_of c.args.formats.now c.loop-format.format-index x _ (omega arith) c.format-item.is c.loop-format.invariant.same
    (FormatShape x.name c.in-Err.no) (ap (option_map (λ y. FormatShape x.name y)) is) in
    let P : Option ResolveNo → Type 0 = λ o. IfOk c.misshapen_as.result (λ r. r ≡ o) in
    subst P total c.misshapen_as.ensures

pub loop-format-preserved : goal.loop-format-preserved
loop-format-preserved c =
    let x = c.format-item.result in
    let sound : IsSound c.deref.result.now = c.in-Ok.ensures.sound.0 refl in
    let is = ap shape_fault (sym c.deref.ensures.value) ∙ shape_none c.deref.result.now sound in
    record {
      few = (all_rest (λ (f : FormatItem). length f.pieces < 2 ^ 32) format_of c.args.formats.now c.loop-format.format-index x (omega arith) c.format-item.is c.loop-format.invariant.few).1;
      same = plain_next (λ (f : FormatItem). option_map (λ y. FormatShape f.title y) (shape_fault f.pieces)) format_of c.args.formats.now c.loop-format.format-index x _ (omega arith) c.format-item.is c.loop-format.invariant.same
          (ap (option_map (λ y. FormatShape x.name y)) is);
    }
