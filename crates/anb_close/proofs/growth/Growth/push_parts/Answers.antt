use Rattle.std.proofs.Common.{◌-◌, ◌++◌, ◌∷◌, [], arith, length-append}
use Rattle.anb_lemmas.proofs.Results.{on_err_any}
use Rattle.anb_close.specs.declared.entry.Entry.{Entry}
use Rattle.anb_close.specs.declared.entry.Origin.TheVariants.{Part}
use Rattle.anb_close.proofs.Pushing.{extends_more, extended_length, next_part}
use Rattle.anb_close.proofs.Due.{touched_more}
use Rattle.anb_close.proofs.growth.Growth.push_parts.Goals as goal

pub push-requires-clause-few : goal.push-requires-clause-few
push-requires-clause-few c = omega (arith, extended_length _ _ _ _ _ c.loop-j.invariant.extends, c.loop-j.invariant.count, c.requires.few)

pub loop-j-preserved : goal.loop-j-preserved
loop-j-preserved c =
    let i = c.loop-j.invariant in
    let e : Entry = record { origin = Part c.args.op (c.loop-j.j - c.keys-start.result) c.in_ok-copy.field-0 c.args.of; term = c.in_ok-copy-2.field-0 } in
    record {
      doubles = c.in_ok-push.ensures.doubles;
      indexed = c.in_ok-push.ensures.indexed;
      touched = touched_more _ _ _ _ _ _ i.touched c.in_ok-push.ensures.touched;
      more = i.more ++ e ∷ [];
      count = omega (arith, i.count, length-append i.more (e ∷ []));
      so_far = next_part c.args.op c.args.keys.now c.in_ok-copy.field-0 c.args.of c.loop-j.j _ c.keys-start.result c.args.operands.now c.index-operands-j.result c.in_ok-copy-2.field-0 i.more _ (omega arith) (omega arith) c.index-operands-j.is c.keys-start.ensures c.in_ok-copy.ensures c.in_ok-copy-2.ensures i.so_far;
      extends = extends_more _ _ _ _ _ _ i.more (e ∷ []) i.extends c.in_ok-push.ensures.ok;
    }

pub returns-in_err-push-clause-err : goal.returns-in_err-push-clause-err
returns-in_err-push-clause-err c =
    let i = c.loop-j.invariant in
    on_err_any c.from_residual-in_err-push.result (i.more ++ [], extends_more _ _ _ _ _ _ i.more [] i.extends c.in_err-push.ensures.err)
