use Rattle.std.proofs.Common.{◌≡◌, ◌+◌, [], ◌∷◌, ◌++◌, sym, ap, ◌∙◌, arith, append_assoc}
use Rattle.std.specs.List.{range_with_len}
use Rattle.anb_compile.proofs.Lists.{one_further}
use Rattle.anb_compile.proofs.writer.Writer.place_next.Goals as goal

pub loop-done-preserved : goal.loop-done-preserved
loop-done-preserved c =
    let v = c.loop-done.invariant in
    let r = c.register-register.ensures in
    let first = c.args.self.now in
    let at : c.register-register.result ≡ first.next + c.loop-done._done = r.register ∙ v.next in
    let old : c.register-register.new.self.places.items ≡ first.places.items ++ range_with_len first.next c.loop-done._done = ap (λ p. p.items) r.places ∙ v.places in
    record {
      code = r.code ∙ v.code;
      built = r.built ∙ v.built;
      next = omega (arith, r.next, v.next);
      places = c.in_ok-push.ensures.items ∙ ap (λ l. l ++ c.register-register.result ∷ []) old ∙ ap (λ k. (first.places.items ++ range_with_len first.next c.loop-done._done) ++ k ∷ []) at
          ∙ append_assoc first.places.items (range_with_len first.next c.loop-done._done) ((first.next + c.loop-done._done) ∷ []) ∙ ap (λ l. first.places.items ++ l) (sym (one_further first.next c.loop-done._done));
    }
