-- One more root.
use Rattle.std.proofs.Common.{◌≡◌, ℕ, ◌+◌, List, [], ◌∷◌, ◌++◌, length, ap, ◌∙◌, ⊎_elim, subst, length-append, sym}
use Rattle.anb_term.proofs.Lists.{slice_get-last}
use Rattle.anb_intern.specs.declared.node.NodeId.{NodeId}
use Rattle.anb_term.specs.Tree.{Tree}
use Rattle.anb_unify.specs.Classes.{IsRoot, Respects, SameAt}
use Rattle.anb_unify.specs.Reading.{AreRoots}
use Rattle.anb_unify.proofs.Linking.{shortened_on}
use Rattle.anb_unify.proofs.solving.roots_of.Goals as goal

-- one more root, where parents were shortened
roots_more : (ts : List Tree) (old new roots roots' : List NodeId) (i : ℕ) (r : NodeId) → AreRoots ts old roots → ((f : Tree → Tree) → Respects ts f new → Respects ts f old) → ((x : NodeId) → IsRoot old x → IsRoot new x)
    → length roots ≡ i → IsRoot new r → ((f : Tree → Tree) → Respects ts f new → SameAt ts f i r.0) → roots' ≡ roots ++ r ∷ [] → AreRoots ts new roots'
roots_more ts old new roots roots' i r are back stay long root same is = subst (AreRoots ts new) (sym is) (record {
  each = λ k x e. ⊎_elim (λ h. stay x (are.each k x h)) (λ (a, b). subst (IsRoot new) b root) (slice_get-last roots r x k e);
  same = λ k x e f h. ⊎_elim (λ o. are.same k x o f (back f h)) (λ (a, b). subst (λ n. SameAt ts f n x.0) (sym (a ∙ long)) (subst (λ (y : NodeId). SameAt ts f i y.0) b (same f h))) (slice_get-last roots r x k e);
})

none_yet : (ts : List Tree) (ps roots : List NodeId) → roots ≡ [] → AreRoots ts ps roots
none_yet ts ps roots e = subst (AreRoots ts ps) (sym e) (record { each = λ k x h. cc; same = λ k x h. cc })

pub loop-i-init : goal.loop-i-init
loop-i-init c = record {
  classes = c.requires;
  stay = record { back = λ f h. h; on = λ f h. h; roots = λ r h. h };
  roots = none_yet c.args.pool.now c.args.parents.now.items c.new-roots.result.items c.new-roots.ensures.items;
  long = ap length c.new-roots.ensures.items;
}

pub loop-i-preserved : goal.loop-i-preserved
loop-i-preserved c =
    let ts = c.args.pool.now in
    let before = c.loop-i.invariant in
    record {
      classes = c.find-root.ensures.classes;
      stay = shortened_on c.args.names ts c.args.parents.now.items c.loop-i.parents.items c.find-root.new.parents.items before.stay c.find-root.ensures.stay;
      roots = roots_more ts c.loop-i.parents.items c.find-root.new.parents.items c.loop-i.roots.items c.push.new.self.items c.loop-i.i c.find-root.result before.roots c.find-root.ensures.stay.back c.find-root.ensures.stay.roots
          before.long c.find-root.ensures.root c.find-root.ensures.same c.in_ok-push.ensures.items;
      long = ap length c.in_ok-push.ensures.items ∙ length-append c.loop-i.roots.items (c.find-root.result ∷ []) ∙ ap (λ n. n + 1) before.long;
    }

pub returns-in_err-push-clause-stay : goal.returns-in_err-push-clause-stay
returns-in_err-push-clause-stay c = shortened_on c.args.names c.args.pool.now c.args.parents.now.items c.loop-i.parents.items c.find-root.new.parents.items c.loop-i.invariant.stay c.find-root.ensures.stay
