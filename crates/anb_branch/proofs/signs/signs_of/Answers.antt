use Rattle.std.proofs.Common.{◌≡◌, ◌+◌, List, ◌∷◌, [], ◌++◌, take, sym, arith, subst}
use Rattle.anb_lemmas.proofs.Each.{zip_and_last, take_next}
use Rattle.anb_protocol.specs.Protocols.{ProtocolValue}
use Rattle.anb_branch.specs.declared.signs.Sign.{Sign}
use Rattle.anb_branch.specs.Signs.{AreSigns, IsSign}
use Rattle.anb_branch.proofs.signs.signs_of.Goals as goal

pub loop-arm-preserved : goal.loop-arm-preserved
loop-arm-preserved c =
    let i = c.loop-arm.arm-index in
    let arms = c.args.b.now.arms.items in
    let stem = c.args.b.now.stem in
    let role = c.args.role.now in
    let arm = c.arm-item.result in
    let at_item = rw c.deref-arm-items.ensures.value at c.arm-item.is in
    let old = c.loop-arm.signs.items in
    let next : take (i + 1) arms ≡ take i arms ++ arm ∷ [] = take_next arms i arm (omega (arith, c.loop-arm-test.true, c.loop-arm.auto.arm-index-end)) at_item in
    let P : List ProtocolValue → Type 0 = λ l. AreSigns stem role l c.push.new.self.items in
    let Q : List Sign → Type 0 = λ l. AreSigns stem role (take i arms ++ arm ∷ []) l in
    subst P (sym next) (subst Q (sym c.in_ok-push.ensures.items) (zip_and_last (IsSign stem role) (take i arms) old arm c.in_ok-sign_of.field-0 c.loop-arm.invariant c.in_ok-sign_of.ensures))
