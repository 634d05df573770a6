use Rattle.std.proofs.Common.{◌≡◌, ◌+◌, ◌<◌, List, take, length, length-append, arith, sym, ap, ◌∙◌, subst}
use Rattle.std.specs.Prelude.{◌∷◌, [], ◌++◌, All}
use Rattle.std.proofs.lemmas.List.{take_all}
use Rattle.anb_lemmas.proofs.Each.{zip_and_last, take_next, all_of_next}
use Rattle.anb_lemmas.proofs.Lists.{item_at}
use Rattle.anb_protocol.specs.Protocols.{ProtocolValue, role_number}
use Rattle.anb_code.specs.CodeValue.{CodeValue}
use Rattle.anb_compile.specs.Fitting.{FitsRole}
use Rattle.anb_protocol.specs.Plays.{IsSendable}
use Rattle.anb_branch.specs.Arms.{FitArms}
use Rattle.anb_branch.proofs.Refusals.{refused_at}
use Rattle.anb_branch.proofs.compiling.codes_of.Goals as goal

pub returns-in-Err-clause-refused : goal.returns-in-Err-clause-refused
returns-in-Err-clause-refused c =
    let i = c.loop-arm.arm-index in
    refused_at c.args.arms.now i _ c.arm-item.result c.in-Err.no (omega (arith, c.len.ensures, c.loop-arm.invariant.count))
    (item_at c.args.arms.now i c.arm-item.result (omega (arith, c.loop-arm-test.true)) c.arm-item.is) c.loop-arm.invariant.sendable c.in-Err.ensures.refused

pub loop-arm-preserved : goal.loop-arm-preserved
loop-arm-preserved c =
    let i = c.loop-arm.arm-index in
    let arms = c.args.arms.now in
    let old = c.loop-arm.codes.items in
    let arm = c.arm-item.result in
    let pushed = c.in_ok-push-in-Ok.ensures.items in
    let within : i < length arms = omega (arith, c.loop-arm-test.true, c.loop-arm.auto.arm-index-end) in
    let next : take (i + 1) arms ≡ take i arms ++ arm ∷ [] = take_next arms i arm within c.arm-item.is in
    let R : ProtocolValue → CodeValue → Type 0 = λ p code. FitsRole p (role_number p.roles c.args.role.now) code in
    let P : List ProtocolValue → Type 0 = λ l. FitArms l c.args.role.now c.push.new.self.items in
    let Q : List CodeValue → Type 0 = λ l. FitArms (take i arms ++ arm ∷ []) c.args.role.now l in
    record {
      count = ap length pushed ∙ length-append old (c.in-Ok.code ∷ []) ∙ ap (λ k. k + 1) c.loop-arm.invariant.count;
      fit = subst P (sym next) (subst Q (sym pushed) (zip_and_last R (take i arms) old arm c.in-Ok.code c.loop-arm.invariant.fit c.in-Ok.ensures.fits));
      sendable = all_of_next IsSendable arms i arm within c.arm-item.is c.in-Ok.ensures.sendable c.loop-arm.invariant.sendable;
    }

pub returns-clause-sendable : goal.returns-clause-sendable
returns-clause-sendable c =
    let P : List ProtocolValue → Type 0 = λ l. All IsSendable l in
    subst P (take_all c.loop-arm.arm-index c.args.arms.now (omega (arith, c.loop-arm-test.false, c.loop-arm.auto.arm-index-end))) c.loop-arm.invariant.sendable
