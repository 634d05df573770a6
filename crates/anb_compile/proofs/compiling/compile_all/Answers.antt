use Rattle.std.proofs.Common.{◌≡◌, ℕ, ◌+◌, ◌<◌, List, [], ◌∷◌, Option, Some, None, length, length-append, sym, ap, ◌∙◌, subst, arith, below_more}
use Rattle.std.specs.Prelude.{slice_get}
use Rattle.anb_algebra.specs.ByteMeaning.{has_operator}
use Rattle.anb_code.specs.CodeValue.{CodeValue}
use Rattle.anb_plays.specs.Plans.{Sendable}
use Rattle.anb_protocol.specs.Plays.{events_of}
use Rattle.anb_protocol.specs.Protocols.{ProtocolValue}
use Rattle.anb_compile.specs.declared.compiling.Unsent.{Unsent}
use Rattle.anb_compile.specs.declared.refusal.CompileNo.{CompileNo}
use Rattle.anb_compile.specs.Unsent.{IsFirstUnsent, RefusesRole}
use Rattle.anb_compile.specs.Refusing.{IsSoonest}
use Rattle.anb_compile.proofs.Roles.{IsCode, one_more_code, still_soonest}
use Rattle.anb_compile.proofs.compiling.compile_all.Goals as goal
use Rattle.anb_compile.proofs.compiling.compile_all.Goals.{in-Ok+in_ok-push-in-Ok, in-Err-CannotSend}

Far : ProtocolValue → ℕ → List CodeValue → Option Unsent → Type 0
Far p n codes first = IsSoonest p n first × (first ≡ None → length codes ≡ n) × (first ≡ None → (r : ℕ) (x : CodeValue) → slice_get codes r ≡ Some x → IsCode p r x)
    × (first ≡ None → (r : ℕ) → r < n → Sendable (has_operator p.formats) (events_of p r))

pub loop-role-preserved : goal.loop-role-preserved
unfolding Far
loop-role-preserved c =
    let p = c.args.p.now in
    let n = c.loop-role.role in
    let v = c.loop-role.invariant in
    let go : Far p (n + 1) c.match-compile.codes.items c.match-compile.first = elim c.match-compile.branch [
      | in-Ok+in_ok-push-in-Ok w ↦
          let e = w.in-Ok.ensures in
          let code = w.in-Ok.code in
          let before = c.loop-role.codes.items in
          let pushed = w.in_ok-push-in-Ok.ensures.items in
          let P : List CodeValue → Type 0 = λ l. Far p (n + 1) l c.match-compile.first in
          let Q : Option Unsent → Type 0 = λ o. Far p (n + 1) w.push.new.self.items o in
          subst P (sym (ap (λ q. q.items) w.codes-is)) (subst Q (sym w.first-is) (
            still_soonest p n c.loop-role.first e.sent v.soonest,
            λ h. ap length pushed ∙ length-append before (code ∷ []) ∙ ap (λ k. k + 1) (v.count h),
            λ h. one_more_code p before w.push.new.self.items n code (v.count h) pushed (e.fits, e.few, e.once) (v.each h),
            λ h. below_more (λ r. Sendable (has_operator p.formats) (events_of p r)) n (v.sendable h) e.sendable,
          ))
      | in-Err-CannotSend w ↦
          let R : CompileNo → Type 0 = λ x. RefusesRole p n x in
          let e = subst R w.in-Err-CannotSend.field-0-is w.in-Err-CannotSend.ensures.refused in
          let S : ℕ → Type 0 = λ k. IsSoonest p k c.loop-role.first in
          let F : ℕ → Type 0 = λ k. IsFirstUnsent p k w.in-Err-CannotSend.action in
          let T : ℕ → Type 0 = λ k. IsSoonest p (k + 1) (Some w.sooner.result) in
          let first = subst T e.0 (w.sooner.ensures p (subst S (sym e.0) v.soonest) (subst F (sym e.0) e.1)) in
          let Q : Option Unsent → Type 0 = λ o. Far p (n + 1) c.match-compile.codes.items o in
          subst Q (sym w.first-is) (first, λ h. cc, λ h. cc, λ h. cc)
    ] in
    record { soonest = go.0; count = go.1; each = go.2; sendable = go.3 }

pub returns-in-None-clause-sent : goal.returns-in-None-clause-sent
returns-in-None-clause-sent c role action h =
    let v = c.loop-role.invariant in
    let S : Option Unsent → Type 0 = λ o. IsSoonest c.args.p.now c.loop-role.role o in
    let all = subst S c.in-None.is v.soonest in
    all role action (omega (arith, h, c.count_roles-role-end.ensures, c.loop-role-test.false))

pub returns-in-Some-clause-refused : goal.returns-in-Some-clause-refused
returns-in-Some-clause-refused c =
    let v = c.loop-role.invariant in
    let n = c.count_roles-role-end.ensures in
    let end = c.loop-role.auto.role-end in
    let S : Option Unsent → Type 0 = λ o. IsSoonest c.args.p.now c.loop-role.role o in
    let a = subst S c.in-Some.is v.soonest in
    record {
      is_role = omega (arith, a.0, n, end);
      unsent = a.1;
      first = λ sender other h less. a.2 sender other (omega (arith, h, n, c.loop-role-test.false)) less;
    }
