use Rattle.std.proofs.Common.{◌≡◌, ◌<◌, ℕ, List, length, refl, sym, ap, ◌∙◌, subst, arith}
use Rattle.std.specs.Prelude.{slice_get, Some}
use Rattle.anb_base.specs.declared.TheConstants.{ARRIVAL, WIDE}
use Rattle.anb_term.proofs.Lists.{slice_get-at}
use Rattle.anb_code.specs.CodeValue.{CodeValue}
use Rattle.anb_code.specs.Verified.{IsVerifiedCode}
use Rattle.anb_compile.proofs.Accepting.{is_verified, parts_are}
use Rattle.anb_compile.proofs.compiling.role_code.Goals as goal

pub new-requires : goal.new-requires
new-requires c =
    let p = c.args.p.now in
    let role = c.args.role in
    let instrs = c.args.instrs.items in
    let code : CodeValue = record { protocol = c.in_ok-protocol.protocol; role = c.in_ok-name.name; suite = c.suite-suite.result; formats = c.in_ok-formats.formats.items; instrs = instrs } in
    let within : role < length c.roles.result.now = omega (arith, c.requires.role, ap length c.roles.ensures) in
    let there = slice_get-at c.roles.result.now role c.index-roles-role.result within c.index-roles-role.is in
    let P : List (List ℕ) → Type 0 = λ l. slice_get l role ≡ Some c.index-roles-role.result in
    let name = subst P c.roles.ensures there ∙ ap Some (sym c.in_ok-name.ensures) in
    let same = parts_are p role instrs code (c.in_ok-protocol.ensures ∙ c.name.ensures.name) name c.suite-suite.ensures (c.in_ok-formats.ensures ∙ c.formats.ensures) refl in
    subst (IsVerifiedCode ARRIVAL WIDE) (sym same) (is_verified p role instrs c.requires.holds c.requires.admitted)

pub returns : goal.returns
returns c =
    let p = c.args.p.now in
    let role = c.args.role in
    let e = c.in_ok-code.ensures in
    let within : role < length c.roles.result.now = omega (arith, c.requires.role, ap length c.roles.ensures) in
    let there = slice_get-at c.roles.result.now role c.index-roles-role.result within c.index-roles-role.is in
    let P : List (List ℕ) → Type 0 = λ l. slice_get l role ≡ Some c.index-roles-role.result in
    let name = subst P c.roles.ensures there ∙ ap Some (sym c.in_ok-name.ensures) ∙ ap Some (sym e.role) in
    parts_are p role c.args.instrs.items c.in_ok-code.code (e.protocol ∙ c.in_ok-protocol.ensures ∙ c.name.ensures.name) name (e.suite ∙ c.suite-suite.ensures) (e.formats ∙ c.in_ok-formats.ensures ∙ c.formats.ensures) e.instrs
