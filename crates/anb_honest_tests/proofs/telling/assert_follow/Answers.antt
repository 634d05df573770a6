use Rattle.std.proofs.Common.{◌≡◌, ◌+◌, ◌<◌, ℕ, zero, suc, List, [], ◌∷◌, length, Bool, true, false, Some, refl, ap, sym, ◌∙◌, subst, arith}
use Rattle.std.specs.Prelude.{◌==◌, slice_get}
use Rattle.std.proofs.lemmas.Bool.{eqb-true, eqb-false}
use Rattle.std.proofs.lemmas.Option.{slice_get-get_or}
use Rattle.anb_code.specs.CodeValue.{CodeValue}
use Rattle.anb_compile.specs.Fitting.{FollowsRole}
use Rattle.anb_honest_tests.proofs.telling.assert_follow.Goals as goal

is_within : (xs : List CodeValue) (i : ℕ) (x : CodeValue) → slice_get xs i ≡ Some x → i < length xs
is_within [] i x e = cc
is_within (y ∷ xs) zero x e = omega arith
is_within (y ∷ xs) (suc i) x e = let less = is_within xs i x e in omega (arith, less)

pub loop-role-preserved : goal.loop-role-preserved
loop-role-preserved g c = λ role code within at. by role code within at (role == c.loop-role.role) refl where
  by : (role : ℕ) (code : CodeValue) → role < c.loop-role.role + 1 → slice_get c.args.codes.now role ≡ Some code → (b : Bool) → (role == c.loop-role.role) ≡ b → FollowsRole c.args.p.now role code
  by role code within at true e =
      let same : role ≡ c.loop-role.role = eqb-true role c.loop-role.role e in
      let there : slice_get c.args.codes.now c.loop-role.role ≡ Some c.index-codes-role.result =
      slice_get-get_or c.args.codes.now c.loop-role.role c.index-codes-role.result c.loop-role-test.true ∙ ap Some (sym c.index-codes-role.is) in
      let both : Some code ≡ Some c.index-codes-role.result = sym at ∙ ap (slice_get c.args.codes.now) same ∙ there in
      let is : code ≡ c.index-codes-role.result = cc in
      subst (λ (k : ℕ). FollowsRole c.args.p.now k code) (sym same) (subst (λ (x : CodeValue). FollowsRole c.args.p.now c.loop-role.role x) (sym is) c.in_ok-assert_follows.ensures)
  by role code within at false e = let other = eqb-false role c.loop-role.role e in c.loop-role.invariant role code (grind (arith, other, within)) at

pub returns : goal.returns
returns g c = record {
  count = c.assert_count.ensures;
  each = λ role code at. c.loop-role.invariant role code (within role code at) at;
} where
  within : (role : ℕ) (code : CodeValue) → slice_get c.args.codes.now role ≡ Some code → role < c.loop-role.role
  within role code at = let less = is_within c.args.codes.now role code at in let all = c.loop-role-test.false in omega (arith, less, all)
