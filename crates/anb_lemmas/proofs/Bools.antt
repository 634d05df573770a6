-- Tests that are joined or turned round.
use Rattle.std.proofs.Common.{◌≡◌, ◌||◌, Bool, true, false, refl, ◌&&◌}
use Rattle.std.specs.Prelude.{not}

pub or_false : (b : Bool) → (b || false) ≡ b
or_false true = refl
or_false false = refl

pub or_true : (b : Bool) → (b || true) ≡ true
or_true true = refl
or_true false = refl

pub or_assoc : (a b c : Bool) → ((a || b) || c) ≡ (a || (b || c))
or_assoc true b c = refl
or_assoc false b c = refl

pub or_without : (a b : Bool) → b ≡ false → (a || b) ≡ a
or_without true b e = refl
or_without false b e = e

pub never_both : (b : Bool) → b ≡ true → b ≡ false → ⊥
never_both true e f = cc
never_both false e f = cc

pub not_from_never : (b : Bool) → (b ≡ true → ⊥) → not b ≡ true
not_from_never true h = absurd (h refl)
not_from_never false h = refl

pub never_from_not : (b : Bool) → not b ≡ true → b ≡ true → ⊥
never_from_not true e f = cc
never_from_not false e f = cc

pub last_of_and : (a b : Bool) → (a && b) ≡ true → b ≡ true
last_of_and true b e = e
last_of_and false b e = cc

pub first_of_and : (a b : Bool) → (a && b) ≡ true → a ≡ true
first_of_and true b e = refl
first_of_and false b e = e
