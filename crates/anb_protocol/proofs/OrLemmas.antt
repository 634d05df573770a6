-- The first of several answers.
use Rattle.std.proofs.Common.{◌≡◌, ap, Option, Some, None}
use Rattle.std.specs.Option.{option_or}

pub skip : {R : Type 0} (a b : Option R) → a ≡ None → option_or a b ≡ b
skip a b e = ap (λ o. option_or o b) e

pub stop : {R : Type 0} (a b : Option R) (r : R) → a ≡ Some r → option_or a b ≡ Some r
stop a b r e = ap (λ o. option_or o b) e
