-- The error of a result, where there is one.
use Rattle.std.proofs.Common.{◌≡◌, Option, Result, Ok, Err, IfSome}
use Rattle.std.specs.Option.{IfNone}
use Rattle.std.specs.Result.{OnOk, IfErr, result_err}

module _ {T E : Type 0} where
  pub no_error : (r : Result T E) (o : Option E) (A B : Type 0) → o ≡ result_err r → OnOk r A → (A → B) → IfNone o B
  no_error (Ok x) o A B e h f = rw e (f h)
  no_error (Err y) o A B e h f = rw e tt

  pub no_error_twice : (r : Result T E) (o : Option E) (A B C : Type 0) → o ≡ result_err r → OnOk r A → OnOk r B → (A → B → C) → IfNone o C
  no_error_twice (Ok x) o A B C e a b f = rw e (f a b)
  no_error_twice (Err y) o A B C e a b f = rw e tt

  pub an_error : (r : Result T E) (o : Option E) (P Q : E → Type 0) → o ≡ result_err r → IfErr r P → ((y : E) → P y → Q y) → IfSome o Q
  an_error (Ok x) o P Q e h f = rw e tt
  an_error (Err y) o P Q e h f = rw e (f y h)
