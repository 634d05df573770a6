-- The first of some things that is wrong, one step on.
use Rattle.std.proofs.Common.{◌≡◌, ℕ, ◌+◌, ◌<◌, List, length, map, take, drop, get_or, ap, sym, ◌∙◌, subst, Bool, true, false, Option, Some, None}
use Rattle.std.specs.Option.{option_or}
use Rattle.std.specs.List.{AllByRecursion}
use Rattle.anb_lemmas.proofs.Lists.{map_drop_next}
use Rattle.anb_protocol.specs.Choices.{refuse_if, first, first_after}
use Rattle.anb_protocol.proofs.Afters.{first_step}

module _ {X R : Type 0} (f : List X → X → Option R) (xs : List X) (i : ℕ) (x : X) (total : Option R) (h : i < length xs) (e : x ≡ get_or xs i x) where
  -- it is this one
  pub first_here : (r : R) → f (take i xs) x ≡ Some r → first_after f (take i xs) (drop i xs) ≡ total → Some r ≡ total
  first_here r w inv = sym (first_step f xs i x h e ∙ ap (λ o. option_or o (first_after f (take (i + 1) xs) (drop (i + 1) xs))) w) ∙ inv

  -- it isn't this one
  pub first_next : f (take i xs) x ≡ None → first_after f (take i xs) (drop i xs) ≡ total → first_after f (take (i + 1) xs) (drop (i + 1) xs) ≡ total
  first_next w inv = sym (first_step f xs i x h e ∙ ap (λ o. option_or o (first_after f (take (i + 1) xs) (drop (i + 1) xs))) w) ∙ inv

pub refuses : {R : Type 0} (b : Bool) (r : R) → b ≡ true → refuse_if b r ≡ Some r
refuses b r e = ap (λ v. refuse_if v r) e

pub passes : {R : Type 0} (b : Bool) (r : R) → b ≡ false → refuse_if b r ≡ None
passes b r e = ap (λ v. refuse_if v r) e

module _ {X Y R : Type 0} (f : Y → Option R) (g : X → Y) (xs : List X) (i : ℕ) (x : X) (total : Option R) (h : i < length xs) (e : x ≡ get_or xs i x) (inv : first f (map g (drop i xs)) ≡ total) where
  step : option_or (f (g x)) (first f (map g (drop (i + 1) xs))) ≡ total
  step = sym (ap (first f) (map_drop_next g xs i x h e)) ∙ inv

  -- it is this one
  pub plain_here : (r : R) → f (g x) ≡ Some r → Some r ≡ total
  plain_here r w = sym (ap (λ o. option_or o (first f (map g (drop (i + 1) xs)))) w) ∙ step

  -- it isn't this one
  pub plain_next : f (g x) ≡ None → first f (map g (drop (i + 1) xs)) ≡ total
  plain_next w = sym (ap (λ o. option_or o (first f (map g (drop (i + 1) xs)))) w) ∙ step

pub all_rest : {X Y : Type 0} (P : Y → Type 0) (g : X → Y) (xs : List X) (i : ℕ) (x : X) → i < length xs → x ≡ get_or xs i x
    → AllByRecursion P (map g (drop i xs)) → P (g x) × AllByRecursion P (map g (drop (i + 1) xs))
all_rest {X} {Y} P g xs i x h e a = let Q : List Y → Type 0 = λ l. AllByRecursion P l in subst Q (map_drop_next g xs i x h e) a
