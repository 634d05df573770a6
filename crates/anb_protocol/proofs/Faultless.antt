-- What holds where a check finds nothing.
use Rattle.std.proofs.Common.{◌≡◌, ℕ, ◌≤◌, List, [], ◌∷◌, refl, Bool, true, false, Option, None}
use Rattle.std.specs.Prelude.{nat_lt}
use Rattle.std.specs.List.{AllByRecursion}
use Rattle.std.proofs.lemmas.Bool.{ltb-false}
use Rattle.anb_lemmas.proofs.Options.{or_is_none}
use Rattle.anb_protocol.specs.declared.refusals.Kind.{Kind}
use Rattle.anb_protocol.specs.Choices.{refuse_if, first}
use Rattle.anb_protocol.specs.Checks.{above, first_fault, limit_checks, name_checks, format_checks, protocol_checks, fault, IsWellFormed}
use Rattle.anb_protocol.specs.Protocols.{protocol_of}
use Rattle.anb_syntax.specs.Grammar.{Narration}

pub refused_none : {R : Type 0} (b : Bool) (r : R) → refuse_if b r ≡ None → b ≡ false
refused_none true r e = absurd (cc)
refused_none false r e = refl

pub at_most : (most : ℕ) (kind : Kind) (count : ℕ) → above most kind count ≡ None → count ≤ most
at_most most kind count e = let b = refused_none (nat_lt most count) _ e in ltb-false most count b

-- nothing is wrong with any of these
pub first_none : {X R : Type 0} (f : X → Option R) (xs : List X) → first f xs ≡ None → AllByRecursion (λ x. f x ≡ None) xs
first_none f [] e = tt
first_none f (x ∷ xs) e = let h = or_is_none (f x) (first f xs) e in (h.0, first_none f xs h.1)

pub all_both : {X : Type 0} (P Q : X → Type 0) (xs : List X) → AllByRecursion P xs → AllByRecursion Q xs → AllByRecursion (λ x. P x × Q x) xs
all_both P Q [] a b = tt
all_both P Q (x ∷ xs) a b = ((a.0, b.0), all_both P Q xs a.1 b.1)

-- the stages of a narration that is well formed
pub record IsFaultless (least most : ℕ) (n : Narration) : Type 0 where
  pub limits : first_fault limit_checks n ≡ None
  pub names : first_fault name_checks n ≡ None
  pub formats : first_fault format_checks n ≡ None
  pub protocol : first_fault (protocol_checks least most) (protocol_of n) ≡ None

pub stages : (least most : ℕ) (n : Narration) → IsWellFormed least most n → IsFaultless least most n
unfolding fault
stages least most n e =
    let a = or_is_none (first_fault limit_checks n) _ e in
    let b = or_is_none (first_fault name_checks n) _ a.1 in
    let d = or_is_none (first_fault format_checks n) _ b.1 in
    record { limits = a.0; names = b.0; formats = d.0; protocol = d.1 }
