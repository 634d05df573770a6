-- Registers: how they are written, and read again.
use Rattle.std.proofs.Common.{◌≡◌, ℕ, ◌<◌, ◌^◌, ◌%◌, ◌+◌, List, [], ◌∷◌, ◌++◌, map, true, Option, Some, None, nat_lt, refl, sym, ap, ◌∙◌, arith, subst}
use Rattle.std.specs.Prelude.{◌==◌, ◌&&◌, decimal}
use Rattle.std.specs.List.{AllByRecursion}
use Rattle.std.specs.Str.{bytes_eq}
use Rattle.std.specs.Str.Parse.{digits_value}
use Rattle.std.proofs.lemmas.Bool.{and_parts, eqb-true}
use Rattle.std.proofs.lemmas.Bool.Decides.{nat_tests}
use Rattle.std.proofs.lemmas.Fmt.{decimal_by_steps, decimal_is_IsNumeral}
use Rattle.std.proofs.lemmas.List.{append-nil}
use Rattle.std.proofs.lemmas.Option.{same_Some}
use Rattle.anb_lemmas.proofs.Options.{guard_passed}
use Rattle.anb_lemmas.proofs.Items.{bytes_eq-same}
use Rattle.anb_text.specs.Lines.{register}
use Rattle.anb_text.specs.Reading.{Front, front_of, number_if, number_of, onto, register_of}
use Rattle.anb_text.proofs.Choices.{same_bytes}
use Rattle.anb_text.proofs.Words.{IsPlain, both_all, is_plain}

-- a number of 32 bits
abbrev pub IsSmall : ℕ → Type 0
IsSmall r = r < 2 ^ 32

digits_plain : (n : ℕ) → n < 2 ^ 64 → IsPlain (decimal n)
digits_plain n small = decimal_by_steps (λ n ds. IsPlain ds)
    (λ n digit. let one : is_plain (48 + n) ≡ true = grind (arith, nat_tests) in rw one refl)
    (λ n ds more all. let one : is_plain (48 + n % 10) ≡ true = grind (arith, nat_tests) in both_all is_plain ds ((48 + n % 10) ∷ []) all (rw one refl)) n small

pub register_plain : (r : ℕ) → IsSmall r → IsPlain (register r)
register_plain r small = digits_plain r (omega arith)

pub registers_plain : (rs : List ℕ) → AllByRecursion IsSmall rs → AllByRecursion IsPlain (map register rs)
registers_plain [] all = tt
registers_plain (r ∷ rs) all = (register_plain r all.0, registers_plain rs all.1)

pub number_again : (n : ℕ) → IsSmall n → number_of (decimal n) ≡ Some n
unfolding number_of
number_again n small =
    let value : digits_value 10 (decimal n) ≡ n = (decimal_is_IsNumeral n (omega arith)).1 in
    let within : nat_lt n (2 ^ 32) ≡ true = grind (arith, nat_tests) in
    rw (value, within, bytes_eq-same (decimal n)) refl

if_number : (n m : ℕ) (digits : List ℕ) → number_if n digits ≡ Some m → (digits ≡ decimal m) × IsSmall m
if_number n m digits e =
    let k = guard_passed (nat_lt n (2 ^ 32) && bytes_eq (decimal n) digits) (Some n) m e in
    let tests = and_parts (nat_lt n (2 ^ 32)) (bytes_eq (decimal n) digits) k.0 in
    let less = tests.0 in
    let small : n < 2 ^ 32 = grind (arith, nat_tests) in
    let same : n ≡ m = same_Some n m k.1 in
    (same_bytes (decimal n) digits tests.1 ∙ ap decimal same, subst IsSmall same small)

pub number_is : (digits : List ℕ) (n : ℕ) → number_of digits ≡ Some n → (digits ≡ decimal n) × IsSmall n
unfolding number_of
number_is digits n e = if_number (digits_value 10 digits) n digits e

pub register_again : (r : ℕ) → IsSmall r → register_of (register r) ≡ Some r
register_again r small = number_again r small

pub register_is : (w : List ℕ) (r : ℕ) → register_of w ≡ Some r → (w ≡ register r) × IsSmall r
register_is [] r e = cc
register_is (b ∷ digits) r e =
    let k = guard_passed (b == 114) (number_of digits) r e in
    let n = number_is digits r k.1 in
    let first : b ≡ 114 = eqb-true b 114 k.0 in
    (cc (first, n.0), n.1)

-- no register begins the words
abbrev pub NoRegister : List (List ℕ) → Type 0
NoRegister [] = Unit {0}
NoRegister (w ∷ ws) = register_of w ≡ None

pub front_again : (rs : List ℕ) (rest : List (List ℕ)) → AllByRecursion IsSmall rs → NoRegister rest → front_of (map register rs ++ rest) ≡ record { registers = rs; rest = rest }
front_again [] [] all other = refl
front_again [] (w ∷ ws) all other = ap (λ (o : Option ℕ). onto o w ws (front_of ws)) other
front_again (r ∷ rs) rest all other =
    ap (λ (o : Option ℕ). onto o (register r) (map register rs ++ rest) (front_of (map register rs ++ rest))) (register_again r all.0)
    ∙ ap (λ (f : Front). onto (Some r) (register r) (map register rs ++ rest) f) (front_again rs rest all.1 other)

pub all_front : (rs : List ℕ) → AllByRecursion IsSmall rs → front_of (map register rs) ≡ record { registers = rs; rest = [] }
all_front rs all = ap front_of (sym (append-nil (map register rs))) ∙ front_again rs [] all tt

-- what the front of words is
pub record IsFront (words : List (List ℕ)) (front : Front) : Type 0 where
  pub stands : words ≡ map register front.registers ++ front.rest
  pub small : AllByRecursion IsSmall front.registers

onto_is : (o : Option ℕ) (w : List ℕ) (ws : List (List ℕ)) (front : Front) → register_of w ≡ o → IsFront ws front → IsFront (w ∷ ws) (onto o w ws front)
onto_is None w ws front e others = record { stands = refl; small = tt }
onto_is (Some r) w ws front e others =
    let one = register_is w r e in record {
      stands = ap (λ (v : List ℕ). v ∷ ws) one.0 ∙ ap (λ (vs : List (List ℕ)). register r ∷ vs) others.stands;
      small = (one.1, others.small);
    }

pub front_is : (ws : List (List ℕ)) → IsFront ws (front_of ws)
front_is [] = record { stands = refl; small = tt }
front_is (w ∷ ws) = onto_is (register_of w) w ws (front_of ws) refl (front_is ws)
