-- The names of a drill: they all differ, and each that is used is declared and used as it should be.
use Rattle.std.proofs.Common.{◌≡◌, ℕ, zero, suc, ◌+◌, ◌-◌, ◌<◌, ◌≤◌, List, [], ◌∷◌, ◌++◌, length, map, true, false, refl, sym, ap, ◌∙◌, arith, codes}
use Rattle.std.specs.Prelude.{◌≢◌, ◌||◌, decimal}
use Rattle.std.specs.List.{AllByRecursion, flat_map, range_with_len}
use Rattle.std.specs.Str.{bytes_eq}
use Rattle.std.proofs.lemmas.Fmt.{decimal_injective, length-decimal-le}
use Rattle.std.proofs.lemmas.Bool.{or_right, or_left}
use Rattle.anb_index.specs.Places.{among}
use Rattle.anb_lemmas.proofs.Each.{each_in_both}
use Rattle.anb_lemmas.proofs.Items.{bytes_eq-same}
use Rattle.anb_syntax.specs.Grammar.{ActionItem}
use Rattle.anb_gen.specs.Drill.{closing, drill_actions, drill_know, drill_narration, exchange, number_name, role_names}
use Rattle.anb_gen.proofs.Each.{either_way}
use Rattle.anb_protocol.specs.Checks.{is_miscounted, is_missorted}
use Rattle.anb_protocol.specs.Names.{Use, as_atom, as_format, as_role, used_name, action_uses, atoms, declared_names, know_uses, uses}
use Rattle.anb_protocol.proofs.Afters.{any-append}
use Rattle.anb_protocol.proofs.Distinct.{AllApart}
use Rattle.anb_drill.proofs.Lists.{over_flat, over_from}

-- ---- the names differ

same_digits : (i j : ℕ) → number_name i ≡ number_name j → decimal i ≡ decimal j
same_digits i j e = cc

pub numbers_differ : (i j : ℕ) → i < j → j ≤ 200 → number_name i ≢ number_name j
numbers_differ i j less most = λ e. let same = decimal_injective i j (omega (arith, less, most)) (omega (arith, most)) (same_digits i j e) in omega (arith, same, less)

not_number : (x : ℕ) (rest digits : List ℕ) → x ∷ rest ≡ 78 ∷ digits → x ≡ 78
not_number x rest digits e = cc

-- a word that begins with another letter is no number's name
pub other_than_numbers : (x : ℕ) (rest : List ℕ) (i : ℕ) → (x ≡ 78 → ⊥) → (x ∷ rest) ≢ number_name i
other_than_numbers x rest i other = λ e. other (not_number x rest (decimal i) e)

-- all of them
abbrev pub numbers : ℕ → ℕ → List (List ℕ)
numbers from count = map number_name (range_with_len from count)

abbrev pub last_names : List (List ℕ)
last_names = codes "K" ∷ codes "L" ∷ codes "p" ∷ []

others : (x : ℕ) (rest : List ℕ) (from count : ℕ) → (x ≡ 78 → ⊥) → AllByRecursion (λ y. (x ∷ rest) ≢ y) (numbers from count)
others x rest from count other = over_from (λ y. (x ∷ rest) ≢ y) number_name from count (λ i _ _. other_than_numbers x rest i other)

apart_both : (xs ys : List (List ℕ)) → AllApart xs → AllApart ys → AllByRecursion (λ x. AllByRecursion (λ y. x ≢ y) ys) xs → AllApart (xs ++ ys)
apart_both [] ys one other across = other
apart_both (x ∷ xs) ys one other across = (each_in_both (λ y. x ≢ y) xs ys one.0 across.0, apart_both xs ys one.1 other across.1)

numbers_apart : (from count : ℕ) → from + count ≤ 201 → AllApart (numbers from count)
numbers_apart from zero most = tt
numbers_apart from (suc count) most = (
  over_from (λ y. number_name from ≢ y) number_name (from + 1) count (λ i above below. numbers_differ from i (omega (arith, above)) (omega (arith, below, most))),
  numbers_apart (from + 1) count (omega (arith, most)),
)

apart_letters : (x y : ℕ) → (x ≡ y → ⊥) → (x ∷ []) ≢ (y ∷ [])
apart_letters x y other = λ e. other (let same : x ≡ y = cc in same)

last_apart : AllApart last_names
last_apart = ((apart_letters 75 76 (λ e. omega (arith, e)), (apart_letters 75 112 (λ e. omega (arith, e)), tt)), ((apart_letters 76 112 (λ e. omega (arith, e)), tt), (tt, tt)))

number_other : (i : ℕ) → AllByRecursion (λ y. number_name i ≢ y) last_names
number_other i =
    ((λ e. other_than_numbers 75 [] i (λ f. omega (arith, f)) (sym e)), ((λ e. other_than_numbers 76 [] i (λ f. omega (arith, f)) (sym e)), ((λ e. other_than_numbers 112 [] i (λ f. omega (arith, f)) (sym e)), tt)))

pub behind_roles_apart : (n : ℕ) → n ≤ 200 → AllApart (numbers 0 (n + 1) ++ last_names)
behind_roles_apart n most =
    apart_both (numbers 0 (n + 1)) last_names (numbers_apart 0 (n + 1) (omega (arith, most))) last_apart
    (over_from (λ x. AllByRecursion (λ y. x ≢ y) last_names) number_name 0 (n + 1) (λ i _ _. number_other i))

role_other : (x : ℕ) (n : ℕ) → (x ≡ 78 → ⊥) → (x ≡ 75 → ⊥) → (x ≡ 76 → ⊥) → (x ≡ 112 → ⊥) → AllByRecursion (λ y. (x ∷ []) ≢ y) (numbers 0 (n + 1) ++ last_names)
role_other x n a b d e =
    each_in_both (λ y. (x ∷ []) ≢ y) (numbers 0 (n + 1)) last_names (others x [] 0 (n + 1) a) (apart_letters x 75 b, (apart_letters x 76 d, (apart_letters x 112 e, tt)))

abbrev pub all_declared : ℕ → List (List ℕ)
all_declared n = codes "A" ∷ codes "B" ∷ (numbers 0 (n + 1) ++ last_names)

pub declared_apart : (n : ℕ) → n ≤ 200 → AllApart (all_declared n)
declared_apart n most =
    ((apart_letters 65 66 (λ e. omega (arith, e)), role_other 65 n (λ e. omega (arith, e)) (λ e. omega (arith, e)) (λ e. omega (arith, e)) (λ e. omega (arith, e))), (role_other 66 n (λ e. omega (arith, e)) (λ e. omega (arith, e)) (λ e. omega (arith, e)) (λ e. omega (arith, e)), behind_roles_apart n most))

assoc : (xs ys zs : List (List ℕ)) → (xs ++ ys) ++ zs ≡ xs ++ (ys ++ zs)
assoc [] ys zs = refl
assoc (x ∷ xs) ys zs = ap (λ l. x ∷ l) (assoc xs ys zs)

pub declared_are : (n : ℕ) → declared_names (drill_narration n) ≡ all_declared n
unfolding drill_narration
declared_are n = ap (λ l. codes "A" ∷ codes "B" ∷ l) (assoc (numbers 0 (n + 1)) (codes "K" ∷ codes "L" ∷ []) (codes "p" ∷ []))

-- ---- what is used

-- a use that is right
pub record IsRight (n : ℕ) (u : Use) : Type 0 where
  pub short : length (used_name u) ≤ 64
  pub declared : among (all_declared n) (used_name u) ≡ true
  pub sorted : is_missorted (atoms (drill_narration n)) (drill_narration n).formats u ≡ false
  pub counted : is_miscounted (drill_narration n).formats u ≡ false

behind_numbers : (n : ℕ) (x : List ℕ) → among last_names x ≡ true → among (numbers 0 (n + 1) ++ last_names) x ≡ true
behind_numbers n x e = any-append (λ y. bytes_eq y x) (numbers 0 (n + 1)) last_names ∙ or_right (among (numbers 0 (n + 1)) x) (among last_names x) e

among_numbers : (from count j : ℕ) → j < count → among (numbers from count) (number_name (from + j)) ≡ true
among_numbers from zero j below = absurd (omega (arith, below))
among_numbers from (suc count) zero below =
    let e : from + 0 ≡ from = omega arith in
    or_left (bytes_eq (number_name from) (number_name (from + 0))) (among (numbers (from + 1) count) (number_name (from + 0))) (ap (λ i. bytes_eq (number_name from) (number_name i)) e ∙ bytes_eq-same (number_name from))
among_numbers from (suc count) (suc j) below =
    let e : from + suc j ≡ from + 1 + j = omega arith in
    or_right (bytes_eq (number_name from) (number_name (from + suc j))) (among (numbers (from + 1) count) (number_name (from + suc j)))
    (ap (λ i. among (numbers (from + 1) count) (number_name i)) e ∙ among_numbers (from + 1) count j (omega (arith, below)))

among_all : (n : ℕ) (x : List ℕ) → among (numbers 0 (n + 1) ++ last_names) x ≡ true → among (all_declared n) x ≡ true
among_all n x e =
    or_right (bytes_eq (codes "A") x) (bytes_eq (codes "B") x || among (numbers 0 (n + 1) ++ last_names) x) (or_right (bytes_eq (codes "B") x) (among (numbers 0 (n + 1) ++ last_names) x) e)

number_declared : (n i : ℕ) → i ≤ n → among (all_declared n) (number_name i) ≡ true
number_declared n i within =
    let e : 0 + i ≡ i = omega arith in
    let there : among (numbers 0 (n + 1)) (number_name i) ≡ true = ap (λ k. among (numbers 0 (n + 1)) (number_name k)) (sym e) ∙ among_numbers 0 (n + 1) i (omega (arith, within)) in
    among_all n (number_name i) (any-append (λ y. bytes_eq y (number_name i)) (numbers 0 (n + 1)) last_names ∙ or_left (among (numbers 0 (n + 1)) (number_name i)) (among last_names (number_name i)) there)

behind_roles : (n : ℕ) (x : List ℕ) → among last_names x ≡ true → among (all_declared n) x ≡ true
behind_roles n x e = among_all n x (behind_numbers n x e)

right_a : (n : ℕ) → IsRight n (as_role (codes "A"))
unfolding drill_narration
right_a n = record { short = omega arith; declared = refl; sorted = refl; counted = refl }

right_b : (n : ℕ) → IsRight n (as_role (codes "B"))
unfolding drill_narration
right_b n = record { short = omega arith; declared = refl; sorted = refl; counted = refl }

atom_a : (n : ℕ) → IsRight n (as_atom (codes "A"))
unfolding drill_narration
atom_a n = record { short = omega arith; declared = refl; sorted = refl; counted = refl }

atom_b : (n : ℕ) → IsRight n (as_atom (codes "B"))
unfolding drill_narration
atom_b n = record { short = omega arith; declared = refl; sorted = refl; counted = refl }

atom_k : (n : ℕ) → IsRight n (as_atom (codes "K"))
unfolding drill_narration
atom_k n = record { short = omega arith; declared = behind_roles n (codes "K") refl; sorted = refl; counted = refl }

atom_l : (n : ℕ) → IsRight n (as_atom (codes "L"))
unfolding drill_narration
atom_l n = record { short = omega arith; declared = behind_roles n (codes "L") refl; sorted = refl; counted = refl }

pair : (n : ℕ) → IsRight n (as_format (codes "p") 2)
unfolding drill_narration
pair n = record { short = omega arith; declared = behind_roles n (codes "p") refl; sorted = refl; counted = refl }

pub number_short : (i : ℕ) → i ≤ 200 → length (number_name i) ≤ 64
number_short i most = omega (arith, length-decimal-le 3 i (omega (arith, most)) (omega arith) (omega arith))

number : (n i : ℕ) → i ≤ n → n ≤ 200 → IsRight n (as_atom (number_name i))
unfolding drill_narration
number n i within most = record { short = number_short i (omega (arith, within, most)); declared = number_declared n i within; sorted = refl; counted = refl }

know_right : (n : ℕ) → AllByRecursion (IsRight n) (flat_map know_uses (map drill_know role_names))
know_right n = (right_a n, (atom_a n, (atom_b n, (atom_k n, (right_b n, (atom_a n, (atom_b n, (atom_k n, tt))))))))

abbrev ActsRight : ℕ → ActionItem → Type 0
ActsRight n a = AllByRecursion (IsRight n) (action_uses a)

exchange_right : (n i : ℕ) → i ≤ n → n ≤ 200 → ActsRight n (exchange i)
exchange_right n i within most =
    let one = number n i within most in
    let before = number n (i - 1) (omega (arith, within)) most in
    either_way (ActsRight n) i (right_a n, (right_b n, (atom_k n, (pair n, (one, (before, tt)))))) (right_b n, (right_a n, (atom_k n, (pair n, (one, (before, tt))))))

actions_right : (n : ℕ) → n ≤ 200 → AllByRecursion (ActsRight n) (drill_actions n)
actions_right n most = (
  (right_a n, (right_b n, (atom_l n, (number n 0 (omega arith) most, tt)))),
  each_in_both (ActsRight n) (map exchange (range_with_len 1 n)) (closing ∷ [])
      (over_from (ActsRight n) exchange 1 n (λ i above below. exchange_right n i (omega (arith, below)) most)) ((right_a n, (right_b n, (atom_l n, tt))), tt),
)

pub uses_right : (n : ℕ) → n ≤ 200 → AllByRecursion (IsRight n) (uses (drill_narration n))
unfolding drill_narration
uses_right n most = each_in_both (IsRight n) (flat_map know_uses (map drill_know role_names)) (flat_map action_uses (drill_actions n)) (know_right n) (over_flat (IsRight n) action_uses (drill_actions n) (actions_right n most))
