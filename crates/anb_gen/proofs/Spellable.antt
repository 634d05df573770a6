-- The narration of a drill can be written.
use Rattle.std.proofs.Common.{◌≡◌, ℕ, zero, suc, ◌+◌, ◌-◌, ◌<◌, ◌≤◌, ◌^◌, ◌%◌, List, [], ◌∷◌, map, Bool, true, false, refl, ◌∙◌, arith, add-one}
use Rattle.std.specs.Prelude.{◌==◌, ◌&&◌, nat_le, decimal, codes}
use Rattle.std.specs.List.{list_all, range_with_len}
use Rattle.std.proofs.lemmas.Fmt.{decimal_by_steps}
use Rattle.std.proofs.lemmas.List.Folds.{list_all-append}
use Rattle.std.proofs.lemmas.Bool.Decides.{leb_tells}
use Rattle.std.proofs.lemmas.Bool.{and_parts}
use Rattle.anb_lemmas.proofs.Each.{each_in_both}
use Rattle.anb_base.specs.Bytes.{IsBytes}
use Rattle.anb_syntax.specs.Words.{is_name, is_name_byte}
use Rattle.anb_syntax.specs.Grammar.{IsName, AreNames, IsTree, IsActionItem, IsSpellable, ActionItem, fits_tree}
use Rattle.anb_gen.specs.Drill.{number_name, exchange_message, exchange, drill_narration}
use Rattle.anb_gen.proofs.Each.{over_range, either_way}

abbrev is_digit : ℕ → Bool
is_digit b = nat_le 48 b && nat_le b 57

digit : (n : ℕ) → n < 10 → is_digit (48 + n) ≡ true
digit n h = grind (arith, leb_tells)

digits : (n : ℕ) → n < 2 ^ 64 → list_all is_digit (decimal n) ≡ true
digits =
    decimal_by_steps (λ (n : ℕ) (ds : List ℕ). list_all is_digit ds ≡ true)
    (λ n h. rw (digit n h) refl)
    (λ n ds h e. list_all-append is_digit ds _ ∙ rw (e, digit (n % 10) (omega arith)) refl)

not_a_letter : (d : ℕ) → is_digit d ≡ true → (d == 117) ≡ false
not_a_letter d e = grind (arith, leb_tells)

in_names : (d : ℕ) → is_digit d ≡ true → is_name_byte d ≡ true
in_names d e = grind (arith, leb_tells)

all_in_names : (ds : List ℕ) → list_all is_digit ds ≡ true → list_all is_name_byte ds ≡ true
all_in_names [] e = refl
all_in_names (d ∷ ds) e =
    let p = and_parts (is_digit d) (list_all is_digit ds) e in
    rw (in_names d p.0, all_in_names ds p.1) refl

numbered : (ds : List ℕ) → list_all is_digit ds ≡ true → is_name (78 ∷ ds) ≡ true
unfolding is_name
numbered [] e = refl
numbered (d ∷ ds) e =
    let p = and_parts (is_digit d) (list_all is_digit ds) e in
    rw (in_names d p.0, all_in_names ds p.1, not_a_letter d p.0) refl

number : (i : ℕ) → i < 2 ^ 64 → IsName (number_name i)
number i small = numbered (decimal i) (digits i small)

numbers : (n : ℕ) → n ≤ 200 → AreNames (map number_name (range_with_len 0 (n + 1)))
numbers n h = rw (add-one n) (number 0 (omega arith), over_range IsName number_name 1 n (λ i lt. number i (omega arith)))

message : (i : ℕ) → i < 2 ^ 64 → IsTree (exchange_message i)
unfolding is_name
message i small = (refl, (refl, (number i small, (number (i - 1) (omega arith), tt))))

an_exchange : (i : ℕ) → i < 2 ^ 64 → IsActionItem (exchange i)
unfolding is_name
an_exchange i small = either_way IsActionItem i (refl, refl, message i small) (refl, refl, message i small)

exchanges_fit : (is : List ℕ) → list_all (λ (a : ActionItem). fits_tree 64 a.message) (map exchange is) ≡ true
exchanges_fit [] = refl
exchanges_fit (i ∷ is) =
    let one : fits_tree 64 (exchange i).message ≡ true = either_way (λ a. fits_tree 64 a.message ≡ true) i refl refl in
    rw (one, exchanges_fit is) refl

head_is_bytes : IsBytes (codes "P")
head_is_bytes zero = omega arith
head_is_bytes (suc i) = omega arith

pub spellable : (n : ℕ) → n ≤ 200 → IsSpellable (drill_narration n)
unfolding drill_narration is_name
spellable n h = record {
  valid = record {
    title = refl;
    types = ((refl, (refl, tt)), (numbers n h, ((refl, (refl, tt)), tt)));
    formats = ((refl, (head_is_bytes, (tt, (tt, tt)))), tt);
    knows = ((refl, (refl, (refl, (refl, tt)))), ((refl, (refl, (refl, (refl, tt)))), tt));
    actions = ((refl, refl, (refl, number 0 (omega arith))), each_in_both IsActionItem (map exchange (range_with_len 1 n)) _ (over_range IsActionItem exchange 1 n (λ i lt. an_exchange i (omega arith))) ((refl, refl, refl), tt));
  };
  fit = list_all-append (λ (a : ActionItem). fits_tree 64 a.message) (map exchange (range_with_len 1 n)) _ ∙ rw (exchanges_fit (range_with_len 1 n)) refl;
}
