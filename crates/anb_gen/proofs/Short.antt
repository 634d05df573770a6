-- The canonical text of the narration of a drill is short.
use Rattle.std.proofs.Common.{◌≡◌, ℕ, zero, suc, ◌+◌, ◌-◌, ◌*◌, ◌<◌, ◌≤◌, List, [], ◌∷◌, ◌++◌, map, length, refl, ap, ◌∙◌, arith, length-append, add-one}
use Rattle.std.specs.Prelude.{codes}
use Rattle.std.specs.List.{flat_map, range_with_len}
use Rattle.std.proofs.lemmas.Grind.{flat_map-append}
use Rattle.anb_syntax.specs.declared.narration.Sort.TheVariants.{Key}
use Rattle.anb_syntax.specs.Words.{name, end, colon, semicolon, protocol_word, types_word, actions_word}
use Rattle.anb_syntax.specs.Canon.{Laid, word_bytes, laid_bytes, all_bytes, at_once, spaced, on_line, lay_comma_name, lay_type, lay_formats, lay_knows, lay_action, lay, canon}
use Rattle.anb_gen.specs.Drill.{role_names, number_name, drill_types, pair_format, drill_know, exchange, opening, closing, drill_actions, drill_narration}
use Rattle.anb_gen.proofs.Each.{either_way}
use Rattle.anb_gen.proofs.Small.{number_len}

-- how many bytes these words take, with what stands before each
abbrev total : List Laid → ℕ
total [] = 0
total (p ∷ ps) = length p.gap + (length (word_bytes p.word) + total ps)

total_bytes : (ps : List Laid) → length (all_bytes ps) ≡ total ps
total_bytes [] = refl
total_bytes (p ∷ ps) = omega (arith, length-append (laid_bytes p) (all_bytes ps), length-append p.gap (word_bytes p.word), total_bytes ps)

total_both : (ps qs : List Laid) → total (ps ++ qs) ≡ total ps + total qs
total_both [] qs = omega arith
total_both (p ∷ ps) qs = omega (arith, total_both ps qs)

all_within : {X : Type 0} (f : X → List Laid) (g : ℕ → X) (most a n : ℕ) → ((i : ℕ) → i < a + n → total (f (g i)) ≤ most)
    → total (flat_map f (map g (range_with_len a n))) ≤ n * most
all_within f g most a zero h = omega arith
all_within f g most a (suc n) h =
    let one = h a (omega arith) in
    let rest = all_within f g most (a + 1) n (λ i lt. h i (omega arith)) in
    let all = total_both (f (g a)) (flat_map f (map g (range_with_len (a + 1) n))) in
    grind arith

-- the first, those between, and the last
total_all : {X : Type 0} (f : X → List Laid) (x : X) (xs : List X) (y : X) → total (flat_map f (x ∷ xs ++ y ∷ [])) ≡ total (f x) + (total (flat_map f xs) + total (flat_map f (y ∷ [])))
total_all f x xs y =
    total_both (f x) (flat_map f (xs ++ y ∷ []))
    ∙ ap (λ k. total (f x) + k) (ap total (flat_map-append f xs (y ∷ [])) ∙ total_both (flat_map f xs) (flat_map f (y ∷ [])))

an_exchange : (i : ℕ) → i ≤ 200 → total (lay_action (exchange i)) ≤ 41
an_exchange i h =
    let p = number_len i h in
    let q = number_len (i - 1) (omega arith) in
    either_way (λ a. total (lay_action a) ≤ 41) i (omega (arith, p, q)) (omega (arith, p, q))

actions : (n : ℕ) → n ≤ 200 → total (flat_map lay_action (drill_actions n)) ≤ n * 41 + 80
actions n h =
    let closed : total (flat_map lay_action (closing ∷ [])) ≤ 40 = omega arith in
    let opened : total (lay_action opening) ≤ 40 = omega (arith, number_len 0 (omega arith)) in
    let between = all_within lay_action exchange 41 1 n (λ i lt. an_exchange i (omega arith)) in
    let all = total_all lay_action opening (map exchange (range_with_len 1 n)) closing in
    omega (arith, all, between, closed, opened)

numbers : (n : ℕ) → n ≤ 200 → total (flat_map lay_comma_name (map number_name (range_with_len 1 n))) ≤ n * 6
numbers n h = all_within lay_comma_name number_name 6 1 n (λ i lt. omega (arith, number_len i (omega arith)))

types : (n : ℕ) → n ≤ 200 → total (flat_map lay_type (drill_types n)) ≤ n * 6 + 80
types n h = rw (add-one n) (
    let others = flat_map lay_comma_name (map number_name (range_with_len 1 n)) in
    let keys = flat_map lay_type (record { sort = Key; names = codes "K" ∷ codes "L" ∷ [] } ∷ []) in
    omega (arith, total_both (others ++ at_once semicolon ∷ []) keys, total_both others (at_once semicolon ∷ []), numbers n h, number_len 0 (omega arith))
    )

-- the sections of a narration
sections : (title : List ℕ) (types formats knows actions : List Laid)
    → total (at_once (name protocol_word) ∷ at_once colon ∷ spaced (name title) ∷ at_once semicolon ∷ (on_line (name types_word) ∷ at_once colon ∷ types
    ++ (formats ++ (knows ++ (on_line (name actions_word) ∷ at_once colon ∷ actions ++ on_line end ∷ [])))))
    ≤ length title + (total types + (total formats + (total knows + total actions))) + 40
sections title types formats knows actions =
    let last = on_line (name actions_word) ∷ at_once colon ∷ actions ++ on_line end ∷ [] in
    omega (arith, total_both types (formats ++ (knows ++ last)), total_both formats (knows ++ last), total_both knows last, total_both actions (on_line end ∷ []))

pub short : (n : ℕ) → n ≤ 200 → length (canon (drill_narration n)) ≤ 16384
unfolding drill_narration
short n h =
    let all = sections (codes "Drill") (flat_map lay_type (drill_types n)) (lay_formats (pair_format ∷ [])) (lay_knows (map drill_know role_names)) (flat_map lay_action (drill_actions n)) in
    omega (arith, total_bytes (lay (drill_narration n)), all, types n h, actions n h)
