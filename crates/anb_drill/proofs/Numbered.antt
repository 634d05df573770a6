-- The protocol of a drill, by numbers: `A` and `B` are atoms 0 and 1, then come the numbers, `K` and `L`.
use Rattle.std.proofs.Common.{◌≡◌, ℕ, zero, suc, ◌+◌, ◌-◌, ◌%◌, ◌<◌, ◌≤◌, List, [], ◌∷◌, ◌++◌, length, map, Bool, true, false, cond, Some, refl, sym, ap, ◌∙◌, arith, codes, if◌then◌else◌}
use Rattle.std.specs.Prelude.{◌==◌, unwrap_or}
use Rattle.std.specs.List.{position_from, range_with_len}
use Rattle.std.specs.Str.{bytes_eq}
use Rattle.std.proofs.lemmas.List.{map-append}
use Rattle.anb_lemmas.proofs.Items.{bytes_eq-same, bytes_differ}
use Rattle.anb_term.specs.declared.term.Op.{Op}
use Rattle.anb_term.specs.declared.term.Op.TheVariants.{Hash, Seal, Format}
use Rattle.anb_term.specs.Tree.{Tree, leaf, node, none, more}
use Rattle.anb_syntax.specs.declared.narration.Sort.TheVariants.{Number, Key}
use Rattle.anb_gen.specs.Drill.{back, closing, drill_narration, exchange, exchange_message, forth, number_name, opening}
use Rattle.anb_protocol.specs.declared.parts.Atom.{Atom}
use Rattle.anb_protocol.specs.Names.{atoms}
use Rattle.anb_protocol.specs.Protocols.{ActionValue, atom_number, format_op, formats_of, protocol_of, resolved}
use Rattle.anb_drill.proofs.Lists.{here, not_here}
use Rattle.anb_drill.proofs.Names.{numbers, numbers_differ}
use Rattle.anb_drill.proofs.WellFormed.{actions_are, has_name, k_is, made_action, many, no_number, number_atoms}

abbrev pub mark : List ℕ → Atom
mark x = record { name = x; sort = Number }

at_number : (from count j k : ℕ) (ys : List Atom) → j < count → from + count ≤ 201 → position_from (has_name (number_name (from + j))) k (map mark (numbers from count) ++ ys) ≡ Some (k + j)
at_number from zero j k ys less most = absurd (omega (arith, less))
at_number from (suc count) zero k ys less most =
    let e : from ≡ from + 0 = omega arith in
    let z : k ≡ k + 0 = omega arith in
    here (has_name (number_name (from + 0))) k (mark (number_name from)) (map mark (numbers (from + 1) count) ++ ys) (ap (λ i. bytes_eq (number_name from) (number_name i)) (sym e) ∙ bytes_eq-same (number_name from)) ∙ ap Some z
at_number from (suc count) (suc j) k ys less most =
    let e : from + suc j ≡ from + 1 + j = omega arith in
    let z : k + 1 + j ≡ k + suc j = omega arith in
    let other : bytes_eq (number_name from) (number_name (from + suc j)) ≡ false = bytes_differ (number_name from) (number_name (from + suc j)) (numbers_differ from (from + suc j) (omega arith) (omega (arith, less, most))) in
    ap (λ b. cond b (Some k) (position_from (has_name (number_name (from + suc j))) (k + 1) (map mark (numbers (from + 1) count) ++ ys))) other
    ∙ ap (λ i. position_from (has_name (number_name i)) (k + 1) (map mark (numbers (from + 1) count) ++ ys)) e
    ∙ at_number (from + 1) count j (k + 1) ys (omega (arith, less)) (omega (arith, most)) ∙ ap Some z

abbrev pub last_atoms : List Atom
last_atoms = record { name = codes "K"; sort = Key } ∷ record { name = codes "L"; sort = Key } ∷ []

pub number_is : (n i : ℕ) → i ≤ n → n ≤ 200 → atom_number (atoms (drill_narration n)) (number_name i) ≡ 2 + i
unfolding drill_narration
number_is n i within most =
    let e : 0 + i ≡ i = omega arith in
    ap (λ o. unwrap_or o 0) (ap (λ j. position_from (has_name (number_name j)) 2 (number_atoms n ++ last_atoms)) (sym e) ∙ at_number 0 (n + 1) i 2 last_atoms (omega (arith, within)) (omega (arith, most)))

pub l_is : (n : ℕ) → atom_number (atoms (drill_narration n)) (codes "L") ≡ n + 4
unfolding drill_narration
l_is n =
    let at : 2 + length (number_atoms n) + 1 ≡ n + 4 = omega (arith, many n) in
    ap (λ o. unwrap_or o 0) (not_here (has_name (codes "L")) 2 (number_atoms n) _ (no_number 76 [] 0 (n + 1) (λ e. omega (arith, e)))) ∙ at

-- ---- the actions

abbrev pub sealed : ℕ → Tree → Tree
sealed key t = node Seal (more (leaf key) (more t none))

-- number i and the hash of the one before it
abbrev pub pair : ℕ → Tree
pair i = node (Format 0 2) (more (leaf (2 + i)) (more (node Hash (more (leaf (2 + (i - 1))) none)) none))

abbrev pub first_action : ℕ → ActionValue
first_action n = record { from = 0; to = 1; message = sealed (n + 4) (leaf 2) }

abbrev pub exchanged : ℕ → ℕ → ActionValue
exchanged n i =
    if i % 2 == 1 then record { from = 0; to = 1; message = sealed (n + 3) (pair i) }
    else record { from = 1; to = 0; message = sealed (n + 3) (pair i) }

abbrev pub last_action : ℕ → ActionValue
last_action n = record { from = 0; to = 1; message = leaf (n + 4) }

abbrev pub all_actions : ℕ → List ActionValue
all_actions n = first_action n ∷ map (exchanged n) (range_with_len 1 n) ++ last_action n ∷ []

pub pair_op : (n : ℕ) → format_op (formats_of (drill_narration n)) (codes "p") ≡ Format 0 2
unfolding drill_narration
pair_op n = refl

message_made : (n i : ℕ) → 1 ≤ i → i ≤ n → n ≤ 200 → resolved (atoms (drill_narration n)) (formats_of (drill_narration n)) (exchange_message i) ≡ sealed (n + 3) (pair i)
message_made n i above within most =
    let before : i - 1 ≤ n = omega (arith, within) in
    let a = k_is n in
    let b = number_is n i within most in
    let d = number_is n (i - 1) before most in
    ap (λ k. with_format k (atom_number (atoms (drill_narration n)) (number_name i)) (atom_number (atoms (drill_narration n)) (number_name (i - 1)))) a
    ∙ ap (λ j. with_format (n + 3) j (atom_number (atoms (drill_narration n)) (number_name (i - 1)))) b ∙ ap (with_format (n + 3) (2 + i)) d ∙ ap (λ o. sealed_pair o (n + 3) (2 + i) (2 + (i - 1))) (pair_op n)
  where
    sealed_pair : Op → ℕ → ℕ → ℕ → Tree
    sealed_pair o k x y = sealed k (node o (more (leaf x) (more (node Hash (more (leaf y) none)) none)))

    with_format : ℕ → ℕ → ℕ → Tree
    with_format k x y = sealed_pair (format_op (formats_of (drill_narration n)) (codes "p")) k x y

exchange_made : (n i : ℕ) → 1 ≤ i → i ≤ n → n ≤ 200 → made_action n (exchange i) ≡ exchanged n i
exchange_made n i above within most = by (i % 2 == 1) where
  by : (b : Bool) → made_action n (if b then forth (exchange_message i) else back (exchange_message i)) ≡ (if b then record { from = 0; to = 1; message = sealed (n + 3) (pair i) } else record { from = 1; to = 0; message = sealed (n + 3) (pair i) })
  by true = ap (λ t. record { from = 0; to = 1; message = t }) (message_made n i above within most)
  by false = ap (λ t. record { from = 1; to = 0; message = t }) (message_made n i above within most)

mapped : {X Y : Type 0} (f : X → Y) (g : ℕ → X) (h : ℕ → Y) (from count : ℕ) → ((i : ℕ) → from ≤ i → i < from + count → f (g i) ≡ h i) → map f (map g (range_with_len from count)) ≡ map h (range_with_len from count)
mapped f g h from zero e = refl
mapped f g h from (suc count) e =
    ap (λ y. y ∷ map f (map g (range_with_len (from + 1) count))) (e from (omega arith) (omega arith))
    ∙ ap (λ l. h from ∷ l) (mapped f g h (from + 1) count (λ i above below. e i (omega (arith, above)) (omega (arith, below))))

pub all_made : (n : ℕ) → n ≤ 200 → (protocol_of (drill_narration n)).actions ≡ all_actions n
all_made n most =
    actions_are n ∙ ap (λ l. made_action n opening ∷ l) (map-append (made_action n) (map exchange (range_with_len 1 n)) (closing ∷ []))
    ∙ ap (λ k. record { from = 0; to = 1; message = sealed k (leaf (atom_number (atoms (drill_narration n)) (number_name 0))) } ∷ map (made_action n) (map exchange (range_with_len 1 n)) ++ made_action n closing ∷ []) (l_is n)
    ∙ ap (λ k. record { from = 0; to = 1; message = sealed (n + 4) (leaf k) } ∷ map (made_action n) (map exchange (range_with_len 1 n)) ++ made_action n closing ∷ []) (number_is n 0 (omega arith) most)
    ∙ ap (λ l. first_action n ∷ l ++ made_action n closing ∷ []) (mapped (made_action n) exchange (exchanged n) 1 n (λ i above below. exchange_made n i above (omega (arith, below)) most))
    ∙ ap (λ k. first_action n ∷ map (exchanged n) (range_with_len 1 n) ++ record { from = 0; to = 1; message = leaf k } ∷ []) (l_is n)
