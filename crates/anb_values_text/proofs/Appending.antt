-- Lines one after another.
use Rattle.std.proofs.Common.{◌≡◌, ◌<◌, ◌+◌, ℕ, zero, suc, List, [], ◌∷◌, ◌++◌, length, take, get_or, refl, sym, ap, ◌∙◌, arith, append_assoc}
use Rattle.anb_values_text.specs.Texts.{line_text, lines_text, value_text}

append_none : (xs : List ℕ) → xs ++ [] ≡ xs
append_none [] = refl
append_none (x ∷ xs) = ap (λ l. x ∷ l) (append_none xs)

-- one line more
pub lines_next : (labels values : List (List ℕ)) (i : ℕ) (label value : List ℕ) → i < length labels → length values ≡ length labels → label ≡ get_or labels i label → value ≡ get_or values i value
    → lines_text (take (i + 1) labels) (take (i + 1) values) ≡ lines_text (take i labels) (take i values) ++ line_text label (value_text value)
lines_next [] values i label value within count at there = absurd (omega (arith, within))
lines_next (l ∷ ls) [] i label value within count at there = absurd (omega (arith, count))
lines_next (l ∷ ls) (v ∷ vs) zero label value within count at there =
    ap (λ k. line_text k (value_text v) ++ []) (sym at) ∙ ap (λ k. line_text label (value_text k) ++ []) (sym there) ∙ append_none (line_text label (value_text value))
lines_next (l ∷ ls) (v ∷ vs) (suc i) label value within count at there =
    let on : suc i + 1 ≡ suc (i + 1) = omega arith in
    let one = line_text l (value_text v) in
    ap (λ k. lines_text (take k (l ∷ ls)) (take k (v ∷ vs))) on
    ∙ ap (λ t. one ++ t) (lines_next ls vs i label value (omega (arith, within)) (omega (arith, count)) at there)
    ∙ sym (append_assoc one (lines_text (take i ls) (take i vs)) (line_text label (value_text value)))

-- after the last
pub lines_whole : (labels values : List (List ℕ)) (i : ℕ) → length labels ≡ i → length values ≡ length labels → lines_text (take i labels) (take i values) ≡ lines_text labels values
lines_whole [] [] i e count = ap (λ k. lines_text (take k []) (take k [])) (sym e)
lines_whole [] (v ∷ vs) i e count = absurd (omega (arith, count))
lines_whole (l ∷ ls) [] i e count = absurd (omega (arith, count))
lines_whole (l ∷ ls) (v ∷ vs) i e count =
    ap (λ k. lines_text (take k (l ∷ ls)) (take k (v ∷ vs))) (sym e)
    ∙ ap (λ t. line_text l (value_text v) ++ t) (lines_whole ls vs (length ls) refl (omega (arith, count)))
