-- Words, each with a line feed, one after another.
use Rattle.std.proofs.Common.{◌≡◌, ◌<◌, ◌≤◌, ◌+◌, ℕ, List, [], ◌∷◌, ◌++◌, length, take, drop, get_or, refl, sym, ap, ◌∙◌, arith, append_assoc, length-append}
use Rattle.std.proofs.lemmas.List.{take-append-drop}
use Rattle.anb_lemmas.proofs.Each.{take_next}
use Rattle.anb_stage.specs.Children.{lines}

pub lines-append : (xs ys : List (List ℕ)) → lines (xs ++ ys) ≡ lines xs ++ lines ys
lines-append [] ys = refl
lines-append (x ∷ xs) ys = ap (λ l. (x ++ 10 ∷ []) ++ l) (lines-append xs ys) ∙ sym (append_assoc (x ++ 10 ∷ []) (lines xs) (lines ys))

-- what a word in front takes
pub lines_more : (w : List ℕ) (words : List (List ℕ)) → length (lines (w ∷ words)) ≡ length w + 1 + length (lines words)
lines_more w words =
    let e : length (lines (w ∷ words)) ≡ length (w ++ 10 ∷ []) + length (lines words) = length-append (w ++ 10 ∷ []) (lines words) in
    omega (arith, e, length-append w (10 ∷ []))

-- one word more
pub lines_next : (words : List (List ℕ)) (i : ℕ) (w : List ℕ) → i < length words → w ≡ get_or words i w
    → lines (take (i + 1) words) ≡ lines (take i words) ++ (w ++ 10 ∷ [])
lines_next words i w h e =
    ap lines (take_next words i w h e) ∙ lines-append (take i words) (w ∷ []) ∙ ap (λ l. lines (take i words) ++ l) (nothing (w ++ 10 ∷ [])) where
      nothing : (l : List ℕ) → l ++ [] ≡ l
      nothing [] = refl
      nothing (x ∷ l) = ap (λ r. x ∷ r) (nothing l)

-- the first words take at most what all take
pub lines_most : (words : List (List ℕ)) (i : ℕ) (w : List ℕ) → i < length words → w ≡ get_or words i w
    → length (lines (take i words)) + length w + 1 ≤ length (lines words)
lines_most words i w h e =
    let all : lines words ≡ lines (take (i + 1) words) ++ lines (drop (i + 1) words) =
    ap lines (sym (take-append-drop (i + 1) words)) ∙ lines-append (take (i + 1) words) (drop (i + 1) words) in
    let n = ap length all in
    let m = ap length (lines_next words i w h e) in
    omega (arith, n, m, length-append (lines (take (i + 1) words)) (lines (drop (i + 1) words)), length-append (lines (take i words)) (w ++ 10 ∷ []), length-append w (10 ∷ []))
