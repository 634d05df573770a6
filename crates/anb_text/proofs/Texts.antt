-- Texts of lines: which lines a text has.
use Rattle.std.proofs.Common.{◌≡◌, ◌≤◌, ◌==◌, ℕ, true, List, [], ◌∷◌, ◌++◌, length, refl, sym, subst, ◌∙◌, append_assoc, arith}
use Rattle.std.specs.Prelude.{not}
use Rattle.std.specs.List.{AllByRecursion}
use Rattle.std.proofs.lemmas.List.{length-append}
use Rattle.std.proofs.lemmas.List.Elements.{recursion_from_All}
use Rattle.anb_text.specs.declared.lines.Line.{Line}
use Rattle.anb_text.specs.Lines.{IsLine, line_bytes}
use Rattle.anb_text.specs.RoleFiles.{ended, lines_text}
use Rattle.anb_text.specs.Stages.{IsOneLine}
use Rattle.anb_text.proofs.LineLemmas.{lines_differ, lines_are_one}

pub is_one_line : (l : Line) → IsLine l → IsOneLine (line_bytes l)
is_one_line l is = recursion_from_All (λ b. not (b == 10) ≡ true) (line_bytes l) (lines_are_one l is)

not_ten : (b : ℕ) → not (b == 10) ≡ true → 10 ≡ b → ⊥
not_ten b is e = let at : not (10 == 10) ≡ true = subst (λ n. not (n == 10) ≡ true) (sym e) is in cc

-- what stands before the first byte 0A, and what stands behind it
pub split_once : (a b r s : List ℕ) → IsOneLine a → IsOneLine b → a ++ 10 ∷ r ≡ b ++ 10 ∷ s → (a ≡ b) × (r ≡ s)
split_once [] [] r s one other e = (refl, cc)
split_once [] (y ∷ b) r s one other e = let same : 10 ≡ y = cc in absurd (not_ten y other.0 same)
split_once (x ∷ a) [] r s one other e = let same : 10 ≡ x = cc in absurd (not_ten x one.0 same)
split_once (x ∷ a) (y ∷ b) r s one other e =
    let first : x ≡ y = cc in
    let rest = split_once a b r s one.1 other.1 cc in
    let front : a ≡ b = rest.0 in
    (cc, rest.1)

-- a byte 0A stands in no line
pub no_ten : (a b r : List ℕ) → IsOneLine a → a ≡ b ++ 10 ∷ r → ⊥
no_ten [] [] r one e = cc
no_ten [] (y ∷ b) r one e = cc
no_ten (x ∷ a) [] r one e = let same : 10 ≡ x = cc in not_ten x one.0 same
no_ten (x ∷ a) (y ∷ b) r one e = no_ten a b r one.1 cc

-- the lines behind a line
behind_line : (l : Line) (ls : List Line) (r : List ℕ) → lines_text (l ∷ ls) ++ r ≡ line_bytes l ++ 10 ∷ (lines_text ls ++ r)
behind_line l ls r = append_assoc (ended l) (lines_text ls) r ∙ append_assoc (line_bytes l) (10 ∷ []) (lines_text ls ++ r)

-- how a text goes on behind some of its lines, and behind others of them
pub data Compared (xs ys : List Line) (r s : List ℕ) : Type 0 where
  same : xs ≡ ys → r ≡ s → Compared xs ys r s
  longer : (next : Line) (more : List Line) → xs ≡ ys ++ next ∷ more → s ≡ lines_text (next ∷ more) ++ r → Compared xs ys r s
  shorter : (next : Line) (more : List Line) → ys ≡ xs ++ next ∷ more → r ≡ lines_text (next ∷ more) ++ s → Compared xs ys r s

one_more : (x y : Line) (xs ys : List Line) (r s : List ℕ) → x ≡ y → Compared xs ys r s → Compared (x ∷ xs) (y ∷ ys) r s
one_more x y xs ys r s e (same lines rest) = same (cc (e, lines)) rest
one_more x y xs ys r s e (longer next more lines rest) = longer next more (cc (e, lines)) rest
one_more x y xs ys r s e (shorter next more lines rest) = shorter next more (cc (e, lines)) rest

pub compared : (xs ys : List Line) (r s : List ℕ) → AllByRecursion IsLine xs → AllByRecursion IsLine ys → lines_text xs ++ r ≡ lines_text ys ++ s → Compared xs ys r s
compared [] [] r s is also e = same refl e
compared [] (y ∷ ys) r s is also e = shorter y ys refl e
compared (x ∷ xs) [] r s is also e = longer x xs refl (sym e)
compared (x ∷ xs) (y ∷ ys) r s is also e =
    let parts = split_once (line_bytes x) (line_bytes y) (lines_text xs ++ r) (lines_text ys ++ s) (is_one_line x is.0) (is_one_line y also.0) (sym (behind_line x xs r) ∙ e ∙ behind_line y ys s) in
    one_more x y xs ys r s (lines_differ x y is.0 also.0 parts.0) (compared xs ys r s is.1 also.1 parts.1)

-- each line has a byte of its own
pub count_lines : (ls : List Line) → length ls ≤ length (lines_text ls)
count_lines [] = omega arith
count_lines (l ∷ ls) = let rest = count_lines ls in omega (arith, rest, length-append (ended l) (lines_text ls), length-append (line_bytes l) (10 ∷ []))
