-- Bytes one by one.
use Rattle.std.proofs.Common.{◌≡◌, ℕ, suc, ◌+◌, ◌<◌, List, ◌∷◌, length, get_or, drop, true, false, refl, sym, ap, ◌∙◌, add-one}
use Rattle.std.proofs.Math.Seq.{drop-cons}
use Rattle.std.specs.Prelude.{◌==◌}
use Rattle.anb_syntax.specs.Lexing.{is_blank, gap_len, comment_len}

module _ (s : List ℕ) (i : ℕ) (lt : i < length s) where
  pub next_byte : drop i s ≡ get_or s i 0 ∷ drop (i + 1) s
  next_byte = drop-cons s i 0 lt ∙ ap (λ k. get_or s i 0 ∷ drop k s) (sym (add-one i))

  pub comment_on : (get_or s i 0 == 10) ≡ false → comment_len (drop i s) ≡ suc (comment_len (drop (i + 1) s))
  comment_on e = ap comment_len next_byte ∙ rw e refl

  pub comment_off : (get_or s i 0 == 10) ≡ true → comment_len (drop i s) ≡ suc (gap_len (drop (i + 1) s))
  comment_off e = ap comment_len next_byte ∙ rw e refl

  pub gap_blank : is_blank (get_or s i 0) ≡ true → gap_len (drop i s) ≡ suc (gap_len (drop (i + 1) s))
  gap_blank e = ap gap_len next_byte ∙ rw e refl

  pub gap_comment : is_blank (get_or s i 0) ≡ false → (get_or s i 0 == 35) ≡ true → gap_len (drop i s) ≡ suc (comment_len (drop (i + 1) s))
  gap_comment e f = ap gap_len next_byte ∙ rw (e, f) refl

  pub gap_off : is_blank (get_or s i 0) ≡ false → (get_or s i 0 == 35) ≡ false → gap_len (drop i s) ≡ 0
  gap_off e f = ap gap_len next_byte ∙ rw (e, f) refl
