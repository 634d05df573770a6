-- Two takings in a row, both while the same was written, are one.
use Rattle.std.proofs.Common.{ℕ, ◌≡◌, ◌≤◌, List, ◌++◌, length, take, Option, sym, subst, ap, ◌∙◌, length-append}
use Rattle.std.proofs.lemmas.List.{length-take-le}
use Rattle.anb_base.specs.Moves.{Took, Stamped, count_written}
use Rattle.anb_base.proofs.Joined.{Took-joined, Stamped-joined}
use Rattle.anb_frame.specs.Answers.{TookAt}

pub TookAt-joined : (a b c d e f : Option (List ℕ)) (w : ℕ) (x y : List ℕ) → TookAt a b d e w x → TookAt b c e f w y → TookAt a c d f w (x ++ y)
TookAt-joined a b c d e f w x y p q = (
  Took-joined a b c x y p.0 q.0,
  subst (Stamped d f w) (sym (length-append x y)) (Stamped-joined d e f w (length x) (length y) p.1 q.1),
)

-- the first n bytes of a buffer were taken
pub took_front : (a b d e : Option (List ℕ)) (w n : ℕ) (buf : List ℕ) → n ≤ length buf → Took a b (take n buf) → Stamped d e w n → TookAt a b d e w (take n buf)
took_front a b d e w n buf within took stamped = (took, subst (Stamped d e w) (sym (length-take-le n buf within)) stamped)

-- the same is written where the same is kept
pub same_written : (kept now : List (Option (List ℕ) × ℕ)) (d e : Option (List ℕ)) (n : ℕ) → now ≡ kept → Stamped d e (count_written now) n → Stamped d e (count_written kept) n
same_written kept now d e n same stamped = subst (λ k. Stamped d e (count_written k) n) same stamped
