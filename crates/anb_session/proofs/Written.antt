-- What is put and taken piece by piece.
use Rattle.std.proofs.Common.{◌≡◌, ℕ, ◌≤◌, List, ◌∷◌, ◌++◌, length, take, drop, sym, ap, ◌∙◌, arith, length-append, append_assoc}
use Rattle.std.proofs.lemmas.List.{length-take-le}
use Rattle.std.proofs.lemmas.List.Elements.{All-cons}
use Rattle.anb_frame.specs.Frames.{frame, frames}
use Rattle.anb_frame.specs.Cuts.{Tail, Cut}

-- a frame in front of a cut
pub cut_further : (limit : ℕ) (b x : List ℕ) (bs : List (List ℕ)) (tail : Tail) → length b ≤ limit → Cut limit x bs tail → Cut limit (frame b ++ x) (b ∷ bs) tail
cut_further limit b x bs tail fits c =
    (c.0, ap (λ t. frame b ++ t) c.1 ∙ sym (append_assoc (frame b) (frames bs) c.0), All-cons (λ d. length d ≤ limit) b bs fits c.2, c.3)

-- a buffer that is written back keeps its length
pub written_back : (len room : ℕ) (new items : List ℕ) → length items ≡ len → length new ≡ length items → length items ≡ room → length (take len (new ++ drop (length new) items)) ≡ room
written_back len room new items whole same is = length-take-le len (new ++ drop (length new) items) (omega (arith, length-append new (drop (length new) items))) ∙ sym whole ∙ is
