-- How many bytes are taken for a message at most, and when.
use Rattle.std.proofs.Common.{◌≡◌, ◌<◌, ◌≤◌, ◌^◌, ℕ, List, [], ◌∷◌, ◌++◌, length, replicate, take, Option, Some, None, Result, Ok, Err, refl, sym, ap, ◌∙◌, subst, arith, inl, inr, append_assoc, length-append}
use Rattle.std.proofs.lemmas.List.{length-replicate, take-replicate}
use Rattle.std.proofs.lemmas.List.Elements.{All-head}
use Rattle.anb_base.specs.Moves.{Put, PutPrefix, Stamped, Took}
use Rattle.anb_base.proofs.Moving.{put_nothing}
use Rattle.anb_frame.specs.Answers.{Follows}
use Rattle.anb_frame.specs.Answers.{Takes as TakesFrame}
use Rattle.anb_frame.specs.Frames.{frame, frames, length_bytes, IsPart}
use Rattle.anb_frame.specs.Cuts.{Cut, CutLeft, Ends, Tail, End, Short, Long}
use Rattle.anb_frame.specs.declared.Taken.{Taken}
use Rattle.anb_frame.specs.declared.Taken.TheVariants as taken
use Rattle.anb_frame.specs.declared.FrameNo.{FrameNo}
use Rattle.anb_frame.specs.declared.FrameNo.TheVariants.{Truncated, TooLarge, Failed}
use Rattle.anb_frame.proofs.Cuts.{length_said}
use Rattle.anb_frame.proofs.Lengths.{length-length_bytes, same_length_bytes}
use Rattle.anb_stage.specs.Relays.{size_of_tail}
use Rattle.anb_stage.specs.Steps.{Begins, OnFrame, next_size}

-- at most so many were stamped
pub begun : (a b : Option (List ℕ)) (written n size : ℕ) → n ≤ size → Stamped a b written n → PutPrefix a b (replicate size written)
begun a b written n size within put =
    (n, omega (arith, length-replicate size written, within), subst (Put a b) (sym (take-replicate n size written within)) put)

-- a part of a frame isn't more than what is to be taken
module _ (limit : ℕ) (small : limit < 2 ^ 32) where
  within_frame : (b xs z y : List ℕ) (need : ℕ) → length b ≤ limit → length_bytes (length b) ++ (b ++ xs) ≡ z ++ y → IsPart limit z need → length z ≤ length (frame b)
  within_frame b xs z y need fits is (inl part) = let size = length_said (length b) b in omega (arith, size, part.0)
  within_frame b xs z y need fits is (inr (n, body, z_is, least, short, needs)) =
      let both : length_bytes (length b) ++ (b ++ xs) ≡ length_bytes n ++ (body ++ y) = is ∙ ap (λ t. t ++ y) z_is ∙ append_assoc (length_bytes n) body y in
      let same = same_length_bytes (length b) n (b ++ xs) (body ++ y) (omega (arith, fits, small)) (omega (arith, least, small)) both in
      omega (arith, same.0, ap length z_is, length_said n body, length_said (length b) b, short)

  within_long : (len : ℕ) (rest z y : List ℕ) (need : ℕ) → limit < len → len < 2 ^ 32 → length_bytes len ++ rest ≡ z ++ y → IsPart limit z need → length z ≤ 4
  within_long len rest z y need above few is (inl part) = omega (arith, part.0)
  within_long len rest z y need above few is (inr (n, body, z_is, least, short, needs)) =
      let both : length_bytes len ++ rest ≡ length_bytes n ++ (body ++ y) = is ∙ ap (λ t. t ++ y) z_is ∙ append_assoc (length_bytes n) body y in
      let same = same_length_bytes len n rest (body ++ y) few (omega (arith, least, small)) both in
      absurd (omega (arith, same.0, least, above))

  within_tail : (tail : Tail) (x z y : List ℕ) (need : ℕ) → Ends limit x tail → x ≡ z ++ y → IsPart limit z need → length z ≤ size_of_tail tail
  within_tail End x z y need ends is part = omega (arith, ap length ends, ap length is, length-append z y)
  within_tail (Short have needs) x z y need ends is part = omega (arith, ends.1, ap length is, length-append z y)
  within_tail (Long len) x z y need ends is part = within_long len ends.0 z y need ends.2 ends.3 (sym ends.1 ∙ is) part

  within_cut : (bs : List (List ℕ)) (tail : Tail) (x z y : List ℕ) (need : ℕ) → Cut limit x bs tail → x ≡ z ++ y → IsPart limit z need → length z ≤ next_size bs tail
  within_cut [] tail x z y need cut is part = within_tail tail x z y need (subst (λ (w : List ℕ). Ends limit w tail) (sym cut.1) cut.3) is part
  within_cut (b ∷ bs) tail x z y need cut is part =
      let front : length_bytes (length b) ++ (b ++ (frames bs ++ cut.0)) ≡ x =
      sym (append_assoc (length_bytes (length b)) b (frames bs ++ cut.0)) ∙ sym (append_assoc (frame b) (frames bs) cut.0) ∙ sym cut.1 in
      within_frame b (frames bs ++ cut.0) z y need (All-head (λ w. length w ≤ limit) b bs cut.2) (front ∙ is) part

  within_left : (bs : List (List ℕ)) (tail : Tail) (left now : Option (List ℕ)) (z : List ℕ) (need : ℕ) → CutLeft limit left bs tail → Took left now z → IsPart limit z need → length z ≤ next_size bs tail
  within_left bs tail None now z need cut took part = absurd cut
  within_left bs tail (Some x) None z need cut took part = absurd took
  within_left bs tail (Some x) (Some y) z need cut took part = within_cut bs tail x z y need cut took part

  -- whatever `take` answers
  pub begins : (left now a b : Option (List ℕ)) (written : ℕ) (buf : List ℕ) (bs : List (List ℕ)) (tail : Tail) (result : Result Taken FrameNo) → CutLeft limit left bs tail
      → TakesFrame left now a b written limit buf result → Follows limit bs tail now buf result → Begins a b written bs tail
  begins left now a b written buf bs tail (Ok (taken.Frame n)) cut takes follows =
      subst (λ (cs : List (List ℕ)). Begins a b written cs tail) (sym follows.1) (begun a b written (length (frame (take n buf))) (length (frame (take n buf))) (omega arith) takes.1.1)
  begins left now a b written buf bs tail (Ok taken.End) cut takes follows =
      begun a b written 0 (next_size bs tail) (omega arith) (subst (λ (o : Option (List ℕ)). Put a o []) (sym takes.1) (put_nothing a))
  begins left now a b written buf bs tail (Err (Truncated have need)) cut takes follows =
      let size : next_size bs tail ≡ have = rw (follows.0, follows.1) refl in
      begun a b written (length takes.0) (next_size bs tail) (omega (arith, size, takes.3.1)) takes.1.1
  begins left now a b written buf bs tail (Err (TooLarge len)) cut takes follows =
      let size : next_size bs tail ≡ 4 = rw (follows.0, follows.1) refl in
      begun a b written (length (length_bytes len)) (next_size bs tail) (omega (arith, size, length-length_bytes len)) takes.2.1
  begins left now a b written buf bs tail (Err Failed) cut takes follows =
      begun a b written (length takes.0) (next_size bs tail) (within_left bs tail left now takes.0 takes.1 cut takes.2.0 takes.3) takes.2.1

-- the bytes of a whole frame
pub stamped : (left now a b : Option (List ℕ)) (written room : ℕ) (buf : List ℕ) (result : Result Taken FrameNo) → TakesFrame left now a b written room buf result
    → OnFrame buf result (λ bytes. Stamped a b written (length (frame bytes)))
stamped left now a b written room buf (Ok (taken.Frame n)) takes = takes.1.1
stamped left now a b written room buf (Ok taken.End) takes = tt
stamped left now a b written room buf (Err refusal) takes = tt

-- a fact for a frame that was found
pub on_frame : (buf : List ℕ) (found : Taken) (n : ℕ) (P : List ℕ → Type 0) → found ≡ taken.Frame n → OnFrame buf (Ok found) P → P (take n buf)
on_frame buf found n P is fact = subst (λ (t : Taken). OnFrame buf (Ok t) P) is fact
