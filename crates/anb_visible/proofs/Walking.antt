-- A step of a walk over bytes.
use Rattle.std.proofs.Common.{◌≡◌, ℕ, ◌+◌, ◌-◌, ◌<◌, ◌≤◌, true, false, List, [], ◌∷◌, ◌++◌, length, take, drop, get_or, refl, sym, ap, ◌∙◌, arith, append_assoc, length-drop, get_or-drop}
use Rattle.std.specs.Prelude.{nat_lt}
use Rattle.std.proofs.lemmas.List.{drop_more, take_more}
use Rattle.anb_visible.specs.Visible.{shown_after, shown_byte, shown_run}

-- the bytes from `start` up to i are a run, and at i stands another byte
module _ (bytes : List ℕ) (start i d : ℕ) (from : start ≤ i) (within : i < length bytes) where
  run : List ℕ
  run = take (i - start) (drop start bytes)

  here : drop i bytes ≡ get_or bytes i d ∷ drop (i + 1) bytes
  here = drop_more bytes i d within

  pub low : nat_lt (get_or bytes i d) 128 ≡ true
      → shown_after (take (i - start) (drop start bytes)) (drop i bytes)
      ≡ shown_run (take (i - start) (drop start bytes)) ++ (shown_byte (get_or bytes i d) ++ shown_after [] (drop (i + 1) bytes))
  low is = rw (here, is) refl

  longer : take (i + 1 - start) (drop start bytes) ≡ take (i - start) (drop start bytes) ++ get_or bytes i d ∷ []
  longer =
      ap (λ n. take n (drop start bytes)) (omega (arith, from))
      ∙ take_more (drop start bytes) (i - start) d (omega (arith, from, within, length-drop start bytes))
      ∙ ap (λ b. take (i - start) (drop start bytes) ++ b ∷ []) (get_or-drop start bytes (i - start) d ∙ ap (λ n. get_or bytes n d) (omega (arith, from)))

  pub high : nat_lt (get_or bytes i d) 128 ≡ false
      → shown_after (take (i - start) (drop start bytes)) (drop i bytes) ≡ shown_after (take (i + 1 - start) (drop start bytes)) (drop (i + 1) bytes)
  high is = rw (here, is, longer) refl

-- what was written by i, and what is due of the rest
module _ (bytes : List ℕ) (start i d : ℕ) (from : start ≤ i) (within : i < length bytes) (out target : List ℕ)
    (so_far : out ++ shown_after (take (i - start) (drop start bytes)) (drop i bytes) ≡ target) where
  pub past_low : nat_lt (get_or bytes i d) 128 ≡ true → (next : ℕ) (between behind : List ℕ)
      → between ≡ out ++ shown_run (take (i - start) (drop start bytes)) → behind ≡ between ++ shown_byte (get_or bytes i d) → next ≡ i + 1
      → behind ++ shown_after (take (i + 1 - next) (drop next bytes)) (drop (i + 1) bytes) ≡ target
  past_low is next between behind one two e =
      let run = take (i - start) (drop start bytes) in
      let byte = shown_byte (get_or bytes i d) in
      let rest = drop (i + 1) bytes in
      let none : i + 1 - next ≡ 0 = omega (arith, e) in
      let nothing : take (i + 1 - next) (drop next bytes) ≡ [] = ap (λ n. take n (drop next bytes)) none in
      ap (λ r. behind ++ shown_after r rest) nothing
      ∙ ap (λ o. o ++ shown_after [] rest) (two ∙ ap (λ o. o ++ byte) one)
      ∙ append_assoc (out ++ shown_run run) byte (shown_after [] rest)
      ∙ append_assoc out (shown_run run) (byte ++ shown_after [] rest)
      ∙ ap (λ l. out ++ l) (sym (low bytes start i d from within is))
      ∙ so_far

  pub past_high : nat_lt (get_or bytes i d) 128 ≡ false → (next : ℕ) (behind : List ℕ) → behind ≡ out → next ≡ start
      → behind ++ shown_after (take (i + 1 - next) (drop next bytes)) (drop (i + 1) bytes) ≡ target
  past_high is next behind same e =
      ap (λ o. o ++ shown_after (take (i + 1 - next) (drop next bytes)) (drop (i + 1) bytes)) same
      ∙ ap (λ n. out ++ shown_after (take (i + 1 - n) (drop n bytes)) (drop (i + 1) bytes)) e
      ∙ ap (λ l. out ++ l) (sym (high bytes start i d from within is))
      ∙ so_far
