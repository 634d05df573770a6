-- The place of a term that stands again.
use Rattle.std.proofs.Common.{◌≡◌, ℕ, ◌+◌, ◌<◌, List, [], ◌∷◌, ◌++◌, length, take, drop, get_or, ap, sym, ◌∙◌, arith, true, false, cond, Option, Some}
use Rattle.std.proofs.lemmas.List.{take_more, drop_more, length-take-le}
use Rattle.anb_term.specs.Tree.{Tree}
use Rattle.anb_protocol.specs.Checks.{again_at, is_among}

module _ (ts : List Tree) (i : ℕ) (t : Tree) (total : Option ℕ) (h : i < length ts) (e : t ≡ get_or ts i t) where
  step : again_at (take i ts) (drop i ts) ≡ cond (is_among (take i ts) t) (Some i) (again_at (take (i + 1) ts) (drop (i + 1) ts))
  step =
      let d : drop i ts ≡ t ∷ drop (i + 1) ts = drop_more ts i t h ∙ ap (λ y. y ∷ drop (i + 1) ts) (sym e) in
      let m : take (i + 1) ts ≡ take i ts ++ t ∷ [] = take_more ts i t h ∙ ap (λ y. take i ts ++ y ∷ []) (sym e) in
      ap (again_at (take i ts)) d ∙ ap (λ n. cond (is_among (take i ts) t) (Some n) (again_at (take i ts ++ t ∷ []) (drop (i + 1) ts))) (length-take-le i ts (omega arith))
      ∙ ap (λ l. cond (is_among (take i ts) t) (Some i) (again_at l (drop (i + 1) ts))) (sym m)

  pub again_here : is_among (take i ts) t ≡ true → again_at (take i ts) (drop i ts) ≡ total → Some i ≡ total
  again_here w inv = sym (step ∙ ap (λ b. cond b (Some i) (again_at (take (i + 1) ts) (drop (i + 1) ts))) w) ∙ inv

  pub again_next : is_among (take i ts) t ≡ false → again_at (take i ts) (drop i ts) ≡ total → again_at (take (i + 1) ts) (drop (i + 1) ts) ≡ total
  again_next w inv = sym (step ∙ ap (λ b. cond b (Some i) (again_at (take (i + 1) ts) (drop (i + 1) ts))) w) ∙ inv
