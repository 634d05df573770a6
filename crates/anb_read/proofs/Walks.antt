-- Reading item after item, as a loop does.
use Rattle.std.proofs.Common.{◌≡◌, ℕ, zero, suc, ◌-◌, ◌+◌, ◌<◌, List, [], ◌∷◌, ◌++◌, length, Bool, true, false, Result, Ok, Err, refl, sym, ap, ◌∙◌, append_assoc, arith}
use Rattle.std.proofs.lemmas.List.{append-nil}
use Rattle.anb_syntax.specs.Words.{Word, Tok, head}
use Rattle.anb_read.specs.declared.refusal.ReadNo.{ReadNo}
use Rattle.anb_read.specs.declared.refusal.ReadNo.TheVariants.{Token, Grammar, Deep, NoMemory}
use Rattle.std.proofs.lemmas.List.{length-map}
use Rattle.anb_read.specs.declared.places.Place.{Place}
use Rattle.anb_read.specs.Productions.{◌>>=◌, many, many_within, with_front}
use Rattle.anb_read.specs.Places.{Fails, tok_of, toks}
use Rattle.anb_read.proofs.Many.{cons_to}

regroup : {A : Type 0} (front : List A) (v : A) (read : Result (List A × List Tok) ReadNo) → with_front front (read >>= cons_to v) ≡ with_front (front ++ v ∷ []) read
regroup front v (Ok x) = ap (λ vs. Ok (vs, x.1)) (sym (append_assoc front (v ∷ []) x.0))
regroup front v (Err f) = refl

module _ {A : Type 0} (starts : Word → Bool) (p : List Tok → Result (A × List Tok) ReadNo) where
  none_left : (n : ℕ) (w : List Tok) → starts (head w) ≡ false → many_within starts p n w ≡ Ok ([], w)
  unfolding many_within
  none_left zero w s = refl
  none_left (suc n) w s = rw s refl

  step : (n : ℕ) (w : List Tok) → starts (head w) ≡ true → many_within starts p (suc n) w ≡ (p w >>= λ x. many_within starts p n x.1 >>= cons_to x.0)
  unfolding many_within
  step n w s = rw s refl

  no_step : (w : List Tok) → many_within starts p 0 w ≡ Ok ([], w)
  unfolding many_within
  no_step w = refl

  pub goes_on : (front : List A) (count i : ℕ) (w : List Tok) (v : A) (after : List Tok) (total : Result (List A × List Tok) ReadNo) → i < count → starts (head w) ≡ true → p w ≡ Ok (v, after)
      → with_front front (many_within starts p (count - i) w) ≡ total → with_front (front ++ v ∷ []) (many_within starts p (count - (i + 1)) after) ≡ total
  goes_on front count i w v after total lt s e so_far =
      let k : count - i ≡ suc (count - (i + 1)) = omega arith in
      let a : many_within starts p (count - i) w ≡ (p w >>= λ x. many_within starts p (count - (i + 1)) x.1 >>= cons_to x.0) = ap (λ m. many_within starts p m w) k ∙ step (count - (i + 1)) w s in
      let b : (p w >>= λ x. many_within starts p (count - (i + 1)) x.1 >>= cons_to x.0) ≡ (many_within starts p (count - (i + 1)) after >>= cons_to v) = ap (λ r. r >>= λ x. many_within starts p (count - (i + 1)) x.1 >>= cons_to x.0) e in
      sym (ap (with_front front) (a ∙ b) ∙ regroup front v (many_within starts p (count - (i + 1)) after)) ∙ so_far

  pub is_done : (front : List A) (n : ℕ) (w : List Tok) (total : Result (List A × List Tok) ReadNo) → starts (head w) ≡ false → with_front front (many_within starts p n w) ≡ total → total ≡ Ok (front, w)
  is_done front n w total s so_far = sym so_far ∙ ap (with_front front) (none_left n w s) ∙ ap (λ vs. Ok (vs, w)) (append-nil front)

  -- as many as there are tokens
  pub is_over : (front : List A) (n : ℕ) (w : List Tok) (total : Result (List A × List Tok) ReadNo) → n ≡ 0 → with_front front (many_within starts p n w) ≡ total → total ≡ Ok (front, w)
  is_over front n w total z so_far = sym so_far ∙ ap (λ m. with_front front (many_within starts p m w)) z ∙ ap (with_front front) (no_step w) ∙ ap (λ vs. Ok (vs, w)) (append-nil front)

  ends : (front : List A) (count i : ℕ) (w : List Tok) (f : ReadNo) (total : Result (List A × List Tok) ReadNo) → i < count → starts (head w) ≡ true → p w ≡ Err f → with_front front (many_within starts p (count - i) w) ≡ total → total ≡ Err f
  ends front count i w f total lt s e so_far =
      let k : count - i ≡ suc (count - (i + 1)) = omega arith in
      let a : many_within starts p (count - i) w ≡ (p w >>= λ x. many_within starts p (count - (i + 1)) x.1 >>= cons_to x.0) = ap (λ m. many_within starts p m w) k ∙ step (count - (i + 1)) w s in
      let b : (p w >>= λ x. many_within starts p (count - (i + 1)) x.1 >>= cons_to x.0) ≡ Err f = ap (λ r. r >>= λ x. many_within starts p (count - (i + 1)) x.1 >>= cons_to x.0) e in
      sym so_far ∙ ap (with_front front) (a ∙ b)

  pub ends_so : (e : ReadNo) (front : List A) (count i : ℕ) (w : List Tok) (total : Result (List A × List Tok) ReadNo) → i < count → starts (head w) ≡ true → Fails e (p w) → with_front front (many_within starts p (count - i) w) ≡ total → Fails e total
  ends_so (Token at) front count i w total lt s e g = ends front count i w (Token at) total lt s e g
  ends_so (Grammar at) front count i w total lt s e g = ends front count i w (Grammar at) total lt s e g
  ends_so (Deep at) front count i w total lt s e g = ends front count i w (Deep at) total lt s e g
  ends_so NoMemory front count i w total lt s e g = tt

  -- at most as many as there are tokens
  pub whole : (text : List ℕ) (ps : List Place) (front : List A) → with_front front (many starts p (toks text ps)) ≡ with_front front (many_within starts p (length ps) (toks text ps))
  unfolding many
  whole text ps front = ap (λ n. with_front front (many_within starts p n (toks text ps))) (length-map ps (tok_of text))
