-- What stands at the offset of a refusal.
use Rattle.std.proofs.Common.{◌≡◌, ℕ, suc, ◌+◌, ◌≤◌, List, [], ◌∷◌, length, drop, Bool, true, false, refl, sym, ap, ◌∙◌, arith, length-drop}
use Rattle.std.specs.Prelude.{◌==◌}
use Rattle.std.proofs.lemmas.List.{drop-drop}
use Rattle.anb_syntax.specs.Lexing.{is_blank, gap_len, comment_len, Lexes}
use Rattle.anb_syntax.specs.Words.{Word, Tok, Begins}
use Rattle.anb_read.specs.declared.refusal.ReadNo.{ReadNo}
use Rattle.anb_read.specs.Refusals.{offset, IsRefusal}
use Rattle.anb_read.proofs.Answering.{stands}
use Rattle.anb_read.proofs.Offsets.{not_empty, passed}
use Rattle.anb_read.proofs.Sizing.{Fits, token_fits}

-- a gap lies in the text, and no other one begins at its end
record Passed (n : ℕ) (x : List ℕ) : Type 0 where
  within : n ≤ length x
  over : gap_len (drop n x) ≡ 0

one_more : (b n : ℕ) (x : List ℕ) → Passed n x → Passed (suc n) (b ∷ x)
one_more b n x h = record { within = omega (arith, h.within); over = h.over }

module _ (b : ℕ) (x : List ℕ) (gap : Passed (gap_len x) x) (comment : Passed (comment_len x) x) where
  gap_from : (c d : Bool) → is_blank b ≡ c → (b == 35) ≡ d → Passed (gap_len (b ∷ x)) (b ∷ x)
  gap_from true d e h = rw e (one_more b (gap_len x) x gap)
  gap_from false true e h = rw (e, h) (one_more b (comment_len x) x comment)
  gap_from false false e h = rw (e, h) (record { within = omega arith; over = rw (e, h) refl })

  comment_from : (c : Bool) → (b == 10) ≡ c → Passed (comment_len (b ∷ x)) (b ∷ x)
  comment_from true e = rw e (one_more b (gap_len x) x gap)
  comment_from false e = rw e (one_more b (comment_len x) x comment)

mutual
  gap_passed : (x : List ℕ) → Passed (gap_len x) x
  gap_passed [] = record { within = omega arith; over = refl }
  gap_passed (b ∷ x) = gap_from b x (gap_passed x) (comment_passed x) (is_blank b) (b == 35) refl refl

  comment_passed : (x : List ℕ) → Passed (comment_len x) x
  comment_passed [] = record { within = omega arith; over = refl }
  comment_passed (b ∷ x) = comment_from b x (gap_passed x) (comment_passed x) (b == 10) refl

-- so far from where the text begins
record At (at : ℕ) (x : List ℕ) (u : Tok) : Type 0 where
  len : ℕ
  is : u.at ≡ at + len
  passed : Passed len x

token_at : (at : ℕ) (x : List ℕ) (ts : List Tok) (front : List Word) (u : Tok) (s : List Tok) → Lexes at x ts → Begins ts front (u ∷ s) → At at x u
token_at at x [] front u s l g = absurd l
token_at at x (t ∷ ts) [] u s l g =
    let e : t ≡ u = cc (g) in
    record { len = gap_len x; is = ap (λ (v : Tok). v.at) (sym e) ∙ l.0; passed = gap_passed x }
token_at at x (t ∷ ts) (y ∷ front) u s l g =
    let gap = gap_passed x in
    let rest = drop (gap_len x) x in
    let k = passed at x t ts l (not_empty front ts u s g.1) in
    let fits = token_fits rest k.0 k.1 in
    let i = token_at (at + gap_len x + k.0.1) (drop k.0.1 rest) ts front u s k.2 g.1 in
    let same : drop i.len (drop k.0.1 rest) ≡ drop (gap_len x + (k.0.1 + i.len)) x = drop-drop i.len k.0.1 rest ∙ drop-drop (k.0.1 + i.len) (gap_len x) x in
    record {
      len = gap_len x + (k.0.1 + i.len);
      is = i.is ∙ omega arith;
      passed = record {
        within = omega (arith, gap.within, fits.within, i.passed.within, length-drop k.0.1 rest, length-drop (gap_len x) x);
        over = ap gap_len (sym same) ∙ i.passed.over;
      };
    }

module _ (x : List ℕ) (why : ReadNo) (r : IsRefusal x why) where
  here : At 0 x r.cause.next
  here = token_at 0 x r.cause.tokens r.cause.front r.cause.next r.cause.others r.cause.lexes r.cause.begins

  as_far : offset why ≡ here.len
  as_far = stands why r.cause.front r.cause.next r.cause.cause ∙ here.is ∙ omega arith

  pub refusal_within : offset why ≤ length x
  refusal_within = omega (arith, as_far, here.passed.within)

  pub refusal_begins : gap_len (drop (offset why) x) ≡ 0
  refusal_begins = ap (λ n. gap_len (drop n x)) as_far ∙ here.passed.over
