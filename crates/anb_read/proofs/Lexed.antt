-- One token more.
use Rattle.std.proofs.Common.{◌≡◌, ℕ, ◌+◌, ◌<◌, List, [], ◌∷◌, ◌++◌, length, drop, Option, Some, None, refl, sym, ap, ◌∙◌, subst, arith, append_assoc, length-drop}
use Rattle.std.proofs.lemmas.List.{drop-drop, drop_all, map_push}
use Rattle.anb_syntax.specs.Words.{Word, literal, end, bad, Tok}
use Rattle.anb_syntax.specs.Lexing.{gap_len, token_here, Lexes, LexesHere}
use Rattle.anb_syntax.specs.Views.{word_of}
use Rattle.anb_syntax.specs.Nexts.{IsNext}
use Rattle.anb_syntax.specs.declared.tokens.Token.{Token}
use Rattle.anb_syntax.specs.declared.tokens.TokenKind.{TokenKind}
use Rattle.anb_syntax.specs.declared.tokens.TokenKind.TheVariants as kinds
use Rattle.anb_syntax.specs.declared.tokens.Next.TheVariants as next
use Rattle.anb_syntax.proofs.Relexed.{here_some, here_end}
use Rattle.anb_read.specs.Places.{kind_of, found, tok_of, toks}
use Rattle.anb_read.specs.declared.places.Place.{Place}
use Rattle.anb_read.specs.declared.places.Place.TheVariants as places

-- the word of a token that stands there
same_word : (k : TokenKind) (n : ℕ) (x : List ℕ) → token_here x ≡ Some (word_of k n x, n) → word_of k n x ≡ kind_of k n x
same_word kinds.Name n x e = refl
same_word kinds.Literal n x e = ap literal (sym (ap found e))
same_word kinds.Colon n x e = refl
same_word kinds.Semicolon n x e = refl
same_word kinds.Comma n x e = refl
same_word kinds.Open n x e = refl
same_word kinds.Close n x e = refl
same_word kinds.Equals n x e = refl
same_word kinds.Arrow n x e = refl

here_bad : (Others : ℕ → Type 0) (last : Type 0) (x : List ℕ) (o : Option (Word × ℕ)) (w : Word) → 0 < length x → o ≡ None → w ≡ bad → last → LexesHere Others last x o w
here_bad Others last [] o w lt e h k = absurd (omega arith)
here_bad Others last (b ∷ x) None w lt e h k = (h, k)
here_bad Others last (b ∷ x) (Some u) w lt e h k = cc

module _ (x : List ℕ) (from : ℕ) where
  behind : drop (gap_len (drop from x)) (drop from x) ≡ drop (from + gap_len (drop from x)) x
  behind = drop-drop (gap_len (drop from x)) from x

  pub lexed_token : (t : Token) (ts : List Tok) → IsNext x from (next.Token t) → Lexes (t.at + t.len) (drop (t.at + t.len) x) ts → Lexes from (drop from x) (tok_of x (places.At t) ∷ ts)
  lexed_token t ts i h =
      let y = drop (gap_len (drop from x)) (drop from x) in
      let same : y ≡ drop t.at x = behind ∙ ap (λ k. drop k x) (sym i.0) in
      let P : ℕ → Type 0 = λ k. Lexes (k + t.len) (drop t.len y) ts in
      let Q : List ℕ → Type 0 = λ z. Lexes (t.at + t.len) z ts in
      let rest : drop t.len y ≡ drop (t.at + t.len) x = ap (drop t.len) same ∙ drop-drop t.len t.at x in
      let word : kind_of t.kind t.len (drop t.at x) ≡ word_of t.kind t.len (drop t.at x) = sym (same_word t.kind t.len (drop t.at x) i.1) in
      (i.0, here_some (λ n. Lexes (from + gap_len (drop from x) + n) (drop n y) ts) (ts ≡ []) y (token_here y) (tok_of x (places.At t)).word (word_of t.kind t.len (drop t.at x), t.len) (ap token_here same ∙ i.1) word (subst P i.0 (subst Q (sym rest) h)))

  pub lexed_end : IsNext x from next.End → Lexes from (drop from x) (tok_of x (places.End (length x)) ∷ [])
  lexed_end i =
      let y = drop (gap_len (drop from x)) (drop from x) in
      let none : y ≡ [] = behind ∙ drop_all (from + gap_len (drop from x)) x (omega arith) in
      (sym i, here_end (λ n. Lexes (from + gap_len (drop from x) + n) (drop n y) []) ([] ≡ []) y end none refl refl)

  pub lexed_bad : (at : ℕ) → IsNext x from (next.Bad at) → Lexes from (drop from x) (tok_of x (places.Bad at) ∷ [])
  lexed_bad at i =
      let y = drop (gap_len (drop from x)) (drop from x) in
      let same : y ≡ drop at x = behind ∙ ap (λ k. drop k x) (sym i.0) in
      (i.0, here_bad (λ n. Lexes (from + gap_len (drop from x) + n) (drop n y) []) ([] ≡ []) y (token_here y) bad (omega (arith, ap length same, length-drop at x, i.1)) (ap token_here same ∙ i.2) refl refl)

-- a token at the end of those that are kept
pub pushed : (x : List ℕ) (all : List Place) (t : Place) (ts : List Tok) → toks x all ++ tok_of x t ∷ ts ≡ toks x (all ++ t ∷ []) ++ ts
pushed x all t ts = sym (ap (λ (us : List Tok). us ++ ts) (map_push (tok_of x) all t) ∙ append_assoc (toks x all) (tok_of x t ∷ []) ts)

pub pushed_last : (x : List ℕ) (all : List Place) (t : Place) → Lexes 0 x (toks x all ++ tok_of x t ∷ []) → Lexes 0 x (toks x (all ++ t ∷ []))
pushed_last x all t h = let P : List Tok → Type 0 = λ ts. Lexes 0 x ts in subst P (sym (map_push (tok_of x) all t)) h
