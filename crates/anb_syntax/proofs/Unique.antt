-- A text has its tokens once.
use Rattle.std.proofs.Common.{◌≡◌, ℕ, ◌+◌, List, [], ◌∷◌, drop, Option, Some, None, sym, ap, ◌∙◌}
use Rattle.anb_syntax.specs.Words.{Word, Tok}
use Rattle.anb_syntax.specs.Lexing.{gap_len, token_here, Lexes, LexesHere}

once_here : (P Q : ℕ → Type 0) (ts us : List Tok) (y : List ℕ) (o : Option (Word × ℕ)) (v w : Word) → ((n : ℕ) → P n → Q n → ts ≡ us) → LexesHere P (ts ≡ []) y o v → LexesHere Q (us ≡ []) y o w → (v ≡ w) × (ts ≡ us)
once_here P Q ts us [] None v w f h k = (h.0 ∙ sym k.0, h.1 ∙ sym k.1)
once_here P Q ts us (b ∷ y) None v w f h k = (h.0 ∙ sym k.0, h.1 ∙ sym k.1)
once_here P Q ts us [] (Some t) v w f h k = (h.0 ∙ sym k.0, f t.1 h.1 k.1)
once_here P Q ts us (b ∷ y) (Some t) v w f h k = (h.0 ∙ sym k.0, f t.1 h.1 k.1)

same_tok : (t u : Tok) → t.at ≡ u.at → t.word ≡ u.word → t ≡ u
same_tok t u e f = ap (λ w. record { word = w; at = t.at }) f ∙ ap (λ a. record { word = u.word; at = a }) e

pub lexes_once : (at : ℕ) (x : List ℕ) (ts us : List Tok) → Lexes at x ts → Lexes at x us → ts ≡ us
lexes_once at x [] us h k = absurd h
lexes_once at x (t ∷ ts) [] h k = absurd k
lexes_once at x (t ∷ ts) (u ∷ us) h k =
    let y = drop (gap_len x) x in
    let g = once_here (λ n. Lexes (at + gap_len x + n) (drop n y) ts) (λ n. Lexes (at + gap_len x + n) (drop n y) us) ts us y (token_here y) t.word u.word (λ n a b. lexes_once (at + gap_len x + n) (drop n y) ts us a b) h.1 k.1 in
    ap (λ v. v ∷ ts) (same_tok t u (h.0 ∙ sym k.0) g.0) ∙ ap (λ (vs : List Tok). u ∷ vs) g.1
