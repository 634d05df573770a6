-- The words of a text, wherever they stand.
use Rattle.std.proofs.Common.{◌≡◌, ℕ, zero, suc, ◌+◌, ◌≤◌, List, [], ◌∷◌, ◌++◌, length, map, take, drop, Option, Some, None, refl, sym, ap, ◌∙◌, subst, arith, append_assoc}
use Rattle.std.proofs.lemmas.Option.{none-some, same_Some}
use Rattle.anb_syntax.specs.Words.{Word, name, literal, sign, end, bad, Tok}
use Rattle.anb_syntax.specs.Lexing.{gap_len, token_here, Lexes, LexesHere}
use Rattle.anb_syntax.proofs.Relexed.{here_some}
use Rattle.anb_choice.specs.Order.{len_of}
use Rattle.anb_choice.proofs.Fronted.{Breaks, both_again, both_over, gap_same, goes_front, token_again}

-- these are the words of the tokens of a text
abbrev pub Reads : List ℕ → List Word → Type 0
Reads x [] = ⊥
Reads x (w ∷ ws) = let y = drop (gap_len x) x in LexesHere (λ n. Reads (drop n y) ws) (ws ≡ []) y (token_here y) w

abbrev pub words_of : List Tok → List Word
words_of ts = map (λ (t : Tok). t.word) ts

-- a word of a token, not of an end
abbrev pub IsPassed : Word → Type 0
IsPassed (name b) = Unit {0}
IsPassed (literal b) = Unit {0}
IsPassed (sign c) = Unit {0}
IsPassed end = ⊥
IsPassed bad = ⊥

here_map : (O P : ℕ → Type 0) (l m : Type 0) (x : List ℕ) (o : Option (Word × ℕ)) (w : Word) → ((n : ℕ) → O n → P n) → (l → m) → LexesHere O l x o w → LexesHere P m x o w
here_map O P l m [] None w f g h = (h.0, g h.1)
here_map O P l m (b ∷ x) None w f g h = (h.0, g h.1)
here_map O P l m [] (Some t) w f g h = (h.0, f t.1 h.1)
here_map O P l m (b ∷ x) (Some t) w f g h = (h.0, f t.1 h.1)

no_words : (ts : List Tok) → ts ≡ [] → words_of ts ≡ []
no_words ts e = ap words_of e

pub reads_of : (at : ℕ) (x : List ℕ) (ts : List Tok) → Lexes at x ts → Reads x (words_of ts)
reads_of at x [] l = absurd l
reads_of at x (t ∷ ts) l =
    let y = drop (gap_len x) x in
    here_map (λ n. Lexes (at + gap_len x + n) (drop n y) ts) (λ n. Reads (drop n y) (words_of ts)) (ts ≡ []) (words_of ts ≡ []) y (token_here y) t.word
    (λ n k. reads_of (at + gap_len x + n) (drop n y) ts k) (no_words ts) l.1

-- tokens with these words, from an offset on
pub record Lexed (at : ℕ) (x : List ℕ) (ws : List Word) : Type 0 where
  pub tokens : List Tok
  pub lexes : Lexes at x tokens
  pub words : words_of tokens ≡ ws

abbrev AreNone : List Tok → Type 0
AreNone ts = ts ≡ []

-- nothing stands here, or this token does
ended : (O P : ℕ → Type 0) (l m : Type 0) (z : List ℕ) (o : Option (Word × ℕ)) (w : Word) → o ≡ None → m → LexesHere O l z o w → l × LexesHere P m z o w
ended O P l m [] None w e k h = (h.1, (h.0, k))
ended O P l m (b ∷ z) None w e k h = (h.1, (h.0, k))
ended O P l m z (Some t) w e k h = absurd (cc)

found : (O : ℕ → Type 0) (l : Type 0) (z : List ℕ) (o : Option (Word × ℕ)) (w : Word) (t : Word × ℕ) → o ≡ Some t → LexesHere O l z o w → (w ≡ t.0) × O t.1
found O l [] None w t e h = absurd (cc)
found O l (b ∷ z) None w t e h = absurd (cc)
found O l [] (Some u) w t e h = let s : u ≡ t = same_Some u t e in (h.0 ∙ ap (λ (v : Word × ℕ). v.0) s, subst (λ (v : Word × ℕ). O v.1) s h.1)
found O l (b ∷ z) (Some u) w t e h = let s : u ≡ t = same_Some u t e in (h.0 ∙ ap (λ (v : Word × ℕ). v.0) s, subst (λ (v : Word × ℕ). O v.1) s h.1)

module _ (at : ℕ) (x : List ℕ) (w : Word) (ws : List Word) (later : (a : ℕ) (z : List ℕ) → Reads z ws → Lexed a z ws) where
  abbrev behind : List ℕ
  behind = drop (gap_len x) x

  abbrev first : Tok
  first = record { word = w; at = at + gap_len x }

  lexed_here : (o : Option (Word × ℕ)) → token_here behind ≡ o → Reads x (w ∷ ws) → Lexed at x (w ∷ ws)
  lexed_here None e h =
      let k = ended (λ n. Reads (drop n behind) ws) (λ n. Lexes (at + gap_len x + n) (drop n behind) []) (ws ≡ []) (AreNone []) behind (token_here behind) w e refl h in
      record { tokens = first ∷ []; lexes = (refl, k.1); words = ap (λ (l : List Word). w ∷ l) (sym k.0) }
  lexed_here (Some t) e h =
      let k = found (λ n. Reads (drop n behind) ws) (ws ≡ []) behind (token_here behind) w t e h in
      let r = later (at + gap_len x + t.1) (drop t.1 behind) k.1 in
      record {
        tokens = first ∷ r.tokens;
        lexes = (refl, here_some (λ n. Lexes (at + gap_len x + n) (drop n behind) r.tokens) (r.tokens ≡ []) behind (token_here behind) w t e k.0 r.lexes);
        words = ap (λ (l : List Word). w ∷ l) r.words;
      }

pub lexed_of : (ws : List Word) (at : ℕ) (x : List ℕ) → Reads x ws → Lexed at x ws
lexed_of [] at x h = absurd h
lexed_of (w ∷ ws) at x h = lexed_here at x w ws (λ a z k. lexed_of ws a z k) (token_here (drop (gap_len x) x)) refl h

-- what a token that is passed is
pub record IsHere (Others : ℕ → Type 0) (o : Option (Word × ℕ)) (w : Word) : Type 0 where
  pub token : Word × ℕ
  pub is : o ≡ Some token
  pub word : w ≡ token.0
  pub others : Others token.1

pub is_here : (O : ℕ → Type 0) (l : Type 0) (x : List ℕ) (o : Option (Word × ℕ)) (w : Word) → IsPassed w → LexesHere O l x o w → IsHere O o w
is_here O l [] None w p h = absurd (subst IsPassed h.0 p)
is_here O l (b ∷ x) None w p h = absurd (subst IsPassed h.0 p)
is_here O l [] (Some t) w p h = record { token = t; is = refl; word = h.0; others = h.1 }
is_here O l (b ∷ x) (Some t) w p h = record { token = t; is = refl; word = h.0; others = h.1 }

abbrev pub AllPassed : List Tok → Type 0
AllPassed [] = Unit {0}
AllPassed (t ∷ ts) = IsPassed t.word × AllPassed ts

-- the offset past a token of the whole text, and past the last of some
abbrev pub end_of : List ℕ → Tok → ℕ
end_of whole t = t.at + len_of (token_here (drop t.at whole))

abbrev pub last_end : List ℕ → ℕ → List Tok → ℕ
last_end whole at [] = at
last_end whole at (t ∷ ts) = last_end whole (end_of whole t) ts

-- The first bytes of a text, so many, are these tokens, and so they are before other bytes that break names.
pub record Front (at : ℕ) (x : List ℕ) (ts us : List Tok) : Type 0 where
  pub size : ℕ
  pub rest : Lexes (at + size) (drop size x) us
  pub ends : (whole : List ℕ) → drop at whole ≡ x → last_end whole at ts ≡ at + size
  pub again : (y : List ℕ) (ws : List Word) → Breaks y → Reads y ws → Reads (take size x ++ y) (words_of ts ++ ws)

drop_none : (k : ℕ) → drop {A = ℕ} k [] ≡ []
drop_none zero = refl
drop_none (suc k) = refl

pub drops : (n m : ℕ) (x : List ℕ) → drop n (drop m x) ≡ drop (m + n) x
drops n zero x = ap (λ k. drop k x) (omega arith)
drops n (suc m) [] = drop_none n ∙ sym (drop_none (suc m + n))
drops n (suc m) (c ∷ x) = drops n m x ∙ ap (λ k. drop k (c ∷ x)) (next m n) where
  next : (a b : ℕ) → suc (a + b) ≡ suc a + b
  next a b = omega arith

take_none : (k : ℕ) → take {A = ℕ} k [] ≡ []
take_none zero = refl
take_none (suc k) = refl

takes_on : (a b : ℕ) (x : List ℕ) → take (a + b) x ≡ take a x ++ take b (drop a x)
takes_on zero b x = ap (λ k. take k x) (omega arith)
takes_on (suc a) b [] = take_none (suc a + b) ∙ sym (take_none b)
takes_on (suc a) b (c ∷ x) = ap (λ k. take k (c ∷ x)) (next a b) ∙ ap (λ (l : List ℕ). c ∷ l) (takes_on a b x) where
  next : (m n : ℕ) → suc m + n ≡ suc (m + n)
  next m n = omega arith

drop_front : (n : ℕ) (x r : List ℕ) → n ≤ length x → drop n (take n x ++ r) ≡ r
drop_front zero x r h = refl
drop_front (suc n) [] r h = absurd (omega (arith, h))
drop_front (suc n) (c ∷ x) r h = drop_front n x r (omega (arith, h))

some_within : (n : ℕ) (x : List ℕ) → (drop n x ≡ [] → ⊥) → n ≤ length x
some_within zero x some = omega arith
some_within (suc n) [] some = absurd (some refl)
some_within (suc n) (c ∷ x) some = let h = some_within n x some in omega (arith, h)

-- a token at the front is of some bytes
token_some : (d : List ℕ) (t : Word × ℕ) → token_here d ≡ Some t → d ≡ [] → ⊥
token_some [] t e f = none-some t e
token_some (c ∷ d) t e f = cc

gap_before : (d r : List ℕ) (n k : ℕ) → gap_len d ≡ 0 → (d ≡ [] → ⊥) → n ≡ suc k → gap_len (take n d ++ r) ≡ 0
gap_before [] r n k z some e = absurd (some refl)
gap_before (c ∷ d) r n k z some e = ap (λ m. gap_len (take m (c ∷ d) ++ r)) e ∙ gap_same c d (take k d ++ r) z

module _ (at : ℕ) (x : List ℕ) (t : Tok) (ts us : List Tok) where
  abbrev d : List ℕ
  d = drop (gap_len x) x

  next_front : (tk : Word × ℕ) → t.at ≡ at + gap_len x → token_here d ≡ Some tk → t.word ≡ tk.0 → Front (at + gap_len x + tk.1) (drop tk.1 d) ts us → Front at x (t ∷ ts) us
  next_front tk from is word f =
      let g = gap_len x in
      let n = tk.1 in
      let a = token_again d tk is in
      let some = token_some d tk is in
      let size : ℕ = g + (n + f.size) in
      let bytes : drop f.size (drop n d) ≡ drop size x = drops f.size n d ∙ drops (n + f.size) g x in
      let place : at + g + n + f.size ≡ at + size = omega arith in
      record {
        size = size;
        rest = subst (λ k. Lexes k (drop size x) us) place (subst (λ z. Lexes (at + g + n + f.size) z us) bytes f.rest);
        ends = λ whole e.
            let here : drop t.at whole ≡ d = ap (λ k. drop k whole) from ∙ sym (drops g at whole) ∙ ap (drop g) e in
            let past : end_of whole t ≡ at + g + n = ap (λ l. t.at + len_of (token_here l)) here ∙ ap (λ o. t.at + len_of o) is ∙ ap (λ k. k + n) from in
            let behind : drop (at + g + n) whole ≡ drop n d = sym (drops n (at + g) whole) ∙ ap (drop n) (sym (drops g at whole) ∙ ap (drop g) e) in
            ap (λ k. last_end whole k ts) past ∙ f.ends whole behind ∙ place;
        again = λ y ws breaks reads.
            let r = take f.size (drop n d) ++ y in
            let e = take n d ++ r in
            let z = take size x ++ y in
            let z_is : z ≡ take g x ++ e = ap (λ l. l ++ y) (takes_on g (n + f.size) x ∙ ap (λ l. take g x ++ l) (takes_on n f.size d)) ∙ append_assoc (take g x) (take n d ++ take f.size (drop n d)) y
            ∙ ap (λ l. take g x ++ l) (append_assoc (take n d) (take f.size (drop n d)) y) in
            let gap : gap_len z ≡ g = ap gap_len z_is ∙ (both_again x e (gap_before d r n a.first.0 (both_over x).0 some a.first.1)).0 some in
            let rest : drop (gap_len z) z ≡ e = ap (λ k. drop k z) gap ∙ ap (drop g) z_is ∙ drop_front g x e (some_within g x some) in
            let here : token_here (drop (gap_len z) z) ≡ Some tk = ap token_here rest ∙ a.again r (goes_front tk.0 f.size (drop n d) y a.goes breaks) in
            let later : drop n (drop (gap_len z) z) ≡ r = ap (drop n) rest ∙ drop_front n d r a.within in
            here_some (λ m. Reads (drop m (drop (gap_len z) z)) (words_of ts ++ ws)) (words_of ts ++ ws ≡ []) (drop (gap_len z) z) (token_here (drop (gap_len z) z)) t.word tk here word
            (subst (λ l. Reads l (words_of ts ++ ws)) (sym later) (f.again y ws breaks reads));
      }

pub fronts : (ts us : List Tok) (at : ℕ) (x : List ℕ) → Lexes at x (ts ++ us) → AllPassed ts → Front at x ts us
fronts [] us at x lexes passed = record { size = 0; rest = subst (λ k. Lexes k x us) (omega arith) lexes; ends = λ whole e. omega arith; again = λ y ws breaks reads. reads }
fronts (t ∷ ts) us at x lexes passed =
    let y = drop (gap_len x) x in
    let k = is_here (λ n. Lexes (at + gap_len x + n) (drop n y) (ts ++ us)) (ts ++ us ≡ []) y (token_here y) t.word passed.0 lexes.1 in
    next_front at x t ts us k.token lexes.0 k.is k.word (fronts ts us (at + gap_len x + k.token.1) (drop k.token.1 y) k.others passed.1)
