-- The tokens of the front of a text, which ends past a token, with other bytes behind it.
use Rattle.std.proofs.Common.{◌≡◌, ℕ, zero, suc, ◌+◌, ◌≤◌, List, [], ◌∷◌, ◌++◌, length, take, drop, Bool, true, false, Option, Some, None, refl, sym, ap, ◌∙◌, subst, arith, cond, length-append}
use Rattle.std.specs.Prelude.{◌==◌, ◌&&◌}
use Rattle.std.specs.List.{prefix_len}
use Rattle.std.proofs.lemmas.Option.{none-some, same_Some}
use Rattle.anb_syntax.specs.Words.{Word, name, literal, sign, end, bad, is_letter, is_name_byte}
use Rattle.anb_syntax.specs.Lexing.{is_blank, is_sign, begins_with, gap_len, comment_len, token_here, quoted, characters_here}
use Rattle.anb_syntax.proofs.LiteralTokens.{literal_read, literal_tokens}
use Rattle.anb_syntax.proofs.Names.{letter_is}

-- ---- gaps

gap_blank : (b : ℕ) (x : List ℕ) → is_blank b ≡ true → gap_len (b ∷ x) ≡ suc (gap_len x)
gap_blank b x e = ap (λ v. cond v (suc (gap_len x)) (cond (b == 35) (suc (comment_len x)) 0)) e

gap_comment : (b : ℕ) (x : List ℕ) → is_blank b ≡ false → (b == 35) ≡ true → gap_len (b ∷ x) ≡ suc (comment_len x)
gap_comment b x e f = ap (λ v. cond v (suc (gap_len x)) (cond (b == 35) (suc (comment_len x)) 0)) e ∙ ap (λ v. cond v (suc (comment_len x)) 0) f

gap_none : (b : ℕ) (x : List ℕ) → is_blank b ≡ false → (b == 35) ≡ false → gap_len (b ∷ x) ≡ 0
gap_none b x e f = ap (λ v. cond v (suc (gap_len x)) (cond (b == 35) (suc (comment_len x)) 0)) e ∙ ap (λ v. cond v (suc (comment_len x)) 0) f

comment_ends : (b : ℕ) (x : List ℕ) → (b == 10) ≡ true → comment_len (b ∷ x) ≡ suc (gap_len x)
comment_ends b x e = ap (λ v. cond v (suc (gap_len x)) (suc (comment_len x))) e

comment_more : (b : ℕ) (x : List ℕ) → (b == 10) ≡ false → comment_len (b ∷ x) ≡ suc (comment_len x)
comment_more b x e = ap (λ v. cond v (suc (gap_len x)) (suc (comment_len x))) e

-- a gap before bytes that are none is one before others
abbrev pub GapAgain : List ℕ → List ℕ → Type 0
GapAgain x d = (drop (gap_len x) x ≡ [] → ⊥) → gap_len (take (gap_len x) x ++ d) ≡ gap_len x

abbrev pub CommentAgain : List ℕ → List ℕ → Type 0
CommentAgain x d = (drop (comment_len x) x ≡ [] → ⊥) → comment_len (take (comment_len x) x ++ d) ≡ comment_len x

gap_more : (b : ℕ) (x d : List ℕ) → gap_len d ≡ 0 → GapAgain x d → CommentAgain x d → (v w : Bool) → is_blank b ≡ v → (b == 35) ≡ w → GapAgain (b ∷ x) d
gap_more b x d z later comment true w e f some =
    let g = gap_blank b x e in
    ap (λ n. gap_len (take n (b ∷ x) ++ d)) g ∙ gap_blank b (take (gap_len x) x ++ d) e ∙ ap suc (later (λ q. some (ap (λ n. drop n (b ∷ x)) g ∙ q))) ∙ sym g
gap_more b x d z later comment false true e f some =
    let g = gap_comment b x e f in
    ap (λ n. gap_len (take n (b ∷ x) ++ d)) g ∙ gap_comment b (take (comment_len x) x ++ d) e f ∙ ap suc (comment (λ q. some (ap (λ n. drop n (b ∷ x)) g ∙ q))) ∙ sym g
gap_more b x d z later comment false false e f some = let g = gap_none b x e f in ap (λ n. gap_len (take n (b ∷ x) ++ d)) g ∙ z ∙ sym g

comment_next : (b : ℕ) (x d : List ℕ) → GapAgain x d → CommentAgain x d → (v : Bool) → (b == 10) ≡ v → CommentAgain (b ∷ x) d
comment_next b x d later comment true e some =
    let g = comment_ends b x e in
    ap (λ n. comment_len (take n (b ∷ x) ++ d)) g ∙ comment_ends b (take (gap_len x) x ++ d) e ∙ ap suc (later (λ q. some (ap (λ n. drop n (b ∷ x)) g ∙ q))) ∙ sym g
comment_next b x d later comment false e some =
    let g = comment_more b x e in
    ap (λ n. comment_len (take n (b ∷ x) ++ d)) g ∙ comment_more b (take (comment_len x) x ++ d) e ∙ ap suc (comment (λ q. some (ap (λ n. drop n (b ∷ x)) g ∙ q))) ∙ sym g

pub both_again : (x d : List ℕ) → gap_len d ≡ 0 → GapAgain x d × CommentAgain x d
both_again [] d z = (λ some. z, λ some. absurd (some refl))
both_again (b ∷ x) d z =
    let k = both_again x d z in
    (gap_more b x d z k.0 k.1 (is_blank b) (b == 35) refl refl, comment_next b x d k.0 k.1 (b == 10) refl)

-- behind a gap there is none
abbrev pub GapOver : List ℕ → Type 0
GapOver x = gap_len (drop (gap_len x) x) ≡ 0

abbrev pub CommentOver : List ℕ → Type 0
CommentOver x = gap_len (drop (comment_len x) x) ≡ 0

over_gap : (b : ℕ) (x : List ℕ) → GapOver x → CommentOver x → (v w : Bool) → is_blank b ≡ v → (b == 35) ≡ w → GapOver (b ∷ x)
over_gap b x later comment true w e f = ap (λ n. gap_len (drop n (b ∷ x))) (gap_blank b x e) ∙ later
over_gap b x later comment false true e f = ap (λ n. gap_len (drop n (b ∷ x))) (gap_comment b x e f) ∙ comment
over_gap b x later comment false false e f = let g = gap_none b x e f in ap (λ n. gap_len (drop n (b ∷ x))) g ∙ g

over_comment : (b : ℕ) (x : List ℕ) → GapOver x → CommentOver x → (v : Bool) → (b == 10) ≡ v → CommentOver (b ∷ x)
over_comment b x later comment true e = ap (λ n. gap_len (drop n (b ∷ x))) (comment_ends b x e) ∙ later
over_comment b x later comment false e = ap (λ n. gap_len (drop n (b ∷ x))) (comment_more b x e) ∙ comment

pub both_over : (x : List ℕ) → GapOver x × CommentOver x
both_over [] = (refl, refl)
both_over (b ∷ x) =
    let k = both_over x in
    (over_gap b x k.0 k.1 (is_blank b) (b == 35) refl refl, over_comment b x k.0 k.1 (b == 10) refl)

-- no gap before a byte is none before the same byte
pub gap_same : (b : ℕ) (x y : List ℕ) → gap_len (b ∷ x) ≡ 0 → gap_len (b ∷ y) ≡ 0
gap_same b x y z = by (is_blank b) refl where
  by : (v : Bool) → is_blank b ≡ v → gap_len (b ∷ y) ≡ 0
  by true e = let g = gap_blank b x e in cc
  by false e = and (b == 35) refl where
    and : (v : Bool) → (b == 35) ≡ v → gap_len (b ∷ y) ≡ 0
    and true f = let g = gap_comment b x e f in cc
    and false f = gap_none b y e f

-- ---- a token

-- no name goes on here
abbrev pub Breaks : List ℕ → Type 0
Breaks x = prefix_len is_name_byte x ≡ 0

prefix_on : (T : ℕ → Bool) (c : ℕ) (x : List ℕ) → T c ≡ true → prefix_len T (c ∷ x) ≡ suc (prefix_len T x)
prefix_on T c x e = ap (λ v. cond v (1 + prefix_len T x) 0) e ∙ next (prefix_len T x) where
  next : (n : ℕ) → 1 + n ≡ suc n
  next n = omega arith

prefix_off : (T : ℕ → Bool) (c : ℕ) (x : List ℕ) → T c ≡ false → prefix_len T (c ∷ x) ≡ 0
prefix_off T c x e = ap (λ v. cond v (1 + prefix_len T x) 0) e

prefix_again : (T : ℕ → Bool) (d r : List ℕ) → prefix_len T r ≡ 0 → prefix_len T (take (prefix_len T d) d ++ r) ≡ prefix_len T d
prefix_again T [] r e = e
prefix_again T (c ∷ d) r e = by (T c) refl (prefix_again T d r e) where
  by : (v : Bool) → T c ≡ v → prefix_len T (take (prefix_len T d) d ++ r) ≡ prefix_len T d → prefix_len T (take (prefix_len T (c ∷ d)) (c ∷ d) ++ r) ≡ prefix_len T (c ∷ d)
  by true f later =
      let g = prefix_on T c d f in
      ap (λ n. prefix_len T (take n (c ∷ d) ++ r)) g ∙ prefix_on T c (take (prefix_len T d) d ++ r) f ∙ ap suc later ∙ sym g
  by false f later = let g = prefix_off T c d f in ap (λ n. prefix_len T (take n (c ∷ d) ++ r)) g ∙ e ∙ sym g

prefix_stops : (T : ℕ → Bool) (d : List ℕ) → prefix_len T (drop (prefix_len T d) d) ≡ 0
prefix_stops T [] = refl
prefix_stops T (c ∷ d) = by (T c) refl (prefix_stops T d) where
  by : (v : Bool) → T c ≡ v → prefix_len T (drop (prefix_len T d) d) ≡ 0 → prefix_len T (drop (prefix_len T (c ∷ d)) (c ∷ d)) ≡ 0
  by true f later = ap (λ n. prefix_len T (drop n (c ∷ d))) (prefix_on T c d f) ∙ later
  by false f later = let g = prefix_off T c d f in ap (λ n. prefix_len T (drop n (c ∷ d))) g ∙ g

take_taken : {A : Type 0} (n : ℕ) (x r : List A) → take (length (take n x)) (take n x ++ r) ≡ take n x
take_taken zero x r = refl
take_taken (suc n) [] r = refl
take_taken (suc n) (c ∷ x) r = ap (λ (l : List _). c ∷ l) (take_taken n x r)

pub breaks_front : (u : ℕ) (z y : List ℕ) → Breaks z → Breaks y → Breaks (take u z ++ y)
breaks_front zero z y e f = f
breaks_front (suc u) [] y e f = f
breaks_front (suc u) (c ∷ z) y e f = by (is_name_byte c) refl where
  by : (v : Bool) → is_name_byte c ≡ v → Breaks (take (suc u) (c ∷ z) ++ y)
  by true g = let h = prefix_on is_name_byte c z g in absurd (omega (arith, e, h))
  by false g = prefix_off is_name_byte c (take u z ++ y) g

-- what may stand behind a word
abbrev pub Goes : Word → List ℕ → Type 0
Goes (name b) r = Breaks r
Goes (literal b) r = Unit {0}
Goes (sign c) r = Unit {0}
Goes end r = Unit {0}
Goes bad r = Unit {0}

pub goes_front : (w : Word) (u : ℕ) (z y : List ℕ) → Goes w z → Breaks y → Goes w (take u z ++ y)
goes_front (name b) u z y g e = breaks_front u z y g e
goes_front (literal b) u z y g e = tt
goes_front (sign c) u z y g e = tt
goes_front end u z y g e = tt
goes_front bad u z y g e = tt

abbrev token : Word → ℕ → Option (Word × ℕ)
token w n = Some (w, n)

abbrev none_yet : Option (Word × ℕ)
none_yet = None

abbrev name_front : List ℕ → Option (Word × ℕ)
name_front x = Some (name (take (prefix_len is_name_byte x) x), prefix_len is_name_byte x)

abbrev sign_front : ℕ → Option (Word × ℕ)
sign_front b = Some (sign b, 1)

abbrev arrow_front : Option (Word × ℕ)
arrow_front = Some (sign 45, 2)

module _ (b : ℕ) (x : List ℕ) where
  here_letter : is_letter b ≡ true → token_here (b ∷ x) ≡ name_front (b ∷ x)
  here_letter e = ap (λ v. cond v (name_front (b ∷ x)) (cond (b == 34) (quoted (characters_here x)) (cond (is_sign b) (sign_front b) (cond (b == 45 && begins_with 62 x) arrow_front None)))) e

  here_other : is_letter b ≡ false → token_here (b ∷ x) ≡ cond (b == 34) (quoted (characters_here x)) (cond (is_sign b) (sign_front b) (cond (b == 45 && begins_with 62 x) arrow_front None))
  here_other e = ap (λ v. cond v (name_front (b ∷ x)) (cond (b == 34) (quoted (characters_here x)) (cond (is_sign b) (sign_front b) (cond (b == 45 && begins_with 62 x) arrow_front None)))) e

  here_quote : is_letter b ≡ false → (b == 34) ≡ true → token_here (b ∷ x) ≡ quoted (characters_here x)
  here_quote e f = here_other e ∙ ap (λ v. cond v (quoted (characters_here x)) (cond (is_sign b) (sign_front b) (cond (b == 45 && begins_with 62 x) arrow_front None))) f

  here_plain : is_letter b ≡ false → (b == 34) ≡ false → token_here (b ∷ x) ≡ cond (is_sign b) (sign_front b) (cond (b == 45 && begins_with 62 x) arrow_front None)
  here_plain e f = here_other e ∙ ap (λ v. cond v (quoted (characters_here x)) (cond (is_sign b) (sign_front b) (cond (b == 45 && begins_with 62 x) arrow_front None))) f

  here_sign : is_letter b ≡ false → (b == 34) ≡ false → is_sign b ≡ true → token_here (b ∷ x) ≡ sign_front b
  here_sign e f g = here_plain e f ∙ ap (λ v. cond v (sign_front b) (cond (b == 45 && begins_with 62 x) arrow_front None)) g

  here_bare : is_letter b ≡ false → (b == 34) ≡ false → is_sign b ≡ false → token_here (b ∷ x) ≡ cond (b == 45 && begins_with 62 x) arrow_front None
  here_bare e f g = here_plain e f ∙ ap (λ v. cond v (sign_front b) (cond (b == 45 && begins_with 62 x) arrow_front None)) g

  here_arrow : (v : Bool) → is_letter b ≡ false → (b == 34) ≡ false → is_sign b ≡ false → (b == 45 && begins_with 62 x) ≡ v → token_here (b ∷ x) ≡ cond v arrow_front None
  here_arrow v e f g h = here_bare e f g ∙ ap (λ u. cond u arrow_front none_yet) h

arrow_on : (b : ℕ) (x : List ℕ) → (b == 45 && begins_with 62 x) ≡ true → (c : ℕ) × (y : List ℕ) × (x ≡ c ∷ y) × ((b == 45 && c == 62) ≡ true)
arrow_on b [] e = absurd (never (b == 45) e) where
  never : (v : Bool) → (v && false) ≡ true → ⊥
  never true e = cc
  never false e = cc
arrow_on b (c ∷ y) e = (c, y, refl, e)

-- a token again, where its bytes stand before others
pub record Again (d : List ℕ) (w : Word) (n : ℕ) : Type 0 where
  pub goes : Goes w (drop n d)
  pub again : (r : List ℕ) → Goes w r → token_here (take n d ++ r) ≡ Some (w, n)
  pub first : (k : ℕ) × (n ≡ suc k)
  pub within : n ≤ length d

abbrev pub AgainFor : List ℕ → Word × ℕ → Type 0
AgainFor d t = Again d t.0 t.1

literal_again : (d : List ℕ) (o : Option (List ℕ × ℕ)) (t : Word × ℕ) → token_here d ≡ quoted o → quoted o ≡ Some t → AgainFor d t
literal_again d None t e f = cc
literal_again d (Some s) t e f =
    let is : (literal s.0, suc s.1) ≡ t = same_Some (literal s.0, suc s.1) t f in
    let h = (literal_tokens d s.0 (suc s.1)).0 e in
    let size : length h.spelling ≡ suc s.1 = (let z = h.ends in omega (arith, z)) in
    subst (AgainFor d) is (record {
      goes = tt;
      again = λ r g. ap (λ l. token_here (l ++ r)) (ap (take (suc s.1)) h.stands ∙ front_of h.spelling h.rest (suc s.1) size) ∙ literal_read h.spelling s.0 r h.is ∙ ap (λ k. token (literal s.0) k) size;
      first = (s.1, refl);
      within = (let z = h.stands in omega (arith, ap length z, length-append h.spelling h.rest, size));
    }) where
      front_of : (a z : List ℕ) (n : ℕ) → length a ≡ n → take n (a ++ z) ≡ a
      front_of a z n e = ap (λ k. take k (a ++ z)) (sym e) ∙ whole a z where
        whole : (a z : List ℕ) → take (length a) (a ++ z) ≡ a
        whole [] z = refl
        whole (c ∷ a) z = ap (λ (l : List ℕ). c ∷ l) (whole a z)

name_again : (b : ℕ) (x : List ℕ) → is_letter b ≡ true → Again (b ∷ x) (name (take (prefix_len is_name_byte (b ∷ x)) (b ∷ x))) (prefix_len is_name_byte (b ∷ x))
name_again b x e =
    let d = b ∷ x in
    let n = prefix_len is_name_byte d in
    let more : n ≡ suc (prefix_len is_name_byte x) = prefix_on is_name_byte b x (letter_is b e) in
    record {
      goes = prefix_stops is_name_byte d;
      again = λ r g.
          let same = prefix_again is_name_byte d r g in
          let front : take n d ++ r ≡ b ∷ (take (prefix_len is_name_byte x) x ++ r) = ap (λ k. take k d ++ r) more in
          ap token_here front ∙ here_letter b (take (prefix_len is_name_byte x) x ++ r) e ∙ ap name_front (sym front)
          ∙ ap (λ k. Some (name (take k (take n d ++ r)), k)) same ∙ ap (λ l. token (name l) n) (taken n d r (within d));
      first = (prefix_len is_name_byte x, omega (arith, more));
      within = within d;
    } where
      taken : (k : ℕ) (l r : List ℕ) → k ≤ length l → take k (take k l ++ r) ≡ take k l
      taken zero l r h = refl
      taken (suc k) [] r h = absurd (omega (arith, h))
      taken (suc k) (c ∷ l) r h = ap (λ (z : List ℕ). c ∷ z) (taken k l r (omega (arith, h)))

      within : (l : List ℕ) → prefix_len is_name_byte l ≤ length l
      within [] = omega arith
      within (c ∷ l) = by (is_name_byte c) refl (within l) where
        by : (v : Bool) → is_name_byte c ≡ v → prefix_len is_name_byte l ≤ length l → prefix_len is_name_byte (c ∷ l) ≤ length (c ∷ l)
        by true f later = let g = prefix_on is_name_byte c l f in omega (arith, g, later)
        by false f later = let g = prefix_off is_name_byte c l f in omega (arith, g)

sign_again : (b : ℕ) (x : List ℕ) → is_letter b ≡ false → (b == 34) ≡ false → is_sign b ≡ true → Again (b ∷ x) (sign b) 1
sign_again b x e f g = record { goes = tt; again = λ r h. here_sign b r e f g; first = (0, refl); within = omega arith }

arrow_again : (b : ℕ) (x : List ℕ) → is_letter b ≡ false → (b == 34) ≡ false → is_sign b ≡ false → (b == 45 && begins_with 62 x) ≡ true → Again (b ∷ x) (sign 45) 2
arrow_again b x e f g h =
    let (c, y, is, t) = arrow_on b x h in
    record { goes = tt; again = λ r k. ap (λ l. token_here (take 2 (b ∷ l) ++ r)) is ∙ here_arrow b (c ∷ r) true e f g t; first = (1, refl); within = (let long = ap length is in omega (arith, long)) }

by_letter : (b : ℕ) (x : List ℕ) (v : Bool) (t : Word × ℕ) → token_here (b ∷ x) ≡ Some t → is_letter b ≡ v → AgainFor (b ∷ x) t
by_letter b x true t is e = subst (AgainFor (b ∷ x)) (same_Some _ t (sym (here_letter b x e) ∙ is)) (name_again b x e)
by_letter b x false t is e = by_quote (b == 34) refl where
  by_quote : (v : Bool) → (b == 34) ≡ v → AgainFor (b ∷ x) t
  by_quote true f = literal_again (b ∷ x) (characters_here x) t (here_quote b x e f) (sym (here_quote b x e f) ∙ is)
  by_quote false f = by_sign (is_sign b) refl where
    by_sign : (v : Bool) → is_sign b ≡ v → AgainFor (b ∷ x) t
    by_sign true g = subst (AgainFor (b ∷ x)) (same_Some (sign b, 1) t (sym (here_sign b x e f g) ∙ is)) (sign_again b x e f g)
    by_sign false g = by_arrow (b == 45 && begins_with 62 x) refl where
      by_arrow : (v : Bool) → (b == 45 && begins_with 62 x) ≡ v → AgainFor (b ∷ x) t
      by_arrow true h = subst (AgainFor (b ∷ x)) (same_Some (sign 45, 2) t (sym (here_arrow b x true e f g h) ∙ is)) (arrow_again b x e f g h)
      by_arrow false h = absurd (none-some t (sym (here_arrow b x false e f g h) ∙ is))

pub token_again : (d : List ℕ) (t : Word × ℕ) → token_here d ≡ Some t → AgainFor d t
token_again [] t e = absurd (none-some t e)
token_again (b ∷ x) t e = by_letter b x (is_letter b) t e refl
