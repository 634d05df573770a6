-- The pieces of a format line: how one is told from what follows it.
use Rattle.std.proofs.Common.{◌≡◌, ℕ, List, [], ◌∷◌, ◌++◌, length, true, true≢false, refl, sym, ap, ◌∙◌, subst, arith}
use Rattle.std.specs.Prelude.{not, ◌==◌}
use Rattle.std.specs.List.{AllByRecursion, flat_map, list_all}
use Rattle.std.proofs.lemmas.Bool.{and_parts}
use Rattle.std.proofs.lemmas.Bool.Decides.{nat_tests}
use Rattle.std.proofs.lemmas.List.{append_cancel_left}
use Rattle.std.proofs.lemmas.Option.{same_Some}
use Rattle.anb_base.specs.Bytes.{IsBytes}
use Rattle.anb_format.specs.declared.pieces.FieldKind.{FieldKind}
use Rattle.anb_format.specs.declared.pieces.FieldKind.TheVariants.{Len, Net, Hex, Rest}
use Rattle.anb_format.specs.declared.pieces.Piece.{Piece}
use Rattle.anb_format.specs.declared.pieces.Piece.TheVariants.{Lit, Field}
use Rattle.anb_format.specs.Literals.{Character, Plain, Quote, Backslash, Hexadecimal, IsAllowed, canonical_literal, spelling_of}
use Rattle.anb_format.proofs.Canonical.{canonical}
use Rattle.anb_format.specs.Formats.{IsBytesPiece}
use Rattle.anb_syntax.specs.Words.{Word, literal, kind_word}
use Rattle.anb_syntax.specs.Lexing.{token_here}
use Rattle.anb_syntax.proofs.LiteralTokens.{literal_read}
use Rattle.anb_text.specs.Lines.{spaced_piece}
use Rattle.anb_text.specs.Reading.{IsEnd, IsWord}
use Rattle.anb_text.proofs.Choices.{first_differs}
use Rattle.anb_text.proofs.Words.{IsPlain, both_all, is_plain, is_within}

pub pieces_end : (ps : List Piece) → IsEnd (flat_map spaced_piece ps)
pieces_end [] = tt
pieces_end (p ∷ ps) = refl

inside_end : (b : ℕ) → not (b == 32) ≡ true → b ≡ 32 → ⊥
inside_end b h e = grind (arith, nat_tests)

pub plain_word : (w : List ℕ) → IsPlain w → IsWord w
plain_word [] h = refl
plain_word (b ∷ w) h =
    let k = and_parts (is_plain b) (list_all is_plain w) h in
    rw (and_parts (not (b == 32)) (not (b == 10)) k.0).0 (plain_word w k.1)

-- a word without spaces ends where a space is next, or nothing
pub word_once : (w v x y : List ℕ) → IsWord w → IsWord v → IsEnd x → IsEnd y → w ++ x ≡ v ++ y → (w ≡ v) × (x ≡ y)
word_once [] [] x y h k end stop e = (refl, e)
word_once [] (b ∷ v) [] y h k end stop e = cc
word_once [] (b ∷ v) (c ∷ x) y h k end stop e = let same : c ≡ b = cc in absurd (inside_end b (and_parts (not (b == 32)) (list_all (λ b. not (b == 32)) v) k).0 (sym same ∙ end))
word_once (b ∷ w) [] x [] h k end stop e = cc
word_once (b ∷ w) [] x (c ∷ y) h k end stop e = let same : c ≡ b = cc in absurd (inside_end b (and_parts (not (b == 32)) (list_all (λ b. not (b == 32)) w) h).0 (sym same ∙ stop))
word_once (b ∷ w) (c ∷ v) x y h k end stop e =
    let same : b ≡ c = cc in
    let others : w ++ x ≡ v ++ y = cc in
    let rest = word_once w v x y (and_parts (not (b == 32)) (list_all (λ b. not (b == 32)) w) h).1 (and_parts (not (c == 32)) (list_all (λ b. not (b == 32)) v) k).1 end stop others in
    (cc (same, rest.0), rest.1)

pub literal_once : (a b x y : List ℕ) → IsBytes a → IsBytes b → canonical_literal a ++ x ≡ canonical_literal b ++ y → (a ≡ b) × (x ≡ y)
literal_once a b x y h k e =
    let one = literal_read (canonical_literal a) a x (canonical a h) in
    let other = literal_read (canonical_literal b) b y (canonical b k) in
    let both = same_Some (literal a, length (canonical_literal a)) (literal b, length (canonical_literal b)) (sym one ∙ ap token_here e ∙ other) in
    let words = ap (λ (t : Word × ℕ). t.0) both in
    let same : a ≡ b = cc (words) in
    (same, append_cancel_left (canonical_literal a) x y (e ∙ ap (λ (c : List ℕ). canonical_literal c ++ y) (sym same)))

kind_once : (k l : FieldKind) (x y : List ℕ) → kind_word k ++ x ≡ kind_word l ++ y → (k ≡ l) × (x ≡ y)
kind_once Len Len x y e = (refl, append_cancel_left (kind_word Len) x y e)
kind_once Len Net x y e = absurd (first_differs _ _ _ _ refl e)
kind_once Len Hex x y e = absurd (first_differs _ _ _ _ refl e)
kind_once Len Rest x y e = absurd (first_differs _ _ _ _ refl e)
kind_once Net Len x y e = absurd (first_differs _ _ _ _ refl e)
kind_once Net Net x y e = (refl, append_cancel_left (kind_word Net) x y e)
kind_once Net Hex x y e = absurd (first_differs _ _ _ _ refl e)
kind_once Net Rest x y e = absurd (first_differs _ _ _ _ refl e)
kind_once Hex Len x y e = absurd (first_differs _ _ _ _ refl e)
kind_once Hex Net x y e = absurd (first_differs _ _ _ _ refl e)
kind_once Hex Hex x y e = (refl, append_cancel_left (kind_word Hex) x y e)
kind_once Hex Rest x y e = absurd (first_differs _ _ _ _ refl e)
kind_once Rest Len x y e = absurd (first_differs _ _ _ _ refl e)
kind_once Rest Net x y e = absurd (first_differs _ _ _ _ refl e)
kind_once Rest Hex x y e = absurd (first_differs _ _ _ _ refl e)
kind_once Rest Rest x y e = (refl, append_cancel_left (kind_word Rest) x y e)

no_quote : (k : FieldKind) (x y : List ℕ) → kind_word k ++ x ≡ 34 ∷ y → ⊥
no_quote Len x y e = first_differs _ 34 _ y refl e
no_quote Net x y e = first_differs _ 34 _ y refl e
no_quote Hex x y e = first_differs _ 34 _ y refl e
no_quote Rest x y e = first_differs _ 34 _ y refl e

behind_first : (b c : ℕ) (x y : List ℕ) → b ∷ x ≡ c ∷ y → x ≡ y
behind_first b c x y e = cc

-- texts that begin with pieces begin with the same one
pub piece_once : (p q : Piece) (x y : List ℕ) → IsBytesPiece p → IsBytesPiece q → spaced_piece p ++ x ≡ spaced_piece q ++ y → (p ≡ q) × (x ≡ y)
piece_once (Lit a) (Lit b) x y h k e = let inner : canonical_literal a ++ x ≡ canonical_literal b ++ y = behind_first 32 32 _ _ e in let both = literal_once a b x y h k inner in (ap Lit both.0, both.1)
piece_once (Lit a) (Field k) x y h i e = absurd (no_quote k y _ (behind_first 32 32 _ _ (sym e)))
piece_once (Field k) (Lit b) x y h i e = absurd (no_quote k x _ (behind_first 32 32 _ _ e))
piece_once (Field k) (Field l) x y h i e = let inner : kind_word k ++ x ≡ kind_word l ++ y = behind_first 32 32 _ _ e in let both = kind_once k l x y inner in (ap Field both.0, both.1)

pub pieces_once : (ps qs : List Piece) → AllByRecursion IsBytesPiece ps → AllByRecursion IsBytesPiece qs → flat_map spaced_piece ps ≡ flat_map spaced_piece qs → ps ≡ qs
pieces_once [] [] h k e = refl
pieces_once [] (q ∷ qs) h k e = cc
pieces_once (p ∷ ps) [] h k e = cc
pieces_once (p ∷ ps) (q ∷ qs) h k e =
    let first = piece_once p q (flat_map spaced_piece ps) (flat_map spaced_piece qs) h.0 k.0 e in
    ap (λ (r : Piece). r ∷ ps) first.0 ∙ ap (λ (rs : List Piece). q ∷ rs) (pieces_once ps qs h.1 k.1 first.1)

-- ---- no line ends within a piece

not_end : (b : ℕ) → (b ≡ 10 → ⊥) → is_within b ≡ true
not_end b other = grind (arith, nat_tests)

character_within : (c : Character) → IsAllowed c → list_all is_within (spelling_of c) ≡ true
character_within (Plain b) h = let low = h.0 in let one : is_within b ≡ true = grind (arith, nat_tests) in rw one refl
character_within Quote h = refl
character_within Backslash h = refl
character_within (Hexadecimal high low) h =
    let first = not_end high (λ e. true≢false (sym (subst (λ (c : ℕ). IsAllowed (Hexadecimal c low)) e h).0)) in
    let second = not_end low (λ e. true≢false (sym (subst (λ (c : ℕ). IsAllowed (Hexadecimal high c)) e h).1)) in rw (first, second) refl

characters_within : (cs : List Character) → AllByRecursion IsAllowed cs → list_all is_within (flat_map spelling_of cs) ≡ true
characters_within [] h = refl
characters_within (c ∷ cs) h = both_all is_within (spelling_of c) (flat_map spelling_of cs) (character_within c h.0) (characters_within cs h.1)

literal_within : (b : List ℕ) → IsBytes b → list_all is_within (canonical_literal b) ≡ true
literal_within b h =
    let spelled = canonical b h in
    ap (list_all is_within) spelled.spelled ∙ both_all is_within (flat_map spelling_of spelled.characters) (34 ∷ []) (characters_within spelled.characters spelled.allowed) refl

kind_within : (k : FieldKind) → list_all is_within (kind_word k) ≡ true
kind_within Len = refl
kind_within Net = refl
kind_within Hex = refl
kind_within Rest = refl

piece_within : (p : Piece) → IsBytesPiece p → list_all is_within (spaced_piece p) ≡ true
piece_within (Lit b) h = literal_within b h
piece_within (Field k) h = kind_within k

pub pieces_within : (ps : List Piece) → AllByRecursion IsBytesPiece ps → list_all is_within (flat_map spaced_piece ps) ≡ true
pieces_within [] h = refl
pieces_within (p ∷ ps) h = both_all is_within (spaced_piece p) (flat_map spaced_piece ps) (piece_within p h.0) (pieces_within ps h.1)
