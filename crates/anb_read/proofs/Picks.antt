-- The readers of one token, and readers in a row.
use Rattle.std.proofs.Common.{◌≡◌, ℕ, ◌+◌, ◌<◌, List, [], ◌∷◌, ◌++◌, Bool, true, false, Option, Some, None, Result, refl, sym, ap, ◌∙◌, subst, inl, inr, cond}
use Rattle.std.specs.Prelude.{◌&&◌}
use Rattle.std.specs.Str.{bytes_eq}
use Rattle.std.proofs.lemmas.Bool.{eqb-true, eq-eqb}
use Rattle.anb_lemmas.proofs.Options.{side_taken}
use Rattle.anb_lemmas.proofs.Items.{bytes_eq-same, bytes_are_one}
use Rattle.anb_base.specs.Bytes.{IsBytes, is_bytes, IsBytes-pass, is_bytes-IsBytes}
use Rattle.anb_base.specs.declared.content.Suite.{Suite}
use Rattle.anb_base.specs.declared.content.Suite.TheVariants.{One, Two}
use Rattle.anb_format.specs.declared.pieces.Piece.{Piece}
use Rattle.anb_format.specs.declared.pieces.Piece.TheVariants.{Lit, Field}
use Rattle.anb_format.specs.declared.pieces.FieldKind.{FieldKind}
use Rattle.anb_format.specs.declared.pieces.FieldKind.TheVariants.{Len, Net, Hex, Rest}
use Rattle.anb_format.specs.Formats.{IsBytesPiece}
use Rattle.anb_syntax.specs.declared.narration.Sort.{Sort}
use Rattle.anb_syntax.specs.declared.narration.Sort.TheVariants.{Agent, Number, Key}
use Rattle.anb_read.specs.declared.refusal.ReadNo.{ReadNo}
use Rattle.anb_syntax.specs.Words.{Word, name, literal, sign, end, bad, Tok, head, Begins, word_eqb, is_name, sort_word, hash_name, kind_word, kind_of_word}
use Rattle.anb_syntax.specs.Grammar.{IsName, piece_word}
use Rattle.anb_syntax.proofs.Names.{kind_again}
use Rattle.anb_read.specs.Productions.{◌>>=◌, this_word, word_name, word_sort, word_suite, word_piece, field, expect, name_at, sort_at, suite_at, piece_at, begins_term}
use Rattle.anb_read.proofs.Readers.{opens, closes, Reads}
use Rattle.anb_read.proofs.Parts.{OneWord, reads_one, always, yes}
use Rattle.anb_read.proofs.Then.{reads_then}

pub word_same : (x : Word) → word_eqb x x ≡ true
word_same (name b) = bytes_eq-same b
word_same (literal b) = bytes_eq-same b
word_same (sign c) = eq-eqb c c refl
word_same end = refl
word_same bad = refl

pub word_eqb_true : (x y : Word) → word_eqb x y ≡ true → y ≡ x
word_eqb_true (name a) (name b) e = ap name (sym (bytes_are_one a b e))
word_eqb_true (literal a) (literal b) e = ap literal (sym (bytes_are_one a b e))
word_eqb_true (sign c) (sign d) e = ap sign (sym (eqb-true c d e))
word_eqb_true end end e = refl
word_eqb_true bad bad e = refl
word_eqb_true _ _ e = cc

one_this : (x : Word) → OneWord (this_word x) (λ u. Unit {0}) (λ u. x)
one_this x = record {
  gives = λ v i. rw (word_same x) refl;
  only = λ y v e. elim (side_taken (word_eqb x y) (Some tt) None (Some v) e) [ inl c ↦ (word_eqb_true x y c.0, tt) | inr c ↦ cc (c.1) ];
  some = tt;
  is_valid = tt;
}

pub reads_word : (l m : ℕ) (x : Word) → (x ≡ bad → ⊥) → opens (x ∷ []) + m ≡ closes (x ∷ []) + l → (begins_term x ≡ true → 0 < l) → Reads l m (expect x) (λ u. Unit {0}) yes (λ u. x ∷ []) always
unfolding expect
reads_word l m x h e k = reads_one l m (this_word x) (λ u. Unit {0}) (λ u. x) (one_this x) (λ v i. h) (λ v i. e) (λ v i. k)

gives_name : (v : List ℕ) → IsName v → word_name (name v) ≡ Some v
gives_name v i = rw i refl

only_name : (x : Word) (v : List ℕ) → word_name x ≡ Some v → (x ≡ name v) × IsName v
only_name (name b) v e = elim (side_taken (is_name b) (Some b) None (Some v) e) [
  | inl c ↦ let s : b ≡ v = cc (c.1) in (ap name s, subst IsName s c.0)
  | inr c ↦ cc (c.1)
]
only_name _ v e = cc

pub a_word : List ℕ
a_word = 97 ∷ []

pub a_name : IsName a_word
unfolding is_name a_word
a_name = refl

one_name : OneWord word_name IsName name
one_name = record { gives = gives_name; only = only_name; some = a_word; is_valid = a_name }

pub reads_name : (l : ℕ) → 0 < l → Reads l l name_at IsName yes (λ b. name b ∷ []) always
unfolding name_at
reads_name l h = reads_one l l word_name IsName name one_name (λ v i e. cc) (λ v i. refl) (λ v i e. h)

-- a reserved word is no name
pub not_reserved : (r n : List ℕ) → is_name r ≡ false → IsName n → bytes_eq r n ≡ false
not_reserved r n h i = elim (side_taken (bytes_eq r n) true false (bytes_eq r n) (by_cases (bytes_eq r n))) [
  | inl c ↦ let s : is_name n ≡ false = ap is_name (sym (bytes_are_one r n c.0)) ∙ h in cc (i, s)
  | inr c ↦ c.0
]
  where
    by_cases : (b : Bool) → cond b true false ≡ b
    by_cases true = refl
    by_cases false = refl

-- One of the words of a finite type, as it stands in a table of words: the first of them that is the same.
abbrev table : {A : Type 0} → (A → List ℕ) → List A → List ℕ → Option A
table spelled [] b = None
table spelled (a ∷ others) b = cond (bytes_eq (spelled a) b) (Some a) (table spelled others b)

table_only : {A : Type 0} (spelled : A → List ℕ) (others : List A) (b : List ℕ) (v : A) → table spelled others b ≡ Some v → b ≡ spelled v
table_only spelled [] b v e = cc
table_only spelled (a ∷ others) b v e = elim (side_taken (bytes_eq (spelled a) b) (Some a) (table spelled others b) (Some v) e) [
  | inl c ↦ let s : a ≡ v = cc (c.1) in sym (bytes_are_one (spelled a) b c.0) ∙ ap spelled s
  | inr c ↦ table_only spelled others b v c.1
]

-- the sorts
gives_sort : (v : Sort) → word_sort (name (sort_word v)) ≡ Some v
gives_sort Agent = refl
gives_sort Number = refl
gives_sort Key = refl

only_sort : (x : Word) (v : Sort) → word_sort x ≡ Some v → (x ≡ name (sort_word v)) × Unit {0}
only_sort (name b) v e = (ap name (table_only sort_word (Agent ∷ Number ∷ Key ∷ []) b v e), tt)
only_sort _ v e = cc

one_sort : OneWord word_sort (λ s. Unit {0}) (λ s. name (sort_word s))
one_sort = record { gives = λ v i. gives_sort v; only = only_sort; some = Agent; is_valid = tt }

pub reads_sort : (l : ℕ) → 0 < l → Reads l l sort_at (λ s. Unit {0}) yes (λ s. name (sort_word s) ∷ []) always
unfolding sort_at
reads_sort l h = reads_one l l word_sort (λ s. Unit {0}) (λ s. name (sort_word s)) one_sort (λ v i e. cc) (λ v i. refl) (λ v i e. h)

-- the suites
gives_suite : (v : Suite) → word_suite (name (hash_name v)) ≡ Some v
gives_suite One = refl
gives_suite Two = refl

only_suite : (x : Word) (v : Suite) → word_suite x ≡ Some v → (x ≡ name (hash_name v)) × Unit {0}
only_suite (name b) v e = (ap name (table_only hash_name (One ∷ Two ∷ []) b v e), tt)
only_suite _ v e = cc

one_suite : OneWord word_suite (λ s. Unit {0}) (λ s. name (hash_name s))
one_suite = record { gives = λ v i. gives_suite v; only = only_suite; some = One; is_valid = tt }

pub reads_suite : (l : ℕ) → 0 < l → Reads l l suite_at (λ s. Unit {0}) yes (λ s. name (hash_name s) ∷ []) always
unfolding suite_at
reads_suite l h = reads_one l l word_suite (λ s. Unit {0}) (λ s. name (hash_name s)) one_suite (λ v i e. cc) (λ v i. refl) (λ v i e. h)

gives_piece : (v : Piece) → IsBytesPiece v → word_piece (piece_word v) ≡ Some v
gives_piece (Lit b) i = rw (is_bytes-IsBytes b i) refl
gives_piece (Field k) i = rw (kind_again k) refl

only_field : (o : Option FieldKind) (b : List ℕ) (v : Piece) → ((k : FieldKind) → o ≡ Some k → b ≡ kind_word k) → field o ≡ Some v → (name b ≡ piece_word v) × IsBytesPiece v
only_field None b v h e = cc
only_field (Some k) b (Lit c) h e = cc
only_field (Some k) b (Field j) h e = let s : k ≡ j = cc in (ap name (h k refl ∙ ap kind_word s), tt)

only_literal : (b : List ℕ) (v : Piece) → (is_bytes b ≡ true) × (Some (Lit b) ≡ Some v) → (literal b ≡ piece_word v) × IsBytesPiece v
only_literal b (Lit c) h = let s : b ≡ c = cc (h.1) in (ap literal s, subst IsBytes s (IsBytes-pass b h.0))
only_literal b (Field k) h = cc (h.1)

only_piece : (x : Word) (v : Piece) → word_piece x ≡ Some v → (x ≡ piece_word v) × IsBytesPiece v
only_piece (name b) v e = only_field (kind_of_word b) b v (λ k h. table_only kind_word (Len ∷ Net ∷ Hex ∷ Rest ∷ []) b k h) e
only_piece (literal b) v e = elim (side_taken (is_bytes b) (Some (Lit b)) None (Some v) e) [ inl c ↦ only_literal b v c | inr c ↦ cc (c.1) ]
only_piece (sign c) v e = cc
only_piece end v e = cc
only_piece bad v e = cc

one_piece : OneWord word_piece IsBytesPiece piece_word
one_piece = record { gives = gives_piece; only = only_piece; some = Field Len; is_valid = tt }

no_bad_piece : (v : Piece) → piece_word v ≡ bad → ⊥
no_bad_piece (Lit b) e = cc
no_bad_piece (Field k) e = cc

balanced_piece : (l : ℕ) (v : Piece) → opens (piece_word v ∷ []) + l ≡ closes (piece_word v ∷ []) + l
balanced_piece l (Lit b) = refl
balanced_piece l (Field k) = refl

pub reads_piece : (l : ℕ) → 0 < l → Reads l l piece_at IsBytesPiece yes (λ p. piece_word p ∷ []) always
unfolding piece_at
reads_piece l h = reads_one l l word_piece IsBytesPiece piece_word one_piece (λ v i e. no_bad_piece v e) (λ v i. balanced_piece l v) (λ v i e. h)

-- the next word
pub next_is : (T : Word → Bool) (b : Bool) (x : Word) (xs : List Word) (w rest : List Tok) → Begins w (x ∷ xs) rest → T x ≡ b → T (head w) ≡ b
next_is T b x xs [] rest g e = absurd g
next_is T b x xs (t ∷ w) rest g e = ap T g.0 ∙ e

-- a reader that anything may follow, and another
pub seq : {A B : Type 0} {l m n : ℕ} {p : List Tok → Result (A × List Tok) ReadNo} {Vp : A → Type 0} {fp : A → Bool} {sp : A → List Word}
    {q : A → List Tok → Result (B × List Tok) ReadNo} {Vq : A → B → Type 0} {fq : B → Bool} {sq : B → List Word} {tq : B → Word → Bool}
    (first : B → A) → Reads l m p Vp fp sp always → ((a : A) → Reads m n (q a) (Vq a) fq sq tq) → ((a : A) (b : B) → Vq a b → first b ≡ a)
    → Reads l n (λ w. p w >>= λ x. q x.0 x.1) (λ b. Vp (first b) × Vq (first b) b) (λ b. fp (first b) && fq b) (λ b. sp (first b) ++ sq b) tq
seq first hp hq is_first = reads_then _ _ _ _ _ _ _ _ _ _ _ _ _ first hp hq is_first (λ a b w rest v g e. refl)

-- a reader that stops at a word, and another that begins with this word
pub seq_until : {A B : Type 0} {l m n : ℕ} {p : List Tok → Result (A × List Tok) ReadNo} {Vp : A → Type 0} {fp : A → Bool} {sp : A → List Word} {tp : A → Word → Bool}
    {q : A → List Tok → Result (B × List Tok) ReadNo} {Vq : A → B → Type 0} {fq : B → Bool} {sq : B → List Word} {tq : B → Word → Bool}
    (first : B → A) (x : Word) → Reads l m p Vp fp sp tp → ((a : A) → Reads m n (q a) (Vq a) fq (λ b. x ∷ sq b) tq) → ((a : A) (b : B) → Vq a b → first b ≡ a)
    → ((a : A) → tp a x ≡ true)
    → Reads l n (λ w. p w >>= λ x. q x.0 x.1) (λ b. Vp (first b) × Vq (first b) b) (λ b. fp (first b) && fq b) (λ b. sp (first b) ++ (x ∷ sq b)) tq
seq_until {tp = tp} {sq = sq} first x hp hq is_first stops = reads_then _ _ _ _ _ _ _ _ _ _ _ _ _ first hp hq is_first (λ a b w rest v g e. next_is (tp a) true x (sq b) w rest g (stops a))
