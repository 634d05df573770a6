-- Readers of lists: names behind commas, and the items of type and format sections.
use Rattle.std.proofs.Common.{◌≡◌, ℕ, ◌<◌, List, [], ◌∷◌, ◌++◌, map, Bool, true, Result, refl, sym, ap, arith}
use Rattle.std.specs.Prelude.{not}
use Rattle.std.specs.List.{flat_map, list_all, AllByRecursion}
use Rattle.anb_format.specs.declared.pieces.Piece.{Piece}
use Rattle.anb_format.specs.declared.pieces.Piece.TheVariants.{Lit, Field}
use Rattle.anb_format.specs.declared.pieces.FieldKind.{FieldKind}
use Rattle.anb_format.specs.declared.pieces.FieldKind.TheVariants.{Len, Net, Hex, Rest}
use Rattle.anb_format.specs.Formats.{IsBytesPiece}
use Rattle.anb_read.specs.declared.refusal.ReadNo.{ReadNo}
use Rattle.anb_syntax.specs.Words.{Word, name, Tok, comma, semicolon, equals}
use Rattle.anb_syntax.specs.Grammar.{IsName, AreNames, comma_name, spell_names, TypeItem, IsTypeItem, spell_type, FormatItem, IsFormatItem, spell_format, piece_word}
use Rattle.anb_read.specs.Productions.{with_front, many, is_comma, is_piece, comma_name_at, names_at, type_at, piece_at, format_at}
use Rattle.anb_read.proofs.Readers.{Reads}
use Rattle.anb_read.proofs.Begins.{begins_length}
use Rattle.anb_read.proofs.Parts.{reads_nothing, reads_as, always, yes}
use Rattle.anb_read.proofs.Many.{stops_many, reads_many}
use Rattle.anb_read.proofs.Optional.{reads_mapped}
use Rattle.anb_read.proofs.Picks.{reads_word, reads_name, reads_sort, reads_piece, seq, seq_until, next_is}

-- a list stops at a word that no item begins with
pub stops_at : {A : Type 0} (starts : Word → Bool) (t : A → Word → Bool) (x : Word) → not (starts x) ≡ true → ((a : A) → t a x ≡ true) → (vs : List A) → stops_many starts t vs x ≡ true
stops_at starts t x ends here [] = ends
stops_at starts t x ends here (a ∷ []) = rw (here a) ends
stops_at starts t x ends here (a ∷ b ∷ vs) = stops_at starts t x ends here (b ∷ vs)

pub always_stops : {A : Type 0} (starts : Word → Bool) (x : Word) (vs : List A) → stops_many starts always vs x ≡ not (starts x)
always_stops starts x [] = refl
always_stops starts x (a ∷ []) = refl
always_stops starts x (a ∷ b ∷ vs) = always_stops starts x (b ∷ vs)

pub all_yes : {A : Type 0} (vs : List A) → list_all yes vs ≡ true
all_yes [] = refl
all_yes (a ∷ vs) = all_yes vs

abbrev pub others_of : {A : Type 0} → List A → List A
others_of [] = []
others_of (a ∷ vs) = vs

-- these are the first one, and others behind it
abbrev pub AreBehind : {A : Type 0} → (A → Type 0) → A → List A → Type 0
AreBehind V a vs = (vs ≡ a ∷ others_of vs) × AllByRecursion V (others_of vs)

module _ {A : Type 0} (l : ℕ) (starts : Word → Bool) (p : List Tok → Result (A × List Tok) ReadNo) (V : A → Type 0) (f : A → Bool) (s : A → List Word) (t : A → Word → Bool)
    (hp : Reads l l (many starts p) (AllByRecursion V) (list_all f) (flat_map s) (stops_many starts t)) where
  pub reads_behind : (a : A) → Reads l l (λ w. with_front (a ∷ []) (many starts p w)) (AreBehind V a) (λ vs. list_all f (others_of vs)) (λ vs. flat_map s (others_of vs)) (λ vs x. stops_many starts t (others_of vs) x)
  reads_behind a = reads_mapped l l (many starts p) (AllByRecursion V) (list_all f) (flat_map s) (stops_many starts t)
      (AreBehind V a) (λ vs. list_all f (others_of vs)) (λ vs. flat_map s (others_of vs)) (λ vs x. stops_many starts t (others_of vs) x) (λ vs. a ∷ vs) others_of hp
      (λ vs v. (refl, v)) (λ vs v. v.1) (λ vs v. sym v.0) (λ vs v. refl) (λ vs v. refl) (λ vs x v. refl)

-- names
pub reads_comma_name : (l : ℕ) → 0 < l → Reads l l comma_name_at IsName yes comma_name always
unfolding comma_name_at
reads_comma_name l h = reads_as _ _ _ _ _ _ _ _ _ _ _ (seq (λ n. tt) (reads_word l l comma (λ e. cc) refl (λ e. cc)) (λ u. reads_name l h) (λ a b v. refl))
    (λ a v. v.1) (λ a v. (tt, v)) (λ a v. refl) (λ a v. refl) (λ a x v. refl)

reads_comma_names : (l : ℕ) → 0 < l → Reads l l (many is_comma comma_name_at) (AllByRecursion IsName) (list_all yes) (flat_map comma_name) (stops_many is_comma always)
reads_comma_names l h = reads_many l is_comma comma_name_at IsName yes comma_name always (reads_comma_name l h)
    (λ a w rest v g. next_is is_comma true comma (name a ∷ []) w rest g refl) (λ a w rest v g. omega (arith, begins_length w (comma_name a) rest g)) (λ a x v e. refl) refl

abbrev first_name : List (List ℕ) → List ℕ
first_name [] = []
first_name (n ∷ ns) = n

names_valid : (ns : List (List ℕ)) → IsName (first_name ns) × AreBehind IsName (first_name ns) ns → AreNames ns
names_valid [] v = cc (v.1.0)
names_valid (n ∷ ns) v = (v.0, v.1.1)

valid_names : (ns : List (List ℕ)) → AreNames ns → IsName (first_name ns) × AreBehind IsName (first_name ns) ns
valid_names [] v = absurd v
valid_names (n ∷ ns) v = (v.0, (refl, v.1))

names_words : (ns : List (List ℕ)) (n : List ℕ) → AreBehind IsName n ns → name (first_name ns) ∷ flat_map comma_name (others_of ns) ≡ spell_names ns
names_words [] n v = cc (v.0)
names_words (m ∷ ns) n v = refl

pub reads_names : (l : ℕ) → 0 < l → Reads l l names_at AreNames yes spell_names (λ ns x. not (is_comma x))
unfolding names_at
reads_names l h = reads_as _ _ _ _ _ _ _ _ _ _ _
    (seq first_name (reads_name l h) (reads_behind l is_comma comma_name_at IsName yes comma_name always (reads_comma_names l h)) (λ a ns v. ap first_name v.0))
    names_valid valid_names (λ ns v. all_yes (others_of ns)) (λ ns v. names_words ns (first_name ns) v.1) (λ ns x v. always_stops is_comma x (others_of ns))

-- type items
pub reads_type : (l : ℕ) → 0 < l → Reads l l type_at IsTypeItem yes spell_type always
unfolding type_at
reads_type l h = reads_as _ _ _ _ _ _ _ _ _ _ _
    (seq (λ i. i.sort) (reads_sort l h)
    (λ s. seq_until (λ i. i.names) semicolon (reads_names l h)
    (λ ns. seq (λ i. tt) (reads_word l l semicolon (λ e. cc) refl (λ e. cc)) (λ u. reads_nothing TypeItem l (record { sort = s; names = ns })) (λ a b v. refl))
    (λ a b v. ap (λ i. i.names) v.1) (λ a. refl))
    (λ a b v. ap (λ i. i.sort) v.1.1))
    (λ i v. v.1.0) (λ i v. (tt, (v, (tt, refl)))) (λ i v. refl) (λ i v. refl) (λ i x v. refl)

-- format items
kind_is : (k : FieldKind) → is_piece (piece_word (Field k)) ≡ true
kind_is Len = refl
kind_is Net = refl
kind_is Hex = refl
kind_is Rest = refl

piece_is : (p : Piece) → is_piece (piece_word p) ≡ true
piece_is (Lit b) = refl
piece_is (Field k) = kind_is k

abbrev piece_words : Piece → List Word
piece_words p = piece_word p ∷ []

reads_pieces : (l : ℕ) → 0 < l → Reads l l (many is_piece piece_at) (AllByRecursion IsBytesPiece) (list_all yes) (flat_map piece_words) (stops_many is_piece always)
reads_pieces l h = reads_many l is_piece piece_at IsBytesPiece yes piece_words always (reads_piece l h)
    (λ p w rest v g. next_is is_piece true (piece_word p) [] w rest g (piece_is p)) (λ p w rest v g. omega (arith, begins_length w (piece_words p) rest g)) (λ a x v e. refl) refl

one_by_one : (ps : List Piece) → flat_map piece_words ps ≡ map piece_word ps
one_by_one [] = refl
one_by_one (p ∷ ps) = ap (λ (xs : List Word). piece_word p ∷ xs) (one_by_one ps)

pub reads_format : (l : ℕ) → 0 < l → Reads l l format_at IsFormatItem yes spell_format always
unfolding format_at
reads_format l h = reads_as _ _ _ _ _ _ _ _ _ _ _
    (seq (λ i. i.title) (reads_name l h)
    (λ n. seq (λ i. tt) (reads_word l l equals (λ e. cc) refl (λ e. cc))
    (λ u. seq_until (λ i. i.pieces) semicolon (reads_pieces l h)
    (λ ps. seq (λ i. tt) (reads_word l l semicolon (λ e. cc) refl (λ e. cc)) (λ u. reads_nothing FormatItem l (record { title = n; pieces = ps })) (λ a b v. refl))
    (λ a b v. ap (λ i. i.pieces) v.1) (λ a. stops_at is_piece always semicolon refl (λ b. refl) a))
    (λ a b v. refl))
    (λ a b v. ap (λ i. i.title) v.1.1.1))
    (λ i v. (v.0, v.1.1.0)) (λ i v. (v.0, (tt, (v.1, (tt, refl))))) (λ i v. rw (all_yes i.pieces) refl)
    (λ i v. ap (λ (xs : List Word). name i.title ∷ equals ∷ xs ++ semicolon ∷ []) (one_by_one i.pieces)) (λ i x v. refl)
