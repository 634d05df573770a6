-- Facts for the reader's functions.
use Rattle.std.proofs.Common.{◌≡◌, ◌≤◌, ◌<◌, ◌^◌, ◌+◌, ℕ, zero, suc, List, [], ◌∷◌, ◌++◌, length, take, drop, Bool, true, false, Option, Some, None, nat_lt, refl, sym, ap, ◌∙◌, subst, cond, arith, inl, inr, append_assoc}
use Rattle.std.specs.Prelude.{◌==◌, not, codes, decimal, IfNone, IfOk, IfSome, MatchOption, Result, Ok, Err}
use Rattle.std.specs.Borrow.{Bor}
use Rattle.std.specs.List.{AllByRecursion, flat_map, list_all, position, prefix_len}
use Rattle.std.specs.Str.{IsAscii, IsUtf8, bytes_eq}
use Rattle.std.proofs.Math.Seq.{take-append_seam, take-length}
use Rattle.std.proofs.lemmas.Bool.{and_parts, cases_Bool, true≢false}
use Rattle.std.proofs.lemmas.Bool.Decides.{nat_tests, same_from_decides}
use Rattle.std.proofs.lemmas.List.{append-nil, append_cancel_left, take-append-drop}
use Rattle.std.proofs.lemmas.List.Sums.{prefix_len-le-length}
use Rattle.std.proofs.lemmas.Str.{IsUtf8-from_ascii}
use Rattle.std.proofs.lemmas.Option.{same_Some}
use Rattle.anb_lemmas.proofs.Options.{guard_passed}
use Rattle.anb_lemmas.proofs.Items.{bytes_eq-same}
use Rattle.anb_format.specs.Formats.{FormatValue, IsBytesPiece}
use Rattle.anb_format.specs.declared.pieces.Piece.{Piece}
use Rattle.anb_format.specs.declared.pieces.FieldKind.{FieldKind}
use Rattle.anb_format.specs.declared.pieces.FieldKind.TheVariants.{Len, Net, Hex, Rest}
use Rattle.anb_values.specs.Lines.{IsLabel, is_label_byte}
use Rattle.anb_values.proofs.LineLemmas.{label_byte_is_ascii}
use Rattle.anb_syntax.specs.Words.{kind_of_word, kind_word}
use Rattle.anb_syntax.proofs.Names.{kind_again}
use Rattle.anb_text.specs.declared.lines.Line.{Line}
use Rattle.anb_text.specs.Lines.{IsFormat, IsLine, line_bytes, spaced_piece}
use Rattle.anb_text.specs.Reading.{Front, IsEnd, IsWord, front_of, head_of, is_label, line_of, number_of, option_name, words_of}
use Rattle.anb_text.proofs.LineLemmas.{kinds, other_again}
use Rattle.anb_text.proofs.OtherLines.{line_is, line_text, name_plain, other_first}
use Rattle.anb_text.proofs.Words.{joined, text_again}
use Rattle.anb_text.proofs.Choices.{chosen, same_bytes}
use Rattle.anb_text.proofs.Instrs.{label_again, label_is}
use Rattle.anb_text.proofs.Pieces.{piece_once, pieces_end, plain_word, word_once}
use Rattle.anb_text.proofs.Registers.{IsSmall, NoRegister, front_again, number_again, number_is}

-- ---- prefixes

pub no_prefix : (prefix text rest : List ℕ) → bytes_eq (take (length prefix) text) prefix ≡ false → text ≡ prefix ++ rest → ⊥
no_prefix prefix text rest differs e =
    true≢false (sym (bytes_eq-same prefix) ∙ ap (λ (x : List ℕ). bytes_eq x prefix) (sym (take-append_seam prefix rest) ∙ ap (take (length prefix)) (sym e)) ∙ differs)

pub a_prefix : (prefix text rest : List ℕ) → bytes_eq (take (length prefix) text) prefix ≡ true → rest ≡ drop (length prefix) text → text ≡ prefix ++ rest
a_prefix prefix text rest same e =
    sym (take-append-drop (length prefix) text) ∙ ap (λ (x : List ℕ). x ++ drop (length prefix) text) (sym (same_bytes (take (length prefix) text) prefix same)) ∙ ap (λ (x : List ℕ). prefix ++ x) (sym e)

-- the two cases of a prefix
pub prefix_cases : (prefix text : List ℕ) (r : Option (Bor (List ℕ)))
    → MatchOption r (bytes_eq (take (length prefix) text) prefix ≡ false) (λ x. (bytes_eq (take (length prefix) text) prefix ≡ true) × (x.now ≡ drop (length prefix) text) × (length x.now + length prefix ≡ length text))
    → MatchOption r ((rest : List ℕ) → text ≡ prefix ++ rest → ⊥) (λ rest. text ≡ prefix ++ rest.now)
prefix_cases prefix text None h = λ rest e. no_prefix prefix text rest h e
prefix_cases prefix text (Some x) h = a_prefix prefix text x.now h.0 h.1

-- ---- labels

pub label_test : (r : Bool) (w : List ℕ) → (r ≡ true → IsLabel w) × (IsLabel w → r ≡ true) → r ≡ is_label w
label_test r w h = same_from_decides r (is_label w) h (label_is w, label_again w)

label_ascii : (w : List ℕ) → list_all is_label_byte w ≡ true → IsAscii w
label_ascii [] h i = omega arith
label_ascii (b ∷ w) h zero = label_byte_is_ascii b (and_parts (is_label_byte b) (list_all is_label_byte w) h).0
label_ascii (b ∷ w) h (suc i) = label_ascii w (and_parts (is_label_byte b) (list_all is_label_byte w) h).1 i

pub label_utf8 : (w : List ℕ) → is_label w ≡ true → IsUtf8 w
label_utf8 w h = IsUtf8-from_ascii w (label_ascii w (and_parts (nat_lt 0 (length w)) (list_all is_label_byte w) h).1)

-- ---- numbers

absent : (digits : List ℕ) (o : Option ℕ) → number_of digits ≡ o → ((n : ℕ) → IsSmall n → digits ≡ decimal n → ⊥) → None ≡ o
absent digits None e never = refl
absent digits (Some n) e never = let k = number_is digits n e in absurd (never n k.1 k.0)

-- what isn't a number that was looked for is none
pub no_number : (digits : List ℕ) (found : Option ℕ) → ((n : ℕ) → n < 2 ^ 32 → digits ≡ decimal n → found ≡ Some n) → found ≡ None → None ≡ number_of digits
no_number digits found again e = absent digits (number_of digits) refl (λ n small h. let off : ◌≡◌ {A = Option ℕ} None (Some n) = sym e ∙ again n small h in cc)

pub other_number : (digits : List ℕ) (found : Option ℕ) (n : ℕ) → ((m : ℕ) → m < 2 ^ 32 → digits ≡ decimal m → found ≡ Some m) → found ≡ Some n
    → bytes_eq (decimal n) digits ≡ false → None ≡ number_of digits
other_number digits found n again e differs = absent digits (number_of digits) refl (λ m small h.
    let same : n ≡ m = same_Some n m (sym e ∙ again m small h) in
    true≢false (sym (bytes_eq-same (decimal n)) ∙ ap (bytes_eq (decimal n)) (ap decimal same ∙ sym h) ∙ differs))

pub this_number : (digits : List ℕ) (n : ℕ) → n < 2 ^ 32 → bytes_eq (decimal n) digits ≡ true → Some n ≡ number_of digits
this_number digits n small same = sym (number_again n small) ∙ ap number_of (sym (same_bytes (decimal n) digits same))

-- ---- words

abbrev is_inside : ℕ → Bool
is_inside b = not (b == 32)

grown : (b : ℕ) (x : List ℕ) (n m : ℕ) → m ≡ suc n → is_inside b ≡ true → IsWord (take n x) × IsEnd (drop n x) → IsWord (take m (b ∷ x)) × IsEnd (drop m (b ∷ x))
grown b x n m e t h = rw e (rw t h.0, h.1)

stopped : (b : ℕ) → is_inside b ≡ false → b ≡ 32
stopped b f = grind (arith, nat_tests)

first_cut : (x : List ℕ) → IsWord (take (prefix_len is_inside x) x) × IsEnd (drop (prefix_len is_inside x) x)
first_cut [] = (refl, tt)
first_cut (b ∷ x) = elim (cases_Bool (is_inside b)) [
  | inl t ↦ grown b x (prefix_len is_inside x) (prefix_len is_inside (b ∷ x)) (rw t (omega arith)) t (first_cut x)
  | inr f ↦ rw f (refl, stopped b f)
]

pub cut_some : (x : List ℕ) (at : ℕ) → position (λ b. b == 32) x ≡ Some at → IsWord (take at x) × IsEnd (drop at x)
cut_some x at e =
    let n = prefix_len is_inside x in
    let k = guard_passed (nat_lt n (length x)) (Some n) at e in
    subst (λ (m : ℕ). IsWord (take m x) × IsEnd (drop m x)) (same_Some n at k.1) (first_cut x)

all_inside : (x : List ℕ) (n : ℕ) → cond (nat_lt n (length x)) (Some n) None ≡ None → n ≤ length x → IsWord (take n x) → IsWord x
all_inside x n e within inside = elim (cases_Bool (nat_lt n (length x))) [
  | inl t ↦ let off : ◌≡◌ {A = Option ℕ} (Some n) None = sym (rw t refl) ∙ e in cc
  | inr f ↦
      let whole : n ≡ length x = grind (arith, nat_tests) in
      subst IsWord (ap (λ (m : ℕ). take m x) whole ∙ take-length x) inside
]

pub cut_none : (x : List ℕ) → position (λ b. b == 32) x ≡ None → IsWord x
cut_none x e = all_inside x (prefix_len is_inside x) e (prefix_len-le-length is_inside x) (first_cut x).0

-- ---- kinds of field

kind_plain : (k : FieldKind) → IsWord (kind_word k)
kind_plain Len = refl
kind_plain Net = refl
kind_plain Hex = refl
kind_plain Rest = refl

pub kind_is : (w : List ℕ) (k : FieldKind) → kind_of_word w ≡ Some k → w ≡ kind_word k
kind_is w k e = elim (chosen (bytes_eq (kind_word Len) w) (Some Len) _ k e) [
  | inl one ↦ same_bytes (kind_word Len) w one.0 ∙ ap kind_word (same_Some Len k one.1)
  | inr e ↦
      elim (chosen (bytes_eq (kind_word Net) w) (Some Net) _ k e) [
        | inl one ↦ same_bytes (kind_word Net) w one.0 ∙ ap kind_word (same_Some Net k one.1)
        | inr e ↦
            elim (chosen (bytes_eq (kind_word Hex) w) (Some Hex) _ k e) [
              | inl one ↦ same_bytes (kind_word Hex) w one.0 ∙ ap kind_word (same_Some Hex k one.1)
              | inr e ↦ let one = guard_passed (bytes_eq (kind_word Rest) w) (Some Rest) k e in same_bytes (kind_word Rest) w one.0 ∙ ap kind_word (same_Some Rest k one.1)
            ]
      ]
]

-- a word of no kind stands there
pub no_kind : (text word behind : List ℕ) → text ≡ word ++ behind → IsWord word → IsEnd behind → kind_of_word word ≡ None
    → (kind : FieldKind) (rest : List ℕ) → IsEnd rest → text ≡ kind_word kind ++ rest → ⊥
no_kind text word behind stands inside end none kind rest stop e =
    let same = (word_once word (kind_word kind) behind rest inside (kind_plain kind) end stop (sym stands ∙ e)).0 in
    let off : ◌≡◌ {A = Option FieldKind} None (Some kind) = sym none ∙ ap kind_of_word same ∙ kind_again kind in cc

-- ---- registers

-- these registers were guard_passed, and this is left
pub record IsPassed (words : List (List ℕ)) (got : List ℕ) (rest : List (List ℕ)) : Type 0 where
  pub registers : (front_of words).registers ≡ got ++ (front_of rest).registers
  pub others : (front_of words).rest ≡ (front_of rest).rest

pub passed_all : (words : List (List ℕ)) (got : List ℕ) (rest : List (List ℕ)) → NoRegister rest → IsPassed words got rest → (got ≡ (front_of words).registers) × (rest ≡ (front_of words).rest)
passed_all words got rest none h =
    let end = front_again [] rest tt none in
    (sym (h.registers ∙ ap (λ (f : Front). got ++ f.registers) end ∙ append-nil got), sym (h.others ∙ ap (λ (f : Front). f.rest) end))

-- ---- pieces

-- these pieces were read, and this is left
pub record IsCut (text : List ℕ) (got : List Piece) (rest : List ℕ) : Type 0 where
  pub stands : text ≡ flat_map spaced_piece got ++ rest
  pub pieces : AllByRecursion IsBytesPiece got

record Left (rest : List ℕ) : Type 0 where
  more : List Piece
  pieces : AllByRecursion IsBytesPiece more
  stands : rest ≡ flat_map spaced_piece more

left : (got ps : List Piece) (rest : List ℕ) → AllByRecursion IsBytesPiece got → AllByRecursion IsBytesPiece ps → flat_map spaced_piece got ++ rest ≡ flat_map spaced_piece ps → Left rest
left [] ps rest h k e = record { more = ps; pieces = k; stands = e }
left (p ∷ got) [] rest h k e = cc
left (p ∷ got) (q ∷ qs) rest h k e =
    let both = piece_once p q (flat_map spaced_piece got ++ rest) (flat_map spaced_piece qs) h.0 k.0 (sym (append_assoc (spaced_piece p) (flat_map spaced_piece got) rest) ∙ e) in
    left got qs rest h.1 k.1 both.1

stuck : (rest : List ℕ) (more : List Piece) → AllByRecursion IsBytesPiece more → rest ≡ flat_map spaced_piece more → (rest ≡ [] → ⊥)
    → ((piece : Piece) (after : List ℕ) → IsBytesPiece piece → IsEnd after → rest ≡ spaced_piece piece ++ after → ⊥) → ⊥
stuck rest [] pieces stands some none = some stands
stuck rest (p ∷ ps) pieces stands some none = none p (flat_map spaced_piece ps) pieces.0 (pieces_end ps) stands

-- where no piece begins what is left, the text isn't pieces
pub no_pieces : (text : List ℕ) (got : List Piece) (rest : List ℕ) → IsCut text got rest → (rest ≡ [] → ⊥)
    → ((piece : Piece) (after : List ℕ) → IsBytesPiece piece → IsEnd after → rest ≡ spaced_piece piece ++ after → ⊥)
    → (pieces : List Piece) → AllByRecursion IsBytesPiece pieces → text ≡ flat_map spaced_piece pieces → ⊥
no_pieces text got rest h some none ps k e = let l = left got ps rest h.pieces k (sym h.stands ∙ e) in stuck rest l.more l.pieces l.stands some none

-- ---- format lines

record IsAs (f : FormatValue) (word behind : List ℕ) : Type 0 where
  name : word ≡ f.name
  pieces : behind ≡ flat_map spaced_piece f.pieces

-- a text that is a format's is its name and then its pieces
same_format : (text word behind : List ℕ) → text ≡ word ++ behind → IsWord word → IsEnd behind → (f : FormatValue) → IsFormat f → text ≡ f.name ++ flat_map spaced_piece f.pieces → IsAs f word behind
same_format text word behind stands inside end f h e =
    let both = word_once word f.name behind (flat_map spaced_piece f.pieces) inside (plain_word f.name (name_plain f.name h.name)) end (pieces_end f.pieces) (sym stands ∙ e) in
    record { name = both.0; pieces = both.1 }

pub no_format_name : (text word behind : List ℕ) → text ≡ word ++ behind → IsWord word → IsEnd behind → None ≡ option_name word
    → (f : FormatValue) → IsFormat f → text ≡ f.name ++ flat_map spaced_piece f.pieces → ⊥
no_format_name text word behind stands inside end none f h e =
    let both = same_format text word behind stands inside end f h e in
    let some : option_name f.name ≡ Some f.name = rw h.name refl in
    let off : ◌≡◌ {A = Option (List ℕ)} None (Some f.name) = none ∙ ap option_name both.name ∙ some in cc

pub no_format_pieces : (text word behind : List ℕ) → text ≡ word ++ behind → IsWord word → IsEnd behind
    → ((pieces : List Piece) → AllByRecursion IsBytesPiece pieces → behind ≡ flat_map spaced_piece pieces → ⊥)
    → (f : FormatValue) → IsFormat f → text ≡ f.name ++ flat_map spaced_piece f.pieces → ⊥
no_format_pieces text word behind stands inside end none f h e = none f.pieces h.pieces (same_format text word behind stands inside end f h e).pieces

pub nothing_left : (rest : List ℕ) (pieces : List Piece) → length pieces ≡ 0 → rest ≡ flat_map spaced_piece pieces → rest ≡ []
nothing_left rest [] none e = e
nothing_left rest (p ∷ ps) none e = absurd (omega arith)

no_pieces_at_all : (pieces : List Piece) → 0 < length pieces → [] ≡ flat_map spaced_piece pieces → ⊥
no_pieces_at_all [] some e = omega arith
no_pieces_at_all (p ∷ ps) some e = cc

pub no_format_empty : (text word behind : List ℕ) → text ≡ word ++ behind → IsWord word → IsEnd behind → behind ≡ []
    → (f : FormatValue) → IsFormat f → text ≡ f.name ++ flat_map spaced_piece f.pieces → ⊥
no_format_empty text word behind stands inside end none f h e = no_pieces_at_all f.pieces h.some (sym none ∙ (same_format text word behind stands inside end f h e).pieces)

-- ---- lines

pub head_many : (words : List (List ℕ)) → 3 ≤ length words → None ≡ head_of words
unfolding head_of
head_many [] many = absurd (omega arith)
head_many (w ∷ []) many = absurd (omega arith)
head_many (w ∷ v ∷ []) many = absurd (omega arith)
head_many (w ∷ v ∷ u ∷ ws) many = refl

pub line_found : (bytes : List ℕ) (l : Line) → Some l ≡ line_of (words_of bytes) → IsLine l × (bytes ≡ line_bytes l)
line_found bytes l e =
    let read = line_is (words_of bytes) l (sym e) in
    (read.is, sym (text_again bytes) ∙ ap joined read.stands ∙ sym (line_text l read.other))

pub no_line : (bytes : List ℕ) → ((rest : List ℕ) → bytes ≡ codes "format " ++ rest → ⊥) → None ≡ line_of (words_of bytes) → (l : Line) → IsLine l → bytes ≡ line_bytes l → ⊥
no_line bytes other none = kinds (λ l. IsLine l → bytes ≡ line_bytes l → ⊥)
    (λ f h e. other (f.name ++ flat_map spaced_piece f.pieces) e)
    (λ l o h e. let off : ◌≡◌ {A = Option Line} None (Some l) = none ∙ ap (λ x. line_of (words_of x)) e ∙ other_again l h o in cc)

pub no_format_line : (bytes rest : List ℕ) → bytes ≡ codes "format " ++ rest → ((f : FormatValue) → IsFormat f → rest ≡ f.name ++ flat_map spaced_piece f.pieces → ⊥)
    → (l : Line) → IsLine l → bytes ≡ line_bytes l → ⊥
no_format_line bytes rest stands none = kinds (λ l. IsLine l → bytes ≡ line_bytes l → ⊥)
    (λ f h e. none f h (append_cancel_left (codes "format ") rest (f.name ++ flat_map spaced_piece f.pieces) (sym stands ∙ e)))
    (λ l o h e. other_first l _ h o (sym e ∙ stands))

-- the same of what was returned
pub lines_found : {E : Type 0} (bytes : List ℕ) (words : List (List ℕ)) (r : Result (Option Line) E) → words ≡ words_of bytes → IfOk r (λ o. o ≡ line_of words)
    → IfOk r (λ o. IfSome o (λ l. IsLine l × (bytes ≡ line_bytes l)))
lines_found bytes words (Err e) same h = tt
lines_found bytes words (Ok None) same h = tt
lines_found bytes words (Ok (Some l)) same h = line_found bytes l (h ∙ ap line_of same)

pub no_lines : {E : Type 0} (bytes : List ℕ) (words : List (List ℕ)) (r : Result (Option Line) E) → ((rest : List ℕ) → bytes ≡ codes "format " ++ rest → ⊥) → words ≡ words_of bytes
    → IfOk r (λ o. o ≡ line_of words) → IfOk r (λ o. IfNone o ((l : Line) → IsLine l → bytes ≡ line_bytes l → ⊥))
no_lines bytes words (Err e) other same h = tt
no_lines bytes words (Ok None) other same h = no_line bytes other (h ∙ ap line_of same)
no_lines bytes words (Ok (Some l)) other same h = tt
