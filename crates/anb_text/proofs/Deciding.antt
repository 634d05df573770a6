-- Whether a text is a line of role files is decided: some line of a bounded size has it, or none.
use Rattle.std.proofs.Common.{◌≡◌, ◌≤◌, ◌<◌, ℕ, zero, suc, List, [], ◌∷◌, ◌++◌, length, take, drop, Bool, true, false, Option, Some, None, refl, sym, ap, inl, inr, ◌∙◌, codes, length-append, arith}
use Rattle.std.specs.Prelude.{◌==◌, ◌&&◌, cond, nat_le}
use Rattle.std.specs.List.{AllByRecursion, flat_map}
use Rattle.std.specs.Str.{bytes_eq}
use Rattle.std.proofs.Math.Seq.{take-append_seam}
use Rattle.anb_base.specs.Bytes.{IsBytes}
use Rattle.anb_format.specs.Formats.{FormatValue, IsBytesPiece}
use Rattle.anb_format.specs.Literals.{canonical_spelling}
use Rattle.anb_format.specs.declared.pieces.FieldKind.TheVariants.{Len, Net, Hex, Rest}
use Rattle.anb_format.specs.declared.pieces.Piece.{Piece}
use Rattle.anb_format.specs.declared.pieces.Piece.TheVariants.{Lit, Field}
use Rattle.anb_syntax.specs.Words.{is_name}
use Rattle.anb_text.specs.declared.lines.Line.{Line}
use Rattle.anb_text.specs.declared.lines.Line.TheVariants as line
use Rattle.anb_text.specs.Lines.{IsFormat, IsLine, line_bytes, spaced_piece}
use Rattle.anb_text.specs.Reading.{line_of, words_of}
use Rattle.anb_text.proofs.ReadFacts.{a_prefix, line_found, no_format_line, no_line, no_prefix}
use Rattle.anb_lemmas.proofs.Searching.{Decided, SomeList, Tries, below_decided, bytes_tried, decided_as, items_many, lists_decided, longer_decided, same_decided, three_decided, truth_decided}

-- ---- pieces

all_bytes : (bytes : List ℕ) → IsBytes bytes → AllByRecursion (λ b. b < 256) bytes
all_bytes [] is = tt
all_bytes (b ∷ bytes) is = (is 0, all_bytes bytes (λ i. is (suc i)))

are_bytes : (bytes : List ℕ) → AllByRecursion (λ b. b < 256) bytes → IsBytes bytes
are_bytes [] all i = omega arith
are_bytes (b ∷ bytes) all zero = all.0
are_bytes (b ∷ bytes) all (suc i) = are_bytes bytes all.1 i

-- a piece whose literal has at most so many bytes
abbrev IsSmallPiece : ℕ → Piece → Type 0
IsSmallPiece m (Lit text) = AllByRecursion (λ b. b < 256) text × (length text ≤ m)
IsSmallPiece m (Field kind) = Unit {0}

module _ (m : ℕ) (P : Piece → Type 0) where
  abbrev SomePiece : Type 0
  SomePiece = (piece : Piece) × IsSmallPiece m piece × P piece

  first_piece : Decided (P (Field Len)) → Decided (P (Field Net)) → Decided (P (Field Hex)) → Decided (P (Field Rest)) → Decided (SomeList (λ b. b < 256) m (λ text. P (Lit text))) → Decided SomePiece
  first_piece (inl p) net hex rest lit = inl (Field Len, tt, p)
  first_piece (inr len) (inl p) hex rest lit = inl (Field Net, tt, p)
  first_piece (inr len) (inr net) (inl p) rest lit = inl (Field Hex, tt, p)
  first_piece (inr len) (inr net) (inr hex) (inl p) lit = inl (Field Rest, tt, p)
  first_piece (inr len) (inr net) (inr hex) (inr rest) (inl w) = inl (Lit w.0, (w.1, w.2), w.3)
  first_piece (inr len) (inr net) (inr hex) (inr rest) (inr lit) = inr (λ w. none w.0 w.1 w.2) where
    none : (piece : Piece) → IsSmallPiece m piece → P piece → ⊥
    none (Field Len) small p = len p
    none (Field Net) small p = net p
    none (Field Hex) small p = hex p
    none (Field Rest) small p = rest p
    none (Lit text) small p = lit (text, small.0, small.1, p)

pieces_tried : (m : ℕ) → Tries (IsSmallPiece m)
pieces_tried m P each =
    first_piece m P (each (Field Len)) (each (Field Net)) (each (Field Hex)) (each (Field Rest)) (lists_decided (λ b. b < 256) bytes_tried m (λ text. P (Lit text)) (λ text. each (Lit text)))

piece_is : (m : ℕ) (piece : Piece) → IsSmallPiece m piece → IsBytesPiece piece
piece_is m (Lit text) small = are_bytes text small.0
piece_is m (Field kind) small = tt

pieces_are : (m : ℕ) (pieces : List Piece) → AllByRecursion (IsSmallPiece m) pieces → AllByRecursion IsBytesPiece pieces
pieces_are m [] all = tt
pieces_are m (piece ∷ pieces) all = (piece_is m piece all.0, pieces_are m pieces all.1)

either_some : (b : Bool) (xs ys : List ℕ) → 0 < length xs → 0 < length ys → 0 < length (cond b xs ys)
either_some true xs ys h k = h
either_some false xs ys h k = k

some_spelling : (b : ℕ) → 0 < length (canonical_spelling b)
some_spelling b =
    either_some (b == 34) (92 ∷ 34 ∷ []) _ (omega arith) (either_some (b == 92) (92 ∷ 92 ∷ []) _ (omega arith) (either_some (nat_le 0x20 b && nat_le b 0x7e) (b ∷ []) _ (omega arith) (omega arith)))

piece_small : (m : ℕ) (piece : Piece) → IsBytesPiece piece → length (spaced_piece piece) ≤ m → IsSmallPiece m piece
piece_small m (Lit text) is within =
    let many = items_many canonical_spelling text some_spelling in
    (all_bytes text is, omega (arith, within, many, length-append (flat_map canonical_spelling text) (34 ∷ [])))
piece_small m (Field kind) is within = tt

pieces_small : (m : ℕ) (pieces : List Piece) → AllByRecursion IsBytesPiece pieces → length (flat_map spaced_piece pieces) ≤ m → AllByRecursion (IsSmallPiece m) pieces
pieces_small m [] all within = tt
pieces_small m (piece ∷ pieces) all within =
    let both = length-append (spaced_piece piece) (flat_map spaced_piece pieces) in
    (piece_small m piece all.0 (omega (arith, within, both)), pieces_small m pieces all.1 (omega (arith, within, both)))

-- ---- format lines

module _ (text : List ℕ) where
  abbrev IsFormatText : FormatValue → Type 0
  IsFormatText f = IsFormat f × (text ≡ f.name ++ flat_map spaced_piece f.pieces)

  -- with a name of so many bytes
  abbrev HasPieces : ℕ → List Piece → Type 0
  HasPieces k pieces = (is_name (take k text) ≡ true) × (0 < length pieces) × (text ≡ take k text ++ flat_map spaced_piece pieces)

  abbrev SomePieces : ℕ → Type 0
  SomePieces k = SomeList (IsSmallPiece (length text)) (length text) (HasPieces k)

  to_format : (k : ℕ) → SomePieces k → (f : FormatValue) × IsFormatText f
  to_format k w = (
    record { name = take k text; pieces = w.0 },
    (record { name = w.3.0; some = w.3.1; pieces = pieces_are (length text) w.0 w.1 }, w.3.2),
  )

  of_format : (f : FormatValue) → IsFormat f → text ≡ f.name ++ flat_map spaced_piece f.pieces → (k : ℕ) × (k < suc (length text)) × SomePieces k
  of_format f is stands =
      let whole = ap length stands ∙ length-append f.name (flat_map spaced_piece f.pieces) in
      let many = items_many spaced_piece f.pieces (λ piece. omega arith) in
      let name : take (length f.name) text ≡ f.name = ap (take (length f.name)) stands ∙ take-append_seam f.name (flat_map spaced_piece f.pieces) in (
        length f.name,
        omega (arith, whole),
        (f.pieces, pieces_small (length text) f.pieces is.pieces (omega (arith, whole)), omega (arith, whole, many), (ap is_name name ∙ is.name, is.some, stands ∙ ap (λ n. n ++ flat_map spaced_piece f.pieces) (sym name))),
      )

  format_decided : Decided ((f : FormatValue) × IsFormatText f)
  format_decided = decided_as (λ w. to_format w.0 w.2) (λ w. of_format w.0 w.1.0 w.1.1)
      (below_decided (suc (length text)) SomePieces (λ k. lists_decided (IsSmallPiece (length text)) (pieces_tried (length text)) (length text) (HasPieces k)
      (λ pieces. three_decided (truth_decided (is_name (take k text))) (longer_decided pieces) (same_decided text (take k text ++ flat_map spaced_piece pieces)))))

-- ---- lines

module _ (text : List ℕ) where
  abbrev SomeLine : Type 0
  SomeLine = (l : Line) × IsLine l × (text ≡ line_bytes l)

  format_line_decided : (rest : List ℕ) → text ≡ codes "format " ++ rest → Decided ((f : FormatValue) × IsFormatText rest f) → Decided SomeLine
  format_line_decided rest stands (inl w) = inl (line.Format w.0, w.1.0, stands ∙ ap (λ r. codes "format " ++ r) w.1.1)
  format_line_decided rest stands (inr none) = inr (λ w. no_format_line text rest stands (λ f is e. none (f, (is, e))) w.0 w.1 w.2)

  other_line_decided : ((rest : List ℕ) → text ≡ codes "format " ++ rest → ⊥) → (found : Option Line) → line_of (words_of text) ≡ found → Decided SomeLine
  other_line_decided other None e = inr (λ w. no_line text other (sym e) w.0 w.1 w.2)
  other_line_decided other (Some l) e = let is = line_found text l (sym e) in inl (l, is.0, is.1)

  by_prefix : (b : Bool) → bytes_eq (take 7 text) (codes "format ") ≡ b → Decided SomeLine
  by_prefix true e = format_line_decided (drop 7 text) (a_prefix (codes "format ") text (drop 7 text) e refl) (format_decided (drop 7 text))
  by_prefix false e = other_line_decided (λ rest. no_prefix (codes "format ") text rest e) (line_of (words_of text)) refl

  pub line_decided : Decided SomeLine
  line_decided = by_prefix (bytes_eq (take 7 text) (codes "format ")) refl
