-- No two lines have the same bytes, and no line has the byte that ends it.
use Rattle.std.proofs.Common.{◌≡◌, [], ◌++◌, true, Option, Some, None, refl, sym, ap, ◌∙◌}
use Rattle.std.specs.Prelude.{◌==◌, not, codes}
use Rattle.std.specs.List.{AllPass, flat_map, list_all}
use Rattle.std.proofs.lemmas.List.{append_cancel_left}
use Rattle.std.proofs.lemmas.List.Sums.{AllPass-from_list_all}
use Rattle.std.proofs.lemmas.Option.{same_Some}
use Rattle.anb_format.specs.Formats.{FormatValue}
use Rattle.anb_text.specs.declared.lines.Line.{Line}
use Rattle.anb_text.specs.declared.lines.Line.TheVariants as line
use Rattle.anb_text.specs.Lines.{IsFormat, IsLine, format_line, line_bytes, spaced_piece}
use Rattle.anb_text.specs.Reading.{head_of, instr_of, line_of, operation, words_of}
use Rattle.anb_text.proofs.Words.{both_all, is_within, joined_within, plain_within, words_again}
use Rattle.anb_text.proofs.OtherLines.{IsOther, line_again, line_plain, line_text, line_words, name_plain, other_first}
use Rattle.anb_text.proofs.Pieces.{pieces_end, pieces_once, pieces_within, plain_word, word_once}

-- ---- format lines

pub formats_differ : (one other : FormatValue) → IsFormat one → IsFormat other → one.name ++ flat_map spaced_piece one.pieces ≡ other.name ++ flat_map spaced_piece other.pieces → one ≡ other
formats_differ one other h k e =
    let parts = word_once one.name other.name (flat_map spaced_piece one.pieces) (flat_map spaced_piece other.pieces) (plain_word one.name (name_plain one.name h.name)) (plain_word other.name (name_plain other.name k.name))
    (pieces_end one.pieces) (pieces_end other.pieces) e in
    ap (λ n. record { name = n; pieces = one.pieces }) parts.0 ∙ ap (λ ps. record { name = other.name; pieces = ps }) (pieces_once one.pieces other.pieces h.pieces k.pieces parts.1)

-- ---- other lines

nothing : line_of [] ≡ None
unfolding head_of instr_of operation
nothing = refl

-- a line of words is read again
pub other_again : (l : Line) → IsLine l → IsOther l → line_of (words_of (line_bytes l)) ≡ Some l
other_again l h o =
    let again = line_again l h o in
    let some : line_words l ≡ [] → ⊥ = λ e. let off : ◌≡◌ {A = Option Line} None (Some l) = sym nothing ∙ ap line_of (sym e) ∙ again in cc in
    ap (λ x. line_of (words_of x)) (line_text l o) ∙ ap line_of (words_again (line_words l) some (line_plain l h o)) ∙ again

others_differ : (one other : Line) → IsLine one → IsLine other → IsOther one → IsOther other → line_bytes one ≡ line_bytes other → one ≡ other
others_differ one other h k o p e = same_Some one other (sym (other_again one h o) ∙ ap (λ x. line_of (words_of x)) e ∙ other_again other k p)

-- ---- all

-- a line is a format line or has words
pub kinds : (P : Line → Type 0) → ((format : FormatValue) → P (line.Format format)) → ((l : Line) → IsOther l → P l) → (l : Line) → P l
kinds P formats others (line.Format format) = formats format
kinds P formats others (line.Version v) = others (line.Version v) tt
kinds P formats others (line.Protocol name) = others (line.Protocol name) tt
kinds P formats others (line.Role name) = others (line.Role name) tt
kinds P formats others (line.Suite s) = others (line.Suite s) tt
kinds P formats others line.Code = others line.Code tt
kinds P formats others (line.Instr i) = others (line.Instr i) tt
kinds P formats others line.End = others line.End tt

pub lines_differ : (one other : Line) → IsLine one → IsLine other → line_bytes one ≡ line_bytes other → one ≡ other
lines_differ one other = kinds (λ one. IsLine one → IsLine other → line_bytes one ≡ line_bytes other → one ≡ other)
    (λ f. kinds (λ other. IsFormat f → IsLine other → format_line f ≡ line_bytes other → line.Format f ≡ other)
    (λ g h k e. ap line.Format (formats_differ f g h k (append_cancel_left (codes "format ") _ _ e)))
    (λ l o h k e. absurd (other_first l _ k o (sym e))) other)
    (λ m o. kinds (λ other. IsLine m → IsLine other → line_bytes m ≡ line_bytes other → m ≡ other)
    (λ g h k e. absurd (other_first m _ h o e))
    (λ l p h k e. others_differ m l h k o p e) other) one

-- no line has the byte 0A in it
pub lines_are_one : (l : Line) → IsLine l → AllPass (λ b. not (b == 10)) (line_bytes l)
lines_are_one l h = AllPass-from_list_all is_within (line_bytes l) (kinds (λ l. IsLine l → list_all is_within (line_bytes l) ≡ true)
    (λ f h. both_all is_within (codes "format ") (f.name ++ flat_map spaced_piece f.pieces) refl
    (both_all is_within f.name (flat_map spaced_piece f.pieces) (plain_within f.name (name_plain f.name h.name)) (pieces_within f.pieces h.pieces)))
    (λ l o h. ap (list_all is_within) (line_text l o) ∙ joined_within (line_words l) (line_plain l h o)) l h)
