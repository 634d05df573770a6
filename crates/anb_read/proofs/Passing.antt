-- Passing one token.
use Rattle.std.proofs.Common.{◌≡◌, ℕ, List, true, Some, Ok, refl}
use Rattle.anb_syntax.specs.Words.{Word, name, literal, Tok, word_eqb, head, tail, is_name, kind_of_word}
use Rattle.anb_base.specs.declared.content.Suite.{Suite}
use Rattle.anb_format.specs.declared.pieces.Piece.TheVariants.{Lit, Field}
use Rattle.anb_format.specs.declared.pieces.FieldKind.{FieldKind}
use Rattle.anb_syntax.specs.declared.narration.Sort.{Sort}
use Rattle.anb_base.specs.Bytes.{is_bytes}
use Rattle.anb_read.specs.Productions.{expect, name_at, sort_at, suite_at, piece_at, word_sort, word_suite}

pub passes : (x : Word) (w rest : List Tok) → word_eqb x (head w) ≡ true → rest ≡ tail w → expect x w ≡ Ok (tt, rest)
unfolding expect
passes x w rest e h = rw (e, h) refl

pub passes_name : (b : List ℕ) (w rest : List Tok) → name b ≡ head w → is_name b ≡ true → rest ≡ tail w → name_at w ≡ Ok (b, rest)
unfolding name_at
passes_name b w rest e i h = rw (← e, i, h) refl

pub passes_sort : (s : Sort) (w rest : List Tok) → Some s ≡ word_sort (head w) → rest ≡ tail w → sort_at w ≡ Ok (s, rest)
unfolding sort_at
passes_sort s w rest e h = rw (← e, h) refl

pub passes_suite : (s : Suite) (w rest : List Tok) → Some s ≡ word_suite (head w) → rest ≡ tail w → suite_at w ≡ Ok (s, rest)
unfolding suite_at
passes_suite s w rest e h = rw (← e, h) refl

pub passes_kind : (b : List ℕ) (k : FieldKind) (w rest : List Tok) → name b ≡ head w → Some k ≡ kind_of_word b → rest ≡ tail w → piece_at w ≡ Ok (Field k, rest)
unfolding piece_at
passes_kind b k w rest e i h = rw (← e, ← i, h) refl

pub passes_literal : (b : List ℕ) (w rest : List Tok) → literal b ≡ head w → is_bytes b ≡ true → rest ≡ tail w → piece_at w ≡ Ok (Lit b, rest)
unfolding piece_at
passes_literal b w rest e i h = rw (← e, i, h) refl
