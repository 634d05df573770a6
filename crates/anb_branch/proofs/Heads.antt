-- Whether bytes begin with the head of pieces.
use Rattle.std.proofs.Common.{◌≡◌, ◌≢◌, ℕ, ◌+◌, ◌<◌, ◌≤◌, List, [], ◌∷◌, ◌++◌, length, drop, get_or, Bool, true, false, refl, sym, ap, ◌∙◌, append_assoc}
use Rattle.std.specs.Prelude.{nat_eq}
use Rattle.std.specs.List.{starts_with}
use Rattle.std.proofs.lemmas.Bool.Decides.{Decides-eqb}
use Rattle.std.proofs.lemmas.Slice.Eq.{starts_is}
use Rattle.std.proofs.lemmas.List.{drop_more, drop_all}
use Rattle.anb_format.specs.declared.pieces.Piece.{Piece}
use Rattle.anb_format.specs.declared.pieces.Piece.TheVariants.{Lit}
use Rattle.anb_format.specs.Formats.{head}

-- the bytes are the head of the pieces and a tail exactly where the rest is that of the pieces from i on, and this tail
pub record Begins (bytes : List ℕ) (pieces : List Piece) (rest : List ℕ) (i : ℕ) : Type 0 where
  pub to : (tail : List ℕ) → bytes ≡ head pieces ++ tail → rest ≡ head (drop i pieces) ++ tail
  pub from : (tail : List ℕ) → rest ≡ head (drop i pieces) ++ tail → bytes ≡ head pieces ++ tail

pub begins_nowhere : (bytes : List ℕ) (pieces : List Piece) → Begins bytes pieces bytes 0
begins_nowhere bytes pieces = record { to = λ tail e. e; from = λ tail e. e }

cancel : (xs ys zs : List ℕ) → xs ++ ys ≡ xs ++ zs → ys ≡ zs
cancel [] ys zs e = e
cancel (x ∷ xs) ys zs e = (let f : xs ++ ys ≡ xs ++ zs = cc in cancel xs ys zs f)

pub begins_further : (bytes : List ℕ) (pieces : List Piece) (rest behind text : List ℕ) (i : ℕ) (piece : Piece) → i < length pieces → piece ≡ get_or pieces i piece → piece ≡ Lit text → rest ≡ text ++ behind
    → Begins bytes pieces rest i → Begins bytes pieces behind (i + 1)
begins_further bytes pieces rest behind text i piece within at is cut b =
    let next : drop i pieces ≡ Lit text ∷ drop (i + 1) pieces = drop_more pieces i piece within ∙ ap (λ p. p ∷ drop (i + 1) pieces) (sym at ∙ is) in
    let heads : head (drop i pieces) ≡ text ++ head (drop (i + 1) pieces) = ap head next in
    record {
      to = λ tail e. cancel text behind (head (drop (i + 1) pieces) ++ tail) (sym cut ∙ b.to tail e ∙ ap (λ l. l ++ tail) heads ∙ append_assoc text (head (drop (i + 1) pieces)) tail);
      from = λ tail e. b.from tail (cut ∙ ap (λ l. text ++ l) e ∙ sym (append_assoc text (head (drop (i + 1) pieces)) tail) ∙ ap (λ l. l ++ tail) (sym heads));
    }

so_true : (bytes : List ℕ) (pieces : List Piece) (rest : List ℕ) (i : ℕ) → Begins bytes pieces rest i → head (drop i pieces) ≡ [] → starts_with nat_eq bytes (head pieces) ≡ true
so_true bytes pieces rest i b none = (starts_is Decides-eqb bytes (head pieces) (starts_with nat_eq bytes (head pieces)) refl).1 rest (b.from rest (sym (ap (λ l. l ++ rest) none)))

pub begins_at_field : (bytes : List ℕ) (pieces : List Piece) (rest : List ℕ) (i : ℕ) (piece : Piece) → i < length pieces → piece ≡ get_or pieces i piece → head (piece ∷ drop (i + 1) pieces) ≡ [] → Begins bytes pieces rest i
    → starts_with nat_eq bytes (head pieces) ≡ true
begins_at_field bytes pieces rest i piece within at none b = so_true bytes pieces rest i b (ap head (drop_more pieces i piece within ∙ ap (λ p. p ∷ drop (i + 1) pieces) (sym at)) ∙ none)

pub begins_at_end : (bytes : List ℕ) (pieces : List Piece) (rest : List ℕ) (i : ℕ) → length pieces ≤ i → Begins bytes pieces rest i → starts_with nat_eq bytes (head pieces) ≡ true
begins_at_end bytes pieces rest i all b = so_true bytes pieces rest i b (ap head (drop_all i pieces all))

-- where the rest doesn't begin with the next literal, the bytes don't with the head
pub begins_not : (bytes : List ℕ) (pieces : List Piece) (rest text : List ℕ) (i : ℕ) (piece : Piece) → i < length pieces → piece ≡ get_or pieces i piece → piece ≡ Lit text → ((behind : List ℕ) → rest ≢ text ++ behind)
    → Begins bytes pieces rest i → starts_with nat_eq bytes (head pieces) ≡ false
begins_not bytes pieces rest text i piece within at is other b = by (starts_with nat_eq bytes (head pieces)) refl where
  by : (r : Bool) → starts_with nat_eq bytes (head pieces) ≡ r → r ≡ false
  by false e = refl
  by true e =
      let tail = drop (length (head pieces)) bytes in
      let whole : bytes ≡ head pieces ++ tail = (starts_is Decides-eqb bytes (head pieces) (starts_with nat_eq bytes (head pieces)) refl).0 e in
      let next : drop i pieces ≡ Lit text ∷ drop (i + 1) pieces = drop_more pieces i piece within ∙ ap (λ p. p ∷ drop (i + 1) pieces) (sym at ∙ is) in
      absurd (other (head (drop (i + 1) pieces) ++ tail) (b.to tail whole ∙ ap (λ l. head l ++ tail) next ∙ append_assoc text (head (drop (i + 1) pieces)) tail))
