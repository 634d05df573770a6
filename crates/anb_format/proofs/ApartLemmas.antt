-- Heads: what a format builds begins with its head.
use Rattle.std.proofs.Common.{◌≡◌, ◌≢◌, ◌⊎◌, inl, inr, ℕ, List, [], ◌∷◌, ◌++◌, refl, ap, sym, ◌∙◌, append_assoc, append-nil}
use Rattle.std.proofs.lemmas.List.{append_cancel_left}
use Rattle.anb_format.specs.declared.pieces.Piece.{Piece}
use Rattle.anb_format.specs.declared.pieces.Piece.TheVariants.{Lit, Field}
use Rattle.anb_format.specs.Formats.{AreApart, IsPrefix, format_bytes, head}

begins_with_head : (pieces : List Piece) (arguments : List (List ℕ)) → IsPrefix (head pieces) (format_bytes pieces arguments)
begins_with_head [] arguments = ([], refl)
begins_with_head (Lit text ∷ pieces) arguments = let h = begins_with_head pieces arguments in (h.0, ap (λ (t : List ℕ). text ++ t) h.1 ∙ sym (append_assoc text (head pieces) h.0))
begins_with_head (Field kind ∷ pieces) arguments = (format_bytes (Field kind ∷ pieces) arguments, refl)

-- of two prefixes of one list one is a prefix of the other
one_of_two : (p q rest other : List ℕ) → p ++ rest ≡ q ++ other → IsPrefix p q ⊎ IsPrefix q p
one_of_two [] q rest other e = inl (q, refl)
one_of_two (a ∷ p) [] rest other e = inr (a ∷ p, refl)
one_of_two (a ∷ p) (b ∷ q) rest other e =
    let first : a ≡ b = cc in
    let others : p ++ rest ≡ q ++ other = cc in
    elim (one_of_two p q rest other others) [ inl h ↦ let f = h.1 in inl (h.0, cc) | inr h ↦ let f = h.1 in inr (h.0, cc) ]

pub nothing_shared : (pieces others : List Piece) → AreApart pieces others → (arguments others_arguments : List (List ℕ)) → format_bytes pieces arguments ≢ format_bytes others others_arguments
nothing_shared pieces others apart xs ys e =
    let f = begins_with_head pieces xs in
    let g = begins_with_head others ys in
    elim (one_of_two (head pieces) (head others) f.0 g.0 (sym f.1 ∙ e ∙ g.1)) [ inl h ↦ apart.ahead h | inr h ↦ apart.behind h ]

-- two lists begin alike, and these parts of them are left
pub record BeginAlike (p q ours theirs : List ℕ) : Type 0 where
  pub common : List ℕ
  pub one : p ≡ common ++ ours
  pub other : q ≡ common ++ theirs

pub alike_from : (p q ours theirs : List ℕ) → ours ≡ p → theirs ≡ q → BeginAlike p q ours theirs
alike_from p q ours theirs e f = record { common = []; one = sym e; other = sym f }

pub alike_more : (p q ours theirs new others : List ℕ) (a b : ℕ) → BeginAlike p q ours theirs → ours ≡ a ∷ new → theirs ≡ b ∷ others → a ≡ b → BeginAlike p q new others
alike_more p q ours theirs new others a b h e f same = record {
  common = h.common ++ a ∷ [];
  one = h.one ∙ ap (λ (t : List ℕ). h.common ++ t) e ∙ sym (append_assoc h.common (a ∷ []) new);
  other = h.other ∙ ap (λ (t : List ℕ). h.common ++ t) (f ∙ ap (λ (x : ℕ). x ∷ others) (sym same)) ∙ sym (append_assoc h.common (a ∷ []) others);
}

-- where the next bytes differ, neither is a prefix of the other
no_prefix : (p q ours theirs new others : List ℕ) (a b : ℕ) → BeginAlike p q ours theirs → ours ≡ a ∷ new → theirs ≡ b ∷ others → (a ≡ b → ⊥) → IsPrefix p q → ⊥
no_prefix p q ours theirs new others a b h e f differ prefix =
    let whole : h.common ++ theirs ≡ h.common ++ (ours ++ prefix.0) = sym h.other ∙ prefix.1 ∙ ap (λ (t : List ℕ). t ++ prefix.0) h.one ∙ append_assoc h.common ours prefix.0 in
    let left : theirs ≡ ours ++ prefix.0 = append_cancel_left h.common _ _ whole in
    let heads : b ∷ others ≡ a ∷ (new ++ prefix.0) = sym f ∙ left ∙ ap (λ (t : List ℕ). t ++ prefix.0) e in
    differ (cc)

swapped : (p q ours theirs : List ℕ) → BeginAlike p q ours theirs → BeginAlike q p theirs ours
swapped p q ours theirs h = record { common = h.common; one = h.other; other = h.one }

pub differ_apart : (pieces others_pieces : List Piece) (ours theirs new others : List ℕ) (a b : ℕ) → BeginAlike (head pieces) (head others_pieces) ours theirs → ours ≡ a ∷ new → theirs ≡ b ∷ others → (a ≡ b → ⊥)
    → AreApart pieces others_pieces
differ_apart pieces others_pieces ours theirs new others a b h e f differ = record {
  ahead = no_prefix _ _ ours theirs new others a b h e f differ;
  behind = no_prefix _ _ theirs ours others new b a (swapped _ _ ours theirs h) f e (λ same. differ (sym same));
}

-- where one ends, it is a prefix of the other
ends_first : (p q ours theirs : List ℕ) → BeginAlike p q ours theirs → ours ≡ [] → IsPrefix p q
ends_first p q ours theirs h e = (theirs, h.other ∙ ap (λ (t : List ℕ). t ++ theirs) (sym (append-nil h.common) ∙ ap (λ (t : List ℕ). h.common ++ t) (sym e) ∙ sym h.one))

pub not_apart : (pieces others_pieces : List Piece) (ours theirs : List ℕ) → BeginAlike (head pieces) (head others_pieces) ours theirs → ours ≡ [] → AreApart pieces others_pieces → ⊥
not_apart pieces others_pieces ours theirs h e apart = apart.ahead (ends_first _ _ ours theirs h e)

pub not_apart_either : (pieces others_pieces : List Piece) (ours theirs : List ℕ) → BeginAlike (head pieces) (head others_pieces) ours theirs → theirs ≡ [] → AreApart pieces others_pieces → ⊥
not_apart_either pieces others_pieces ours theirs h e apart = apart.behind (ends_first _ _ theirs ours (swapped _ _ ours theirs h) e)
