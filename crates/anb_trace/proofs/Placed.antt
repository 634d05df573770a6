-- The place of the innermost difference, told from the inside out.
use Rattle.std.proofs.Common.{◌≡◌, ◌∙◌, ℕ, List, [], ◌∷◌, ◌++◌, true, false, Option, Some, None, refl, sym, ap, append_assoc}
use Rattle.std.specs.Prelude.{codes}
use Rattle.hex.specs.Hex.{encode_lower}
use Rattle.anb_term.specs.Tree.{Tree}
use Rattle.anb_code.specs.CodeValue.{CodeValue}
use Rattle.anb_protocol.specs.Protocols.{ProtocolValue}
use Rattle.anb_protocol.specs.Texts.{term_text}
use Rattle.anb_trace.specs.Differences.{Difference, innermost, inward_from}
use Rattle.anb_trace.specs.Inside.{difference_told, from_inner, inner_at}
use Rattle.anb_trace.specs.Words.{place_text, sides_text}
use Rattle.anb_trace.proofs.Inward.{inward_is}

module _ (p : ProtocolValue) (code : CodeValue) (terms : List Tree) (table : List (List ℕ)) (d : Difference) where
  abbrev inside : List Difference
  inside = inward_from code terms table d

  abbrev inner : Option Difference
  inner = inner_at code terms table d.term d.due d.came

  -- where nothing stands in it
  nothing_inside : inner ≡ None → inside ≡ []
  nothing_inside e = inward_is code terms table d.term d.due d.came ∙ ap (from_inner code terms table) e

  pub place_here : (old new : List ℕ) → inner ≡ None → new ≡ old ++ term_text p d.term → new ≡ old ++ place_text p d inside
  place_here old new e put = put ∙ ap (λ (l : List Difference). old ++ place_text p d l) (sym (nothing_inside e))

  pub innermost_here : inner ≡ None → d ≡ innermost d inside
  innermost_here e = ap (innermost d) (sym (nothing_inside e))

  -- where this stands in it
  module _ (q : Difference) (e : inner ≡ Some q) where
    something_inside : inside ≡ q ∷ inward_from code terms table q
    something_inside = inward_is code terms table d.term d.due d.came ∙ ap (from_inner code terms table) e

    pub place_within : (old one two new : List ℕ) → one ≡ old ++ place_text p q (inward_from code terms table q) → two ≡ one ++ codes " in " → new ≡ two ++ term_text p d.term
        → new ≡ old ++ place_text p d inside
    place_within old one two new first second third =
        let P = place_text p q (inward_from code terms table q) in
        let T = term_text p d.term in
        let I : List ℕ = codes " in " in
        third ∙ ap (λ (l : List ℕ). l ++ T) (second ∙ ap (λ (l : List ℕ). l ++ I) first)
        ∙ append_assoc (old ++ P) I T ∙ append_assoc old P (I ++ T)
        ∙ ap (λ (l : List Difference). old ++ place_text p d l) (sym something_inside)

    pub innermost_within : innermost q (inward_from code terms table q) ≡ innermost d inside
    innermost_within = ap (innermost d) (sym something_inside)

  -- ---- in words

  -- what came
  pub told_come : (due came old one two new : List ℕ) → one ≡ old ++ place_text p d inside → due ≡ (innermost d inside).due → came ≡ (innermost d inside).came
      → two ≡ one ++ (codes " differs: " ++ (encode_lower due ++ (codes " is due, " ++ encode_lower came))) → new ≡ two ++ codes " came"
      → new ≡ old ++ difference_told code terms table p true d
  told_come due came old one two new first is_due is_came second third =
      let P = place_text p d inside in
      let a : List ℕ = codes " differs: " in
      let b = encode_lower (innermost d inside).due in
      let c : List ℕ = codes " is due, " in
      let e = encode_lower (innermost d inside).came in
      let f : List ℕ = codes " came" in
      let same : codes " differs: " ++ (encode_lower due ++ (codes " is due, " ++ encode_lower came)) ≡ a ++ (b ++ (c ++ e)) = rw (is_due, is_came) refl in
      let joined : ((old ++ P) ++ (a ++ (b ++ (c ++ e)))) ++ f ≡ old ++ (P ++ (a ++ (b ++ (c ++ (e ++ f))))) = simp append_assoc in
      third ∙ ap (λ (l : List ℕ). l ++ f) (second ∙ ap (λ (l : List ℕ). l ++ (codes " differs: " ++ (encode_lower due ++ (codes " is due, " ++ encode_lower came)))) first ∙ ap (λ (l : List ℕ). (old ++ P) ++ l) same)
      ∙ joined

  -- what doesn't fit
  pub told_unfit : (due came old one two new : List ℕ) → one ≡ old ++ codes "the values don't fit each other: " → two ≡ one ++ place_text p d inside
      → due ≡ (innermost d inside).due → came ≡ (innermost d inside).came
      → new ≡ two ++ (codes " is " ++ (encode_lower due ++ (codes " and " ++ encode_lower came))) → new ≡ old ++ difference_told code terms table p false d
  told_unfit due came old one two new first second is_due is_came third =
      let P = place_text p d inside in
      let w : List ℕ = codes "the values don't fit each other: " in
      let a : List ℕ = codes " is " in
      let b = encode_lower (innermost d inside).due in
      let c : List ℕ = codes " and " in
      let e = encode_lower (innermost d inside).came in
      let same : codes " is " ++ (encode_lower due ++ (codes " and " ++ encode_lower came)) ≡ a ++ (b ++ (c ++ e)) = rw (is_due, is_came) refl in
      let joined : ((old ++ w) ++ P) ++ (a ++ (b ++ (c ++ e))) ≡ old ++ (w ++ (P ++ (a ++ (b ++ (c ++ e))))) = simp append_assoc in
      third ∙ ap (λ (l : List ℕ). l ++ (codes " is " ++ (encode_lower due ++ (codes " and " ++ encode_lower came)))) (second ∙ ap (λ (l : List ℕ). l ++ P) first)
      ∙ ap (λ (l : List ℕ). ((old ++ w) ++ P) ++ l) same ∙ joined
