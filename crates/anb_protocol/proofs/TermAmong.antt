-- A term among others, told by its text.
use Rattle.std.proofs.Common.{◌≡◌, ℕ, ◌<◌, List, [], ◌∷◌, length, take, get_or, map, ap, sym, ◌∙◌, refl, Bool, true, false}
use Rattle.std.specs.Prelude.{◌||◌}
use Rattle.std.specs.List.{AllByRecursion, list_any}
use Rattle.std.specs.Str.{bytes_eq}
use Rattle.std.proofs.lemmas.Slice.Eq.{bytes_eq-Decides}
use Rattle.anb_index.specs.Places as places
use Rattle.anb_term.specs.Tree.{Tree, tree_eqb}
use Rattle.std.proofs.lemmas.Option.{get_or_from_slice_get}
use Rattle.anb_lemmas.proofs.Each.{each_got}
use Rattle.anb_term.proofs.Lists.{all_take, map-take, slice_get-map, slice_get-there}
use Rattle.anb_term.specs.TreeSame.{tree_same, tree_itself}
use Rattle.anb_protocol.specs.Protocols.{ProtocolValue}
use Rattle.anb_protocol.specs.Texts.{IsTermOf, term_text}
use Rattle.anb_protocol.specs.Checks.{is_among}
use Rattle.anb_protocol.specs.WellFormed.{AreToldApart}

module _ (p : ProtocolValue) (apart : AreToldApart p) where
  told_as : (u t : Tree) (b : Bool) → IsTermOf p u → IsTermOf p t → tree_eqb u t ≡ b → bytes_eq (term_text p u) (term_text p t) ≡ b
  told_as u t true h k e = (bytes_eq-Decides (term_text p u) (term_text p t)).1 (ap (term_text p) (tree_same u t e))
  told_as u t false h k e = by_test (bytes_eq (term_text p u) (term_text p t)) refl
    where
      by_test : (v : Bool) → bytes_eq (term_text p u) (term_text p t) ≡ v → v ≡ false
      by_test true d =
          let same : u ≡ t = apart u t h k ((bytes_eq-Decides (term_text p u) (term_text p t)).0 d) in
          let is : tree_eqb u t ≡ true = ap (λ v. tree_eqb v t) same ∙ tree_itself t in
          sym is ∙ e
      by_test false d = refl

  pub among_texts : (before : List Tree) (t : Tree) → AllByRecursion (IsTermOf p) before → IsTermOf p t → places.among (map (term_text p) before) (term_text p t) ≡ is_among before t
  among_texts [] t all h = refl
  among_texts (u ∷ before) t all h =
      ap (λ b. b || list_any (λ y. bytes_eq y (term_text p t)) (map (term_text p) before)) (told_as u t (tree_eqb u t) all.0 h refl)
      ∙ ap (λ b. tree_eqb u t || b) (among_texts before t all.1 h)

  -- a text that stands at a place, and whether it stands before
  pub record IsTold (ts : List Tree) (i : ℕ) (text : List ℕ) (found : Bool) : Type 0 where
    pub term : Tree
    pub stands : term ≡ get_or ts i term
    pub told : text ≡ term_text p term
    pub again : is_among (take i ts) term ≡ found

  pub told_at : (ts : List Tree) (i : ℕ) (text : List ℕ) (found : Bool) → AllByRecursion (IsTermOf p) ts → i < length ts → text ≡ get_or (map (term_text p) ts) i text
      → found ≡ places.among (take i (map (term_text p) ts)) text → IsTold ts i text found
  told_at ts i text found all h e is =
      let there = slice_get-there ts i h in
      let t = there.0 in
      let told : text ≡ term_text p t = e ∙ get_or_from_slice_get (map (term_text p) ts) i (term_text p t) text (slice_get-map (term_text p) ts i t there.1) in
      let same = among_texts (take i ts) t (all_take (IsTermOf p) i ts all) (each_got (IsTermOf p) ts i t all there.1) in
      record {
        term = t;
        stands = sym (get_or_from_slice_get ts i t t there.1);
        told = told;
        again = sym (is ∙ ap (places.among (take i (map (term_text p) ts))) told ∙ ap (λ l. places.among l (term_text p t)) (sym (map-take (term_text p) i ts)) ∙ same);
      }
