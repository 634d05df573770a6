-- Texts of terms are read in one way.
use Rattle.std.proofs.Common.{◌≡◌, ℕ, zero, suc, ◌<◌, List, [], ◌∷◌, ◌++◌, length, map, ap, sym, ◌∙◌, subst, arith, append_assoc, append-nil, refl, Bool, true, false}
use Rattle.std.specs.Prelude.{◌&&◌, ◌||◌, ◌==◌, not, slice_get, nat_le}
use Rattle.std.specs.Option.{option_map_or}
use Rattle.std.specs.List.{AllByRecursion, list_all}
use Rattle.std.proofs.lemmas.Bool.{and_parts, eqb-true}
use Rattle.std.proofs.lemmas.List.Concat.{flat_map-append}
use Rattle.anb_format.specs.Formats.{FormatValue, field_count, is_sound}
use Rattle.anb_term.specs.declared.term.Op.{Op}
use Rattle.anb_term.specs.declared.term.Op.TheVariants.{Hash, Mac, Seal, Wrap, Format}
use Rattle.anb_term.specs.Tree.{Tree, leaf, node, Trees, none, more}
use Rattle.anb_algebra.specs.ByteMeaning.{has_operator}
use Rattle.anb_syntax.specs.Grammar.{IsName, spell_tree, spell_trees, spell_others}
use Rattle.anb_syntax.specs.Words.{close_sign, is_letter, is_name_byte, is_spelled, is_name, hash_word, mac_word, seal_word, wrap_word}
use Rattle.anb_syntax.specs.Canon.{word_bytes, words_bytes}
use Rattle.anb_syntax.proofs.Printed.{name_spelled}
use Rattle.anb_protocol.specs.declared.parts.Atom.{Atom}
use Rattle.anb_protocol.specs.Protocols.{ProtocolValue, fields_at}
use Rattle.anb_protocol.specs.Texts.{spelled, spelled_all, term_text, op_text, atom_name, format_name, IsTermOf, AreTermsOf}
use Rattle.anb_protocol.proofs.TextLemmas.{node_text}
use Rattle.anb_protocol.proofs.Distinct.{AllApart, one_place}

-- ---- names

-- behind a name no byte of names stands
abbrev ends : List ℕ → Bool
ends [] = true
ends (b ∷ z) = not (is_name_byte b)

goes_on : (y : ℕ) (ys u v : List ℕ) → list_all is_name_byte (y ∷ ys) ≡ true → ends u ≡ true → u ≡ (y ∷ ys) ++ v → ⊥
goes_on y ys u v b c e =
    let h : not (is_name_byte y) ≡ true = sym (ap ends e) ∙ c in
    let n = ap not (and_parts (is_name_byte y) (list_all is_name_byte ys) b).0 in
    cc

split_names : (x y u v : List ℕ) → list_all is_name_byte x ≡ true → list_all is_name_byte y ≡ true → ends u ≡ true → ends v ≡ true → x ++ u ≡ y ++ v → (x ≡ y) × (u ≡ v)
split_names [] [] u v a b c d e = (refl, e)
split_names [] (y ∷ ys) u v a b c d e = absurd (goes_on y ys u v b c e)
split_names (x ∷ xs) [] u v a b c d e = absurd (goes_on x xs v u a d (sym e))
split_names (x ∷ xs) (y ∷ ys) u v a b c d e =
    let same : x ≡ y = cc in
    let rest : xs ++ u ≡ ys ++ v = cc in
    let r = split_names xs ys u v (and_parts (is_name_byte x) (list_all is_name_byte xs) a).1 (and_parts (is_name_byte y) (list_all is_name_byte ys) b).1 c d rest in
    (cc (same, r.0), r.1)

letter : (b : Bool) (c d : Bool) → b ≡ true → (b || c || d) ≡ true
letter true c d e = refl
letter false c d e = absurd (cc)

head_bytes : (x : List ℕ) → is_spelled x ≡ true → list_all is_name_byte x ≡ true
head_bytes [] e = refl
head_bytes (b ∷ x) e =
    let h = and_parts (is_letter b) (list_all is_name_byte x) e in
    let P : Bool → Type 0 = λ v. (v && list_all is_name_byte x) ≡ true in
    subst P (sym (letter (is_letter b) (nat_le 48 b && nat_le b 57) (b == 95) h.0)) h.1

no_hash : IsName hash_word → ⊥
unfolding is_name
no_hash e = cc

no_mac : IsName mac_word → ⊥
unfolding is_name
no_mac e = cc

no_seal : IsName seal_word → ⊥
unfolding is_name
no_seal e = cc

no_wrap : IsName wrap_word → ⊥
unfolding is_name
no_wrap e = cc

-- ---- what stands behind a term

data After : Type 0 where
  at_end : After
  close : List ℕ → After
  comma : List ℕ → After

abbrev bytes : After → List ℕ
bytes at_end = []
bytes (close z) = 41 ∷ z
bytes (comma z) = 44 ∷ z

ends_after : (z : After) → ends (bytes z) ≡ true
ends_after at_end = refl
ends_after (close z) = refl
ends_after (comma z) = refl

abbrev first_byte : List ℕ → ℕ
first_byte [] = 0
first_byte (b ∷ x) = b

not_open : (z : After) (w : List ℕ) → bytes z ≡ 40 ∷ w → ⊥
not_open at_end w e = cc
not_open (close z) w e = let n = ap first_byte e in absurd (omega (arith, n))
not_open (comma z) w e = let n = ap first_byte e in absurd (omega (arith, n))

-- ---- the names of a protocol

-- names of atoms and of formats are names of the grammar; no two atoms have one name, and no two formats
pub record HasNames (p : ProtocolValue) : Type 0 where
  pub atoms : AllByRecursion (λ (a : Atom). IsName a.name) p.atoms
  pub formats : AllByRecursion (λ (f : FormatValue). IsName f.name) p.formats
  pub atoms_apart : AllApart (map (λ (a : Atom). a.name) p.atoms)
  pub formats_apart : AllApart (map (λ (f : FormatValue). f.name) p.formats)

name_at : {X : Type 0} (f : X → List ℕ) (xs : List X) (i : ℕ) → i < length xs → AllByRecursion (λ x. IsName (f x)) xs → IsName (option_map_or f (slice_get xs i) [])
name_at f [] i h a = absurd (omega arith)
name_at f (x ∷ xs) zero h a = a.0
name_at f (x ∷ xs) (suc i) h a = name_at f xs i (omega arith) a.1

format_there : (fs : List FormatValue) (i a : ℕ) → has_operator fs (Format i a) ≡ true → (i < length fs) × (fields_at fs i ≡ a)
format_there [] i a e = absurd (cc)
format_there (f ∷ fs) zero a e = (omega arith, eqb-true (field_count f.pieces) a (and_parts (is_sound f.pieces) (field_count f.pieces == a) e).1)
format_there (f ∷ fs) (suc i) a e = let h = format_there fs i a e in (omega (arith, h.0), h.1)

module _ (p : ProtocolValue) (names : HasNames p) where
  format_named : (i a : ℕ) → has_operator p.formats (Format i a) ≡ true → IsName (format_name p i)
  format_named i a e = name_at (λ (f : FormatValue). f.name) p.formats i (format_there p.formats i a e).0 names.formats

  op_spelled : (o : Op) → has_operator p.formats o ≡ true → is_spelled (op_text p o) ≡ true
  op_spelled Hash e = refl
  op_spelled Mac e = refl
  op_spelled Seal e = refl
  op_spelled Wrap e = refl
  op_spelled (Format i a) e = name_spelled (format_name p i) (format_named i a e)

  no_format : (x : List ℕ) (i a : ℕ) → has_operator p.formats (Format i a) ≡ true → format_name p i ≡ x → IsName x
  no_format x i a h e = let P : List ℕ → Type 0 = λ y. IsName y in subst P e (format_named i a h)

  op_once : (o q : Op) → has_operator p.formats o ≡ true → has_operator p.formats q ≡ true → op_text p o ≡ op_text p q → o ≡ q
  op_once Hash Hash h l e = refl
  op_once Mac Mac h l e = refl
  op_once Seal Seal h l e = refl
  op_once Wrap Wrap h l e = refl
  op_once (Format i a) (Format j b) h l e =
      let f = format_there p.formats i a h in
      let g = format_there p.formats j b l in
      let place : i ≡ j = one_place (λ (v : FormatValue). v.name) [] p.formats i j f.0 g.0 names.formats_apart e in
      let count : a ≡ b = sym f.1 ∙ ap (fields_at p.formats) place ∙ g.1 in
      cc (place, count)
  op_once (Format i a) Hash h l e = absurd (no_hash (no_format hash_word i a h e))
  op_once (Format i a) Mac h l e = absurd (no_mac (no_format mac_word i a h e))
  op_once (Format i a) Seal h l e = absurd (no_seal (no_format seal_word i a h e))
  op_once (Format i a) Wrap h l e = absurd (no_wrap (no_format wrap_word i a h e))
  op_once Hash (Format i a) h l e = absurd (no_hash (no_format hash_word i a l (sym e)))
  op_once Mac (Format i a) h l e = absurd (no_mac (no_format mac_word i a l (sym e)))
  op_once Seal (Format i a) h l e = absurd (no_seal (no_format seal_word i a l (sym e)))
  op_once Wrap (Format i a) h l e = absurd (no_wrap (no_format wrap_word i a l (sym e)))
  op_once _ _ h l e = let n = ap first_byte e in absurd (omega (arith, n))

  -- ---- texts

  abbrev texts : Trees → List ℕ
  texts ts = words_bytes (spell_trees close_sign (spelled_all p ts))

  abbrev others : Trees → List ℕ
  others ts = words_bytes (spell_others close_sign (spelled_all p ts))

  texts-more : (t : Tree) (ts : Trees) (z : List ℕ) → texts (more t ts) ++ z ≡ term_text p t ++ (others ts ++ z)
  texts-more t ts z =
      ap (λ l. l ++ z) (flat_map-append word_bytes (spell_tree (spelled p t)) (spell_others close_sign (spelled_all p ts)))
      ∙ append_assoc (term_text p t) (others ts) z

  others-more : (t : Tree) (ts : Trees) (z : List ℕ) → others (more t ts) ++ z ≡ 44 ∷ (term_text p t ++ (others ts ++ z))
  others-more t ts z = ap (λ l. 44 ∷ l) (texts-more t ts z)

  after : (ts : Trees) (z : List ℕ) → (a : After) × (others ts ++ z ≡ bytes a)
  after none z = (close z, refl)
  after (more t ts) z = (comma (term_text p t ++ (others ts ++ z)), others-more t ts z)

  -- how a text begins, and what is behind that
  abbrev head : Tree → List ℕ
  head (leaf a) = atom_name p a
  head (node o ts) = op_text p o

  abbrev behind : Tree → List ℕ → List ℕ
  behind (leaf a) z = z
  behind (node o ts) z = 40 ∷ (texts ts ++ z)

  parted : (t : Tree) (z : List ℕ) → IsTermOf p t → term_text p t ++ z ≡ head t ++ behind t z
  parted (leaf a) z h = ap (λ l. l ++ z) (append-nil (atom_name p a))
  parted (node o ts) z h = ap (λ l. l ++ z) (node_text p o ts h.1) ∙ append_assoc (op_text p o) (40 ∷ texts ts) z

  head_spelled : (t : Tree) → IsTermOf p t → is_spelled (head t) ≡ true
  head_spelled (leaf a) h = name_spelled (atom_name p a) (name_at (λ (x : Atom). x.name) p.atoms a h names.atoms)
  head_spelled (node o ts) h = op_spelled o h.0

  behind_ends : (t : Tree) (z : After) → ends (behind t (bytes z)) ≡ true
  behind_ends (leaf a) z = ends_after z
  behind_ends (node o ts) z = refl

  heads : (t u : Tree) (z w : After) → IsTermOf p t → IsTermOf p u → term_text p t ++ bytes z ≡ term_text p u ++ bytes w → (head t ≡ head u) × (behind t (bytes z) ≡ behind u (bytes w))
  heads t u z w h l e =
      split_names (head t) (head u) (behind t (bytes z)) (behind u (bytes w)) (head_bytes (head t) (head_spelled t h)) (head_bytes (head u) (head_spelled u l)) (behind_ends t z) (behind_ends u w)
      (sym (parted t (bytes z) h) ∙ e ∙ parted u (bytes w) l)

  no_empty : (x : List ℕ) → is_spelled x ≡ true → x ≡ [] → ⊥
  no_empty [] e s = cc
  no_empty (b ∷ x) e s = cc

  -- no term begins with a closing sign
  not_close : (t : Tree) (z : After) (w : List ℕ) → IsTermOf p t → term_text p t ++ bytes z ≡ 41 ∷ w → ⊥
  not_close t z w h e =
      no_empty (head t) (head_spelled t h) (split_names (head t) [] (behind t (bytes z)) (41 ∷ w) (head_bytes (head t) (head_spelled t h)) refl (behind_ends t z) refl (sym (parted t (bytes z) h) ∙ e)).0

  mutual
    once : (t u : Tree) (z w : After) → IsTermOf p t → IsTermOf p u → term_text p t ++ bytes z ≡ term_text p u ++ bytes w → (t ≡ u) × (bytes z ≡ bytes w)
    once (leaf a) (leaf b) z w h l e =
        let s = heads (leaf a) (leaf b) z w h l e in
        let place : a ≡ b = one_place (λ (x : Atom). x.name) [] p.atoms a b h l names.atoms_apart s.0 in
        (ap leaf place, s.1)
    once (leaf a) (node q us) z w h l e = absurd (not_open z _ (heads (leaf a) (node q us) z w h l e).1)
    once (node o ts) (leaf b) z w h l e = absurd (not_open w _ (sym (heads (node o ts) (leaf b) z w h l e).1))
    once (node o ts) (node q us) z w h l e =
        let s = heads (node o ts) (node q us) z w h l e in
        let op : o ≡ q = op_once o q h.0 l.0 s.0 in
        let rest : texts ts ++ bytes z ≡ texts us ++ bytes w = cc (s.1) in
        let r = once_all ts us (bytes z) (bytes w) h.2 l.2 rest in
        (cc (op, r.0), r.1)

    once_all : (ts us : Trees) (z w : List ℕ) → AreTermsOf p ts → AreTermsOf p us → texts ts ++ z ≡ texts us ++ w → (ts ≡ us) × (z ≡ w)
    once_all none none z w h l e = (refl, cc (e))
    once_all none (more u us) z w h l e =
        let a = after us w in
        absurd (not_close u a.0 z l.0 (ap (λ s. term_text p u ++ s) (sym a.1) ∙ sym (texts-more u us w) ∙ sym e))
    once_all (more t ts) none z w h l e =
        let a = after ts z in
        absurd (not_close t a.0 w h.0 (ap (λ s. term_text p t ++ s) (sym a.1) ∙ sym (texts-more t ts z) ∙ e))
    once_all (more t ts) (more u us) z w h l e =
        let a = after ts z in
        let b = after us w in
        let first = once t u a.0 b.0 h.0 l.0 (ap (λ s. term_text p t ++ s) (sym a.1) ∙ sym (texts-more t ts z) ∙ e ∙ texts-more u us w ∙ ap (λ s. term_text p u ++ s) b.1) in
        let r = others_once ts us z w h.1 l.1 (a.1 ∙ first.1 ∙ sym b.1) in
        (cc (first.0, r.0), r.1)

    others_once : (ts us : Trees) (z w : List ℕ) → AreTermsOf p ts → AreTermsOf p us → others ts ++ z ≡ others us ++ w → (ts ≡ us) × (z ≡ w)
    others_once none none z w h l e = (refl, cc (e))
    others_once none (more u us) z w h l e = let n = ap first_byte (e ∙ others-more u us w) in absurd (omega (arith, n))
    others_once (more t ts) none z w h l e = let n = ap first_byte (sym (others-more t ts z) ∙ e) in absurd (omega (arith, n))
    others_once (more t ts) (more u us) z w h l e =
        let a = after ts z in
        let b = after us w in
        let tails : term_text p t ++ (others ts ++ z) ≡ term_text p u ++ (others us ++ w) = cc (sym (others-more t ts z) ∙ e ∙ others-more u us w) in
        let first = once t u a.0 b.0 h.0 l.0 (ap (λ s. term_text p t ++ s) (sym a.1) ∙ tails ∙ ap (λ s. term_text p u ++ s) b.1) in
        let r = others_once ts us z w h.1 l.1 (a.1 ∙ first.1 ∙ sym b.1) in
        (cc (first.0, r.0), r.1)

  -- different terms have different texts
  pub text_once : (t u : Tree) → IsTermOf p t → IsTermOf p u → term_text p t ≡ term_text p u → t ≡ u
  text_once t u h l e = (once t u at_end at_end h l (append-nil (term_text p t) ∙ e ∙ sym (append-nil (term_text p u)))).0
