-- A composition is at most as wide as the term that it composes.
use Rattle.std.proofs.Common.{◌≡◌, ℕ, suc, ◌≤◌, List, [], ◌∷◌, length, Bool, true, Option, Some, refl, ap, subst, arith, inl, inr}
use Rattle.std.specs.Prelude.{◌==◌}
use Rattle.std.specs.List.{AllByRecursion}
use Rattle.std.proofs.lemmas.Bool.{leb-true, le-leb, and_parts, and_from}
use Rattle.anb_lemmas.proofs.Options.{mapped_from}
use Rattle.anb_format.specs.declared.pieces.FieldKind.{FieldKind}
use Rattle.anb_format.specs.declared.pieces.FieldKind.TheVariants.{Len, Net, Hex, Rest}
use Rattle.anb_format.specs.declared.pieces.Piece.{Piece}
use Rattle.anb_format.specs.declared.pieces.Piece.TheVariants.{Lit, Field}
use Rattle.anb_format.specs.Formats.{FormatValue, pieces_at}
use Rattle.anb_format.specs.Widths.{field_width, pieces_width}
use Rattle.anb_term.specs.declared.term.Op.{Op}
use Rattle.anb_term.specs.declared.term.Op.TheVariants.{Hash, Mac, Seal, Wrap, Format}
use Rattle.anb_term.specs.Operator.{arity}
use Rattle.anb_term.specs.Tree.{Tree, leaf, node, Trees, none, more, list_of, IsFormed, AreFormed}
use Rattle.anb_close.specs.Rows.{place, made_for, mades_for}
use Rattle.anb_close.proofs.Rows.{optional, both_some, built_some}
use Rattle.anb_protocol.specs.Widths.{sealed_width, op_width, width, widths, fits_width, fit_width}

-- each is at most the one beside it
abbrev pub Below : List ℕ → List ℕ → Type 0
Below [] [] = Unit {0}
Below [] (v ∷ vs) = ⊥
Below (w ∷ ws) [] = ⊥
Below (w ∷ ws) (v ∷ vs) = (w ≤ v) × Below ws vs

sealed_below : (ws vs : List ℕ) → Below ws vs → sealed_width ws ≤ sealed_width vs
sealed_below [] [] h = omega arith
sealed_below [] (v ∷ vs) h = absurd h
sealed_below (w ∷ ws) [] h = absurd h
sealed_below (w ∷ []) (v ∷ []) h = omega (arith, h.0)
sealed_below (w ∷ []) (v ∷ v2 ∷ vs) h = absurd h.1
sealed_below (w ∷ w2 ∷ ws) (v ∷ []) h = absurd h.1
sealed_below (w ∷ w2 ∷ ws) (v ∷ v2 ∷ vs) h = sealed_below (w2 ∷ ws) (v2 ∷ vs) h.1

field_below : (k : FieldKind) (w v : ℕ) → w ≤ v → field_width k w ≤ field_width k v
field_below Len w v h = omega (arith, h)
field_below Net w v h = omega (arith, h)
field_below Hex w v h = omega (arith, h)
field_below Rest w v h = h

pieces_below : (ps : List Piece) (ws vs : List ℕ) → Below ws vs → pieces_width ps ws ≤ pieces_width ps vs
pieces_below [] ws vs h = omega arith
pieces_below (Lit text ∷ ps) ws vs h = omega (arith, pieces_below ps ws vs h)
pieces_below (Field k ∷ ps) [] [] h = omega arith
pieces_below (Field k ∷ ps) [] (v ∷ vs) h = absurd h
pieces_below (Field k ∷ ps) (w ∷ ws) [] h = absurd h
pieces_below (Field k ∷ ps) (w ∷ ws) (v ∷ vs) h = omega (arith, field_below k w v h.0, pieces_below ps ws vs h.1)

-- the last of some widths, with 32 more, is no less than each is
sealed_least : (least w : ℕ) (ws : List ℕ) → AllByRecursion (λ v. least ≤ v) (w ∷ ws) → least ≤ sealed_width (w ∷ ws)
sealed_least least w [] all = omega (arith, all.0)
sealed_least least w (v ∷ ws) all = sealed_least least v ws all.1

module _ (least most : ℕ) (formats : List FormatValue) (has : Op → Bool) where
  op_below : (o : Op) (ws vs : List ℕ) → Below ws vs → op_width least formats o ws ≤ op_width least formats o vs
  op_below Hash ws vs h = omega arith
  op_below Mac ws vs h = omega arith
  op_below Seal ws vs h = sealed_below ws vs h
  op_below Wrap ws vs h = sealed_below ws vs h
  op_below (Format i a) ws vs h = omega (arith, pieces_below (pieces_at formats i) ws vs h)

  -- no term is less wide than an atom
  op_least : (o : Op) (ws : List ℕ) → length ws ≡ arity o → AllByRecursion (λ v. least ≤ v) ws → least ≤ op_width least formats o ws
  op_least Hash ws n all = omega arith
  op_least Mac ws n all = omega arith
  op_least Seal [] n all = absurd (omega (arith, n))
  op_least Seal (w ∷ ws) n all = sealed_least least w ws all
  op_least Wrap [] n all = absurd (omega (arith, n))
  op_least Wrap (w ∷ ws) n all = sealed_least least w ws all
  op_least (Format i a) ws n all = omega arith

  length-widths : (ts : Trees) → length (widths least formats ts) ≡ length (list_of ts)
  length-widths none = refl
  length-widths (more t ts) = ap suc (length-widths ts)

  mutual
    width_least : (t : Tree) → IsFormed has t → least ≤ width least formats t
    width_least (leaf n) f = omega arith
    width_least (node o ts) f = op_least o (widths least formats ts) (let n = length-widths ts in let m = f.1 in omega arith) (widths_least ts f.2)

    widths_least : (ts : Trees) → AreFormed has ts → AllByRecursion (λ v. least ≤ v) (widths least formats ts)
    widths_least none f = tt
    widths_least (more t ts) f = (width_least t f.0, widths_least ts f.1)

  -- a term that fits is not too wide itself
  itself_fits : (t : Tree) → fits_width least formats most t ≡ true → width least formats t ≤ most
  itself_fits (leaf n) e = leb-true least most e
  itself_fits (node o ts) e = leb-true _ most (and_parts (fit_width least formats most ts) _ e).1

  -- an operator on operands that are less wide
  node_narrow : (o : Op) (ts ms : Trees) → Below (widths least formats ms) (widths least formats ts) × (fit_width least formats most ms ≡ true) → fits_width least formats most (node o ts) ≡ true
      → (width least formats (node o ms) ≤ width least formats (node o ts)) × (fits_width least formats most (node o ms) ≡ true)
  node_narrow o ts ms go fits =
      let low = op_below o (widths least formats ms) (widths least formats ts) go.0 in
      (low, and_from _ _ go.1 (le-leb _ most (omega (arith, low, leb-true _ most (and_parts (fit_width least formats most ts) _ fits).1))))

  module _ (rs : List (Option Tree)) where
    mutual
      pub made_narrow : (t m : Tree) → made_for rs t ≡ Some m → IsFormed has t → fits_width least formats most t ≡ true → (width least formats m ≤ width least formats t) × (fits_width least formats most m ≡ true)
      made_narrow (leaf n) m e f fits =
          let h = mapped_from leaf (place rs (leaf n)) m e in
          let P : Tree → Type 0 = λ x. (width least formats x ≤ least) × (fits_width least formats most x ≡ true) in
          let same : least ≤ least = omega arith in
          subst P h.2 (same, fits)
      made_narrow (node o ts) m e f fits =
          let P : Tree → Type 0 = λ x. (width least formats x ≤ width least formats (node o ts)) × (fits_width least formats most x ≡ true) in
          elim (optional (place rs (node o ts))) [
            | inl h ↦
                let s : leaf h.0 ≡ m = (let q = rw (h.1) at e in cc) in
                let low = width_least (node o ts) f in
                subst P s (low, le-leb least most (omega (arith, low, itself_fits (node o ts) fits)))
            | inr p ↦
                let h = built_some o (length (list_of ts) == arity o) (mades_for rs ts) m (rw p at e) in
                let parts = and_parts (fit_width least formats most ts) _ fits in
                subst P h.3 (node_narrow o ts h.1 (mades_narrow ts h.1 h.2 f.2 parts.0) fits)
          ]

      pub mades_narrow : (ts ms : Trees) → mades_for rs ts ≡ Some ms → AreFormed has ts → fit_width least formats most ts ≡ true → Below (widths least formats ms) (widths least formats ts) × (fit_width least formats most ms ≡ true)
      mades_narrow none ms e f fits =
          let s : none ≡ ms = cc in
          let P : Trees → Type 0 = λ x. Below (widths least formats x) [] × (fit_width least formats most x ≡ true) in
          subst P s (tt, refl)
      mades_narrow (more t ts) ms e f fits =
          let h = both_some (made_for rs t) (mades_for rs ts) ms e in
          let parts = and_parts (fits_width least formats most t) (fit_width least formats most ts) fits in
          let a = made_narrow t h.0 h.2 f.0 parts.0 in
          let b = mades_narrow ts h.1 h.3 f.1 parts.1 in
          let P : Trees → Type 0 = λ x. Below (widths least formats x) (widths least formats (more t ts)) × (fit_width least formats most x ≡ true) in
          subst P h.4 ((a.0, b.0), and_from _ _ a.1 b.1)

    pub built_narrow : (o : Op) (ts ms : Trees) → mades_for rs ts ≡ Some ms → IsFormed has (node o ts) → fits_width least formats most (node o ts) ≡ true → fits_width least formats most (node o ms) ≡ true
    built_narrow o ts ms e f fits = (node_narrow o ts ms (mades_narrow ts ms e f.2 (and_parts (fit_width least formats most ts) _ fits).0) fits).1
