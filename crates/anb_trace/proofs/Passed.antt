-- What is told where a piece is looked for.
use Rattle.std.proofs.Common.{◌≡◌, ◌≤◌, ℕ, List, [], ◌∷◌, ◌++◌, Some, None, sym, ap, append_assoc, ◌∙◌, ◌+◌, length, drop}
use Rattle.std.specs.Borrow.{Bor}
use Rattle.std.proofs.lemmas.List.{drop_all}
use Rattle.anb_format.specs.Formats.{field_count}
use Rattle.anb_format.specs.declared.pieces.Piece.{Piece}
use Rattle.anb_trace.specs.Misfits.{Before, Found, Misfit, end_due, misfit_behind, misfit_from, piece_found}
use Rattle.anb_trace.specs.Passing.{Passes}

-- words in four parts, and more behind them
pub four_and : (old middle new a b c d e : List ℕ) → middle ≡ old ++ (a ++ (b ++ (c ++ d))) → new ≡ middle ++ e → new ≡ old ++ (a ++ (b ++ (c ++ (d ++ e))))
four_and old middle new a b c d e first last =
    let joined : (old ++ (a ++ (b ++ (c ++ d)))) ++ e ≡ old ++ (a ++ (b ++ (c ++ (d ++ e)))) = simp append_assoc in
    last ∙ ap (λ (x : List ℕ). x ++ e) first ∙ joined

-- it stands there
pub passed_on : (f : Found) (behind : Bor (List ℕ)) (old new : List ℕ) (next : List ℕ → List ℕ) → Passes f (Some behind) old new → (misfit_behind f next ≡ next behind.now) × (new ≡ old)
passed_on (Before rest) behind old new next h = (ap next (sym h.0), h.1)
passed_on (Misfit place text) behind old new next h = absurd h

-- something else does
pub stopped_at : (f : Found) (old new : List ℕ) (next : List ℕ → List ℕ) → Passes f None old new → new ≡ old ++ misfit_behind f next
stopped_at (Before rest) old new next h = absurd h
stopped_at (Misfit place text) old new next h = h

module _ (all field i : ℕ) (pieces : List Piece) (rest whole : List ℕ) (left : whole ≡ misfit_from all field (drop i pieces) rest) where
  -- behind the last piece
  pub told_end : (old new : List ℕ) → length pieces ≤ i → new ≡ old ++ end_due all rest → new ≡ old ++ whole
  told_end old new over put =
      let none : drop i pieces ≡ [] = drop_all i pieces over in
      put ∙ ap (λ (x : List ℕ). old ++ x) (sym (left ∙ ap (λ (ps : List Piece). misfit_from all field ps rest) none))

  module _ (piece : Piece) (step : drop i pieces ≡ piece ∷ drop (i + 1) pieces) where
    now : whole ≡ misfit_from all field (piece ∷ drop (i + 1) pieces) rest
    now = left ∙ ap (λ (ps : List Piece). misfit_from all field ps rest) step

    pub told_here : (old new : List ℕ) → Passes (piece_found all piece field rest) None old new → new ≡ old ++ whole
    told_here old new h =
        stopped_at (piece_found all piece field rest) old new (λ x. misfit_from all (field + field_count (piece ∷ [])) (drop (i + 1) pieces) x) h
        ∙ ap (λ (x : List ℕ). old ++ x) (sym now)

    pub told_behind : (n : ℕ) (behind : Bor (List ℕ)) (old new : List ℕ) → n ≡ field_count (piece ∷ []) → Passes (piece_found all piece field rest) (Some behind) old new
        → (new ≡ old) × (whole ≡ misfit_from all (field + n) (drop (i + 1) pieces) behind.now)
    told_behind n behind old new is h =
        let k = passed_on (piece_found all piece field rest) behind old new (λ x. misfit_from all (field + field_count (piece ∷ [])) (drop (i + 1) pieces) x) h in
        (k.1, now ∙ k.0 ∙ ap (λ (m : ℕ). misfit_from all (field + m) (drop (i + 1) pieces) behind.now) (sym is))
