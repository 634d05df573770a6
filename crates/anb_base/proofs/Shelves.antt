-- Names and places on a shelf in memory.
use Rattle.std.proofs.Common.{◌≡◌, ◌≢◌, ℕ, List, [], Some, get_or, sym, ◌∙◌}
use Rattle.std.proofs.lemmas.List.Quantifiers.{position-Some}
use Rattle.std.proofs.lemmas.Slice.Eq.{bytes_eq-Decides}
use Rattle.std.specs.Str.{bytes_eq}
use Rattle.anb_base.specs.Memory.{place_among}

-- the file at a name's place has that name
name_at : (files : List (List ℕ × List ℕ)) (name : List ℕ) (place : ℕ) → place_among files name ≡ Some place → (get_or files place ([], [])).0 ≡ name
name_at files name place found =
    let passes = (position-Some (λ (file : List ℕ × List ℕ). bytes_eq file.0 name) files place ([], []) found).1 in
    (bytes_eq-Decides _ _).0 passes

-- two names with one place are one
pub place_among-other : (files : List (List ℕ × List ℕ)) (name other : List ℕ) (place : ℕ) → place_among files name ≡ Some place → other ≢ name → place_among files other ≢ Some place
place_among-other files name other place found differ same =
    differ (sym (name_at files other place same) ∙ name_at files name place found)
