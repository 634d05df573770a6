-- The words that name the folder of a recording.
use Rattle.std.specs.Prelude.{ℕ, ◌&&◌, List, [], ◌∷◌, codes, bytes_eq, Option, Some, None, if◌then◌else◌}
use Rattle.anb_words.specs.Words.{is_operand}

-- the last two words are `--record` and a name
abbrev pub folder_in : (end : List (List ℕ)) → Option (List ℕ)
folder_in (flag ∷ folder ∷ []) = if bytes_eq flag (codes "--record") && is_operand folder then Some folder else None
folder_in end = None
