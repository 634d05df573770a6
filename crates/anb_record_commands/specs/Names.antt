-- The file with the transcript of a recorded play, in its folder.
use Rattle.std.specs.Prelude.{ℕ, List, ◌++◌, codes}

-- a line for each message and each arrival
abbrev pub transcript_in : (folder : List ℕ) → List ℕ
transcript_in folder = folder ++ codes "/transcript"
