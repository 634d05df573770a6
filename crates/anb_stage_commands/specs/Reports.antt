-- The report of a stage as a text.
use Rattle.std.specs.Prelude.{ℕ, List, [], ◌∷◌, ◌++◌, length, codes, decimal}
use Rattle.std.specs.List.{flat_map}
use Rattle.hex.specs.Hex.{encode_lower}
use Rattle.anb_base.specs.declared.content.Sent.{Sent}

-- a message: the number of its action, a space, and its bytes in lower-case hexadecimal
abbrev pub sent_line : Sent → List ℕ
sent_line s = decimal s.action ++ 32 ∷ encode_lower s.bytes ++ 10 ∷ []

-- a line for each message, and how many there are
abbrev pub report_text : List Sent → List ℕ
report_text messages =
    flat_map sent_line messages ++ codes "relayed " ++ decimal (length messages) ++ 10 ∷ []
