-- The report of a rehearsal as a text.
use Rattle.std.specs.Prelude.{List, [], ◌∷◌, ◌++◌, ℕ, codes, decimal}
use Rattle.std.specs.List.{flat_map}
use Rattle.hex.specs.Hex.{encode_lower}
use Rattle.anb_base.specs.declared.content.Sent.{Sent}
use Rattle.anb_outcomes.specs.declared.rehearsals.Report.{Report}

-- a message: the number of its action, a space, and its bytes in lower-case hexadecimal
abbrev pub sent_line : Sent → List ℕ
sent_line s = decimal s.action ++ 32 ∷ encode_lower s.bytes ++ 10 ∷ []

abbrev pub counts_line : Report → List ℕ
counts_line r =
    codes "turns " ++ decimal r.turns ++ codes ", taken " ++ decimal r.taken
    ++ codes ", passed " ++ decimal r.passed ++ 10 ∷ []

-- a line for each message, in the order of the actions, and the counts
abbrev pub report_text : Report → List ℕ
report_text r = flat_map sent_line r.sent ++ counts_line r
