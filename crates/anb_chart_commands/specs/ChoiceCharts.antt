-- A choice as a sequence diagram, in Mermaid's language: the participants and the arrows of the stem once, and the
-- arrows of each arm in a part of a block `alt`.
use Rattle.std.specs.Prelude.{ℕ, ◌+◌, ◌==◌, ◌&&◌, nat_le, nat_lt, Bool, List, [], ◌∷◌, ◌++◌, length, map, codes, decimal, if◌then◌else◌}
use Rattle.std.specs.List.{flat_map}
use Rattle.anb_protocol.specs.Choices.{each_after}
use Rattle.anb_protocol.specs.Plans.{made_at}
use Rattle.anb_protocol.specs.Protocols.{ActionValue, ProtocolValue}
use Rattle.anb_protocol.specs.Texts.{atom_name}
use Rattle.anb_chart.specs.Charts.{action_lines, line, participant_line}
use Rattle.anb_choice.specs.Lawful.{BranchedValue}

-- the action of this number stands behind the first ones, so many, and is one of the first of another number
abbrev pub is_between : (from to number : ℕ) → Bool
is_between from to number = nat_lt from number && nat_le number to

-- the lines that the chart of a protocol has of it
abbrev pub part_lines : ProtocolValue → (from to number : ℕ) → ActionValue → List (List ℕ) → List ℕ
part_lines p from to number a names = if is_between from to number then action_lines p number a names else []

abbrev pub part_text : ProtocolValue → (from to : ℕ) → List ActionValue → ActionValue → List ℕ
part_text p from to before a = part_lines p from to (length before + 1) a (map (atom_name p) (made_at p before a))

abbrev pub lines_between : ProtocolValue → (from to : ℕ) → List ℕ
lines_between p from to = each_after (part_text p from to) [] p.actions

-- the participants and the stem, as the first arm has them
abbrev pub stem_of : ℕ → ProtocolValue → List ℕ
stem_of stem p = flat_map participant_line p.roles ++ lines_between p 0 stem

abbrev pub stem_lines : ℕ → List ProtocolValue → List ℕ
stem_lines stem [] = []
stem_lines stem (p ∷ ps) = stem_of stem p

abbrev pub arm_word : ℕ → List ℕ
arm_word number = if number == 1 then codes "alt " else codes "else "

abbrev pub arm_line : (chooser : List ℕ) → (number : ℕ) → List ℕ
arm_line chooser number =
    line (arm_word number ++ (chooser ++ (codes " chooses arm " ++ decimal number)))

-- each arm from this number on, and the end of the block
abbrev pub arms_lines : (chooser : List ℕ) → (stem number : ℕ) → List ProtocolValue → List ℕ
arms_lines chooser stem number [] = line (codes "end")
arms_lines chooser stem number (p ∷ ps) =
    arm_line chooser number ++ (lines_between p stem (length p.actions) ++ arms_lines chooser stem (number + 1) ps)

abbrev pub choice_chart : BranchedValue → List ℕ
choice_chart b = codes "sequenceDiagram\n" ++ (stem_lines b.stem b.arms ++ arms_lines b.chooser b.stem 1 b.arms)
