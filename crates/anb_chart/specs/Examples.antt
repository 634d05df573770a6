-- Worked examples.
use Rattle.std.specs.Prelude.{◌≡◌, [], ◌∷◌, ◌++◌, codes}
use Rattle.anb_base.specs.declared.content.Suite.TheVariants.{One}
use Rattle.anb_format.specs.declared.pieces.FieldKind.TheVariants.{Len}
use Rattle.anb_format.specs.declared.pieces.Piece.TheVariants.{Lit, Field}
use Rattle.anb_syntax.specs.declared.narration.Sort.TheVariants.{Agent, Number, Key}
use Rattle.anb_term.specs.declared.term.Op.TheVariants.{Mac, Seal, Format}
use Rattle.anb_term.specs.Tree.{leaf, node, trees_of}
use Rattle.anb_protocol.specs.Protocols.{ProtocolValue}
use Rattle.anb_chart.specs.Charts.{chart}

-- A and B prove to each other that they have a key: each makes a number
abbrev authentication : ProtocolValue
authentication =
    let a = leaf 0 in
    let b = leaf 1 in
    let na = leaf 2 in
    let nb = leaf 3 in
    let k = leaf 4 in
    record {
      name = codes "Mutual";
      suite = One;
      formats = record { name = codes "challenge"; pieces = Lit (codes "C") ∷ Field Len ∷ [] }
          ∷ record { name = codes "response"; pieces = Lit (codes "R") ∷ Field Len ∷ Field Len ∷ Field Len ∷ [] }
          ∷ record { name = codes "confirm"; pieces = Lit (codes "F") ∷ Field Len ∷ Field Len ∷ [] }
          ∷ [];
      roles = codes "A" ∷ codes "B" ∷ [];
      atoms = record { name = codes "A"; sort = Agent } ∷ record { name = codes "B"; sort = Agent }
          ∷ record { name = codes "NA"; sort = Number } ∷ record { name = codes "NB"; sort = Number } ∷ record { name = codes "K"; sort = Key }
          ∷ [];
      knows = (a ∷ b ∷ k ∷ []) ∷ (a ∷ b ∷ k ∷ []) ∷ [];
      actions = record { from = 0; to = 1; message = node (Format 0 1) (trees_of (na ∷ [])) }
          ∷ record { from = 1; to = 0; message = node Seal (trees_of (k ∷ node (Format 1 3) (trees_of (b ∷ na ∷ nb ∷ [])) ∷ [])) }
          ∷ record { from = 0; to = 1; message = node Mac (trees_of (k ∷ node (Format 2 2) (trees_of (a ∷ nb ∷ [])) ∷ [])) }
          ∷ [];
    }

abbrev pub MutualIsCharted : Type 0
MutualIsCharted = chart authentication ≡
    codes "sequenceDiagram\n    participant A\n    participant B\n"
    ++ codes "    Note over A: new NA\n    A->>B: 1 challenge(NA)\n"
    ++ codes "    Note over B: new NB\n    B->>A: 2 scrypt(K,response(B,NA,NB))\n"
    ++ codes "    A->>B: 3 mac(K,confirm(A,NB))\n"

-- a role whose name is a word of Mermaid's, which makes two numbers at once
abbrev ending : ProtocolValue
ending = record {
  name = codes "Ending";
  suite = One;
  formats = record { name = codes "m"; pieces = Lit (codes "M") ∷ Field Len ∷ Field Len ∷ Field Len ∷ [] } ∷ [];
  roles = codes "End" ∷ codes "B" ∷ [];
  atoms = record { name = codes "End"; sort = Agent } ∷ record { name = codes "B"; sort = Agent }
      ∷ record { name = codes "X"; sort = Number } ∷ record { name = codes "Y"; sort = Number }
      ∷ [];
  knows = (leaf 0 ∷ []) ∷ (leaf 0 ∷ []) ∷ [];
  actions = record { from = 0; to = 1; message = node (Format 0 3) (trees_of (leaf 3 ∷ leaf 0 ∷ leaf 2 ∷ [])) } ∷ [];
}

abbrev pub EndingIsCharted : Type 0
EndingIsCharted = chart ending ≡
    codes "sequenceDiagram\n    participant #69;nd\n    participant B\n"
    ++ codes "    Note over #69;nd: new Y, X\n    #69;nd->>B: 1 m(Y,End,X)\n"
