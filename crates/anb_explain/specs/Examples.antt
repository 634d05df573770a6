-- Worked examples.
use Rattle.std.specs.Prelude.{◌≡◌, ℕ, List, [], ◌∷◌, ◌++◌, codes, Some}
use Rattle.std.specs.Option.{option_map}
use Rattle.anb_base.specs.declared.content.Suite.TheVariants.{One}
use Rattle.anb_format.specs.declared.pieces.FieldKind.TheVariants.{Len}
use Rattle.anb_format.specs.declared.pieces.Piece.TheVariants.{Lit, Field}
use Rattle.anb_syntax.specs.declared.narration.Sort.TheVariants.{Agent, Number, Key}
use Rattle.anb_term.specs.declared.term.Op.TheVariants.{Seal, Format}
use Rattle.anb_term.specs.Tree.{leaf, node, trees_of}
use Rattle.anb_code.specs.declared.instr.Instr.TheVariants.{Take, Fresh, Recv, Unseal, Build, Parse, Equal, Send}
use Rattle.anb_code.specs.declared.instr.Instr.TheVariants as instr
use Rattle.anb_code.specs.CodeValue.{CodeValue}
use Rattle.anb_protocol.specs.Protocols.{ProtocolValue}
use Rattle.anb_explain.specs.Explained.{explained, register_terms}

-- the text has the terms of the registers
abbrev IsText : ProtocolValue → ℕ → CodeValue → List ℕ → Type 0
IsText p role code text = option_map (explained p role code) (register_terms p role code) ≡ Some text

-- A sends a number that both know, and B sends it back
abbrev ping : ProtocolValue
ping = record {
  name = codes "Ping";
  suite = One;
  formats = [];
  roles = codes "A" ∷ codes "B" ∷ [];
  atoms = record { name = codes "A"; sort = Agent } ∷ record { name = codes "B"; sort = Agent } ∷ record { name = codes "N"; sort = Number } ∷ [];
  knows = (leaf 2 ∷ []) ∷ (leaf 2 ∷ []) ∷ [];
  actions = record { from = 0; to = 1; message = leaf 2 } ∷ record { from = 1; to = 0; message = leaf 2 } ∷ [];
}

-- a code for A, which compares what comes back
abbrev ping_code : CodeValue
ping_code = record { protocol = codes "Ping"; role = codes "A"; suite = One; formats = []; instrs = Take (codes "N") ∷ Send 0 ∷ Recv ∷ Equal 0 1 ∷ [] }

abbrev pub PingIsExplained : Type 0
PingIsExplained = IsText ping 0 ping_code (codes "role A\nknow 0 N\nsend 1 N\nrecv 2 1 N\ncode\nr0 = take N # N\nsend r0\nr1 = recv # N\nequal r0 r1\n")

-- Needham and Schroeder's protocol with shared keys, between A, B and the server S
abbrev needham_schroeder : ProtocolValue
needham_schroeder =
    let a = leaf 0 in
    let b = leaf 1 in
    let s = leaf 2 in
    let na = leaf 3 in
    let nb = leaf 4 in
    let kas = leaf 5 in
    let kbs = leaf 6 in
    let kab = leaf 7 in
    let ticket = node Seal (trees_of (kbs ∷ node (Format 2 2) (trees_of (kab ∷ a ∷ [])) ∷ [])) in
    record {
      name = codes "NSSK";
      suite = One;
      formats = record { name = codes "m1"; pieces = Lit (codes "M1") ∷ Field Len ∷ Field Len ∷ Field Len ∷ [] }
          ∷ record { name = codes "m2"; pieces = Lit (codes "M2") ∷ Field Len ∷ Field Len ∷ Field Len ∷ Field Len ∷ [] }
          ∷ record { name = codes "m3"; pieces = Lit (codes "M3") ∷ Field Len ∷ Field Len ∷ [] }
          ∷ record { name = codes "m4"; pieces = Lit (codes "M4") ∷ Field Len ∷ [] }
          ∷ record { name = codes "m5"; pieces = Lit (codes "M5") ∷ Field Len ∷ [] }
          ∷ [];
      roles = codes "A" ∷ codes "B" ∷ codes "S" ∷ [];
      atoms = record { name = codes "A"; sort = Agent } ∷ record { name = codes "B"; sort = Agent } ∷ record { name = codes "S"; sort = Agent }
          ∷ record { name = codes "NA"; sort = Number } ∷ record { name = codes "NB"; sort = Number }
          ∷ record { name = codes "KAS"; sort = Key } ∷ record { name = codes "KBS"; sort = Key } ∷ record { name = codes "KAB"; sort = Key }
          ∷ [];
      knows = (a ∷ b ∷ s ∷ kas ∷ []) ∷ (b ∷ s ∷ kbs ∷ []) ∷ (a ∷ b ∷ s ∷ kas ∷ kbs ∷ []) ∷ [];
      actions = record { from = 0; to = 2; message = node (Format 0 3) (trees_of (a ∷ b ∷ na ∷ [])) }
          ∷ record { from = 2; to = 0; message = node Seal (trees_of (kas ∷ node (Format 1 4) (trees_of (na ∷ b ∷ kab ∷ ticket ∷ [])) ∷ [])) }
          ∷ record { from = 0; to = 1; message = ticket }
          ∷ record { from = 1; to = 0; message = node Seal (trees_of (kab ∷ node (Format 3 1) (trees_of (nb ∷ [])) ∷ [])) }
          ∷ record { from = 0; to = 1; message = node Seal (trees_of (kab ∷ node (Format 4 1) (trees_of (nb ∷ [])) ∷ [])) }
          ∷ [];
    }

-- a code for A
abbrev needham_schroeder_code : CodeValue
needham_schroeder_code = record {
  protocol = codes "NSSK";
  role = codes "A";
  suite = One;
  formats = needham_schroeder.formats;
  instrs = Take (codes "A") ∷ Take (codes "B") ∷ Take (codes "S") ∷ Take (codes "KAS") ∷ Fresh ∷ Build 0 (0 ∷ 1 ∷ 4 ∷ []) ∷ Send 5 ∷ Recv ∷ Unseal 3 6 ∷ Parse 1 7 ∷ Equal 4 8 ∷ Equal 1 9 ∷ Send 11
      ∷ Recv ∷ Unseal 10 12 ∷ Parse 3 13 ∷ Build 4 (14 ∷ []) ∷ instr.Seal 10 15 ∷ Send 16 ∷ [];
}

abbrev pub NeedhamSchroederIsExplained : Type 0
NeedhamSchroederIsExplained = IsText needham_schroeder 0 needham_schroeder_code (
    codes "role A\nknow 0 A\nknow 1 B\nknow 2 S\nknow 3 KAS\nfresh 4 NA\nsend 1 m1(A,B,NA)\nrecv 2 5 scrypt(KAS,m2(NA,B,KAB,scrypt(KBS,m3(KAB,A))))\n"
    ++ codes "send 3 scrypt(KBS,m3(KAB,A))\nrecv 4 6 scrypt(KAB,m4(NB))\nsend 5 scrypt(KAB,m5(NB))\n"
    ++ codes "code\nr0 = take A # A\nr1 = take B # B\nr2 = take S # S\nr3 = take KAS # KAS\nr4 = fresh # NA\nr5 = build m1 r0 r1 r4 # m1(A,B,NA)\nsend r5\n"
    ++ codes "r6 = recv # scrypt(KAS,m2(NA,B,KAB,scrypt(KBS,m3(KAB,A))))\nr7 = unseal r3 r6 # m2(NA,B,KAB,scrypt(KBS,m3(KAB,A)))\n"
    ++ codes "r8 r9 r10 r11 = parse m2 r7 # NA B KAB scrypt(KBS,m3(KAB,A))\nequal r4 r8\nequal r1 r9\nsend r11\n"
    ++ codes "r12 = recv # scrypt(KAB,m4(NB))\nr13 = unseal r10 r12 # m4(NB)\nr14 = parse m4 r13 # NB\nr15 = build m5 r14 # m5(NB)\nr16 = seal r10 r15 # scrypt(KAB,m5(NB))\nsend r16\n"
    )
