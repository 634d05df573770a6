-- Cases worked by hand.
use Rattle.std.specs.Prelude.{ℕ, List, [], ◌∷◌, Bool, true}
use Rattle.anb_term.specs.declared.term.Op.{Op}
use Rattle.anb_term.specs.declared.term.Op.TheVariants.{Hash, Mac, Seal, Format}
use Rattle.anb_term.specs.Tree.{Tree, leaf, node, trees_of}
use Rattle.anb_plays.specs.Plans.{Event, know, fresh, send, recv}
use Rattle.anb_plays.specs.Codes.{Act, takes, draws, receives, sends, works, make, undo, equal}
use Rattle.anb_probe.specs.Cases.{CaseValue, IsCase, IsImplied, DifferAt}

abbrev all_operators : Op → Bool
all_operators o = true

abbrev of_format : ℕ → List Tree → ℕ → Tree
of_format f ts count = node (Format f count) (trees_of ts)

abbrev seal : Tree → Tree → Tree
seal k b = node Seal (trees_of (k ∷ b ∷ []))

abbrev mac : Tree → Tree → Tree
mac k b = node Mac (trees_of (k ∷ b ∷ []))

abbrev hash : Tree → Tree
hash b = node Hash (trees_of (b ∷ []))

-- Mutual authentication: A, B, NA, NB and K are the names 0 to 4, and 5 is the spare name. B checks the keyed hash that
-- confirms it, which the spare name stands for.
module _ where
  abbrev challenge : Tree → Tree
  challenge n = of_format 0 (n ∷ []) 1

  abbrev response : Tree → Tree → Tree → Tree
  response b n m = of_format 1 (b ∷ n ∷ m ∷ []) 3

  abbrev confirm : Tree → Tree → Tree
  confirm a n = of_format 2 (a ∷ n ∷ []) 2

  abbrev pub mutual_plan : List Event
  mutual_plan = know (leaf 0) ∷ know (leaf 1) ∷ know (leaf 4) ∷ recv (challenge (leaf 2)) ∷ fresh (leaf 3) ∷ send (seal (leaf 4) (response (leaf 1) (leaf 2) (leaf 3))) ∷ recv (mac (leaf 4) (confirm (leaf 0) (leaf 3))) ∷ []

  abbrev pub mutual_code : List Act
  mutual_code = takes ∷ takes ∷ takes ∷ receives ∷ works (undo (Format 0 1) [] 3) ∷ draws ∷ works (make (Format 1 3) (1 ∷ 4 ∷ 5 ∷ [])) ∷ works (make Seal (2 ∷ 6 ∷ [])) ∷ sends 7
      ∷ receives ∷ works (make (Format 2 2) (0 ∷ 5 ∷ [])) ∷ works (make Mac (2 ∷ 9 ∷ [])) ∷ works (equal 8 10) ∷ []

  abbrev pub mutual_case : CaseValue
  mutual_case = record {
    arrivals = challenge (leaf 2) ∷ leaf 5 ∷ [];
    wrong = mac (leaf 4) (confirm (leaf 0) (leaf 3));
    sides = record { one = leaf 5; other = mac (leaf 4) (confirm (leaf 0) (leaf 3)) };
  }

  abbrev pub MutualHasItsCase : Type 0
  MutualHasItsCase = IsCase all_operators 5 mutual_plan mutual_code 13 mutual_case

-- Needham and Schroeder over shared keys: A, B, S, NA, NB, KAS, KBS and KAB are the names 0 to 7, and 8 is the spare name.
-- A checks that its nonce came back, inside a format that was sealed.
module _ where
  abbrev m1 : List Tree → Tree
  m1 ts = of_format 0 ts 3

  abbrev m2 : List Tree → Tree
  m2 ts = of_format 1 ts 4

  abbrev m3 : List Tree → Tree
  m3 ts = of_format 2 ts 2

  abbrev m4 : Tree → Tree
  m4 t = of_format 3 (t ∷ []) 1

  abbrev m5 : Tree → Tree
  m5 t = of_format 4 (t ∷ []) 1

  abbrev ticket : Tree
  ticket = seal (leaf 6) (m3 (leaf 7 ∷ leaf 0 ∷ []))

  abbrev pub nssk_plan : List Event
  nssk_plan = know (leaf 0) ∷ know (leaf 1) ∷ know (leaf 2) ∷ know (leaf 5) ∷ fresh (leaf 3) ∷ send (m1 (leaf 0 ∷ leaf 1 ∷ leaf 3 ∷ [])) ∷ recv (seal (leaf 5) (m2 (leaf 3 ∷ leaf 1 ∷ leaf 7 ∷ ticket ∷ [])))
      ∷ send ticket ∷ recv (seal (leaf 7) (m4 (leaf 4))) ∷ send (seal (leaf 7) (m5 (leaf 4))) ∷ []

  abbrev pub nssk_code : List Act
  nssk_code = takes ∷ takes ∷ takes ∷ takes ∷ draws ∷ works (make (Format 0 3) (0 ∷ 1 ∷ 4 ∷ [])) ∷ sends 5 ∷ receives ∷ works (undo Seal (3 ∷ []) 6) ∷ works (undo (Format 1 4) [] 7) ∷ works (equal 8 4) ∷ works (equal 9 1)
      ∷ sends 11 ∷ receives ∷ works (undo Seal (10 ∷ []) 12) ∷ works (undo (Format 3 1) [] 13) ∷ works (make (Format 4 1) (14 ∷ [])) ∷ works (make Seal (10 ∷ 15 ∷ [])) ∷ sends 16 ∷ []

  abbrev pub nssk_case : CaseValue
  nssk_case = record {
    arrivals = seal (leaf 5) (m2 (leaf 8 ∷ leaf 1 ∷ leaf 7 ∷ ticket ∷ [])) ∷ seal (leaf 7) (m4 (leaf 4)) ∷ [];
    wrong = leaf 3;
    sides = record { one = leaf 8; other = leaf 3 };
  }

  abbrev pub NsskHasItsCase : Type 0
  NsskHasItsCase = IsCase all_operators 8 nssk_plan nssk_code 11 nssk_case

-- Kerberos 5: C, S, KS, KCS and T2 are the names 0 to 4, and 5 is the spare name. S compares the name in the ticket with
-- that in the authenticator, both of which came; the second is the wrong one.
module _ where
  abbrev apreq : Tree → Tree → Tree
  apreq t a = of_format 0 (t ∷ a ∷ []) 2

  abbrev aprep : Tree → Tree
  aprep t = of_format 1 (t ∷ []) 1

  abbrev ticket_for : Tree → Tree
  ticket_for c = seal (leaf 2) (of_format 2 (c ∷ leaf 3 ∷ []) 2)

  abbrev authenticator : Tree → Tree
  authenticator c = seal (leaf 3) (of_format 3 (c ∷ leaf 4 ∷ []) 2)

  abbrev time : Tree
  time = of_format 4 (leaf 4 ∷ []) 1

  abbrev pub kerberos_plan : List Event
  kerberos_plan = know (leaf 1) ∷ know (leaf 2) ∷ recv (apreq (ticket_for (leaf 0)) (authenticator (leaf 0))) ∷ send (aprep (seal (leaf 3) time)) ∷ []

  abbrev pub kerberos_code : List Act
  kerberos_code = takes ∷ takes ∷ receives ∷ works (undo (Format 0 2) [] 2) ∷ works (undo Seal (1 ∷ []) 3) ∷ works (undo (Format 2 2) [] 5) ∷ works (undo Seal (7 ∷ []) 4) ∷ works (undo (Format 3 2) [] 8) ∷ works (equal 9 6)
      ∷ works (make (Format 4 1) (10 ∷ [])) ∷ works (make Seal (7 ∷ 11 ∷ [])) ∷ works (make (Format 1 1) (12 ∷ [])) ∷ sends 13 ∷ []

  abbrev pub kerberos_case : CaseValue
  kerberos_case = record {
    arrivals = apreq (ticket_for (leaf 0)) (authenticator (leaf 5)) ∷ [];
    wrong = leaf 0;
    sides = record { one = leaf 5; other = leaf 0 };
  }

  abbrev pub KerberosHasItsCase : Type 0
  KerberosHasItsCase = IsCase all_operators 5 kerberos_plan kerberos_code 9 kerberos_case

-- A hash chain: the first link is known, two more arrive. The first check's case has the wrong value in the last arrival,
-- and the arrival before is built of it.
module _ where
  abbrev pub chain_plan : List Event
  chain_plan = know (hash (hash (leaf 0))) ∷ recv (hash (leaf 0)) ∷ recv (leaf 0) ∷ []

  abbrev pub chain_code : List Act
  chain_code = takes ∷ receives ∷ works (make Hash (1 ∷ [])) ∷ works (equal 2 0) ∷ receives ∷ works (make Hash (3 ∷ [])) ∷ works (equal 4 1) ∷ []

  abbrev pub chain_case : CaseValue
  chain_case = record {
    arrivals = hash (leaf 1) ∷ leaf 1 ∷ [];
    wrong = leaf 0;
    sides = record { one = hash (hash (leaf 1)); other = hash (hash (leaf 0)) };
  }

  abbrev pub ChainHasItsCase : Type 0
  ChainHasItsCase = IsCase all_operators 1 chain_plan chain_code 4 chain_case

-- in place: a nonce in a message that came is the place itself, and in a chain there is a hash above
abbrev pub MutualIsInPlace : Type 0
MutualIsInPlace = DifferAt 5 mutual_case.wrong [] mutual_case.sides.one mutual_case.sides.other

-- a check that comes twice is implied by the other
abbrev pub SecondIsImplied : Type 0
SecondIsImplied = IsImplied all_operators (know (leaf 0) ∷ recv (leaf 0) ∷ []) (takes ∷ receives ∷ works (equal 0 1) ∷ works (equal 0 1) ∷ []) 4
