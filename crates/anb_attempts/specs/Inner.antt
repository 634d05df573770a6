-- Inner places: the parts of a term that can be opened, and what a case is with the spare name at one of them.
use Rattle.std.specs.Prelude.{◌≡◌, ◌==◌, nat_le, ℕ, zero, suc, List, [], ◌∷◌, ◌++◌, length, map, if◌then◌else◌}
use Rattle.std.specs.List.{AllZip}
use Rattle.anb_term.specs.Operator.{keys, undoable}
use Rattle.anb_term.specs.declared.term.Op.{Op}
use Rattle.anb_term.specs.Tree.{Tree, Trees, leaf, node, none, more}
use Rattle.anb_term.specs.View.{tree_of}
use Rattle.anb_unify.specs.Substitutions.{put_in}
use Rattle.anb_partner.specs.Plans.{MayStand}
use Rattle.anb_protocol.specs.Protocols.{ProtocolValue}
use Rattle.anb_suite.specs.declared.cases.Case.{Case}

-- a term, or operands, with the spare name at one place, and the part that stood there
pub record InnerValue : Type 0 where
  pub term : Tree
  pub part : Tree

pub record InnerOperandsValue : Type 0 where
  pub operands : Trees
  pub part : Tree

abbrev pub inner_node : Op → InnerOperandsValue → InnerValue
inner_node o list = record { term = node o list.operands; part = list.part }

abbrev pub inner_before : Trees → InnerValue → InnerOperandsValue
inner_before rest inner = record { operands = more inner.term rest; part = inner.part }

abbrev pub inner_behind : Tree → InnerOperandsValue → InnerOperandsValue
inner_behind first list = record { operands = more first list.operands; part = list.part }

module _ (spare : ℕ) where
  abbrev pub itself : Tree → InnerValue
  itself t = record { term = leaf spare; part = t }

  abbrev mutual
    -- those of what is in a term that can be opened, from the left; and else the term itself
    pub inner_of : Tree → List InnerValue
    inner_of (leaf n) = itself (leaf n) ∷ []
    inner_of (node o ts) = if undoable o then map (inner_node o) (inner_from (keys o) ts) else itself (node o ts) ∷ []

    -- the same of operands, of which so many, the first ones, are keys
    pub inner_from : (keyed : ℕ) → Trees → List InnerOperandsValue
    inner_from keyed none = []
    inner_from (suc k) (more t ts) = map (inner_behind t) (inner_from k ts)
    inner_from zero (more t ts) = map (inner_before ts) (inner_of t) ++ map (inner_behind t) (inner_from zero ts)

  -- those of a term that can be opened
  abbrev pub inner_within : Tree → List InnerValue
  inner_within (leaf n) = []
  inner_within (node o ts) = if undoable o then map (inner_node o) (inner_from (keys o) ts) else []

  -- where they are 64 at most
  abbrev pub few_within : Tree → List InnerValue
  few_within t = if nat_le (length (inner_within t)) 64 then inner_within t else []

  -- another term in place of the spare name
  abbrev pub in_place_of : Tree → ℕ → Tree
  in_place_of other n = if n == spare then other else leaf n

  -- The case of the same check with the spare name at an inner place of what it stood in place of: what arrives is the
  -- wrong value of the case that is made so.
  pub record IsWithin (case : Case) (inner : InnerValue) (within : Case) : Type 0 where
    pub check : within.check ≡ case.check
    pub event : within.event ≡ case.event
    pub arrivals : map tree_of within.arrivals.items ≡ map (put_in (in_place_of inner.term)) (map tree_of case.arrivals.items)
    pub messages : map tree_of within.messages.items ≡ map (put_in (in_place_of inner.term)) (map tree_of case.messages.items)
    pub wrong : tree_of within.wrong ≡ inner.part
    pub one : tree_of within.one ≡ put_in (in_place_of inner.term) (tree_of case.one)
    pub other : tree_of within.other ≡ put_in (in_place_of inner.term) (tree_of case.other)

-- Of a term that may stand in a plan these cases, one for each part where they are few; of any other none.
pub record AreWithin (p : ProtocolValue) (spare : ℕ) (case : Case) (cases : List Case) : Type 0 where
  pub each : MayStand p (tree_of case.wrong) → AllZip (IsWithin spare case) (few_within spare (tree_of case.wrong)) cases
  pub none : (MayStand p (tree_of case.wrong) → ⊥) → cases ≡ []
