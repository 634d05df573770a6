-- Tied, as classes of registers.
use Rattle.std.specs.Prelude.{◌≡◌, ℕ, zero, suc, ◌+◌, ◌-◌, ◌<◌, List, take, Bool, true, false, ◌&&◌, ◌||◌, ◌==◌, not, Option, Some, None, slice_get, ◌↔◌}
use Rattle.std.specs.List.{list_any, list_all}
use Rattle.anb_close.specs.Rows.{is_at}
use Rattle.anb_term.specs.declared.term.Op.{Op}
use Rattle.anb_term.specs.Operator.{arity, keys, undoable, op_eqb}
use Rattle.anb_term.specs.Tree.{Tree, leaf, node, list_of}
use Rattle.anb_plays.specs.Codes.{Work, make, undo, equal}
use Rattle.anb_certify.specs.Tied.{Did, InPairs, Tied, KeepsRules}
use Rattle.anb_reason.specs.Decided.{composes}

-- two that are there and equal
abbrev pub both_are : Option ℕ → Option ℕ → Bool
both_are (Some c) (Some d) = c == d
both_are (Some c) None = false
both_are None d = false

-- registers of one class; one that has no class is alone
abbrev pub in_class : List ℕ → ℕ → ℕ → Bool
in_class cs a b = (a == b) || both_are (slice_get cs a) (slice_get cs b)

-- nothing is left to tie
pub record Saturated (did : List (ℕ × Work)) (cs : List ℕ) : Type 0 where
  pub compared : (at a b : ℕ) → Did did at (equal a b) → in_class cs a b ≡ true
  pub built : (at bt : ℕ) (o : Op) (ns ms : List ℕ) → Did did at (make o ns) → Did did bt (make o ms) → InPairs (in_class cs) ns ms → in_class cs at bt ≡ true
  pub undone : (at bt : ℕ) (o : Op) (ks ls : List ℕ) (n m j : ℕ) → Did did at (undo o ks n) → Did did bt (undo o ls m) → InPairs (in_class cs) ks ls → in_class cs n m ≡ true
      → j < arity o - keys o → in_class cs (at + j) (bt + j) ≡ true

-- each register is tied to the one that its class is named by
abbrev pub AreNamed : List (ℕ × Work) → List ℕ → Type 0
AreNamed did cs = (i c : ℕ) → slice_get cs i ≡ Some c → Tied did i c

-- classes that are named by registers tied to theirs, with nothing left to tie, are exactly what is tied
abbrev pub ClassesAreTied : Type 0
ClassesAreTied = (did : List (ℕ × Work)) (cs : List ℕ) → Saturated did cs → AreNamed did cs → (a b : ℕ) → Tied did a b ↔ (in_class cs a b ≡ true)

-- what the rules tie, where the operands are in one class
abbrev pub RulesTie : Type 0
RulesTie = (did : List (ℕ × Work)) (cs : List ℕ) → AreNamed did cs
    → ((at a b : ℕ) → Did did at (equal a b) → Tied did a b)
    × ((at bt : ℕ) (o : Op) (ns ms : List ℕ) → Did did at (make o ns) → Did did bt (make o ms) → InPairs (in_class cs) ns ms → Tied did at bt)
    × ((at bt : ℕ) (o : Op) (ks ls : List ℕ) (n m j : ℕ) → Did did at (undo o ks n) → Did did bt (undo o ls m) → InPairs (in_class cs) ks ls → in_class cs n m ≡ true
    → j < arity o - keys o → Tied did (at + j) (bt + j))

-- ---- the rules as a test of a register

abbrev pub all_below : (ℕ → Bool) → ℕ → Bool
all_below f zero = true
all_below f (suc k) = f k && all_below f k

-- a work at `at` by which a hash or mac wrote what is in register i's class
abbrev pub hashes_it : List ℕ → ℕ → ℕ × Work → Bool
hashes_it cs i (at, make p ns) = not (undoable p) && in_class cs i at
hashes_it cs i (at, undo p ks n) = false
hashes_it cs i (at, equal a b) = false

-- one by which this operator built it, or that undid it
abbrev pub knows_it : List ℕ → ℕ → Op → ℕ × Work → Bool
knows_it cs i o (at, make p ns) = op_eqb o p && in_class cs i at
knows_it cs i o (at, undo p ks n) = in_class cs i n
knows_it cs i o (at, equal a b) = false

module _ (did : List (ℕ × Work)) (cs : List ℕ) (ts : List Tree) where
  abbrev pub rule_test : ℕ → Tree → Bool
  rule_test i (leaf n) = true
  rule_test i (node o us) = (undoable o || (not (list_all (composes ts) (list_of us)) || list_any (hashes_it cs i) did))
      && (not (undoable o) || (not (list_all (composes ts) (take (keys o) (list_of us))) || list_any (knows_it cs i o) did))

  abbrev pub register_test : ℕ → Option Tree → Bool
  register_test i None = true
  register_test i (Some t) = all_below (λ k. not (is_at (slice_get ts k) t) || in_class cs k i) i && rule_test i t

-- a register keeps the rules exactly where it passes, over classes that are exactly what is tied
abbrev pub RulesAreDecided : Type 0
RulesAreDecided = (did : List (ℕ × Work)) (cs : List ℕ) (ts : List Tree) → ((a b : ℕ) → Tied did a b ↔ (in_class cs a b ≡ true))
    → (i : ℕ) → KeepsRules did ts i ↔ (register_test did cs ts i (slice_get ts i) ≡ true)
