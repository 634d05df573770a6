-- What is taken unchecked stands behind no `checks`, and may have any bytes.
use Rattle.std.specs.Prelude.{◌≡◌, ℕ, ◌+◌, ◌<◌, List, [], ◌∷◌, ◌++◌, length, map, take, drop, true, false, IsTrue, Some, Contains, slice_get, slice_set}
use Rattle.std.specs.Prelude.{option_map}
use Rattle.anb_format.specs.Formats.{FormatValue}
use Rattle.anb_term.specs.Tree.{Tree}
use Rattle.anb_term.specs.Value.{Meaning}
use Rattle.anb_term.specs.Lawful.{AreValues, picked}
use Rattle.anb_plays.specs.Codes.{Act, takes, draws, receives, sends, works, Work, make, undo, equal}
use Rattle.anb_plays.specs.Plans.{Event, known, FreshIsNew}
use Rattle.anb_plays.specs.Plays.{Played, Play}
use Rattle.anb_plays.specs.Fits.{Fits}
use Rattle.anb_plays.specs.Exec.{exec, on_written, worked, count_written, HasTakes}
use Rattle.anb_code.specs.declared.instr.Instr.{Instr}
use Rattle.anb_code.specs.Meaning.{act_of}
use Rattle.anb_report.specs.Looking.{is_among, unchecked}
use Rattle.anb_report.specs.Noting.{checked}

-- ---- terms

-- No term that a role takes unchecked stands behind `checks`, whatever its code compares: where these are the terms of
-- the registers, none that is noted there has such a one.
abbrev pub ChecksNothingUnchecked : Type 0
ChecksNothingUnchecked = (terms free : List Tree) (instrs : List Instr) (r : ℕ) (t : Tree)
    → Contains (checked terms free instrs) r → slice_get terms r ≡ Some t → Contains free t → ⊥

-- ---- bytes

-- two runs end alike, with as many messages and the same arrivals left
pub record SameCourse {A : Type 0} (p q : Played A) : Type 0 where
  pub end : p.end ≡ q.end
  pub left : p.left ≡ q.left
  pub sent : length p.sent ≡ length q.sent

-- the registers of arrivals, where this is the first one to be written
abbrev pub received : ℕ → List Act → List ℕ
received next [] = []
received next (takes ∷ acts) = received (next + 1) acts
received next (draws ∷ acts) = received (next + 1) acts
received next (receives ∷ acts) = next ∷ received (next + 1) acts
received next (sends r ∷ acts) = received next acts
received next (works w ∷ acts) = received (next + count_written w) acts

module _ {A : Type 0} (m : Meaning A) (draw : ℕ → A) where
  -- the values of all registers that a run writes; those of the takes are written before
  abbrev pub registers : List Act → List A → ℕ → List A → List A
  registers [] table i arrivals = table
  registers (takes ∷ acts) table i arrivals = registers acts table i arrivals
  registers (draws ∷ acts) table i arrivals = registers acts (table ++ draw i ∷ []) (i + 1) arrivals
  registers (receives ∷ acts) table i [] = table
  registers (receives ∷ acts) table i (x ∷ arrivals) = registers acts (table ++ x ∷ []) i arrivals
  registers (sends r ∷ acts) table i arrivals = registers acts table i arrivals
  registers (works w ∷ acts) table i arrivals = on_written (worked m table w) (λ ws. registers acts (table ++ ws) i arrivals) table

  module _ (change : ℕ → A → A) where
    -- the values of registers from this one on, each as it is changed
    abbrev pub changed : ℕ → List A → List A
    changed next [] = []
    changed next (x ∷ xs) = change next x ∷ changed (next + 1) xs

    -- what was opened is built anew, of the keys and of its parts, which are so many registers from this one on
    abbrev pub built_anew : Work → (first count : ℕ) → List A → List A
    built_anew (make o ns) first count table = table
    built_anew (undo o ks n) first count table = slice_set table n (m.built o (picked table ks ++ take count (drop first table)))
    built_anew (equal a b) first count table = table

    -- those of a run, changed, with all that was opened built anew around them, from the last one back
    abbrev pub renewed : List Act → List A → ℕ → List A → List A
    renewed [] table i arrivals = changed 0 table
    renewed (takes ∷ acts) table i arrivals = renewed acts table i arrivals
    renewed (draws ∷ acts) table i arrivals = renewed acts (table ++ draw i ∷ []) (i + 1) arrivals
    renewed (receives ∷ acts) table i [] = changed 0 table
    renewed (receives ∷ acts) table i (x ∷ arrivals) = renewed acts (table ++ x ∷ []) i arrivals
    renewed (sends r ∷ acts) table i arrivals = renewed acts table i arrivals
    renewed (works w ∷ acts) table i arrivals =
        on_written (worked m table w) (λ ws. built_anew w (length table) (length ws) (renewed acts (table ++ ws) i arrivals)) (changed 0 table)

    -- the arrivals with these values of registers, and those that the run doesn't use
    abbrev pub replaced : List Act → (init arrivals : List A) → List A
    replaced acts init arrivals = picked (renewed acts init 0 arrivals) (received 0 acts) ++ (exec m draw acts init 0 0 0 arrivals).left

module _ {A : Type 0} (m : Meaning A) where
  -- what changes values of registers gives values, and changes what is taken unchecked alone
  pub record ChangesUnchecked (formats : List FormatValue) (instrs : List Instr) (change : ℕ → A → A) : Type 0 where
    pub values : (n : ℕ) (x : A) → IsTrue (m.is_value x) → IsTrue (m.is_value (change n x))
    pub others : (n : ℕ) (x : A) → is_among (unchecked formats instrs) n ≡ false → change n x ≡ x

  -- Whatever the code, the initial values, the draws and the arrivals: where parts of arrivals that are taken unchecked
  -- get any other bytes, and what they were opened from is built anew around them, the run over these arrivals ends
  -- alike, and it has these bytes there.
  pub record StaysFree (formats : List FormatValue) (instrs : List Instr) (change : ℕ → A → A) (draw : ℕ → A) (init arrivals : List A) : Type 0 where
    pub course : SameCourse (exec m draw (map (act_of formats) instrs) init 0 0 0 arrivals)
        (exec m draw (map (act_of formats) instrs) init 0 0 0 (replaced m draw change (map (act_of formats) instrs) init arrivals))
    pub there : (n : ℕ) → is_among (unchecked formats instrs) n ≡ true → n < length (registers m draw (map (act_of formats) instrs) init 0 arrivals)
        → slice_get (registers m draw (map (act_of formats) instrs) init 0 (replaced m draw change (map (act_of formats) instrs) init arrivals)) n
        ≡ option_map (change n) (slice_get (registers m draw (map (act_of formats) instrs) init 0 arrivals) n)

  abbrev pub UncheckedIsFree : Type 0
  UncheckedIsFree = (formats : List FormatValue) (instrs : List Instr) (change : ℕ → A → A) (draw : ℕ → A) (init arrivals : List A)
      → HasTakes m.has (map (act_of formats) instrs) 0 (length init) → ChangesUnchecked formats instrs change
      → ((i : ℕ) → IsTrue (m.is_value (draw i))) → AreValues m init → AreValues m arrivals
      → StaysFree formats instrs change draw init arrivals

  -- so the play of a plan that the code fits ends alike over these arrivals, with as many messages
  abbrev pub PlaysStayFree : Type 0
  PlaysStayFree = (formats : List FormatValue) (instrs : List Instr) (plan : List Event) (change : ℕ → A → A) (draw : ℕ → A) (init arrivals : List A)
      → HasTakes m.has (map (act_of formats) instrs) 0 (length init) → ChangesUnchecked formats instrs change
      → ((i : ℕ) → IsTrue (m.is_value (draw i))) → AreValues m init → AreValues m arrivals
      → Fits m (map (act_of formats) instrs) plan → FreshIsNew plan → length init ≡ length (known plan)
      → (p q : Played A) → Play m draw plan init arrivals p → Play m draw plan init (replaced m draw change (map (act_of formats) instrs) init arrivals) q
      → SameCourse p q
