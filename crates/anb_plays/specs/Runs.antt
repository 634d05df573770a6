-- What comes of a code, for initial values, draws and arrivals.
use Rattle.std.specs.Prelude.{ℕ, ◌+◌, List, [], ◌∷◌, ◌++◌, length, Option, Some, None, if◌then◌else◌}
use Rattle.anb_term.specs.Value.{Meaning, RecipeTree, label, value}
use Rattle.anb_term.specs.Demand.{all_hold}
use Rattle.anb_plays.specs.Plays.{End, stopped, waiting, done, Played, ends, says}
use Rattle.anb_plays.specs.Codes.{Act, takes, draws, receives, sends, works, at_register, writes, demands}

-- a message, where there is one
abbrev pub says_if : {A : Type 0} → Option A → Played A → Played A
says_if None p = p
says_if (Some b) p = says b p

module _ {A : Type 0} (m : Meaning A) (draw : ℕ → A) where
  -- what these acts give, with the recipes of the registers written and the values of the labels, after e sends and receives,
  -- `at` instructions and i draws. Instructions are numbered from 1
  abbrev pub run_from : List Act → List RecipeTree → List A → ℕ → ℕ → ℕ → List A → Played A
  run_from [] regs vs e at i arrivals = ends done arrivals
  run_from (takes ∷ acts) regs vs e at i arrivals = run_from acts (regs ++ label (length regs) ∷ []) vs e (at + 1) i arrivals
  run_from (draws ∷ acts) regs vs e at i arrivals = run_from acts (regs ++ label (length vs) ∷ []) (vs ++ draw i ∷ []) e (at + 1) (i + 1) arrivals
  run_from (receives ∷ acts) regs vs e at i [] = ends (waiting (e + 1)) []
  run_from (receives ∷ acts) regs vs e at i (x ∷ arrivals) = run_from acts (regs ++ label (length vs) ∷ []) (vs ++ x ∷ []) (e + 1) (at + 1) i arrivals
  run_from (sends n ∷ acts) regs vs e at i arrivals = says_if (value m vs (at_register regs n)) (run_from acts regs vs (e + 1) (at + 1) i arrivals)
  run_from (works w ∷ acts) regs vs e at i arrivals =
      if all_hold m vs (demands regs w) then run_from acts (regs ++ writes regs w) vs e (at + 1) i arrivals else ends (stopped e (at + 1)) arrivals

  -- the run of a code
  abbrev pub run : List Act → List A → List A → Played A
  run code init arrivals = run_from code [] init 0 0 0 arrivals

-- as plays tell it, which say nothing of instructions
abbrev pub no_place : End → End
no_place (stopped e at) = stopped e 0
no_place (waiting e) = waiting e
no_place done = done

abbrev pub without_place : {A : Type 0} → Played A → Played A
without_place p = record p { end = no_place p.end }
