-- The terms of registers, while a code is walked along a plan.
use Rattle.std.specs.Prelude.{◌≡◌, ℕ, List, ◌∷◌, ◌++◌, length, map, drop, Some}
use Rattle.anb_base.specs.declared.content.Suite.{Suite}
use Rattle.anb_format.specs.Formats.{FormatValue}
use Rattle.anb_term.specs.declared.term.Term.{Term}
use Rattle.anb_term.specs.Tree.{Tree}
use Rattle.anb_term.specs.Value.{values, recipe_trees}
use Rattle.anb_term.specs.FreeAlgebra.{terms_over}
use Rattle.anb_term.specs.View.{tree_of}
use Rattle.anb_algebra.specs.ByteMeaning.{byte_meaning, has_operator}
use Rattle.anb_plays.specs.Plans.{Event, known}
use Rattle.anb_plays.specs.Codes.{Act, takes, Work}
use Rattle.anb_plays.specs.Exec.{HasTakes, worked}
use Rattle.anb_plays.specs.Fits.{Place, Along, AnySend, AnyBorder, IsSound}
use Rattle.anb_protocol.specs.declared.plans.Event as code
use Rattle.anb_protocol.specs.Plays.{event_of}
use Rattle.anb_protocol.specs.Views.{plan_event}
use Rattle.anb_compile.specs.Registers.{recipes_after, register_recipes, later_labels, all_labels}

-- A place in a code, with the acts and the events that are left. What they demand is true, each register so far has its term,
-- and what was not taken yet is what is known next.
pub record Walked (formats : List FormatValue) (suite : Suite) (plan : List Event) (all acts : List Act) (es : List Event) (terms : List Tree) : Type 0 where
  pub place : Place
  pub sound : Along AnySend (IsSound (byte_meaning formats suite)) AnyBorder acts es place
  pub have : values (terms_over (has_operator formats)) place.frame (recipe_trees place.regs) ≡ Some terms
  pub labels : place.frame ++ later_labels es ≡ all_labels plan
  pub recipes : recipes_after acts place.regs (length place.frame) ≡ register_recipes all
  pub count : ℕ
  pub ready : HasTakes (has_operator formats) acts (length terms) count
  pub takes_next : (later : List Act) → acts ≡ takes ∷ later → drop (length terms) place.frame ≡ known es

-- the same of events and terms as the code has them
abbrev pub HasWalked : List FormatValue → Suite → List Event → List Act → List Act → List code.Event → List Term → Type 0
HasWalked formats suite plan all acts events terms = Walked formats suite plan all acts (map event_of (map plan_event events)) (map tree_of terms)

-- what a work writes over registers with these terms
abbrev pub Writes : List FormatValue → Work → List Term → List Tree → Type 0
Writes formats w terms ts = worked (terms_over (has_operator formats)) (map tree_of terms) w ≡ Some ts
