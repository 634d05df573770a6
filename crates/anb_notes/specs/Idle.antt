-- New names of a role on which nothing depends that it takes afterwards.
use Rattle.std.specs.Prelude.{◌≡◌, ℕ, ◌==◌, List, [], ◌∷◌, ◌++◌, filter, Bool, true, false, codes}
use Rattle.std.specs.List.{list_any}
use Rattle.anb_term.specs.Tree.{Tree}
use Rattle.anb_pattern.specs.Taken.{TakenValue, with_lines}
use Rattle.anb_pattern.specs.Variables.{count_in_each}
use Rattle.anb_protocol.specs.Plans.{PlanEvent, to_know, to_make, to_send, to_receive, plan_of}
use Rattle.anb_protocol.specs.Protocols.{ProtocolValue}
use Rattle.anb_accept.specs.Roles.{ArePatternsOf}
use Rattle.anb_stranger.specs.Texts.{IsAllSaidOf, names_text}
use Rattle.anb_notes.specs.Places.{made_if}

abbrev pub receives : PlanEvent → Bool
receives (to_know t) = false
receives (to_make t) = false
receives (to_send action t) = false
receives (to_receive action t) = true

-- the names that are made before something is received
abbrev pub awaiting : List PlanEvent → List ℕ
awaiting [] = []
awaiting (e ∷ es) = made_if (list_any receives es) e ++ awaiting es

abbrev pub stands_in_none : List Tree → ℕ → Bool
stands_in_none patterns x = count_in_each x patterns == 0

-- those that none of these patterns has
abbrev pub idle : List Tree → List PlanEvent → List ℕ
idle patterns plan = filter (stands_in_none patterns) (awaiting plan)

abbrev pub idle_text : ProtocolValue → List ℕ → List ℕ
idle_text p names = codes "  nothing that it takes afterwards depends on: " ++ (names_text p 0 names ++ 10 ∷ [])

-- where there are any
abbrev pub idle_line : ProtocolValue → List ℕ → List ℕ
idle_line p [] = []
idle_line p (x ∷ xs) = idle_text p (x ∷ xs)

-- What is said of a role, and last the new names that none of its patterns has, where it receives something after it
-- made them.
pub record IsNotedOf (p : ProtocolValue) (role : ℕ) (said : TakenValue) : Type 0 where
  pub before : TakenValue
  pub says : IsAllSaidOf p role before
  pub patterns : List Tree
  pub are : ArePatternsOf p role patterns
  pub is : said ≡ with_lines before (idle_line p (idle patterns (plan_of p role)))
