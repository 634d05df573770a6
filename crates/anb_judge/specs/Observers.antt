-- For proofs alone: the plan of who sees a role, as events with the numbers of their actions.
use Rattle.std.specs.Prelude.{◌≡◌, ℕ, List, [], ◌∷◌, Bool}
use Rattle.anb_compile.specs.Emitting.{Emits, context_of}
use Rattle.anb_compile.specs.RoleCodes.{role_code}
use Rattle.anb_code.specs.CodeValue.{CodeValue}
use Rattle.anb_code.specs.Taking.{take_texts}
use Rattle.anb_machine.specs.declared.turn.Turn.{Turn}
use Rattle.anb_machine.specs.declared.turn.Turn.TheVariants as turn
use Rattle.anb_plays.specs.Plays.{stopped, waiting, done}
use Rattle.anb_protocol.specs.Plans.{PlanEvent, to_know, to_make, to_send, to_receive, plan_of}
use Rattle.anb_protocol.specs.Protocols.{ProtocolValue}
use Rattle.anb_protocol.specs.Texts.{known_texts}
use Rattle.anb_transcript.specs.declared.following.ReplayEnd.{ReplayEnd}
use Rattle.anb_judge.specs.Verdicts.{verdict}

-- it makes nothing, and hears what the role says
abbrev pub seen : List PlanEvent → List PlanEvent
seen [] = []
seen (to_know t ∷ es) = to_know t ∷ seen es
seen (to_make t ∷ es) = seen es
seen (to_send action t ∷ es) = to_receive action t ∷ seen es
seen (to_receive action t ∷ es) = to_receive action t ∷ seen es

-- a code for it
pub record Sees (p : ProtocolValue) (role : ℕ) (code : CodeValue) : Type 0 where
  pub names : code ≡ role_code p role code.instrs
  pub texts : take_texts code.instrs ≡ known_texts p role
  pub emits : Emits (context_of p (seen (plan_of p role))) (seen (plan_of p role)) code.instrs

-- the answer by the turn that comes behind the lines in place. Who sees a role says nothing
abbrev pub IsVerdict : List Bool → (lines : ℕ) → Turn → ReplayEnd → Type 0
IsVerdict sides lines (turn.Message b) end = ⊥
IsVerdict sides lines (turn.Wants event) end = end ≡ verdict sides lines (waiting event)
IsVerdict sides lines turn.Done end = end ≡ verdict sides lines done
IsVerdict sides lines (turn.Stopped halt) end = end ≡ verdict sides lines (stopped halt.event halt.at)
IsVerdict sides lines turn.NoMemory end = ⊥
