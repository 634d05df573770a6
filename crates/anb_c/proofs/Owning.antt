-- A session beside its code is that session over the code.
use Rattle.std.proofs.Common.{◌≡◌, Bool, true, false, refl, sym, ap, ◌∙◌, subst}
use Rattle.std.specs.Prelude.{IfSome}
use Rattle.anb_code.specs.CodeValue.{CodeValue}
use Rattle.anb_machine.specs.Machines.{answer}
use Rattle.anb_machine.specs.declared.turn.Turn.{Turn}
use Rattle.anb_park.specs.Lives.{LiveValue}
use Rattle.anb_park.specs.Resting.{IsRestOf, session_of}
use Rattle.anb_park.specs.declared.rest.LiveRest.{LiveRest}

-- its machine's code is the code
code_of : (code : CodeValue) (rest : LiveRest) → (session_of code rest).machine.code ≡ code
code_of code rest = by rest.failed refl where
  by : (b : Bool) → rest.failed ≡ b → (session_of code rest).machine.code ≡ code
  by true e = rw e refl
  by false e = rw e refl

-- after a call that leaves the code
module _ (code : CodeValue) (rest : LiveRest) (old new : LiveValue) (over : old ≡ session_of code rest) (stays : new.machine.code ≡ old.machine.code) where
  same : new.machine.code ≡ code
  same = stays ∙ ap (λ (v : LiveValue). v.machine.code) over ∙ code_of code rest

  pub still_rest : (now : LiveRest) → IsRestOf new.machine.code now → IsRestOf code now
  still_rest now is = subst (λ (c : CodeValue). IsRestOf c now) same is

  pub still_is : (now : LiveRest) → session_of new.machine.code now ≡ new → session_of code now ≡ new
  still_is now is = ap (λ (c : CodeValue). session_of c now) (sym same) ∙ is

-- a turn that comes again leaves the session, also beside its code
pub still_again : (old over new now : LiveValue) (turn : Turn) → over ≡ old → now ≡ new → IfSome (answer over.machine) (λ (due : Turn). (turn ≡ due) × (new ≡ over)) → IfSome (answer old.machine) (λ (due : Turn). (turn ≡ due) × (now ≡ old))
still_again old over new now turn same is again =
    subst (λ (v : LiveValue). IfSome (answer old.machine) (λ (due : Turn). (turn ≡ due) × (v ≡ old))) (sym is)
    (subst (λ (v : LiveValue). IfSome (answer v.machine) (λ (due : Turn). (turn ≡ due) × (new ≡ v))) same again)
