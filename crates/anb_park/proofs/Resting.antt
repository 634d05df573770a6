-- A session that was taken apart from its code is the same over it.
use Rattle.std.proofs.Common.{◌≡◌, Bool, true, false, refl, sym, ap, ◌∙◌, subst}
use Rattle.anb_code.specs.CodeValue.{CodeValue}
use Rattle.anb_machine.specs.Machines.{MachineValue}
use Rattle.anb_machine.specs.Resting.{machine_of}
use Rattle.anb_machine.specs.Resting as machine
use Rattle.anb_machine.specs.declared.rest.Rest.{Rest}
use Rattle.anb_park.specs.declared.live.Live.TheInside.{Inside}
use Rattle.anb_park.specs.declared.rest.LiveRest.{LiveRest}
use Rattle.anb_park.specs.Inside.{live_of}
use Rattle.anb_park.specs.Lives.{LiveValue}
use Rattle.anb_park.specs.Resting.{IsRestOf, session_of}

-- its code is that of its machine
code_is : (l : Inside) (v : LiveValue) → live_of l ≡ v → l.machine.code ≡ v.machine.code
code_is l v is = by l.failed refl ∙ ap (λ (x : LiveValue). x.machine.code) is where
  by : (b : Bool) → l.failed ≡ b → l.machine.code ≡ (live_of l).machine.code
  by true e = rw e refl
  by false e = rw e refl

abbrev pub rest_of : Inside → Rest → LiveRest
rest_of l rest = record { machine = rest; body = l.body; failed = l.failed }

pub rests : (l : Inside) (v : LiveValue) (rest : Rest) → live_of l ≡ v → machine.IsRestOf l.machine.code rest → IsRestOf v.machine.code (rest_of l rest)
rests l v rest is h = subst (λ (code : CodeValue). machine.IsRestOf code rest) (code_is l v is) h

pub session_is : (l : Inside) (v : LiveValue) (rest : Rest) → live_of l ≡ v → machine_of l.machine.code rest ≡ l.machine → session_of v.machine.code (rest_of l rest) ≡ v
session_is l v rest is h =
    let there : session_of v.machine.code (rest_of l rest) ≡ session_of l.machine.code (rest_of l rest) = ap (λ (code : CodeValue). session_of code (rest_of l rest)) (sym (code_is l v is)) in
    let same : session_of l.machine.code (rest_of l rest) ≡ live_of l = ap (λ (m : MachineValue). live_of (record { machine = m; body = l.body; failed = l.failed })) h in
    there ∙ same ∙ is
