-- Where a machine stands at the end of a turn.
use Rattle.std.proofs.Common.{◌≡◌, ◌⊎◌, ℕ, List, [], inl, inr, sym, subst}
use Rattle.anb_machine.specs.Machines.{MachineValue, gives}
use Rattle.anb_plays.specs.Plays.{ends, waiting}
use Rattle.anb_session.specs.declared.PlayEnd.{PlayEnd}
use Rattle.anb_session.specs.declared.PlayEnd.TheVariants.{Done, Stopped, Waiting, Truncated, TooLarge, ReadFault, WriteFault, NoMemory}
use Rattle.anb_session.specs.Standing.{ComesOf, StandsAt}

-- a message wasn't sent
pub stands_unsent : (machine : MachineValue) (end : PlayEnd) → (end ≡ WriteFault) ⊎ (end ≡ NoMemory) → StandsAt machine end
stands_unsent machine end (inl is) = rw is tt
stands_unsent machine end (inr is) = rw is tt

-- an arrival wasn't taken
pub stands_waiting : (machine : MachineValue) (event : ℕ) (end : PlayEnd) → gives machine [] ≡ ends (waiting event) [] → ComesOf event end → StandsAt machine end
stands_waiting machine event Done next never = absurd never
stands_waiting machine event (Stopped halt) next never = absurd never
stands_waiting machine event (Waiting e) next is = subst (λ (n : ℕ). gives machine [] ≡ ends (waiting n) []) (sym is) next
stands_waiting machine event (Truncated have need) next is = tt
stands_waiting machine event (TooLarge len) next is = tt
stands_waiting machine event ReadFault next is = tt
stands_waiting machine event WriteFault next is = tt
stands_waiting machine event NoMemory next is = tt
