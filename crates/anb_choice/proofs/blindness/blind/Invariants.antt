use Rattle.std.proofs.Common.{◌≡◌, ℕ, List, drop, Option}
use Rattle.std.specs.Option.{option_map}
use Rattle.anb_protocol.specs.Choices.{first}
use Rattle.anb_choice.specs.Lawful.{BranchedValue, blind_in, roles_in}
use Rattle.anb_choice.specs.Views.{branched_of}
use Rattle.anb_choice.proofs.blindness.blind.Given as goal

abbrev pub blind_at : BranchedValue → List ℕ → Option (List ℕ × ℕ)
blind_at b role = option_map (λ arm. (role, arm)) (blind_in b role)

abbrev pub invariant-loop-role : goal.invariant-loop-role
invariant-loop-role l = first (blind_at (branched_of l.b)) (drop l.role-index (roles_in (branched_of l.b))) ≡ first (blind_at (branched_of l.b)) (roles_in (branched_of l.b))
