use Rattle.std.proofs.Common.{◌≡◌, ◌+◌, [], List, Option, ℕ, length, take, drop}
use Rattle.std.specs.Prelude.{not}
use Rattle.anb_protocol.specs.Choices.{first_after, refuse_if}
use Rattle.anb_protocol.specs.Protocols.{ProtocolValue}
use Rattle.anb_choice.specs.Lawful.{are_same_names}
use Rattle.anb_choice.proofs.alike.other_roles.Given as goal

abbrev pub other : List (List ℕ) → List ProtocolValue → ProtocolValue → Option ℕ
other roles before p = refuse_if (not (are_same_names roles p.roles)) (length before + 1)

abbrev pub invariant-loop-i : goal.invariant-loop-i
invariant-loop-i l = first_after (other l.roles) (take l.i l.b.arms.items) (drop l.i l.b.arms.items) ≡ first_after (other l.roles) [] l.b.arms.items
