use Rattle.std.proofs.Common.{◌≡◌, ℕ, List, None, refl, sym, ◌∙◌, subst}
use Rattle.anb_protocol.specs.Protocols.{role_named}
use Rattle.anb_command.proofs.Preparing.{fails_by}
use Rattle.anb_command.proofs.playable.role_named.Goals as goal

pub returns-in-None-clause-refused : goal.returns-in-None-clause-refused
returns-in-None-clause-refused c =
    fails_by _ _ _ (refl, subst (λ (n : List ℕ). role_named c.args.protocol.now n ≡ None) (c.as_bytes.ensures.value ∙ c.as_str.ensures) (sym c.in-None.ensures.value)) c.no_role.ensures
