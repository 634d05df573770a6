use Rattle.std.proofs.Common.{ℕ, List, sym, ◌∙◌, subst}
use Rattle.std.specs.Prelude.{◌≢◌, AllPairs}
use Rattle.anb_values_commands.proofs.owning.values_for.Goals as goal

pub values_in_file-requires : goal.values_in_file-requires
values_in_file-requires g c =
    subst (λ (names : List (List ℕ)). AllPairs (λ (one other : List ℕ). one ≢ other) names) (sym (c.deref.ensures.value ∙ c.in-Ok.ensures))
    (c.known_names_differ.ensures c.args.protocol.now c.name.ensures.protocol)
