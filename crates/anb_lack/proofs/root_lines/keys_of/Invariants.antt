use Rattle.std.proofs.Common.{◌≡◌, ◌++◌, drop, map}
use Rattle.anb_term.specs.View.{tree_of}
use Rattle.anb_lack.specs.Rooted.{root_value}
use Rattle.anb_lack.specs.Roots.{RootValue}
use Rattle.anb_lack.proofs.root_lines.keys_of.Given as goal

abbrev pub invariant-loop-root : goal.invariant-loop-root
invariant-loop-root l = map tree_of l.keys.items ++ map (λ (r : RootValue). r.key) (map root_value (drop l.root-index l.roots)) ≡ map (λ (r : RootValue). r.key) (map root_value l.roots)
