use Rattle.std.proofs.Common.{◌≡◌, ◌<◌, ◌^◌, ◌++◌, ◌∷◌, List, ℕ, length, map, drop}
use Rattle.std.specs.List.{AllByRecursion}
use Rattle.anb_protocol.specs.Choices.{first}
use Rattle.anb_protocol.specs.Names.{used_name}
use Rattle.anb_protocol.specs.Checks.{above}
use Rattle.anb_protocol.specs.declared.refusals.Kind.TheVariants.{Name}
use Rattle.anb_protocol.specs.Views.{pointed}
use Rattle.anb_resolve.specs.Uses.{use_of}
use Rattle.anb_resolve.proofs.limits.name_limit.Given as goal

abbrev pub invariant-loop-name : goal.invariant-loop-name
invariant-loop-name l = record {
  few : AllByRecursion (λ (x : List ℕ). length x < 2 ^ 32) (pointed (drop l.name-index l.declared) ++ map used_name (map use_of l.uses));
  same : first (λ (x : List ℕ). above 64 Name (length x)) (pointed (drop l.name-index l.declared) ++ map used_name (map use_of l.uses)) ≡ first (λ (x : List ℕ). above 64 Name (length x)) (l.title ∷ pointed l.declared ++ map used_name (map use_of l.uses));
}

abbrev pub invariant-loop-used : goal.invariant-loop-used
invariant-loop-used l = record {
  few : AllByRecursion (λ (x : List ℕ). length x < 2 ^ 32) (map used_name (map use_of (drop l.used-index l.uses)));
  same : first (λ (x : List ℕ). above 64 Name (length x)) (map used_name (map use_of (drop l.used-index l.uses))) ≡ first (λ (x : List ℕ). above 64 Name (length x)) (l.title ∷ pointed l.declared ++ map used_name (map use_of l.uses));
}
