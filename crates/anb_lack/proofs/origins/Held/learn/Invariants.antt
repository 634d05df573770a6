use Rattle.std.proofs.Common.{◌≡◌, ◌+◌, ◌++◌, length, ℕ}
use Rattle.std.specs.Prelude.{replicate}
use Rattle.anb_lack.proofs.origins.Held.learn.Given as goal

abbrev pub invariant-loop-k : goal.invariant-loop-k
invariant-loop-k l = record {
  closure : l.self.closure ≡ l.initial.self.closure;
  came : (n : ℕ) × (l.k ≡ length l.initial.self.from.items + n) × (l.self.from.items ≡ l.initial.self.from.items ++ replicate n l.origin);
}
