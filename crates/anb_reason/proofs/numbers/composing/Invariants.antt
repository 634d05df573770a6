use Rattle.std.proofs.Common.{◌≡◌, map, take, length, List}
use Rattle.anb_term.specs.Tree.{Tree}
use Rattle.anb_reason.specs.Decided.{is_among, composes}
use Rattle.anb_reason.proofs.numbers.composing.Given as goal

abbrev pub invariant-loop-n : goal.invariant-loop-n
invariant-loop-n l = record {
  long : length l.flags.items ≡ l.n;
  step : (S : List Tree) → l.marks ≡ map (is_among S) l.pool → l.flags.items ≡ map (composes S) (take l.n l.pool);
}
