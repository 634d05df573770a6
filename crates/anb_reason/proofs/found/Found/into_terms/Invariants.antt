use Rattle.std.proofs.Common.{◌≡◌, ◌+◌, ◌++◌, map, length}
use Rattle.anb_term.specs.View.{tree_of}
use Rattle.anb_reason.specs.Found.{trees_in}
use Rattle.anb_reason.proofs.found.Found.into_terms.Given as goal

abbrev pub invariant-loop-k : goal.invariant-loop-k
invariant-loop-k l = record {
  terms : trees_in l.initial.self ≡ map tree_of l.terms.items ++ trees_in l.self;
  left : length l.self.terms.entries + l.k ≡ length l.initial.self.terms.entries;
}
