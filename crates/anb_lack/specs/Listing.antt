-- For proofs alone: parts that are listed, each once.
use Rattle.std.specs.Prelude.{◌≡◌, ◌||◌, ℕ, List, filter, slice_get, Some, Bool}
use Rattle.anb_term.specs.Tree.{Tree, tree_eqb}
use Rattle.anb_protocol.specs.Names.{distinct}
use Rattle.anb_reason.specs.Decided.{composes, is_among}
use Rattle.anb_lack.specs.Parts.{lacks}

-- The flags tell of each term whether it composes, or is one of the lacking among those that were seen;
-- and these are listed.
pub record IsListing (S ts : List Tree) (flags : List Bool) (seen so_far : List Tree) : Type 0 where
  pub told : (n : ℕ) (u : Tree) → slice_get ts n ≡ Some u → slice_get flags n ≡ Some (composes S u || is_among (filter (lacks S) seen) u)
  pub listed : so_far ≡ distinct tree_eqb (filter (lacks S) seen)
