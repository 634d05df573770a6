use Rattle.std.proofs.Common.{◌≡◌, ◌++◌, ◌+◌, length, drop}
use Rattle.anb_stage.specs.Memory.{fresh_children}
use Rattle.anb_stage.proofs.memory.MemSpawner.new.Given as goal

abbrev pub invariant-loop-output : goal.invariant-loop-output
invariant-loop-output l = record {
  children : l.children.items ++ fresh_children l.fn.room l.output-iterator.rest.items (drop (length l.children.items) l.fn.statuses.items)
      ≡ fresh_children l.fn.room l.fn.outputs.items l.fn.statuses.items;
  counts : length l.children.items + length l.output-iterator.rest.items ≡ length l.fn.outputs.items;
  left : l.output-iterator.rest.len ≡ length l.output-iterator.rest.items;
}
