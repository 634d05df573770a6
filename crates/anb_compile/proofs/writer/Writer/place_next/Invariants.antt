use Rattle.std.proofs.Common.{◌≡◌, ◌+◌, ◌++◌}
use Rattle.std.specs.List.{range_with_len}
use Rattle.anb_compile.proofs.writer.Writer.place_next.Given as goal

abbrev pub invariant-loop-done : goal.invariant-loop-done
invariant-loop-done l = record {
  code : l.self.code ≡ l.fn.self.code;
  built : l.self.built ≡ l.fn.self.built;
  next : l.self.next ≡ l.fn.self.next + l._done;
  places : l.self.places.items ≡ l.fn.self.places.items ++ range_with_len l.fn.self.next l._done;
}
