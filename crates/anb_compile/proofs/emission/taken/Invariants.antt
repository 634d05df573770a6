use Rattle.std.proofs.Common.{◌≡◌, ◌+◌, ℕ, List, None, [], map, length}
use Rattle.anb_compile.specs.Sharing.{register_at}
use Rattle.anb_code.specs.declared.instr.Instr.TheVariants.{Take}
use Rattle.anb_compile.proofs.emission.taken.Given as goal

abbrev pub invariant-loop-text : goal.invariant-loop-text
invariant-loop-text l = record {
  code : l.writer.code.items ≡ map Take l.yielded;
  next : l.writer.next ≡ length l.yielded;
  left : length l.yielded + length l.text-iterator.rest.items ≡ length l.fn.texts.items;
  places : l.writer.places.items ≡ [];
  built : (keys : List ℕ) → register_at l.writer.built keys ≡ None;
}
