use Rattle.std.proofs.Common.{◌≡◌, ◌+◌, ◌++◌, [], take, drop}
use Rattle.anb_value_mistakes.specs.Mistakes.{label_texts, labels_of}
use Rattle.anb_value_mistakes.proofs.labels.put_label_texts.Given as goal

abbrev pub invariant-loop-i : goal.invariant-loop-i
invariant-loop-i l = record {
  labels : l.before ≡ labels_of (take l.i l.reads);
  text : l.out.items ++ label_texts l.name l.names (l.i + 1) l.before (drop l.i l.reads) ≡ l.fn.out.items ++ label_texts l.name l.names 1 [] l.reads;
}
