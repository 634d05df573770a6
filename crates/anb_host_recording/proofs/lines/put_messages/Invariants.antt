use Rattle.std.proofs.Common.{◌≡◌, ◌++◌, take}
use Rattle.std.specs.List.{AllByRecursion, flat_map}
use Rattle.anb_recording.specs.Lines.{IsPlain, lines_text}
use Rattle.anb_host_recording.specs.Entries.{line_out}
use Rattle.anb_host_recording.proofs.lines.put_messages.Given as goal

abbrev pub invariant-loop-notice : goal.invariant-loop-notice
invariant-loop-notice l = record {
  put : l.out.items ≡ l.fn.out.items ++ lines_text (flat_map line_out (take l.notice-index l.told));
  plain : AllByRecursion IsPlain (flat_map line_out (take l.notice-index l.told));
}
