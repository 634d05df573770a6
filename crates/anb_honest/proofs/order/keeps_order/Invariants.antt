use Rattle.std.proofs.Common.{◌≡◌, ◌≤◌, List, length, map, take}
use Rattle.std.specs.Prelude.{filter_map}
use Rattle.anb_format.specs.Formats.{FormatValue}
use Rattle.anb_code.specs.Meaning.{act_of}
use Rattle.anb_honest.specs.Kinds.{kind_of, kinds_of}
use Rattle.anb_honest.proofs.order.keeps_order.Given as goal

abbrev pub invariant-loop-instr : goal.invariant-loop-instr
invariant-loop-instr l = record {
  within : l.next ≤ length l.events;
  same : (formats : List FormatValue) → filter_map kind_of (map (act_of formats) (take l.instr-index l.instrs)) ≡ take l.next (kinds_of l.events);
}
