use Rattle.std.proofs.Common.{◌≡◌, ◌+◌, ◌++◌, length, ◌-◌, List, map, drop}
use Rattle.anb_term.specs.View.{tree_of}
use Rattle.anb_term.specs.Operator.{keys}
use Rattle.anb_close.specs.declared.entry.Entry.{Entry}
use Rattle.anb_close.specs.Entries.{rows, terms_of, is_double, part_entries, Extends, HasTouched}
use Rattle.anb_close.proofs.growth.Growth.push_parts.Given as goal

abbrev pub invariant-loop-j : goal.invariant-loop-j
invariant-loop-j l =
    let k = keys l.op in
    record {
      doubles : l.self.doubles.items ≡ map is_double (rows l.self.entries.items);
      indexed : l.self.index.0 ≡ terms_of l.self.entries.items;
      touched : HasTouched l.initial.self.entries.items l.initial.touched.items l.self.entries.items l.touched.items;
      more : List Entry;
      count : k + length more ≡ l.j;
      so_far : more ++ part_entries l.op l.keys l.of (l.j - k) (drop l.j (map tree_of l.operands)) ≡ part_entries l.op l.keys l.of 0 (drop k (map tree_of l.operands));
      extends : Extends l.initial.self.entries.items l.initial.self.firsts.items l.self.entries.items l.self.firsts.items more;
    }
