use Rattle.std.proofs.Common.{◌≡◌, ◌-◌, ◌++◌, ◌∷◌, [], List, length, map}
use Rattle.std.specs.List.{AllByRecursion}
use Rattle.anb_close.specs.declared.entry.Entry.{Entry}
use Rattle.anb_close.specs.declared.entry.Origin.TheVariants.{Label}
use Rattle.anb_close.specs.Entries.{rows, terms_of, is_double, labels_of, IsGrown, GoesBack, IsPart, HasTouched, AreDue}
use Rattle.anb_term.specs.Tree.{nodes}
use Rattle.anb_close.proofs.growth.Growth.grow.Given as goal

abbrev pub invariant-worklist : goal.invariant-worklist
invariant-worklist l =
    let es = l.fn.self.entries.items in
    record {
      doubles : l.self.doubles.items ≡ map is_double (rows l.self.entries.items);
      indexed : l.self.index.0 ≡ terms_of l.self.entries.items;
      back : GoesBack es l.fn.self.firsts.items l.self.entries.items l.self.firsts.items;
      grown : IsGrown l.self.entries.items l.self.firsts.items;
      parts : List Entry;
      are : AllByRecursion IsPart parts;
      is : l.self.entries.items ≡ es ++ record { origin = Label (length (labels_of es)); term = l.t } ∷ parts;
      touched : HasTouched es [] l.self.entries.items l.touched.items;
      due : AreDue l.self.entries.items l.self.firsts.items l.touched.items l.from;
    }

abbrev pub decreases-worklist : goal.decreases-worklist
decreases-worklist l = nodes (labels_of l.self.entries.items) - length l.self.entries.items
