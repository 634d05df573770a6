use Rattle.std.proofs.Common.{◌≡◌, ◌∙◌, ap, arith, length}
use Rattle.anb_term.specs.View.{tree_of}
use Rattle.anb_close.specs.Rows.{made_for, row_unless, rows_of}
use Rattle.anb_close.specs.Entries.{is_double}
use Rattle.anb_close.proofs.Finding.{doubles_last, doubles_back}
use Rattle.anb_close.specs.declared.entry.Entry.{Entry}
use Rattle.anb_close.proofs.Pushing.{indexed_more}
use Rattle.anb_close.proofs.Due.{touched_rows}
use Rattle.anb_close.proofs.growth.Growth.push.Goals as goal

pub returns-in-Ok-clause-doubles : goal.returns-in-Ok-clause-doubles
returns-in-Ok-clause-doubles c =
    let t = tree_of c.args.term in
    let double = c.in_ok-double.ensures.double ∙ ap (λ l. is_double (row_unless (made_for (rows_of l) t) t)) c.requires.indexed in
    doubles_last c.args.self.now.entries.items _ c.args.self.now.doubles.items _ c.in_ok-double.double (record { origin = c.args.origin; term = c.args.term }) c.requires.doubles double c.in-Ok.ensures.double c.in-Ok.ensures.ok.entries

pub returns-clause-doubles : goal.returns-clause-doubles
returns-clause-doubles c =
    let at : c.len-at.result ≡ length c.args.self.now.entries.items = omega (arith, c.len-at.ensures, c.args.self.now.entries.ok.0) in
    doubles_back c.args.self.now.entries.items _ c.args.self.now.doubles.items _ c.truncate.new.self.items c.len-at.result c.requires.doubles at c.truncate.ensures.items c.in-Err.ensures.doubles c.in-Err.ensures.err

pub returns-in-Ok-clause-touched : goal.returns-in-Ok-clause-touched
returns-in-Ok-clause-touched c =
    let es = c.args.self.now.entries.items in
    let e : Entry = record { origin = c.args.origin; term = c.args.term } in
    let is' = indexed_more es c.push_row.new.self.entries.items e c.args.self.now.index.0 c.push.new.self.0 c.requires.indexed c.in_ok-double.ensures.ok c.in-Ok.ensures.ok.entries in
    touched_rows es c.push_row.new.self.entries.items c.args.self.now.index.0 c.push.new.self.0 c.args.touched.now.items c.push.new.touched.items c.requires.indexed is' c.in_ok-double.ensures.touched
