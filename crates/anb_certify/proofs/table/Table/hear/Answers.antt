use Rattle.std.proofs.Common.{◌∷◌, []}
use Rattle.anb_intern.specs.Nodes.{operands_at}
use Rattle.anb_term.specs.View.{tree_of}
use Rattle.anb_certify.specs.Numbered.{did_in}
use Rattle.anb_certify.specs.Progress.{found_in}
use Rattle.anb_certify.proofs.Progressing.{registers_come}
use Rattle.anb_certify.proofs.Tabling.{one_more}
use Rattle.anb_certify.proofs.table.Table.hear.Goals as goal

pub returns-clause-table : goal.returns-clause-table
returns-clause-table c =
    let s = c.args.self.now in
    let m = c.in_ok-id.ensures.more in
    let t = tree_of c.args.term.now in
    let more = one_more s.pool c.put_term.new.self m.more s.ids.items c.push.new.self.items c.in_ok-id.id t m.is c.requires.under c.in_ok-id.ensures.stored c.in_ok-push.ensures.items in
    record {
      under = more.0;
      progress = registers_come s.ids.items c.push.new.self.items (c.in_ok-id.id ∷ []) (operands_at s.pool s.ids.items) _ (t ∷ []) (did_in s) (found_in s.progress) c.in_ok-push.ensures.items more.1 c.requires.progress;
    }

pub returns-clause-terms : goal.returns-clause-terms
returns-clause-terms c =
    let s = c.args.self.now in
    let m = c.in_ok-id.ensures.more in
    (one_more s.pool c.put_term.new.self m.more s.ids.items c.push.new.self.items c.in_ok-id.id (tree_of c.args.term.now) m.is c.requires.under c.in_ok-id.ensures.stored c.in_ok-push.ensures.items).1
