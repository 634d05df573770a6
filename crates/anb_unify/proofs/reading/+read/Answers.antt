-- A term and its operands.
use Rattle.std.proofs.Common.{◌≡◌, suc, ◌<◌, length, map, get_or, sym, ap, ◌∙◌, subst, arith}
use Rattle.anb_lemmas.proofs.Lists.{got_within, item_at}
use Rattle.anb_term.specs.Tree.{node, trees_of, tree_size, trees_size}
use Rattle.anb_term.specs.TreeSame.{list_of-trees_of}
use Rattle.anb_term.specs.View.{tree_of}
use Rattle.anb_term.proofs.Lists.{one_size, slice_get-there, slice_get-map}
use Rattle.anb_intern.specs.declared.node.NodeId.{NodeId}
use Rattle.anb_intern.specs.Nodes.{operands_at, AreUnder, IsOver}
use Rattle.anb_intern.proofs.Nodes.{under_more}
use Rattle.anb_unify.specs.Substitutions.{put_in}
use Rattle.anb_unify.proofs.Steps.{got}
use Rattle.anb_unify.proofs.Readings.{roots_within, root_is, atom_read, operands_put, read_more, read_whole, readable_many}
use Rattle.anb_unify.proofs.Unifying.{operand_at, operands_long, under_at, narrated_at}
use Rattle.anb_unify.proofs.reading.+read.Goals as goal

pub pattern-bounds-roots-id : goal.pattern-bounds-roots-id
pattern-bounds-roots-id t c =
    let u = slice_get-there c.args.pool.now c.args.id.0 c.requires.within in
    roots_within c.args.names c.args.pool.now c.args.roots.now c.requires.readable.rep c.requires.readable.settles c.args.id.0 u.0 u.1

pub pattern-get-requires : goal.pattern-get-requires
pattern-get-requires t c =
    let u = slice_get-there c.args.pool.now c.args.id.0 c.requires.within in
    got_within c.args.pool.now (get_or c.args.roots.now c.args.id.0 (record { 0 = 0 })).0 _ (root_is c.args.names c.args.pool.now c.args.roots.now c.requires.readable.rep c.requires.readable.settles c.args.id.0 u.0 u.1 (record { 0 = 0 }))

pub pattern-patterns-requires : goal.pattern-patterns-requires
pattern-patterns-requires t c =
    let ts = c.args.pool.now in
    let p = c.requires.readable in
    let d : NodeId = record { 0 = 0 } in
    let u = slice_get-there ts c.args.id.0 c.requires.within in
    let na = rw c.in-Apply.is at c.get.ensures.stands in
    let nt : tree_of c.args.narrated.now ≡ node c.in-Node.field-0 (trees_of c.in-Node.terms) = ap tree_of c.in-Node.is in
    let size : tree_size (tree_of c.args.narrated.now) ≡ suc (trees_size (trees_of (map tree_of c.as_slice.result.now))) = ap tree_size nt ∙ ap (λ l. suc (trees_size (trees_of l))) (sym c.as_slice.ensures) in
    let oa = subst (λ k. IsOver (get_or c.args.roots.now c.args.id.0 d).0 k) c.in-Apply.is c.get.ensures.before in
    let inside = got_within ts (get_or c.args.roots.now c.args.id.0 d).0 _ na in
    let are = operands_put c.args.names c.args.pool.now c.args.roots.now p.rep p.settles c.args.id.0 u.0 u.1 p.put p.kept d c.in-Apply.op c.in-Node.field-0 (operands_at ts c.in-Apply.ids.items) (trees_of c.in-Node.terms) na (p.is u.0 u.1 ∙ nt) in (
      omega (arith, size, c.decreases),
      (
        subst (AreUnder (length ts)) (sym c.deref.ensures.value) (under_more (get_or c.args.roots.now c.args.id.0 d).0 (length ts) c.in-Apply.ids.items (omega (arith, inside)) oa),
        record {
          rep = p.rep;
          settles = p.settles;
          put = p.put;
          kept = p.kept;
          are = ap (λ l. map (put_in p.put) (operands_at ts l)) c.deref.ensures.value ∙ are ∙ list_of-trees_of c.in-Node.terms ∙ sym c.as_slice.ensures;
        },
      ),
    )

pub patterns-bounds-ids-i : goal.patterns-bounds-ids-i
patterns-bounds-ids-i t c = omega (arith, readable_many c.args.pool.now c.requires.readable.put c.args.ids.now c.args.narrated.now c.requires.readable.are)

pub patterns-pattern-requires : goal.patterns-pattern-requires
patterns-pattern-requires t c =
    let ts = c.args.pool.now in
    let p = c.requires.readable in
    let i = c.loop-i.i in
    let within : i < length c.args.narrated.now = omega arith in
    let many = readable_many ts p.put c.args.ids.now c.args.narrated.now p.are in
    let one = one_size c.args.narrated.now i c.index-narrated-i.result within c.index-narrated-i.is in
    let a = got c.args.ids.now i (record { 0 = 0 }) (omega (arith, within, many)) in
    let n = slice_get-map tree_of c.args.narrated.now i c.index-narrated-i.result (item_at c.args.narrated.now i c.index-narrated-i.result within c.index-narrated-i.is) in (
      omega (arith, one, c.decreases),
      (
        under_at (length ts) c.args.ids.now i _ c.requires.within a,
        record {
          rep = p.rep;
          settles = p.settles;
          put = p.put;
          kept = p.kept;
          is = narrated_at ts p.put c.args.ids.now i _ (map tree_of c.args.narrated.now) (tree_of c.index-narrated-i.result) p.are a n;
        },
      ),
    )

pub patterns-loop-i-preserved : goal.patterns-loop-i-preserved
patterns-loop-i-preserved t c rep settled =
    let ts = c.args.pool.now in
    let p = c.requires.readable in
    let i = c.loop-i.i in
    let within : i < length c.args.narrated.now = omega arith in
    let many = readable_many ts p.put c.args.ids.now c.args.narrated.now p.are in
    let id : NodeId = get_or c.args.ids.now i (record { 0 = 0 }) in
    let a = got c.args.ids.now i (record { 0 = 0 }) (omega (arith, within, many)) in
    let u = slice_get-there ts id.0 (under_at (length ts) c.args.ids.now i id c.requires.within a) in
    read_more rep (operands_at ts c.args.ids.now) c.args.narrated.now c.loop-i.out.items c.push.new.self.items c.in_ok-term.term i u.0 c.index-narrated-i.result
    (operand_at ts c.args.ids.now i id u.0 a u.1) (item_at c.args.narrated.now i c.index-narrated-i.result within c.index-narrated-i.is) (c.loop-i.invariant rep settled) (c.in_ok-term.ensures rep u.0 settled u.1) c.in_ok-push.ensures.items

pub patterns-returns : goal.patterns-returns
patterns-returns t c rep settled =
    let p = c.requires.readable in
    let many = readable_many c.args.pool.now p.put c.args.ids.now c.args.narrated.now p.are in
    read_whole rep (operands_at c.args.pool.now c.args.ids.now) c.args.narrated.now c.loop-i.out.items c.loop-i.i (omega (arith, many, operands_long c.args.pool.now c.args.ids.now)) (omega arith) (c.loop-i.invariant rep settled)

pub pattern-returns-in-Atom : goal.pattern-returns-in-Atom
pattern-returns-in-Atom t c rep u settled at =
    let na = rw c.in-Atom.is at c.get.ensures.stands in
    atom_read c.args.names c.args.pool.now c.args.roots.now rep settled c.args.id.0 u at (record { 0 = 0 }) c.in-Atom.n (tree_of c.args.narrated.now) na
