use Rattle.std.proofs.Common.{◌≡◌, length, arith, sym, ◌∙◌}
use Rattle.std.proofs.lemmas.Option.{none-some}
use Rattle.anb_close.proofs.Growing.{grown_few, opens_within, room_by, opened_by, extended_firsts}
use Rattle.anb_close.proofs.Openable.{no_atom}
use Rattle.anb_close.proofs.growth.Growth.open.Goals as goal

pub overflow_cast-first : goal.overflow_cast-first
overflow_cast-first c = omega (arith, grown_few _ _ c.requires.grown)

pub index-requires : goal.index-requires
index-requires c = omega (arith, opens_within _ _ _ _ c.requires.grown c.requires.opens, c.args.self.now.entries.ok.0)

pub push_parts-requires-clause-few : goal.push_parts-requires-clause-few
push_parts-requires-clause-few c =
    let r = room_by _ _ c.args.of _ c.index.result.now c.in-Node.op c.in-Node.operands c.as_slice.result.now c.requires.grown c.requires.opens (opens_within _ _ _ _ c.requires.grown c.requires.opens) c.index.ensures (sym c.in_ok-term.ensures ∙ c.in-Node.is) c.as_slice.ensures in
    omega (arith, r.0)

pub push_parts-requires-clause-arity : goal.push_parts-requires-clause-arity
push_parts-requires-clause-arity c =
    let r = room_by _ _ c.args.of _ c.index.result.now c.in-Node.op c.in-Node.operands c.as_slice.result.now c.requires.grown c.requires.opens (opens_within _ _ _ _ c.requires.grown c.requires.opens) c.index.ensures (sym c.in_ok-term.ensures ∙ c.in-Node.is) c.as_slice.ensures in
    omega (arith, r.1, c.arity-arity.ensures)

pub index_mut-requires : goal.index_mut-requires
index_mut-requires c =
    omega (arith, opens_within _ _ _ _ c.requires.grown c.requires.opens, c.requires.grown.long, extended_firsts _ _ _ _ _ c.in_ok-push_parts-in-Node.ensures.ok, c.push_parts.new.self.firsts.ok.0)

pub returns-clause-back : goal.returns-clause-back
returns-clause-back c =
    let n : c.len-first.result ≡ length c.args.self.now.entries.items = omega (arith, c.len-first.ensures, c.args.self.now.entries.ok.0) in
    rw n (opened_by _ _ _ _ c.args.of _ c.index.result.now c.in-Node.op c.in-Node.operands c.as_slice.result.now c.requires.grown c.requires.opens (opens_within _ _ _ _ c.requires.grown c.requires.opens) c.index.ensures (sym c.in_ok-term.ensures ∙ c.in-Node.is) c.as_slice.ensures c.in_ok-push_parts-in-Node.ensures.ok).1

pub returns-clause-grown : goal.returns-clause-grown
returns-clause-grown c =
    let n : c.len-first.result ≡ length c.args.self.now.entries.items = omega (arith, c.len-first.ensures, c.args.self.now.entries.ok.0) in
    rw n (opened_by _ _ _ _ c.args.of _ c.index.result.now c.in-Node.op c.in-Node.operands c.as_slice.result.now c.requires.grown c.requires.opens (opens_within _ _ _ _ c.requires.grown c.requires.opens) c.index.ensures (sym c.in_ok-term.ensures ∙ c.in-Node.is) c.as_slice.ensures c.in_ok-push_parts-in-Node.ensures.ok).0

pub returns-clause-opened : goal.returns-clause-opened
returns-clause-opened c =
    (opened_by _ _ _ _ c.args.of _ c.index.result.now c.in-Node.op c.in-Node.operands c.as_slice.result.now c.requires.grown c.requires.opens (opens_within _ _ _ _ c.requires.grown c.requires.opens) c.index.ensures (sym c.in_ok-term.ensures ∙ c.in-Node.is) c.as_slice.ensures c.in_ok-push_parts-in-Node.ensures.ok).2

-- what can be opened is no atom
pub unreachable-requires : goal.unreachable-requires
unreachable-requires c =
    let o = c.requires.opens in
    let none = no_atom _ _ c.args.of c.index.result.now (opens_within _ _ _ _ c.requires.grown o) c.index.ensures c.in-Atom.field-0 (sym c.in_ok-term.ensures ∙ c.in-Atom.is) o.op o.operands o.able in
    none-some _ (sym none ∙ o.made)
