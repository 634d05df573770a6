use Rattle.std.proofs.Common.{◌≡◌, ◌<◌, [], length, sym, ap, ◌∙◌, arith}
use Rattle.anb_code.specs.CodeValue.{CodeValue}
use Rattle.anb_code.specs.Taking.{take_texts}
use Rattle.anb_code.proofs.Taking.{take_at, got}
use Rattle.anb_code.proofs.code.RoleCode.take_text.Goals as goal

pub index-requires : goal.index-requires
index-requires c =
    let same : c.self.inside.instrs.items ≡ c.args.self.now.instrs = ap (λ (code : CodeValue). code.instrs) c.self.view_is in
    let within : c.args.i < length (take_texts c.self.inside.instrs.items) = rw same c.requires in
    let here = take_at c.self.inside.formats.items [] c.self.inside.instrs.items c.args.i c.self.invariant.verified.instrs within in
    omega (arith, (got c.self.inside.instrs.items c.args.i _ here.1).0)

pub unreachable-requires : goal.unreachable-requires
unreachable-requires c =
    let same : c.self.inside.instrs.items ≡ c.args.self.now.instrs = ap (λ (code : CodeValue). code.instrs) c.self.view_is in
    let within : c.args.i < length (take_texts c.self.inside.instrs.items) = rw same c.requires in
    let here = take_at c.self.inside.formats.items [] c.self.inside.instrs.items c.args.i c.self.invariant.verified.instrs within in
    c.in_default.not-Take here.0 (c.index.ensures ∙ (got c.self.inside.instrs.items c.args.i _ here.1).1 c.index.result.now)

pub returns : goal.returns
returns c =
    let same : c.self.inside.instrs.items ≡ c.args.self.now.instrs = ap (λ (code : CodeValue). code.instrs) c.self.view_is in
    let within : c.args.i < length (take_texts c.self.inside.instrs.items) = rw same c.requires in
    let here = take_at c.self.inside.formats.items [] c.self.inside.instrs.items c.args.i c.self.invariant.verified.instrs within in
    let item = c.index.ensures ∙ (got c.self.inside.instrs.items c.args.i _ here.1).1 c.index.result.now in
    let text : here.0 ≡ c.in-Take.text = cc (item, c.in-Take.is) in
    rw (← same, ← text) (sym here.2)
