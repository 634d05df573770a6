use Rattle.std.proofs.Common.{◌∷◌, [], map, append_assoc, ap, ◌∙◌, length, arith}
use Rattle.std.proofs.lemmas.List.Elements.{All-tail}
use Rattle.anb_code.specs.Spelling.{instr_of}
use Rattle.anb_code.specs.Table.{HasCounts}
use Rattle.anb_code.proofs.spelling.instrs_of.Goals as goal

pub loop-instr-preserved : goal.loop-instr-preserved
loop-instr-preserved c = let steps = c.in-Some.ensures.steps in record {
  counts = All-tail HasCounts c.in-Some.instr _ (rw steps.0 at c.loop-instr.invariant.counts);
  joined = rw (c.in_ok-push.ensures.items, c.instr_of.ensures) (append_assoc c.loop-instr.instrs.items (instr_of c.args.formats.now c.in-Some.instr ∷ []) (map (instr_of c.args.formats.now) c.next.new.self.rest.items) ∙ rw steps.0 at c.loop-instr.invariant.joined);
  left = omega (arith, steps.1, ap length steps.0, c.loop-instr.invariant.left);
}
