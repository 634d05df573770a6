-- A name that is drawn.
use Rattle.std.proofs.Common.{map, OnOk, sym, subst}
use Rattle.std.specs.Prelude.{slice_get, unwrap_or}
use Rattle.anb_term.specs.Tree.{leaf}
use Rattle.anb_term.specs.View.{tree_of}
use Rattle.anb_code.specs.declared.instr.Instr.{Instr}
use Rattle.anb_code.specs.Meaning.{act_of}
use Rattle.anb_suite.specs.Walks.{HasStepped}
use Rattle.anb_suite.proofs.walking.step.Goals as goal

pub returns-in-Fresh : goal.returns-in-Fresh
returns-in-Fresh c =
    let P : Instr → Type 0 = λ x. OnOk c.draw.result (HasStepped c.args.names (λ i. unwrap_or (slice_get (map tree_of c.args.made.now) i) (leaf 0)) (act_of c.args.formats.now x) c.args.walk.now c.draw.new.walk) in
    subst P (sym c.in-Fresh.is) (c.draw.ensures c.args.names)
