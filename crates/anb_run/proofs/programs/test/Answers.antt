use Rattle.std.specs.Borrow.{Bor}
use Rattle.std.proofs.Common.{◌∙◌, ℕ, List, Option, ap, false, subst, sym}
use Rattle.anb_base.specs.declared.place.Place.TheVariants.{Stdio}
use Rattle.anb_command.specs.Reaches.{Reaches}
use Rattle.anb_command.specs.Touches.{Touches}
use Rattle.anb_probe_commands.specs.Asking.{folder_by, probing}
use Rattle.anb_run.specs.Programs.{CompletesTest, DoesTest, HasTestCause, test_phase}
use Rattle.anb_run.proofs.programs.test.Goals as goal
use Rattle.std.specs.Prelude.{Some}

pub returns-in-None-clause-does : goal.returns-in-None-clause-does
returns-in-None-clause-does g c =
    subst (λ (folder : Option (Bor (List ℕ))). DoesTest (probing c.args.words) (g.T.Trials.trial c.args.trials.now) (g.T.Trials.trial c.probe.new.trials) (g.W.Wire.state c.args.wire.now) (g.W.Wire.state c.probe.new.wire) (g.S.Store.state c.args.store.now) (g.S.Store.state c.args.store.now) c.probe.result (g.F.Shelf.files c.args.shelf.now) c.args.seed (folder_by folder)) (sym c.in-None.is) c.probe.ensures.does

pub returns-in-None-clause-completes : goal.returns-in-None-clause-completes
returns-in-None-clause-completes g c = λ none.
    subst (λ (folder : Option (Bor (List ℕ))). CompletesTest (probing c.args.words) (g.T.Trials.trial c.args.trials.now) (g.T.Trials.trial c.probe.new.trials) (g.W.Wire.state c.args.wire.now) (g.W.Wire.state c.probe.new.wire) (g.S.Store.state c.args.store.now) (g.S.Store.state c.args.store.now) c.probe.result (g.F.Shelf.files c.args.shelf.now) c.args.seed (folder_by folder)) (sym c.in-None.is) (c.probe.ensures.completes none)

pub returns-in-None-clause-faults : goal.returns-in-None-clause-faults
returns-in-None-clause-faults g c =
    subst (λ (folder : Option (Bor (List ℕ))). HasTestCause (probing c.args.words) (g.T.Trials.trial c.args.trials.now) (g.T.Trials.trial c.probe.new.trials) (g.W.Wire.state c.args.wire.now) (g.W.Wire.state c.probe.new.wire) (g.S.Store.state c.args.store.now) (g.S.Store.state c.args.store.now) c.probe.result (g.F.Shelf.faults c.args.shelf.now) (g.F.Shelf.faults c.probe.new.shelf) (folder_by folder)) (sym c.in-None.is) c.probe.ensures.faults

pub returns-in-None-clause-reached : goal.returns-in-None-clause-reached
returns-in-None-clause-reached g c =
    subst (λ (folder : Option (Bor (List ℕ))). Reaches (Some Stdio) (test_phase (folder_by folder) c.probe.result) (g.W.Wire.state c.args.wire.now).reached (g.W.Wire.state c.probe.new.wire).reached) (sym c.in-None.is) c.probe.ensures.reached

pub returns-in-None-clause-touches : goal.returns-in-None-clause-touches
returns-in-None-clause-touches g c =
    subst (λ (folder : Option (Bor (List ℕ))). Touches false (test_phase (folder_by folder) c.probe.result) (g.W.Wire.state c.args.wire.now) (g.W.Wire.state c.probe.new.wire)) (sym c.in-None.is) c.probe.ensures.touches

pub returns-in-Some-clause-does : goal.returns-in-Some-clause-does
returns-in-Some-clause-does g c =
    subst (λ (folder : Option (Bor (List ℕ))). DoesTest (probing c.args.words) (g.T.Trials.trial c.args.trials.now) (g.T.Trials.trial c.probe_into.new.trials) (g.W.Wire.state c.args.wire.now) (g.W.Wire.state c.probe_into.new.wire) (g.S.Store.state c.args.store.now) (g.S.Store.state c.probe_into.new.journal) c.probe_into.result (g.F.Shelf.files c.args.shelf.now) c.args.seed (folder_by folder)) (sym c.in-Some.is) c.probe_into.ensures.does

pub returns-in-Some-clause-completes : goal.returns-in-Some-clause-completes
returns-in-Some-clause-completes g c = λ none.
    subst (λ (folder : Option (Bor (List ℕ))). CompletesTest (probing c.args.words) (g.T.Trials.trial c.args.trials.now) (g.T.Trials.trial c.probe_into.new.trials) (g.W.Wire.state c.args.wire.now) (g.W.Wire.state c.probe_into.new.wire) (g.S.Store.state c.args.store.now) (g.S.Store.state c.probe_into.new.journal) c.probe_into.result (g.F.Shelf.files c.args.shelf.now) c.args.seed (folder_by folder)) (sym c.in-Some.is) (c.probe_into.ensures.completes none)

pub returns-in-Some-clause-faults : goal.returns-in-Some-clause-faults
returns-in-Some-clause-faults g c =
    subst (λ (folder : Option (Bor (List ℕ))). HasTestCause (probing c.args.words) (g.T.Trials.trial c.args.trials.now) (g.T.Trials.trial c.probe_into.new.trials) (g.W.Wire.state c.args.wire.now) (g.W.Wire.state c.probe_into.new.wire) (g.S.Store.state c.args.store.now) (g.S.Store.state c.probe_into.new.journal) c.probe_into.result (g.F.Shelf.faults c.args.shelf.now) (g.F.Shelf.faults c.probe_into.new.shelf) (folder_by folder)) (sym c.in-Some.is) c.probe_into.ensures.faults

pub returns-in-Some-clause-reached : goal.returns-in-Some-clause-reached
returns-in-Some-clause-reached g c =
    subst (λ (folder : Option (Bor (List ℕ))). Reaches (Some Stdio) (test_phase (folder_by folder) c.probe_into.result) (g.W.Wire.state c.args.wire.now).reached (g.W.Wire.state c.probe_into.new.wire).reached) (sym c.in-Some.is) c.probe_into.ensures.reached

pub returns-in-Some-clause-touches : goal.returns-in-Some-clause-touches
returns-in-Some-clause-touches g c =
    subst (λ (folder : Option (Bor (List ℕ))). Touches false (test_phase (folder_by folder) c.probe_into.result) (g.W.Wire.state c.args.wire.now) (g.W.Wire.state c.probe_into.new.wire)) (sym c.in-Some.is) c.probe_into.ensures.touches

pub returns-in-Some-clause-unstored : goal.returns-in-Some-clause-unstored
returns-in-Some-clause-unstored g c = λ none. absurd (let never = sym (ap folder_by c.in-Some.is) ∙ none in cc)
