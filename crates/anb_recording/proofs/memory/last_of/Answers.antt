use Rattle.std.proofs.Common.{◌≡◌, ℕ, List, Some, sym, ap, ◌∙◌}
use Rattle.std.specs.Prelude.{bytes_eq}
use Rattle.std.specs.Option.{option_map}
use Rattle.std.proofs.lemmas.List.{take_all}
use Rattle.anb_store.specs.Memory.{files_after}
use Rattle.anb_recording.proofs.Remembering.{kept_next, next_other, next_same, no_files, some_of}
use Rattle.anb_recording.proofs.memory.last_of.Goals as goal
use Rattle.anb_recording.proofs.memory.last_of.Goals.{else-eq, then-eq}

pub loop-file-preserved : goal.loop-file-preserved
loop-file-preserved c =
    let step = kept_next c.args.kept.now c.loop-file.file-index c.file-item.result c.args.name.now c.loop-file-test.true c.file-item.is in
    let tested : bytes_eq c.args.name.now c.file-item.result.0 ≡ c.eq.result = ap (bytes_eq c.args.name.now) (sym c.as_str.ensures) ∙ sym c.eq.ensures in
    elim c.if-eq.branch [
      | then-eq w ↦ ap (option_map (λ bytes. bytes.now)) w.found-is ∙ ap Some w.as_slice.ensures ∙ sym (step ∙ next_same _ _ _ _ (tested ∙ w.if-eq.true))
      | else-eq w ↦ ap (option_map (λ bytes. bytes.now)) w.found-is ∙ c.loop-file.invariant ∙ sym (step ∙ next_other _ _ _ _ (tested ∙ w.if-eq.false))
    ]

pub returns-clause-some : goal.returns-clause-some
returns-clause-some c =
    some_of (λ bytes. bytes.now) c.loop-file.found _
    (c.loop-file.invariant ∙ ap (λ (l : List (List ℕ × List ℕ)). files_after no_files l c.args.name.now) (take_all c.loop-file.file-index c.args.kept.now c.loop-file-test.false))
