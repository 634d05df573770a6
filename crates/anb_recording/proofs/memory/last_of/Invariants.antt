use Rattle.std.proofs.Common.{◌≡◌, ℕ, List, None, take}
use Rattle.std.specs.Option.{option_map}
use Rattle.anb_store.specs.Memory.{files_after}
use Rattle.anb_recording.proofs.memory.last_of.Given as goal

abbrev pub invariant-loop-file : goal.invariant-loop-file
invariant-loop-file l = option_map (λ bytes. bytes.now) l.found ≡ files_after (λ (n : List ℕ). None) (take l.file-index l.kept) l.name
