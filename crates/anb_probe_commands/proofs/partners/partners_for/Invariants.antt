use Rattle.std.proofs.Common.{◌≡◌, length}
use Rattle.anb_probe_commands.specs.Cases.{AreMade}
use Rattle.anb_probe_commands.proofs.partners.partners_for.Given as goal

abbrev pub invariant-loop-scene : goal.invariant-loop-scene
invariant-loop-scene l = record {
  made : AreMade l.p l.role l.scenes l.partners.items;
  each : length l.partners.items ≡ l.scene-index;
}
