use Rattle.std.proofs.Common.{◌≡◌, ◌≤◌, ℕ, List, length, take}
use Rattle.anb_base.specs.declared.TheConstants.{ARRIVAL}
use Rattle.anb_frame.specs.Cuts.{Tail}
use Rattle.anb_stage.specs.Notes.{notes_of}
use Rattle.anb_stage.specs.Relays.{AreCut, report}
use Rattle.anb_stage.specs.Steps.{AreWithin, Carried, CarryingKeeps, SameFaults}
use Rattle.anb_stage.proofs.carrying.carry_all.Given as goal

abbrev pub invariant-loop-i : goal.invariant-loop-i
invariant-loop-i g l = record {
  carried : (roles : ℕ) (outputs : ℕ → List (List ℕ)) (tails : ℕ → Tail) → roles ≤ 32
      → AreWithin roles l.actions → AreCut roles (g.P.Spawner.child l.fn.spawner) outputs tails
      → Carried (g.P.Spawner.child l.fn.spawner) (g.P.Spawner.child l.spawner) roles outputs tails (take l.i l.actions)
      × (l.sent.items ≡ report outputs (take l.i l.actions));
  keeps : (roles : ℕ) → roles ≤ 32 → AreWithin roles l.actions
      → CarryingKeeps (g.P.Spawner.child l.fn.spawner) (g.P.Spawner.child l.spawner) roles;
  quiet : SameFaults (g.P.Spawner.child l.fn.spawner) (g.P.Spawner.child l.spawner);
  buffer : length l.buffer ≡ ARRIVAL;
  told : g.L.Log.After l.fn.log (notes_of l.actions l.sent.items) l.log;
  count : length l.sent.items ≡ l.i;
}
