use Rattle.std.proofs.Common.{◌≡◌, ℕ, List, [], length, map}
use Rattle.std.specs.Prelude.{IfSome, slice_get}
use Rattle.std.specs.List.{range_with_len}
use Rattle.anb_honest.specs.Given.{items_of}
use Rattle.anb_honest.specs.Joint.{cast, init_of}
use Rattle.anb_honest.specs.Inside.{IsPlayer}
use Rattle.anb_honest.proofs.beginning.stage.Given as goal

abbrev pub invariant-loop-role : goal.invariant-loop-role
invariant-loop-role l = record {
  count : length l.players.items ≡ l.role;
  each : (values : List (List ℕ)) → map items_of l.fn.initial ≡ map (init_of (cast l.p l.codes values l.seed)) (range_with_len 0 (length l.p.roles))
      → (j : ℕ) → IfSome (slice_get l.players.items j) (IsPlayer (cast l.p l.codes values l.seed) [] j);
}
