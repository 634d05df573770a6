-- What a recording does to bytes.
use Rattle.std.specs.Prelude.{◌≡◌, ℕ, List, map, IsTrue, Some, slice_get}
use Rattle.anb_term.specs.Tree.{Tree}
use Rattle.anb_term.specs.Value.{Meaning}
use Rattle.anb_plays.specs.Plans.{Event, known, FreshIsNew, Sendable}
use Rattle.anb_plays.specs.Honest.{honest, made, LabelsAreFormed}
use Rattle.anb_protocol.specs.Laws.{KnowsFirst}
use Rattle.anb_accept.specs.Laws.{GoesOn}
use Rattle.anb_outsider.specs.Recordings.{is_drawn, recorded, TakesRecording}

-- Where a role takes a recording, it does so over values, whatever those of the names are and of the others that were
-- drawn in their places: its play over what came goes on to the end.
abbrev pub RecordingsGoOn : {A : Type 0} → Meaning A → Type 0
RecordingsGoOn {A} m = (names : ℕ) (plan : List Event) (atoms : ℕ → A) (draw : ℕ → A)
    → TakesRecording m.has names plan → KnowsFirst plan → FreshIsNew plan → Sendable m.has plan → LabelsAreFormed m.has plan
    → ((n : ℕ) → IsTrue (m.is_value (atoms n)))
    → ((i : ℕ) (t : Tree) → slice_get (made plan) i ≡ Some t → draw i ≡ honest m atoms t)
    → GoesOn m draw plan (map (honest m atoms) (known plan)) (map (honest m atoms) (recorded names (is_drawn plan) plan))
