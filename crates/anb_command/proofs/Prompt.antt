-- Bytes that are taken in time.
use Rattle.std.proofs.Common.{◌≡◌, ℕ, ◌+◌, List, [], ◌∷◌, ◌++◌, length, replicate, Option, Some, None, refl, ap, sym, ◌∙◌, subst}
use Rattle.std.specs.Prelude.{IfSome, ◌≤◌}
use Rattle.std.proofs.lemmas.List.Elements.{All-nil}
use Rattle.anb_plays.specs.Plays.{Run}
use Rattle.anb_base.specs.Moves.{Put, Took}
use Rattle.anb_base.specs.Wires.{WireState}
use Rattle.anb_base.specs.declared.TheConstants.{ARRIVAL}
use Rattle.anb_base.specs.declared.place.Place.{Place}
use Rattle.anb_base.proofs.Moving.{put_nothing, took_nothing}
use Rattle.anb_frame.specs.Cuts.{End}
use Rattle.anb_frame.specs.Frames.{frame, frames}
use Rattle.anb_session.specs.Sessions.{IsPrompt, due_at}
use Rattle.anb_session.proofs.Prompt.{prompt_nothing}
use Rattle.anb_command.specs.OverWire.{HasReached}

-- behind the reach of a place
pub prompt_after : (R : Run) (place : Place) (S T U : WireState) → HasReached place S T → IsPrompt R T U → IsPrompt R S U
prompt_after R place S T U reached p = by p where
  left : T.left ≡ S.left
  left = ap (λ (w : WireState). w.left) reached.same

  written : T.written ≡ S.written
  written = ap (λ (w : WireState). w.written) reached.same

  taken : T.taken_at ≡ S.taken_at
  taken = ap (λ (w : WireState). w.taken_at) reached.same

  by : IsPrompt R T U → IsPrompt R S U
  by q = record {
    whole = q.whole;
    rest = q.rest;
    tail = q.tail;
    fits = q.fits;
    ends = q.ends;
    took = subst (λ (l : Option (List ℕ)). Took l U.left (frames q.whole ++ q.rest)) left q.took;
    in_time = subst (λ (w : Option (List ℕ)). IfSome w (λ text. Put S.taken_at U.taken_at (due_at R (length text) [] q.whole (length q.rest)))) written
        (subst (λ (t : Option (List ℕ)). IfSome T.written (λ text. Put t U.taken_at (due_at R (length text) [] q.whole (length q.rest)))) taken q.in_time);
    awaited = q.awaited;
    awaits = q.awaits;
  }

pub prompt_nowhere : (R : Run) (S T : WireState) → T.left ≡ S.left → T.taken_at ≡ S.taken_at → IsPrompt R S T
prompt_nowhere R S T left taken = prompt_nothing R S T (record { left = left; taken_at = taken })
