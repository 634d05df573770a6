-- A run without the instructions of its stops, over a wire.
use Rattle.std.proofs.Common.{◌≡◌, ℕ, List, Option, refl, ap, ◌∙◌}
use Rattle.anb_base.specs.Wires.{WireState}
use Rattle.anb_frame.specs.Cuts.{Tail, Short, Long}
use Rattle.anb_frame.specs.Cuts.{End as Whole}
use Rattle.anb_plays.specs.Plays.{End, stopped, waiting, done, Run}
use Rattle.anb_plays.specs.Runs.{no_place, without_place}
use Rattle.anb_session.specs.declared.PlayEnd.{PlayEnd}
use Rattle.anb_session.specs.declared.PlayEnd.TheVariants.{Done, Stopped, Waiting, Truncated, TooLarge, ReadFault, WriteFault, NoMemory}
use Rattle.anb_session.specs.Sessions.{Runs, Concludes, Reads, end_at, IsPrompt}
use Rattle.anb_session.specs.Faults.{TellsEnd}
use Rattle.anb_session.specs.Turns.{Ends, Closes}
use Rattle.anb_session.proofs.Faults.{answered_as}
use Rattle.anb_session.proofs.Prompt.{prompt_placeless}
use Rattle.anb_branch.specs.Stems.{no_halt}

abbrev placeless : Run → Run
placeless R more = without_place (R more)

end_placeless : (e : End) (tail : Tail) → no_halt (end_at e tail) ≡ end_at (no_place e) tail
end_placeless done tail = refl
end_placeless (stopped e at) tail = refl
end_placeless (waiting e) Whole = refl
end_placeless (waiting e) (Short have need) = refl
end_placeless (waiting e) (Long len) = refl

reads_placeless : (e : End) (arrivals unused : List (List ℕ)) (tail : Tail) (left now : Option (List ℕ)) → Reads e arrivals unused tail left now → Reads (no_place e) arrivals unused tail left now
reads_placeless done arrivals unused tail left now h = h
reads_placeless (stopped e at) arrivals unused tail left now h = h
reads_placeless (waiting e) arrivals unused Whole left now h = h
reads_placeless (waiting e) arrivals unused (Short have need) left now h = h
reads_placeless (waiting e) arrivals unused (Long len) left now h = h

module _ (R : Run) (arrivals : List (List ℕ)) (tail : Tail) (left now written written_now : Option (List ℕ)) where
  concludes_placeless : (end : PlayEnd) → Concludes R arrivals tail left now written written_now end → Concludes (placeless R) arrivals tail left now written written_now (no_halt end)
  concludes_placeless end h = (
    ap no_halt h.0 ∙ end_placeless (R arrivals).end tail,
    h.1,
    reads_placeless (R arrivals).end arrivals (R arrivals).left tail left now h.2,
  )

  runs_placeless : (end : PlayEnd) → Runs R arrivals tail left now written written_now end → Runs (placeless R) arrivals tail left now written written_now (no_halt end)
  runs_placeless WriteFault h = h
  runs_placeless ReadFault (taken, whole, part, e, took, cut, waits, sent) = (taken, whole, part, e, took, cut, ap no_place waits, sent)
  runs_placeless NoMemory h = h
  runs_placeless Done h = concludes_placeless Done h
  runs_placeless (Stopped halt) h = concludes_placeless (Stopped halt) h
  runs_placeless (Waiting e) h = concludes_placeless (Waiting e) h
  runs_placeless (Truncated have need) h = concludes_placeless (Truncated have need) h
  runs_placeless (TooLarge len) h = concludes_placeless (TooLarge len) h

pub ends_placeless : (R : Run) (left now written written_now : Option (List ℕ)) (end : PlayEnd) → Ends R left now written written_now end → Ends (λ more. without_place (R more)) left now written written_now (no_halt end)
ends_placeless R left now written written_now end h arrivals tail cut = runs_placeless R arrivals tail left now written written_now end (h arrivals tail cut)

pub closes_placeless : (R : Run) (s t : WireState) (end : PlayEnd) → Ends R s.left t.left s.written t.written end → IsPrompt R s t → Closes (λ more. without_place (R more)) s t (no_halt end)
closes_placeless R s t end ends_so prompt = record {
  ends = ends_placeless R s.left t.left s.written t.written end ends_so;
  prompt = prompt_placeless R s t prompt;
}

-- the stop without its instruction is no fault either
pub tells_placeless : (s t : WireState) (end : PlayEnd) → TellsEnd s t end → TellsEnd s t (no_halt end)
tells_placeless s t (Stopped halt) h = record {
  reading = answered_as (λ is. cc) (λ is. cc) h.reading;
  writing = answered_as (λ is. cc) (λ is. cc) h.writing;
  reached = h.reached;
  reach_faults = h.reach_faults;
}
tells_placeless s t Done h = h
tells_placeless s t (Waiting e) h = h
tells_placeless s t (Truncated have need) h = h
tells_placeless s t (TooLarge len) h = h
tells_placeless s t ReadFault h = h
tells_placeless s t WriteFault h = h
tells_placeless s t NoMemory h = h
