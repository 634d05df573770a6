-- A code that plays a job in each session gives what sessions of the job are told.
use Rattle.std.proofs.Common.{◌≡◌, ℕ, List, [], ◌++◌, refl, sym, ap, ◌∙◌, inl, inr}
use Rattle.std.proofs.lemmas.List.{append-nil}
use Rattle.anb_seal.specs.Streams.{draw_of}
use Rattle.anb_code.specs.CodeValue.{CodeValue}
use Rattle.anb_plays.specs.Plays.{Played, End, stopped, waiting, done, Run}
use Rattle.anb_plays.specs.Runs.{no_place}
use Rattle.anb_plays.specs.Statements.{Grows}
use Rattle.anb_plays.proofs.Grows.{run_grows}
use Rattle.anb_code.specs.Meaning.{acts_of}
use Rattle.anb_host.specs.Alone.{SendsOn}
use Rattle.anb_machine.specs.ByteRuns.{meaning_of}
use Rattle.anb_command.specs.Prepared.{IsRunBy}
use Rattle.anb_role_commands.specs.Jobs.{Job}
use Rattle.anb_role_commands.specs.Playing.{PlayIn, play_in}
use Rattle.anb_host_commands.specs.HostCommand.{ArePlays}
use Rattle.anb_host_commands.specs.Serving.{runs_by}
use Rattle.anb_host_commands.proofs.Alike.{Alike, AreBytes}

no_place_again : (e : End) → no_place (no_place e) ≡ no_place e
no_place_again (stopped e at) = refl
no_place_again (waiting e) = refl
no_place_again done = refl

module _ (job : Job) (code : CodeValue) (initial : List (List ℕ)) (seed : List ℕ) (comes : (session : ℕ) → IsRunBy (PlayIn session) job (play_in code initial seed session)) where
  pub are_plays : ArePlays job (play_in code initial seed)
  are_plays session arrivals bytes = (comes session arrivals bytes (play_in code initial seed session arrivals)).1 refl

  -- whichever plays these are
  pub runs_alike : (plays : ℕ → Run) → ArePlays job plays → (session : ℕ) (arrivals : List (List ℕ)) → AreBytes arrivals
      → Alike (runs_by code initial seed session arrivals) (plays session arrivals)
  runs_alike plays are session arrivals bytes =
      let is : plays session arrivals ≡ play_in code initial seed session arrivals = (comes session arrivals bytes (plays session arrivals)).0 (are session arrivals bytes) in
      record {
        sent = sym (ap (λ (p : Played (List ℕ)). p.sent) is);
        ends = sym (ap (λ (p : Played (List ℕ)). no_place p.end) is ∙ no_place_again (runs_by code initial seed session arrivals).end);
      }

-- the run of a code sends more over more arrivals
pub runs_send_on : (code : CodeValue) (initial : List (List ℕ)) (seed : List ℕ) (session : ℕ) → SendsOn (runs_by code initial seed session)
runs_send_on code initial seed session arrivals more = by (run_grows (meaning_of code) (draw_of seed session) (acts_of code) initial arrivals more) where
  by : Grows (runs_by code initial seed session arrivals) (runs_by code initial seed session (arrivals ++ more)) more
      → (rest : List (List ℕ)) × ((runs_by code initial seed session (arrivals ++ more)).sent ≡ (runs_by code initial seed session arrivals).sent ++ rest)
  by (inl w) = (w.3, w.4)
  by (inr w) = ([], ap (λ (p : Played (List ℕ)). p.sent) w.1 ∙ sym (append-nil (runs_by code initial seed session arrivals).sent))
