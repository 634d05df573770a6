-- When a play comes to its end: it hears all that it waits for, and everything agrees.
use Rattle.std.specs.Prelude.{◌≡◌, ℕ, ◌+◌, ◌≤◌, List, [], ◌∷◌, ◌++◌, length, All}
use Rattle.anb_base.specs.declared.TheConstants.{ARRIVAL}
use Rattle.anb_frame.specs.Frames.{frames}
use Rattle.anb_seal.specs.Streams.{draw_of}
use Rattle.anb_term.specs.Agree.{Agree}
use Rattle.anb_term.specs.Tree.{Tree}
use Rattle.anb_term.specs.Value.{Meaning}
use Rattle.anb_plays.specs.Plans.{Event, know, fresh, send, recv, known}
use Rattle.anb_protocol.specs.Plays.{events_of, meaning_of}
use Rattle.anb_role_commands.specs.Jobs.{Job}

module _ {A : Type 0} (m : Meaning A) (draw : ℕ → A) where
  -- there is an arrival for each receive of these events, and the labels agree after each: these are the
  -- terms and values of the labels so far, after i draws
  abbrev pub AgreesAfterEach : List Event → List Tree → List A → ℕ → List A → Type 0
  AgreesAfterEach [] frame vs i heard = heard ≡ []
  AgreesAfterEach (know t ∷ es) frame vs i heard = AgreesAfterEach es frame vs i heard
  AgreesAfterEach (fresh t ∷ es) frame vs i heard = AgreesAfterEach es (frame ++ t ∷ []) (vs ++ draw i ∷ []) (i + 1) heard
  AgreesAfterEach (send t ∷ es) frame vs i heard = AgreesAfterEach es frame vs i heard
  AgreesAfterEach (recv t ∷ es) frame vs i [] = ⊥
  AgreesAfterEach (recv t ∷ es) frame vs i (x ∷ heard) =
      Agree m (frame ++ t ∷ []) (vs ++ x ∷ []) × AgreesAfterEach es (frame ++ t ∷ []) (vs ++ x ∷ []) i heard

  -- and at the beginning
  abbrev pub AgreesThroughout : List Event → List A → List A → Type 0
  AgreesThroughout plan init heard = Agree m (known plan) init × AgreesAfterEach plan (known plan) init 0 heard

-- a frame of at most so many bytes for each receive of a job, after which all agrees, and later bytes
pub record HearsAll (job : Job) (left later : List ℕ) : Type 0 where
  pub heard : List (List ℕ)
  pub agrees : AgreesThroughout (meaning_of job.protocol) (draw_of job.seed 0) (events_of job.protocol job.role) job.initial heard
  pub short : All (λ (x : List ℕ). length x ≤ ARRIVAL) heard
  pub is : left ≡ frames heard ++ later
