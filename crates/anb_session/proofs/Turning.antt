-- What a turn comes to, from what its calls did.
use Rattle.std.proofs.Common.{◌≡◌, ℕ, List, [], ◌∷◌, ◌++◌, Option, refl, sym, ap, ◌∙◌, subst, append_assoc}
use Rattle.std.proofs.lemmas.List.{append-nil}
use Rattle.anb_base.specs.Moves.{Put}
use Rattle.anb_base.specs.Wires.{WireState}
use Rattle.anb_base.specs.declared.TheConstants.{ARRIVAL}
use Rattle.anb_base.proofs.Moving.{put_nothing}
use Rattle.anb_frame.specs.Cuts.{Tail, CutLeft}
use Rattle.anb_frame.specs.Frames.{frame}
use Rattle.anb_machine.specs.Machines.{MachineValue}
use Rattle.anb_machine.specs.declared.turn.Halt.{Halt}
use Rattle.anb_plays.specs.Plays.{ends, says, done, stopped, waiting, Run}
use Rattle.anb_session.specs.declared.PlayEnd.{PlayEnd}
use Rattle.anb_session.specs.declared.PlayEnd.TheVariants.{Done, Stopped, Waiting, NoMemory}
use Rattle.anb_session.specs.Sessions.{Runs, end_at}
use Rattle.anb_session.specs.Standing.{CameTo, StandsAt}
use Rattle.anb_session.specs.Turns.{EndsWaiting, Receives, WaitsPromptly, ReceivesPromptly, SendsPromptly, Passes, Closes, Hears, WentOn, HeardAll}
use Rattle.anb_session.proofs.Continued.{saying, receiving, going_nowhere, continued, ending, is_done, is_stopped}
use Rattle.anb_session.proofs.Prompt.{prompt_still, nowhere_promptly, joined_promptly, prompt_whole}

-- what a wire tells, in one value
pub by_told : (P : (left now written written_now : Option (List ℕ)) → Type 0) (s s' t t' : WireState) → s ≡ s' → t ≡ t'
    → P s'.left t'.left s'.written t'.written → P s.left t.left s.written t.written
by_told P s s' t t' a b h = rw (a, b) h

-- ---- turns that go on

pub passes_nowhere : (R : Run) (s : WireState) → Passes R R s s
passes_nowhere R s = record { continues = going_nowhere R s.left s.written; promptly = nowhere_promptly R s }

pub passes_joined : (R R' R'' : Run) (s t u : WireState) → Passes R R' s t → Passes R' R'' t u → Passes R R'' s u
passes_joined R R' R'' s t u one two = record {
  continues = continued R R' R'' s.left t.left u.left s.written t.written u.written one.continues two.continues;
  promptly = joined_promptly R R' R'' s t u one.promptly two.promptly;
}

pub passes_saying : (R R' : Run) (b : List ℕ) (s t : WireState) → ((more : List (List ℕ)) → R more ≡ says b (R' more)) → t.left ≡ s.left
    → Put s.written t.written (frame b) → SendsPromptly b s t → Passes R R' s t
passes_saying R R' b s t comes same put promptly = record {
  continues = rw same (saying R R' b s.left s.written t.written comes put);
  promptly = promptly R R' comes;
}

pub hears_so : (event : ℕ) (b : List ℕ) (s t : WireState) → t.written ≡ s.written → Receives b s.left t.left → ReceivesPromptly event b s t → Hears event b s t
hears_so event b s t same receives prompt R R' waits comes = record {
  continues = rw same (receiving R R' b s.left t.left s.written comes receives);
  promptly = prompt R R' waits comes;
}

-- ---- turns that end it

pub closes_behind : (R R' : Run) (s t u : WireState) (end : PlayEnd) → Passes R R' s t → Closes R' t u end → Closes R s u end
closes_behind R R' s t u end one last = record {
  ends = ending R R' s.left t.left s.written t.written u.left u.written end one.continues last.ends;
  prompt = one.promptly.each u last.prompt;
}

-- nothing was written or taken
pub closes_done : (R : Run) (s : WireState) → ((more : List (List ℕ)) → R more ≡ ends done more) → Closes R s s Done
closes_done R s is = record { ends = is_done R s.left s.written is; prompt = prompt_still R s }

pub closes_stopped : (R : Run) (s : WireState) (halt : Halt) → ((more : List (List ℕ)) → R more ≡ ends (stopped halt.event halt.at) more) → Closes R s s (Stopped halt)
closes_stopped R s halt is = record { ends = is_stopped R s.left s.written halt.event halt.at is; prompt = prompt_still R s }

-- no memory was left
pub closes_wanting : (R : Run) (s : WireState) → Closes R s s NoMemory
closes_wanting R s = record { ends = λ arrivals tail cut. (0, put_nothing s.written); prompt = prompt_still R s }

-- and none for an arrival that was taken
pub wanting_room : (event : ℕ) (b : List ℕ) (s t : WireState) → t.written ≡ s.written → ReceivesPromptly event b s t
    → EndsWaiting event s.left t.left s.written t.written NoMemory × WaitsPromptly event s t
wanting_room event b s t same prompt = (
  λ R waits arrivals tail cut. (0, subst (λ o. Put s.written o []) (sym same) (put_nothing s.written)),
  prompt_whole s t event b prompt,
)

-- ---- what is true of what is played

-- a run that waits with nothing before, and is done after any arrival
abbrev by_arrivals : ℕ → Run
by_arrivals event [] = ends (waiting event) []
by_arrivals event (b ∷ bs) = ends done (b ∷ bs)

not_done : (e : ℕ) → Waiting e ≡ Done → ⊥
not_done e is = cc

module _ {A : Type 0} (Follows : A → List (List ℕ) → A → Type 0) where
  pub went_nowhere : (x y : A) (s t : WireState) → t.left ≡ s.left → Follows x [] y → WentOn Follows x y s t
  went_nowhere x y s t same follows = record {
    used = [];
    follows = follows;
    first = λ arrivals tail cut. (arrivals, refl, subst (λ l. CutLeft ARRIVAL l arrivals tail) (sym same) cut);
  }

  pub went_hearing : (x y : A) (s t : WireState) (b : List ℕ) → Receives b s.left t.left → Follows x (b ∷ []) y → WentOn Follows x y s t
  went_hearing x y s t b receives follows = record {
    used = b ∷ [];
    follows = follows;
    first = λ arrivals tail cut. receives.first arrivals tail cut;
  }

  -- it waits, and nothing was left
  pub heard_nothing : (x y : A) (s t : WireState) (event : ℕ) (end : PlayEnd) → EndsWaiting event s.left t.left s.written t.written end → Follows x [] y → HeardAll Follows x y s end
  heard_nothing x y s t event end ends_so follows e is = ([], follows, none_left) where
    by : (arrivals : List (List ℕ)) (tail : Tail) → Waiting e ≡ end_at (by_arrivals event arrivals).end tail → arrivals ≡ []
    by [] tail same = refl
    by (b ∷ bs) tail same = absurd (not_done e same)

    none_left : (arrivals : List (List ℕ)) (tail : Tail) → CutLeft ARRIVAL s.left arrivals tail → arrivals ≡ []
    none_left arrivals tail cut =
        let runs : Runs (by_arrivals event) arrivals tail s.left t.left s.written t.written (Waiting e) =
        subst (λ (o : PlayEnd). Runs (by_arrivals event) arrivals tail s.left t.left s.written t.written o) is (ends_so (by_arrivals event) refl arrivals tail cut) in
        by arrivals tail runs.0

  module _ (joined : (x y z : A) (some more : List (List ℕ)) → Follows x some y → Follows y more z → Follows x (some ++ more) z) (x y z : A) (s t : WireState) (one : WentOn Follows x y s t) where
    pub went_further : (u : WireState) → WentOn Follows y z t u → WentOn Follows x z s u
    went_further u two = record {
      used = one.used ++ two.used;
      follows = joined x y z one.used two.used one.follows two.follows;
      first = λ arrivals tail cut.
          let f = one.first arrivals tail cut in
          let g = two.first f.0 tail f.2 in
          (g.0, f.1 ∙ ap (λ l. one.used ++ l) g.1 ∙ sym (append_assoc one.used two.used g.0), g.2);
    }

    pub heard_at_last : (end : PlayEnd) → HeardAll Follows y z t end → HeardAll Follows x z s end
    heard_at_last end last e is =
        let l = last e is in (
          one.used ++ l.0,
          joined x y z one.used l.0 one.follows l.1,
          λ arrivals tail cut.
              let f = one.first arrivals tail cut in
              f.1 ∙ ap (λ xs. one.used ++ xs) (l.2 f.0 tail f.2),
        )

    -- it came to an end here, where it stands so
    pub came_at_last : (end : PlayEnd) (machine : MachineValue) → Follows y [] z → StandsAt machine end → CameTo Follows x z machine s end
    came_at_last end machine last stands = record {
      used = one.used ++ [];
      follows = joined x y z one.used [] one.follows last;
      first = λ arrivals tail cut. let f = one.first arrivals tail cut in (f.0, f.1 ∙ ap (λ (l : List (List ℕ)). l ++ f.0) (sym (append-nil one.used)));
      stands = stands;
    }
