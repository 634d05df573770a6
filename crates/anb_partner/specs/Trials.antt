-- What is told of the child of each case, and what each call changes.
use Rattle.std.specs.Prelude.{◌≡◌, ◌≢◌, ℕ, Bool, List, [], ◌∷◌, codes, Option}
use Rattle.anb_stage.specs.Children.{limit_word}
use Rattle.anb_base.specs.Wires.{WireState}
use Rattle.anb_partner.specs.declared.trials.ChildEnd.{ChildEnd}
use Rattle.anb_partner.specs.declared.trials.Target.{Target}
use Rattle.anb_partner.specs.declared.trials.Target.TheVariants.{Program, Dial}

-- What its output and its input tell, the words that were asked of it, each with a line feed, and how it
-- ends: each may be untold. While it runs its pipes are told by itself, and here once it is finished. How
-- often starting it or waiting for its end has failed, up to the last value of a u64, and whether it was
-- silent for too long. Its phase is 0 before it was started, 1 once it was, and 2 once it was finished.
pub record Trial : Type 0 where
  pub pipes : WireState
  pub asked : Option (List ℕ)
  pub ends : Option ChildEnd
  pub faults : ℕ
  pub silent : Bool
  pub phase : ℕ

-- what is tried, as words: a program and its words, or the place where it is dialled
abbrev pub target_words : Target → List (List ℕ)
target_words (Program words) = codes "--" ∷ words.now
target_words (Dial place) = codes "--dial" ∷ place.now ∷ []

-- What is asked of a child: for how many seconds it may be silent, as a word, which is empty where there is no limit; and
-- these words.
abbrev pub asked_with : (limit : Option ℕ) → (words : List (List ℕ)) → List (List ℕ)
asked_with limit words = limit_word limit ∷ words

-- those of what is tried
abbrev pub asked_words : (limit : Option ℕ) → Target → List (List ℕ)
asked_words limit target = asked_with limit (target_words target)

-- what a start that failed leaves
pub record IsUnstarted (old new : Trial) : Type 0 where
  pub pipes : new.pipes ≡ old.pipes
  pub asked : new.asked ≡ old.asked
  pub phase : new.phase ≡ old.phase

-- what a finish leaves
pub record KeptByFinish (old new : Trial) : Type 0 where
  pub asked : new.asked ≡ old.asked
  pub ends : new.ends ≡ old.ends

-- the children of all other cases are as before
abbrev pub OthersStay : ℕ → (old new : ℕ → Trial) → Type 0
OthersStay case old new = (other : ℕ) → other ≢ case → new other ≡ old other
