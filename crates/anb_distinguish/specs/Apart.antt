-- When a variable tells two terms apart.
use Rattle.std.specs.Prelude.{◌≡◌, ◌≢◌, ℕ, ◌+◌, ◌<◌, List, map}
use Rattle.anb_term.specs.Tree.{Tree, trees_of}
use Rattle.anb_unify.specs.Substitutions.{put_in, KeepsNames, IsNamed, AreNamed}
use Rattle.anb_distinguish.specs.Finding.{spared}

-- these terms in the places of variables make two terms one, over the names alone
pub record MakesOne (names : ℕ) (honest : ℕ → Tree) (one other : Tree) : Type 0 where
  pub keeps : KeepsNames (names + 1) honest
  pub same : put_in honest one ≡ put_in honest other
  pub named : IsNamed names (put_in honest one)

abbrev pub AreOneFor : ℕ → Tree → Tree → Type 0
AreOneFor names one other = (honest : ℕ → Tree) × MakesOne names honest one other

-- the spare name in the place of this variable makes them differ, whatever the honest terms of the others are
abbrev pub TellsApart : ℕ → Tree → Tree → ℕ → Type 0
TellsApart names one other v = (names < v) × ((honest : ℕ → Tree) → MakesOne names honest one other → put_in (spared names v honest) one ≢ put_in (spared names v honest) other)

-- the same of each two in order
pub record MakesAllOne (names : ℕ) (honest : ℕ → Tree) (ones others : List Tree) : Type 0 where
  pub keeps : KeepsNames (names + 1) honest
  pub same : map (put_in honest) ones ≡ map (put_in honest) others
  pub named : AreNamed names (trees_of (map (put_in honest) ones))

abbrev pub AreAllOneFor : ℕ → List Tree → List Tree → Type 0
AreAllOneFor names ones others = (honest : ℕ → Tree) × MakesAllOne names honest ones others

abbrev pub TellsAllApart : ℕ → List Tree → List Tree → ℕ → Type 0
TellsAllApart names ones others v = (names < v) × ((honest : ℕ → Tree) → MakesAllOne names honest ones others → map (put_in (spared names v honest)) ones ≢ map (put_in (spared names v honest)) others)
