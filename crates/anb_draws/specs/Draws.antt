-- What a role drew, and what it has beside that, as far as who sees the role can tell it.
use Rattle.std.specs.Prelude.{◌≢◌, ◌-◌, ◌<◌, ℕ, zero, suc, List, [], ◌∷◌, ◌++◌, length, map, take, Option, Some, None, slice_get, unwrap_or}
use Rattle.anb_term.specs.Tree.{Tree, leaf, node}
use Rattle.anb_term.specs.Agree.{HasRecipe}
use Rattle.anb_algebra.specs.ByteMeaning.{has_operator}
use Rattle.anb_plays.specs.Plans.{Event, know, fresh, send, recv, known}
use Rattle.anb_plays.specs.Honest.{heard}
use Rattle.anb_protocol.specs.Plays.{GivesBytes}
use Rattle.anb_transcript.specs.declared.following.ReplayEnd.{ReplayEnd}
use Rattle.anb_transcript.specs.declared.following.ReplayEnd.TheVariants.{Follows, Differs, Short, Stopped, NoMemory}
use Rattle.anb_judge.specs.Observed.{observed}
use Rattle.anb_judge.specs.Verdicts.{Judged, Judges, line_bytes, own_plan, up_to}

-- the names that a role makes, in order
abbrev pub names_made : List Event → List ℕ
names_made [] = []
names_made (know t ∷ es) = names_made es
names_made (fresh (leaf a) ∷ es) = a ∷ names_made es
names_made (fresh (node o ts) ∷ es) = names_made es
names_made (send t ∷ es) = names_made es
names_made (recv t ∷ es) = names_made es

-- those that it makes before the message behind so many
abbrev pub names_before : ℕ → List Event → List ℕ
names_before n [] = []
names_before n (know t ∷ es) = names_before n es
names_before n (fresh (leaf a) ∷ es) = a ∷ names_before n es
names_before n (fresh (node o ts) ∷ es) = names_before n es
names_before zero (send t ∷ es) = []
names_before zero (recv t ∷ es) = []
names_before (suc n) (send t ∷ es) = names_before n es
names_before (suc n) (recv t ∷ es) = names_before n es

-- those that it makes before its n-th message
abbrev pub names_by : ℕ → List Event → List ℕ
names_by zero es = []
names_by (suc n) es = names_before n es

-- values of names, each at the number of its name, where it is told
abbrev pub Values : Type 0
Values = List (Option (List ℕ))

abbrev pub value_in : Values → (name : ℕ) → Option (List ℕ)
value_in values name = unwrap_or (slice_get values name) None

-- over how many of so many lines who sees the role goes on
abbrev pub gone_over : ReplayEnd → (lines : ℕ) → ℕ
gone_over Follows lines = lines
gone_over (Differs line due) lines = line - 1
gone_over (Short event) lines = lines
gone_over (Stopped halt line) lines = line - 1
gone_over NoMemory lines = 0

module _ (judged : Judged) (n : ℕ) where
  -- what who sees the role has behind its first n messages, as terms and as bytes: what the role knows, heard and said
  abbrev pub terms_by : List Tree
  terms_by = known (own_plan judged) ++ heard (observed (up_to n (own_plan judged)))

  abbrev pub bytes_by : List (List ℕ)
  bytes_by = judged.initial ++ map line_bytes (take n judged.lines)

  -- where the role made a name by then, each name of the narration is asked for
  abbrev pub IsAsked : (name : ℕ) → Type 0
  IsAsked name = (names_by n (own_plan judged) ≢ []) × (name < length judged.protocol.atoms)

  -- A name is told as these bytes: it can be had of these terms, and each way gives them. Nothing is told where it can't be had.
  abbrev pub Tells : (name : ℕ) → Option (List ℕ) → Type 0
  Tells name (Some value) = IsAsked name × GivesBytes judged.protocol terms_by bytes_by (leaf name) value
  Tells name None = IsAsked name → HasRecipe (has_operator judged.protocol.formats) terms_by (leaf name) → ⊥

-- what names stand for in a conversation, by a transcript: each over the lines on which who sees the role goes on
pub record IsDrawn (judged : Judged) (values : Values) : Type 0 where
  pub end : ReplayEnd
  pub judges : Judges judged end
  pub tells : (name : ℕ) → Tells judged (gone_over end (length judged.lines)) name (value_in values name)
