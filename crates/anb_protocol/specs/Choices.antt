-- Words for checks: what the first thing answers that has an answer, and things with those before them.
use Rattle.std.specs.Prelude.{List, [], ◌∷◌, ◌++◌, Bool, Option, Some, None, if◌then◌else◌}
use Rattle.std.specs.Option.{option_or}

abbrev pub refuse_if : {R : Type 0} → Bool → R → Option R
refuse_if wrong refusal = if wrong then Some refusal else None

-- what the first thing answers that has an answer
abbrev pub first : {X R : Type 0} → (X → Option R) → List X → Option R
first f [] = None
first f (x ∷ xs) = option_or (f x) (first f xs)

-- the same, where an answer depends on the things before
abbrev pub first_after : {X R : Type 0} → (List X → X → Option R) → List X → List X → Option R
first_after f before [] = None
first_after f before (x ∷ xs) = option_or (f before x) (first_after f (before ++ x ∷ []) xs)

-- what each thing gives, which depends on the things before
abbrev pub each_after : {X Y : Type 0} → (List X → X → List Y) → List X → List X → List Y
each_after f before [] = []
each_after f before (x ∷ xs) = f before x ++ each_after f (before ++ x ∷ []) xs
