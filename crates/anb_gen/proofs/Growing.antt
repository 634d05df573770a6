-- The actions of a drill, one exchange after another.
use Rattle.std.proofs.Common.{◌≡◌, ℕ, ◌+◌, ◌-◌, ◌≤◌, List, [], ◌∷◌, ◌++◌, map, refl, sym, ap, ◌∙◌, arith}
use Rattle.std.specs.List.{flat_map, range_with_len}
use Rattle.std.proofs.lemmas.List.{map-append}
use Rattle.std.proofs.lemmas.List.FromFn.{map-range_with_len_more}
use Rattle.std.proofs.lemmas.Grind.{flat_map-append}
use Rattle.anb_syntax.specs.Grammar.{ActionItem}
use Rattle.anb_gen.specs.Drill.{opening, exchange, closing, drill_actions, drill_narration}
use Rattle.anb_gen.specs.Turns.{action_turns, turns_of}

-- the actions before exchange i
abbrev pub before_exchange : ℕ → List ActionItem
before_exchange i = opening ∷ map exchange (range_with_len 1 (i - 1))

-- the turns before it
abbrev pub turns_before : ℕ → List ℕ
turns_before i = flat_map action_turns (before_exchange i)

one_more : (i : ℕ) → 1 ≤ i → before_exchange (i + 1) ≡ before_exchange i ++ exchange i ∷ []
one_more i h =
    let here : (i + 1) - 1 ≡ (i - 1) + 1 = omega arith in
    rw (here, map-range_with_len_more exchange 1 (i - 1) i (omega arith)) refl

all : (n : ℕ) → before_exchange (n + 1) ++ closing ∷ [] ≡ drill_actions n
all n = let here : (n + 1) - 1 ≡ n = omega arith in rw here refl

-- the same of the actions as a vector's items stand for them, and of their turns
pub action_more : {A : Type 0} (f : A → ActionItem) (i : ℕ) (before after : List A) (a : A) → 1 ≤ i
    → map f before ≡ before_exchange i → f a ≡ exchange i → after ≡ before ++ a ∷ [] → map f after ≡ before_exchange (i + 1)
action_more f i before after a h e own g = ap (map f) g ∙ map-append f before (a ∷ []) ∙ rw (e, own) (sym (one_more i h))

pub actions_end : {A : Type 0} (f : A → ActionItem) (n : ℕ) (before after : List A) (a : A)
    → map f before ≡ before_exchange (n + 1) → f a ≡ closing → after ≡ before ++ a ∷ [] → map f after ≡ drill_actions n
actions_end f n before after a e own g = ap (map f) g ∙ map-append f before (a ∷ []) ∙ rw (e, own) (all n)

pub turns_more : (i : ℕ) (before own after : List ℕ) → 1 ≤ i
    → before ≡ turns_before i → own ≡ action_turns (exchange i) → after ≡ before ++ own → after ≡ turns_before (i + 1)
turns_more i before own after h e f g =
    g ∙ rw (e, f) (sym (ap (flat_map action_turns) (one_more i h) ∙ flat_map-append action_turns (before_exchange i) (exchange i ∷ [])))

pub turns_end : (n : ℕ) (before after : List ℕ) → before ≡ turns_before (n + 1) → after ≡ before ++ action_turns closing → after ≡ turns_of (drill_narration n)
unfolding drill_narration
turns_end n before after e g =
    g ∙ rw e (sym (flat_map-append action_turns (before_exchange (n + 1)) (closing ∷ [])) ∙ ap (flat_map action_turns) (all n))
