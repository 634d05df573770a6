-- The order of the tokens as it is looked at: the arms, or the first token that is out of order.
use Rattle.std.specs.Prelude.{ℕ, zero, suc, ◌+◌, ◌-◌, ◌&&◌, ◌||◌, not, List, [], ◌∷◌, ◌++◌, drop, Bool, false, Option, Some, None, Result, Ok, Err, if◌then◌else◌}
use Rattle.anb_protocol.specs.Choices.{refuse_if}
use Rattle.anb_choice.specs.declared.marks.Kind.{Kind}
use Rattle.anb_choice.specs.declared.marks.Kind.TheVariants.{Choice, Actions, Colon, Semicolon, Name, Stop, Bad}
use Rattle.anb_choice.specs.declared.marks.Mark.{Mark}
use Rattle.anb_choice.specs.declared.order.Span.{Span}
use Rattle.anb_choice.specs.Order.{before, kind_at, kind_eqb, past_at, place_at, stem_size}

-- the first tokens, so many, end with `;`, or with `Actions` and `:`
abbrev pub closes_at : List Mark → ℕ → Bool
closes_at ms zero = false
closes_at ms (suc n) = kind_eqb (kind_at ms n) Semicolon || (kind_eqb (kind_at ms n) Colon && kind_eqb (kind_at ms (n - 1)) Actions)

-- the first of these tokens that isn't of its kind
abbrev pub misfit : List Kind → List Mark → Option ℕ
misfit [] ms = None
misfit (k ∷ ks) [] = Some 0
misfit (k ∷ ks) (m ∷ ms) = if kind_eqb k m.kind then misfit ks ms else Some m.at

abbrev pub choice_heading : List Kind
choice_heading = Choice ∷ Colon ∷ Name ∷ Semicolon ∷ []

abbrev pub arm_heading : List Kind
arm_heading = Actions ∷ Colon ∷ []

-- how many tokens stand behind the heading of the arm at the front
abbrev pub arm_size : List Mark → ℕ
arm_size ms = before (Choice ∷ Actions ∷ Stop ∷ Bad ∷ []) (drop 2 ms)

-- the bytes of that arm, from past its `:` to past its last token
abbrev pub arm_span : List Mark → Span
arm_span ms = record { from = past_at ms 1; to = past_at ms (arm_size ms + 1) }

abbrev pub behind_arm : List Mark → List Mark
behind_arm ms = drop (arm_size ms) (drop 2 ms)

abbrev pub unless : {A : Type 0} → Option ℕ → Result A ℕ → Result A ℕ
unless None r = r
unless (Some at) r = Err at

abbrev pub with_front : List Span → Result (List Span) ℕ → Result (List Span) ℕ
with_front front (Ok spans) = Ok (front ++ spans)
with_front front (Err at) = Err at

-- the end, where this many arms at least are still to come
abbrev pub at_end : ℕ → List Mark → Result (List Span) ℕ
at_end zero ms = Ok []
at_end (suc least) ms = Err (place_at ms 0)

-- the arms up to the end, so many at least and so many at most, or the first token that is out of order
unfoldable pub arms_at : ℕ → ℕ → List Mark → Result (List Span) ℕ
arms_at least zero ms = if kind_eqb (kind_at ms 0) Stop then at_end least ms else Err (place_at ms 0)
arms_at least (suc most) ms =
    if kind_eqb (kind_at ms 0) Stop then at_end least ms
    else unless (misfit arm_heading ms) (with_front (arm_span ms ∷ []) (arms_at (least - 1) most (behind_arm ms)))

-- The arms of a branched text, or the first token that is out of order: a stem that is closed, the
-- choice, and two to eight arms.
abbrev pub order : List Mark → Result (List Span) ℕ
order ms =
    let choice = drop (stem_size ms) ms in
    unless (refuse_if (not (closes_at ms (stem_size ms))) (place_at choice 0))
    (unless (misfit choice_heading choice) (arms_at 2 8 (drop 4 choice)))
