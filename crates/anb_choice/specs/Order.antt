-- The order of the tokens of a branched text, and what stands where in it.
use Rattle.std.specs.Prelude.{◌≡◌, ◌≤◌, ◌⊎◌, ℕ, ◌+◌, ◌-◌, ◌==◌, not, List, [], ◌∷◌, ◌++◌, length, map, take, drop, Bool, true, false, Option, Some, None, slice_get, if◌then◌else◌}
use Rattle.std.specs.Option.{option_map_or}
use Rattle.std.specs.List.{AllByRecursion, AllZip, count_by, flat_map, list_any, prefix_len}
use Rattle.std.specs.Str.{bytes_eq}
use Rattle.anb_syntax.specs.Words.{Word, name, literal, sign, end, bad, Tok, actions_word, choice_word, goals_word, is_name}
use Rattle.anb_syntax.specs.Lexing.{Lexes, token_here}
use Rattle.anb_protocol.specs.Choices.{first, refuse_if}
use Rattle.anb_choice.specs.declared.marks.Kind.{Kind}
use Rattle.anb_choice.specs.declared.marks.Kind.TheVariants.{Choice, Actions, Colon, Semicolon, Name, Other, Stop, Bad}
use Rattle.anb_choice.specs.declared.marks.Mark.{Mark}
use Rattle.anb_choice.specs.declared.order.Span.{Span}

-- ---- the tokens that are looked at

abbrev pub word_kind : List ℕ → Kind
word_kind b =
    if bytes_eq choice_word b then Choice
    else (if bytes_eq actions_word b then Actions
    else (if bytes_eq goals_word b then Stop
    else (if is_name b then Name else Other)))

abbrev pub sign_kind : ℕ → Kind
sign_kind c = if c == 58 then Colon else (if c == 59 then Semicolon else Other)

-- what a token is in the order; goals and the end stop the looking
abbrev pub kind_of : Word → Kind
kind_of (name b) = word_kind b
kind_of (literal b) = Other
kind_of (sign c) = sign_kind c
kind_of end = Stop
kind_of bad = Bad

abbrev pub len_of : Option (Word × ℕ) → ℕ
len_of None = 0
len_of (Some t) = t.1

-- a token of the text, and the offset past it
abbrev pub mark_of : List ℕ → Tok → Mark
mark_of x t = record { kind = kind_of t.word; at = t.at; past = t.at + len_of (token_here (drop t.at x)) }

abbrev pub ends_looking : Kind → Bool
ends_looking Stop = true
ends_looking Bad = true
ends_looking _ = false

-- the tokens up to the first that ends the looking, which is the last here
abbrev pub looked : List ℕ → List Tok → List Mark
looked x [] = []
looked x (t ∷ ts) = mark_of x t ∷ (if ends_looking (kind_of t.word) then [] else looked x ts)

-- these are the tokens of the text that are looked at
pub record AreMarks (x : List ℕ) (ms : List Mark) : Type 0 where
  pub tokens : List Tok
  pub lexes : Lexes 0 x tokens
  pub are : ms ≡ looked x tokens

abbrev pub is_bad : Kind → Bool
is_bad Bad = true
is_bad _ = false

-- where no token begins
abbrev pub bad_at : List Mark → Option ℕ
bad_at ms = first (λ (m : Mark). refuse_if (is_bad m.kind) m.at) ms

-- ---- their order

abbrev pub kind_at : List Mark → ℕ → Kind
kind_at ms i = option_map_or (λ (m : Mark). m.kind) (slice_get ms i) Other

abbrev pub place_at : List Mark → ℕ → ℕ
place_at ms i = option_map_or (λ (m : Mark). m.at) (slice_get ms i) 0

abbrev pub past_at : List Mark → ℕ → ℕ
past_at ms i = option_map_or (λ (m : Mark). m.past) (slice_get ms i) 0

abbrev pub kind_eqb : Kind → Kind → Bool
kind_eqb Choice Choice = true
kind_eqb Actions Actions = true
kind_eqb Colon Colon = true
kind_eqb Semicolon Semicolon = true
kind_eqb Name Name = true
kind_eqb Other Other = true
kind_eqb Stop Stop = true
kind_eqb Bad Bad = true
kind_eqb _ _ = false

-- how many tokens stand before the first of these kinds
abbrev pub before : List Kind → List Mark → ℕ
before kinds ms = prefix_len (λ (m : Mark). not (list_any (kind_eqb m.kind) kinds)) ms

-- how many tokens the stem has: those before the choice
abbrev pub stem_size : List Mark → ℕ
stem_size ms = before (Choice ∷ Stop ∷ Bad ∷ []) ms

-- ---- the parts of a text with a choice

abbrev pub kinds_of : List Mark → List Kind
kinds_of ms = map (λ (m : Mark). m.kind) ms

-- no token is of one of these kinds
abbrev pub HasNone : List Kind → List Mark → Type 0
HasNone kinds ms = AllByRecursion (λ (m : Mark). list_any (kind_eqb m.kind) kinds ≡ false) ms

-- they end with `;`, or with `Actions` and `:`
abbrev pub IsClosed : List Mark → Type 0
IsClosed ms =
    (front : List Mark) × (last : List Mark) × (ms ≡ front ++ last)
    × ((kinds_of last ≡ Semicolon ∷ []) ⊎ (kinds_of last ≡ Actions ∷ Colon ∷ []))

-- the offset past the last of these tokens
abbrev pub past_last : List Mark → ℕ
past_last [] = 0
past_last (m ∷ []) = m.past
past_last (m ∷ n ∷ ms) = past_last (n ∷ ms)

-- An arm is `Actions`, `:` and tokens that begin no other part and don't end the text. Its bytes are
-- those behind the `:`, up to past its last token.
pub record IsArm (ms : List Mark) (span : Span) : Type 0 where
  pub heading : List Mark
  pub body : List Mark
  pub are : ms ≡ heading ++ body
  pub headed : kinds_of heading ≡ Actions ∷ Colon ∷ []
  pub plain : HasNone (Choice ∷ Actions ∷ Stop ∷ Bad ∷ []) body
  pub from : span.from ≡ past_last heading
  pub to : span.to ≡ past_last ms

-- A text with a choice: a stem that is closed, the choice of a role, two to eight arms, and the end.
pub record HasOrder (ms : List Mark) (spans : List Span) : Type 0 where
  pub stem : List Mark
  pub choice : List Mark
  pub arms : List (List Mark)
  pub stop : List Mark
  pub are : ms ≡ stem ++ (choice ++ (flat_map (λ (arm : List Mark). arm) arms ++ stop))
  pub plain : HasNone (Choice ∷ Stop ∷ Bad ∷ []) stem
  pub closed : IsClosed stem
  pub chosen : kinds_of choice ≡ Choice ∷ Colon ∷ Name ∷ Semicolon ∷ []
  pub each : AllZip IsArm arms spans
  pub few : 2 ≤ length spans
  pub most : length spans ≤ 8
  pub stops : kinds_of stop ≡ Stop ∷ []

-- The first token that is out of order stands at this offset: some text with a choice begins with the
-- tokens before it, and none with these and it.
pub record IsMisplaced (ms : List Mark) (at : ℕ) : Type 0 where
  pub front : List Mark
  pub next : Mark
  pub others : List Mark
  pub are : ms ≡ front ++ next ∷ others
  pub is : at ≡ next.at
  pub viable : (more : List Mark) × (spans : List Span) × HasOrder (front ++ more) spans
  pub none : (more : List Mark) (spans : List Span) → HasOrder (front ++ next ∷ more) spans → ⊥

-- ---- what stands where

-- the offset past the stem
abbrev pub stem_end : List Mark → ℕ
stem_end ms = past_at ms (stem_size ms - 1)

-- how many actions the stem has: each ends with a `;` behind the word `Actions`
abbrev pub stem_actions : List Mark → ℕ
stem_actions ms =
    let stem = take (stem_size ms) ms in
    count_by (λ (m : Mark). kind_eqb m.kind Semicolon) (drop (before (Actions ∷ []) stem) stem)

abbrev pub bytes_between : List ℕ → ℕ → ℕ → List ℕ
bytes_between x from to = take (to - from) (drop from x)

-- the name behind the choice's `:`
abbrev pub chooser_in : List ℕ → List Mark → List ℕ
chooser_in x ms = bytes_between x (place_at ms (stem_size ms + 2)) (past_at ms (stem_size ms + 2))

-- the stem, a line's end, and the arm
abbrev pub straight : List ℕ → List Mark → Span → List ℕ
straight x ms arm = take (stem_end ms) x ++ 10 ∷ bytes_between x arm.from arm.to

-- a line's end, or a space in place of another byte
abbrev pub blank : ℕ → ℕ
blank b = if b == 10 then 10 else 32

-- The text with blanks between the stem and the arm, up to the arm's end: so each token of the two stands where it stands
-- in the text.
abbrev pub in_place : List ℕ → List Mark → Span → List ℕ
in_place x ms arm =
    take (stem_end ms) x ++ (map blank (bytes_between x (stem_end ms) arm.from) ++ bytes_between x arm.from arm.to)
