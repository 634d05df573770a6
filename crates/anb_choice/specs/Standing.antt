-- Tokens that stand in a text, one behind another.
use Rattle.std.specs.Prelude.{◌≡◌, ℕ, ◌<◌, ◌≤◌, List, [], ◌∷◌, length, true, false}
use Rattle.anb_syntax.specs.Words.{is_name}
use Rattle.anb_choice.specs.declared.marks.Kind.TheVariants.{Name}
use Rattle.anb_choice.specs.declared.marks.Mark.{Mark}
use Rattle.anb_choice.specs.declared.order.Span.{Span}
use Rattle.anb_choice.specs.Order.{bytes_between, ends_looking}

-- the token stands in the text, from this offset on
pub record IsWithin (x : List ℕ) (from : ℕ) (m : Mark) : Type 0 where
  pub low : from ≤ m.at
  pub bytes : m.at ≤ m.past
  pub high : m.past ≤ length x
  pub some : ends_looking m.kind ≡ false → m.at < m.past
  pub name : m.kind ≡ Name → is_name (bytes_between x m.at m.past) ≡ true

-- and these do, from an offset to another
abbrev pub Stand : List ℕ → ℕ → List Mark → ℕ → Type 0
Stand x from [] to = from ≡ to
Stand x from (m ∷ ms) to = IsWithin x from m × Stand x m.past ms to

-- the bytes stand in the text, behind an offset
pub record IsSpanOf (x : List ℕ) (behind : ℕ) (s : Span) : Type 0 where
  pub low : behind < s.from
  pub bytes : s.from ≤ s.to
  pub high : s.to ≤ length x
