-- Lines that go along the partner's plan go along the role's.
use Rattle.std.proofs.Common.{◌≡◌, ℕ, zero, suc, ◌+◌, ◌≤◌, List, [], ◌∷◌, ◌++◌, length, map, take, drop, Bool, true, false, Option, Some, None, IfSome, slice_get, refl, ap, ◌∙◌, arith}
use Rattle.std.specs.Prelude.{if◌then◌else◌}
use Rattle.anb_plays.specs.Honest.{heard}
use Rattle.anb_protocol.specs.Plans.{PlanEvent, to_know, to_make, to_send, to_receive}
use Rattle.anb_protocol.specs.Plays.{event_of}
use Rattle.anb_term.specs.Tree.{Tree}
use Rattle.anb_transcript.specs.declared.transcript.TranscriptLine.{TranscriptLine}
use Rattle.anb_transcript.specs.declared.transcript.TranscriptLine.TheVariants.{In, Out}
use Rattle.anb_judge.specs.Verdicts.{in_place, line_bytes, sides}
use Rattle.anb_partner.specs.Plans.{has_atom, hook, lines_before, mirrored, said}
use Rattle.anb_partner.specs.Talks.{flipped}

-- the lines go the ways of a plan with these sides
abbrev pub Fits : List Bool → List TranscriptLine → Type 0
Fits ss lines = in_place ss lines ≡ map line_bytes lines

-- whether the plan's side says the message behind them, where there is one
abbrev pub next : List Bool → List TranscriptLine → Option Bool
next ss lines = slice_get ss (length lines)

pub fits_none : (ss : List Bool) → Fits ss []
fits_none [] = refl
fits_none (true ∷ ss) = refl
fits_none (false ∷ ss) = refl

-- Lines of the role, and those of the partner: where the partner is to say something next, the role is to hear it, and
-- where the partner has come to its end, so has the role.
pub record Along (ss : List Bool) (lines : List TranscriptLine) (ee : List Bool) (own : List TranscriptLine) : Type 0 where
  pub fits : Fits ss lines
  pub hears : next ee own ≡ Some true → next ss lines ≡ Some false
  pub over : next ee own ≡ None → next ss lines ≡ None

along_said : (ss : List Bool) (lines : List TranscriptLine) (ee : List Bool) (own : List TranscriptLine) (b : List ℕ) → Along ss lines ee own → Along (true ∷ ss) (Out b ∷ lines) (false ∷ ee) (In b ∷ own)
along_said ss lines ee own b a = record { fits = ap (λ l. b ∷ l) a.fits; hears = a.hears; over = a.over }

along_heard : (ss : List Bool) (lines : List TranscriptLine) (ee : List Bool) (own : List TranscriptLine) (b : List ℕ) → Along ss lines ee own → Along (false ∷ ss) (In b ∷ lines) (true ∷ ee) (Out b ∷ own)
along_heard ss lines ee own b a = record { fits = ap (λ l. b ∷ l) a.fits; hears = a.hears; over = a.over }

-- ---- the partner's plan, by the role's

abbrev pub sides_of : List PlanEvent → List Bool
sides_of es = sides (map event_of es)

abbrev pub heard_in : List PlanEvent → ℕ
heard_in es = length (heard (map event_of es))

abbrev pub said_in : List PlanEvent → ℕ
said_in es = length (said (map event_of es))

-- nothing of the role's, and the partner is to hear, or to say something
waits_said : (ss ee : List Bool) → Along (true ∷ ss) [] (false ∷ ee) []
waits_said ss ee = record { fits = refl; hears = λ e. absurd (cc); over = λ e. absurd (cc) }

waits_heard : (ss ee : List Bool) → Along (false ∷ ss) [] (true ∷ ee) []
waits_heard ss ee = record { fits = refl; hears = λ e. refl; over = λ e. absurd (cc) }

nothing : Along [] [] [] []
nothing = record { fits = refl; hears = λ e. absurd (cc); over = λ e. refl }

-- ---- tests

pub either : {X : Type 0} (P : X → Type 0) (x : Bool) (a b : X) → P a → P b → P (if x then a else b)
either P true a b p q = p
either P false a b p q = q

decided : (P : Bool → Type 0) (x : Bool) → P true → P false → P x
decided P true p q = p
decided P false p q = q

pub one_less : (o : Option ℕ) (n k : ℕ) → IfSome o (λ at. n + suc k ≤ at) → IfSome o (λ at. (n + 1) + k ≤ at)
one_less None n k few = tt
one_less (Some at) n k few = omega (arith, few)

pub counted : (n k : ℕ) → n + suc k ≡ (n + 1) + k
counted n k = omega arith

-- ---- one line more

said_next : (ss ee : List Bool) (ls : List TranscriptLine) → ((ls : List TranscriptLine) → Fits ee (map flipped ls) → Along ss ls ee (map flipped ls)) → Fits (false ∷ ee) (map flipped ls) → Along (true ∷ ss) ls (false ∷ ee) (map flipped ls)
said_next ss ee [] on fits = waits_said ss ee
said_next ss ee (In b ∷ ls) on fits = absurd (cc)
said_next ss ee (Out b ∷ ls) on fits = along_said ss ls ee (map flipped ls) b (on ls (cc))

heard_next : (ss ee : List Bool) (ls : List TranscriptLine) → ((ls : List TranscriptLine) → Fits ee (map flipped ls) → Along ss ls ee (map flipped ls)) → Fits (true ∷ ee) (map flipped ls) → Along (false ∷ ss) ls (true ∷ ee) (map flipped ls)
heard_next ss ee [] on fits = waits_heard ss ee
heard_next ss ee (Out b ∷ ls) on fits = absurd (cc)
heard_next ss ee (In b ∷ ls) on fits = along_heard ss ls ee (map flipped ls) b (on ls (cc))

-- where a value is changed behind some line, and these aren't more
module _ (ss ee : List Bool) (o : Option ℕ) (n : ℕ) (on : (ls : List TranscriptLine) → IfSome o (λ at. (n + 1) + length ls ≤ at) → Fits ee (map flipped ls) → Along ss ls ee (map flipped ls)) where
  said_before : (ls : List TranscriptLine) → IfSome o (λ at. n + length ls ≤ at) → Fits (false ∷ ee) (map flipped ls) → Along (true ∷ ss) ls (false ∷ ee) (map flipped ls)
  said_before [] few fits = waits_said ss ee
  said_before (In b ∷ ls) few fits = absurd (cc)
  said_before (Out b ∷ ls) few fits = along_said ss ls ee (map flipped ls) b (on ls (one_less o n (length ls) few) (cc))

  heard_before : (ls : List TranscriptLine) → IfSome o (λ at. n + length ls ≤ at) → Fits (true ∷ ee) (map flipped ls) → Along (false ∷ ss) ls (true ∷ ee) (map flipped ls)
  heard_before [] few fits = waits_heard ss ee
  heard_before (Out b ∷ ls) few fits = absurd (cc)
  heard_before (In b ∷ ls) few fits = along_heard ss ls ee (map flipped ls) b (on ls (one_less o n (length ls) few) (cc))

none_before : (ss ee : List Bool) (n : ℕ) (ls : List TranscriptLine) → n + length ls ≤ n → Along (false ∷ ss) ls (true ∷ ee) (map flipped ls)
none_before ss ee n [] few = waits_heard ss ee
none_before ss ee n (l ∷ ls) few = absurd (omega (arith, few))

-- the partner's lines where a value is changed behind the first k
abbrev pub changed_lines : (k : ℕ) (right wrong : List ℕ) → List TranscriptLine → List TranscriptLine
changed_lines k right wrong ls = map flipped (take k ls) ++ Out right ∷ In wrong ∷ map flipped (drop k ls)

module _ (right wrong : List ℕ) where
  -- there
  changed_here : (ss ee : List Bool) (ls : List TranscriptLine) → ((ls : List TranscriptLine) → Fits ee (map flipped ls) → Along ss ls ee (map flipped ls))
      → Fits (true ∷ false ∷ true ∷ ee) (changed_lines 0 right wrong ls) → Along (false ∷ ss) ls (true ∷ false ∷ true ∷ ee) (changed_lines 0 right wrong ls)
  changed_here ss ee [] on fits = record { fits = refl; hears = λ e. refl; over = λ e. absurd (cc) }
  changed_here ss ee (Out b ∷ ls) on fits = absurd (cc)
  changed_here ss ee (In b ∷ ls) on fits = (let a = on ls (cc) in record { fits = ap (λ l. b ∷ l) a.fits; hears = a.hears; over = a.over })

  at_once : (ss ee : List Bool) (n k : ℕ) (ls : List TranscriptLine) → ((ls : List TranscriptLine) → Fits ee (map flipped ls) → Along ss ls ee (map flipped ls)) → Some n ≡ Some (n + k)
      → Fits (true ∷ false ∷ true ∷ ee) (changed_lines k right wrong ls) → Along (false ∷ ss) ls (true ∷ false ∷ true ∷ ee) (changed_lines k right wrong ls)
  at_once ss ee n zero ls on is fits = changed_here ss ee ls on fits
  at_once ss ee n (suc k) ls on is fits = (let same : n ≡ n + suc k = cc in absurd (omega (arith, same)))

  -- behind so many lines more
  module _ (ss ee : List Bool) (o : Option ℕ) (n : ℕ) (least : (at : ℕ) → o ≡ Some at → n + 1 ≤ at)
      (on : (k : ℕ) (ls : List TranscriptLine) → o ≡ Some ((n + 1) + k) → k ≤ length ls → Fits ee (changed_lines k right wrong ls) → Along ss ls ee (changed_lines k right wrong ls)) where
    said_changed : (k : ℕ) (ls : List TranscriptLine) → o ≡ Some (n + k) → k ≤ length ls → Fits (false ∷ ee) (changed_lines k right wrong ls) → Along (true ∷ ss) ls (false ∷ ee) (changed_lines k right wrong ls)
    said_changed zero ls is within fits = absurd (omega (arith, least (n + 0) is))
    said_changed (suc k) [] is within fits = absurd (omega (arith, within))
    said_changed (suc k) (In b ∷ ls) is within fits = absurd (cc)
    said_changed (suc k) (Out b ∷ ls) is within fits = along_said ss ls ee (changed_lines k right wrong ls) b (on k ls (is ∙ ap Some (counted n k)) (omega (arith, within)) (cc))

    heard_changed : (k : ℕ) (ls : List TranscriptLine) → o ≡ Some (n + k) → k ≤ length ls → Fits (true ∷ ee) (changed_lines k right wrong ls) → Along (false ∷ ss) ls (true ∷ ee) (changed_lines k right wrong ls)
    heard_changed zero ls is within fits = absurd (omega (arith, least (n + 0) is))
    heard_changed (suc k) [] is within fits = absurd (omega (arith, within))
    heard_changed (suc k) (Out b ∷ ls) is within fits = absurd (cc)
    heard_changed (suc k) (In b ∷ ls) is within fits = along_heard ss ls ee (changed_lines k right wrong ls) b (on k ls (is ∙ ap Some (counted n k)) (omega (arith, within)) (cc))

-- ---- along the plan

-- where no value is changed
pub plain : (spare line : ℕ) (es : List PlanEvent) (ins ms : List Tree) (ls : List TranscriptLine) → heard_in es ≤ length ins → said_in es ≤ length ms
    → Fits (sides_of (mirrored spare None line es ins ms)) (map flipped ls) → Along (sides_of es) ls (sides_of (mirrored spare None line es ins ms)) (map flipped ls)
plain spare line [] ins ms [] hs ss fits = nothing
plain spare line [] ins ms (l ∷ ls) hs ss fits = absurd (cc)
plain spare line (to_know t ∷ es) ins ms ls hs ss fits = plain spare line es ins ms ls hs ss fits
plain spare line (to_make t ∷ es) ins ms ls hs ss fits = plain spare line es ins ms ls hs ss fits
plain spare line (to_send i t ∷ es) ins [] ls hs ss fits = absurd (omega (arith, ss))
plain spare line (to_send i t ∷ es) ins (m ∷ ms) ls hs ss fits =
    said_next (sides_of es) (sides_of (mirrored spare None (line + 1) es ins ms)) ls (λ ks on. plain spare (line + 1) es ins ms ks hs (omega (arith, ss)) on) fits
plain spare line (to_receive i t ∷ es) [] ms ls hs ss fits = absurd (omega (arith, hs))
plain spare line (to_receive i t ∷ es) (a ∷ ins) ms ls hs ss fits =
    let rest = mirrored spare None (line + 1) es ins ms in
    let goes = heard_next (sides_of es) (sides_of rest) ls (λ ks on. plain spare (line + 1) es ins ms ks (omega (arith, hs)) ss on) in
    either (λ es2. Fits (sides_of es2) (map flipped ls) → Along (false ∷ sides_of es) ls (sides_of es2) (map flipped ls)) (has_atom spare a) (hook spare line None ++ to_send line a ∷ rest) (to_send line a ∷ rest) goes goes fits

-- before a value is changed
pub unhooked : (spare line n : ℕ) (r : Tree) (es : List PlanEvent) (ins ms : List Tree) (ls : List TranscriptLine) → heard_in es ≤ length ins → said_in es ≤ length ms
    → IfSome (lines_before spare n es ins) (λ at. n + length ls ≤ at)
    → Fits (sides_of (mirrored spare (Some r) line es ins ms)) (map flipped ls) → Along (sides_of es) ls (sides_of (mirrored spare (Some r) line es ins ms)) (map flipped ls)
unhooked spare line n r [] ins ms [] hs ss few fits = nothing
unhooked spare line n r [] ins ms (l ∷ ls) hs ss few fits = absurd (cc)
unhooked spare line n r (to_know t ∷ es) ins ms ls hs ss few fits = unhooked spare line n r es ins ms ls hs ss few fits
unhooked spare line n r (to_make t ∷ es) ins ms ls hs ss few fits = unhooked spare line n r es ins ms ls hs ss few fits
unhooked spare line n r (to_send i t ∷ es) ins [] ls hs ss few fits = absurd (omega (arith, ss))
unhooked spare line n r (to_send i t ∷ es) ins (m ∷ ms) ls hs ss few fits =
    said_before (sides_of es) (sides_of (mirrored spare (Some r) (line + 1) es ins ms)) (lines_before spare (n + 1) es ins) n
    (λ ks less on. unhooked spare (line + 1) (n + 1) r es ins ms ks hs (omega (arith, ss)) less on) ls few fits
unhooked spare line n r (to_receive i t ∷ es) [] ms ls hs ss few fits = absurd (omega (arith, hs))
unhooked spare line n r (to_receive i t ∷ es) (a ∷ ins) ms ls hs ss few fits =
    let rest = mirrored spare (Some r) (line + 1) es ins ms in
    let behind = mirrored spare None (line + 1) es ins ms in
    let last = hook spare line (Some r) ++ to_send line a ∷ behind in
    let before = lines_before spare (n + 1) es ins in
    decided (λ x. IfSome (if x then Some n else before) (λ at. n + length ls ≤ at) → Fits (sides_of (if x then last else to_send line a ∷ rest)) (map flipped ls)
    → Along (false ∷ sides_of es) ls (sides_of (if x then last else to_send line a ∷ rest)) (map flipped ls))
    (has_atom spare a)
    (λ less on. none_before (sides_of es) (false ∷ true ∷ sides_of behind) n ls less)
    (heard_before (sides_of es) (sides_of rest) before n (λ ks less on. unhooked spare (line + 1) (n + 1) r es ins ms ks (omega (arith, hs)) ss less on) ls)
    few fits

-- the hook isn't before the lines that were counted
pub before_least : (spare n : ℕ) (es : List PlanEvent) (ins : List Tree) (at : ℕ) → lines_before spare n es ins ≡ Some at → n ≤ at
before_least spare n [] ins at is = absurd (cc)
before_least spare n (to_know t ∷ es) ins at is = before_least spare n es ins at is
before_least spare n (to_make t ∷ es) ins at is = before_least spare n es ins at is
before_least spare n (to_send i t ∷ es) ins at is = omega (arith, before_least spare (n + 1) es ins at is)
before_least spare n (to_receive i t ∷ es) [] at is = absurd (cc)
before_least spare n (to_receive i t ∷ es) (a ∷ ins) at is =
    decided (λ x. (if x then Some n else lines_before spare (n + 1) es ins) ≡ Some at → n ≤ at) (has_atom spare a)
    (λ e. let same : n ≡ at = cc in omega (arith, same))
    (λ e. let least = before_least spare (n + 1) es ins at e in omega (arith, least)) is

-- where one is changed
pub hooked : (spare line n k : ℕ) (r : Tree) (es : List PlanEvent) (ins ms : List Tree) (ls : List TranscriptLine) (right wrong : List ℕ) → heard_in es ≤ length ins → said_in es ≤ length ms
    → lines_before spare n es ins ≡ Some (n + k) → k ≤ length ls
    → Fits (sides_of (mirrored spare (Some r) line es ins ms)) (changed_lines k right wrong ls)
    → Along (sides_of es) ls (sides_of (mirrored spare (Some r) line es ins ms)) (changed_lines k right wrong ls)
hooked spare line n k r [] ins ms ls right wrong hs ss is within fits = absurd (cc)
hooked spare line n k r (to_know t ∷ es) ins ms ls right wrong hs ss is within fits = hooked spare line n k r es ins ms ls right wrong hs ss is within fits
hooked spare line n k r (to_make t ∷ es) ins ms ls right wrong hs ss is within fits = hooked spare line n k r es ins ms ls right wrong hs ss is within fits
hooked spare line n k r (to_send i t ∷ es) ins [] ls right wrong hs ss is within fits = absurd (omega (arith, ss))
hooked spare line n k r (to_send i t ∷ es) ins (m ∷ ms) ls right wrong hs ss is within fits =
    said_changed right wrong (sides_of es) (sides_of (mirrored spare (Some r) (line + 1) es ins ms)) (lines_before spare (n + 1) es ins) n (before_least spare (n + 1) es ins)
    (λ j ks e few on. hooked spare (line + 1) (n + 1) j r es ins ms ks right wrong hs (omega (arith, ss)) e few on) k ls is within fits
hooked spare line n k r (to_receive i t ∷ es) [] ms ls right wrong hs ss is within fits = absurd (cc)
hooked spare line n k r (to_receive i t ∷ es) (a ∷ ins) ms ls right wrong hs ss is within fits =
    let rest = mirrored spare (Some r) (line + 1) es ins ms in
    let behind = mirrored spare None (line + 1) es ins ms in
    let last = hook spare line (Some r) ++ to_send line a ∷ behind in
    let before = lines_before spare (n + 1) es ins in
    let own = changed_lines k right wrong ls in
    decided (λ x. (if x then Some n else before) ≡ Some (n + k) → Fits (sides_of (if x then last else to_send line a ∷ rest)) own
    → Along (false ∷ sides_of es) ls (sides_of (if x then last else to_send line a ∷ rest)) own)
    (has_atom spare a)
    (at_once right wrong (sides_of es) (sides_of behind) n k ls (λ ks f. plain spare (line + 1) es ins ms ks (omega (arith, hs)) ss f))
    (λ e on. heard_changed right wrong (sides_of es) (sides_of rest) before n (before_least spare (n + 1) es ins)
    (λ j ks eq few f. hooked spare (line + 1) (n + 1) j r es ins ms ks right wrong (omega (arith, hs)) ss eq few f) k ls e within on)
    is fits
