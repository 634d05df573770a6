-- The texts of arms, one after another.
use Rattle.std.proofs.Common.{◌≡◌, ℕ, ◌+◌, ◌-◌, ◌≤◌, ◌<◌, List, [], ◌∷◌, ◌++◌, length, map, take, drop, get_or, sym, ap, ◌∙◌, arith}
use Rattle.std.proofs.lemmas.List.{get_or_default, length-append, length-drop, length-map, length-take-le, map-append}
use Rattle.anb_lemmas.proofs.Each.{take_next}
use Rattle.anb_choice.specs.declared.marks.Mark.{Mark}
use Rattle.anb_choice.specs.declared.order.Span.{Span}
use Rattle.anb_choice.specs.Order.{blank, bytes_between, in_place, stem_end}
use Rattle.anb_choice.specs.Standing.{IsSpanOf}

abbrev pub placed : List ℕ → ℕ → Span → List ℕ
placed x n arm = take n x ++ (map blank (bytes_between x n arm.from) ++ bytes_between x arm.from arm.to)

pub next_text : (x : List ℕ) (ms : List Mark) (spans : List Span) (i : ℕ) (d : Span) → i < length spans
    → (texts now : List (List ℕ)) (t : List ℕ) (n : ℕ) → texts ≡ map (in_place x ms) (take i spans) → now ≡ texts ++ t ∷ [] → n ≡ stem_end ms → t ≡ placed x n (get_or spans i d)
    → now ≡ map (in_place x ms) (take (i + 1) spans)
next_text x ms spans i d h texts now t n are put stem is =
    let arm = get_or spans i d in
    put ∙ ap (λ (l : List (List ℕ)). l ++ t ∷ []) are
    ∙ ap (λ (u : List ℕ). map (in_place x ms) (take i spans) ++ u ∷ []) (is ∙ ap (λ k. placed x k arm) stem)
    ∙ sym (map-append (in_place x ms) (take i spans) (arm ∷ []))
    ∙ ap (map (in_place x ms)) (sym (take_next spans i arm h (get_or_default spans i d arm h)))

-- how long such a text is
between_length : (x : List ℕ) (from to : ℕ) → from ≤ to → to ≤ length x → length (bytes_between x from to) ≡ to - from
between_length x from to low high =
    let rest = length-drop from x in
    length-take-le (to - from) (drop from x) (omega (arith, rest, low, high))

pub placed_short : (x : List ℕ) (n : ℕ) (arm : Span) (t : List ℕ) → IsSpanOf x n arm → t ≡ placed x n arm → length t ≤ length x
placed_short x n arm t span is =
    let low = span.low in
    let bytes = span.bytes in
    let high = span.high in
    let blanks = bytes_between x n arm.from in
    let own = bytes_between x arm.from arm.to in
    let a = length-take-le n x (omega (arith, low, bytes, high)) in
    let b = length-map blanks blank ∙ between_length x n arm.from (omega (arith, low)) (omega (arith, bytes, high)) in
    let c = between_length x arm.from arm.to bytes high in
    let d = length-append (take n x) (map blank blanks ++ own) in
    let e = length-append (map blank blanks) own in
    let f : length t ≡ length (take n x ++ (map blank blanks ++ own)) = ap length is in
    omega (arith, low, bytes, high, a, b, c, d, e, f)
