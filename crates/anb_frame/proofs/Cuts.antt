-- Each input has exactly one cut.
use Rattle.std.proofs.Common.{◌≡◌, ◌+◌, ◌<◌, ◌≤◌, ◌^◌, inl, inr, ℕ, zero, suc, List, [], ◌∷◌, ◌++◌, length, take, drop, Option, Some, None, All, refl, sym, ap, ◌∙◌, arith, append_assoc, length-append}
use Rattle.std.specs.Int.{w32, from_be_bytes}
use Rattle.std.proofs.lemmas.Bool.{cases_lt}
use Rattle.std.proofs.lemmas.Nat.{be_bytes_4}
use Rattle.std.proofs.lemmas.List.{take_at, drop_at, append-nil, take-append-drop, length-take-le, length-drop, nil_from_length}
use Rattle.std.proofs.lemmas.List.Elements.{All-nil, All-cons, All-head, All-tail}
use Rattle.anb_base.specs.Bytes.{IsBytes}
use Rattle.anb_base.specs.Moves.{Took, AtEnd}
use Rattle.anb_base.proofs.Strings.{take_bytes, drop_bytes}
use Rattle.anb_frame.specs.Frames.{length_bytes, frame, frames, IsPart}
use Rattle.anb_frame.specs.Cuts.{Tail, End, Short, Long, Ends, Cut, CutLeft}
use Rattle.anb_frame.proofs.Lengths.{length-length_bytes, same_length_bytes}

pub length_said : (n : ℕ) (xs : List ℕ) → length (length_bytes n ++ xs) ≡ 4 + length xs
length_said n xs = omega (arith, length-append (length_bytes n) xs, length-length_bytes n)

-- a whole frame of at most limit bytes, whatever follows it, is no tail
no_tail : (limit : ℕ) (b xs : List ℕ) (tail : Tail) → limit < 2 ^ 32 → length b ≤ limit → Ends limit (length_bytes (length b) ++ (b ++ xs)) tail → ⊥
no_tail limit b xs End small fits e = let l = length_said (length b) (b ++ xs) in let n : length (length_bytes (length b) ++ (b ++ xs)) ≡ 0 = ap length e in absurd (omega arith)
no_tail limit b xs (Short have need) small fits e = elim (e.2) [
  | inl p ↦ absurd (omega (arith, length_said (length b) (b ++ xs), p.0))
  | inr p ↦ let s = same_length_bytes (length b) p.0 (b ++ xs) p.1 (omega arith) (omega (arith, p.3)) p.2 in absurd (omega (arith, s.0, ap length s.1, length-append b xs, p.4))
]
no_tail limit b xs (Long len) small fits e = let s = same_length_bytes (length b) len (b ++ xs) e.0 (omega arith) e.3 e.1 in absurd (omega (arith, s.0, e.2))

-- a part of a frame needs one number of bytes
same_need : (limit : ℕ) (z : List ℕ) (need other : ℕ) → limit < 2 ^ 32 → IsPart limit z need → IsPart limit z other → need ≡ other
same_need limit z need other small p q = elim p [
  | inl a ↦ elim q [
    | inl b ↦ a.1 ∙ sym b.1
    | inr b ↦ absurd (omega (arith, a.0, ap length b.2, length_said b.0 b.1))
  ]
  | inr a ↦ elim q [
    | inl b ↦ absurd (omega (arith, b.0, ap length a.2, length_said a.0 a.1))
    | inr b ↦ let s = same_length_bytes a.0 b.0 a.1 b.1 (omega (arith, a.3)) (omega (arith, b.3)) (sym a.2 ∙ b.2) in omega (arith, s.0, a.5, b.5)
  ]
]

-- what is within a frame is no length above the limit
no_length : (limit : ℕ) (z rest : List ℕ) (need len : ℕ) → IsPart limit z need → z ≡ length_bytes len ++ rest → limit < len → len < 2 ^ 32 → ⊥
no_length limit z rest need len p e above small = elim p [
  | inl a ↦ omega (arith, a.0, ap length e, length_said len rest)
  | inr a ↦ let s = same_length_bytes a.0 len a.1 rest (omega (arith, a.3)) small (sym a.2 ∙ e) in omega (arith, s.0, a.3)
]

same_tail : (limit : ℕ) (z : List ℕ) (tail other : Tail) → limit < 2 ^ 32 → Ends limit z tail → Ends limit z other → tail ≡ other
same_tail limit z End End small p q = refl
same_tail limit z End (Short h n) small p q = absurd (omega (arith, ap length p, q.0))
same_tail limit z End (Long len) small p q = absurd (omega (arith, ap length p, ap length q.1, length_said len q.0))
same_tail limit z (Short h n) End small p q = absurd (omega (arith, ap length q, p.0))
same_tail limit z (Short h n) (Short i m) small p q = let e : h ≡ i = sym p.1 ∙ q.1 in let f : n ≡ m = same_need limit z n m small p.2 q.2 in cc
same_tail limit z (Short h n) (Long len) small p q = absurd (no_length limit z q.0 n len p.2 q.1 q.2 q.3)
same_tail limit z (Long len) End small p q = absurd (omega (arith, ap length q, ap length p.1, length_said len p.0))
same_tail limit z (Long len) (Short h n) small p q = absurd (no_length limit z p.0 n len q.2 p.1 p.2 p.3)
same_tail limit z (Long len) (Long l) small p q = let s = same_length_bytes len l p.0 q.0 p.3 q.3 (sym p.1 ∙ q.1) in ap Long s.0

-- the cut of a tail has no frame
pub cut_of_tail : (limit : ℕ) (z : List ℕ) (t : Tail) (bs : List (List ℕ)) (tail : Tail) → limit < 2 ^ 32 → Ends limit z t → Cut limit z bs tail → (bs ≡ []) × (tail ≡ t)
cut_of_tail limit z t [] tail small e c = (refl, same_tail limit z tail t small (rw c.1 c.3) e)
cut_of_tail limit z t (b ∷ bs) tail small e c =
    let whole : z ≡ length_bytes (length b) ++ (b ++ (frames bs ++ c.0)) = simp append_assoc at c.1 in
    absurd (no_tail limit b (frames bs ++ c.0) t small (All-head (λ x. length x ≤ limit) b bs c.2) (rw whole at e))

-- the cut of a frame and what follows it
pub cut_of_frame : (limit : ℕ) (b xs : List ℕ) (bs : List (List ℕ)) (tail : Tail) → limit < 2 ^ 32 → length b ≤ limit → Cut limit (frame b ++ xs) bs tail → (rest : List (List ℕ)) × (bs ≡ b ∷ rest) × Cut limit xs rest tail
cut_of_frame limit b xs [] tail small fits c = absurd (no_tail limit b xs tail small fits (rw (sym (append_assoc (length_bytes (length b)) b xs) ∙ c.1) c.3))
cut_of_frame limit b xs (d ∷ ds) tail small fits c =
    let fits_too = All-head (λ x. length x ≤ limit) d ds c.2 in
    let both : length_bytes (length b) ++ (b ++ xs) ≡ length_bytes (length d) ++ (d ++ (frames ds ++ c.0)) = simp append_assoc at c.1 in
    let s = same_length_bytes (length b) (length d) (b ++ xs) (d ++ (frames ds ++ c.0)) (omega arith) (omega arith) both in
    let same : b ≡ d = sym (take_at b xs (length b) refl) ∙ ap (take (length b)) s.1 ∙ take_at d (frames ds ++ c.0) (length b) (sym s.0) in
    let after : xs ≡ frames ds ++ c.0 = sym (drop_at b xs (length b) refl) ∙ ap (drop (length b)) s.1 ∙ drop_at d (frames ds ++ c.0) (length b) (sym s.0) in
    (ds, ap (λ x. x ∷ ds) (sym same), (c.0, after, All-tail (λ x. length x ≤ limit) d ds c.2, c.3))

pub same_cut : (limit : ℕ) → limit < 2 ^ 32 → (x : List ℕ) (bs cs : List (List ℕ)) (tail other : Tail) → Cut limit x bs tail → Cut limit x cs other → (bs ≡ cs) × (tail ≡ other)
same_cut limit small x [] cs tail other c d = let s = cut_of_tail limit x tail cs other small (rw c.1 c.3) d in (sym s.0, sym s.1)
same_cut limit small x (b ∷ bs) cs tail other c d =
    let whole : x ≡ frame b ++ (frames bs ++ c.0) = c.1 ∙ append_assoc (frame b) (frames bs) c.0 in
    let r = cut_of_frame limit b (frames bs ++ c.0) cs other small (All-head (λ x. length x ≤ limit) b bs c.2) (rw whole at d) in
    let s = same_cut limit small (frames bs ++ c.0) bs r.0 tail other (c.0, refl, All-tail (λ x. length x ≤ limit) b bs c.2, c.3) r.2 in
    (ap (λ t. b ∷ t) s.0 ∙ sym r.1, s.1)

-- four bytes are a length
some_length : (x : List ℕ) → IsBytes x → length x ≡ 4 → (from_be_bytes w32 x < 2 ^ 32) × (length_bytes (from_be_bytes w32 x) ≡ x)
unfolding length_bytes
some_length x bytes four = (omega (arith, bytes 0, bytes 1, bytes 2, bytes 3), be_bytes_4 x (from_be_bytes w32 x) four bytes refl)

abbrev Found : ℕ → List ℕ → Type 0
Found limit x = (bs : List (List ℕ)) × (tail : Tail) × Cut limit x bs tail

-- an input that is all tail
tail_alone : (limit : ℕ) (x : List ℕ) (tail : Tail) → Ends limit x tail → Found limit x
tail_alone limit x tail e = ([], tail, (x, refl, All-nil (λ b. length b ≤ limit), e))

-- a cut with one frame more in front
one_more : (limit n : ℕ) (x r : List ℕ) → n ≤ limit → n ≤ length r → x ≡ length_bytes n ++ r → Found limit (drop n r) → Found limit x
one_more limit n x r fits there e f =
    let size : length (take n r) ≡ n = length-take-le n r there in
    let after : x ≡ length_bytes n ++ (take n r ++ (frames f.0 ++ f.2.0)) = e ∙ ap (λ t. length_bytes n ++ t) (sym (take-append-drop n r) ∙ ap (λ t. take n r ++ t) f.2.1) in
    let whole : x ≡ frames (take n r ∷ f.0) ++ f.2.0 = simp (append_assoc, size) after in
    (take n r ∷ f.0, f.1, (f.2.0, whole, All-cons (λ b. length b ≤ limit) (take n r) f.0 (rw size fits) f.2.2, f.2.3))

cut_within : (size limit : ℕ) (x : List ℕ) → length x ≤ size → IsBytes x → Found limit x
cut_within zero limit x small bytes = tail_alone limit x End (nil_from_length x (omega arith))
cut_within (suc size) limit x small bytes = elim (cases_lt 0 (length x)) [
  | inr h ↦ tail_alone limit x End (nil_from_length x (omega arith))
  | inl some ↦ elim (cases_lt (length x) 4) [
    | inl h ↦ tail_alone limit x (Short (length x) 4) (some, refl, inl (h, refl))
    | inr four ↦
        let l = some_length (take 4 x) (take_bytes 4 x bytes) (length-take-le 4 x four) in
        let n : ℕ = from_be_bytes w32 (take 4 x) in
        let r : List ℕ = drop 4 x in
        let whole : x ≡ length_bytes n ++ r = sym (take-append-drop 4 x) ∙ ap (λ t. t ++ r) (sym l.1) in
        elim (cases_lt limit n) [
          | inl above ↦ tail_alone limit x (Long n) (r, whole, above, l.0)
          | inr fits ↦ elim (cases_lt (length r) n) [
            | inl short ↦ tail_alone limit x (Short (length x) (4 + n)) (some, refl, inr (n, r, whole, fits, short, refl))
            | inr there ↦ one_more limit n x r fits there whole (cut_within size limit (drop n r) (omega (arith, length-drop {A = ℕ})) (drop_bytes n r (drop_bytes 4 x bytes)))
          ]
        ]
  ]
]

pub some_cut : (limit : ℕ) (x : List ℕ) → IsBytes x → (bs : List (List ℕ)) × (tail : Tail) × Cut limit x bs tail
some_cut limit x bytes = cut_within (length x) limit x (omega arith) bytes

-- a length, and fewer bytes than it says
pub short_body : (limit n m : ℕ) (body : List ℕ) → n ≤ limit → length body ≡ m → m < n → Ends limit (length_bytes n ++ body) (Short (4 + m) (4 + n))
short_body limit n m body fits size short = let l = length_said n body in (omega arith, omega arith, inr (n, body, refl, fits, omega arith, refl))

-- what an answer of `take` says of the cut of what was left
pub follows_tail : (limit : ℕ) (old new : Option (List ℕ)) (z : List ℕ) (t : Tail) (bs : List (List ℕ)) (tail : Tail) → limit < 2 ^ 32 → Took old new z → AtEnd new → Ends limit z t → CutLeft limit old bs tail → (bs ≡ []) × (tail ≡ t)
follows_tail limit None new z t bs tail small took at e c = absurd c
follows_tail limit (Some x) None z t bs tail small took at e c = absurd took
follows_tail limit (Some x) (Some y) z t bs tail small took at e c = cut_of_tail limit x t bs tail small (rw (took ∙ ap (λ r. z ++ r) at ∙ append-nil z) e) c

pub follows_long : (limit : ℕ) (old new : Option (List ℕ)) (len : ℕ) (bs : List (List ℕ)) (tail : Tail) → limit < len → len < 2 ^ 32 → Took old new (length_bytes len) → CutLeft limit old bs tail → (bs ≡ []) × (tail ≡ Long len)
follows_long limit None new len bs tail above small took c = absurd c
follows_long limit (Some x) None len bs tail above small took c = absurd took
follows_long limit (Some x) (Some y) len bs tail above small took c = cut_of_tail limit x (Long len) bs tail (omega arith) (y, took, above, small) c

pub follows_frame : (limit : ℕ) (old new : Option (List ℕ)) (b : List ℕ) (bs : List (List ℕ)) (tail : Tail) → limit < 2 ^ 32 → length b ≤ limit → Took old new (frame b) → CutLeft limit old bs tail → (rest : List (List ℕ)) × (bs ≡ b ∷ rest) × CutLeft limit new rest tail
follows_frame limit None new b bs tail small fits took c = absurd c
follows_frame limit (Some x) None b bs tail small fits took c = absurd took
follows_frame limit (Some x) (Some y) b bs tail small fits took c = cut_of_frame limit b y bs tail small fits (rw took at c)

-- whole frames and then a part of one: the cut of what was taken before a fault
pub cut_of_part : (limit : ℕ) (bs : List (List ℕ)) (z : List ℕ) (need : ℕ) → All (λ b. length b ≤ limit) bs → IsPart limit z need → (tail : Tail) × Cut limit (frames bs ++ z) bs tail
cut_of_part limit bs z need fits p = elim (cases_lt 0 (length z)) [
  | inl some ↦ (Short (length z) need, (z, refl, fits, (some, refl, p)))
  | inr none ↦ (End, (z, refl, fits, nil_from_length z (omega arith)))
]
