-- Each input is the frames of some events and a tail, in exactly one way.
use Rattle.std.proofs.Common.{◌≡◌, ◌+◌, ◌<◌, ◌≤◌, ◌^◌, inl, inr, ℕ, zero, suc, List, [], ◌∷◌, ◌++◌, length, take, drop, Bool, true, false, cond, refl, sym, ap, ◌∙◌, subst, arith, append_assoc, length-append, Option, Some, None}
use Rattle.std.specs.Prelude.{◌==◌, nat_lt}
use Rattle.std.specs.Int.{w32, from_be_bytes}
use Rattle.std.proofs.lemmas.Bool.{cases_lt, eqb-true}
use Rattle.std.proofs.lemmas.Nat.{be_bytes_4}
use Rattle.std.proofs.lemmas.List.{take_at, drop_at, take-append-drop, length-take-le, length-drop, nil_from_length}
use Rattle.anb_lemmas.proofs.Numbers.{is_below, isnt_below}
use Rattle.anb_base.specs.Bytes.{IsBytes}
use Rattle.anb_base.specs.Moves.{Took}
use Rattle.anb_base.specs.declared.TheConstants.{ARRIVAL}
use Rattle.anb_base.proofs.Strings.{take_bytes, drop_bytes}
use Rattle.anb_frame.specs.Frames.{length_bytes}
use Rattle.anb_frame.proofs.Lengths.{length-length_bytes, from-length_bytes}
use Rattle.anb_frame.proofs.Cuts.{length_said}
use Rattle.anb_host.specs.declared.event.HostEvent.{HostEvent}
use Rattle.anb_host.specs.declared.event.HostEvent.TheVariants.{Start, Arrive, Oversize}
use Rattle.anb_host.specs.HostFrames.{IsFrame, IsPart, Tail, End, Part, Bad, Ends, HostFrames, FramesLeft}

-- how an input begins: with a frame, and what follows it, or it is all tail
pub data Step : Type 0 where
  stop : Tail → Step
  goes : HostEvent → List ℕ → Step

abbrev pub Begins : List ℕ → Step → Type 0
Begins x (stop tail) = Ends x tail
Begins x (goes e rest) = (z : List ℕ) × (x ≡ z ++ rest) × IsFrame z e

-- ---- the step, computed

abbrev body_step : ℕ → ℕ → List ℕ → Step
body_step s len body =
    cond (nat_lt (length body) len) (stop (Part (9 + length body) (9 + len)))
    (goes (cond (nat_lt ARRIVAL len) (Oversize s len) (Arrive s (take len body))) (drop len body))

abbrev start_step : List ℕ → Step
start_step y = cond (nat_lt (length y) 4) (stop (Part (1 + length y) 5)) (goes (Start (from_be_bytes w32 (take 4 y))) (drop 4 y))

abbrev arrival_step : List ℕ → Step
arrival_step y =
    cond (nat_lt (length y) 8) (stop (Part (1 + length y) 9))
    (body_step (from_be_bytes w32 (take 4 y)) (from_be_bytes w32 (take 4 (drop 4 y))) (drop 4 (drop 4 y)))

abbrev first : List ℕ → Step
first [] = stop End
first (k ∷ y) = cond (k == 0) (start_step y) (cond (k == 1) (arrival_step y) (stop (Bad k)))

is_other : (k n : ℕ) → n < k → (k == n) ≡ false
is_other k n h = by (k == n) refl where
  by : (b : Bool) → (k == n) ≡ b → b ≡ false
  by true e = let is : k ≡ n = eqb-true k n e in absurd (omega arith)
  by false e = refl

-- a number in front
front : (n : ℕ) (xs : List ℕ) → take 4 (length_bytes n ++ xs) ≡ length_bytes n
front n xs = take_at (length_bytes n) xs 4 (length-length_bytes n)

behind : (n : ℕ) (xs : List ℕ) → drop 4 (length_bytes n ++ xs) ≡ xs
behind n xs = drop_at (length_bytes n) xs 4 (length-length_bytes n)

start_is : (s : ℕ) (rest : List ℕ) → s < 2 ^ 32 → start_step (length_bytes s ++ rest) ≡ goes (Start s) rest
start_is s rest small =
    rw (isnt_below (length (length_bytes s ++ rest)) 4 (omega (arith, length_said s rest)), front s rest, behind s rest, from-length_bytes s small) refl

arrival_is : (s len : ℕ) (body : List ℕ) → s < 2 ^ 32 → len < 2 ^ 32 → arrival_step (length_bytes s ++ (length_bytes len ++ body)) ≡ body_step s len body
arrival_is s len body small fits =
    rw (
      isnt_below (length (length_bytes s ++ (length_bytes len ++ body))) 8 (omega (arith, length_said s (length_bytes len ++ body), length_said len body)),
      front s (length_bytes len ++ body),
      behind s (length_bytes len ++ body),
      front len body,
      behind len body,
      from-length_bytes s small,
      from-length_bytes len fits,
    ) refl

part_is : (a b c d : ℕ) → a ≡ b → c ≡ d → stop (Part a c) ≡ stop (Part b d)
part_is a b c d e f = ap (λ n. stop (Part n c)) e ∙ ap (λ n. stop (Part b n)) f

of_part : (x : List ℕ) (have need : ℕ) → length x ≡ have → IsPart x need → first x ≡ stop (Part have need)
of_part x have need long p = elim p [
  | inl a ↦ rw (a.1, is_below (length a.0) 4 a.2) (part_is _ _ _ _ (omega (arith, long, ap length a.1)) (sym a.3))
  | inr q ↦ elim q [
    | inl a ↦ rw (a.1, is_below (length a.0) 8 a.2) (part_is _ _ _ _ (omega (arith, long, ap length a.1)) (sym a.3))
    | inr (s, len, body, e, small, fits, short, is) ↦
        let y : List ℕ = length_bytes s ++ (length_bytes len ++ body) in
        let whole : x ≡ 1 ∷ y = e ∙ ap (λ l. 1 ∷ l) (append_assoc (length_bytes s) (length_bytes len) body) in
        let size : length y ≡ 8 + length body = omega (arith, length_said s (length_bytes len ++ body), length_said len body) in
        rw whole (arrival_is s len body small fits ∙ rw (is_below (length body) len short) (part_is _ _ _ _ (omega (arith, long, ap length whole, size)) (sym is)))
  ]
]

of_frame : (x z rest : List ℕ) (e : HostEvent) → x ≡ z ++ rest → IsFrame z e → first x ≡ goes e rest
of_frame x z rest (Start s) is (small, e) =
    let whole : x ≡ 0 ∷ (length_bytes s ++ rest) = is ∙ ap (λ l. l ++ rest) e in
    rw whole (start_is s rest small)
of_frame x z rest (Arrive s b) is (small, fits, e) =
    let whole : x ≡ 1 ∷ (length_bytes s ++ (length_bytes (length b) ++ (b ++ rest))) =
    is ∙ ap (λ l. l ++ rest) e ∙ ap (λ l. 1 ∷ l) (append_assoc (length_bytes s) (length_bytes (length b) ++ b) rest ∙ ap (λ l. length_bytes s ++ l) (append_assoc (length_bytes (length b)) b rest)) in
    rw whole (arrival_is s (length b) (b ++ rest) small (omega arith)
    ∙ rw (isnt_below (length (b ++ rest)) (length b) (omega (arith, length-append b rest)), isnt_below ARRIVAL (length b) fits, take_at b rest (length b) refl, drop_at b rest (length b) refl) refl)
of_frame x z rest (Oversize s len) is (body, small, above, fits, long, e) =
    let whole : x ≡ 1 ∷ (length_bytes s ++ (length_bytes len ++ (body ++ rest))) =
    is ∙ ap (λ l. l ++ rest) e
    ∙ ap (λ l. 1 ∷ l) (ap (λ l. l ++ rest) (append_assoc (length_bytes s) (length_bytes len) body) ∙ append_assoc (length_bytes s) (length_bytes len ++ body) rest ∙ ap (λ l. length_bytes s ++ l) (append_assoc (length_bytes len) body rest)) in
    rw whole (arrival_is s len (body ++ rest) small fits
    ∙ rw (isnt_below (length (body ++ rest)) len (omega (arith, long, length-append body rest)), is_below ARRIVAL len above, drop_at body rest len long) refl)

begins_so : (x : List ℕ) (step : Step) → Begins x step → first x ≡ step
begins_so x (stop End) e = rw e refl
begins_so x (stop (Part have need)) (long, p) = of_part x have need long p
begins_so x (stop (Bad kind)) (rest, e, above) = rw (e, is_other kind 0 (omega arith), is_other kind 1 above) refl
begins_so x (goes e rest) (z, is, f) = of_frame x z rest e is f

pub same_step : (x : List ℕ) (a b : Step) → Begins x a → Begins x b → a ≡ b
same_step x a b p q = sym (begins_so x a p) ∙ begins_so x b q

-- ---- uniqueness

begins : (x : List ℕ) (e : HostEvent) (events : List HostEvent) (tail : Tail) → HostFrames x (e ∷ events) tail → (rest : List ℕ) × Begins x (goes e rest) × HostFrames rest events tail
begins x e events tail (z, rest, is, f, h) = (rest, (z, is, f), h)

stop_is : (a b : Tail) → stop a ≡ stop b → a ≡ b
stop_is a b e = cc

-- an input that is all tail has no events
pub ends_at : (x : List ℕ) (t : Tail) (events : List HostEvent) (tail : Tail) → Ends x t → HostFrames x events tail → (events ≡ []) × (tail ≡ t)
ends_at x t [] tail e h = (refl, stop_is tail t (same_step x (stop tail) (stop t) h e))
ends_at x t (d ∷ events) tail e h =
    let b = begins x d events tail h in
    let no_way : stop t ≡ goes d b.0 = same_step x (stop t) (goes d b.0) e b.1 in absurd (apart no_way) where
      apart : {rest : List ℕ} → stop t ≡ goes d rest → ⊥
      apart e = cc

-- an input that begins with a frame has its event first
pub goes_on : (x z rest : List ℕ) (e : HostEvent) (events : List HostEvent) (tail : Tail) → x ≡ z ++ rest → IsFrame z e → HostFrames x events tail
    → (others : List HostEvent) × (events ≡ e ∷ others) × HostFrames rest others tail
goes_on x z rest e [] tail is f h = let no_way : stop tail ≡ goes e rest = same_step x (stop tail) (goes e rest) h (z, is, f) in absurd (apart no_way) where
  apart : stop tail ≡ goes e rest → ⊥
  apart e = cc
goes_on x z rest e (d ∷ events) tail is f h =
    let b = begins x d events tail h in
    let same : goes d b.0 ≡ goes e rest = same_step x (goes d b.0) (goes e rest) b.1 (z, is, f) in
    (events, ap (λ y. y ∷ events) (event_is d e b.0 rest same), subst (λ r. HostFrames r events tail) (rest_is d e b.0 rest same) b.2) where
      event_is : (a b : HostEvent) (r s : List ℕ) → goes a r ≡ goes b s → a ≡ b
      event_is a b r s e = cc

      rest_is : (a b : HostEvent) (r s : List ℕ) → goes a r ≡ goes b s → r ≡ s
      rest_is a b r s e = cc

pub one_reading : (x : List ℕ) (events others : List HostEvent) (tail other : Tail) → HostFrames x events tail → HostFrames x others other → (events ≡ others) × (tail ≡ other)
one_reading x [] others tail other p q = let s = ends_at x tail others other p q in (sym s.0, sym s.1)
one_reading x (e ∷ events) others tail other (z, rest, is, f, h) q =
    let g = goes_on x z rest e others other is f q in
    let s = one_reading rest events g.0 tail other h g.2 in
    (ap (λ l. e ∷ l) s.0 ∙ sym g.1, s.1)

-- ---- existence

some_number : (x : List ℕ) → IsBytes x → length x ≡ 4 → (n : ℕ) × (n < 2 ^ 32) × (length_bytes n ≡ x)
unfolding length_bytes
some_number x bytes four = (from_be_bytes w32 x, omega (arith, bytes 0, bytes 1, bytes 2, bytes 3), be_bytes_4 x (from_be_bytes w32 x) four bytes refl)

-- a number, and what follows it
split_number : (x : List ℕ) → IsBytes x → 4 ≤ length x → (n : ℕ) × (n < 2 ^ 32) × (x ≡ length_bytes n ++ drop 4 x)
split_number x bytes four =
    let n = some_number (take 4 x) (take_bytes 4 x bytes) (length-take-le 4 x four) in
    (n.0, n.1, sym (take-append-drop 4 x) ∙ ap (λ t. t ++ drop 4 x) (sym n.2))

-- what follows a step is bytes again, and fewer
abbrev Shorter : List ℕ → Step → Type 0
Shorter x (stop tail) = Unit {0}
Shorter x (goes e rest) = (length rest < length x) × IsBytes rest

abbrev HasStep : List ℕ → Type 0
HasStep x = (step : Step) × Begins x step × Shorter x step

start_there : (y : List ℕ) → IsBytes y → HasStep (0 ∷ y)
start_there y bytes = elim (cases_lt (length y) 4) [
  | inl short ↦ (stop (Part (length (0 ∷ y)) 5), (refl, inl (y, refl, short, refl)), tt)
  | inr four ↦
      let s = split_number y bytes four in
      (goes (Start s.0) (drop 4 y), (0 ∷ length_bytes s.0, ap (λ l. 0 ∷ l) s.2, (s.1, refl)), (omega (arith, length-drop 4 y), drop_bytes 4 y bytes))
]

body_there : (y body : List ℕ) (s len : ℕ) → s < 2 ^ 32 → len < 2 ^ 32 → IsBytes body → y ≡ length_bytes s ++ (length_bytes len ++ body) → HasStep (1 ∷ y)
body_there y body s len small fits bytes e =
    let whole : 1 ∷ y ≡ 1 ∷ ((length_bytes s ++ length_bytes len) ++ body) = ap (λ l. 1 ∷ l) (e ∙ sym (append_assoc (length_bytes s) (length_bytes len) body)) in
    let size : length y ≡ 8 + length body = ap length e ∙ omega (arith, length_said s (length_bytes len ++ body), length_said len body) in
    elim (cases_lt (length body) len) [
      | inl short ↦ (stop (Part (length (1 ∷ y)) (9 + len)), (refl, inr (inr (s, len, body, whole, small, fits, short, refl))), tt)
      | inr there ↦
          let long : length (take len body) ≡ len = length-take-le len body there in
          let rest : List ℕ = drop len body in
          let cut : body ≡ take len body ++ rest = sym (take-append-drop len body) in
          let parts : 1 ∷ y ≡ (1 ∷ (length_bytes s ++ (length_bytes len ++ take len body))) ++ rest =
          ap (λ l. 1 ∷ l) (e ∙ ap (λ l. length_bytes s ++ (length_bytes len ++ l)) cut ∙ ap (λ l. length_bytes s ++ l) (sym (append_assoc (length_bytes len) (take len body) rest)) ∙ sym (append_assoc (length_bytes s) (length_bytes len ++ take len body) rest)) in
          let fewer : length rest < length (1 ∷ y) = omega (arith, size, length-drop len body) in
          elim (cases_lt ARRIVAL len) [
            | inl above ↦ (
              goes (Oversize s len) rest,
              (1 ∷ (length_bytes s ++ (length_bytes len ++ take len body)), parts, (take len body, small, above, fits, long, ap (λ l. 1 ∷ l) (sym (append_assoc (length_bytes s) (length_bytes len) (take len body))))),
              (fewer, drop_bytes len body bytes),
            )
            | inr within ↦ (
              goes (Arrive s (take len body)) rest,
              (1 ∷ (length_bytes s ++ (length_bytes len ++ take len body)), parts, (small, omega (arith, long), ap (λ n. 1 ∷ (length_bytes s ++ (length_bytes n ++ take len body))) (sym long))),
              (fewer, drop_bytes len body bytes),
            )
          ]
    ]

arrival_there : (y : List ℕ) → IsBytes y → HasStep (1 ∷ y)
arrival_there y bytes = elim (cases_lt (length y) 8) [
  | inl short ↦ (stop (Part (length (1 ∷ y)) 9), (refl, inr (inl (y, refl, short, refl))), tt)
  | inr eight ↦
      let s = split_number y bytes (omega arith) in
      let len = split_number (drop 4 y) (drop_bytes 4 y bytes) (omega (arith, length-drop 4 y)) in
      body_there y (drop 4 (drop 4 y)) s.0 len.0 s.1 len.1 (drop_bytes 4 (drop 4 y) (drop_bytes 4 y bytes)) (s.2 ∙ ap (λ l. length_bytes s.0 ++ l) len.2)
]

step_there : (x : List ℕ) → IsBytes x → HasStep x
step_there [] bytes = (stop End, refl, tt)
step_there (zero ∷ y) bytes = start_there y (λ i. bytes (suc i))
step_there (suc zero ∷ y) bytes = arrival_there y (λ i. bytes (suc i))
step_there (suc (suc k) ∷ y) bytes = (stop (Bad (suc (suc k))), (y, refl, omega arith), tt)

abbrev Found : List ℕ → Type 0
Found x = (events : List HostEvent) × (tail : Tail) × HostFrames x events tail

found_within : (size : ℕ) (x : List ℕ) → length x ≤ size → IsBytes x → Found x
found_within zero x small bytes = ([], End, nil_from_length x (omega arith))
found_within (suc size) x small bytes = by (step_there x bytes) (found_within size) where
  by : HasStep x → ((y : List ℕ) → length y ≤ size → IsBytes y → Found y) → Found x
  by (stop tail, e, s) f = ([], tail, e)
  by (goes e rest, (z, is, frame), (fewer, bytes)) f =
      let more = f rest (omega arith) bytes in (e ∷ more.0, more.1, (z, rest, is, frame, more.2))

pub some_reading : (x : List ℕ) → IsBytes x → Found x
some_reading x bytes = found_within (length x) x (omega arith) bytes

-- ---- of what is left

pub left_goes_on : (left now : Option (List ℕ)) (z : List ℕ) (e : HostEvent) (events : List HostEvent) (tail : Tail) → Took left now z → IsFrame z e → FramesLeft left events tail
    → (others : List HostEvent) × (events ≡ e ∷ others) × FramesLeft now others tail
left_goes_on None now z e events tail took f h = absurd h
left_goes_on (Some x) None z e events tail took f h = absurd took
left_goes_on (Some x) (Some y) z e events tail took f h = goes_on x z y e events tail took f h
