-- A text is a transcript, or has a first faulty line.
use Rattle.std.proofs.Common.{◌≡◌, ◌≢◌, ◌⊎◌, inl, inr, ◌≤◌, ◌+◌, ℕ, suc, List, [], ◌∷◌, ◌++◌, length, drop, get_or, Result, Ok, Err, refl, sym, ap, ◌∙◌, arith}
use Rattle.std.specs.List.{AllZip}
use Rattle.std.proofs.lemmas.Bool.{cases_eq, cases_lt}
use Rattle.hex.specs.Hex.{decode_of}
use Rattle.hex.specs.declared.error.FromHexError.{FromHexError}
use Rattle.hex.proofs.HexLemmas.{decode_of-same}
use Rattle.anb_base.specs.declared.TheConstants.{ARRIVAL}
use Rattle.anb_transcript.specs.declared.transcript.TranscriptLine.{TranscriptLine}
use Rattle.anb_transcript.specs.declared.transcript.TranscriptLine.TheVariants.{In, Out}
use Rattle.anb_transcript.specs.declared.transcript.TranscriptNo.{TranscriptNo}
use Rattle.anb_transcript.specs.declared.transcript.TranscriptNo.TheVariants.{Line, NoMemory}
use Rattle.anb_transcript.specs.Texts.{IsSpelled, Says, IsFirstFaulty, Reads, ReadsOne, lines_of}

-- ---- one line

begins : (sign : ℕ) (line : List ℕ) → ((digits : List ℕ) × (line ≡ sign ∷ 32 ∷ digits)) ⊎ ((digits : List ℕ) → line ≡ sign ∷ 32 ∷ digits → ⊥)
begins sign [] = inr (λ digits e. cc)
begins sign (a ∷ []) = inr (λ digits e. absurd (omega (arith, ap (length {A = ℕ}) e)))
begins sign (a ∷ b ∷ digits) = elim (cases_eq a sign) [
  | inl e ↦ elim (cases_eq b 32) [
    | inl f ↦ inl (digits, rw (e, f) refl)
    | inr other ↦ inr (λ more e. other (ap (λ (t : List ℕ). get_or t 1 0) e))
  ]
  | inr other ↦ inr (λ more e. other (ap (λ (t : List ℕ). get_or t 0 0) e))
]

one_spelled : (sign : ℕ) (line one other : List ℕ) → IsSpelled sign line one → IsSpelled sign line other → one ≡ other
one_spelled sign line one other x y =
    let digits : x.0 ≡ y.0 = ap (drop 2) (sym x.1 ∙ y.1) in
    decode_of-same y.0 one other (rw digits at x.2) y.2

decoded : (sign : ℕ) (line digits : List ℕ) (r : Result (List ℕ) FromHexError) → line ≡ sign ∷ 32 ∷ digits → decode_of digits ≡ r → ((bytes : List ℕ) × IsSpelled sign line bytes) ⊎ ((bytes : List ℕ) → IsSpelled sign line bytes → ⊥)
decoded sign line digits (Ok bytes) is e = inl (bytes, (digits, is, e))
decoded sign line digits (Err fault) is e = inr (λ bytes x. let same : x.0 ≡ digits = ap (drop 2) (sym x.1 ∙ is) in let both : Ok bytes ≡ Err fault = sym (rw same at x.2) ∙ e in cc)

spelled : (sign : ℕ) (line : List ℕ) → ((bytes : List ℕ) × IsSpelled sign line bytes) ⊎ ((bytes : List ℕ) → IsSpelled sign line bytes → ⊥)
spelled sign line = elim (begins sign line) [
  | inl b ↦ decoded sign line b.0 (decode_of b.0) b.1 refl
  | inr none ↦ inr (λ bytes x. none x.0 x.1)
]

-- what a line says, or that it says nothing
abbrev Seen : List ℕ → Type 0
Seen line = ((said : TranscriptLine) × Says line said) ⊎ ((said : TranscriptLine) → Says line said → ⊥)

nothing : (line : List ℕ) → ((bytes : List ℕ) → IsSpelled 60 line bytes → length bytes ≤ ARRIVAL → ⊥) → ((bytes : List ℕ) → IsSpelled 62 line bytes → ⊥) → (said : TranscriptLine) → Says line said → ⊥
nothing line no_arrival no_message (In arrival) says = no_arrival arrival says.0 says.1
nothing line no_arrival no_message (Out message) says = no_message message says

seen : (line : List ℕ) → Seen line
seen line = elim (spelled 62 line) [
  | inl m ↦ inl (Out m.0, m.1)
  | inr no_message ↦ elim (spelled 60 line) [
    | inl a ↦ elim (cases_lt ARRIVAL (length (a.0))) [
      | inl long ↦ inr (nothing line (λ bytes x short. let same = one_spelled 60 line bytes a.0 x a.1 in absurd (omega (arith, ap (length {A = ℕ}) same, long, short))) no_message)
      | inr short ↦ inl (In a.0, (a.1, short))
    ]
    | inr no_arrival ↦ inr (nothing line (λ bytes x short. no_arrival bytes x) no_message)
  ]
]

signs_differ : (line one other : List ℕ) → IsSpelled 60 line one → IsSpelled 62 line other → ⊥
signs_differ line one other x y = let first : ◌≡◌ {A = ℕ} 60 62 = ap (λ (t : List ℕ). get_or t 0 0) (sym x.1 ∙ y.1) in omega arith

one_said : (line : List ℕ) (one other : TranscriptLine) → Says line one → Says line other → one ≡ other
one_said line (In a) (In b) x y = ap In (one_spelled 60 line a b x.0 y.0)
one_said line (In a) (Out b) x y = absurd (signs_differ line a b x.0 y)
one_said line (Out a) (In b) x y = absurd (signs_differ line b a y.0 x)
one_said line (Out a) (Out b) x y = ap Out (one_spelled 62 line a b x y)

-- ---- all lines

all_seen : (lines : List (List ℕ)) → ((said : List TranscriptLine) × AllZip Says lines said) ⊎ ((n : ℕ) × IsFirstFaulty lines n)
all_seen [] = inl ([], tt)
all_seen (line ∷ lines) = elim (seen line) [
  | inl s ↦ elim (all_seen lines) [
    | inl ss ↦ inl (s.0 ∷ ss.0, (s.1, ss.1))
    | inr f ↦ inr (f.0 + 1, (line ∷ f.1.0, f.1.1, f.1.2, s.0 ∷ f.1.3, ap (λ t. line ∷ t) f.1.4, omega (arith, f.1.5), (s.1, f.1.6), f.1.7))
  ]
  | inr none ↦ inr (1, ([], line, lines, [], refl, refl, tt, none))
]

all_same : (lines : List (List ℕ)) (one other : List TranscriptLine) → AllZip Says lines one → AllZip Says lines other → one ≡ other
all_same [] [] [] h k = refl
all_same [] [] (y ∷ ys) h k = absurd k
all_same [] (x ∷ xs) other h k = absurd h
all_same (line ∷ lines) [] other h k = absurd h
all_same (line ∷ lines) (x ∷ xs) [] h k = absurd k
all_same (line ∷ lines) (x ∷ xs) (y ∷ ys) h k = let first = one_said line x y h.0 k.0 in let rest = all_same lines xs ys h.1 k.1 in cc

-- no line of those that say something is faulty
none_faulty : (before after : List (List ℕ)) (line : List ℕ) (said : List TranscriptLine) → AllZip Says (before ++ line ∷ after) said → ((other : TranscriptLine) → Says line other → ⊥) → ⊥
none_faulty [] after line [] h none = h
none_faulty [] after line (x ∷ xs) h none = none x h.0
none_faulty (b ∷ before) after line [] h none = h
none_faulty (b ∷ before) after line (x ∷ xs) h none = none_faulty before after line xs h.1 none

no_faulty : (lines : List (List ℕ)) (n : ℕ) (said : List TranscriptLine) → AllZip Says lines said → IsFirstFaulty lines n → ⊥
no_faulty lines n said h f = none_faulty f.0 f.2 f.1 said (rw f.4 at h) f.7

-- two first faulty lines stand behind as many
same_length : (b1 b2 a1 a2 : List (List ℕ)) (l1 l2 : List ℕ) (s1 s2 : List TranscriptLine) → b1 ++ l1 ∷ a1 ≡ b2 ++ l2 ∷ a2
    → AllZip Says b1 s1 → AllZip Says b2 s2 → ((some : TranscriptLine) → Says l1 some → ⊥) → ((some : TranscriptLine) → Says l2 some → ⊥) → length b1 ≡ length b2
same_length [] [] a1 a2 l1 l2 s1 s2 e h k n1 n2 = refl
same_length [] (x ∷ b2) a1 a2 l1 l2 s1 [] e h k n1 n2 = absurd k
same_length [] (x ∷ b2) a1 a2 l1 l2 s1 (y ∷ s2) e h k n1 n2 = let first : l1 ≡ x = cc in absurd (n1 y (rw (sym first) at k.0))
same_length (x ∷ b1) [] a1 a2 l1 l2 [] s2 e h k n1 n2 = absurd h
same_length (x ∷ b1) [] a1 a2 l1 l2 (y ∷ s1) s2 e h k n1 n2 = let first : x ≡ l2 = cc in absurd (n2 y (rw first at h.0))
same_length (x ∷ b1) (y ∷ b2) a1 a2 l1 l2 [] s2 e h k n1 n2 = absurd h
same_length (x ∷ b1) (y ∷ b2) a1 a2 l1 l2 (s ∷ s1) [] e h k n1 n2 = absurd k
same_length (x ∷ b1) (y ∷ b2) a1 a2 l1 l2 (s ∷ s1) (t ∷ s2) e h k n1 n2 =
    let tail : b1 ++ l1 ∷ a1 ≡ b2 ++ l2 ∷ a2 = cc in ap suc (same_length b1 b2 a1 a2 l1 l2 s1 s2 tail h.1 k.1 n1 n2)

one_faulty : (lines : List (List ℕ)) (n m : ℕ) → IsFirstFaulty lines n → IsFirstFaulty lines m → n ≡ m
one_faulty lines n m f g = omega (arith, f.5, g.5, same_length f.0 g.0 f.2 g.2 f.1 g.1 f.3 g.3 (sym f.4 ∙ g.4) f.6 g.6 f.7 g.7)

-- ---- the law

same_reading : (text : List ℕ) (one other : Result (List TranscriptLine) TranscriptNo) → one ≢ Err NoMemory → other ≢ Err NoMemory → Reads text one → Reads text other → other ≡ one
same_reading text (Ok x) (Ok y) p q h k = ap Ok (all_same (lines_of text) y x k h)
same_reading text (Ok x) (Err (Line n)) p q h k = absurd (no_faulty (lines_of text) n x h k)
same_reading text (Ok x) (Err NoMemory) p q h k = absurd (q refl)
same_reading text (Err (Line n)) (Ok y) p q h k = absurd (no_faulty (lines_of text) n y k h)
same_reading text (Err (Line n)) (Err (Line m)) p q h k = ap (λ (i : ℕ). Err (Line i)) (one_faulty (lines_of text) m n k h)
same_reading text (Err (Line n)) (Err NoMemory) p q h k = absurd (q refl)
same_reading text (Err NoMemory) other p q h k = absurd (p refl)

pub reads_one : ReadsOne
reads_one text = elim (all_seen (lines_of text)) [
  | inl s ↦ (Ok s.0, λ e. cc, s.1, λ other q k. same_reading text (Ok s.0) other (λ e. cc) q s.1 k)
  | inr f ↦ (Err (Line f.0), λ e. cc, f.1, λ other q k. same_reading text (Err (Line f.0)) other (λ e. cc) q f.1 k)
]
