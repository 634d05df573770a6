-- A text gives one outcome for some names.
use Rattle.std.proofs.Common.{◌≡◌, ◌<◌, ◌⊎◌, inl, inr, ℕ, zero, suc, true, false, List, [], ◌∷◌, length, drop, map, get_or, Option, Some, None, Result, Ok, Err, refl, sym, ap, subst, ◌∙◌, arith, length-append}
use Rattle.std.specs.Prelude.{MatchResult}
use Rattle.std.specs.Result.{IsErrAnd}
use Rattle.std.specs.List.{AllZip, flat_map}
use Rattle.std.specs.Option.{option_to_list}
use Rattle.std.proofs.lemmas.Bool.{cases_order}
use Rattle.std.proofs.lemmas.List.{get_or_at, get_or_append_left}
use Rattle.hex.proofs.HexLemmas.{decode_of-same}
use Rattle.anb_format.specs.Literals.{IsLiteral}
use Rattle.anb_format.proofs.LiteralLemmas.{unique}
use Rattle.anb_values.specs.declared.fitted.Fitted.{Fitted}
use Rattle.anb_values.specs.declared.lines.Entry.{Entry}
use Rattle.anb_values.specs.declared.refusal.ValuesNo.{ValuesNo}
use Rattle.anb_values.specs.declared.refusal.ValuesNo.TheVariants.{Line, Extra, Twice, Long, Missing, NoMemory}
use Rattle.anb_values.specs.Lines.{content, value_text, IsHex, IsGiven, Says, AreSaid, IsFirstFaulty, lines_of, seed_label}
use Rattle.anb_values.specs.Fit.{BeginsWith, Fit, Outcome, UnlessNoMemory, faults, value_of}
use Rattle.anb_values.proofs.LineLemmas.{literal_at, seed_is_no_label}

-- a literal begins with a quote, and digits with `x`
literal_or_hex : (text bytes others : List ℕ) → IsLiteral text bytes → IsHex text others → ⊥
literal_or_hex text bytes others l x = let first : ◌≡◌ {A = ℕ} 34 120 = ap (λ (t : List ℕ). get_or t 0 0) (sym l.spelled ∙ x.1) in omega arith

same_literal : (text one other : List ℕ) → IsLiteral text one → IsLiteral text other → one ≡ other
same_literal text one other l m = (unique text 0 one other (length text) (length text) (literal_at text one l) (literal_at text other m)).0

same_hex : (text one other : List ℕ) → IsHex text one → IsHex text other → one ≡ other
same_hex text one other x y = let digits : x.0 ≡ y.0 = ap (drop 1) (sym x.1 ∙ y.1) in decode_of-same y.0 one other (rw digits at x.2) y.2

one_given : (label text one other : List ℕ) → IsGiven label text one → IsGiven label text other → one ≡ other
one_given label text one other g h = elim g [
  | inl p ↦ elim h [
    | inl q ↦ elim (p.1) [
      | inl l ↦ elim (q.1) [ inl m ↦ same_literal text one other l m | inr y ↦ absurd (literal_or_hex text one other l y) ]
      | inr x ↦ elim (q.1) [ inl m ↦ absurd (literal_or_hex text other one m x) | inr y ↦ same_hex text one other x y ]
    ]
    | inr q ↦ absurd (seed_is_no_label (rw q.0 at p.0))
  ]
  | inr p ↦ elim h [
    | inl q ↦ absurd (seed_is_no_label (rw p.0 at q.0))
    | inr q ↦ same_hex text one other p.1 q.1
  ]
]

entry_is : (one other : Entry) → one.label ≡ other.label → one.value ≡ other.value → one ≡ other
entry_is one other p q = λ i. record { label = p i; value = q i }

one_said : (line : List ℕ) (one other : Option Entry) → Says line one → Says line other → one ≡ other
one_said line None None h k = refl
one_said line None (Some f) h k = let both : true ≡ false = sym h ∙ k.0 in cc
one_said line (Some e) None h k = let both : true ≡ false = sym k ∙ h.0 in cc
one_said line (Some e) (Some f) h k =
    let label : e.label ≡ f.label = h.1.0 ∙ sym k.1.0 in
    ap Some (entry_is e f label (one_given f.label (value_text (content line)) e.value f.value (rw label at h.1.1) k.1.1))

zip_one : (lines : List (List ℕ)) (one other : List (Option Entry)) → AllZip Says lines one → AllZip Says lines other → one ≡ other
zip_one [] [] [] h k = refl
zip_one [] [] (y ∷ ys) h k = absurd k
zip_one [] (x ∷ xs) other h k = absurd h
zip_one (l ∷ ls) [] other h k = absurd h
zip_one (l ∷ ls) (x ∷ xs) [] h k = absurd k
zip_one (l ∷ ls) (x ∷ xs) (y ∷ ys) h k = let first = one_said l x y h.0 k.0 in let rest = zip_one ls xs ys h.1 k.1 in cc

one_list : (lines : List (List ℕ)) (one other : List Entry) → AreSaid lines one → AreSaid lines other → one ≡ other
one_list lines one other h k = h.2 ∙ ap (flat_map (option_to_list {X = Entry})) (zip_one lines h.0 k.0 h.1 k.1) ∙ sym k.2

-- each of the lines is of the grammar
zip_at : (lines : List (List ℕ)) (said : List (Option Entry)) (i : ℕ) (d : List ℕ) → AllZip Says lines said → i < length lines → (s : Option Entry) × Says (get_or lines i d) s
zip_at [] said i d h k = absurd (omega arith)
zip_at (l ∷ ls) [] i d h k = absurd h
zip_at (l ∷ ls) (s ∷ ss) zero d h k = (s, h.0)
zip_at (l ∷ ls) (s ∷ ss) (suc i) d h k = zip_at ls ss i d h.1 (omega arith)

faulty_at : (lines : List (List ℕ)) (n : ℕ) (f : IsFirstFaulty lines n) → get_or lines (length f.0) f.1 ≡ f.1
faulty_at lines n f = ap (λ t. get_or t (length f.0) f.1) f.4 ∙ get_or_at f.0 f.1 f.2 f.1 (length f.0) refl

no_faulty : (lines : List (List ℕ)) (n : ℕ) (entries : List Entry) → AreSaid lines entries → IsFirstFaulty lines n → ⊥
no_faulty lines n entries s f =
    let z = zip_at lines s.0 (length f.0) f.1 s.1 (omega (arith, ap length f.4, length-append f.0 (f.1 ∷ f.2))) in
    f.7 z.0 (rw (faulty_at lines n f) at z.1)

no_earlier : (lines : List (List ℕ)) (n m : ℕ) (f : IsFirstFaulty lines n) (g : IsFirstFaulty lines m) → length f.0 < length g.0 → ⊥
no_earlier lines n m f g h =
    let left : get_or lines (length f.0) f.1 ≡ get_or g.0 (length f.0) f.1 = ap (λ t. get_or t (length f.0) f.1) g.4 ∙ get_or_append_left g.0 (g.1 ∷ g.2) f.1 (length f.0) h in
    let z = zip_at g.0 g.6.0 (length f.0) f.1 g.6.1 h in
    f.7 z.0 (rw (sym left ∙ faulty_at lines n f) at z.1)

one_faulty : (lines : List (List ℕ)) (n m : ℕ) → IsFirstFaulty lines n → IsFirstFaulty lines m → n ≡ m
one_faulty lines n m f g = elim (cases_order (length f.0) (length g.0)) [
  | inl e ↦ omega (arith, f.5, g.5)
  | inr o ↦ elim o [ inl h ↦ absurd (no_earlier lines n m f g h) | inr h ↦ absurd (no_earlier lines m n g f h) ]
]

same_values : (one other : List (List ℕ)) → map Some one ≡ map Some other → one ≡ other
same_values [] [] e = refl
same_values [] (y ∷ ys) e = cc
same_values (x ∷ xs) [] e = cc
same_values (x ∷ xs) (y ∷ ys) e =
    let tail : map Some xs ≡ map Some ys = ap (drop 1) e in
    let rest = same_values xs ys tail in
    let head : x ≡ y = cc in cc

fitted_is : (one other : Fitted) → one.values ≡ other.values → one.seed ≡ other.seed → one ≡ other
fitted_is one other p q = λ i. record { values = p i; seed = q i }

one_fitted : (text : List ℕ) (names : List (List ℕ)) (one other : Fitted) → Fit text names (Ok one) → Fit text names (Ok other) → one ≡ other
one_fitted text names one other h k =
    let entries = one_list (lines_of text) h.0 k.0 h.1 k.1 in
    fitted_is one other
    (same_values one.values other.values (h.3 ∙ ap (λ es. map (value_of es) names) entries ∙ sym k.3))
    (h.4 ∙ ap (λ es. value_of es seed_label) entries ∙ sym k.4)

-- a fault of labels, values or names
abbrev Fault : List ℕ → List (List ℕ) → ValuesNo → Type 0
Fault text names fault = (entries : List Entry) × AreSaid (lines_of text) entries × BeginsWith (faults names entries) fault

one_fault : (text : List ℕ) (names : List (List ℕ)) (one other : ValuesNo) → Fault text names one → Fault text names other → one ≡ other
one_fault text names one other h k =
    let entries = one_list (lines_of text) h.0 k.0 h.1 k.1 in
    let both : one ∷ h.2.0 ≡ other ∷ k.2.0 = sym h.2.1 ∙ ap (faults names) entries ∙ k.2.1 in
    cc

no_fault : (text : List ℕ) (names : List (List ℕ)) (fitted : Fitted) (fault : ValuesNo) → Fit text names (Ok fitted) → Fault text names fault → ⊥
no_fault text names fitted fault h k =
    let entries = one_list (lines_of text) h.0 k.0 h.1 k.1 in
    let both : [] ≡ fault ∷ k.2.0 = sym h.2 ∙ ap (faults names) entries ∙ k.2.1 in
    cc

-- the three kinds of outcome
abbrev Seen : List ℕ → List (List ℕ) → Result Fitted ValuesNo → Type 0
Seen text names r = ((fitted : Fitted) × (r ≡ Ok fitted) × Fit text names (Ok fitted))
    ⊎ (((n : ℕ) × (r ≡ Err (Line n)) × IsFirstFaulty (lines_of text) n)
    ⊎ ((fault : ValuesNo) × (r ≡ Err fault) × Fault text names fault))

seen : (text : List ℕ) (names : List (List ℕ)) (r : Result Fitted ValuesNo) → Fit text names r → Seen text names r
seen text names (Ok fitted) h = inl (fitted, refl, h)
seen text names (Err (Line n)) h = inr (inl (n, refl, h))
seen text names (Err (Extra name)) h = inr (inr (Extra name, refl, h))
seen text names (Err (Twice name)) h = inr (inr (Twice name, refl, h))
seen text names (Err (Long name)) h = inr (inr (Long name, refl, h))
seen text names (Err (Missing name)) h = inr (inr (Missing name, refl, h))
seen text names (Err NoMemory) h = inr (inr (NoMemory, refl, h))

pub one_fit : (text : List ℕ) (names : List (List ℕ)) (one other : Result Fitted ValuesNo) → Fit text names one → Fit text names other → one ≡ other
one_fit text names one other h k = elim (seen text names one h) [
  | inl a ↦ elim (seen text names other k) [
    | inl b ↦ a.1 ∙ ap Ok (one_fitted text names a.0 b.0 a.2 b.2) ∙ sym b.1
    | inr rest ↦ elim rest [
      | inl b ↦ absurd (no_faulty (lines_of text) b.0 a.2.0 a.2.1 b.2)
      | inr b ↦ absurd (no_fault text names a.0 b.0 a.2 b.2)
    ]
  ]
  | inr some ↦ elim some [
    | inl a ↦ elim (seen text names other k) [
      | inl b ↦ absurd (no_faulty (lines_of text) a.0 b.2.0 b.2.1 a.2)
      | inr rest ↦ elim rest [
        | inl b ↦ a.1 ∙ ap (λ (n : ℕ). Err (Line n)) (one_faulty (lines_of text) a.0 b.0 a.2 b.2) ∙ sym b.1
        | inr b ↦ absurd (no_faulty (lines_of text) a.0 b.2.0 b.2.1 a.2)
      ]
    ]
    | inr a ↦ elim (seen text names other k) [
      | inl b ↦ absurd (no_fault text names b.0 a.0 b.2 a.2)
      | inr rest ↦ elim rest [
        | inl b ↦ absurd (no_faulty (lines_of text) b.0 a.2.0 a.2.1 b.2)
        | inr b ↦ a.1 ∙ ap Err (one_fault text names a.0 b.0 a.2 b.2) ∙ sym b.1
      ]
    ]
  ]
]

-- what was found is what is due, or want of memory
pub due_refusal : (text : List ℕ) (names : List (List ℕ)) (why : ValuesNo) → UnlessNoMemory why (Fit text names (Err why)) → (due : Outcome) → Fit text names due → (Err why ≡ due) ⊎ (why ≡ NoMemory)
due_refusal text names (Line n) is due fit = inl (one_fit text names (Err (Line n)) due is fit)
due_refusal text names (Extra name) is due fit = inl (one_fit text names (Err (Extra name)) due is fit)
due_refusal text names (Twice name) is due fit = inl (one_fit text names (Err (Twice name)) due is fit)
due_refusal text names (Long name) is due fit = inl (one_fit text names (Err (Long name)) due is fit)
due_refusal text names (Missing name) is due fit = inl (one_fit text names (Err (Missing name)) due is fit)
due_refusal text names NoMemory is due fit = inr refl

-- it is handed on as it is
pub handed_due : (text : List ℕ) (names : List (List ℕ)) (why : ValuesNo) (r : Outcome) → IsErrAnd r (λ other. other ≡ why) → UnlessNoMemory why (Fit text names (Err why))
    → (due : Outcome) → Fit text names due → MatchResult r (λ fitted. Ok fitted ≡ due) (λ other. (Err other ≡ due) ⊎ (other ≡ NoMemory))
handed_due text names why (Ok fitted) is refused due fit = absurd is
handed_due text names why (Err other) is refused due fit = due_refusal text names other (subst (λ n. UnlessNoMemory n (Fit text names (Err n))) (sym is) refused) due fit
