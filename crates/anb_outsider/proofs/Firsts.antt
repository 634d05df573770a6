-- What is taken is taken as far as each of its receives.
use Rattle.std.proofs.Common.{◌≡◌, ℕ, zero, suc, ◌+◌, ◌≤◌, List, [], ◌∷◌, ◌++◌, length, map, take, drop, Bool, Some, refl, sym, ap, ◌∙◌, subst, arith, append_assoc, length-append}
use Rattle.std.specs.Prelude.{slice_get}
use Rattle.std.proofs.lemmas.List.{append-nil, length-map}
use Rattle.anb_term.specs.declared.term.Op.{Op}
use Rattle.anb_term.specs.Tree.{Tree}
use Rattle.anb_term.specs.FreeAlgebra.{terms_over}
use Rattle.anb_term.specs.Agree.{Agree}
use Rattle.anb_term.proofs.Lists.{map-append}
use Rattle.anb_term.proofs.Frames.{agree_before}
use Rattle.anb_plays.specs.Plans.{Event, know, fresh, send, recv, known}
use Rattle.anb_plays.specs.Honest.{heard}
use Rattle.anb_plays.proofs.Plays.{known-append}
use Rattle.anb_protocol.specs.Laws.{KnowsFirst}
use Rattle.anb_unify.specs.Substitutions.{put_in}
use Rattle.anb_accept.specs.Taking.{Takes, later, later_with, labels, labels_with}
use Rattle.anb_outsider.specs.Recordings.{other_name, recorded, ReceivesAt, TakesTo}
use Rattle.anb_outsider.specs.Searching.{GoesTo}

pub later_both : (xs ys : List Event) → later (xs ++ ys) ≡ later xs ++ later ys
later_both [] ys = refl
later_both (know t ∷ xs) ys = later_both xs ys
later_both (fresh t ∷ xs) ys = ap (λ l. t ∷ l) (later_both xs ys)
later_both (send t ∷ xs) ys = later_both xs ys
later_both (recv t ∷ xs) ys = ap (λ l. t ∷ l) (later_both xs ys)

pub heard_both : (xs ys : List Event) → heard (xs ++ ys) ≡ heard xs ++ heard ys
heard_both [] ys = refl
heard_both (know t ∷ xs) ys = heard_both xs ys
heard_both (fresh t ∷ xs) ys = heard_both xs ys
heard_both (send t ∷ xs) ys = heard_both xs ys
heard_both (recv t ∷ xs) ys = ap (λ l. t ∷ l) (heard_both xs ys)

pub with_both : (xs ys : List Event) (us vs : List Tree) → length us ≡ length (heard xs) → later_with (xs ++ ys) (us ++ vs) ≡ later_with xs us ++ later_with ys vs
with_both [] ys [] vs e = refl
with_both [] ys (u ∷ us) vs e = absurd (omega (arith, e))
with_both (know t ∷ xs) ys us vs e = with_both xs ys us vs e
with_both (fresh t ∷ xs) ys us vs e = ap (λ l. t ∷ l) (with_both xs ys us vs e)
with_both (send t ∷ xs) ys us vs e = with_both xs ys us vs e
with_both (recv t ∷ xs) ys [] vs e = absurd (omega (arith, e))
with_both (recv t ∷ xs) ys (u ∷ us) vs e = ap (λ l. u ∷ l) (with_both xs ys us vs (omega (arith, e)))

with_long : (xs : List Event) (us : List Tree) → length us ≡ length (heard xs) → length (later_with xs us) ≡ length (later xs)
with_long [] us e = refl
with_long (know t ∷ xs) us e = with_long xs us e
with_long (fresh t ∷ xs) us e = ap suc (with_long xs us e)
with_long (send t ∷ xs) us e = with_long xs us e
with_long (recv t ∷ xs) [] e = absurd (omega (arith, e))
with_long (recv t ∷ xs) (u ∷ us) e = ap suc (with_long xs us (omega (arith, e)))

-- what is taken of more events is taken of the first ones
takes_first : (has : Op → Bool) (xs ys : List Event) (us vs : List Tree) → known ys ≡ [] → length us ≡ length (heard xs) → Takes has (xs ++ ys) (us ++ vs) → Takes has xs us
takes_first has xs ys us vs none count takes =
    let K = known (xs ++ ys) in
    let same : K ≡ known xs = known-append xs ys ∙ ap (λ l. known xs ++ l) none ∙ append-nil (known xs) in
    let frame : labels (xs ++ ys) ≡ labels xs ++ later ys =
    ap (λ l. K ++ l) (later_both xs ys) ∙ ap (λ l. l ++ (later xs ++ later ys)) same ∙ sym (append_assoc (known xs) (later xs) (later ys)) in
    let values : labels_with (xs ++ ys) (us ++ vs) ≡ labels_with xs us ++ later_with ys vs =
    ap (λ l. K ++ l) (with_both xs ys us vs count) ∙ ap (λ l. l ++ (later_with xs us ++ later_with ys vs)) same ∙ sym (append_assoc (known xs) (later_with xs us) (later_with ys vs)) in
    let agree = subst (λ l. Agree (terms_over has) l (labels_with xs us ++ later_with ys vs)) frame (subst (λ l. Agree (terms_over has) (labels (xs ++ ys)) l) values takes.agree) in
    let long : length (labels_with xs us) ≡ length (labels xs) =
    length-append (known xs) (later_with xs us) ∙ ap (λ n. length (known xs) + n) (with_long xs us count) ∙ sym (length-append (known xs) (later xs)) in
    record { count = count; agree = agree_before (terms_over has) (labels xs) (later ys) (labels_with xs us) (later_with ys vs) long agree }

known_first : (n : ℕ) (es : List Event) → known es ≡ [] → known (take n es) ≡ []
known_first zero es none = refl
known_first (suc n) [] none = refl
known_first (suc n) (know t ∷ es) none = cc
known_first (suc n) (fresh t ∷ es) none = known_first n es none
known_first (suc n) (send t ∷ es) none = known_first n es none
known_first (suc n) (recv t ∷ es) none = known_first n es none

-- more first events are fewer ones and others
record Splits (k e : ℕ) (es : List Event) : Type 0 where
  rest : List Event
  is : take e es ≡ take k es ++ rest
  none : known (drop k es) ≡ [] → known rest ≡ []

splits : (k e : ℕ) (es : List Event) → k ≤ e → Splits k e es
splits zero e es l = record { rest = take e es; is = refl; none = known_first e es }
splits (suc k) zero es l = absurd (omega (arith, l))
splits (suc k) (suc e) [] l = record { rest = []; is = refl; none = λ h. refl }
splits (suc k) (suc e) (x ∷ es) l = let h = splits k e es (omega (arith, l)) in record { rest = h.rest; is = ap (λ l. x ∷ l) h.is; none = h.none }

-- nothing is known after something is received
pub none_known : (plan : List Event) (ts : List Tree) (rest : List Event) (k : ℕ) → plan ≡ map know ts ++ rest → known rest ≡ [] → ReceivesAt plan k → known (drop (k + 1) plan) ≡ []
none_known plan [] rest k is none r = let e : plan ≡ rest = is in dropped (k + 1) plan (ap known e ∙ none)
  where
    dropped : (n : ℕ) (es : List Event) → known es ≡ [] → known (drop n es) ≡ []
    dropped zero es h = h
    dropped (suc n) [] h = refl
    dropped (suc n) (know t ∷ es) h = cc
    dropped (suc n) (fresh t ∷ es) h = dropped n es h
    dropped (suc n) (send t ∷ es) h = dropped n es h
    dropped (suc n) (recv t ∷ es) h = dropped n es h
none_known [] (t ∷ ts) rest k is none r = cc
none_known (x ∷ plan) (t ∷ ts) rest zero is none (u, r) = let a : x ≡ know t = cc in let b : x ≡ recv u = cc in cc
none_known (x ∷ plan) (t ∷ ts) rest (suc k) is none (u, r) = let e : plan ≡ map know ts ++ rest = cc in let z : suc k + 1 ≡ suc (k + 1) = omega arith in ap (λ n. known (drop n (x ∷ plan))) z ∙ none_known plan ts rest k e none (u, r)

module _ (has : Op → Bool) (names : ℕ) (plan : List Event) (knows : KnowsFirst plan) where
  pub as_far : (other : ℕ → Bool) (k e : ℕ) → ReceivesAt plan k → k + 1 ≤ e → TakesTo has names plan other e → TakesTo has names plan other (k + 1)
  as_far other k e r l takes =
      let s = splits (k + 1) e plan l in
      let none = s.none (none_known plan knows.0 knows.1 k knows.2 knows.3 r) in
      let put = put_in (other_name names other) in
      let first = take (k + 1) plan in
      let whole = subst (λ es. Takes has es (recorded names other es)) s.is takes in
      let split : recorded names other (first ++ s.rest) ≡ recorded names other first ++ recorded names other s.rest =
      ap (map put) (heard_both first s.rest) ∙ map-append put (heard first) (heard s.rest) in
      takes_first has first s.rest (recorded names other first) (recorded names other s.rest) none (length-map (heard first) put) (subst (Takes has (first ++ s.rest)) split whole)

  pub goes_as_far : (k e : ℕ) → ReceivesAt plan k → k + 1 ≤ e → GoesTo has names plan e → GoesTo has names plan (k + 1)
  goes_as_far k e r l goes other only = as_far other k e r l (goes other only)
