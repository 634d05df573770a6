-- Names that are made before something is received, from the last event back; and names that aren't counted.
use Rattle.std.proofs.Common.{◌≡◌, ℕ, zero, suc, ◌+◌, ◌<◌, List, [], ◌∷◌, ◌++◌, drop, get_or, length, Bool, true, false, cond, Some, refl, sym, ap, ◌∙◌, arith, drop-cons}
use Rattle.std.specs.Prelude.{◌==◌, filter, reverse, slice_get}
use Rattle.std.specs.List.{AllByRecursion, list_any}
use Rattle.std.proofs.lemmas.List.{reverse-append}
use Rattle.anb_lemmas.proofs.Each.{each_in_both}
use Rattle.anb_lemmas.proofs.Numbers.{nat_eq-differs}
use Rattle.anb_term.specs.Tree.{Tree, leaf, node}
use Rattle.anb_pattern.specs.Counts.{AreCounts, capped}
use Rattle.anb_pattern.specs.Variables.{count_in_each}
use Rattle.anb_protocol.specs.Plans.{PlanEvent, to_know, to_make, to_send, to_receive, term_in}
use Rattle.anb_protocol.specs.Protocols.{ProtocolValue}
use Rattle.anb_protocol.specs.Texts.{IsTermOf}
use Rattle.anb_notes.specs.Idle.{awaiting, receives, stands_in_none}
use Rattle.anb_notes.specs.Places.{made_if}

made_turned : (b : Bool) (e : PlanEvent) → reverse (made_if b e) ≡ made_if b e
made_turned true (to_make (leaf n)) = refl
made_turned false (to_make (leaf n)) = refl
made_turned b (to_make (node o ts)) = refl
made_turned b (to_know t) = refl
made_turned b (to_send i t) = refl
made_turned b (to_receive i t) = refl

pub one_earlier : (es : List PlanEvent) (e : PlanEvent) (names new : List ℕ) (later : Bool) → later ≡ list_any receives es → reverse names ≡ awaiting es
    → new ≡ names ++ made_if later e → reverse new ≡ awaiting (e ∷ es)
one_earlier es e names new later is had more =
    ap reverse more ∙ reverse-append names (made_if later e) ∙ ap (λ l. l ++ reverse names) (made_turned later e) ∙ ap (λ l. made_if later e ++ l) had ∙ ap (λ b. made_if b e ++ awaiting es) is

made_within : (p : ProtocolValue) (b : Bool) (e : PlanEvent) → IsTermOf p (term_in e) → AllByRecursion (λ x. x < length p.atoms) (made_if b e)
made_within p true (to_make (leaf n)) h = (h, tt)
made_within p false (to_make (leaf n)) h = tt
made_within p b (to_make (node o ts)) h = tt
made_within p b (to_know t) h = tt
made_within p b (to_send i t) h = tt
made_within p b (to_receive i t) h = tt

pub awaiting_within : (p : ProtocolValue) (es : List PlanEvent) → AllByRecursion (λ e. IsTermOf p (term_in e)) es → AllByRecursion (λ x. x < length p.atoms) (awaiting es)
awaiting_within p [] h = tt
awaiting_within p (e ∷ es) h =
    each_in_both (λ x. x < length p.atoms) (made_if (list_any receives es) e) (awaiting es) (made_within p (list_any receives es) e h.0) (awaiting_within p es h.1)

pub filter_one : (P : ℕ → Bool) (x : ℕ) (xs : List ℕ) → filter P (x ∷ xs) ≡ cond (P x) (x ∷ []) [] ++ filter P xs
filter_one P x xs = by (P x)
  where
    by : (b : Bool) → cond b (x ∷ filter P xs) (filter P xs) ≡ cond b (x ∷ []) [] ++ filter P xs
    by true = refl
    by false = refl

capped_none : (n : ℕ) → (capped n == 0) ≡ (n == 0)
capped_none zero = refl
capped_none (suc zero) = refl
capped_none (suc (suc n)) = sym (nat_eq-differs (suc (suc n)) 0 (λ e. omega (arith, e)))

got : (counts : List ℕ) (x v : ℕ) → slice_get counts x ≡ Some v → get_or counts x 0 ≡ v
got [] x v h = cc
got (c ∷ counts) zero v h = cc
got (c ∷ counts) (suc x) v h = got counts x v h

pub counted_none : (patterns : List Tree) (counts : List ℕ) (x : ℕ) → AreCounts 0 (λ v. count_in_each v patterns) counts → x < length counts → (get_or counts x 0 == 0) ≡ stands_in_none patterns x
counted_none patterns counts x are within =
    let z : 0 + x ≡ x = omega arith in
    ap (λ c. c == 0) (got counts x (capped (count_in_each (0 + x) patterns)) (are x within)) ∙ capped_none (count_in_each (0 + x) patterns) ∙ ap (λ v. count_in_each v patterns == 0) z

pub next_at : (xs : List ℕ) (i : ℕ) → i < length xs → drop i xs ≡ get_or xs i 0 ∷ drop (i + 1) xs
next_at xs i h = let s : suc i ≡ i + 1 = omega arith in drop-cons xs i 0 h ∙ ap (λ n. get_or xs i 0 ∷ drop n xs) s
