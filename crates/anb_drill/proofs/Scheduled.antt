-- Where two roles send to and fro, and each action has its sender's turn and then its receiver's, all turns are taken.
use Rattle.std.proofs.Common.{◌≡◌, ◌⊎◌, ℕ, suc, ◌+◌, ◌*◌, List, [], ◌∷◌, ◌++◌, length, Bool, true, false, cond, Some, None, refl, sym, ap, ◌∙◌, subst, arith, inl, inr, append-nil, append_assoc, length-append}
use Rattle.std.specs.Prelude.{◌==◌, ◌&&◌, ◌||◌, count_by, slice_get, option_and_then}
use Rattle.std.specs.List.{AllByRecursion, flat_map}
use Rattle.std.proofs.lemmas.Bool.Decides.{nat_tests}
use Rattle.std.proofs.lemmas.List.Sums.{sum_by_push}
use Rattle.anb_protocol.specs.Choices.{each_after}
use Rattle.anb_protocol.specs.Protocols.{ActionValue, ProtocolValue}
use Rattle.anb_protocol.specs.Schedules.{Turn, append_if, if_ready, next_of, part_in, parts_of, taken, taken_after, turn_of, was_sent}
use Rattle.anb_protocol.proofs.Afters.{any-append, each_after_last}

-- between roles 0 and 1
abbrev pub IsBetween : ActionValue → Type 0
IsBetween a = ((a.from ≡ 0) × (a.to ≡ 1)) ⊎ ((a.from ≡ 1) × (a.to ≡ 0))

abbrev pub sides : ActionValue → List ℕ
sides a = a.from ∷ a.to ∷ []

abbrev pub turn_at : ℕ → ℕ → Bool → Turn
turn_at role action sends = record { role = role; action = action; sends = sends }

abbrev pub both : List ActionValue → ActionValue → List Turn
both before a = turn_at a.from (length before + 1) true ∷ turn_at a.to (length before + 1) false ∷ []

abbrev pub done_by : List ActionValue → List Turn
done_by acts = each_after both [] acts

-- the roles
abbrev pub IsRole : ℕ → Type 0
IsRole r = (r ≡ 0) ⊎ (r ≡ 1)

-- ---- the parts of a role

part_is : (r : ℕ) (before : List ActionValue) (a : ActionValue) → IsRole r → IsBetween a → part_in r before a ≡ turn_at r (length before + 1) (a.from == r) ∷ []
part_is r before a (inl zero_is) (inl way) = rw (zero_is, way.0) refl
part_is r before a (inl zero_is) (inr way) = rw (zero_is, way.0, way.1) refl
part_is r before a (inr one_is) (inl way) = rw (one_is, way.0, way.1) refl
part_is r before a (inr one_is) (inr way) = rw (one_is, way.0) refl

part_at : (r : ℕ) (before acts rest : List ActionValue) (a : ActionValue) → IsRole r → AllByRecursion IsBetween (acts ++ a ∷ rest)
    → slice_get (each_after (part_in r) before (acts ++ a ∷ rest)) (length acts) ≡ Some (turn_at r (length before + length acts + 1) (a.from == r))
part_at r before [] rest a role all =
    let n : length before + 1 ≡ length before + 0 + 1 = omega arith in
    ap (λ l. slice_get (l ++ each_after (part_in r) (before ++ a ∷ []) rest) 0) (part_is r before a role all.0) ∙ ap (λ k. Some (turn_at r k (a.from == r))) n
part_at r before (x ∷ acts) rest a role all =
    let n : length (before ++ x ∷ []) + length acts + 1 ≡ length before + suc (length acts) + 1 = omega (arith, length-append before (x ∷ [])) in
    ap (λ l. slice_get (l ++ each_after (part_in r) (before ++ x ∷ []) (acts ++ a ∷ rest)) (suc (length acts))) (part_is r before x role all.0)
    ∙ part_at r (before ++ x ∷ []) acts rest a role all.1 ∙ ap (λ k. Some (turn_at r k (a.from == r))) n

no_part : (r : ℕ) (before acts : List ActionValue) → IsRole r → AllByRecursion IsBetween acts → slice_get (each_after (part_in r) before acts) (length acts) ≡ None
no_part r before [] role all = refl
no_part r before (x ∷ acts) role all =
    ap (λ l. slice_get (l ++ each_after (part_in r) (before ++ x ∷ []) acts) (suc (length acts))) (part_is r before x role all.0) ∙ no_part r (before ++ x ∷ []) acts role all.1

-- ---- how many turns of a role

abbrev is_own : ℕ → Turn → Bool
is_own r t = t.role == r

count_last : (r : ℕ) (ts : List Turn) (t : Turn) → count_by (is_own r) (ts ++ t ∷ []) ≡ count_by (is_own r) ts + cond (t.role == r) 1 0
count_last r ts t = sum_by_push (λ x. cond (is_own r x) 1 0) ts t

-- one of the two turns of an action is the role's
one_each : (r : ℕ) (a : ActionValue) → IsRole r → IsBetween a → cond (a.from == r) 1 0 + cond (a.to == r) 1 0 ≡ 1
one_each r a (inl is) (inl way) = rw (is, way.0, way.1) refl
one_each r a (inl is) (inr way) = rw (is, way.0, way.1) refl
one_each r a (inr is) (inl way) = rw (is, way.0, way.1) refl
one_each r a (inr is) (inr way) = rw (is, way.0, way.1) refl

-- the turns of these actions, each of which has two
two_more : (before : List ActionValue) (a : ActionValue) → done_by (before ++ a ∷ []) ≡ (done_by before ++ turn_at a.from (length before + 1) true ∷ []) ++ turn_at a.to (length before + 1) false ∷ []
two_more before a = each_after_last both [] before a ∙ sym (append_assoc (done_by before) (turn_at a.from (length before + 1) true ∷ []) (turn_at a.to (length before + 1) false ∷ []))

count_all : (r : ℕ) (before acts : List ActionValue) → IsRole r → AllByRecursion IsBetween acts → count_by (is_own r) (done_by before) ≡ length before → count_by (is_own r) (done_by (before ++ acts)) ≡ length (before ++ acts)
count_all r before [] role all is = ap (λ l. count_by (is_own r) (done_by l)) (append-nil before) ∙ is ∙ ap length (sym (append-nil before))
count_all r before (a ∷ acts) role all is =
    let here : count_by (is_own r) (done_by (before ++ a ∷ [])) ≡ length (before ++ a ∷ []) =
    let e = ap (count_by (is_own r)) (two_more before a) in
    let last = count_last r (done_by before ++ turn_at a.from (length before + 1) true ∷ []) (turn_at a.to (length before + 1) false) in
    let first = count_last r (done_by before) (turn_at a.from (length before + 1) true) in
    let one = one_each r a role all.0 in
    omega (arith, e, last, first, one, is, length-append before (a ∷ [])) in
    ap (λ l. count_by (is_own r) (done_by l)) (sym (append_assoc before (a ∷ []) acts)) ∙ count_all r (before ++ a ∷ []) acts role all.1 here ∙ ap length (append_assoc before (a ∷ []) acts)

-- ---- the turns are taken, one after another

module _ (p : ProtocolValue) (all : AllByRecursion IsBetween p.actions) where
  -- what a role is to do next, after so many of its turns
  next_is : (r : ℕ) (before acts : List ActionValue) (a : ActionValue) (ts : List Turn) → IsRole r → p.actions ≡ before ++ a ∷ acts → count_by (is_own r) ts ≡ length before
      → next_of p ts r ≡ Some (turn_at r (length before + 1) (a.from == r))
  next_is r before acts a ts role is count =
      let n : 0 + length before + 1 ≡ length before + 1 = omega arith in
      ap (slice_get (parts_of p r)) count ∙ ap (λ l. slice_get (each_after (part_in r) [] l) (length before)) is
      ∙ part_at r [] before acts a role (subst (λ (l : List ActionValue). AllByRecursion IsBetween l) is all) ∙ ap (λ k. Some (turn_at r k (a.from == r))) n

  from_role : (a : ActionValue) → IsBetween a → IsRole a.from
  from_role a (inl way) = inl way.0
  from_role a (inr way) = inr way.0

  to_role : (a : ActionValue) → IsBetween a → IsRole a.to
  to_role a (inl way) = inr way.1
  to_role a (inr way) = inl way.1

  apart : (a : ActionValue) → IsBetween a → (a.from == a.to) ≡ false
  apart a (inl way) = rw (way.0, way.1) refl
  apart a (inr way) = rw (way.0, way.1) refl

  itself : (n : ℕ) → (n == n) ≡ true
  itself n = grind (arith, nat_tests)

  sends_now : (before acts : List ActionValue) (a : ActionValue) → IsBetween a → p.actions ≡ before ++ a ∷ acts → count_by (is_own a.from) (done_by before) ≡ length before
      → turn_of p (done_by before) a.from ≡ Some (turn_at a.from (length before + 1) true)
  sends_now before acts a way is count =
      ap (option_and_then (if_ready (done_by before))) (next_is a.from before acts a (done_by before) (from_role a way) is count ∙ ap (λ b. Some (turn_at a.from (length before + 1) b)) (itself a.from))

  hears_now : (before acts : List ActionValue) (a : ActionValue) → IsBetween a → p.actions ≡ before ++ a ∷ acts → count_by (is_own a.to) (done_by before) ≡ length before
      → turn_of p (done_by before ++ turn_at a.from (length before + 1) true ∷ []) a.to ≡ Some (turn_at a.to (length before + 1) false)
  hears_now before acts a way is count =
      let ts = done_by before ++ turn_at a.from (length before + 1) true ∷ [] in
      let k = length before + 1 in
      let still : count_by (is_own a.to) ts ≡ length before =
      count_last a.to (done_by before) (turn_at a.from k true) ∙ ap (λ b. count_by (is_own a.to) (done_by before) + cond b 1 0) (apart a way) ∙ (let z : count_by (is_own a.to) (done_by before) + 0 ≡ length before = omega (arith, count) in z) in
      let sent : was_sent ts k ≡ true =
      any-append (λ (t : Turn). t.sends && (t.action == k)) (done_by before) (turn_at a.from k true ∷ []) ∙ ap (λ b. was_sent (done_by before) k || (b || false)) (itself k) ∙ or_true (was_sent (done_by before) k) in
      ap (option_and_then (if_ready ts)) (next_is a.to before acts a ts (to_role a way) is still ∙ ap (λ b. Some (turn_at a.to k b)) (apart a way))
      ∙ ap (λ b. cond b (Some (turn_at a.to k false)) None) sent
    where
      or_true : (b : Bool) → (b || true) ≡ true
      or_true true = refl
      or_true false = refl

  all_taken : (before acts : List ActionValue) → p.actions ≡ before ++ acts → AllByRecursion IsBetween acts → ((r : ℕ) → IsRole r → count_by (is_own r) (done_by before) ≡ length before)
      → taken_after p (done_by before) (flat_map sides acts) ≡ done_by p.actions
  all_taken before [] is ways count = ap done_by (sym (append-nil before) ∙ sym is)
  all_taken before (a ∷ acts) is ways count =
      let k = length before + 1 in
      ap (λ o. taken_after p (append_if (append_if (done_by before) o) (turn_of p (append_if (done_by before) o) a.to)) (flat_map sides acts)) (sends_now before acts a ways.0 is (count a.from (from_role a ways.0)))
      ∙ ap (λ o. taken_after p (append_if (done_by before ++ turn_at a.from k true ∷ []) o) (flat_map sides acts)) (hears_now before acts a ways.0 is (count a.to (to_role a ways.0)))
      ∙ ap (λ ts. taken_after p ts (flat_map sides acts)) (sym (two_more before a))
      ∙ all_taken (before ++ a ∷ []) acts (is ∙ sym (append_assoc before (a ∷ []) acts)) ways.1 (λ r role. count_all r before (a ∷ []) role (ways.0, tt) (count r role))

  -- all turns are taken
  pub taken_all : taken p (flat_map sides p.actions) ≡ done_by p.actions
  taken_all = all_taken [] p.actions refl all (λ r role. refl)

  -- and then no role has an action left
  pub none_left : (r : ℕ) → IsRole r → next_of p (taken p (flat_map sides p.actions)) r ≡ None
  none_left r role =
      ap (λ ts. next_of p ts r) taken_all ∙ ap (slice_get (parts_of p r)) (count_all r [] p.actions role all refl) ∙ no_part r [] p.actions role all

twice : (before acts : List ActionValue) → length (each_after both before acts) ≡ 2 * length acts
twice before [] = refl
twice before (a ∷ acts) = omega (arith, twice (before ++ a ∷ []) acts)

pub how_many_taken : (acts : List ActionValue) → length (done_by acts) ≡ 2 * length acts
how_many_taken acts = twice [] acts
