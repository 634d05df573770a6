-- Lines that stand once, cases, and counts.
use Rattle.std.proofs.Common.{◌≡◌, ℕ, zero, suc, ◌+◌, List, [], ◌∷◌, ◌++◌, length, map, drop, get_or, take, Bool, true, false, Some, None, Result, refl, ap, sym, ◌∙◌, subst, arith, append_assoc}
use Rattle.std.specs.Prelude.{nat_lt, slice_get}
use Rattle.std.proofs.lemmas.Bool.Decides.{nat_tests}
use Rattle.std.proofs.lemmas.Option.{slice_get_past, slice_get_read}
use Rattle.std.proofs.lemmas.List.{append-nil}
use Rattle.anb_attempts.specs.declared.attempts.Attempt.{Attempt}
use Rattle.anb_attempts.specs.declared.attempts.Scene.{Scene}
use Rattle.anb_partner.specs.declared.planning.Partner.{Partner}
use Rattle.anb_protocol.specs.Protocols.{ProtocolValue}
use Rattle.anb_verdict.specs.declared.verdict.Verdict.{Verdict}
use Rattle.anb_probe_commands.specs.Cases.{joined_once, lack_in, lack_of, with_line}
use Rattle.anb_probe_commands.specs.Plays.{CaseEnd}
use Rattle.anb_probe_commands.specs.Reports.{all_lacking, case_text, lacking_lines, played_lines}
use Rattle.anb_probe_commands.specs.declared.partners.Lack.{Lack}

pub joined_both : (lines xs ys : List (List ℕ)) → joined_once lines (xs ++ ys) ≡ joined_once (joined_once lines xs) ys
joined_both lines [] ys = refl
joined_both lines (x ∷ xs) ys = joined_both (with_line lines x) xs ys

-- lines of three kinds, one after the other
pub untried_joined : (xs ys zs a b c d : List (List ℕ)) → a ≡ [] → b ≡ joined_once a xs → c ≡ joined_once b ys → d ≡ joined_once c zs → d ≡ joined_once [] (xs ++ ys ++ zs)
untried_joined xs ys zs a b c d none first second third =
    third ∙ ap (λ l. joined_once l zs) (second ∙ ap (λ l. joined_once l ys) (first ∙ ap (λ l. joined_once l xs) none))
    ∙ sym (joined_both [] (xs ++ ys) zs ∙ ap (λ l. joined_once l zs) (joined_both [] xs ys))

-- ---- what is at a place

pub past_so : {A : Type 0} (xs : List A) (i : ℕ) → false ≡ nat_lt i (length xs) → slice_get xs i ≡ None
past_so xs i e = let beyond : nat_lt i (length xs) ≡ false = sym e in slice_get_past xs i (grind (arith, nat_tests))

pub got_so : {A : Type 0} (xs : List A) (i : ℕ) (x : A) → true ≡ nat_lt i (length xs) → x ≡ get_or xs i x → slice_get xs i ≡ Some x
got_so xs i x e is = let below : nat_lt i (length xs) ≡ true = sym e in slice_get_read xs (length xs) i x refl (grind (arith, nat_tests)) is

-- ---- lines of cases

module _ (p : ProtocolValue) (role : ℕ) (scenes : List Scene) (shown : Bool) where
  -- one case more
  pub played_next : (n : ℕ) (cases : List Attempt) (ends : List CaseEnd) (a : Attempt) (end : CaseEnd) → slice_get cases (length ends) ≡ Some a
      → played_lines p role scenes shown n cases (ends ++ end ∷ []) ≡ played_lines p role scenes shown n cases ends ++ case_text p role scenes shown (length ends + n) a end
  played_next n [] ends a end at = cc
  played_next n (c ∷ cases) [] a end at =
      let same : c ≡ a = cc in
      let zero_is : 0 + n ≡ n = omega arith in
      subst (λ (k : ℕ). case_text p role scenes shown n c end ++ played_lines p role scenes shown (n + 1) cases [] ≡ case_text p role scenes shown k a end) (sym zero_is)
      (ap (λ (z : Attempt). case_text p role scenes shown n z end ++ played_lines p role scenes shown (n + 1) cases []) same ∙ nothing cases) where
        nothing : (cs : List Attempt) → case_text p role scenes shown n a end ++ played_lines p role scenes shown (n + 1) cs [] ≡ case_text p role scenes shown n a end
        nothing [] = append-nil (case_text p role scenes shown n a end)
        nothing (c ∷ cs) = append-nil (case_text p role scenes shown n a end)
  played_next n (c ∷ cases) (w ∷ ends) a end at =
      let m : length ends + (n + 1) ≡ suc (length ends) + n = omega arith in
      let rest : played_lines p role scenes shown (n + 1) cases (ends ++ end ∷ []) ≡ played_lines p role scenes shown (n + 1) cases ends ++ case_text p role scenes shown (suc (length ends) + n) a end =
      rw m at (played_next (n + 1) cases ends a end at) in
      ap (λ l. case_text p role scenes shown n c w ++ l) rest ∙ sym (append_assoc (case_text p role scenes shown n c w) (played_lines p role scenes shown (n + 1) cases ends) _)

  -- those of the first cases stand first
  pub played_front : (n : ℕ) (cases : List Attempt) (ends : List CaseEnd) (i : ℕ)
      → (more : List ℕ) × (played_lines p role scenes shown n cases ends ≡ played_lines p role scenes shown n cases (take i ends) ++ more)
  played_front n [] ends i = ([], refl)
  played_front n (c ∷ cases) ends zero = (played_lines p role scenes shown n (c ∷ cases) ends, refl)
  played_front n (c ∷ cases) [] (suc i) = ([], refl)
  played_front n (c ∷ cases) (end ∷ ends) (suc i) =
      let rest = played_front (n + 1) cases ends i in
      let line : List ℕ = case_text p role scenes shown n c end in
      (rest.0, ap (λ (l : List ℕ). line ++ l) rest.1 ∙ sym (append_assoc line (played_lines p role scenes shown (n + 1) cases (take i ends)) rest.0))

module _ (p : ProtocolValue) (role : ℕ) where
  -- what the next case lacks
  pub lacking_next : (cases : List Attempt) (vs : List Verdict) (i : ℕ) (a : Attempt) (v : Verdict) → slice_get cases i ≡ Some a → slice_get vs i ≡ Some v
      → all_lacking p role (drop i cases) (drop i vs) ≡ lacking_lines p role a v ++ all_lacking p role (drop (i + 1) cases) (drop (i + 1) vs)
  lacking_next [] vs i a v at there = cc
  lacking_next (c ∷ cases) [] i a v at there = cc
  lacking_next (c ∷ cases) (w ∷ vs) zero a v at there =
      let same : c ≡ a = cc in let also : w ≡ v = cc in
      ap (λ (z : Attempt). lacking_lines p role z w ++ all_lacking p role cases vs) same ∙ ap (λ (z : Verdict). lacking_lines p role a z ++ all_lacking p role cases vs) also
  lacking_next (c ∷ cases) (w ∷ vs) (suc i) a v at there = let m : suc i + 1 ≡ suc (i + 1) = omega arith in rw m (lacking_next cases vs i a v at there)

  pub no_more_verdicts : (cases : List Attempt) (vs : List Verdict) (i : ℕ) → slice_get vs i ≡ None → all_lacking p role (drop i cases) (drop i vs) ≡ []
  no_more_verdicts cases [] zero none = by cases where
    by : (cs : List Attempt) → all_lacking p role cs [] ≡ []
    by [] = refl
    by (c ∷ cs) = refl
  no_more_verdicts cases [] (suc i) none = by (drop (suc i) cases) where
    by : (cs : List Attempt) → all_lacking p role cs [] ≡ []
    by [] = refl
    by (c ∷ cs) = refl
  no_more_verdicts cases (v ∷ vs) zero none = cc
  no_more_verdicts [] (v ∷ vs) (suc i) none = refl
  no_more_verdicts (c ∷ cases) (v ∷ vs) (suc i) none = no_more_verdicts cases vs i none

-- ---- partners

pub lack_there : (rs : List (Result Partner Lack)) (i : ℕ) (r : Result Partner Lack) → slice_get rs i ≡ Some r → lack_in (map lack_of rs) i ≡ lack_of r
lack_there [] i r at = cc
lack_there (x ∷ rs) zero r at = let same : x ≡ r = cc in ap lack_of same
lack_there (x ∷ rs) (suc i) r at = lack_there rs i r at

pub lack_beyond : (rs : List (Result Partner Lack)) (i : ℕ) → slice_get rs i ≡ None → lack_in (map lack_of rs) i ≡ None
lack_beyond [] zero none = refl
lack_beyond [] (suc i) none = refl
lack_beyond (x ∷ rs) zero none = cc
lack_beyond (x ∷ rs) (suc i) none = lack_beyond rs i none
