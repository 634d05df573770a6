-- Cases that are played one after the other.
use Rattle.std.proofs.Common.{◌≡◌, ◌≢◌, ◌≤◌, ◌<◌, ◌⊎◌, ℕ, zero, suc, ◌+◌, List, [], ◌∷◌, ◌++◌, length, Option, Some, refl, ap, sym, ◌∙◌, subst, inl, inr, arith}
use Rattle.std.specs.Prelude.{slice_get}
use Rattle.std.proofs.lemmas.Bool.{cases_order}
use Rattle.anb_lemmas.proofs.Lists.{get_either, got_within}
use Rattle.anb_attempts.specs.declared.attempts.Attempt.{Attempt}
use Rattle.anb_attempts.specs.declared.attempts.Scene.{Scene}
use Rattle.anb_partner.specs.Trials.{OthersStay, Trial}
use Rattle.anb_probe_commands.specs.Plays.{ArePlayed, CaseEnd, IsTried, reached_in}
use Rattle.anb_probe_commands.specs.Probings.{Probing}

-- ---- what holds at each place of two lists

same_some : {A : Type 0} (x y : A) → ◌≡◌ {A = Option A} (Some x) (Some y) → x ≡ y
same_some x y e = cc

module _ {A B : Type 0} (P : ℕ → A → B → Type 0) (xs : List A) (ys : List B) (a : A) (b : B) (at : slice_get xs (length ys) ≡ Some a) (here : P (length ys) a b) where
  pub one_more_at : ((i : ℕ) (x : A) (y : B) → slice_get xs i ≡ Some x → slice_get ys i ≡ Some y → P i x y) → (i : ℕ) (x : A) (y : B) → slice_get xs i ≡ Some x → slice_get (ys ++ b ∷ []) i ≡ Some y → P i x y
  one_more_at all i x y got there = by (get_either ys (b ∷ []) i y there) where
    last : (j : ℕ) → i ≡ length ys + j → slice_get (b ∷ []) j ≡ Some y → P i x y
    last zero is e =
        let same : i ≡ length ys = omega (arith, is) in
        let second : b ≡ y = same_some b y e in
        let first : a ≡ x = same_some a x (sym at ∙ ap (slice_get xs) (sym same) ∙ got) in
        subst (λ (k : ℕ). P k x y) (sym same) (subst (λ (z : B). P (length ys) x z) second (subst (λ (z : A). P (length ys) z b) first here))
    last (suc j) is e = cc

    by : (slice_get ys i ≡ Some y) ⊎ ((j : ℕ) × (i ≡ length ys + j) × (slice_get (b ∷ []) j ≡ Some y)) → P i x y
    by (inl before) = all i x y got before
    by (inr (j, is, e)) = last j is e

-- ---- one case more

pub none_left_at_first : (old : ℕ → Trial) → ((i : ℕ) → (old i).phase ≡ 0) → (i : ℕ) → (old i).phase ≢ 1
none_left_at_first old fresh i is = absurd (let zero_is : 0 ≡ 1 = sym (fresh i) ∙ is in omega (arith, zero_is))

module _ (q : Probing) (scenes : List Scene) (program : List (List ℕ)) (cases : List Attempt) where
  pub none_played : (old : ℕ → Trial) (reached last : ℕ) → ((i : ℕ) → (old i).phase ≡ 0) → ArePlayed q scenes program cases reached [] last old old
  none_played old reached last fresh = record {
    each = λ i a end at there. absurd (not_there i end there);
    others = λ i after. refl;
    none_left = none_left_at_first old fresh;
  } where
    not_there : (i : ℕ) (end : CaseEnd) → slice_get [] i ≡ Some end → ⊥
    not_there i end e = cc

  module _ (old mid new : ℕ → Trial) (reached : ℕ) (ends : List CaseEnd) (last : ℕ) (played : ArePlayed q scenes program cases reached ends last old mid) (stay : OthersStay (length ends) mid new) (gone : (new (length ends)).phase ≢ 1) where
    still_none_left : (i : ℕ) → (new i).phase ≢ 1
    still_none_left i is = by (cases_order i (length ends)) where
      other : i ≢ length ends → ⊥
      other differs = played.none_left i (subst (λ (t : Trial). t.phase ≡ 1) (stay i differs) is)

      by : (i ≡ length ends) ⊎ ((i < length ends) ⊎ (length ends < i)) → ⊥
      by (inl same) = gone (subst (λ (k : ℕ). (new k).phase ≡ 1) same is)
      by (inr (inl under)) = other (λ same. absurd (omega (arith, same, under)))
      by (inr (inr over)) = other (λ same. absurd (omega (arith, same, over)))

    untouched_after : (bound : ℕ) → last ≤ bound → length ends < bound → (i : ℕ) → bound ≤ i → new i ≡ old i
    untouched_after bound low under i after = stay i (λ is. absurd (omega (arith, is, under, after))) ∙ played.others i (omega (arith, low, after))

    each_before : (i : ℕ) (a : Attempt) (end : CaseEnd) → slice_get cases i ≡ Some a → slice_get ends i ≡ Some end
        → (got : ℕ) × IsTried q scenes program a (reached_in i reached) (old i) (new i) end got × (i ≡ 0 → reached ≡ got)
    each_before i a end at there =
        let under : i < length ends = got_within ends i end there in
        let same : new i ≡ mid i = stay i (λ is. absurd (omega (arith, is, under))) in
        let was = played.each i a end at there in
        (was.0, subst (λ (t : Trial). IsTried q scenes program a (reached_in i reached) (old i) t end was.0) (sym same) was.1, was.2)

    -- the next one was begun, and came to no verdict
    pub begun : last ≤ length ends + 1 → ArePlayed q scenes program cases reached ends (length ends + 1) old new
    begun low = record { each = each_before; others = untouched_after (length ends + 1) low (omega arith); none_left = still_none_left }

    -- it came to one
    module _ (a : Attempt) (end : CaseEnd) (got : ℕ) (at : slice_get cases (length ends) ≡ Some a) where
      abbrev Here : ℕ → ℕ → Attempt → CaseEnd → Type 0
      Here r i b w = (g : ℕ) × IsTried q scenes program b (reached_in i r) (old i) (new i) w g × (i ≡ 0 → r ≡ g)

      pub one_more : (r : ℕ) → (0 < length ends → r ≡ reached) → (length ends ≡ 0 → r ≡ got) → IsTried q scenes program a (reached_in (length ends) r) (old (length ends)) (new (length ends)) end got
          → (bound : ℕ) → last ≤ bound → length ends < bound → ArePlayed q scenes program cases r (ends ++ end ∷ []) bound old new
      one_more r as_before is_first tried bound low under = record {
        each = one_more_at (Here r) cases ends a end at (got, tried, is_first) (λ i b w there found.
            let more : 0 < length ends = omega (arith, got_within ends i w found) in
            subst (λ (k : ℕ). Here k i b w) (sym (as_before more)) (each_before i b w there found));
        others = untouched_after bound low under;
        none_left = still_none_left;
      }
