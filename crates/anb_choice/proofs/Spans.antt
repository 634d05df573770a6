-- The arms that stand in a text whose tokens are in order.
use Rattle.std.proofs.Common.{◌≡◌, ℕ, zero, suc, ◌+◌, ◌-◌, ◌<◌, ◌≤◌, List, [], ◌∷◌, ◌++◌, length, drop, Bool, true, false, Option, Some, None, Result, Ok, Err, refl, sym, ap, subst, ◌∙◌, arith, cond, append_assoc, length-append}
use Rattle.std.proofs.lemmas.List.{append-nil}
use Rattle.std.specs.Prelude.{not}
use Rattle.std.specs.List.{AllByRecursion}
use Rattle.anb_syntax.specs.Words.{is_name}
use Rattle.anb_protocol.specs.Choices.{refuse_if}
use Rattle.anb_choice.specs.declared.marks.Kind.{Kind}
use Rattle.anb_choice.specs.declared.marks.Kind.TheVariants.{Choice, Actions, Colon, Semicolon, Name, Other, Stop, Bad}
use Rattle.anb_choice.specs.declared.marks.Mark.{Mark}
use Rattle.anb_choice.specs.declared.order.Span.{Span}
use Rattle.anb_choice.specs.Order.{bytes_between, chooser_in, ends_looking, kind_at, kind_eqb, past_at, place_at, stem_end, stem_size}
use Rattle.anb_choice.specs.Parsing.{arm_heading, arm_size, arm_span, arms_at, at_end, behind_arm, choice_heading, closes_at, misfit, order, unless, with_front}
use Rattle.anb_choice.specs.Standing.{IsSpanOf, Stand}
use Rattle.anb_choice.proofs.Fronts.{before-within}
use Rattle.anb_choice.proofs.Places.{past_behind, past_of_rest, place_of_rest, stand_drop, stand_past}

pub colon_goes_on : (k : Kind) → kind_eqb Colon k ≡ true → ends_looking k ≡ false
colon_goes_on Choice e = cc
colon_goes_on Actions e = cc
colon_goes_on Colon e = refl
colon_goes_on Semicolon e = cc
colon_goes_on Name e = cc
colon_goes_on Other e = cc
colon_goes_on Stop e = cc
colon_goes_on Bad e = cc

pub name_kind : (k : Kind) → kind_eqb Name k ≡ true → k ≡ Name
name_kind Choice e = cc
name_kind Actions e = cc
name_kind Colon e = cc
name_kind Semicolon e = cc
name_kind Name e = refl
name_kind Other e = cc
name_kind Stop e = cc
name_kind Bad e = cc

-- the first kind fits, and so do the others
pub fits_first : (k : Kind) (ks : List Kind) (m : Mark) (ms : List Mark) → misfit (k ∷ ks) (m ∷ ms) ≡ None → (kind_eqb k m.kind ≡ true) × (misfit ks ms ≡ None)
fits_first k ks m ms e = by (kind_eqb k m.kind) refl e where
  by : (b : Bool) → kind_eqb k m.kind ≡ b → cond b (misfit ks ms) (Some m.at) ≡ None → (kind_eqb k m.kind ≡ true) × (misfit ks ms ≡ None)
  by true t f = (t, f)
  by false t f = cc

nothing_fits : (k : Kind) (ks : List Kind) → misfit (k ∷ ks) [] ≡ None → ⊥
nothing_fits k ks e = cc

pub unless_ok : {A : Type 0} (o : Option ℕ) (r : Result A ℕ) (a : A) → unless o r ≡ Ok a → (o ≡ None) × (r ≡ Ok a)
unless_ok None r a e = (refl, e)
unless_ok (Some at) r a e = cc

pub front_ok : (front : List Span) (r : Result (List Span) ℕ) (spans : List Span) → with_front front r ≡ Ok spans → (more : List Span) × (r ≡ Ok more) × (spans ≡ front ++ more)
front_ok front (Ok more) spans e = (more, refl, cc)
front_ok front (Err at) spans e = cc

pub end_ok : (least : ℕ) (ms : List Mark) (spans : List Span) → at_end least ms ≡ Ok spans → (least ≡ 0) × (spans ≡ [])
end_ok zero ms spans e = (refl, cc)
end_ok (suc least) ms spans e = cc

-- what arms come to: none, or one and then others
module _ (Of : ℕ → ℕ → List Mark → List Span → Type 0)
    (none : (most : ℕ) (ms : List Mark) → kind_eqb (kind_at ms 0) Stop ≡ true → Of 0 most ms [])
    (more : (least most : ℕ) (a c : Mark) (rest : List Mark) (spans : List Span) → kind_eqb Actions a.kind ≡ true → kind_eqb Colon c.kind ≡ true
    → Of (least - 1) most (behind_arm (a ∷ c ∷ rest)) spans → Of least (suc most) (a ∷ c ∷ rest) (arm_span (a ∷ c ∷ rest) ∷ spans)) where
  end_of : (least most : ℕ) (ms : List Mark) (spans : List Span) → kind_eqb (kind_at ms 0) Stop ≡ true → at_end least ms ≡ Ok spans → Of least most ms spans
  end_of least most ms spans stop e =
      let r = end_ok least ms spans e in
      subst (λ (l : ℕ). Of l most ms spans) (sym r.0) (subst (λ (s : List Span). Of 0 most ms s) (sym r.1) (none most ms stop))

  -- an arm, and what comes of the rest
  arm_of : (least most : ℕ) (us : List Mark) (spans : List Span) → ((vs : List Mark) (more : List Span) → arms_at (least - 1) most vs ≡ Ok more → Of (least - 1) most vs more)
      → misfit arm_heading us ≡ None → with_front (arm_span us ∷ []) (arms_at (least - 1) most (behind_arm us)) ≡ Ok spans → Of least (suc most) us spans
  arm_of least most [] spans later f g = cc
  arm_of least most (a ∷ []) spans later f g = let one = fits_first Actions (Colon ∷ []) a [] f in absurd (nothing_fits Colon [] one.1)
  arm_of least most (a ∷ c ∷ rest) spans later f g =
      let one = fits_first Actions (Colon ∷ []) a (c ∷ rest) f in
      let two = fits_first Colon [] c rest one.1 in
      let r = front_ok (arm_span (a ∷ c ∷ rest) ∷ []) (arms_at (least - 1) most (behind_arm (a ∷ c ∷ rest))) spans g in
      subst (λ (s : List Span). Of least (suc most) (a ∷ c ∷ rest) s) (sym r.2)
      (more least most a c rest r.0 one.0 two.0 (later (behind_arm (a ∷ c ∷ rest)) r.0 r.1))

  last_of : (b : Bool) (least : ℕ) (ms : List Mark) (spans : List Span) → kind_eqb (kind_at ms 0) Stop ≡ b → cond b (at_end least ms) (Err (place_at ms 0)) ≡ Ok spans → Of least 0 ms spans
  last_of true least ms spans stop e = end_of least 0 ms spans stop e
  last_of false least ms spans stop e = cc

  next_of : (b : Bool) (least most : ℕ) (ms : List Mark) (spans : List Span) → ((vs : List Mark) (more : List Span) → arms_at (least - 1) most vs ≡ Ok more → Of (least - 1) most vs more)
      → kind_eqb (kind_at ms 0) Stop ≡ b → cond b (at_end least ms) (unless (misfit arm_heading ms) (with_front (arm_span ms ∷ []) (arms_at (least - 1) most (behind_arm ms)))) ≡ Ok spans → Of least (suc most) ms spans
  next_of true least most ms spans later stop e = end_of least (suc most) ms spans stop e
  next_of false least most ms spans later stop e = let r = unless_ok (misfit arm_heading ms) (with_front (arm_span ms ∷ []) (arms_at (least - 1) most (behind_arm ms))) spans e in arm_of least most ms spans later r.0 r.1

  pub arms_come : (least most : ℕ) (ms : List Mark) (spans : List Span) → arms_at least most ms ≡ Ok spans → Of least most ms spans
  unfolding arms_at
  arms_come least zero ms spans e = last_of (kind_eqb (kind_at ms 0) Stop) least ms spans refl e
  arms_come least (suc most) ms spans e = next_of (kind_eqb (kind_at ms 0) Stop) least most ms spans (λ vs more f. arms_come (least - 1) most vs more f) refl e

-- how many there are
pub arms_count : (least most : ℕ) (ms : List Mark) (spans : List Span) → arms_at least most ms ≡ Ok spans → (least ≤ length spans) × (length spans ≤ most)
arms_count = arms_come (λ least most ms spans. (least ≤ length spans) × (length spans ≤ most)) (λ most ms stop. (omega arith, omega arith))
    (λ least most a c rest spans actions colon r. let low = r.0 in let high = r.1 in (omega (arith, low), omega (arith, high)))

-- and where they stand
module _ (x : List ℕ) (behind to : ℕ) where
  abbrev AllStand : ℕ → ℕ → List Mark → List Span → Type 0
  AllStand least most ms spans = (from : ℕ) → behind ≤ from → Stand x from ms to → AllByRecursion (IsSpanOf x behind) spans

  next_stand : (least most : ℕ) (a c : Mark) (rest : List Mark) (spans : List Span) → kind_eqb Actions a.kind ≡ true → kind_eqb Colon c.kind ≡ true
      → AllStand (least - 1) most (behind_arm (a ∷ c ∷ rest)) spans → AllStand least (suc most) (a ∷ c ∷ rest) (arm_span (a ∷ c ∷ rest) ∷ spans)
  next_stand least most a c rest spans actions colon later from low s =
      let n = arm_size (a ∷ c ∷ rest) in
      let first = s.0.low in
      let first_bytes = s.0.bytes in
      let second = s.1.0.low in
      let some = s.1.0.some (colon_goes_on c.kind colon) in
      let past = past_behind x c rest to n (before-within (Choice ∷ Actions ∷ Stop ∷ Bad ∷ []) rest) s.1.0.high s.1.1 in
      let same : past_at (a ∷ c ∷ rest) (n + 1) ≡ past_at (c ∷ rest) n = ap (past_at (a ∷ c ∷ rest)) (one_more n) in
      let end_low = past.0 in
      let end_high = past.1 in
      let next = stand_drop x c.past rest to n s.1.1 in
      let farther = next.1 in (
        record { low = omega (arith, low, first, first_bytes, second, some); bytes = omega (arith, same, end_low); high = omega (arith, same, end_high) },
        later next.0 (omega (arith, low, first, first_bytes, second, some, farther)) next.2,
      )
    where
      one_more : (k : ℕ) → k + 1 ≡ suc k
      one_more k = omega arith

  pub arms_stand : (least most : ℕ) (ms : List Mark) (spans : List Span) → arms_at least most ms ≡ Ok spans → AllStand least most ms spans
  arms_stand = arms_come AllStand (λ most ms stop from low s. tt) next_stand

-- ---- the whole order

pub record AreInOrder (ms : List Mark) (spans : List Span) : Type 0 where
  pub closed : closes_at ms (stem_size ms) ≡ true
  pub choice : misfit choice_heading (drop (stem_size ms) ms) ≡ None
  pub arms : arms_at 2 8 (drop 4 (drop (stem_size ms) ms)) ≡ Ok spans

passed : (b : Bool) (at : ℕ) → refuse_if (not b) at ≡ None → b ≡ true
passed true at e = refl
passed false at e = cc

pub in_order : (ms : List Mark) (spans : List Span) → order ms ≡ Ok spans → AreInOrder ms spans
in_order ms spans e =
    let one = unless_ok (refuse_if (not (closes_at ms (stem_size ms))) (place_at (drop (stem_size ms) ms) 0)) (unless (misfit choice_heading (drop (stem_size ms) ms)) (arms_at 2 8 (drop 4 (drop (stem_size ms) ms)))) spans e in
    let two = unless_ok (misfit choice_heading (drop (stem_size ms) ms)) (arms_at 2 8 (drop 4 (drop (stem_size ms) ms))) spans one.1 in
    record { closed = passed (closes_at ms (stem_size ms)) (place_at (drop (stem_size ms) ms) 0) one.0; choice = two.0; arms = two.1 }

-- the chooser's name, and what follows it
record IsChoice (x : List ℕ) (mid to : ℕ) (us : List Mark) : Type 0 where
  name : is_name (bytes_between x (place_at us 2) (past_at us 2)) ≡ true
  bytes : place_at us 2 ≤ past_at us 2
  high : past_at us 2 ≤ length x
  from : ℕ
  low : mid ≤ from
  rest : Stand x from (drop 4 us) to

choice_stands : (x : List ℕ) (mid to : ℕ) (us : List Mark) → misfit choice_heading us ≡ None → Stand x mid us to → IsChoice x mid to us
choice_stands x mid to [] f s = cc
choice_stands x mid to (a ∷ []) f s = let one = fits_first Choice (Colon ∷ Name ∷ Semicolon ∷ []) a [] f in absurd (nothing_fits Colon (Name ∷ Semicolon ∷ []) one.1)
choice_stands x mid to (a ∷ b ∷ []) f s =
    let one = fits_first Choice (Colon ∷ Name ∷ Semicolon ∷ []) a (b ∷ []) f in
    let two = fits_first Colon (Name ∷ Semicolon ∷ []) b [] one.1 in
    absurd (nothing_fits Name (Semicolon ∷ []) two.1)
choice_stands x mid to (a ∷ b ∷ c ∷ []) f s =
    let one = fits_first Choice (Colon ∷ Name ∷ Semicolon ∷ []) a (b ∷ c ∷ []) f in
    let two = fits_first Colon (Name ∷ Semicolon ∷ []) b (c ∷ []) one.1 in
    let three = fits_first Name (Semicolon ∷ []) c [] two.1 in
    absurd (nothing_fits Semicolon [] three.1)
choice_stands x mid to (a ∷ b ∷ c ∷ d ∷ us) f s =
    let one = fits_first Choice (Colon ∷ Name ∷ Semicolon ∷ []) a (b ∷ c ∷ d ∷ us) f in
    let two = fits_first Colon (Name ∷ Semicolon ∷ []) b (c ∷ d ∷ us) one.1 in
    let named = (fits_first Name (Semicolon ∷ []) c (d ∷ us) two.1).0 in
    let c_stands = s.1.1.0 in
    let l1 = s.0.low in
    let l2 = s.0.bytes in
    let l3 = s.1.0.low in
    let l4 = s.1.0.bytes in
    let l5 = s.1.1.0.low in
    let l6 = s.1.1.0.bytes in
    let l7 = s.1.1.1.0.low in
    let l8 = s.1.1.1.0.bytes in
    record {
      name = c_stands.name (name_kind c.kind named);
      bytes = c_stands.bytes;
      high = c_stands.high;
      from = d.past;
      low = omega (arith, l1, l2, l3, l4, l5, l6, l7, l8);
      rest = s.1.1.1.1;
    }

-- all that a text in order says of where its parts stand
pub record PartsStand (x : List ℕ) (ms : List Mark) (spans : List Span) : Type 0 where
  pub few : 2 ≤ length spans
  pub most : length spans ≤ 8
  pub arms : AllByRecursion (IsSpanOf x (stem_end ms)) spans
  pub name : is_name (chooser_in x ms) ≡ true
  pub bytes : place_at ms (stem_size ms + 2) ≤ past_at ms (stem_size ms + 2)
  pub high : past_at ms (stem_size ms + 2) ≤ length x

pub closed_some : (ms : List Mark) (n : ℕ) → closes_at ms n ≡ true → (k : ℕ) × (n ≡ suc k)
closed_some ms zero e = cc
closed_some ms (suc n) e = (n, refl)

one_less : (k : ℕ) → suc k - 1 ≡ k
one_less k = omega arith

pub parts_stand : (x : List ℕ) (ms : List Mark) (spans : List Span) (to : ℕ) → order ms ≡ Ok spans → Stand x 0 ms to → PartsStand x ms spans
parts_stand x ms spans to e s =
    let o = in_order ms spans e in
    let size = stem_size ms in
    let some = closed_some ms size o.closed in
    let k = some.0 in
    let within : k < length ms = omega (arith, some.1, before-within (Choice ∷ Stop ∷ Bad ∷ []) ms) in
    let past = stand_past x 0 ms to k within s in
    let choice = subst (λ (n : ℕ). Stand x past.0 (drop n ms) to) (sym some.1) past.2 in
    let c = choice_stands x past.0 to (drop size ms) o.choice choice in
    let ends : stem_end ms ≡ past_at ms k = ap (λ (n : ℕ). past_at ms (n - 1)) some.1 ∙ ap (past_at ms) (one_less k) in
    let end_low = past.1 in
    let low = c.low in
    let count = arms_count 2 8 (drop 4 (drop size ms)) spans o.arms in
    let at_place = place_of_rest ms size 2 in
    let at_past = past_of_rest ms size 2 in
    record {
      few = count.0;
      most = count.1;
      arms = arms_stand x (stem_end ms) to 2 8 (drop 4 (drop size ms)) spans o.arms c.from (omega (arith, ends, end_low, low)) c.rest;
      name = subst (λ (n : ℕ). is_name (bytes_between x (place_at ms (size + 2)) n) ≡ true) at_past
          (subst (λ (n : ℕ). is_name (bytes_between x n (past_at (drop size ms) 2)) ≡ true) at_place c.name);
      bytes = let b = c.bytes in omega (arith, at_place, at_past, b);
      high = let h = c.high in omega (arith, at_past, h);
    }

-- ---- the arms, one after another

module _ (least : ℕ) (ms : List Mark) where
  pub at_stop : (most : ℕ) → kind_eqb (kind_at ms 0) Stop ≡ true → arms_at least most ms ≡ at_end least ms
  unfolding arms_at
  at_stop zero e = ap (λ b. cond b (at_end least ms) (Err (place_at ms 0))) e
  at_stop (suc most) e = ap (λ b. cond b (at_end least ms) (unless (misfit arm_heading ms) (with_front (arm_span ms ∷ []) (arms_at (least - 1) most (behind_arm ms))))) e

  pub at_most : kind_eqb (kind_at ms 0) Stop ≡ false → arms_at least 0 ms ≡ Err (place_at ms 0)
  unfolding arms_at
  at_most e = ap (λ b. cond b (at_end least ms) (Err (place_at ms 0))) e

  pub at_arm : (most : ℕ) (o : Option ℕ) → kind_eqb (kind_at ms 0) Stop ≡ false → misfit arm_heading ms ≡ o
      → arms_at least (suc most) ms ≡ unless o (with_front (arm_span ms ∷ []) (arms_at (least - 1) most (behind_arm ms)))
  unfolding arms_at
  at_arm most o e f =
      ap (λ b. cond b (at_end least ms) (unless (misfit arm_heading ms) (with_front (arm_span ms ∷ []) (arms_at (least - 1) most (behind_arm ms))))) e
      ∙ ap (λ p. unless p (with_front (arm_span ms ∷ []) (arms_at (least - 1) most (behind_arm ms)))) f

fronts : (a b : List Span) (r : Result (List Span) ℕ) → with_front a (with_front b r) ≡ with_front (a ++ b) r
fronts a b (Ok c) = ap Ok (sym (append_assoc a b c))
fronts a b (Err at) = refl

-- these arms were found, and these tokens are left
abbrev pub SoFar : List Mark → List Span → List Mark → Type 0
SoFar ms spans rest = with_front spans (arms_at (2 - length spans) (8 - length spans) rest) ≡ arms_at 2 8 ms

module _ (ms : List Mark) (spans : List Span) (rest : List Mark) (so : SoFar ms spans rest) where
  of_rest : (most : ℕ) (r : Result (List Span) ℕ) → 8 - length spans ≡ most → arms_at (2 - length spans) most rest ≡ r → with_front spans r ≡ arms_at 2 8 ms
  of_rest most r e f = ap (with_front spans) (sym f ∙ ap (λ k. arms_at (2 - length spans) k rest) (sym e)) ∙ so

  pub arms_full : length spans ≡ 8 → kind_eqb (kind_at rest 0) Stop ≡ false → arms_at 2 8 ms ≡ Err (place_at rest 0)
  arms_full n e = sym (of_rest 0 (Err (place_at rest 0)) (omega (arith, n)) (at_most (2 - length spans) rest e))

  pub arms_misfit : (at : ℕ) → length spans < 8 → kind_eqb (kind_at rest 0) Stop ≡ false → misfit arm_heading rest ≡ Some at → arms_at 2 8 ms ≡ Err at
  arms_misfit at n e f = sym (of_rest (suc (7 - length spans)) (Err at) (omega (arith, n)) (at_arm (2 - length spans) rest (7 - length spans) (Some at) e f))

  pub arms_more : length spans < 8 → kind_eqb (kind_at rest 0) Stop ≡ false → misfit arm_heading rest ≡ None → SoFar ms (spans ++ arm_span rest ∷ []) (behind_arm rest)
  arms_more n e f =
      let size : length (spans ++ arm_span rest ∷ []) ≡ length spans + 1 = length-append spans (arm_span rest ∷ []) in
      let most : 8 - length (spans ++ arm_span rest ∷ []) ≡ 7 - length spans = omega (arith, size) in
      let least : 2 - length (spans ++ arm_span rest ∷ []) ≡ 2 - length spans - 1 = omega (arith, size) in
      ap (λ k. with_front (spans ++ arm_span rest ∷ []) (arms_at (2 - length (spans ++ arm_span rest ∷ [])) k (behind_arm rest))) most
      ∙ ap (λ k. with_front (spans ++ arm_span rest ∷ []) (arms_at k (7 - length spans) (behind_arm rest))) least
      ∙ sym (fronts spans (arm_span rest ∷ []) (arms_at (2 - length spans - 1) (7 - length spans) (behind_arm rest)))
      ∙ of_rest (suc (7 - length spans)) (with_front (arm_span rest ∷ []) (arms_at (2 - length spans - 1) (7 - length spans) (behind_arm rest))) (omega (arith, n)) (at_arm (2 - length spans) rest (7 - length spans) None e f)

  pub arms_few : length spans < 2 → kind_eqb (kind_at rest 0) Stop ≡ true → arms_at 2 8 ms ≡ Err (place_at rest 0)
  arms_few n e =
      let some : 2 - length spans ≡ suc (1 - length spans) = omega (arith, n) in
      sym (of_rest (8 - length spans) (Err (place_at rest 0)) refl (at_stop (2 - length spans) rest (8 - length spans) e ∙ ap (λ k. at_end k rest) some))

  pub arms_done : 2 ≤ length spans → kind_eqb (kind_at rest 0) Stop ≡ true → arms_at 2 8 ms ≡ Ok spans
  arms_done n e =
      let none : 2 - length spans ≡ 0 = omega (arith, n) in
      sym (of_rest (8 - length spans) (Ok []) refl (at_stop (2 - length spans) rest (8 - length spans) e ∙ ap (λ k. at_end k rest) none)) ∙ ap Ok (append-nil spans)

-- ---- the order, by what the tokens are

module _ (ms : List Mark) where
  closed_first : (b : Bool) → closes_at ms (stem_size ms) ≡ b → order ms ≡ unless (refuse_if (not b) (place_at (drop (stem_size ms) ms) 0))
      (unless (misfit choice_heading (drop (stem_size ms) ms)) (arms_at 2 8 (drop 4 (drop (stem_size ms) ms))))
  closed_first b e = ap (λ c. unless (refuse_if (not c) (place_at (drop (stem_size ms) ms) 0)) (unless (misfit choice_heading (drop (stem_size ms) ms)) (arms_at 2 8 (drop 4 (drop (stem_size ms) ms))))) e

  pub order_open : closes_at ms (stem_size ms) ≡ false → order ms ≡ Err (place_at (drop (stem_size ms) ms) 0)
  order_open e = closed_first false e

  pub order_choice : (o : Option ℕ) → closes_at ms (stem_size ms) ≡ true → misfit choice_heading (drop (stem_size ms) ms) ≡ o → order ms ≡ unless o (arms_at 2 8 (drop 4 (drop (stem_size ms) ms)))
  order_choice o e f = closed_first true e ∙ ap (λ p. unless p (arms_at 2 8 (drop 4 (drop (stem_size ms) ms)))) f

-- ---- what the code of the arms has

pub stops : (k m : Kind) (r v : Bool) → r ≡ kind_eqb k Stop → k ≡ m → r ≡ v → kind_eqb m Stop ≡ v
stops k m r v e f g = ap (λ l. kind_eqb l Stop) (sym f) ∙ sym e ∙ g

abbrev span : ℕ → ℕ → Span
span a b = record { from = a; to = b }

-- the span of an arm by its ends
pub span_is : (ms : List Mark) (from to size : ℕ) (us : List Mark) → from ≡ past_at ms 1 → us ≡ drop 1 ms → size ≡ arm_size ms → to ≡ past_at us size
    → span from to ≡ arm_span ms
span_is ms from to size us e f g h =
    let last : to ≡ past_at ms (arm_size ms + 1) = h ∙ ap (λ l. past_at l size) f ∙ past_of_rest ms 1 size ∙ ap (past_at ms) (omega (arith, g)) in
    ap (λ n. span n to) e ∙ ap (span (past_at ms 1)) last

pub left_is : (ms us vs : List Mark) (size : ℕ) → us ≡ drop 2 ms → size ≡ arm_size ms → vs ≡ drop size us → vs ≡ behind_arm ms
left_is ms us vs size e f g = g ∙ ap (drop size) e ∙ ap (λ n. drop n (drop 2 ms)) f

pub next_so_far : (ms : List Mark) (spans : List Span) (rest : List Mark) (now : List Span) (s : Span) (left : List Mark) → SoFar ms spans rest
    → now ≡ spans ++ s ∷ [] → s ≡ arm_span rest → left ≡ behind_arm rest → length spans < 8 → kind_eqb (kind_at rest 0) Stop ≡ false → misfit arm_heading rest ≡ None → SoFar ms now left
next_so_far ms spans rest now s left so e f g n k m =
    subst (λ (l : List Span). SoFar ms l left) (sym e) (subst (λ (l : List Mark). SoFar ms (spans ++ s ∷ []) l) (sym g)
    (subst (λ (z : Span). SoFar ms (spans ++ z ∷ []) (behind_arm rest)) (sym f) (arms_more ms spans rest so n k m)))
