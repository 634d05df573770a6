-- The order of a text with a choice is found exactly where it is there.
use Rattle.std.proofs.Common.{◌≡◌, inl, inr, ℕ, zero, suc, ◌+◌, ◌-◌, ◌<◌, ◌≤◌, List, [], ◌∷◌, ◌++◌, length, take, drop, Bool, true, false, cond, Some, None, Result, Ok, refl, sym, ap, subst, ◌∙◌, arith, append_assoc, length-append}
use Rattle.std.specs.Prelude.{◌&&◌, ◌||◌, not}
use Rattle.std.specs.List.{AllZip, flat_map, list_any}
use Rattle.std.proofs.lemmas.List.{take-append-drop}
use Rattle.anb_syntax.specs.Words.{Tok}
use Rattle.anb_choice.specs.declared.marks.Kind.{Kind}
use Rattle.anb_choice.specs.declared.marks.Kind.TheVariants.{Choice, Actions, Colon, Semicolon, Name, Other, Stop, Bad}
use Rattle.anb_choice.specs.declared.marks.Mark.{Mark}
use Rattle.anb_choice.specs.declared.order.Span.{Span}
use Rattle.anb_choice.specs.Order.{AreMarks, HasNone, HasOrder, IsArm, IsClosed, before, ends_looking, kind_at, kind_eqb, kind_of, kinds_of, looked, mark_of, past_at, past_last, stem_size}
use Rattle.anb_choice.specs.Parsing.{arm_heading, arm_size, arm_span, arms_at, at_end, behind_arm, choice_heading, closes_at, misfit, order, with_front}
use Rattle.anb_choice.proofs.Fronts.{before-within}
use Rattle.anb_choice.proofs.Spans.{arms_come, arms_count, at_arm, at_stop, closed_some, fits_first, in_order, order_choice}

pub kind_one : (k m : Kind) → kind_eqb k m ≡ true → k ≡ m
kind_one Choice Choice e = refl
kind_one Choice Actions e = cc
kind_one Choice Colon e = cc
kind_one Choice Semicolon e = cc
kind_one Choice Name e = cc
kind_one Choice Other e = cc
kind_one Choice Stop e = cc
kind_one Choice Bad e = cc
kind_one Actions Choice e = cc
kind_one Actions Actions e = refl
kind_one Actions Colon e = cc
kind_one Actions Semicolon e = cc
kind_one Actions Name e = cc
kind_one Actions Other e = cc
kind_one Actions Stop e = cc
kind_one Actions Bad e = cc
kind_one Colon Choice e = cc
kind_one Colon Actions e = cc
kind_one Colon Colon e = refl
kind_one Colon Semicolon e = cc
kind_one Colon Name e = cc
kind_one Colon Other e = cc
kind_one Colon Stop e = cc
kind_one Colon Bad e = cc
kind_one Semicolon Choice e = cc
kind_one Semicolon Actions e = cc
kind_one Semicolon Colon e = cc
kind_one Semicolon Semicolon e = refl
kind_one Semicolon Name e = cc
kind_one Semicolon Other e = cc
kind_one Semicolon Stop e = cc
kind_one Semicolon Bad e = cc
kind_one Name Choice e = cc
kind_one Name Actions e = cc
kind_one Name Colon e = cc
kind_one Name Semicolon e = cc
kind_one Name Name e = refl
kind_one Name Other e = cc
kind_one Name Stop e = cc
kind_one Name Bad e = cc
kind_one Other Choice e = cc
kind_one Other Actions e = cc
kind_one Other Colon e = cc
kind_one Other Semicolon e = cc
kind_one Other Name e = cc
kind_one Other Other e = refl
kind_one Other Stop e = cc
kind_one Other Bad e = cc
kind_one Stop Choice e = cc
kind_one Stop Actions e = cc
kind_one Stop Colon e = cc
kind_one Stop Semicolon e = cc
kind_one Stop Name e = cc
kind_one Stop Other e = cc
kind_one Stop Stop e = refl
kind_one Stop Bad e = cc
kind_one Bad Choice e = cc
kind_one Bad Actions e = cc
kind_one Bad Colon e = cc
kind_one Bad Semicolon e = cc
kind_one Bad Name e = cc
kind_one Bad Other e = cc
kind_one Bad Stop e = cc
kind_one Bad Bad e = refl

pub kind_same : (k : Kind) → kind_eqb k k ≡ true
kind_same Choice = refl
kind_same Actions = refl
kind_same Colon = refl
kind_same Semicolon = refl
kind_same Name = refl
kind_same Other = refl
kind_same Stop = refl
kind_same Bad = refl

-- ---- what stands before the first of some kinds

pub plain_before : (kinds : List Kind) (ms : List Mark) → HasNone kinds (take (before kinds ms) ms)
plain_before kinds [] = tt
plain_before kinds (m ∷ ms) = by (list_any (kind_eqb m.kind) kinds) refl (plain_before kinds ms) where
  by : (b : Bool) → list_any (kind_eqb m.kind) kinds ≡ b → HasNone kinds (take (before kinds ms) ms) → HasNone kinds (take (cond (not b) (1 + before kinds ms) 0) (m ∷ ms))
  by true e later = tt
  by false e later = subst (λ (k : ℕ). HasNone kinds (take k (m ∷ ms))) (next (before kinds ms)) (e, later) where
    next : (n : ℕ) → suc n ≡ 1 + n
    next n = omega arith

pub before_plain : (kinds : List Kind) (front : List Mark) (m : Mark) (ms : List Mark) → HasNone kinds front → list_any (kind_eqb m.kind) kinds ≡ true → before kinds (front ++ m ∷ ms) ≡ length front
before_plain kinds [] m ms none one = ap (λ b. cond (not b) (1 + before kinds ms) 0) one
before_plain kinds (f ∷ front) m ms none one =
    ap (λ b. cond (not b) (1 + before kinds (front ++ m ∷ ms)) 0) none.0 ∙ ap (λ n. 1 + n) (before_plain kinds front m ms none.1 one) ∙ next (length front) where
      next : (n : ℕ) → 1 + n ≡ suc n
      next n = omega arith

-- ---- the arms that are found

record Parts (ms : List Mark) (spans : List Span) : Type 0 where
  arms : List (List Mark)
  stop : Mark
  others : List Mark
  are : ms ≡ flat_map (λ (arm : List Mark). arm) arms ++ stop ∷ others
  stops : stop.kind ≡ Stop
  each : AllZip IsArm arms spans

no_more : (ms : List Mark) → kind_eqb (kind_at ms 0) Stop ≡ true → Parts ms []
no_more [] e = absurd (cc)
no_more (m ∷ ms) e = record { arms = []; stop = m; others = ms; are = refl; stops = kind_one m.kind Stop e; each = tt }

pub past_of_last : (m : Mark) (ms : List Mark) (n : ℕ) → n ≤ length ms → past_at (m ∷ ms) n ≡ past_last (m ∷ take n ms)
past_of_last m ms zero h = refl
past_of_last m [] (suc n) h = absurd (omega (arith, h))
past_of_last m (k ∷ ms) (suc n) h = past_of_last k ms n (omega (arith, h))

pub one_more : (k : ℕ) → k + 1 ≡ suc k
one_more k = omega arith

more_parts : (a c : Mark) (rest : List Mark) (spans : List Span) → kind_eqb Actions a.kind ≡ true → kind_eqb Colon c.kind ≡ true
    → Parts (behind_arm (a ∷ c ∷ rest)) spans → Parts (a ∷ c ∷ rest) (arm_span (a ∷ c ∷ rest) ∷ spans)
more_parts a c rest spans actions colon p =
    let ends = Choice ∷ Actions ∷ Stop ∷ Bad ∷ [] in
    let n = before ends rest in
    let body = take n rest in
    let is_actions = kind_one Actions a.kind actions in
    let is_colon = kind_one Colon c.kind colon in
    record {
      arms = (a ∷ c ∷ body) ∷ p.arms;
      stop = p.stop;
      others = p.others;
      are = ap (λ (l : List Mark). a ∷ c ∷ l) (sym (take-append-drop n rest) ∙ ap (λ l. body ++ l) p.are ∙ sym (append_assoc body (flat_map (λ (arm : List Mark). arm) p.arms) (p.stop ∷ p.others)));
      stops = p.stops;
      each = (
        record {
          heading = a ∷ c ∷ [];
          body = body;
          are = refl;
          headed = ap (λ k. k ∷ c.kind ∷ []) (sym is_actions) ∙ ap (λ k. Actions ∷ k ∷ []) (sym is_colon);
          plain = plain_before ends rest;
          from = refl;
          to = ap (past_at (a ∷ c ∷ rest)) (one_more n) ∙ past_of_last c rest n (before-within ends rest);
        },
        p.each,
      );
    }

parts_come : (least most : ℕ) (ms : List Mark) (spans : List Span) → arms_at least most ms ≡ Ok spans → Parts ms spans
parts_come = arms_come (λ least most ms spans. Parts ms spans) (λ most ms stop. no_more ms stop) (λ least most a c rest spans actions colon p. more_parts a c rest spans actions colon p)

-- behind the end nothing is looked at
pub stop_last : (x : List ℕ) (ts : List Tok) (front others : List Mark) (m : Mark) → looked x ts ≡ front ++ m ∷ others → ends_looking m.kind ≡ true → others ≡ []
stop_last x [] [] others m e stop = cc
stop_last x [] (f ∷ front) others m e stop = cc
stop_last x (t ∷ ts) [] others m e stop =
    let same : mark_of x t ≡ m = cc in
    let rest : cond (ends_looking (kind_of t.word)) [] (looked x ts) ≡ others = cc in
    sym rest ∙ ap (λ b. cond b [] (looked x ts)) (ap (λ (k : Mark). ends_looking k.kind) same ∙ stop)
stop_last x (t ∷ ts) (f ∷ front) others m e stop = by (ends_looking (kind_of t.word)) (let rest : cond (ends_looking (kind_of t.word)) [] (looked x ts) ≡ front ++ m ∷ others = cc in rest) (λ f. stop_last x ts front others m f stop) where
  by : (b : Bool) → cond b [] (looked x ts) ≡ front ++ m ∷ others → (looked x ts ≡ front ++ m ∷ others → others ≡ []) → others ≡ []
  by true e later = absurd (never front e) where
    never : (front : List Mark) → [] ≡ front ++ m ∷ others → ⊥
    never [] e = cc
    never (f ∷ front) e = cc
  by false e later = later e

-- ---- the choice's tokens

-- four tokens of these kinds, and others
pub record Chosen (ms : List Mark) : Type 0 where
  pub choice : List Mark
  pub others : List Mark
  pub are : ms ≡ choice ++ others
  pub kinds : kinds_of choice ≡ choice_heading
  pub behind : drop 4 ms ≡ others

four : (a b c d : Mark) (ms : List Mark) → misfit choice_heading (a ∷ b ∷ c ∷ d ∷ ms) ≡ None → Chosen (a ∷ b ∷ c ∷ d ∷ ms)
four a b c d ms e =
    let one = fits_first Choice (Colon ∷ Name ∷ Semicolon ∷ []) a (b ∷ c ∷ d ∷ ms) e in
    let two = fits_first Colon (Name ∷ Semicolon ∷ []) b (c ∷ d ∷ ms) one.1 in
    let three = fits_first Name (Semicolon ∷ []) c (d ∷ ms) two.1 in
    let last = fits_first Semicolon [] d ms three.1 in
    let p = kind_one Choice a.kind one.0 in
    let q = kind_one Colon b.kind two.0 in
    let r = kind_one Name c.kind three.0 in
    let s = kind_one Semicolon d.kind last.0 in
    record {
      choice = a ∷ b ∷ c ∷ d ∷ [];
      others = ms;
      are = refl;
      kinds = ap (λ k. k ∷ b.kind ∷ c.kind ∷ d.kind ∷ []) (sym p) ∙ ap (λ k. Choice ∷ k ∷ c.kind ∷ d.kind ∷ []) (sym q) ∙ ap (λ k. Choice ∷ Colon ∷ k ∷ d.kind ∷ []) (sym r) ∙ ap (λ k. Choice ∷ Colon ∷ Name ∷ k ∷ []) (sym s);
      behind = refl;
    }

nothing_fits : (k : Kind) (ks : List Kind) → misfit (k ∷ ks) [] ≡ None → ⊥
nothing_fits k ks e = cc

pub chosen : (ms : List Mark) → misfit choice_heading ms ≡ None → Chosen ms
chosen [] e = absurd (nothing_fits Choice (Colon ∷ Name ∷ Semicolon ∷ []) e)
chosen (a ∷ []) e = absurd (nothing_fits Colon (Name ∷ Semicolon ∷ []) (fits_first Choice (Colon ∷ Name ∷ Semicolon ∷ []) a [] e).1)
chosen (a ∷ b ∷ []) e =
    let one = fits_first Choice (Colon ∷ Name ∷ Semicolon ∷ []) a (b ∷ []) e in
    absurd (nothing_fits Name (Semicolon ∷ []) (fits_first Colon (Name ∷ Semicolon ∷ []) b [] one.1).1)
chosen (a ∷ b ∷ c ∷ []) e =
    let one = fits_first Choice (Colon ∷ Name ∷ Semicolon ∷ []) a (b ∷ c ∷ []) e in
    let two = fits_first Colon (Name ∷ Semicolon ∷ []) b (c ∷ []) one.1 in
    absurd (nothing_fits Semicolon [] (fits_first Name (Semicolon ∷ []) c [] two.1).1)
chosen (a ∷ b ∷ c ∷ d ∷ ms) e = four a b c d ms e

-- ---- how the stem ends

last_taken : (ms : List Mark) (n : ℕ) → n < length ms → (m : Mark) × (take (suc n) ms ≡ take n ms ++ m ∷ []) × (kind_at ms n ≡ m.kind)
last_taken [] n h = absurd (omega (arith, h))
last_taken (m ∷ ms) zero h = (m, refl, refl)
last_taken (m ∷ ms) (suc n) h = let r = last_taken ms n (omega (arith, h)) in (r.0, ap (λ (l : List Mark). m ∷ l) r.1, r.2)

two_last : (ms : List Mark) (n : ℕ) → n < length ms → kind_at ms n ≡ Colon → kind_eqb (kind_at ms (n - 1)) Actions ≡ true → IsClosed (take (suc n) ms)
two_last ms zero h colon actions =
    let never : Colon ≡ Actions = sym colon ∙ kind_one (kind_at ms 0) Actions actions in
    absurd (cc)
two_last ms (suc n) h colon actions =
    let (m, are, is) = last_taken ms (suc n) h in
    let (l, more, also) = last_taken ms n (omega (arith, h)) in
    let first : kind_at ms n ≡ Actions = ap (kind_at ms) (sym (less n)) ∙ kind_one (kind_at ms (suc n - 1)) Actions actions in (
      take n ms,
      l ∷ m ∷ [],
      are ∙ ap (λ f. f ++ m ∷ []) more ∙ append_assoc (take n ms) (l ∷ []) (m ∷ []),
      inr (ap (λ k. k ∷ m.kind ∷ []) (sym also ∙ first) ∙ ap (λ k. Actions ∷ k ∷ []) (sym is ∙ colon)),
    ) where
      less : (k : ℕ) → suc k - 1 ≡ k
      less k = omega arith

pub closed_taken : (ms : List Mark) (n : ℕ) → n < length ms → closes_at ms (suc n) ≡ true → IsClosed (take (suc n) ms)
closed_taken ms n h e = by (kind_at ms n) refl e where
  ends_so : kind_at ms n ≡ Semicolon → IsClosed (take (suc n) ms)
  ends_so is = let (m, are, k) = last_taken ms n h in (take n ms, m ∷ [], are, inl (ap (λ l. l ∷ []) (sym k ∙ is)))

  by : (k : Kind) → kind_at ms n ≡ k → (kind_eqb k Semicolon || (kind_eqb k Colon && kind_eqb (kind_at ms (n - 1)) Actions)) ≡ true → IsClosed (take (suc n) ms)
  by Semicolon is t = ends_so is
  by Colon is t = two_last ms n h is t
  by Choice is t = absurd (cc)
  by Actions is t = absurd (cc)
  by Name is t = absurd (cc)
  by Other is t = absurd (cc)
  by Stop is t = absurd (cc)
  by Bad is t = absurd (cc)

-- ---- the whole

pub has_order : (x : List ℕ) (ms : List Mark) (spans : List Span) → AreMarks x ms → order ms ≡ Ok spans → HasOrder ms spans
has_order x ms spans marks e =
    let o = in_order ms spans e in
    let size = stem_size ms in
    let (k, is) = closed_some ms size o.closed in
    let within = before-within (Choice ∷ Stop ∷ Bad ∷ []) ms in
    let c = chosen (drop size ms) o.choice in
    let p = parts_come 2 8 (drop 4 (drop size ms)) spans o.arms in
    let count = arms_count 2 8 (drop 4 (drop size ms)) spans o.arms in
    let all = flat_map (λ (arm : List Mark). arm) p.arms in
    let are : ms ≡ take size ms ++ (c.choice ++ (all ++ p.stop ∷ p.others)) =
    sym (take-append-drop size ms) ∙ ap (λ l. take size ms ++ l) (c.are ∙ ap (λ l. c.choice ++ l) (sym c.behind ∙ p.are)) in
    let front : looked x marks.tokens ≡ (take size ms ++ (c.choice ++ all)) ++ p.stop ∷ p.others =
    sym marks.are ∙ are ∙ ap (λ l. take size ms ++ l) (sym (append_assoc c.choice all (p.stop ∷ p.others))) ∙ sym (append_assoc (take size ms) (c.choice ++ all) (p.stop ∷ p.others)) in
    let last = stop_last x marks.tokens (take size ms ++ (c.choice ++ all)) p.others p.stop front (ap ends_looking p.stops) in
    record {
      stem = take size ms;
      choice = c.choice;
      arms = p.arms;
      stop = p.stop ∷ [];
      are = are ∙ ap (λ l. take size ms ++ (c.choice ++ (all ++ p.stop ∷ l))) last;
      plain = plain_before (Choice ∷ Stop ∷ Bad ∷ []) ms;
      closed = subst (λ n. IsClosed (take n ms)) (sym is) (closed_taken ms k (omega (arith, is, within)) (subst (λ n. closes_at ms n ≡ true) is o.closed));
      chosen = c.kinds;
      each = p.each;
      few = count.0;
      most = count.1;
      stops = ap (λ l. l ∷ []) p.stops;
    }

-- ---- and it is found where it is there

-- tokens of one kind, or of two or four
pub one_of : (ms : List Mark) (k : Kind) → kinds_of ms ≡ k ∷ [] → (m : Mark) × (ms ≡ m ∷ []) × (m.kind ≡ k)
one_of [] k e = absurd (cc)
one_of (m ∷ []) k e = (m, refl, let s : m.kind ≡ k = cc in s)
one_of (m ∷ n ∷ ms) k e = absurd (cc)

pub two_of : (ms : List Mark) (k l : Kind) → kinds_of ms ≡ k ∷ l ∷ [] → (m : Mark) × (n : Mark) × (ms ≡ m ∷ n ∷ []) × (m.kind ≡ k) × (n.kind ≡ l)
two_of [] k l e = absurd (cc)
two_of (m ∷ ms) k l e =
    let first : m.kind ≡ k = cc in
    let (n, are, is) = one_of ms l (let s : kinds_of ms ≡ l ∷ [] = cc in s) in
    (m, n, ap (λ (z : List Mark). m ∷ z) are, first, is)

pub four_of : (ms : List Mark) → kinds_of ms ≡ choice_heading → (a : Mark) × (b : Mark) × (c : Mark) × (d : Mark) × (ms ≡ a ∷ b ∷ c ∷ d ∷ [])
    × (a.kind ≡ Choice) × (b.kind ≡ Colon) × (c.kind ≡ Name) × (d.kind ≡ Semicolon)
four_of [] e = absurd (cc)
four_of (a ∷ []) e = absurd (cc)
four_of (a ∷ b ∷ ms) e =
    let first : a.kind ≡ Choice = cc in
    let second : b.kind ≡ Colon = cc in
    let (c, d, are, third, last) = two_of ms Name Semicolon (let s : kinds_of ms ≡ Name ∷ Semicolon ∷ [] = cc in s) in
    (a, b, c, d, ap (λ (z : List Mark). a ∷ b ∷ z) are, first, second, third, last)

kind_behind : (front ms : List Mark) (i : ℕ) → kind_at (front ++ ms) (length front + i) ≡ kind_at ms i
kind_behind [] ms i = ap (kind_at ms) (omega arith)
kind_behind (f ∷ front) ms i = ap (kind_at (f ∷ front ++ ms)) (next (length front) i) ∙ kind_behind front ms i where
  next : (m n : ℕ) → suc m + n ≡ suc (m + n)
  next m n = omega arith

closes_next : (ms : List Mark) (n k : ℕ) → n ≡ suc k → (kind_eqb (kind_at ms k) Semicolon || (kind_eqb (kind_at ms k) Colon && kind_eqb (kind_at ms (k - 1)) Actions)) ≡ true → closes_at ms n ≡ true
closes_next ms n k is e = subst (λ m. closes_at ms m ≡ true) (sym is) e

pub closes_there : (stem more : List Mark) → IsClosed stem → closes_at (stem ++ more) (length stem) ≡ true
closes_there stem more (front, last, are, inl e) =
    let (m, one, is) = one_of last Semicolon e in
    let whole : stem ++ more ≡ front ++ m ∷ more = ap (λ l. l ++ more) (are ∙ ap (λ l. front ++ l) one) ∙ append_assoc front (m ∷ []) more in
    let size : length stem ≡ suc (length front) = ap length (are ∙ ap (λ l. front ++ l) one) ∙ length-append front (m ∷ []) ∙ omega arith in
    let here : kind_at (stem ++ more) (length front) ≡ Semicolon = ap (λ l. kind_at l (length front)) whole ∙ ap (kind_at (front ++ m ∷ more)) (at_zero (length front)) ∙ kind_behind front (m ∷ more) 0 ∙ is in
    closes_next (stem ++ more) (length stem) (length front) size (ap (λ k. kind_eqb k Semicolon || (kind_eqb k Colon && kind_eqb (kind_at (stem ++ more) (length front - 1)) Actions)) here) where
      at_zero : (n : ℕ) → n ≡ n + 0
      at_zero n = omega arith
closes_there stem more (front, last, are, inr e) =
    let (m, n, two, first, second) = two_of last Actions Colon e in
    let k = length front in
    let whole : stem ++ more ≡ front ++ m ∷ n ∷ more = ap (λ l. l ++ more) (are ∙ ap (λ l. front ++ l) two) ∙ append_assoc front (m ∷ n ∷ []) more in
    let size : length stem ≡ suc (k + 1) = ap length (are ∙ ap (λ l. front ++ l) two) ∙ length-append front (m ∷ n ∷ []) ∙ omega arith in
    let here : kind_at (stem ++ more) (k + 1) ≡ Colon = ap (λ l. kind_at l (k + 1)) whole ∙ kind_behind front (m ∷ n ∷ more) 1 ∙ second in
    let before_it : kind_at (stem ++ more) (k + 1 - 1) ≡ Actions = ap (λ l. kind_at l (k + 1 - 1)) whole ∙ ap (kind_at (front ++ m ∷ n ∷ more)) (back k) ∙ kind_behind front (m ∷ n ∷ more) 0 ∙ first in
    closes_next (stem ++ more) (length stem) (k + 1) size
    (ap (λ c. kind_eqb c Semicolon || (kind_eqb c Colon && kind_eqb (kind_at (stem ++ more) (k + 1 - 1)) Actions)) here ∙ ap (λ c. kind_eqb c Actions) before_it) where
      back : (j : ℕ) → j + 1 - 1 ≡ j + 0
      back j = omega arith

pub misfit_first : (k : Kind) (ks : List Kind) (m : Mark) (ms : List Mark) → m.kind ≡ k → misfit (k ∷ ks) (m ∷ ms) ≡ misfit ks ms
misfit_first k ks m ms e = ap (λ b. cond b (misfit ks ms) (Some m.at)) (ap (kind_eqb k) e ∙ kind_same k)

pub dropped : (front ms : List Mark) → drop (length front) (front ++ ms) ≡ ms
dropped [] ms = refl
dropped (f ∷ front) ms = dropped front ms

pub taken : (front ms : List Mark) → take (length front) (front ++ ms) ≡ front
taken [] ms = refl
taken (f ∷ front) ms = ap (λ (l : List Mark). f ∷ l) (taken front ms)

abbrev pub arm_ends : List Kind
arm_ends = Choice ∷ Actions ∷ Stop ∷ Bad ∷ []

abbrev pub joined : List (List Mark) → List Mark
joined arms = flat_map (λ (arm : List Mark). arm) arms

abbrev found : List Span → Result (List Span) ℕ
found spans = Ok spans

module _ (x y : Mark) (body z : List Mark) (m : Mark) (ms : List Mark) (z_is : z ≡ m ∷ ms) (ends : list_any (kind_eqb m.kind) arm_ends ≡ true) (plain : HasNone arm_ends body) where
  abbrev whole : List Mark
  whole = x ∷ y ∷ body ++ z

  size_is : arm_size whole ≡ length body
  size_is = ap (λ l. before arm_ends (body ++ l)) z_is ∙ before_plain arm_ends body m ms plain ends

  pub behind_is : behind_arm whole ≡ z
  behind_is = ap (λ n. drop n (body ++ z)) size_is ∙ dropped body z

  to_is : past_at whole (arm_size whole + 1) ≡ past_last (y ∷ body)
  to_is =
      ap (λ n. past_at whole (n + 1)) size_is ∙ ap (past_at whole) (one_more (length body)) ∙ past_of_last y (body ++ z) (length body) (omega (arith, length-append body z))
      ∙ ap (λ l. past_last (y ∷ l)) (taken body z)

  span_is : (s : Span) → s.from ≡ y.past → s.to ≡ past_last (y ∷ body) → arm_span whole ≡ s
  span_is s from to =
      let span : ℕ → ℕ → Span = λ a b. record { from = a; to = b } in
      ap (λ n. span y.past n) (to_is ∙ sym to) ∙ ap (λ n. span n s.to) (sym from)

module _ (t : Mark) (stop : t.kind ≡ Stop) where
  -- behind an arm another one begins, or the text ends
  begins : (arms : List (List Mark)) (spans : List Span) → AllZip IsArm arms spans → (m : Mark) × (ms : List Mark) × (joined arms ++ t ∷ [] ≡ m ∷ ms) × (list_any (kind_eqb m.kind) arm_ends ≡ true)
  begins [] [] each = (t, [], refl, ap (λ k. list_any (kind_eqb k) arm_ends) stop)
  begins [] (s ∷ spans) each = absurd each
  begins (arm ∷ arms) [] each = absurd each
  begins (arm ∷ arms) (s ∷ spans) each =
      let (x, y, two, first, second) = two_of each.0.heading Actions Colon each.0.headed in
      let are : arm ≡ x ∷ y ∷ each.0.body = each.0.are ∙ ap (λ l. l ++ each.0.body) two in
      (x, y ∷ each.0.body ++ (joined arms ++ t ∷ []), append_assoc arm (joined arms) (t ∷ []) ∙ ap (λ l. l ++ (joined arms ++ t ∷ [])) are, ap (λ k. list_any (kind_eqb k) arm_ends) first)

  arms_there : (arms : List (List Mark)) (spans : List Span) (least most : ℕ) → AllZip IsArm arms spans → least ≤ length spans → length spans ≤ most → arms_at least most (joined arms ++ t ∷ []) ≡ found spans
  arms_there [] [] least most each low high =
      at_stop least (t ∷ []) most (ap (λ k. kind_eqb k Stop) stop) ∙ ap (λ n. at_end n (t ∷ [])) (let none : least ≡ 0 = omega (arith, low) in none)
  arms_there [] (s ∷ spans) least most each low high = absurd each
  arms_there (arm ∷ arms) [] least most each low high = absurd each
  arms_there (arm ∷ arms) (s ∷ spans) least zero each low high = absurd (omega (arith, high))
  arms_there (arm ∷ arms) (s ∷ spans) least (suc most) each low high =
      let (x, y, two, first, second) = two_of each.0.heading Actions Colon each.0.headed in
      let body = each.0.body in
      let z = joined arms ++ t ∷ [] in
      let (m, ms, z_is, ends) = begins arms spans each.1 in
      let are : arm ≡ x ∷ y ∷ body = each.0.are ∙ ap (λ l. l ++ body) two in
      let all : joined (arm ∷ arms) ++ t ∷ [] ≡ x ∷ y ∷ body ++ z = append_assoc arm (joined arms) (t ∷ []) ∙ ap (λ l. l ++ z) are in
      let here : misfit arm_heading (x ∷ y ∷ body ++ z) ≡ None = misfit_first Actions (Colon ∷ []) x (y ∷ body ++ z) first ∙ misfit_first Colon [] y (body ++ z) second in
      let from : s.from ≡ y.past = each.0.from ∙ ap past_last two in
      let to : s.to ≡ past_last (y ∷ body) = each.0.to ∙ ap past_last are in
      let later = arms_there arms spans (least - 1) most each.1 (omega (arith, low)) (omega (arith, high)) in
      ap (arms_at least (suc most)) all ∙ at_arm least (x ∷ y ∷ body ++ z) most None (ap (λ k. kind_eqb k Stop) first) here
      ∙ ap (λ l. with_front (arm_span (x ∷ y ∷ body ++ z) ∷ []) (arms_at (least - 1) most l)) (behind_is x y body z m ms z_is ends each.0.plain)
      ∙ ap (with_front (arm_span (x ∷ y ∷ body ++ z) ∷ [])) later
      ∙ ap (λ a. found (a ∷ spans)) (span_is x y body z m ms z_is ends each.0.plain s from to)

pub order_there : (ms : List Mark) (spans : List Span) → HasOrder ms spans → order ms ≡ Ok spans
order_there ms spans h =
    let (a, b, c, d, four, first, second, third, last) = four_of h.choice h.chosen in
    let (t, one, stop) = one_of h.stop Stop h.stops in
    let z = joined h.arms ++ t ∷ [] in
    let us = a ∷ b ∷ c ∷ d ∷ z in
    let whole : ms ≡ h.stem ++ us = h.are ∙ ap (λ l. h.stem ++ (l ++ (joined h.arms ++ h.stop))) four ∙ ap (λ l. h.stem ++ (a ∷ b ∷ c ∷ d ∷ joined h.arms ++ l)) one in
    let size : stem_size ms ≡ length h.stem = ap stem_size whole ∙ before_plain (Choice ∷ Stop ∷ Bad ∷ []) h.stem a (b ∷ c ∷ d ∷ z) h.plain (ap (λ k. list_any (kind_eqb k) (Choice ∷ Stop ∷ Bad ∷ [])) first) in
    let rest : drop (stem_size ms) ms ≡ us = ap (λ n. drop n ms) size ∙ ap (drop (length h.stem)) whole ∙ dropped h.stem us in
    let closes : closes_at ms (stem_size ms) ≡ true = ap (closes_at ms) size ∙ ap (λ l. closes_at l (length h.stem)) whole ∙ closes_there h.stem us h.closed in
    let fits : misfit choice_heading us ≡ None =
    misfit_first Choice (Colon ∷ Name ∷ Semicolon ∷ []) a (b ∷ c ∷ d ∷ z) first ∙ misfit_first Colon (Name ∷ Semicolon ∷ []) b (c ∷ d ∷ z) second
    ∙ misfit_first Name (Semicolon ∷ []) c (d ∷ z) third ∙ misfit_first Semicolon [] d z last in
    order_choice ms None closes (ap (misfit choice_heading) rest ∙ fits) ∙ ap (λ l. arms_at 2 8 (drop 4 l)) rest ∙ arms_there t stop h.arms spans 2 8 h.each h.few h.most

-- the stem is what stands before the choice
pub stem_stands : (ms : List Mark) (spans : List Span) (h : HasOrder ms spans) → (stem_size ms ≡ length h.stem) × ((more : List Mark) × (ms ≡ h.stem ++ more))
stem_stands ms spans h =
    let (a, b, c, d, four, first, second, third, last) = four_of h.choice h.chosen in
    let z = b ∷ c ∷ d ∷ joined h.arms ++ h.stop in
    let whole : ms ≡ h.stem ++ a ∷ z = h.are ∙ ap (λ l. h.stem ++ (l ++ (joined h.arms ++ h.stop))) four in
    (ap stem_size whole ∙ before_plain (Choice ∷ Stop ∷ Bad ∷ []) h.stem a z h.plain (ap (λ k. list_any (kind_eqb k) (Choice ∷ Stop ∷ Bad ∷ [])) first), (a ∷ z, whole))

-- a stem that is closed has a token
pub closed_has : (stem : List Mark) → IsClosed stem → (m : Mark) × (ms : List Mark) × (stem ≡ m ∷ ms)
closed_has stem (front, last, are, inl e) = let (m, one, k) = one_of last Semicolon e in by m front (are ∙ ap (λ l. front ++ l) one) where
  by : (m : Mark) (f : List Mark) → stem ≡ f ++ m ∷ [] → (n : Mark) × (ms : List Mark) × (stem ≡ n ∷ ms)
  by m [] e = (m, [], e)
  by m (n ∷ f) e = (n, f ++ m ∷ [], e)
closed_has stem (front, last, are, inr e) = let (m, n, two, k, l) = two_of last Actions Colon e in by m n front (are ∙ ap (λ l. front ++ l) two) where
  by : (m n : Mark) (f : List Mark) → stem ≡ f ++ m ∷ n ∷ [] → (k : Mark) × (ms : List Mark) × (stem ≡ k ∷ ms)
  by m n [] e = (m, n ∷ [], e)
  by m n (k ∷ f) e = (k, f ++ m ∷ n ∷ [], e)
