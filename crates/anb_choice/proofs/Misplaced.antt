-- The first token that is out of order is the one that is found.
use Rattle.std.proofs.Common.{◌≡◌, ◌⊎◌, inl, inr, ℕ, zero, suc, ◌+◌, ◌-◌, ◌<◌, ◌≤◌, List, [], ◌∷◌, ◌++◌, length, map, take, drop, Bool, true, false, cond, Option, Some, None, Result, Ok, Err, refl, sym, ap, subst, ◌∙◌, arith, append_assoc}
use Rattle.std.specs.Prelude.{◌&&◌, ◌||◌, not}
use Rattle.std.specs.Option.{option_or}
use Rattle.std.specs.List.{AllByRecursion, AllZip, list_any}
use Rattle.std.proofs.lemmas.List.{append-nil, map-append}
use Rattle.anb_lemmas.proofs.Each.{each_and_last}
use Rattle.anb_lemmas.proofs.Options.{or_is_none}
use Rattle.anb_protocol.specs.Choices.{first, refuse_if}
use Rattle.anb_syntax.specs.Lexing.{Lexes, gap_len, token_here}
use Rattle.anb_syntax.specs.Words.{Tok}
use Rattle.anb_choice.specs.declared.marks.Kind.{Kind}
use Rattle.anb_choice.specs.declared.marks.Kind.TheVariants.{Choice, Actions, Colon, Semicolon, Name, Other, Stop, Bad}
use Rattle.anb_choice.specs.declared.marks.Mark.{Mark}
use Rattle.anb_choice.specs.declared.order.Span.{Span}
use Rattle.anb_choice.specs.Order.{AreMarks, HasNone, HasOrder, IsArm, IsClosed, IsMisplaced, bad_at, before, ends_looking, is_bad, kind_at, kind_eqb, kind_of, kinds_of, looked, mark_of, past_last, place_at, stem_size}
use Rattle.anb_choice.specs.Parsing.{arm_heading, arm_span, arms_at, at_end, behind_arm, choice_heading, closes_at, misfit, order, with_front}
use Rattle.anb_choice.proofs.Cutting.{one_front}
use Rattle.anb_choice.proofs.Ordering.{arm_ends, before_plain, behind_is, chosen, closed_taken, closes_there, dropped, four_of, has_order, joined, kind_one, kind_same, misfit_first, order_there, plain_before}
use Rattle.anb_choice.proofs.Spans.{at_arm, at_most, at_stop, closed_some, fits_first, order_choice, order_open}
use Rattle.anb_choice.proofs.Straights.{passes}
use Rattle.anb_choice.proofs.Worded.{is_here}

-- ---- one token at most is the first that is out of order

misplaced_before : (ms : List Mark) (a b : ℕ) (one : IsMisplaced ms a) (two : IsMisplaced ms b) (m : List Mark) → two.front ≡ one.front ++ m → one.next ∷ one.others ≡ m ++ two.next ∷ two.others → a ≡ b
misplaced_before ms a b one two [] e f = let same : one.next ≡ two.next = cc in one.is ∙ ap (λ (k : Mark). k.at) same ∙ sym two.is
misplaced_before ms a b one two (k ∷ m) e f =
    let same : one.next ≡ k = cc in
    let (more, spans, is) = two.viable in
    let whole : two.front ++ more ≡ one.front ++ one.next ∷ (m ++ more) = ap (λ l. l ++ more) (e ∙ ap (λ z. one.front ++ z ∷ m) (sym same)) ∙ append_assoc one.front (one.next ∷ m) more in
    absurd (one.none (m ++ more) spans (subst (λ l. HasOrder l spans) whole is))

pub misplaced_one : (ms : List Mark) (a b : ℕ) → IsMisplaced ms a → IsMisplaced ms b → a ≡ b
misplaced_one ms a b one two = by (one_front one.front (one.next ∷ one.others) two.front (two.next ∷ two.others) (sym one.are ∙ two.are)) where
  by : ((m : List Mark) × (two.front ≡ one.front ++ m) × (one.next ∷ one.others ≡ m ++ two.next ∷ two.others)) ⊎ ((m : List Mark) × (one.front ≡ two.front ++ m) × (two.next ∷ two.others ≡ m ++ one.next ∷ one.others)) → a ≡ b
  by (inl (m, e, f)) = misplaced_before ms a b one two m e f
  by (inr (m, e, f)) = sym (misplaced_before ms b a two one m e f)

-- ---- the last token looked at ends the text

abbrev pub HasStop : List Mark → Type 0
HasStop ms = (init : List Mark) × (m : Mark) × (ms ≡ init ++ m ∷ []) × (m.kind ≡ Stop)

looked_last : (x : List ℕ) (ts : List Tok) (at : ℕ) (y : List ℕ) → Lexes at y ts → (init : List Mark) × (m : Mark) × (looked x ts ≡ init ++ m ∷ []) × (ends_looking m.kind ≡ true)
looked_last x [] at y l = absurd l
looked_last x (t ∷ ts) at y l = by (ends_looking (kind_of t.word)) refl (λ g. let z = drop (gap_len y) y in
    let h = is_here (λ n. Lexes (at + gap_len y + n) (drop n z) ts) (ts ≡ []) z (token_here z) t.word (passes t.word g).0 l.1 in
    looked_last x ts (at + gap_len y + h.token.1) (drop h.token.1 z) h.others) where
      by : (b : Bool) → ends_looking (kind_of t.word) ≡ b → (ends_looking (kind_of t.word) ≡ false → (init : List Mark) × (m : Mark) × (looked x ts ≡ init ++ m ∷ []) × (ends_looking m.kind ≡ true))
          → (init : List Mark) × (m : Mark) × (looked x (t ∷ ts) ≡ init ++ m ∷ []) × (ends_looking m.kind ≡ true)
      by true g later = ([], mark_of x t, ap (λ b. mark_of x t ∷ cond b [] (looked x ts)) g, g)
      by false g later = let (init, m, e, f) = later g in (mark_of x t ∷ init, m, ap (λ b. mark_of x t ∷ cond b [] (looked x ts)) g ∙ ap (λ (k : List Mark). mark_of x t ∷ k) e, f)

bad_last : (init : List Mark) (m : Mark) → bad_at (init ++ m ∷ []) ≡ None → is_bad m.kind ≡ false
bad_last [] m e = by (is_bad m.kind) e where
  by : (b : Bool) → option_or (refuse_if b m.at) None ≡ None → b ≡ false
  by true f = cc
  by false f = refl
bad_last (k ∷ init) m e = bad_last init m (or_is_none (refuse_if (is_bad k.kind) k.at) (bad_at (init ++ m ∷ [])) e).1

pub has_stop : (x : List ℕ) (ms : List Mark) → AreMarks x ms → bad_at ms ≡ None → HasStop ms
has_stop x ms marks none =
    let (init, m, e, f) = looked_last x marks.tokens 0 x marks.lexes in
    let are : ms ≡ init ++ m ∷ [] = marks.are ∙ e in
    (init, m, are, stops m.kind f (bad_last init m (sym (ap bad_at are) ∙ none))) where
      stops : (k : Kind) → ends_looking k ≡ true → is_bad k ≡ false → k ≡ Stop
      stops Stop e f = refl
      stops Bad e f = cc
      stops Choice e f = cc
      stops Actions e f = cc
      stops Colon e f = cc
      stops Semicolon e f = cc
      stops Name e f = cc
      stops Other e f = cc

-- it stands behind tokens that are no end
pub stop_behind : (m : Mark) (ms : List Mark) → kind_eqb m.kind Stop ≡ false → HasStop (m ∷ ms) → HasStop ms
stop_behind m ms e ([], k, are, is) = let same : m ≡ k = cc in let never : true ≡ false = ap (λ z. kind_eqb z Stop) (sym is) ∙ ap (λ (z : Mark). kind_eqb z.kind Stop) (sym same) ∙ e in absurd (cc)
stop_behind m ms e (i ∷ init, k, are, is) = (init, k, (let s : ms ≡ init ++ k ∷ [] = cc in s), is)

stop_some : (ms : List Mark) → HasStop ms → (m : Mark) × (rest : List Mark) × (ms ≡ m ∷ rest)
stop_some ms ([], k, are, is) = (k, [], are)
stop_some ms (i ∷ init, k, are, is) = (i, init ++ k ∷ [], are)

-- ---- the first token of some kinds

first_of : (ks : List Kind) (ms : List Mark) → list_any (kind_eqb Stop) ks ≡ true → HasStop ms → (m : Mark) × (rest : List Mark) × (ms ≡ take (before ks ms) ms ++ m ∷ rest) × (list_any (kind_eqb m.kind) ks ≡ true)
first_of ks [] has ([], m, are, is) = absurd (cc)
first_of ks [] has (i ∷ init, m, are, is) = absurd (cc)
first_of ks (x ∷ ms) has stop = by (list_any (kind_eqb x.kind) ks) refl (λ g. first_of ks ms has (stop_behind x ms (other x.kind g) stop)) where
  other : (k : Kind) → list_any (kind_eqb k) ks ≡ false → kind_eqb k Stop ≡ false
  other Stop g = let never : true ≡ false = sym has ∙ g in absurd (cc)
  other Bad g = refl
  other Choice g = refl
  other Actions g = refl
  other Colon g = refl
  other Semicolon g = refl
  other Name g = refl
  other Other g = refl

  next : (n : ℕ) → suc n ≡ 1 + n
  next n = omega arith

  by : (b : Bool) → list_any (kind_eqb x.kind) ks ≡ b → (list_any (kind_eqb x.kind) ks ≡ false → (m : Mark) × (rest : List Mark) × (ms ≡ take (before ks ms) ms ++ m ∷ rest) × (list_any (kind_eqb m.kind) ks ≡ true))
      → (m : Mark) × (rest : List Mark) × (x ∷ ms ≡ take (cond (not b) (1 + before ks ms) 0) (x ∷ ms) ++ m ∷ rest) × (list_any (kind_eqb m.kind) ks ≡ true)
  by true g later = (x, ms, refl, g)
  by false g later =
      let (m, rest, e, f) = later g in
      (m, rest, ap (λ (l : List Mark). x ∷ l) e ∙ ap (λ k. take k (x ∷ ms) ++ m ∷ rest) (next (before ks ms)), f)

-- ---- how a front closes, whatever follows

kind_within : (front us : List Mark) (i : ℕ) → i < length front → kind_at (front ++ us) i ≡ kind_at front i
kind_within [] us i h = absurd (omega (arith, h))
kind_within (f ∷ front) us zero h = refl
kind_within (f ∷ front) us (suc i) h = kind_within front us i (omega (arith, h))

pub closes_own : (front us : List Mark) → closes_at (front ++ us) (length front) ≡ closes_at front (length front)
closes_own [] us = refl
closes_own (f ∷ front) us =
    let n = length front in
    let here : kind_at (f ∷ front ++ us) n ≡ kind_at (f ∷ front) n = kind_within (f ∷ front) us n (omega arith) in
    let there : kind_at (f ∷ front ++ us) (n - 1) ≡ kind_at (f ∷ front) (n - 1) = kind_within (f ∷ front) us (n - 1) (omega arith) in
    ap (λ k. kind_eqb k Semicolon || (kind_eqb k Colon && kind_eqb (kind_at (f ∷ front ++ us) (n - 1)) Actions)) here
    ∙ ap (λ k. kind_eqb (kind_at (f ∷ front) n) Semicolon || (kind_eqb (kind_at (f ∷ front) n) Colon && kind_eqb k Actions)) there

-- ---- tokens that are made up, to go on with

abbrev made_up : List Kind → List Mark
made_up ks = map (λ k. record { kind = k; at = 0; past = 0 }) ks

made_kinds : (ks : List Kind) → kinds_of (made_up ks) ≡ ks
made_kinds [] = refl
made_kinds (k ∷ ks) = ap (λ (l : List Kind). k ∷ l) (made_kinds ks)

kinds_joined : (a b : List Mark) → kinds_of (a ++ b) ≡ kinds_of a ++ kinds_of b
kinds_joined a b = map-append (λ (m : Mark). m.kind) a b

abbrev bare_arm : List Mark
bare_arm = record { kind = Actions; at = 0; past = 0 } ∷ record { kind = Colon; at = 0; past = 0 } ∷ []

abbrev bare_span : Span
bare_span = record { from = 0; to = 0 }

is_bare : IsArm bare_arm bare_span
is_bare = record { heading = bare_arm; body = []; are = refl; headed = refl; plain = tt; from = refl; to = refl }

abbrev bare_arms : ℕ → List (List Mark)
bare_arms zero = []
bare_arms (suc n) = bare_arm ∷ bare_arms n

abbrev bare_spans : ℕ → List Span
bare_spans zero = []
bare_spans (suc n) = bare_span ∷ bare_spans n

are_bare : (n : ℕ) → AllZip IsArm (bare_arms n) (bare_spans n)
are_bare zero = tt
are_bare (suc n) = (is_bare, are_bare n)

bare_many : (n : ℕ) → length (bare_spans n) ≡ n
bare_many zero = refl
bare_many (suc n) = ap suc (bare_many n)

-- the first token that isn't of its kind
record Unfit (ks : List Kind) (us : List Mark) (at : ℕ) : Type 0 where
  front : List Mark
  next : Mark
  others : List Mark
  left : List Kind
  kind : Kind
  are : us ≡ front ++ next ∷ others
  kinds : ks ≡ kinds_of front ++ kind ∷ left
  differs : kind_eqb kind next.kind ≡ false
  is : at ≡ next.at

unfit : (ks : List Kind) (us : List Mark) (at : ℕ) → AllByRecursion (λ k. kind_eqb k Stop ≡ false) ks → HasStop us → misfit ks us ≡ Some at → Unfit ks us at
unfit [] us at plain stop e = absurd (cc)
unfit (k ∷ ks) [] at plain ([], m, are, is) e = absurd (cc)
unfit (k ∷ ks) [] at plain (i ∷ init, m, are, is) e = absurd (cc)
unfit (k ∷ ks) (u ∷ us) at plain stop e = by (kind_eqb k u.kind) refl e (λ g f. unfit ks us at plain.1 (stop_behind u us g stop) f) where
  by : (b : Bool) → kind_eqb k u.kind ≡ b → cond b (misfit ks us) (Some u.at) ≡ Some at → (kind_eqb u.kind Stop ≡ false → misfit ks us ≡ Some at → Unfit ks us at) → Unfit (k ∷ ks) (u ∷ us) at
  by true g f later =
      let same : k ≡ u.kind = kind_one k u.kind g in
      let r = later (sym (ap (λ z. kind_eqb z Stop) same) ∙ plain.0) f in
      record {
        front = u ∷ r.front;
        next = r.next;
        others = r.others;
        left = r.left;
        kind = r.kind;
        are = ap (λ (l : List Mark). u ∷ l) r.are;
        kinds = ap (λ z. z ∷ ks) same ∙ ap (λ (l : List Kind). u.kind ∷ l) r.kinds;
        differs = r.differs;
        is = r.is;
      }
  by false g f later = record { front = []; next = u; others = us; left = ks; kind = k; are = refl; kinds = refl; differs = g; is = (let s : u.at ≡ at = cc in sym s) }

-- whatever follows it
misfit_there : (front : List Mark) (k : Kind) (left : List Kind) (next : Mark) (more : List Mark) → kind_eqb k next.kind ≡ false → misfit (kinds_of front ++ k ∷ left) (front ++ next ∷ more) ≡ Some next.at
misfit_there [] k left next more e = ap (λ b. cond b (misfit left more) (Some next.at)) e
misfit_there (f ∷ front) k left next more e =
    ap (λ b. cond b (misfit (kinds_of front ++ k ∷ left) (front ++ next ∷ more)) (Some f.at)) (kind_same f.kind) ∙ misfit_there front k left next more e

-- what stands first stands first whatever follows behind a token
same_first : (front : List Mark) (next : Mark) (others more : List Mark) (m : Mark) (rest : List Mark) → front ++ next ∷ others ≡ m ∷ rest → (tail : List Mark) × (front ++ next ∷ more ≡ m ∷ tail)
same_first [] next others more m rest e = let s : next ≡ m = cc in (more, ap (λ z. z ∷ more) s)
same_first (f ∷ front) next others more m rest e = let s : f ≡ m = cc in (front ++ next ∷ more, ap (λ z. z ∷ front ++ next ∷ more) s)

-- ---- a stem, and a choice, with what stands behind them

abbrev found : List Span → Result (List Span) ℕ
found spans = Ok spans

ok_or_err : (spans : List Span) (at : ℕ) (r : Result (List Span) ℕ) → r ≡ Ok spans → r ≡ Err at → ⊥
ok_or_err spans at r e f = let never : found spans ≡ Err at = sym e ∙ f in cc

abbrev stem_ends : List Kind
stem_ends = Choice ∷ Stop ∷ Bad ∷ []

module _ (stem : List Mark) (plain : HasNone stem_ends stem) (m : Mark) (rest : List Mark) (ends : list_any (kind_eqb m.kind) stem_ends ≡ true) where
  abbrev whole : List Mark
  whole = stem ++ m ∷ rest

  size_is : stem_size whole ≡ length stem
  size_is = before_plain stem_ends stem m rest plain ends

  closes_is : closes_at whole (stem_size whole) ≡ closes_at stem (length stem)
  closes_is = ap (closes_at whole) size_is ∙ closes_own stem (m ∷ rest)

  rest_is : drop (stem_size whole) whole ≡ m ∷ rest
  rest_is = ap (λ n. drop n whole) size_is ∙ dropped stem (m ∷ rest)

abbrev semi : List Mark
semi = record { kind = Semicolon; at = 0; past = 0 } ∷ []

abbrev choice : List Mark
choice = record { kind = Choice; at = 0; past = 0 } ∷ record { kind = Colon; at = 0; past = 0 } ∷ record { kind = Name; at = 0; past = 0 } ∷ record { kind = Semicolon; at = 0; past = 0 } ∷ []

abbrev stop : List Mark
stop = record { kind = Stop; at = 0; past = 0 } ∷ []

-- a stem that isn't closed
open_stem : (stem : List Mark) (m : Mark) (rest : List Mark) → HasNone stem_ends stem → list_any (kind_eqb m.kind) stem_ends ≡ true → closes_at stem (length stem) ≡ false → IsMisplaced (stem ++ m ∷ rest) m.at
open_stem stem m rest plain ends opens = record {
  front = stem;
  next = m;
  others = rest;
  are = refl;
  is = refl;
  viable = (
    semi ++ (choice ++ (joined (bare_arms 2) ++ stop)),
    bare_spans 2,
    record {
      stem = stem ++ semi;
      choice = choice;
      arms = bare_arms 2;
      stop = stop;
      are = sym (append_assoc stem semi (choice ++ (joined (bare_arms 2) ++ stop)));
      plain = each_and_last (λ (k : Mark). list_any (kind_eqb k.kind) stem_ends ≡ false) stem (record { kind = Semicolon; at = 0; past = 0 }) plain refl;
      closed = (stem, semi, refl, inl refl);
      chosen = refl;
      each = are_bare 2;
      few = omega (arith, bare_many 2);
      most = omega (arith, bare_many 2);
      stops = refl;
    },
  );
  none = λ more spans h.
      ok_or_err spans _ (order (stem ++ m ∷ more)) (order_there (stem ++ m ∷ more) spans h) (order_open (stem ++ m ∷ more) (closes_is stem plain m more ends ∙ opens));
}

-- ---- the choice's tokens

bad_choice : (stem : List Mark) (m : Mark) (rest : List Mark) (at : ℕ) → HasNone stem_ends stem → IsClosed stem → list_any (kind_eqb m.kind) stem_ends ≡ true → Unfit choice_heading (m ∷ rest) at → IsMisplaced (stem ++ m ∷ rest) at
bad_choice stem m rest at plain closed ends u =
    let made = made_up (u.kind ∷ u.left) in
    let arms = joined (bare_arms 2) ++ stop in
    record {
      front = stem ++ u.front;
      next = u.next;
      others = u.others;
      are = ap (λ l. stem ++ l) u.are ∙ sym (append_assoc stem u.front (u.next ∷ u.others));
      is = u.is;
      viable = (
        made ++ arms,
        bare_spans 2,
        record {
          stem = stem;
          choice = u.front ++ made;
          arms = bare_arms 2;
          stop = stop;
          are = append_assoc stem u.front (made ++ arms) ∙ ap (λ l. stem ++ l) (sym (append_assoc u.front made arms));
          plain = plain;
          closed = closed;
          chosen = kinds_joined u.front made ∙ ap (λ l. kinds_of u.front ++ l) (made_kinds (u.kind ∷ u.left)) ∙ sym u.kinds;
          each = are_bare 2;
          few = omega (arith, bare_many 2);
          most = omega (arith, bare_many 2);
          stops = refl;
        },
      );
      none = λ more spans h.
          let (tail, first) = same_first u.front u.next u.others more m rest (sym u.are) in
          let flat : (stem ++ u.front) ++ u.next ∷ more ≡ stem ++ m ∷ tail = append_assoc stem u.front (u.next ∷ more) ∙ ap (λ l. stem ++ l) first in
          let order_is = ap order (sym flat) ∙ order_there ((stem ++ u.front) ++ u.next ∷ more) spans h in
          let closes = closes_is stem plain m tail ends ∙ ap (λ l. closes_at l (length stem)) (sym (append-nil stem)) ∙ closes_there stem [] closed in
          let misfits = ap (misfit choice_heading) (rest_is stem plain m tail ends ∙ sym first) ∙ ap (λ ks. misfit ks (u.front ++ u.next ∷ more)) u.kinds ∙ misfit_there u.front u.kind u.left u.next more u.differs in
          ok_or_err spans u.next.at (order (stem ++ m ∷ tail)) order_is (order_choice (stem ++ m ∷ tail) (Some u.next.at) closes misfits);
    }

-- ---- the arms

record Astray (least most : ℕ) (us : List Mark) (at : ℕ) : Type 0 where
  arms : List (List Mark)
  spans : List Span
  each : AllZip IsArm arms spans
  front : List Mark
  next : Mark
  others : List Mark
  are : us ≡ joined arms ++ (front ++ next ∷ others)
  is : at ≡ next.at
  more : List Mark
  all_arms : List (List Mark)
  all_spans : List Span
  goes_on : joined arms ++ (front ++ more) ≡ joined all_arms ++ stop
  all_each : AllZip IsArm all_arms all_spans
  few : least ≤ length all_spans
  most_of : length all_spans ≤ most
  none : (after : List Mark) → (e : ℕ) × (arms_at least most (joined arms ++ (front ++ next ∷ after)) ≡ Err e)

err_one : (a b : ℕ) → ◌≡◌ {A = Result (List Span) ℕ} (Err a) (Err b) → b ≡ a
err_one a b e = cc

no_ok : {X : Type 0} (b : ℕ) → ◌≡◌ {A = Result (List Span) ℕ} (Ok []) (Err b) → X
no_ok b e = absurd (cc)

-- no arm stands there: the first token is out of order
at_once : (least most : ℕ) (m : Mark) (rest : List Mark) (at : ℕ) → least ≤ most → at ≡ m.at → ((after : List Mark) → (e : ℕ) × (arms_at least most (m ∷ after) ≡ Err e)) → Astray least most (m ∷ rest) at
at_once least most m rest at low is none = record {
  arms = [];
  spans = [];
  each = tt;
  front = [];
  next = m;
  others = rest;
  are = refl;
  is = is;
  more = joined (bare_arms least) ++ stop;
  all_arms = bare_arms least;
  all_spans = bare_spans least;
  goes_on = refl;
  all_each = are_bare least;
  few = omega (arith, bare_many least);
  most_of = omega (arith, bare_many least, low);
  none = none;
}

-- the heading of an arm is out of order
heading_astray : (least most : ℕ) (m : Mark) (rest : List Mark) (at : ℕ) → least ≤ suc most → kind_eqb m.kind Stop ≡ false → Unfit arm_heading (m ∷ rest) at → Astray least (suc most) (m ∷ rest) at
heading_astray least most m rest at low goes u =
    let made = made_up (u.kind ∷ u.left) in
    let heading = u.front ++ made in
    let span : Span = record { from = past_last heading; to = past_last heading } in
    let is_arm : IsArm heading span = record {
      heading = heading;
      body = [];
      are = sym (append-nil heading);
      headed = kinds_joined u.front made ∙ ap (λ l. kinds_of u.front ++ l) (made_kinds (u.kind ∷ u.left)) ∙ sym u.kinds;
      plain = tt;
      from = refl;
      to = refl;
    } in
    record {
      arms = [];
      spans = [];
      each = tt;
      front = u.front;
      next = u.next;
      others = u.others;
      are = u.are;
      is = u.is;
      more = made ++ (joined (bare_arms (least - 1)) ++ stop);
      all_arms = heading ∷ bare_arms (least - 1);
      all_spans = span ∷ bare_spans (least - 1);
      goes_on = sym (append_assoc u.front made (joined (bare_arms (least - 1)) ++ stop)) ∙ sym (append_assoc heading (joined (bare_arms (least - 1))) stop);
      all_each = (is_arm, are_bare (least - 1));
      few = omega (arith, bare_many (least - 1));
      most_of = omega (arith, bare_many (least - 1), low);
      none = λ after.
          let (tail, first) = same_first u.front u.next u.others after m rest (sym u.are) in
          let misfits = ap (misfit arm_heading) (sym first) ∙ ap (λ ks. misfit ks (u.front ++ u.next ∷ after)) u.kinds ∙ misfit_there u.front u.kind u.left u.next after u.differs in
          (u.next.at, ap (arms_at least (suc most)) first ∙ at_arm least (m ∷ tail) most (Some u.next.at) goes misfits);
    }

stop_suffix : (front us : List Mark) → HasNone arm_ends front → HasStop (front ++ us) → HasStop us
stop_suffix [] us plain has = has
stop_suffix (f ∷ front) us plain has = stop_suffix front us plain.1 (stop_behind f (front ++ us) (other f.kind plain.0) has) where
  other : (k : Kind) → list_any (kind_eqb k) arm_ends ≡ false → kind_eqb k Stop ≡ false
  other Stop g = let never : true ≡ false = g in absurd (cc)
  other Bad g = refl
  other Choice g = refl
  other Actions g = refl
  other Colon g = refl
  other Semicolon g = refl
  other Name g = refl
  other Other g = refl

mutual_err : (front : List Span) (r : Result (List Span) ℕ) (at : ℕ) → with_front front r ≡ Err at → r ≡ Err at
mutual_err front (Ok spans) at e = absurd (cc)
mutual_err front (Err b) at e = e

-- an arm stands there, and what follows it is out of order
behind_astray : (least most : ℕ) (a c : Mark) (body : List Mark) (m : Mark) (r : List Mark) (at : ℕ) → a.kind ≡ Actions → c.kind ≡ Colon → HasNone arm_ends body → list_any (kind_eqb m.kind) arm_ends ≡ true
    → Astray (least - 1) most (m ∷ r) at → Astray least (suc most) (a ∷ c ∷ body ++ m ∷ r) at
behind_astray least most a c body m r at actions colon plain ends s =
    let arm = a ∷ c ∷ body in
    let span : Span = record { from = c.past; to = past_last arm } in
    let is_arm : IsArm arm span = record {
      heading = a ∷ c ∷ [];
      body = body;
      are = refl;
      headed = ap (λ k. k ∷ c.kind ∷ []) actions ∙ ap (λ k. Actions ∷ k ∷ []) colon;
      plain = plain;
      from = refl;
      to = refl;
    } in
    let few = s.few in
    let most_of = s.most_of in
    record {
      arms = arm ∷ s.arms;
      spans = span ∷ s.spans;
      each = (is_arm, s.each);
      front = s.front;
      next = s.next;
      others = s.others;
      are = ap (λ l. arm ++ l) s.are ∙ sym (append_assoc arm (joined s.arms) (s.front ++ s.next ∷ s.others));
      is = s.is;
      more = s.more;
      all_arms = arm ∷ s.all_arms;
      all_spans = span ∷ s.all_spans;
      goes_on = append_assoc arm (joined s.arms) (s.front ++ s.more) ∙ ap (λ l. arm ++ l) s.goes_on ∙ sym (append_assoc arm (joined s.all_arms) stop);
      all_each = (is_arm, s.all_each);
      few = omega (arith, few);
      most_of = omega (arith, most_of);
      none = λ after.
          let z = joined s.arms ++ (s.front ++ s.next ∷ after) in
          let (e, err) = s.none after in
          let (tail, first) = same_first (joined s.arms ++ s.front) s.next s.others after m r (append_assoc (joined s.arms) s.front (s.next ∷ s.others) ∙ sym s.are) in
          let z_is : z ≡ m ∷ tail = sym (append_assoc (joined s.arms) s.front (s.next ∷ after)) ∙ first in
          let fits = misfit_first Actions (Colon ∷ []) a (c ∷ body ++ z) actions ∙ misfit_first Colon [] c (body ++ z) colon in (
            e,
            ap (arms_at least (suc most)) (append_assoc arm (joined s.arms) (s.front ++ s.next ∷ after)) ∙ at_arm least (a ∷ c ∷ body ++ z) most None (ap (λ k. kind_eqb k Stop) actions) fits
                ∙ ap (λ l. with_front (arm_span (a ∷ c ∷ body ++ z) ∷ []) (arms_at (least - 1) most l)) (behind_is a c body z m tail z_is ends plain)
                ∙ ap (with_front (arm_span (a ∷ c ∷ body ++ z) ∷ [])) err,
          );
    }

abbrev Strays : ℕ → Type 0
Strays most = (least : ℕ) (us : List Mark) (at : ℕ) → least ≤ most → HasStop us → arms_at least most us ≡ Err at → Astray least most us at

-- both signs of an arm are there
two_fit : (us : List Mark) → misfit arm_heading us ≡ None → (a : Mark) × (c : Mark) × (rest : List Mark) × (us ≡ a ∷ c ∷ rest) × (a.kind ≡ Actions) × (c.kind ≡ Colon)
two_fit [] e = absurd (cc)
two_fit (a ∷ []) e = absurd (let one = fits_first Actions (Colon ∷ []) a [] e in let two = one.1 in cc)
two_fit (a ∷ c ∷ rest) e =
    let one = fits_first Actions (Colon ∷ []) a (c ∷ rest) e in
    let two = fits_first Colon [] c rest one.1 in
    (a, c, rest, refl, sym (kind_one Actions a.kind one.0), sym (kind_one Colon c.kind two.0))

next_strays : (most least : ℕ) (m : Mark) (rest : List Mark) (at : ℕ) → Strays most → least ≤ suc most → HasStop (m ∷ rest) → kind_eqb m.kind Stop ≡ false → (o : Option ℕ) → misfit arm_heading (m ∷ rest) ≡ o
    → arms_at least (suc most) (m ∷ rest) ≡ Err at → Astray least (suc most) (m ∷ rest) at
next_strays most least m rest at later low has goes (Some b) fit e =
    let same : at ≡ b = err_one b at (sym (at_arm least (m ∷ rest) most (Some b) goes fit) ∙ e) in
    heading_astray least most m rest at low goes (unfit arm_heading (m ∷ rest) at (refl, (refl, tt)) has (fit ∙ ap Some (sym same)))
next_strays most least m rest at later low has goes None fit e =
    let (a, c, us, are, actions, colon) = two_fit (m ∷ rest) fit in
    let P : List Mark → Type 0 = λ l. HasStop l → arms_at least (suc most) l ≡ Err at → misfit arm_heading l ≡ None → Astray least (suc most) l at in
    subst P (sym are) (λ stands err fits.
    let behind = stop_behind c us (ap (λ k. kind_eqb k Stop) colon) (stop_behind a (c ∷ us) (ap (λ k. kind_eqb k Stop) actions) stands) in
    let (k, r, us_is, ends) = first_of arm_ends us refl behind in
    let body = take (before arm_ends us) us in
    let plain = plain_before arm_ends us in
    let rest_stands = stop_suffix body (k ∷ r) plain (subst HasStop us_is behind) in
    let goes_on = sym (at_arm least (a ∷ c ∷ us) most None (ap (λ z. kind_eqb z Stop) actions) fits) ∙ err in
    let inner = mutual_err (arm_span (a ∷ c ∷ us) ∷ []) (arms_at (least - 1) most (behind_arm (a ∷ c ∷ us))) at goes_on in
    let there : behind_arm (a ∷ c ∷ us) ≡ k ∷ r = ap (λ l. behind_arm (a ∷ c ∷ l)) us_is ∙ behind_is a c body (k ∷ r) k r refl ends plain in
    let s = later (least - 1) (k ∷ r) at (omega (arith, low)) rest_stands (ap (arms_at (least - 1) most) (sym there) ∙ inner) in
    subst (λ l. Astray least (suc most) (a ∷ c ∷ l) at) (sym us_is) (behind_astray least most a c body k r at actions colon plain ends s)) has e fit

strays : (most : ℕ) → Strays most
strays zero least us at low has e =
    let (m, rest, are) = stop_some us has in
    subst (λ l. Astray least 0 l at) (sym are) (by m rest (ap (arms_at least 0) (sym are) ∙ e)) where
      by : (m : Mark) (rest : List Mark) → arms_at least 0 (m ∷ rest) ≡ Err at → Astray least 0 (m ∷ rest) at
      by m rest f = split (kind_eqb m.kind Stop) refl where
        split : (v : Bool) → kind_eqb m.kind Stop ≡ v → Astray least 0 (m ∷ rest) at
        split true h = no_ok at (sym (at_stop least (m ∷ rest) 0 h ∙ ap (λ n. at_end n (m ∷ rest)) (let none : least ≡ 0 = omega (arith, low) in none)) ∙ f)
        split false h = at_once least 0 m rest at low (err_one m.at at (sym (at_most least (m ∷ rest) h) ∙ f)) (λ after. (m.at, at_most least (m ∷ after) h))
strays (suc most) least us at low has e =
    let (m, rest, are) = stop_some us has in
    subst (λ l. Astray least (suc most) l at) (sym are) (by least low m rest (subst HasStop are has) (ap (arms_at least (suc most)) (sym are) ∙ e) (strays most)) where
      by : (l : ℕ) → l ≤ suc most → (m : Mark) (rest : List Mark) → HasStop (m ∷ rest) → arms_at l (suc most) (m ∷ rest) ≡ Err at → Strays most → Astray l (suc most) (m ∷ rest) at
      by l below m rest stands f later = split l below f (kind_eqb m.kind Stop) refl where
        split : (n : ℕ) → n ≤ suc most → arms_at n (suc most) (m ∷ rest) ≡ Err at → (v : Bool) → kind_eqb m.kind Stop ≡ v → Astray n (suc most) (m ∷ rest) at
        split zero under g true h = no_ok at (sym (at_stop 0 (m ∷ rest) (suc most) h) ∙ g)
        split (suc n) under g true h = at_once (suc n) (suc most) m rest at under (err_one m.at at (sym (at_stop (suc n) (m ∷ rest) (suc most) h) ∙ g)) (λ after. (m.at, at_stop (suc n) (m ∷ after) (suc most) h))
        split n under g false h = next_strays most n m rest at later under stands h (misfit arm_heading (m ∷ rest)) refl g

abbrev at_place : List Mark → Result (List Span) ℕ
at_place l = Err (place_at l 0)

take_all : (l : List Mark) → take (length l) l ≡ l
take_all [] = refl
take_all (m ∷ l) = ap (λ (k : List Mark). m ∷ k) (take_all l)

-- ---- the whole

stop_past : (front us : List Mark) → AllByRecursion (λ (m : Mark). kind_eqb m.kind Stop ≡ false) front → HasStop (front ++ us) → HasStop us
stop_past [] us plain has = has
stop_past (f ∷ front) us plain has = stop_past front us plain.1 (stop_behind f (front ++ us) plain.0 has)

no_stops : (ms : List Mark) → HasNone stem_ends ms → AllByRecursion (λ (m : Mark). kind_eqb m.kind Stop ≡ false) ms
no_stops [] none = tt
no_stops (m ∷ ms) none = (other m.kind none.0, no_stops ms none.1) where
  other : (k : Kind) → list_any (kind_eqb k) stem_ends ≡ false → kind_eqb k Stop ≡ false
  other Stop g = let never : true ≡ false = g in absurd (cc)
  other Bad g = refl
  other Choice g = refl
  other Actions g = refl
  other Colon g = refl
  other Semicolon g = refl
  other Name g = refl
  other Other g = refl

module _ (stem : List Mark) (m : Mark) (rest : List Mark) (at : ℕ) (plain : HasNone stem_ends stem) (ends : list_any (kind_eqb m.kind) stem_ends ≡ true)
    (closed : IsClosed stem) (has : HasStop (m ∷ rest)) where
  closes_so : (r : List Mark) → closes_at (stem ++ m ∷ r) (stem_size (stem ++ m ∷ r)) ≡ true
  closes_so r = closes_is stem plain m r ends ∙ ap (λ l. closes_at l (length stem)) (sym (append-nil stem)) ∙ closes_there stem [] closed

  by_arms : misfit choice_heading (m ∷ rest) ≡ None → order (stem ++ m ∷ rest) ≡ Err at → IsMisplaced (stem ++ m ∷ rest) at
  by_arms fit e =
      let c = chosen (m ∷ rest) fit in
      let (a, b, n, d, four, first, second, third, last) = four_of c.choice c.kinds in
      let plain_choice : AllByRecursion (λ (k : Mark). kind_eqb k.kind Stop ≡ false) (a ∷ b ∷ n ∷ d ∷ []) =
      (ap (λ k. kind_eqb k Stop) first, (ap (λ k. kind_eqb k Stop) second, (ap (λ k. kind_eqb k Stop) third, (ap (λ k. kind_eqb k Stop) last, tt)))) in
      let us_are : m ∷ rest ≡ (a ∷ b ∷ n ∷ d ∷ []) ++ c.others = c.are ∙ ap (λ l. l ++ c.others) four in
      let behind : HasStop c.others = stop_past (a ∷ b ∷ n ∷ d ∷ []) c.others plain_choice (subst HasStop us_are has) in
      let inner : arms_at 2 8 c.others ≡ Err at =
      ap (arms_at 2 8) (sym c.behind) ∙ ap (λ l. arms_at 2 8 (drop 4 l)) (sym (rest_is stem plain m rest ends))
      ∙ sym (order_choice (stem ++ m ∷ rest) None (closes_so rest) (ap (misfit choice_heading) (rest_is stem plain m rest ends) ∙ fit)) ∙ e in
      let s = strays 8 2 c.others at (omega arith) behind inner in
      let front = stem ++ (c.choice ++ (joined s.arms ++ s.front)) in
      let assoc : (z : List Mark) → front ++ z ≡ stem ++ (c.choice ++ (joined s.arms ++ (s.front ++ z))) =
      λ z. append_assoc stem (c.choice ++ (joined s.arms ++ s.front)) z ∙ ap (λ l. stem ++ l) (append_assoc c.choice (joined s.arms ++ s.front) z ∙ ap (λ l. c.choice ++ l) (append_assoc (joined s.arms) s.front z)) in
      let few = s.few in
      let most = s.most_of in
      record {
        front = front;
        next = s.next;
        others = s.others;
        are = ap (λ l. stem ++ l) (c.are ∙ ap (λ l. c.choice ++ l) s.are) ∙ sym (assoc (s.next ∷ s.others));
        is = s.is;
        viable = (
          s.more,
          s.all_spans,
          record {
            stem = stem;
            choice = c.choice;
            arms = s.all_arms;
            stop = stop;
            are = assoc s.more ∙ ap (λ l. stem ++ (c.choice ++ l)) s.goes_on;
            plain = plain;
            closed = closed;
            chosen = c.kinds;
            each = s.all_each;
            few = few;
            most = most;
            stops = refl;
          },
        );
        none = λ more spans h.
            let z = joined s.arms ++ (s.front ++ s.next ∷ more) in
            let (e2, err) = s.none more in
            let same : m ≡ a = cc in
            let tail = b ∷ n ∷ d ∷ z in
            let flat : front ++ s.next ∷ more ≡ stem ++ m ∷ tail = assoc (s.next ∷ more) ∙ ap (λ l. stem ++ (l ++ z)) four ∙ ap (λ k. stem ++ k ∷ tail) (sym same) in
            let fits : misfit choice_heading (a ∷ tail) ≡ None =
            misfit_first Choice (Colon ∷ Name ∷ Semicolon ∷ []) a tail first ∙ misfit_first Colon (Name ∷ Semicolon ∷ []) b (n ∷ d ∷ z) second
            ∙ misfit_first Name (Semicolon ∷ []) n (d ∷ z) third ∙ misfit_first Semicolon [] d z last in
            let misfits = ap (misfit choice_heading) (rest_is stem plain m tail ends) ∙ ap (λ k. misfit choice_heading (k ∷ tail)) same ∙ fits in
            ok_or_err spans e2 (order (stem ++ m ∷ tail)) (ap order (sym flat) ∙ order_there (front ++ s.next ∷ more) spans h)
            (order_choice (stem ++ m ∷ tail) None (closes_so tail) misfits ∙ ap (λ l. arms_at 2 8 (drop 4 l)) (rest_is stem plain m tail ends) ∙ err);
      }

  by_choice : (o : Option ℕ) → misfit choice_heading (m ∷ rest) ≡ o → order (stem ++ m ∷ rest) ≡ Err at → IsMisplaced (stem ++ m ∷ rest) at
  by_choice (Some b) fit e =
      let same : at ≡ b = err_one b at (sym (order_choice (stem ++ m ∷ rest) (Some b) (closes_so rest) (ap (misfit choice_heading) (rest_is stem plain m rest ends) ∙ fit)) ∙ e) in
      bad_choice stem m rest at plain closed ends (unfit choice_heading (m ∷ rest) at (refl, (refl, (refl, (refl, tt)))) has (fit ∙ ap Some (sym same)))
  by_choice None fit e = by_arms fit e

pub misplaced_of : (x : List ℕ) (ms : List Mark) (at : ℕ) → AreMarks x ms → bad_at ms ≡ None → order ms ≡ Err at → IsMisplaced ms at
misplaced_of x ms at marks none e =
    let has = has_stop x ms marks none in
    let (m, rest, whole, ends) = first_of stem_ends ms refl has in
    let stem = take (before stem_ends ms) ms in
    let plain = plain_before stem_ends ms in
    subst (λ l. IsMisplaced l at) (sym whole) (by stem m rest plain ends (subst HasStop whole has) (ap order (sym whole) ∙ e)) where
      by : (stem : List Mark) (m : Mark) (rest : List Mark) → HasNone stem_ends stem → list_any (kind_eqb m.kind) stem_ends ≡ true → HasStop (stem ++ m ∷ rest) → order (stem ++ m ∷ rest) ≡ Err at → IsMisplaced (stem ++ m ∷ rest) at
      by stem m rest plain ends stands f = split (closes_at stem (length stem)) refl where
        split : (v : Bool) → closes_at stem (length stem) ≡ v → IsMisplaced (stem ++ m ∷ rest) at
        split false g =
            let found_it : at ≡ m.at = err_one m.at at (sym (order_open (stem ++ m ∷ rest) (closes_is stem plain m rest ends ∙ g) ∙ ap at_place (rest_is stem plain m rest ends)) ∙ f) in
            subst (λ k. IsMisplaced (stem ++ m ∷ rest) k) (sym found_it) (open_stem stem m rest plain ends g)
        split true g =
            let (k, size) = closed_some stem (length stem) g in
            let closed = subst IsClosed (ap (λ n. take n stem) (sym size) ∙ take_all stem) (closed_taken stem k (omega (arith, size)) (subst (λ n. closes_at stem n ≡ true) size g)) in
            by_choice stem m rest at plain ends closed (stop_past stem (m ∷ rest) (no_stops stem plain) stands) (misfit choice_heading (m ∷ rest)) refl f

pub order_err : (x : List ℕ) (ms : List Mark) (at : ℕ) → AreMarks x ms → bad_at ms ≡ None → IsMisplaced ms at → order ms ≡ Err at
order_err x ms at marks none one = by (order ms) refl where
  by : (r : Result (List Span) ℕ) → order ms ≡ r → order ms ≡ Err at
  by (Ok spans) e = absurd (one.none one.others spans (subst (λ l. HasOrder l spans) one.are (has_order x ms spans marks e)))
  by (Err b) e = e ∙ ap Err (misplaced_one ms b at (misplaced_of x ms b marks none e) one)
