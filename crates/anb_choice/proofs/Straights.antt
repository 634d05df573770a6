-- The narrations of the arms of a text have the stem in common, which is a narration of its own.
use Rattle.std.proofs.Common.{◌≡◌, ◌⊎◌, inl, inr, ℕ, zero, suc, ◌+◌, ◌-◌, List, [], ◌∷◌, ◌++◌, length, map, take, drop, Bool, true, false, cond, Some, refl, sym, ap, subst, ◌∙◌, arith, append_assoc, length-append}
use Rattle.std.specs.Prelude.{◌==◌, ◌||◌, not, slice_get}
use Rattle.std.specs.List.{AllByRecursion, AllZip, count_by, flat_map, list_any}
use Rattle.std.specs.Str.{bytes_eq}
use Rattle.std.proofs.lemmas.Bool.{eqb-true}
use Rattle.std.proofs.lemmas.Bool.Decides.{nat_tests}
use Rattle.std.proofs.lemmas.List.{append-nil, map-append}
use Rattle.std.proofs.lemmas.List.Sums.{sum_by-cons}
use Rattle.anb_lemmas.proofs.Each.{each_in_both, each_in_front}
use Rattle.anb_lemmas.proofs.Items.{bytes_are_one}
use Rattle.anb_syntax.specs.Words.{Word, name, literal, sign, end, bad, Tok, actions_word, choice_word, goals_word, colon, is_name, semicolon}
use Rattle.anb_syntax.specs.Lexing.{Lexes}
use Rattle.anb_syntax.specs.Grammar.{IsNarration, Narration, Written, fits, spell, spell_action, spell_ending, told}
use Rattle.anb_syntax.specs.Laws.{TokensAreUnique}
use Rattle.anb_syntax.specs.Text.{Text}
use Rattle.anb_choice.specs.declared.marks.Kind.{Kind}
use Rattle.anb_choice.specs.declared.marks.Kind.TheVariants.{Choice, Actions, Colon, Semicolon, Name, Other, Stop, Bad}
use Rattle.anb_choice.specs.declared.marks.Mark.{Mark}
use Rattle.anb_choice.specs.declared.order.Span.{Span}
use Rattle.anb_choice.specs.Order.{HasNone, HasOrder, IsArm, IsClosed, before, bytes_between, ends_looking, kind_eqb, kind_of, looked, mark_of, past_at, past_last, sign_kind, stem_actions, stem_end, stem_size, straight, word_kind}
use Rattle.anb_choice.proofs.Cutting.{NoActions, behind_actions, before_actions, has_one, is_actions, is_semicolon, is_stop, one_front, spell_parts}
use Rattle.anb_choice.proofs.Ordering.{arm_ends, closed_has, joined, one_of, past_of_last, stem_stands, taken, two_of}
use Rattle.anb_choice.proofs.Stemmed.{IsClosed as AreClosed, NoStop, cut, cut_text, from_actions, semicolons, stem_count, stem_cut, stop_parts, words_begun}
use Rattle.anb_choice.proofs.Worded.{AllPassed, Front, IsPassed, Reads, drops, end_of, fronts, last_end, lexed_of, words_of}

-- ---- kinds and words

word_by : (b : List ℕ) (P : Kind → Type 0) → (bytes_eq choice_word b ≡ true → P Choice) → (bytes_eq choice_word b ≡ false → bytes_eq actions_word b ≡ true → P Actions)
    → (bytes_eq actions_word b ≡ false → P Stop) → (bytes_eq actions_word b ≡ false → P Name) → (bytes_eq actions_word b ≡ false → P Other)
    → (bytes_eq goals_word b ≡ true → bytes_eq actions_word b ≡ false → P Stop) → P (word_kind b)
word_by b P choice actions stop named other goals = by (bytes_eq choice_word b) refl where
  by_name : (u : Bool) → bytes_eq actions_word b ≡ false → P (cond u Name Other)
  by_name true a = named a
  by_name false a = other a

  by_goals : (u : Bool) → bytes_eq actions_word b ≡ false → P (cond u Stop (cond (is_name b) Name Other))
  by_goals true a = stop a
  by_goals false a = by_name (is_name b) a

  by_actions : (u : Bool) → bytes_eq choice_word b ≡ false → bytes_eq actions_word b ≡ u → P (cond u Actions (cond (bytes_eq goals_word b) Stop (cond (is_name b) Name Other)))
  by_actions true c a = actions c a
  by_actions false c a = by_goals (bytes_eq goals_word b) a

  by : (u : Bool) → bytes_eq choice_word b ≡ u → P (cond u Choice (cond (bytes_eq actions_word b) Actions (cond (bytes_eq goals_word b) Stop (cond (is_name b) Name Other))))
  by true c = choice c
  by false c = by_actions (bytes_eq actions_word b) c refl

sign_by : (c : ℕ) (P : Kind → Type 0) → ((c == 58) ≡ true → P Colon) → ((c == 59) ≡ true → P Semicolon) → ((c == 59) ≡ false → P Other) → P (sign_kind c)
sign_by c P colon_is semicolon_is other = by (c == 58) refl where
  and : (u : Bool) → (c == 59) ≡ u → P (cond u Semicolon Other)
  and true e = semicolon_is e
  and false e = other e

  by : (u : Bool) → (c == 58) ≡ u → P (cond u Colon (cond (c == 59) Semicolon Other))
  by true e = colon_is e
  by false e = and (c == 59) refl

actions_same : (w : Word) → kind_eqb (kind_of w) Actions ≡ is_actions w
actions_same (name b) =
    word_by b (λ k. kind_eqb k Actions ≡ bytes_eq actions_word b) (λ c. ap (bytes_eq actions_word) (bytes_are_one choice_word b c)) (λ c a. sym a) (λ a. sym a) (λ a. sym a) (λ a. sym a) (λ g a. sym a)
actions_same (literal b) = refl
actions_same (sign c) = sign_by c (λ k. kind_eqb k Actions ≡ false) (λ e. refl) (λ e. refl) (λ e. refl)
actions_same end = refl
actions_same bad = refl

semicolon_same : (w : Word) → kind_eqb (kind_of w) Semicolon ≡ is_semicolon w
semicolon_same (name b) = word_by b (λ k. kind_eqb k Semicolon ≡ false) (λ c. refl) (λ c a. refl) (λ a. refl) (λ a. refl) (λ a. refl) (λ g a. refl)
semicolon_same (literal b) = refl
semicolon_same (sign c) =
    sign_by c (λ k. kind_eqb k Semicolon ≡ (59 == c)) (λ e. let s : c ≡ 58 = eqb-true c 58 e in ap (λ n. 59 == n) (sym s)) (λ e. let s : c ≡ 59 = eqb-true c 59 e in ap (λ n. 59 == n) (sym s)) (λ e. grind (arith, nat_tests, e))
semicolon_same end = refl
semicolon_same bad = refl

pub passes : (w : Word) → ends_looking (kind_of w) ≡ false → IsPassed w × (is_stop w ≡ false)
passes (name b) e = (tt, by (bytes_eq goals_word b) refl) where
  by : (u : Bool) → bytes_eq goals_word b ≡ u → bytes_eq goals_word b ≡ false
  by true g = let never : true ≡ false = ap (λ z. ends_looking (word_kind z)) (bytes_are_one goals_word b g) ∙ e in absurd (cc)
  by false g = g
passes (literal b) e = (tt, refl)
passes (sign c) e = (tt, refl)
passes end e = let never : true ≡ false = e in absurd (cc)
passes bad e = let never : true ≡ false = e in absurd (cc)

is_semicolon_word : (w : Word) → kind_of w ≡ Semicolon → w ≡ semicolon
is_semicolon_word w e = by w (sym (semicolon_same w) ∙ ap (λ k. kind_eqb k Semicolon) e) where
  by : (v : Word) → is_semicolon v ≡ true → v ≡ semicolon
  by (name b) t = absurd (cc)
  by (literal b) t = absurd (cc)
  by (sign c) t = ap sign (sym (eqb-true 59 c t))
  by end t = absurd (cc)
  by bad t = absurd (cc)

is_actions_word : (w : Word) → kind_of w ≡ Actions → w ≡ name actions_word
is_actions_word w e = by w (sym (actions_same w) ∙ ap (λ k. kind_eqb k Actions) e) where
  by : (v : Word) → is_actions v ≡ true → v ≡ name actions_word
  by (name b) t = ap name (sym (bytes_are_one actions_word b t))
  by (literal b) t = absurd (cc)
  by (sign c) t = absurd (cc)
  by end t = absurd (cc)
  by bad t = absurd (cc)

is_colon_word : (w : Word) → kind_of w ≡ Colon → w ≡ colon
is_colon_word (name b) e = absurd (word_by b (λ k. k ≡ Colon → ⊥) (λ c f. cc) (λ c a f. cc) (λ a f. cc) (λ a f. cc) (λ a f. cc) (λ g a f. cc) e)
is_colon_word (literal b) e = absurd (cc)
is_colon_word (sign c) e = ap sign (sign_by c (λ k. k ≡ Colon → c ≡ 58) (λ t f. eqb-true c 58 t) (λ t f. absurd (cc)) (λ t f. absurd (cc)) e)
is_colon_word end e = absurd (cc)
is_colon_word bad e = absurd (cc)

-- ---- tokens and marks

abbrev marks_of : List ℕ → List Tok → List Mark
marks_of x ts = map (mark_of x) ts

abbrev GoOn : List Tok → Type 0
GoOn ts = AllByRecursion (λ (t : Tok). ends_looking (kind_of t.word) ≡ false) ts

record Looked (x : List ℕ) (ts : List Tok) (front : List Mark) : Type 0 where
  first : List Tok
  others : List Tok
  are : ts ≡ first ++ others
  marks : marks_of x first ≡ front
  go_on : GoOn first

looked_parts : (x : List ℕ) (ts : List Tok) (front others : List Mark) (m : Mark) → looked x ts ≡ front ++ m ∷ others → Looked x ts front
looked_parts x ts [] others m e = record { first = []; others = ts; are = refl; marks = refl; go_on = tt }
looked_parts x [] (f ∷ front) others m e = absurd (cc)
looked_parts x (t ∷ ts) (f ∷ front) others m e =
    by (ends_looking (kind_of t.word)) refl (let rest : cond (ends_looking (kind_of t.word)) [] (looked x ts) ≡ front ++ m ∷ others = cc in rest) (looked_parts x ts front others m) where
      same : mark_of x t ≡ f
      same = cc

      never : (l : List Mark) → [] ≡ l ++ m ∷ others → ⊥
      never [] e = cc
      never (k ∷ l) e = cc

      by : (b : Bool) → ends_looking (kind_of t.word) ≡ b → cond b [] (looked x ts) ≡ front ++ m ∷ others → (looked x ts ≡ front ++ m ∷ others → Looked x ts front) → Looked x (t ∷ ts) (f ∷ front)
      by true g rest later = absurd (never front rest)
      by false g rest later =
          let r = later rest in
          record {
            first = t ∷ r.first;
            others = r.others;
            are = ap (λ (l : List Tok). t ∷ l) r.are;
            marks = ap (λ v. v ∷ marks_of x r.first) same ∙ ap (λ (l : List Mark). f ∷ l) r.marks;
            go_on = (g, r.go_on);
          }

record Split (x : List ℕ) (ts : List Tok) (a b : List Mark) : Type 0 where
  first : List Tok
  others : List Tok
  are : ts ≡ first ++ others
  marks : marks_of x first ≡ a
  later : marks_of x others ≡ b
  first_goes : GoOn first
  others_go : GoOn others

split_marks : (x : List ℕ) (ts : List Tok) (a b : List Mark) → marks_of x ts ≡ a ++ b → GoOn ts → Split x ts a b
split_marks x ts [] b e go = record { first = []; others = ts; are = refl; marks = refl; later = e; first_goes = tt; others_go = go }
split_marks x [] (m ∷ a) b e go = absurd (cc)
split_marks x (t ∷ ts) (m ∷ a) b e go =
    let same : mark_of x t ≡ m = cc in
    let rest : marks_of x ts ≡ a ++ b = cc in
    let r = split_marks x ts a b rest go.1 in
    record {
      first = t ∷ r.first;
      others = r.others;
      are = ap (λ (l : List Tok). t ∷ l) r.are;
      marks = ap (λ v. v ∷ marks_of x r.first) same ∙ ap (λ (l : List Mark). m ∷ l) r.marks;
      later = r.later;
      first_goes = (go.0, r.first_goes);
      others_go = r.others_go;
    }

all_passed : (ts : List Tok) → GoOn ts → AllPassed ts
all_passed [] go = tt
all_passed (t ∷ ts) go = ((passes t.word go.0).0, all_passed ts go.1)

no_stop : (ts : List Tok) → GoOn ts → NoStop (words_of ts)
no_stop [] go = tt
no_stop (t ∷ ts) go = ((passes t.word go.0).1, no_stop ts go.1)

-- an arm's tokens have no `Actions`
no_actions : (x : List ℕ) (ts : List Tok) → HasNone arm_ends (marks_of x ts) → NoActions (words_of ts)
no_actions x [] none = tt
no_actions x (t ∷ ts) none = (sym (actions_same t.word) ∙ by (kind_of t.word) none.0, no_actions x ts none.1) where
  by : (k : Kind) → list_any (kind_eqb k) arm_ends ≡ false → kind_eqb k Actions ≡ false
  by Choice e = refl
  by Actions e = let never : true ≡ false = e in absurd (cc)
  by Colon e = refl
  by Semicolon e = refl
  by Name e = refl
  by Other e = refl
  by Stop e = refl
  by Bad e = refl

last_past : (x : List ℕ) (at : ℕ) (t : Tok) (ts : List Tok) → past_last (marks_of x (t ∷ ts)) ≡ last_end x at (t ∷ ts)
last_past x at t [] = refl
last_past x at t (u ∷ ts) = last_past x (end_of x t) u ts

last_joined : (x : List ℕ) (at : ℕ) (ts us : List Tok) → last_end x at (ts ++ us) ≡ last_end x (last_end x at ts) us
last_joined x at [] us = refl
last_joined x at (t ∷ ts) us = last_joined x (end_of x t) ts us

past_behind : (xs ys : List Mark) (y : Mark) → past_last (xs ++ y ∷ ys) ≡ past_last (y ∷ ys)
past_behind [] ys y = refl
past_behind (x ∷ []) ys y = refl
past_behind (x ∷ v ∷ xs) ys y = past_behind (v ∷ xs) ys y

-- how many actions the stem has
abbrev count : List Mark → ℕ
count ms = count_by (λ (m : Mark). kind_eqb m.kind Semicolon) ms

counts_next : (x : List ℕ) (t : Tok) (ts : List Tok) (b : Bool) → is_semicolon t.word ≡ b → count (marks_of x ts) ≡ semicolons (words_of ts) → count (marks_of x (t ∷ ts)) ≡ semicolons (words_of (t ∷ ts))
counts_next x t ts b e later =
    let here : count (marks_of x (t ∷ ts)) ≡ cond b 1 0 + count (marks_of x ts) =
    sum_by-cons (λ (m : Mark). cond (kind_eqb m.kind Semicolon) 1 0) (mark_of x t) (marks_of x ts) ∙ ap (λ v. cond v 1 0 + count (marks_of x ts)) (semicolon_same t.word ∙ e) in
    let there : semicolons (words_of (t ∷ ts)) ≡ cond b (suc (semicolons (words_of ts))) (semicolons (words_of ts)) = ap (λ v. cond v (suc (semicolons (words_of ts))) (semicolons (words_of ts))) e in
    here ∙ by b ∙ sym there where
      by : (v : Bool) → cond v 1 0 + count (marks_of x ts) ≡ cond v (suc (semicolons (words_of ts))) (semicolons (words_of ts))
      by true = omega (arith, later)
      by false = omega (arith, later)

count_all : (x : List ℕ) (ts : List Tok) → count (marks_of x ts) ≡ semicolons (words_of ts)
count_all x [] = refl
count_all x (t ∷ ts) = counts_next x t ts (is_semicolon t.word) refl (count_all x ts)

before_next : (x : List ℕ) (t : Tok) (ts : List Tok) (b : Bool) → is_actions t.word ≡ b
    → before (Actions ∷ []) (marks_of x (t ∷ ts)) ≡ cond b 0 (suc (before (Actions ∷ []) (marks_of x ts)))
before_next x t ts b e = ap (λ v. cond (not (v || false)) (1 + before (Actions ∷ []) (marks_of x ts)) 0) (actions_same t.word ∙ e) ∙ by b where
  by : (v : Bool) → cond (not (v || false)) (1 + before (Actions ∷ []) (marks_of x ts)) 0 ≡ cond v 0 (suc (before (Actions ∷ []) (marks_of x ts)))
  by true = refl
  by false = omega arith

from_next : (x : List ℕ) (t : Tok) (ts : List Tok) (b : Bool) → is_actions t.word ≡ b → from_actions (words_of (t ∷ ts)) ≡ cond b (words_of (t ∷ ts)) (from_actions (words_of ts))
from_next x t ts b e = ap (λ v. cond v (words_of (t ∷ ts)) (from_actions (words_of ts))) e

count_next : (x : List ℕ) (t : Tok) (ts : List Tok) (b : Bool) → is_actions t.word ≡ b
    → count (drop (before (Actions ∷ []) (marks_of x ts)) (marks_of x ts)) ≡ semicolons (from_actions (words_of ts))
    → count (drop (before (Actions ∷ []) (marks_of x (t ∷ ts))) (marks_of x (t ∷ ts))) ≡ semicolons (from_actions (words_of (t ∷ ts)))
count_next x t ts true e later = ap (λ n. count (drop n (marks_of x (t ∷ ts)))) (before_next x t ts true e) ∙ count_all x (t ∷ ts) ∙ ap semicolons (sym (from_next x t ts true e))
count_next x t ts false e later = ap (λ n. count (drop n (marks_of x (t ∷ ts)))) (before_next x t ts false e) ∙ later ∙ ap semicolons (sym (from_next x t ts false e))

count_from : (x : List ℕ) (ts : List Tok) → count (drop (before (Actions ∷ []) (marks_of x ts)) (marks_of x ts)) ≡ semicolons (from_actions (words_of ts))
count_from x [] = refl
count_from x (t ∷ ts) = count_next x t ts (is_actions t.word) refl (count_from x ts)

-- the words of a stem that is closed are
closed_words : (x : List ℕ) (ts : List Tok) → GoOn ts → IsClosed (marks_of x ts) → AreClosed (words_of ts)
closed_words x ts go (front, last, are, inl e) =
    let s = split_marks x ts front last are go in
    let (m, one, kind) = one_of last Semicolon e in
    by m s.first s.others (s.later ∙ one) kind (words_joined s.first s.others (ap words_of s.are)) where
      words_joined : (a b : List Tok) → words_of ts ≡ words_of (a ++ b) → words_of ts ≡ words_of a ++ words_of b
      words_joined a b f = f ∙ map-append (λ (t : Tok). t.word) a b

      by : (m : Mark) (a us : List Tok) → marks_of x us ≡ m ∷ [] → m.kind ≡ Semicolon → words_of ts ≡ words_of a ++ words_of us → AreClosed (words_of ts)
      by m a [] f k w = absurd (cc)
      by m a (u ∷ []) f k w =
          let same : kind_of u.word ≡ m.kind = (let s : mark_of x u ≡ m = cc in ap (λ (n : Mark). n.kind) s) in
          inl (words_of a, w ∙ ap (λ v. words_of a ++ v ∷ []) (is_semicolon_word u.word (same ∙ k)))
      by m a (u ∷ v ∷ us) f k w = absurd (cc)
closed_words x ts go (front, last, are, inr e) =
    let s = split_marks x ts front last are go in
    let (m, n, two, first, second) = two_of last Actions Colon e in
    by m n s.first s.others (s.later ∙ two) first second (words_joined s.first s.others (ap words_of s.are)) where
      words_joined : (a b : List Tok) → words_of ts ≡ words_of (a ++ b) → words_of ts ≡ words_of a ++ words_of b
      words_joined a b f = f ∙ map-append (λ (t : Tok). t.word) a b

      by : (m n : Mark) (a us : List Tok) → marks_of x us ≡ m ∷ n ∷ [] → m.kind ≡ Actions → n.kind ≡ Colon → words_of ts ≡ words_of a ++ words_of us → AreClosed (words_of ts)
      by m n a [] f k l w = absurd (cc)
      by m n a (u ∷ []) f k l w = absurd (cc)
      by m n a (u ∷ v ∷ []) f k l w =
          let one : kind_of u.word ≡ m.kind = (let s : mark_of x u ≡ m = cc in ap (λ (z : Mark). z.kind) s) in
          let other : kind_of v.word ≡ n.kind = (let s : mark_of x v ≡ n = cc in ap (λ (z : Mark). z.kind) s) in
          inr (words_of a, w ∙ ap (λ z. words_of a ++ z ∷ v.word ∷ []) (is_actions_word u.word (one ∙ k)) ∙ ap (λ z. words_of a ++ name actions_word ∷ z ∷ []) (is_colon_word v.word (other ∙ l)))
      by m n a (u ∷ v ∷ z ∷ us) f k l w = absurd (cc)

-- ---- where an arm stands

record Placed (arms : List (List Mark)) (span : Span) : Type 0 where
  front : List Mark
  arm : List Mark
  back : List Mark
  are : joined arms ≡ front ++ (arm ++ back)
  is : IsArm arm span

placed : (arms : List (List Mark)) (spans : List Span) (i : ℕ) (s : Span) → AllZip IsArm arms spans → slice_get spans i ≡ Some s → Placed arms s
placed arms [] i s each here = absurd (cc)
placed [] (v ∷ spans) i s each here = absurd each
placed (arm ∷ arms) (v ∷ spans) zero s each here = let same : v ≡ s = cc in record { front = []; arm = arm; back = joined arms; are = refl; is = subst (IsArm arm) same each.0 }
placed (arm ∷ arms) (v ∷ spans) (suc i) s each here =
    let r = placed arms spans i s each.1 here in
    record { front = arm ++ r.front; arm = r.arm; back = r.back; are = ap (λ l. arm ++ l) r.are ∙ sym (append_assoc arm r.front (r.arm ++ r.back)); is = r.is }

-- a text with a choice in four parts: the stem, what stands before an arm's tokens, these, and the rest
pub record Parted (ms : List Mark) (stem : List Mark) (s : Span) : Type 0 where
  y : Mark
  between : List Mark
  body : List Mark
  last : Mark
  rest : List Mark
  are : ms ≡ (stem ++ ((between ++ y ∷ []) ++ body)) ++ last ∷ rest
  plain : HasNone arm_ends body
  from : s.from ≡ y.past
  to : s.to ≡ past_last (y ∷ body)

some_behind : (l : List Mark) (m : Mark) → (a : Mark) × (b : List Mark) × (l ++ m ∷ [] ≡ a ∷ b)
some_behind [] m = (m, [], refl)
some_behind (a ∷ l) m = (a, l ++ m ∷ [], refl)

pub parted : (ms : List Mark) (spans : List Span) (i : ℕ) (s : Span) (h : HasOrder ms spans) → slice_get spans i ≡ Some s → Parted ms h.stem s
parted ms spans i s h here =
    let p = placed h.arms spans i s h.each here in
    let (t, one, stop) = one_of h.stop Stop h.stops in
    let (x, y, two, first, second) = two_of p.is.heading Actions Colon p.is.headed in
    let body = p.is.body in
    let arm : p.arm ≡ x ∷ y ∷ body = p.is.are ∙ ap (λ l. l ++ body) two in
    let (m, rest, some) = some_behind p.back t in
    let between = h.choice ++ (p.front ++ x ∷ []) in
    let inner : h.choice ++ (p.front ++ ((x ∷ y ∷ body) ++ m ∷ rest)) ≡ ((between ++ y ∷ []) ++ body) ++ m ∷ rest =
    sym (append_assoc (between ++ y ∷ []) body (m ∷ rest) ∙ append_assoc between (y ∷ []) (body ++ m ∷ rest) ∙ append_assoc h.choice (p.front ++ x ∷ []) (y ∷ body ++ m ∷ rest)
    ∙ ap (λ l. h.choice ++ l) (append_assoc p.front (x ∷ []) (y ∷ body ++ m ∷ rest))) in
    let arms : joined h.arms ++ h.stop ≡ p.front ++ ((x ∷ y ∷ body) ++ m ∷ rest) =
    ap (λ l. l ++ h.stop) p.are ∙ append_assoc p.front (p.arm ++ p.back) h.stop ∙ ap (λ l. p.front ++ l) (append_assoc p.arm p.back h.stop ∙ ap (λ l. l ++ (p.back ++ h.stop)) arm
    ∙ ap (λ l. (x ∷ y ∷ body) ++ l) (ap (λ l. p.back ++ l) one ∙ some)) in
    record {
      y = y;
      between = between;
      body = body;
      last = m;
      rest = rest;
      are = h.are ∙ ap (λ l. h.stem ++ (h.choice ++ l)) arms ∙ ap (λ l. h.stem ++ l) inner ∙ sym (append_assoc h.stem ((between ++ y ∷ []) ++ body) (m ∷ rest));
      plain = p.is.plain;
      from = p.is.from ∙ ap past_last two;
      to = p.is.to ∙ ap past_last arm;
    }

-- ---- the stem is a narration's text

-- the narration of the first actions, so many
abbrev pub stem_of : Narration → ℕ → Narration
stem_of n k = record n { actions = take k n.actions }

module _ (unique : TokensAreUnique) where
  -- a text has one list of words
  words_one : (x : List ℕ) (ws : List Word) (ts : List Tok) → Reads x ws → Lexes 0 x ts → words_of ts ≡ ws
  words_one x ws ts reads lexes = let l = lexed_of ws 0 x reads in ap words_of (unique x ts l.tokens lexes l.lexes) ∙ l.words

-- the words of a stem with those of an arm behind it are a narration's, so the stem is one of its fronts
module _ (w : Written) (stem body : List Word) (rest : List Word) (is : IsNarration (told w)) (stop : NoStop stem) (closed : AreClosed stem) (plain : NoActions body)
    (words : spell w ++ rest ≡ stem ++ (body ++ end ∷ [])) where
  -- a narration's words end with a stop
  past_end : (m : List Word) → stem ≡ spell w ++ m → ⊥
  past_end m e = never w.goals (subst NoStop parts stop) where
    parts : stem ≡ before_actions w ++ ((name actions_word ∷ colon ∷ flat_map spell_action w.actions) ++ (spell_ending w.goals ++ m))
    parts =
        e ∙ ap (λ l. l ++ m) (spell_parts w) ∙ append_assoc (before_actions w) (name actions_word ∷ behind_actions w) m
        ∙ ap (λ (l : List Word). before_actions w ++ name actions_word ∷ colon ∷ l) (append_assoc (flat_map spell_action w.actions) (spell_ending w.goals) m)

    never : (b : Bool) → NoStop (before_actions w ++ ((name actions_word ∷ colon ∷ flat_map spell_action w.actions) ++ (spell_ending b ++ m))) → ⊥
    never b none = by b (stop_parts (name actions_word ∷ colon ∷ flat_map spell_action w.actions) (spell_ending b ++ m)
        (stop_parts (before_actions w) ((name actions_word ∷ colon ∷ flat_map spell_action w.actions) ++ (spell_ending b ++ m)) none).1).1 where
          by : (v : Bool) → NoStop (spell_ending v ++ m) → ⊥
          by true k = let f : true ≡ false = k.0 in absurd (cc)
          by false k = let f : true ≡ false = k.0 in absurd (cc)

  stem_front : (m : List Word) → spell w ≡ stem ++ m → body ++ end ∷ [] ≡ m ++ rest → stem ++ end ∷ [] ≡ spell (cut w (stem_count stem))
  stem_front m e f = stem_cut w is stem m e some closed stop where
    all : NoActions (body ++ end ∷ [])
    all = each_in_both (λ v. is_actions v ≡ false) body (end ∷ []) plain (refl, tt)

    some : NoActions stem → ⊥
    some free =
        let whole = each_in_both (λ v. is_actions v ≡ false) stem m free (each_in_front (λ v. is_actions v ≡ false) m rest (subst NoActions f all)) in
        has_one is_actions (before_actions w) (behind_actions w) (name actions_word) refl (subst NoActions (sym e ∙ spell_parts w) whole)

reads_end : Reads [] (end ∷ [])
reads_end = (refl, refl)

-- a line's end before a text changes no word
reads_line : (ws : List Word) (z : List ℕ) → Reads z ws → Reads (10 ∷ z) ws
reads_line [] z r = absurd r
reads_line (w ∷ ws) z r = r

some_token : (x : List ℕ) (ts : List Tok) (m : Mark) (ms : List Mark) → marks_of x ts ≡ m ∷ ms → (t : Tok) × (us : List Tok) × (ts ≡ t ∷ us)
some_token x [] m ms e = absurd (cc)
some_token x (t ∷ ts) m ms e = (t, ts, refl)

-- the offset past the last of some tokens
last_of : (x : List ℕ) (at : ℕ) (ts : List Tok) (l ms : List Mark) (m : Mark) → marks_of x ts ≡ l → l ≡ m ∷ ms → past_last l ≡ last_end x at ts
last_of x at ts l ms m e f =
    let (t, us, is) = some_token x ts m ms (e ∙ f) in
    ap past_last (sym e) ∙ ap (λ z. past_last (marks_of x z)) is ∙ last_past x at t us ∙ ap (last_end x at) (sym is)

some_front : (l : List Mark) (m : Mark) (ms : List Mark) → (a : Mark) × (b : List Mark) × (l ++ m ∷ ms ≡ a ∷ b)
some_front [] m ms = (m, ms, refl)
some_front (a ∷ l) m ms = (a, l ++ m ∷ ms, refl)

past_stem : (ms stem more : List Mark) (m : Mark) (rest : List Mark) → ms ≡ stem ++ more → stem ≡ m ∷ rest → past_at ms (length stem - 1) ≡ past_last stem
past_stem ms stem more m rest e f =
    let size : length stem - 1 ≡ length rest = omega (arith, ap length f) in
    ap (past_at ms) size ∙ ap (λ l. past_at l (length rest)) (e ∙ ap (λ l. l ++ more) f)
    ∙ past_of_last m (rest ++ more) (length rest) (omega (arith, length-append rest more)) ∙ ap (λ l. past_last (m ∷ l)) (taken rest more) ∙ ap past_last (sym f)

module _ (unique : TokensAreUnique) (x : List ℕ) (tokens : List Tok) (lexes : Lexes 0 x tokens) (ms : List Mark) (are : ms ≡ looked x tokens) (spans : List Span) (h : HasOrder ms spans) where
  module _ (i : ℕ) (s : Span) (here : slice_get spans i ≡ Some s) where
    abbrev p : Parted ms h.stem s
    p = parted ms spans i s h here

    abbrev between : List Mark
    between = p.between ++ p.y ∷ []

    abbrev all : Looked x tokens (h.stem ++ (between ++ p.body))
    all = looked_parts x tokens (h.stem ++ (between ++ p.body)) p.rest p.last (sym are ∙ p.are)

    abbrev one : Split x all.first h.stem (between ++ p.body)
    one = split_marks x all.first h.stem (between ++ p.body) all.marks all.go_on

    abbrev two : Split x one.others between p.body
    two = split_marks x one.others between p.body one.later one.others_go

    abbrev stem_tokens : List Tok
    stem_tokens = one.first

    abbrev stem_words : List Word
    stem_words = words_of stem_tokens

    abbrev body_words : List Word
    body_words = words_of two.others

    tokens_are : tokens ≡ stem_tokens ++ (two.first ++ (two.others ++ all.others))
    tokens_are =
        all.are ∙ ap (λ l. l ++ all.others) (one.are ∙ ap (λ l. stem_tokens ++ l) two.are) ∙ append_assoc stem_tokens (two.first ++ two.others) all.others
        ∙ ap (λ l. stem_tokens ++ l) (append_assoc two.first two.others all.others)

    abbrev first : Front 0 x stem_tokens (two.first ++ (two.others ++ all.others))
    first = fronts stem_tokens (two.first ++ (two.others ++ all.others)) 0 x (subst (Lexes 0 x) tokens_are lexes) (all_passed stem_tokens one.first_goes)

    abbrev second : Front (0 + first.size) (drop first.size x) two.first (two.others ++ all.others)
    second = fronts two.first (two.others ++ all.others) (0 + first.size) (drop first.size x) first.rest (all_passed two.first two.first_goes)

    abbrev third : Front (0 + first.size + second.size) (drop second.size (drop first.size x)) two.others all.others
    third = fronts two.others all.others (0 + first.size + second.size) (drop second.size (drop first.size x)) second.rest (all_passed two.others two.others_go)

    stem_past : stem_end ms ≡ first.size
    stem_past =
        let (size, (more, stands)) = stem_stands ms spans h in
        let (m, rest, some) = closed_has h.stem h.closed in
        ap (λ n. past_at ms (n - 1)) size ∙ past_stem ms h.stem more m rest stands some ∙ last_of x 0 stem_tokens h.stem rest m one.marks some ∙ first.ends x refl ∙ omega arith

    from_there : drop (0 + first.size) x ≡ drop first.size x
    from_there = ap (λ n. drop n x) (omega arith)

    from_past : s.from ≡ first.size + second.size
    from_past =
        let (m, rest, some) = some_front p.between p.y [] in
        p.from ∙ sym (past_behind p.between [] p.y) ∙ last_of x (0 + first.size) two.first between rest m two.marks some ∙ second.ends x from_there ∙ omega arith

    behind_there : drop (0 + first.size + second.size) x ≡ drop second.size (drop first.size x)
    behind_there = ap (λ n. drop n x) (omega arith) ∙ sym (drops second.size first.size x)

    to_past : s.to ≡ first.size + second.size + third.size
    to_past =
        let (m, rest, some) = some_front p.between p.y p.body in
        let joined_marks : marks_of x (two.first ++ two.others) ≡ between ++ p.body = map-append (mark_of x) two.first two.others ∙ ap (λ l. l ++ marks_of x two.others) two.marks ∙ ap (λ l. between ++ l) two.later in
        let flat : between ++ p.body ≡ p.between ++ p.y ∷ p.body = append_assoc p.between (p.y ∷ []) p.body in
        p.to ∙ sym (past_behind p.between p.body p.y) ∙ ap past_last (sym flat)
        ∙ last_of x (0 + first.size) (two.first ++ two.others) (between ++ p.body) rest m joined_marks (flat ∙ some)
        ∙ last_joined x (0 + first.size) two.first two.others ∙ ap (λ n. last_end x n two.others) (second.ends x from_there) ∙ third.ends x behind_there ∙ omega arith

    bytes_are : bytes_between x s.from s.to ≡ take third.size (drop second.size (drop first.size x))
    bytes_are =
        let size : s.to - s.from ≡ third.size = (let f = from_past in let t = to_past in omega (arith, f, t)) in
        ap (λ n. take n (drop s.from x)) size ∙ ap (λ n. take third.size (drop n x)) from_past ∙ ap (take third.size) (sym (drops second.size first.size x))

    straight_reads : Reads (straight x ms s) (stem_words ++ (body_words ++ end ∷ []))
    straight_reads =
        let body = third.again [] (end ∷ []) refl reads_end in
        let reads = subst (λ z. Reads z (body_words ++ end ∷ [])) (append-nil (take third.size (drop second.size (drop first.size x))) ∙ sym bytes_are) body in
        let behind = reads_line (body_words ++ end ∷ []) (bytes_between x s.from s.to) reads in
        subst (λ n. Reads (take n x ++ 10 ∷ bytes_between x s.from s.to) (stem_words ++ (body_words ++ end ∷ []))) (sym stem_past)
        (first.again (10 ∷ bytes_between x s.from s.to) (body_words ++ end ∷ []) refl behind)

    stem_reads : Reads (take (stem_end ms) x) (stem_words ++ end ∷ [])
    stem_reads =
        subst (λ n. Reads (take n x) (stem_words ++ end ∷ [])) (sym stem_past)
        (subst (λ z. Reads z (stem_words ++ end ∷ [])) (append-nil (take first.size x)) (first.again [] (end ∷ []) refl reads_end))

    count_is : stem_count stem_words ≡ stem_actions ms
    count_is =
        let (size, (more, stands)) = stem_stands ms spans h in
        let stem : take (stem_size ms) ms ≡ marks_of x stem_tokens = ap (λ n. take n ms) size ∙ ap (take (length h.stem)) stands ∙ taken h.stem more ∙ sym one.marks in
        sym (count_from x stem_tokens) ∙ ap (λ l. count (drop (before (Actions ∷ []) l) l)) (sym stem)

    cut_words : (n : Narration) (t : Text n (straight x ms s)) → stem_words ++ end ∷ [] ≡ spell (cut t.written (stem_count stem_words))
    cut_words n t = by (one_front (spell t.written) (words_of t.rest) stem_words (body_words ++ end ∷ []) words) where
      words : spell t.written ++ words_of t.rest ≡ stem_words ++ (body_words ++ end ∷ [])
      words = sym (words_begun t.tokens t.rest (spell t.written) t.begins) ∙ words_one unique (straight x ms s) (stem_words ++ (body_words ++ end ∷ [])) t.tokens straight_reads t.lexes

      is : IsNarration (told t.written)
      is = subst IsNarration (sym t.tells) t.valid

      stop : NoStop stem_words
      stop = no_stop stem_tokens one.first_goes

      closed : AreClosed stem_words
      closed = closed_words x stem_tokens one.first_goes (subst IsClosed (sym one.marks) h.closed)

      plain : NoActions body_words
      plain = no_actions x two.others (subst (HasNone arm_ends) (sym two.later) p.plain)

      by : ((m : List Word) × (stem_words ≡ spell t.written ++ m) × (words_of t.rest ≡ m ++ (body_words ++ end ∷ []))) ⊎ ((m : List Word) × (spell t.written ≡ stem_words ++ m) × (body_words ++ end ∷ [] ≡ m ++ words_of t.rest))
          → stem_words ++ end ∷ [] ≡ spell (cut t.written (stem_count stem_words))
      by (inl (m, e, f)) = absurd (past_end t.written stem_words body_words (words_of t.rest) is stop closed plain words m e)
      by (inr (m, e, f)) = stem_front t.written stem_words body_words (words_of t.rest) is stop closed plain words m e f

    -- the stem is the text of the narration's first actions
    pub stem_text : (n : Narration) → Text n (straight x ms s) → Text (stem_of n (stem_actions ms)) (take (stem_end ms) x)
    stem_text n t =
        let is : IsNarration (told t.written) = subst IsNarration (sym t.tells) t.valid in
        let fit : fits 64 (told t.written) ≡ true = ap (fits 64) t.tells ∙ t.fit in
        let text = cut_text t.written (stem_count stem_words) (take (stem_end ms) x) is fit (subst (Reads (take (stem_end ms) x)) (cut_words n t) stem_reads) in
        subst (λ k. Text (stem_of n k) (take (stem_end ms) x)) count_is (subst (λ m. Text (stem_of m (stem_count stem_words)) (take (stem_end ms) x)) t.tells text)
