-- What labels hold, by the values of their entries' variables.
use Rattle.std.proofs.Common.{◌≡◌, ℕ, zero, suc, ◌+◌, List, [], ◌∷◌, ◌++◌, length, map, drop, Bool, true, false, not, cond, Option, Some, None, refl, sym, ap, ◌∙◌, subst, arith, length-append}
use Rattle.std.specs.Prelude.{slice_get}
use Rattle.std.specs.List.{AllByRecursion}
use Rattle.std.proofs.lemmas.List.{append-nil}
use Rattle.anb_lemmas.proofs.Lists.{drop_at_got}
use Rattle.anb_term.specs.Tree.{Tree, trees_of}
use Rattle.anb_term.specs.View.{tree_of}
use Rattle.anb_term.proofs.Lists.{slice_get-there}
use Rattle.anb_plays.specs.Plans.{Event, know, fresh, send, recv, known}
use Rattle.anb_plays.specs.Honest.{heard}
use Rattle.anb_close.specs.declared.entry.Entry.{Entry}
use Rattle.anb_close.specs.declared.entry.Origin.{Origin}
use Rattle.anb_close.specs.declared.entry.Origin.TheVariants.{Label, Part}
use Rattle.anb_close.specs.Entries.{terms_of, labels_of, is_label, OriginFits, Follow}
use Rattle.anb_close.proofs.Growing.{labels_append}
use Rattle.anb_basis.specs.Checks.{trues}
use Rattle.anb_accept.specs.Taking.{later, later_with, labels, labels_with}
use Rattle.anb_unify.specs.Substitutions.{KeepsNames, AreNamed}
use Rattle.anb_accept.specs.Equations.{is_own, is_heard, own_at, heard_at, own_equations, heard_variables, later_heard, heard_labels}
use Rattle.anb_unify.specs.Equations.{EquationValue, Solves}
use Rattle.anb_unify.proofs.Putting.{named_stays}

-- labels with arrivals in the places of those that are heard
abbrev pub filled : List Tree → List Bool → List Tree → List Tree
filled [] hs xs = []
filled (t ∷ ts) [] xs = []
filled (t ∷ ts) (false ∷ hs) xs = t ∷ filled ts hs xs
filled (t ∷ ts) (true ∷ hs) [] = []
filled (t ∷ ts) (true ∷ hs) (x ∷ xs) = x ∷ filled ts hs xs

known_filled : (ks ts : List Tree) (hs : List Bool) (xs : List Tree) → filled (ks ++ ts) (map (λ t. false) ks ++ hs) xs ≡ ks ++ filled ts hs xs
known_filled [] ts hs xs = refl
known_filled (k ∷ ks) ts hs xs = ap (λ l. k ∷ l) (known_filled ks ts hs xs)

later_filled : (es : List Event) (xs : List Tree) → filled (later es) (later_heard es) xs ≡ later_with es xs
later_filled [] xs = refl
later_filled (know t ∷ es) xs = later_filled es xs
later_filled (fresh t ∷ es) xs = ap (λ l. t ∷ l) (later_filled es xs)
later_filled (send t ∷ es) xs = later_filled es xs
later_filled (recv t ∷ es) [] = refl
later_filled (recv t ∷ es) (x ∷ xs) = ap (λ l. x ∷ l) (later_filled es xs)

pub labels_filled : (plan : List Event) (xs : List Tree) → filled (labels plan) (heard_labels plan) xs ≡ labels_with plan xs
labels_filled plan xs = known_filled (known plan) (later plan) (later_heard plan) xs ∙ ap (λ l. known plan ++ l) (later_filled plan xs)

later_trues : (es : List Event) → trues (later_heard es) ≡ length (heard es)
later_trues [] = refl
later_trues (know t ∷ es) = later_trues es
later_trues (fresh t ∷ es) = later_trues es
later_trues (send t ∷ es) = later_trues es
later_trues (recv t ∷ es) = ap suc (later_trues es)

known_trues : (ks : List Tree) (hs : List Bool) → trues (map (λ t. false) ks ++ hs) ≡ trues hs
known_trues [] hs = refl
known_trues (k ∷ ks) hs = known_trues ks hs

pub labels_trues : (plan : List Event) → trues (heard_labels plan) ≡ length (heard plan)
labels_trues plan = known_trues (known plan) (later_heard plan) ∙ later_trues plan

later_long : (es : List Event) → length (later_heard es) ≡ length (later es)
later_long [] = refl
later_long (know t ∷ es) = later_long es
later_long (fresh t ∷ es) = ap suc (later_long es)
later_long (send t ∷ es) = later_long es
later_long (recv t ∷ es) = ap suc (later_long es)

known_long : (ks ts : List Tree) (hs : List Bool) → length hs ≡ length ts → length (map (λ t. false) ks ++ hs) ≡ length (ks ++ ts)
known_long [] ts hs e = e
known_long (k ∷ ks) ts hs e = ap suc (known_long ks ts hs e)

pub labels_long : (plan : List Event) → length (heard_labels plan) ≡ length (labels plan)
labels_long plan = known_long (known plan) (later plan) (later_heard plan) (later_long plan)

-- ---- entries as the labels that they are, with their terms

abbrev labelled_by : Origin → Tree → Option Tree
labelled_by (Label n) t = Some t
labelled_by (Part o j ks i) t = None

abbrev labelled : List Entry → List (Option Tree)
labelled [] = []
labelled (e ∷ es) = labelled_by e.origin (tree_of e.term) ∷ labelled es

abbrev own_list : List Bool → ℕ → List (Option Tree) → List EquationValue
own_list hs k [] = []
own_list hs k (None ∷ ls) = own_list hs (k + 1) ls
own_list [] k (Some t ∷ ls) = []
own_list (false ∷ hs) k (Some t ∷ ls) = record { variable = k; term = t } ∷ own_list hs (k + 1) ls
own_list (true ∷ hs) k (Some t ∷ ls) = own_list hs (k + 1) ls

abbrev heard_list : ℕ → List Bool → ℕ → List (Option Tree) → List ℕ
heard_list names hs k [] = []
heard_list names hs k (None ∷ ls) = heard_list names hs (k + 1) ls
heard_list names [] k (Some t ∷ ls) = []
heard_list names (false ∷ hs) k (Some t ∷ ls) = heard_list names hs (k + 1) ls
heard_list names (true ∷ hs) k (Some t ∷ ls) = (names + k) ∷ heard_list names hs (k + 1) ls

abbrev terms_in : List (Option Tree) → List Tree
terms_in [] = []
terms_in (None ∷ ls) = terms_in ls
terms_in (Some t ∷ ls) = t ∷ terms_in ls

-- the values of the variables of labels
abbrev values_in : ℕ → (ℕ → Tree) → ℕ → List (Option Tree) → List Tree
values_in names put k [] = []
values_in names put k (None ∷ ls) = values_in names put (k + 1) ls
values_in names put k (Some t ∷ ls) = put (names + k) ∷ values_in names put (k + 1) ls

pub label_values : ℕ → (ℕ → Tree) → ℕ → List Entry → List Tree
label_values names put k es = values_in names put k (labelled es)

labels_step : (o : Origin) (t : Tree) (es : List Entry) → labels_of es ≡ terms_in (labelled es) → cond (is_label o) (t ∷ labels_of es) (labels_of es) ≡ terms_in (labelled_by o t ∷ labelled es)
labels_step (Label n) t es h = ap (λ l. t ∷ l) h
labels_step (Part o j ks i) t es h = h

labels_are : (es : List Entry) → labels_of es ≡ terms_in (labelled es)
labels_are [] = refl
labels_are (e ∷ es) = labels_step e.origin (tree_of e.term) es (labels_are es)

count_step : (o : Origin) (before : List Entry) (e : Entry) (n : ℕ) → e.origin ≡ o → n ≡ length (labels_of before)
    → cond (is_label o) (n + 1) n ≡ length (labels_of (before ++ e ∷ []))
count_step (Label m) before e n is c =
    let l : labels_of (before ++ e ∷ []) ≡ labels_of before ++ tree_of e.term ∷ [] = labels_append before (e ∷ []) ∙ ap (λ x. labels_of before ++ cond (is_label x) (tree_of e.term ∷ []) []) is in
    omega (arith, c, ap length l, length-append (labels_of before) (tree_of e.term ∷ []))
count_step (Part o j ks i) before e n is c =
    let l : labels_of (before ++ e ∷ []) ≡ labels_of before ++ [] = labels_append before (e ∷ []) ∙ ap (λ x. labels_of before ++ cond (is_label x) (tree_of e.term ∷ []) []) is in
    omega (arith, c, ap length l, ap length (append-nil (labels_of before)))

module _ (names : ℕ) (H : List Bool) where
  -- both lists by the flags from here on
  record Same (n k : ℕ) (es : List Entry) : Type 0 where
    own : own_equations H k es ≡ own_list (drop n H) k (labelled es)
    heard : heard_variables names H k es ≡ heard_list names (drop n H) k (labelled es)

  flag_own : (b : Bool) (hs : List Bool) (k : ℕ) (t : Tree) (qs : List EquationValue) (ls : List (Option Tree)) → qs ≡ own_list hs (k + 1) ls
      → cond (not b) (record { variable = k; term = t } ∷ []) [] ++ qs ≡ own_list (b ∷ hs) k (Some t ∷ ls)
  flag_own true hs k t qs ls e = e
  flag_own false hs k t qs ls e = ap (λ l. record { variable = k; term = t } ∷ l) e

  flag_heard : (b : Bool) (hs : List Bool) (k : ℕ) (t : Tree) (qs : List ℕ) (ls : List (Option Tree)) → qs ≡ heard_list names hs (k + 1) ls
      → cond b ((names + k) ∷ []) [] ++ qs ≡ heard_list names (b ∷ hs) k (Some t ∷ ls)
  flag_heard true hs k t qs ls e = ap (λ l. (names + k) ∷ l) e
  flag_heard false hs k t qs ls e = e

  step : (o : Origin) (n k : ℕ) (e : Entry) (es : List Entry) → e.origin ≡ o → (is_label o ≡ true → (m : ℕ) → o ≡ Label m → m ≡ n) → n + length (cond (is_label o) (tree_of e.term ∷ labels_of es) (labels_of es)) ≡ length H
      → Same (cond (is_label o) (n + 1) n) (k + 1) es → Same n k (e ∷ es)
  step (Label m) n k e es is fits long rest =
      let m_is : m ≡ n = fits refl m refl in
      let b = slice_get-there H n (omega arith) in
      let split = drop_at_got H n b.0 b.1 in
      let at : slice_get H m ≡ Some b.0 = ap (slice_get H) m_is ∙ b.1 in
      record {
        own = ap (λ o. cond (is_own H o) (record { variable = k; term = tree_of e.term } ∷ []) [] ++ own_equations H (k + 1) es) is
            ∙ ap (λ f. cond (own_at f) (record { variable = k; term = tree_of e.term } ∷ []) [] ++ own_equations H (k + 1) es) at
            ∙ flag_own b.0 (drop (n + 1) H) k (tree_of e.term) (own_equations H (k + 1) es) (labelled es) rest.own
            ∙ ap (λ l. own_list l k (Some (tree_of e.term) ∷ labelled es)) (sym split)
            ∙ ap (λ o. own_list (drop n H) k (labelled_by o (tree_of e.term) ∷ labelled es)) (sym is);
        heard = ap (λ o. cond (is_heard H o) ((names + k) ∷ []) [] ++ heard_variables names H (k + 1) es) is
            ∙ ap (λ f. cond (heard_at f) ((names + k) ∷ []) [] ++ heard_variables names H (k + 1) es) at
            ∙ flag_heard b.0 (drop (n + 1) H) k (tree_of e.term) (heard_variables names H (k + 1) es) (labelled es) rest.heard
            ∙ ap (λ l. heard_list names l k (Some (tree_of e.term) ∷ labelled es)) (sym split)
            ∙ ap (λ o. heard_list names (drop n H) k (labelled_by o (tree_of e.term) ∷ labelled es)) (sym is);
      }
  step (Part o j ks i) n k e es is fits long rest = record {
    own = ap (λ x. cond (is_own H x) (record { variable = k; term = tree_of e.term } ∷ []) [] ++ own_equations H (k + 1) es) is ∙ rest.own ∙ ap (λ x. own_list (drop n H) k (labelled_by x (tree_of e.term) ∷ labelled es)) (sym is);
    heard = ap (λ x. cond (is_heard H x) ((names + k) ∷ []) [] ++ heard_variables names H (k + 1) es) is ∙ rest.heard ∙ ap (λ x. heard_list names (drop n H) k (labelled_by x (tree_of e.term) ∷ labelled es)) (sym is);
  }

  label_fits : (o : Origin) (ts : List Tree) (n : ℕ) (t : Tree) → OriginFits ts n o t → (m : ℕ) → o ≡ Label m → m ≡ n
  label_fits (Label k) ts n t f m e = let s : k ≡ m = cc in sym s ∙ f
  label_fits (Part o j ks i) ts n t f m e = cc

  long_step : (b : Bool) (n : ℕ) (t : Tree) (ls : List Tree) (l : ℕ) → n + length (cond b (t ∷ ls) ls) ≡ l → cond b (n + 1) n + length ls ≡ l
  long_step true n t ls l e = omega arith
  long_step false n t ls l e = e

  same : (before es : List Entry) (n k : ℕ) → Follow before es → n ≡ length (labels_of before) → n + length (labels_of es) ≡ length H → Same n k es
  same before [] n k f c long = record { own = refl; heard = refl }
  same before (e ∷ es) n k f c long =
      let count = count_step e.origin before e n refl c in
      let fits : (m : ℕ) → e.origin ≡ Label m → m ≡ n = λ m is. (label_fits e.origin (terms_of before) (length (labels_of before)) (tree_of e.term) f.0 m is ∙ sym c) in
      step e.origin n k e es refl (λ l m is. fits m is) long
      (same (before ++ e ∷ []) es (cond (is_label e.origin) (n + 1) n) (k + 1) f.1 count (long_step (is_label e.origin) n (tree_of e.term) (labels_of es) (length H) long))

-- ---- on these lists

module _ (names : ℕ) (put : ℕ → Tree) (keeps : KeepsNames names put) where
  -- where the values of labels' variables are the labels' values, what isn't heard is solved, and what is heard is what came
  record Solved (hs : List Bool) (k : ℕ) (ls : List (Option Tree)) (xs : List Tree) : Type 0 where
    own : AllByRecursion (Solves names put) (own_list hs k ls)
    heard : map put (heard_list names hs k ls) ≡ xs

  solved : (hs : List Bool) (k : ℕ) (ls : List (Option Tree)) (xs : List Tree) → length hs ≡ length (terms_in ls) → trues hs ≡ length xs → AreNamed names (trees_of (terms_in ls))
      → values_in names put k ls ≡ filled (terms_in ls) hs xs → Solved hs k ls xs
  solved [] k [] [] long count named e = record { own = tt; heard = refl }
  solved [] k [] (x ∷ xs) long count named e = absurd (omega arith)
  solved (h ∷ hs) k [] xs long count named e = absurd (omega arith)
  solved hs k (None ∷ ls) xs long count named e = let r = solved hs (k + 1) ls xs long count named e in record { own = r.own; heard = r.heard }
  solved [] k (Some t ∷ ls) xs long count named e = absurd (omega arith)
  solved (false ∷ hs) k (Some t ∷ ls) xs long count named e =
      let a : put (names + k) ≡ t = cc in
      let b : values_in names put (k + 1) ls ≡ filled (terms_in ls) hs xs = cc in
      let r = solved hs (k + 1) ls xs (omega arith) count named.1 b in
      record { own = (a ∙ sym (named_stays names put keeps t named.0), r.own); heard = r.heard }
  solved (true ∷ hs) k (Some t ∷ ls) [] long count named e = absurd (omega arith)
  solved (true ∷ hs) k (Some t ∷ ls) (x ∷ xs) long count named e =
      let a : put (names + k) ≡ x = cc in
      let b : values_in names put (k + 1) ls ≡ filled (terms_in ls) hs xs = cc in
      let r = solved hs (k + 1) ls xs (omega arith) (omega arith) named.1 b in
      record { own = r.own; heard = ap (λ y. y ∷ map put (heard_list names hs (k + 1) ls)) a ∙ ap (λ l. x ∷ l) r.heard }

  refilled : (hs : List Bool) (k : ℕ) (ls : List (Option Tree)) → length hs ≡ length (terms_in ls) → AreNamed names (trees_of (terms_in ls)) → AllByRecursion (Solves names put) (own_list hs k ls)
      → values_in names put k ls ≡ filled (terms_in ls) hs (map put (heard_list names hs k ls))
  refilled hs k [] long named own = refl
  refilled hs k (None ∷ ls) long named own = refilled hs (k + 1) ls long named own
  refilled [] k (Some t ∷ ls) long named own = absurd (omega arith)
  refilled (false ∷ hs) k (Some t ∷ ls) long named own =
      ap (λ y. y ∷ values_in names put (k + 1) ls) (own.0 ∙ named_stays names put keeps t named.0) ∙ ap (λ l. t ∷ l) (refilled hs (k + 1) ls (omega arith) named.1 own.1)
  refilled (true ∷ hs) k (Some t ∷ ls) long named own = ap (λ l. put (names + k) ∷ l) (refilled hs (k + 1) ls (omega arith) named.1 own)

-- the value at a label
record ValueAt (names : ℕ) (put : ℕ → Tree) (n k j m : ℕ) (es : List Entry) : Type 0 where
  at : ℕ
  is : m ≡ n + at
  here : slice_get (values_in names put k (labelled es)) at ≡ Some (put (names + (k + j)))

first_value : (names : ℕ) (put : ℕ → Tree) (o : Origin) (n k m : ℕ) (e : Entry) (es : List Entry) → e.origin ≡ o → o ≡ Label m → m ≡ n → ValueAt names put n k 0 m (e ∷ es)
first_value names put (Label l) n k m e es is l_is m_is =
    let z : k + 0 ≡ k = omega arith in
    record {
      at = 0;
      is = omega arith;
      here = ap (λ o. slice_get (values_in names put k (labelled_by o (tree_of e.term) ∷ labelled es)) 0) is ∙ ap (λ x. Some (put (names + x))) (sym z);
    }
first_value names put (Part o j ks i) n k m e es is l_is m_is = cc

next_value : (names : ℕ) (put : ℕ → Tree) (o : Origin) (n k j m : ℕ) (e : Entry) (es : List Entry) → e.origin ≡ o → ValueAt names put (cond (is_label o) (n + 1) n) (k + 1) j m es → ValueAt names put n k (suc j) m (e ∷ es)
next_value names put (Label l) n k j m e es is v =
    let z : k + 1 + j ≡ k + suc j = omega arith in
    record {
      at = suc v.at;
      is = omega (arith, v.is);
      here = ap (λ o. slice_get (values_in names put k (labelled_by o (tree_of e.term) ∷ labelled es)) (suc v.at)) is ∙ v.here ∙ ap (λ x. Some (put (names + x))) z;
    }
next_value names put (Part o i ks l) n k j m e es is v =
    let z : k + 1 + j ≡ k + suc j = omega arith in
    record {
      at = v.at;
      is = v.is;
      here = ap (λ o. slice_get (values_in names put k (labelled_by o (tree_of e.term) ∷ labelled es)) v.at) is ∙ v.here ∙ ap (λ x. Some (put (names + x))) z;
    }

fits_number : (o : Origin) (ts : List Tree) (n : ℕ) (t : Tree) → OriginFits ts n o t → (m : ℕ) → o ≡ Label m → m ≡ n
fits_number (Label k) ts n t f m e = let s : k ≡ m = cc in sym s ∙ f
fits_number (Part o j ks i) ts n t f m e = cc

value_at : (names : ℕ) (put : ℕ → Tree) (before es : List Entry) (n k j m : ℕ) (e : Entry) → Follow before es → n ≡ length (labels_of before) → slice_get es j ≡ Some e → e.origin ≡ Label m → ValueAt names put n k j m es
value_at names put before [] n k j m e f c at is = cc
value_at names put before (x ∷ es) n k zero m e f c at is =
    let s : x ≡ e = cc in
    let o : x.origin ≡ Label m = ap (λ (y : Entry). y.origin) s ∙ is in
    first_value names put x.origin n k m x es refl o (fits_number x.origin (terms_of before) (length (labels_of before)) (tree_of x.term) f.0 m o ∙ sym c)
value_at names put before (x ∷ es) n k (suc j) m e f c at is =
    next_value names put x.origin n k j m x es refl (value_at names put (before ++ x ∷ []) es (cond (is_label x.origin) (n + 1) n) (k + 1) j m e f.1 (count_step x.origin before x n refl c) at is)

pub label_value : (names : ℕ) (put : ℕ → Tree) (es : List Entry) (k m : ℕ) (e : Entry) → Follow [] es → slice_get es k ≡ Some e → e.origin ≡ Label m → slice_get (label_values names put 0 es) m ≡ Some (put (names + k))
unfolding label_values
label_value names put es k m e follow at is =
    let v = value_at names put [] es 0 0 k m e follow refl at is in
    let a : m ≡ v.at = omega (arith, v.is) in
    let b : 0 + k ≡ k = omega arith in
    ap (slice_get (values_in names put 0 (labelled es))) a ∙ v.here ∙ ap (λ x. Some (put (names + x))) b

values_long : (names : ℕ) (put : ℕ → Tree) (k : ℕ) (ls : List (Option Tree)) → length (values_in names put k ls) ≡ length (terms_in ls)
values_long names put k [] = refl
values_long names put k (None ∷ ls) = values_long names put (k + 1) ls
values_long names put k (Some t ∷ ls) = ap suc (values_long names put (k + 1) ls)

pub label_values_long : (names : ℕ) (put : ℕ → Tree) (es : List Entry) → length (label_values names put 0 es) ≡ length (labels_of es)
unfolding label_values
label_values_long names put es = values_long names put 0 (labelled es) ∙ sym (ap length (labels_are es))

-- what has the value of each label's variable is these values
module _ (names : ℕ) (put : ℕ → Tree) (vs : List Tree) where
  Holds : ℕ → ℕ → List Entry → Type 0
  Holds n k es = (j m : ℕ) (e : Entry) → slice_get es j ≡ Some e → e.origin ≡ Label m → slice_get vs m ≡ Some (put (names + (k + j)))

  holds_on : (n k : ℕ) (e : Entry) (es : List Entry) (n' : ℕ) → Holds n k (e ∷ es) → Holds n' (k + 1) es
  unfolding Holds
  holds_on n k e es n' h j m x at is = let z : k + suc j ≡ k + 1 + j = omega arith in subst (λ y. slice_get vs m ≡ Some (put (names + y))) z (h (suc j) m x at is)

  held_step : (o : Origin) (n k : ℕ) (e : Entry) (es : List Entry) → e.origin ≡ o → ((m : ℕ) → o ≡ Label m → m ≡ n) → ((m : ℕ) → o ≡ Label m → slice_get vs m ≡ Some (put (names + k)))
      → drop (cond (is_label o) (n + 1) n) vs ≡ values_in names put (k + 1) (labelled es) → drop n vs ≡ values_in names put k (labelled (e ∷ es))
  held_step (Label m) n k e es is number here rest =
      let a : slice_get vs n ≡ Some (put (names + k)) = subst (λ x. slice_get vs x ≡ Some (put (names + k))) (number m refl) (here m refl) in
      drop_at_got vs n (put (names + k)) a ∙ ap (λ l. put (names + k) ∷ l) rest ∙ ap (λ o. values_in names put k (labelled_by o (tree_of e.term) ∷ labelled es)) (sym is)
  held_step (Part o j ks i) n k e es is number here rest = rest ∙ ap (λ o. values_in names put k (labelled_by o (tree_of e.term) ∷ labelled es)) (sym is)

  drop_none : (xs : List Tree) (n : ℕ) → n ≡ length xs → drop n xs ≡ []
  drop_none [] zero e = refl
  drop_none [] (suc n) e = refl
  drop_none (x ∷ xs) zero e = absurd (omega arith)
  drop_none (x ∷ xs) (suc n) e = drop_none xs n (omega arith)

  long_step_of : (b : Bool) (n : ℕ) (t : Tree) (ls : List Tree) (l : ℕ) → n + length (cond b (t ∷ ls) ls) ≡ l → cond b (n + 1) n + length ls ≡ l
  long_step_of true n t ls l e = omega arith
  long_step_of false n t ls l e = e

  held_from : (before es : List Entry) (n k : ℕ) → Follow before es → n ≡ length (labels_of before) → n + length (labels_of es) ≡ length vs → Holds n k es → drop n vs ≡ values_in names put k (labelled es)
  unfolding Holds
  held_from before [] n k f c long h = drop_none vs n (omega arith)
  held_from before (e ∷ es) n k f c long h =
      let z : k + 0 ≡ k = omega arith in
      held_step e.origin n k e es refl (λ m is. fits_number e.origin (terms_of before) (length (labels_of before)) (tree_of e.term) f.0 m is ∙ sym c)
      (λ m is. subst (λ y. slice_get vs m ≡ Some (put (names + y))) z (h 0 m e refl is))
      (held_from (before ++ e ∷ []) es (cond (is_label e.origin) (n + 1) n) (k + 1) f.1 (count_step e.origin before e n refl c) (long_step_of (is_label e.origin) n (tree_of e.term) (labels_of es) (length vs) long)
      (holds_on n k e es (cond (is_label e.origin) (n + 1) n) h))

  pub values_held : (es : List Entry) → Follow [] es → length vs ≡ length (labels_of es) → ((k m : ℕ) (e : Entry) → slice_get es k ≡ Some e → e.origin ≡ Label m → slice_get vs m ≡ Some (put (names + k))) → label_values names put 0 es ≡ vs
  unfolding Holds label_values
  values_held es follow long h =
      sym (held_from [] es 0 0 follow refl (omega (arith, long)) (λ j m e at is. let z : 0 + j ≡ j = omega arith in subst (λ y. slice_get vs m ≡ Some (put (names + y))) (sym z) (h j m e at is)))

heard_count : (names : ℕ) (hs : List Bool) (k : ℕ) (ls : List (Option Tree)) → length hs ≡ length (terms_in ls) → length (heard_list names hs k ls) ≡ trues hs
heard_count names [] k [] long = refl
heard_count names (h ∷ hs) k [] long = absurd (omega arith)
heard_count names hs k (None ∷ ls) long = heard_count names hs (k + 1) ls long
heard_count names [] k (Some t ∷ ls) long = absurd (omega arith)
heard_count names (false ∷ hs) k (Some t ∷ ls) long = heard_count names hs (k + 1) ls (omega arith)
heard_count names (true ∷ hs) k (Some t ∷ ls) long = ap suc (heard_count names hs (k + 1) ls (omega arith))

-- ---- of entries

module _ (names : ℕ) (H : List Bool) (es : List Entry) (follow : Follow [] es) (long : length H ≡ length (labels_of es)) (named : AreNamed names (trees_of (labels_of es))) where
  here : Same names H 0 0 es
  here = same names H [] es 0 0 follow refl (omega arith)

  list_long : length H ≡ length (terms_in (labelled es))
  list_long = long ∙ ap length (labels_are es)

  list_named : AreNamed names (trees_of (terms_in (labelled es)))
  list_named = subst (λ l. AreNamed names (trees_of l)) (labels_are es) named

  pub heard_many : length (heard_variables names H 0 es) ≡ trues H
  heard_many = ap length here.heard ∙ heard_count names H 0 (labelled es) list_long

  module _ (put : ℕ → Tree) (keeps : KeepsNames names put) where
    pub own_solved : (xs : List Tree) → trues H ≡ length xs → label_values names put 0 es ≡ filled (labels_of es) H xs
        → AllByRecursion (Solves names put) (own_equations H 0 es) × (map put (heard_variables names H 0 es) ≡ xs)
    unfolding label_values
    own_solved xs count e =
        let r = solved names put keeps H 0 (labelled es) xs list_long count list_named (e ∙ ap (λ l. filled l H xs) (labels_are es)) in
        (subst (AllByRecursion (Solves names put)) (sym here.own) r.own, ap (map put) here.heard ∙ r.heard)

    pub own_filled : AllByRecursion (Solves names put) (own_equations H 0 es) → label_values names put 0 es ≡ filled (labels_of es) H (map put (heard_variables names H 0 es))
    unfolding label_values
    own_filled own =
        refilled names put keeps H 0 (labelled es) list_long list_named (subst (AllByRecursion (Solves names put)) here.own own)
        ∙ ap (λ l. filled l H (map put (heard_list names H 0 (labelled es)))) (sym (labels_are es)) ∙ ap (λ l. filled (labels_of es) H (map put l)) (sym here.heard)
