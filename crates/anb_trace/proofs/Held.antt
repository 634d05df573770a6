-- Values that are held, one register and one key at a time.
use Rattle.std.proofs.Common.{◌≡◌, ◌≤◌, ◌+◌, ◌-◌, ◌∙◌, ℕ, zero, suc, List, [], ◌∷◌, ◌++◌, length, take, drop, map, Bool, true, false, cond, get_or, nat_lt, Option, Some, None, option_map, Result, refl, sym, ap, subst, arith, append_assoc, length-take}
use Rattle.std.specs.Prelude.{IfOk, option_and_then, slice_get}
use Rattle.std.specs.Str.{bytes_eq}
use Rattle.std.proofs.lemmas.Bool.Decides.{nat_tests}
use Rattle.std.proofs.lemmas.List.{drop_all, length-map}
use Rattle.anb_base.specs.declared.content.NoMemory.{NoMemory}
use Rattle.anb_base.specs.declared.content.Suite.{Suite}
use Rattle.anb_lemmas.proofs.Lists.{drop_at_got, get_last}
use Rattle.anb_lemmas.proofs.Results.{if_ok_map}
use Rattle.anb_format.specs.Formats.{FormatValue}
use Rattle.anb_algebra.specs.ByteMeaning.{undone_bytes}
use Rattle.anb_term.specs.declared.term.Op.{Op}
use Rattle.anb_term.specs.declared.term.Op.TheVariants.{Hash, Mac, Seal, Wrap, Format}
use Rattle.anb_term.specs.declared.term.Term.{Term}
use Rattle.anb_term.specs.declared.term.Term.TheVariants.{Node}
use Rattle.anb_term.specs.Operator.{arity, keys}
use Rattle.anb_term.specs.Lawful.{picked}
use Rattle.anb_term.specs.Tree.{Tree, list_of, node, tree_eqb, trees_of}
use Rattle.anb_term.specs.TreeSame.{list_of-trees_of, tree_itself, tree_same}
use Rattle.anb_term.specs.View.{tree_of}
use Rattle.anb_term.proofs.Lists.{map-drop, map-take, one_term, slice_get-at}
use Rattle.anb_code.specs.CodeValue.{CodeValue}
use Rattle.anb_trace.specs.Differences.{Difference, held, held_each, opened, unlocked}
use Rattle.anb_trace.specs.Inside.{HasArity, apart_in_both, first_apart, inner_at}
use Rattle.anb_trace.proofs.Opening.{absent, undone_alike}
use Rattle.anb_trace.proofs.Placing.{all_taken}

-- behind the last one
pub past : {A : Type 0} (xs : List A) (i : ℕ) → slice_get xs i ≡ None → drop i xs ≡ []
past [] zero none = refl
past [] (suc i) none = refl
past (x ∷ xs) zero none = cc
past (x ∷ xs) (suc i) none = past xs i none

-- ---- registers

pub nothing_held : (terms : List Tree) (t : Tree) → held terms [] t ≡ None
nothing_held [] t = refl
nothing_held (u ∷ terms) t = refl

pub is_one : (x y : Term) → x ≡ y → tree_eqb (tree_of x) (tree_of y) ≡ true
is_one x y e = ap (λ (z : Term). tree_eqb (tree_of x) (tree_of z)) (sym e) ∙ tree_itself (tree_of x)

pub is_another : (x y : Term) → (x ≡ y → ⊥) → tree_eqb (tree_of x) (tree_of y) ≡ false
is_another x y apart = by (tree_eqb (tree_of x) (tree_of y)) refl where
  by : (b : Bool) → tree_eqb (tree_of x) (tree_of y) ≡ b → tree_eqb (tree_of x) (tree_of y) ≡ false
  by true e = absurd (apart (one_term x y (tree_same (tree_of x) (tree_of y) e)))
  by false e = e

module _ (terms : List Tree) (table : List (List ℕ)) (t : Tree) (i : ℕ) where
  held_step : (u : Tree) (bytes : List ℕ) → slice_get terms i ≡ Some u → slice_get table i ≡ Some bytes
      → held (drop i terms) (drop i table) t ≡ cond (tree_eqb u t) (Some bytes) (held (drop (i + 1) terms) (drop (i + 1) table) t)
  held_step u bytes p q =
      ap (λ (ts : List Tree). held ts (drop i table) t) (drop_at_got terms i u p) ∙ ap (λ (vs : List (List ℕ)). held (u ∷ drop (i + 1) terms) vs t) (drop_at_got table i bytes q)

  pub held_here : (u : Tree) (bytes : List ℕ) → slice_get terms i ≡ Some u → slice_get table i ≡ Some bytes → tree_eqb u t ≡ true → held (drop i terms) (drop i table) t ≡ Some bytes
  held_here u bytes p q is = held_step u bytes p q ∙ ap (λ (b : Bool). cond b (Some bytes) (held (drop (i + 1) terms) (drop (i + 1) table) t)) is

  pub held_behind : (u : Tree) (bytes : List ℕ) → slice_get terms i ≡ Some u → slice_get table i ≡ Some bytes → tree_eqb u t ≡ false
      → held (drop i terms) (drop i table) t ≡ held (drop (i + 1) terms) (drop (i + 1) table) t
  held_behind u bytes p q other = held_step u bytes p q ∙ ap (λ (b : Bool). cond b (Some bytes) (held (drop (i + 1) terms) (drop (i + 1) table) t)) other

  pub held_past : slice_get terms i ≡ None → held (drop i terms) (drop i table) t ≡ None
  held_past none = ap (λ (ts : List Tree). held ts (drop i table) t) (past terms i none)

  pub held_none : length table ≤ i → held (drop i terms) (drop i table) t ≡ None
  held_none over = ap (λ (vs : List (List ℕ)). held (drop i terms) vs t) (drop_all i table over) ∙ nothing_held (drop i terms) t

-- ---- keys

pub each_first : (o : Option (List (List ℕ))) → option_map (λ vs. [] ++ vs) o ≡ o
each_first None = refl
each_first (Some vs) = refl

module _ (terms : List Tree) (table : List (List ℕ)) where
  pub each_next : (k : Tree) (ks : List Tree) (bytes : List ℕ) (out : List (List ℕ)) → held terms table k ≡ Some bytes
      → option_map (λ vs. out ++ vs) (held_each terms table (k ∷ ks)) ≡ option_map (λ vs. (out ++ bytes ∷ []) ++ vs) (held_each terms table ks)
  each_next k ks bytes out is = rw is (by (held_each terms table ks)) where
    by : (o : Option (List (List ℕ))) → option_map (λ vs. out ++ vs) (option_map (λ rest. bytes ∷ rest) o) ≡ option_map (λ vs. (out ++ bytes ∷ []) ++ vs) o
    by None = refl
    by (Some vs) = ap Some (sym (append_assoc out (bytes ∷ []) vs))

  pub each_none : (k : Tree) (ks : List Tree) (out : List (List ℕ)) → held terms table k ≡ None → option_map (λ vs. out ++ vs) (held_each terms table (k ∷ ks)) ≡ None
  each_none k ks out none = rw none refl

  pub each_long : (ks : List Tree) (vs : List (List ℕ)) → held_each terms table ks ≡ Some vs → length vs ≡ length ks
  each_long [] vs e = let is : [] ≡ vs = cc in sym (ap length is)
  each_long (k ∷ ks) vs e = by (held terms table k) (held_each terms table ks) refl (λ rest is. each_long ks rest is) e where
    by : (a : Option (List ℕ)) (b : Option (List (List ℕ))) → held_each terms table ks ≡ b → ((rest : List (List ℕ)) → held_each terms table ks ≡ Some rest → length rest ≡ length ks)
        → option_and_then (λ bytes. option_map (λ rest. bytes ∷ rest) b) a ≡ Some vs → length vs ≡ suc (length ks)
    by None b is later e = cc
    by (Some bytes) None is later e = cc
    by (Some bytes) (Some rest) is later e = let all : bytes ∷ rest ≡ vs = cc in sym (ap length all) ∙ ap suc (later rest is)

-- one key, or two, stand in front of what they open
abbrev pub places : List ℕ
places = 0 ∷ 1 ∷ []

pub all_places : (n : ℕ) → take (n - 0) places ≡ take n places
all_places n = let z : n - 0 ≡ n = omega arith in ap (λ (k : ℕ). take k places) z

keys_picked : (ks : List (List ℕ)) (bytes : List ℕ) (n : ℕ) → length ks ≡ n → n ≤ 2 → picked (ks ++ bytes ∷ []) (take n places) ≡ ks
keys_picked [] bytes n e few = rw (sym e) refl
keys_picked (k ∷ []) bytes n e few = rw (sym e) refl
keys_picked (k ∷ l ∷ []) bytes n e few = rw (sym e) refl
keys_picked (k ∷ l ∷ m ∷ ks) bytes n e few = absurd (omega (arith, e, few))

few_keys : (o : Op) → keys o ≤ 2
few_keys Hash = omega arith
few_keys Mac = omega arith
few_keys Seal = omega arith
few_keys Wrap = omega arith
few_keys (Format i a) = omega arith

-- the terms of the first operands
pub first_terms : (k n : ℕ) (xs : List Term) → k ≡ n → map tree_of (take k xs) ≡ take n (map tree_of xs)
first_terms k n xs e = ap (λ (j : ℕ). map tree_of (take j xs)) e ∙ map-take tree_of n xs

module _ (code : CodeValue) (terms : List Tree) (table : List (List ℕ)) (o : Op) (us : List Tree) (bytes : List ℕ) where
  -- what is undone behind its keys
  pub unlocked_is : {X : Type 0} (f : X → List (List ℕ)) (r : Result (Option X) NoMemory) (formats : List FormatValue) (suite : Suite) (ks behind_keys : List (List ℕ)) (n : ℕ) (at : List ℕ)
      → held_each terms table (take (keys o) us) ≡ Some ks → behind_keys ≡ ks ++ bytes ∷ [] → n ≡ length ks → formats ≡ code.formats → suite ≡ code.suite
      → ((v : List ℕ) → slice_get behind_keys n ≡ Some v → IfOk r (λ ps. option_map f ps ≡ undone_bytes formats suite o (picked behind_keys at) v))
      → at ≡ take n places → IfOk r (λ ps. option_map f ps ≡ unlocked code terms table o us bytes)
  unlocked_is f r formats suite ks behind_keys n at held put count same same_suite undone at_is =
      let there : slice_get behind_keys n ≡ Some bytes = ap (λ (l : List (List ℕ)). slice_get l n) put ∙ ap (slice_get (ks ++ bytes ∷ [])) count ∙ get_last ks bytes in
      let few : n ≤ 2 = omega (arith, count, each_long terms table (take (keys o) us) ks held, length-take (keys o) us, few_keys o) in
      let front : picked behind_keys at ≡ ks
      = ap (λ (l : List (List ℕ)). picked l at) put ∙ ap (picked (ks ++ bytes ∷ [])) at_is ∙ keys_picked ks bytes n (sym count) few in
      let is : undone_bytes formats suite o (picked behind_keys at) bytes ≡ unlocked code terms table o us bytes
      = undone_alike formats code.formats suite code.suite o (picked behind_keys at) bytes same same_suite
      ∙ ap (λ (l : List (List ℕ)). undone_bytes code.formats code.suite o l bytes) front
      ∙ sym (ap (λ (h : Option (List (List ℕ))). option_and_then (λ l. undone_bytes code.formats code.suite o l bytes) h) held) in
      if_ok_map r _ _ (λ ps e. e ∙ is) (undone bytes there)

-- ---- parts

module _ (ts : List Tree) (xs ys : List (List ℕ)) (i : ℕ) where
  pub apart_past : slice_get ts i ≡ None → first_apart (drop i ts) (drop i xs) (drop i ys) ≡ None
  apart_past none = ap (λ (l : List Tree). first_apart l (drop i xs) (drop i ys)) (past ts i none)

  pub apart_no_due : slice_get xs i ≡ None → first_apart (drop i ts) (drop i xs) (drop i ys) ≡ None
  apart_no_due none = ap (λ (l : List (List ℕ)). first_apart (drop i ts) l (drop i ys)) (past xs i none) ∙ by (drop i ts) where
    by : (l : List Tree) → first_apart l [] (drop i ys) ≡ None
    by [] = refl
    by (t ∷ l) = refl

  pub apart_no_came : slice_get ys i ≡ None → first_apart (drop i ts) (drop i xs) (drop i ys) ≡ None
  apart_no_came none = ap (λ (l : List (List ℕ)). first_apart (drop i ts) (drop i xs) l) (past ys i none) ∙ by (drop i ts) (drop i xs) where
    by : (l : List Tree) (m : List (List ℕ)) → first_apart l m [] ≡ None
    by [] m = refl
    by (t ∷ l) [] = refl
    by (t ∷ l) (x ∷ m) = refl

  pub apart_step : (t : Tree) (x y : List ℕ) (b : Bool) → slice_get ts i ≡ Some t → slice_get xs i ≡ Some x → slice_get ys i ≡ Some y → bytes_eq x y ≡ b
      → first_apart (drop i ts) (drop i xs) (drop i ys) ≡ cond b (first_apart (drop (i + 1) ts) (drop (i + 1) xs) (drop (i + 1) ys)) (Some (record { term = t; due = x; came = y }))
  apart_step t x y b p q r same =
      ap (λ (l : List Tree). first_apart l (drop i xs) (drop i ys)) (drop_at_got ts i t p)
      ∙ ap (λ (l : List (List ℕ)). first_apart (t ∷ drop (i + 1) ts) l (drop i ys)) (drop_at_got xs i x q)
      ∙ ap (λ (l : List (List ℕ)). first_apart (t ∷ drop (i + 1) ts) (x ∷ drop (i + 1) xs) l) (drop_at_got ys i y r)
      ∙ ap (λ (c : Bool). cond c (first_apart (drop (i + 1) ts) (drop (i + 1) xs) (drop (i + 1) ys)) (Some (record { term = t; due = x; came = y }))) same

  module _ (t : Tree) (x y one other : List ℕ) (is_same : Bool) (p : slice_get ts i ≡ Some t) (q : slice_get xs i ≡ Some x) (r : slice_get ys i ≡ Some y)
      (first : one ≡ x) (second : other ≡ y) (told : is_same ≡ bytes_eq one other) where
    tells : (b : Bool) → is_same ≡ b → bytes_eq x y ≡ b
    tells b e = ap (λ (z : List ℕ). bytes_eq z y) (sym first) ∙ ap (bytes_eq one) (sym second) ∙ sym told ∙ e

    pub apart_same : is_same ≡ true → first_apart (drop i ts) (drop i xs) (drop i ys) ≡ first_apart (drop (i + 1) ts) (drop (i + 1) xs) (drop (i + 1) ys)
    apart_same e = apart_step t x y true p q r (tells true e)

    pub apart_here : (due came : List ℕ) → is_same ≡ false → due ≡ x → came ≡ y → first_apart (drop i ts) (drop i xs) (drop i ys) ≡ Some (record { term = t; due = due; came = came })
    apart_here due came e is_due is_came = apart_step t x y false p q r (tells false e) ∙ rw (is_due, is_came) refl

-- what `get` tells
pub past_so : {A : Type 0} (xs : List A) (i : ℕ) → false ≡ nat_lt i (length xs) → slice_get xs i ≡ None
past_so xs i e = absent xs i (sym e)

pub got_so : {A : Type 0} (xs : List A) (i : ℕ) (x : A) → true ≡ nat_lt i (length xs) → x ≡ get_or xs i x → slice_get xs i ≡ Some x
got_so xs i x e is = let below : nat_lt i (length xs) ≡ true = sym e in slice_get-at xs i x (grind (arith, nat_tests)) is

-- ---- a term that is an operator on operands

pub operands_long : (t : Term) (o : Op) (us : List Tree) (xs : List Term) → HasArity (tree_of t) → t ≡ Node o us → map tree_of xs ≡ us → length xs ≡ arity o
operands_long t o us xs has is same =
    let h : length (list_of (trees_of us)) ≡ arity o = subst (λ (x : Term). HasArity (tree_of x)) is has in
    sym (length-map xs tree_of) ∙ ap length same ∙ ap length (sym (list_of-trees_of us)) ∙ h

-- the terms of the other operands
pub last_terms : (k n : ℕ) (xs : List Term) (us : List Tree) → k ≡ n → map tree_of xs ≡ us → map tree_of (take (length xs - k) (drop k xs)) ≡ drop n us
last_terms k n xs us e same = ap (map tree_of) (all_taken k xs) ∙ map-drop tree_of k xs ∙ ap (drop k) same ∙ ap (λ (j : ℕ). drop j us) e

module _ (code : CodeValue) (terms : List Tree) (table : List (List ℕ)) where
  -- its first part that differs
  pub inner_is : (t : Term) (o : Op) (us ts : List Tree) (due came : List ℕ) (xs ys xs_there ys_there : List (List ℕ)) → t ≡ Node o us → ts ≡ drop (keys o) us
      → Some xs ≡ opened code terms table o us due → Some ys ≡ opened code terms table o us came → xs_there ≡ xs → ys_there ≡ ys
      → first_apart ts xs_there ys_there ≡ inner_at code terms table (tree_of t) due came
  inner_is t o us ts due came xs ys xs_there ys_there is same a b x y =
      let list : list_of (trees_of us) ≡ us = list_of-trees_of us in
      let at_node : inner_at code terms table (tree_of t) due came ≡ inner_at code terms table (node o (trees_of us)) due came
      = ap (λ (u : Term). inner_at code terms table (tree_of u) due came) is in
      let both : inner_at code terms table (node o (trees_of us)) due came ≡ first_apart (drop (keys o) us) xs ys
      = ap (λ (l : List Tree). apart_in_both (drop (keys o) l) (opened code terms table o l due) (opened code terms table o l came)) list
      ∙ ap (λ (z : Option (List (List ℕ))). apart_in_both (drop (keys o) us) z (opened code terms table o us came)) (sym a)
      ∙ ap (λ (z : Option (List (List ℕ))). apart_in_both (drop (keys o) us) (Some xs) z) (sym b) in
      ap (λ (l : List Tree). first_apart l xs_there ys_there) same ∙ ap (λ (l : List (List ℕ)). first_apart (drop (keys o) us) l ys_there) x
      ∙ ap (λ (l : List (List ℕ)). first_apart (drop (keys o) us) xs l) y ∙ sym (at_node ∙ both)
