-- What leads inward from a difference.
use Rattle.std.proofs.Common.{◌≡◌, ◌≢◌, ◌<◌, ◌≤◌, ◌∙◌, ℕ, zero, suc, List, [], ◌∷◌, take, drop, Bool, true, false, cond, Option, Some, None, refl, sym, ap, subst, arith}
use Rattle.std.specs.Prelude.{slice_get}
use Rattle.std.specs.Str.{bytes_eq}
use Rattle.anb_lemmas.proofs.Items.{bytes_are_one, bytes_eq-same}
use Rattle.anb_term.specs.Operator.{keys}
use Rattle.anb_term.specs.Tree.{Tree, leaf, node, Trees, none, more, list_of, tree_size, trees_size}
use Rattle.anb_term.proofs.Lists.{size_some}
use Rattle.anb_code.specs.CodeValue.{CodeValue}
use Rattle.anb_protocol.specs.Protocols.{ProtocolValue}
use Rattle.anb_protocol.specs.Texts.{AreTermsOf, IsTermOf}
use Rattle.anb_trace.specs.Differences.{BothOpen, Difference, LeadsInward, StandsIn, in_both, inward, inward_each, inward_from, opened}
use Rattle.anb_trace.specs.Inside.{HasArity, apart_in_both, first_apart, from_inner, inner_at}
use Rattle.anb_trace.specs.Laws.{InnermostIsOne}

-- ---- the first part that differs

pub record IsFirst (ts : List Tree) (xs ys : List (List ℕ)) (d : Difference) : Type 0 where
  pub place : ℕ
  pub term : slice_get ts place ≡ Some d.term
  pub due : slice_get xs place ≡ Some d.due
  pub came : slice_get ys place ≡ Some d.came
  pub same_before : take place xs ≡ take place ys
  pub apart : d.due ≢ d.came

equal_same : (x y : List ℕ) → x ≡ y → bytes_eq x y ≡ true
equal_same x y e = ap (bytes_eq x) (sym e) ∙ bytes_eq-same x

unequal_apart : (x y : List ℕ) → bytes_eq x y ≡ false → x ≢ y
unequal_apart x y other e = let never : true ≡ false = sym (equal_same x y e) ∙ other in cc

pub first_is : (ts : List Tree) (xs ys : List (List ℕ)) (d : Difference) → first_apart ts xs ys ≡ Some d → IsFirst ts xs ys d
first_is [] xs ys d e = cc
first_is (t ∷ ts) [] ys d e = cc
first_is (t ∷ ts) (x ∷ xs) [] d e = cc
first_is (t ∷ ts) (x ∷ xs) (y ∷ ys) d e = by (bytes_eq x y) refl (first_is ts xs ys d) e where
  by : (b : Bool) → bytes_eq x y ≡ b → (first_apart ts xs ys ≡ Some d → IsFirst ts xs ys d)
      → cond b (first_apart ts xs ys) (Some (record { term = t; due = x; came = y })) ≡ Some d → IsFirst (t ∷ ts) (x ∷ xs) (y ∷ ys) d
  by true same later e =
      let f = later e in
      let one : x ≡ y = bytes_are_one x y same in
      record { place = suc f.place; term = f.term; due = f.due; came = f.came; same_before = cc (one, f.same_before); apart = f.apart }
  by false other later e =
      let is : record { term = t; due = x; came = y } ≡ d = cc in
      record {
        place = 0;
        term = ap (λ (z : Difference). Some z.term) is;
        due = ap (λ (z : Difference). Some z.due) is;
        came = ap (λ (z : Difference). Some z.came) is;
        same_before = refl;
        apart = subst (λ (z : Difference). z.due ≢ z.came) is (unequal_apart x y other);
      }

first_at : (ts : List Tree) (xs ys : List (List ℕ)) (d : Difference) (place : ℕ) → slice_get ts place ≡ Some d.term → slice_get xs place ≡ Some d.due → slice_get ys place ≡ Some d.came
    → take place xs ≡ take place ys → d.due ≢ d.came → first_apart ts xs ys ≡ Some d
first_at [] xs ys d place term due came same apart = cc
first_at (t ∷ ts) [] ys d place term due came same apart = cc
first_at (t ∷ ts) (x ∷ xs) [] d place term due came same apart = cc
first_at (t ∷ ts) (x ∷ xs) (y ∷ ys) d zero term due came same apart = by (bytes_eq x y) refl where
  one : x ≡ d.due
  one = cc

  two : y ≡ d.came
  two = cc

  by : (b : Bool) → bytes_eq x y ≡ b → cond b (first_apart ts xs ys) (Some (record { term = t; due = x; came = y })) ≡ Some d
  by true e = absurd (apart (sym one ∙ bytes_are_one x y e ∙ two))
  by false e = let three : t ≡ d.term = cc in rw (three, one, two) refl
first_at (t ∷ ts) (x ∷ xs) (y ∷ ys) d (suc place) term due came same apart =
    let one : x ≡ y = cc in
    let rest : take place xs ≡ take place ys = cc in
    rw (equal_same x y one) (first_at ts xs ys d place term due came rest apart)

pub first_found : (ts : List Tree) (xs ys : List (List ℕ)) (d : Difference) → IsFirst ts xs ys d → first_apart ts xs ys ≡ Some d
first_found ts xs ys d f = first_at ts xs ys d f.place f.term f.due f.came f.same_before f.apart

-- ---- what stands in a term, and what leads inward from it

-- a term of several, behind some
among : (n place : ℕ) (ts : Trees) (t : Tree) → slice_get (drop n (list_of ts)) place ≡ Some t → tree_size t ≤ trees_size ts
among zero place none t e = cc
among (suc n) place none t e = cc
among zero zero (more u ts) t e = let is : u ≡ t = cc in omega (arith, ap tree_size is)
among zero (suc place) (more u ts) t e = omega (arith, among zero place ts t e)
among (suc n) place (more u ts) t e = omega (arith, among n place ts t e)

ours_among : (p : ProtocolValue) (n place : ℕ) (ts : Trees) (t : Tree) → AreTermsOf p ts → slice_get (drop n (list_of ts)) place ≡ Some t → IsTermOf p t
ours_among p zero place none t ours e = cc
ours_among p (suc n) place none t ours e = cc
ours_among p zero zero (more u ts) t ours e = let is : u ≡ t = cc in subst (IsTermOf p) is ours.0
ours_among p zero (suc place) (more u ts) t ours e = ours_among p zero place ts t ours.1 e
ours_among p (suc n) place (more u ts) t ours e = ours_among p n place ts t ours.1 e

pub has_arity : (p : ProtocolValue) (t : Tree) → IsTermOf p t → HasArity t
has_arity p (leaf a) ours = tt
has_arity p (node o ts) ours = ours.1

module _ (code : CodeValue) (terms : List Tree) (table : List (List ℕ)) where
  from_each : (n : ℕ) (ts : Trees) (xs ys : List (List ℕ)) → inward_each code terms table n ts xs ys ≡ from_inner code terms table (first_apart (drop n (list_of ts)) xs ys)
  from_each zero none xs ys = refl
  from_each (suc n) none xs ys = refl
  from_each (suc n) (more t ts) xs ys = from_each n ts xs ys
  from_each zero (more t ts) [] ys = refl
  from_each zero (more t ts) (x ∷ xs) [] = refl
  from_each zero (more t ts) (x ∷ xs) (y ∷ ys) = by (bytes_eq x y) (from_each zero ts xs ys) where
    by : (b : Bool) → inward_each code terms table zero ts xs ys ≡ from_inner code terms table (first_apart (list_of ts) xs ys) → cond b (inward_each code terms table zero ts xs ys) (record { term = t; due = x; came = y } ∷ inward code terms table t x y)
        ≡ from_inner code terms table (cond b (first_apart (list_of ts) xs ys) (Some (record { term = t; due = x; came = y })))
    by true later = later
    by false later = refl

  pub inward_is : (t : Tree) (x y : List ℕ) → inward code terms table t x y ≡ from_inner code terms table (inner_at code terms table t x y)
  inward_is (leaf a) x y = refl
  inward_is (node o ts) x y = by (opened code terms table o (list_of ts) x) (opened code terms table o (list_of ts) y) where
    by : (a b : Option (List (List ℕ))) → in_both code terms table a b (inward_each code terms table (keys o) ts) ≡ from_inner code terms table (apart_in_both (drop (keys o) (list_of ts)) a b)
    by None b = refl
    by (Some xs) None = refl
    by (Some xs) (Some ys) = from_each (keys o) ts xs ys

  stands_at : (t : Tree) (this that : Difference) → that.term ≡ t → inner_at code terms table t that.due that.came ≡ Some this → StandsIn code terms table this that
  stands_at (leaf a) this that is e = cc
  stands_at (node o ts) this that is e = by (opened code terms table o (list_of ts) that.due) (opened code terms table o (list_of ts) that.came) refl refl e where
    by : (a b : Option (List (List ℕ))) → opened code terms table o (list_of ts) that.due ≡ a → opened code terms table o (list_of ts) that.came ≡ b
        → apart_in_both (drop (keys o) (list_of ts)) a b ≡ Some this → StandsIn code terms table this that
    by None b due came e = cc
    by (Some xs) None due came e = cc
    by (Some xs) (Some ys) due came e =
        let f = first_is (drop (keys o) (list_of ts)) xs ys this e in
        record {
          both = record { operator = o; operands = ts; is = is; dues = xs; cames = ys; due_opens = due; came_opens = came };
          place = f.place;
          term = f.term;
          due = f.due;
          came = f.came;
          same_before = f.same_before;
          apart = f.apart;
        }

  -- of a difference both sides of which open
  pub both_inner : (that : Difference) (b : BothOpen code terms table that)
      → inner_at code terms table that.term that.due that.came ≡ first_apart (drop (keys b.operator) (list_of b.operands)) b.dues b.cames
  both_inner that b =
      let ts = drop (keys b.operator) (list_of b.operands) in
      let came = opened code terms table b.operator (list_of b.operands) that.came in
      ap (λ (t : Tree). inner_at code terms table t that.due that.came) b.is
      ∙ ap (λ (a : Option (List (List ℕ))). apart_in_both ts a came) b.due_opens
      ∙ ap (λ (a : Option (List (List ℕ))). apart_in_both ts (Some b.dues) a) b.came_opens

  pub inner_stands : (this that : Difference) → inner_at code terms table that.term that.due that.came ≡ Some this → StandsIn code terms table this that
  inner_stands this that e = stands_at that.term this that refl e

  standing_inner : (this that : Difference) → StandsIn code terms table this that → inner_at code terms table that.term that.due that.came ≡ Some this
  standing_inner this that s =
      let b = s.both in
      let ts = drop (keys b.operator) (list_of b.operands) in
      both_inner that b ∙ first_at ts b.dues b.cames this s.place s.term s.due s.came s.same_before s.apart

  pub inner_smaller : (this that : Difference) → StandsIn code terms table this that → tree_size this.term < tree_size that.term
  inner_smaller this that s = omega (arith, among (keys s.both.operator) s.place s.both.operands this.term s.term, ap tree_size s.both.is)

  pub inner_ours : (p : ProtocolValue) (this that : Difference) → StandsIn code terms table this that → IsTermOf p that.term → IsTermOf p this.term
  inner_ours p this that s ours =
      let whole = subst (IsTermOf p) s.both.is ours in
      ours_among p (keys s.both.operator) s.place s.both.operands this.term whole.2 s.term

  -- ---- the law

  leads : (n : ℕ) (d : Difference) → tree_size d.term ≤ n → LeadsInward code terms table d (inward_from code terms table d)
  leads zero d few = absurd (omega (arith, size_some d.term, few))
  leads (suc n) d few = subst (LeadsInward code terms table d) (sym (inward_is d.term d.due d.came)) (by (inner_at code terms table d.term d.due d.came) refl (leads n)) where
    by : (o : Option Difference) → inner_at code terms table d.term d.due d.came ≡ o → ((this : Difference) → tree_size this.term ≤ n → LeadsInward code terms table this (inward_from code terms table this))
        → LeadsInward code terms table d (from_inner code terms table o)
    by None e later = λ this s. (let never : None ≡ Some this = sym e ∙ standing_inner this d s in cc)
    by (Some this) e later = let s = inner_stands this d e in (s, later this (omega (arith, inner_smaller this d s, few)))

  only : (others : List Difference) (d : Difference) → LeadsInward code terms table d others → others ≡ inward_from code terms table d
  only [] d nothing = by (inner_at code terms table d.term d.due d.came) refl where
    by : (o : Option Difference) → inner_at code terms table d.term d.due d.came ≡ o → [] ≡ inward_from code terms table d
    by None e = sym (inward_is d.term d.due d.came ∙ ap (from_inner code terms table) e)
    by (Some this) e = absurd (nothing this (inner_stands this d e))
  only (this ∷ others) d (s, l) =
      ap (λ (rest : List Difference). this ∷ rest) (only others this l) ∙ sym (inward_is d.term d.due d.came ∙ ap (from_inner code terms table) (standing_inner this d s))

pub innermost_one : InnermostIsOne
innermost_one code terms table d = (leads code terms table (tree_size d.term) d (omega arith), λ others l. only code terms table others d l)
