-- One more item of a list that is gone through.
use Rattle.std.proofs.Common.{◌≡◌, ℕ, zero, suc, ◌+◌, ◌<◌, ◌≤◌, List, [], ◌∷◌, ◌++◌, length, map, take, get_or, Some, refl, sym, ap, ◌∙◌, subst, arith, inl, append_assoc}
use Rattle.std.specs.Prelude.{slice_get}
use Rattle.std.specs.List.{AllByRecursion, range_with_len}
use Rattle.std.proofs.lemmas.List.{append-nil, length-map}
use Rattle.std.proofs.lemmas.List.FromFn.{map-range_with_len_more, length-range_with_len}
use Rattle.anb_lemmas.proofs.Lists.{item_at, take_got, range_last, got_within}
use Rattle.anb_term.proofs.Lists.{map-append, slice_get-append, slice_get-there}
use Rattle.anb_term.specs.Tree.{Tree, leaf, node}
use Rattle.anb_term.specs.View.{tree_of}
use Rattle.anb_intern.specs.declared.node.NodeId.{NodeId}
use Rattle.anb_unify.specs.Substitutions.{put_in}
use Rattle.anb_unify.specs.Classes.{AreClasses, AreLike}
use Rattle.anb_unify.specs.declared.equation.Equation.{Equation}
use Rattle.anb_unify.specs.Views.{equation_value}
use Rattle.anb_unify.proofs.Linking.{same_itself}
use Rattle.anb_unify.specs.Equations.{EquationValue}
use Rattle.anb_unify.specs.Reading.{AreSolved}
use Rattle.anb_unify.specs.Solving.{term_at, AreAt, first_variables, terms_of_equations}
use Rattle.anb_unify.specs.Growing.{HasGrown}

-- what is appended for an item, where the whole grows by that
pub flat_next : {A B : Type 0} (F : List A → List B) (xs : List A) (i : ℕ) (x : A) (pre out out' ys : List B) → out ≡ pre ++ F (take i xs) → i < length xs → x ≡ get_or xs i x → F (take i xs ++ x ∷ []) ≡ F (take i xs) ++ ys → out' ≡ out ++ ys
    → out' ≡ pre ++ F (take (i + 1) xs)
flat_next F xs i x pre out out' ys is within at more grown =
    grown ∙ ap (λ l. l ++ ys) is ∙ append_assoc pre (F (take i xs)) ys ∙ ap (λ l. pre ++ l) (sym more) ∙ ap (λ l. pre ++ F l) (sym (take_got xs i x (item_at xs i x within at)))

pub mapped_next : {A B : Type 0} (f : A → B) (xs : List A) (i : ℕ) (x : A) (pre out out' : List B) (y : B) → out ≡ pre ++ map f (take i xs) → i < length xs → x ≡ get_or xs i x → out' ≡ out ++ y ∷ [] → y ≡ f x
    → out' ≡ pre ++ map f (take (i + 1) xs)
mapped_next f xs i x pre out out' y is within at grown s =
    flat_next (map f) xs i x pre out out' (f x ∷ []) is within at (map-append f (take i xs) (x ∷ [])) (grown ∙ ap (λ z. out ++ z ∷ []) s)

pub map_map : {A B C : Type 0} (f : B → C) (g : A → B) (xs : List A) → map f (map g xs) ≡ map (λ x. f (g x)) xs
map_map f g [] = refl
map_map f g (x ∷ xs) = ap (λ l. f (g x) ∷ l) (map_map f g xs)

-- ---- terms in a pool

pub at_more : (ts more : List Tree) (ids : List NodeId) (us : List Tree) → AreAt ts ids us → AreAt (ts ++ more) ids us
at_more ts more [] [] h = refl
at_more ts more [] (u ∷ us) h = cc
at_more ts more (id ∷ ids) [] h = cc
at_more ts more (id ∷ ids) (u ∷ us) h =
    let a : slice_get ts id.0 ≡ Some u = cc in
    let b : map (term_at ts) ids ≡ map Some us = cc in
    let c = slice_get-append ts more id.0 u a in
    ap (λ o. o ∷ map (term_at (ts ++ more)) ids) c ∙ ap (λ l. Some u ∷ l) (at_more ts more ids us b)

pub at_grown : (old new : List Tree) (ids : List NodeId) (us : List Tree) → HasGrown old new → AreAt old ids us → AreAt new ids us
at_grown old new ids us g h = subst (λ l. AreAt l ids us) (sym g.is) (at_more old g.more ids us h)

pub at_snoc : (ts : List Tree) (ids : List NodeId) (us : List Tree) (id : NodeId) (u : Tree) → AreAt ts ids us → slice_get ts id.0 ≡ Some u → AreAt ts (ids ++ id ∷ []) (us ++ u ∷ [])
at_snoc ts ids us id u h e =
    map-append (term_at ts) ids (id ∷ []) ∙ ap (λ l. l ++ slice_get ts id.0 ∷ []) h ∙ ap (λ o. map Some us ++ o ∷ []) e ∙ sym (map-append Some us (u ∷ []))

pub at_got : (ts : List Tree) (ids : List NodeId) (us : List Tree) (i : ℕ) (u : Tree) → AreAt ts ids us → slice_get us i ≡ Some u → (id : NodeId) × (slice_get ids i ≡ Some id) × (slice_get ts id.0 ≡ Some u)
at_got ts [] [] i u h e = cc
at_got ts [] (v ∷ us) i u h e = cc
at_got ts (id ∷ ids) [] i u h e = cc
at_got ts (id ∷ ids) (v ∷ us) zero u h e = (id, refl, let a : slice_get ts id.0 ≡ Some v = cc in let s : v ≡ u = cc in a ∙ ap Some s)
at_got ts (id ∷ ids) (v ∷ us) (suc i) u h e = let b : map (term_at ts) ids ≡ map Some us = cc in at_got ts ids us i u b e

pub grown_on : (a b c : List Tree) → HasGrown a b → HasGrown b c → HasGrown a c
grown_on a b c g h = record { more = g.more ++ h.more; is = h.is ∙ ap (λ l. l ++ h.more) g.is ∙ append_assoc a g.more h.more }

pub grown_none : (a : List Tree) → HasGrown a a
grown_none a = record { more = []; is = sym (append-nil a) }

pub taken_all : {A : Type 0} (xs : List A) (i : ℕ) → length xs ≤ i → take i xs ≡ xs
taken_all [] zero h = refl
taken_all [] (suc i) h = refl
taken_all (x ∷ xs) zero h = absurd (omega arith)
taken_all (x ∷ xs) (suc i) h = ap (λ l. x ∷ l) (taken_all xs i (omega arith))

pub sides_more : (qs : List Equation) (i : ℕ) (q : Equation) → slice_get qs i ≡ Some q → terms_of_equations (map equation_value (take (i + 1) qs)) ≡ terms_of_equations (map equation_value (take i qs)) ++ tree_of q.term ∷ []
sides_more qs i q e =
    ap (λ l. terms_of_equations (map equation_value l)) (take_got qs i q e)
    ∙ ap terms_of_equations (map-append equation_value (take i qs) (q ∷ []))
    ∙ map-append (λ (x : EquationValue). x.term) (map equation_value (take i qs)) (equation_value q ∷ [])

pub variables_more : (names n : ℕ) → first_variables names (n + 1) ≡ first_variables names n ++ leaf (names + n) ∷ []
variables_more names n = let z : 0 + n ≡ n = omega arith in map-range_with_len_more (λ i. leaf (names + i)) 0 n n z

pub at_put : (old new : List Tree) (ids ids' : List NodeId) (us us' : List Tree) (id : NodeId) (u : Tree) → HasGrown old new → AreAt old ids us → slice_get new id.0 ≡ Some u → ids' ≡ ids ++ id ∷ [] → us' ≡ us ++ u ∷ [] → AreAt new ids' us'
at_put old new ids ids' us us' id u g h e a b = subst (λ l. AreAt new l us') (sym a) (subst (AreAt new (ids ++ id ∷ [])) (sym b) (at_snoc new ids us id u (at_grown old new ids us g h) e))

pub range_more : (n : ℕ) → range_with_len 0 (n + 1) ≡ range_with_len 0 n ++ n ∷ []
range_more n = let z : 0 + n ≡ n = omega arith in let s : n + 1 ≡ suc n = omega arith in ap (range_with_len 0) s ∙ range_last 0 n ∙ ap (λ x. range_with_len 0 n ++ x ∷ []) z

range_at : (ps : List NodeId) (a n i : ℕ) (p : NodeId) → map (λ (x : NodeId). x.0) ps ≡ range_with_len a n → slice_get ps i ≡ Some p → p.0 ≡ a + i
range_at [] a n i p e at = cc
range_at (x ∷ ps) a zero i p e at = cc
range_at (x ∷ ps) a (suc n) zero p e at = let s : x ≡ p = cc in let z : x.0 ≡ a = cc in let w : a ≡ a + 0 = omega arith in ap (λ (y : NodeId). y.0) (sym s) ∙ z ∙ w
range_at (x ∷ ps) a (suc n) (suc i) p e at = let r : map (λ (y : NodeId). y.0) ps ≡ range_with_len (a + 1) n = cc in let z : a + 1 + i ≡ a + suc i = omega arith in range_at ps (a + 1) n i p r at ∙ z

-- where each is its own parent
module _ (names : ℕ) (ts : List Tree) (ps : List NodeId) (own : map (λ (x : NodeId). x.0) ps ≡ range_with_len 0 (length ts)) where
  own_at : (i : ℕ) (p : NodeId) → slice_get ps i ≡ Some p → p.0 ≡ i
  own_at i p e = let z : 0 + i ≡ i = omega arith in range_at ps 0 (length ts) i p own e ∙ z

  own_long : length ps ≡ length ts
  own_long = sym (length-map ps (λ (x : NodeId). x.0)) ∙ ap length own ∙ length-range_with_len 0 (length ts)

  pub own_classes : AreClasses names ts ps
  own_classes = record {
    long = own_long;
    within = λ i p e. (let h = got_within ps i p e in omega (arith, own_at i p e, own_long));
    falls = λ i p e. inl (own_at i p e);
  }

  like_itself : (f : Tree → Tree) (t : Tree) → AreLike f t t
  like_itself f (leaf n) = refl
  like_itself f (node o us) = (refl, refl)

  pub own_solved : AreSolved names ts [] ps
  own_solved = record {
    same = λ f h. tt;
    closed = λ f h i t at plain.
        let p = slice_get-there ps i (omega (arith, got_within ts i t at, own_long)) in
        let z = own_at i p.0 p.1 in
        record {
          root = p.0;
          term = t;
          is_root = ap (slice_get ps) z ∙ p.1;
          here = ap (slice_get ts) z ∙ at;
          same = refl;
          like = like_itself f t;
        };
    general = λ put h i p e. same_itself ts (put_in put) i p.0 (sym (own_at i p e));
  }

-- ---- one more equation

pub solved_more : (names : ℕ) (f : Tree → Tree) (qs : List EquationValue) (i : ℕ) (q : EquationValue) → AllByRecursion (λ (x : EquationValue). f (leaf (names + x.variable)) ≡ f x.term) (take i qs) → slice_get qs i ≡ Some q → f (leaf (names + q.variable)) ≡ f q.term
    → AllByRecursion (λ (x : EquationValue). f (leaf (names + x.variable)) ≡ f x.term) (take (i + 1) qs)
solved_more names f qs i q h at e = subst (AllByRecursion (λ (x : EquationValue). f (leaf (names + x.variable)) ≡ f x.term)) (sym (take_got qs i q at)) (both (take i qs) h)
  where
    both : (xs : List EquationValue) → AllByRecursion (λ (x : EquationValue). f (leaf (names + x.variable)) ≡ f x.term) xs → AllByRecursion (λ (x : EquationValue). f (leaf (names + x.variable)) ≡ f x.term) (xs ++ q ∷ [])
    both [] g = (e, tt)
    both (x ∷ xs) g = (g.0, both xs g.1)

pub at_long : (ts : List Tree) (ids : List NodeId) (us : List Tree) → AreAt ts ids us → length ids ≡ length us
at_long ts ids us h = sym (length-map ids (term_at ts)) ∙ ap length h ∙ length-map us Some

pub variables_long : (names n : ℕ) → length (first_variables names n) ≡ n
variables_long names n = length-map (range_with_len 0 n) (λ i. leaf (names + i)) ∙ length-range_with_len 0 n

variable_from : (names a n i : ℕ) → i < n → slice_get (map (λ j. leaf (names + j)) (range_with_len a n)) i ≡ Some (leaf (names + (a + i)))
variable_from names a zero i h = absurd (omega arith)
variable_from names a (suc n) zero h = let z : a ≡ a + 0 = omega arith in ap (λ x. Some (leaf (names + x))) z
variable_from names a (suc n) (suc i) h = let z : a + 1 + i ≡ a + suc i = omega arith in variable_from names (a + 1) n i (omega arith) ∙ ap (λ x. Some (leaf (names + x))) z

pub variable_at : (names n i : ℕ) → i < n → slice_get (first_variables names n) i ≡ Some (leaf (names + i))
variable_at names n i h = let z : 0 + i ≡ i = omega arith in variable_from names 0 n i h ∙ ap (λ x. Some (leaf (names + x))) z

pub got : {A : Type 0} (xs : List A) (i : ℕ) (d : A) → i < length xs → slice_get xs i ≡ Some (get_or xs i d)
got [] i d h = absurd (omega arith)
got (x ∷ xs) zero d h = refl
got (x ∷ xs) (suc i) d h = got xs i d (omega arith)

-- the number of a term, by its place
pub id_at : (ts : List Tree) (ids : List NodeId) (us : List Tree) (i : ℕ) (d : NodeId) (u : Tree) → AreAt ts ids us → slice_get us i ≡ Some u → slice_get ts (get_or ids i d).0 ≡ Some u
id_at ts ids us i d u h e =
    let g = at_got ts ids us i u h e in
    let x = got ids i d (got_within ids i g.0 g.1) in
    let s : g.0 ≡ get_or ids i d = (let y = g.1 in cc) in
    subst (λ (z : NodeId). slice_get ts z.0 ≡ Some u) s g.2

-- ---- what stands at numbers in a row

pub ranged : (g : ℕ → Tree) (a n : ℕ) (xs : List Tree) → length xs ≡ n → ((j : ℕ) (x : Tree) → slice_get xs j ≡ Some x → g (a + j) ≡ x) → map g (range_with_len a n) ≡ xs
ranged g a zero [] e h = refl
ranged g a zero (x ∷ xs) e h = absurd (omega arith)
ranged g a (suc n) [] e h = absurd (omega arith)
ranged g a (suc n) (x ∷ xs) e h =
    let z : a + 0 ≡ a = omega arith in
    let first : g a ≡ x = ap g (sym z) ∙ h 0 x refl in
    let rest = ranged g (a + 1) n xs (omega arith) (λ j y at. let s : a + suc j ≡ a + 1 + j = omega arith in ap g (sym s) ∙ h (suc j) y at) in
    cc

pub ranged_gets : (g : ℕ → Tree) (a n j : ℕ) → j < n → slice_get (map g (range_with_len a n)) j ≡ Some (g (a + j))
ranged_gets g a zero j h = absurd (omega arith)
ranged_gets g a (suc n) zero h = let z : a ≡ a + 0 = omega arith in ap (λ x. Some (g x)) z
ranged_gets g a (suc n) (suc j) h = let z : a + 1 + j ≡ a + suc j = omega arith in ranged_gets g (a + 1) n j (omega arith) ∙ ap (λ x. Some (g x)) z

pub ranged_long : (g : ℕ → Tree) (a n : ℕ) → length (map g (range_with_len a n)) ≡ n
ranged_long g a zero = refl
ranged_long g a (suc n) = ap suc (ranged_long g (a + 1) n)
