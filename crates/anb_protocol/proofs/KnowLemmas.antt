-- What roles know, role by role.
use Rattle.std.proofs.Common.{◌≡◌, ℕ, zero, suc, ◌+◌, ◌<◌, List, [], ◌∷◌, ◌++◌, length, drop, get_or, ap, sym, ◌∙◌, subst, arith, refl, Bool, true, false, cond, Option, Some, None}
use Rattle.std.specs.Prelude.{slice_get}
use Rattle.std.specs.Option.{option_or}
use Rattle.std.specs.List.{AllByRecursion, flat_map, zip}
use Rattle.std.proofs.lemmas.List.{drop_more, length-append}
use Rattle.anb_lemmas.proofs.Each.{each_in_parts}
use Rattle.anb_term.specs.Tree.{Tree, leaf, node, Trees, none, more, trees_of, IsFormed, AreFormed}
use Rattle.anb_algebra.specs.ByteMeaning.{has_operator}
use Rattle.anb_protocol.specs.declared.refusals.ResolveNo.{ResolveNo}
use Rattle.anb_protocol.specs.declared.refusals.ResolveNo.TheVariants.{KnowledgeTwice}
use Rattle.anb_protocol.specs.Choices.{refuse_if, first, first_after}
use Rattle.anb_protocol.specs.Protocols.{ActionValue, ProtocolValue}
use Rattle.anb_protocol.specs.Plans.{messages}
use Rattle.anb_protocol.specs.Texts.{IsTermOf, AreTermsOf, term_text}
use Rattle.anb_protocol.specs.Checks.{again_at, is_among, known_again}

mutual
  pub formed : (p : ProtocolValue) (t : Tree) → IsTermOf p t → IsFormed (has_operator p.formats) t
  formed p (leaf a) h = tt
  formed p (node o ts) h = (h.0, h.1, formed_all p ts h.2)

  formed_all : (p : ProtocolValue) (ts : Trees) → AreTermsOf p ts → AreFormed (has_operator p.formats) ts
  formed_all p none h = tt
  formed_all p (more t ts) h = (formed p t h.0, formed_all p ts h.1)

pub formed_list : (p : ProtocolValue) (ts : List Tree) → AllByRecursion (IsTermOf p) ts → AreFormed (has_operator p.formats) (trees_of ts)
formed_list p [] h = tt
formed_list p (t ∷ ts) h = (formed p t h.0, formed_list p ts h.1)

abbrev pub all_of : List (List Tree) → List Tree
all_of knows = flat_map (λ (ts : List Tree). ts) knows

-- one more role
pub next_known : (P : Tree → Type 0) (knows : List (List Tree)) (i : ℕ) (ts : List Tree) → i < length knows → ts ≡ get_or knows i ts
    → AllByRecursion P (all_of (drop i knows)) → AllByRecursion P ts × AllByRecursion P (all_of (drop (i + 1) knows))
next_known P knows i ts h e a =
    let Q : List (List Tree) → Type 0 = λ ks. AllByRecursion P (all_of ks) in
    each_in_parts P ts (all_of (drop (i + 1) knows)) (subst Q (drop_more knows i ts h ∙ ap (λ y. y ∷ drop (i + 1) knows) (sym e)) a)

pub next_zip : (names : List (List ℕ)) (knows : List (List Tree)) (i : ℕ) (x : List ℕ) (ts : List Tree) → i < length names → i < length knows → x ≡ get_or names i x → ts ≡ get_or knows i ts
    → zip (drop i names) (drop i knows) ≡ (x, ts) ∷ zip (drop (i + 1) names) (drop (i + 1) knows)
next_zip names knows i x ts h l e f =
    ap (λ ns. zip ns (drop i knows)) (drop_more names i x h ∙ ap (λ y. y ∷ drop (i + 1) names) (sym e))
    ∙ ap (λ ks. zip (x ∷ drop (i + 1) names) ks) (drop_more knows i ts l ∙ ap (λ y. y ∷ drop (i + 1) knows) (sym f))

module _ {R : Type 0} (f : List ℕ × List Tree → Option R) (names : List (List ℕ)) (knows : List (List Tree)) (i : ℕ) (x : List ℕ) (ts : List Tree) (total : Option R)
    (h : i < length names) (l : i < length knows) (e : x ≡ get_or names i x) (g : ts ≡ get_or knows i ts) (inv : first f (zip (drop i names) (drop i knows)) ≡ total) where
  step : option_or (f (x, ts)) (first f (zip (drop (i + 1) names) (drop (i + 1) knows))) ≡ total
  step = sym (ap (first f) (next_zip names knows i x ts h l e g)) ∙ inv

  pub role_here : (r : R) → f (x, ts) ≡ Some r → Some r ≡ total
  role_here r w = sym (ap (λ o. option_or o (first f (zip (drop (i + 1) names) (drop (i + 1) knows)))) w) ∙ step

  pub role_next : f (x, ts) ≡ None → first f (zip (drop (i + 1) names) (drop (i + 1) knows)) ≡ total
  role_next w = sym (ap (λ o. option_or o (first f (zip (drop (i + 1) names) (drop (i + 1) knows)))) w) ∙ step

-- ---- a term again

module _ (p : ProtocolValue) (role : List ℕ) where
  abbrev twice : List Tree → Tree → Option ResolveNo
  twice before t = refuse_if (is_among before t) (KnowledgeTwice role (term_text p t))

  none_step : (before ts : List Tree) (t : Tree) (b : Bool) → is_among before t ≡ b → again_at before (t ∷ ts) ≡ None
      → (again_at (before ++ t ∷ []) ts ≡ None → first_after twice (before ++ t ∷ []) ts ≡ None) → first_after twice before (t ∷ ts) ≡ None
  none_step before ts t true w e next = let h = sym (ap (λ v. cond v (Some (length before)) (again_at (before ++ t ∷ []) ts)) w) ∙ e in absurd (cc)
  none_step before ts t false w e next =
      ap (λ v. option_or (refuse_if v (KnowledgeTwice role (term_text p t))) (first_after twice (before ++ t ∷ []) ts)) w
      ∙ next (sym (ap (λ v. cond v (Some (length before)) (again_at (before ++ t ∷ []) ts)) w) ∙ e)

  again_none : (before ts : List Tree) → again_at before ts ≡ None → first_after twice before ts ≡ None
  again_none before [] e = refl
  again_none before (t ∷ ts) e = none_step before ts t (is_among before t) refl e (again_none (before ++ t ∷ []) ts)

  pub known_once : (ts : List Tree) → again_at [] ts ≡ None → known_again p (role, ts) ≡ None
  known_once ts e = again_none [] ts e

  abbrev Again : List Tree → List Tree → ℕ → Type 0
  Again before ts k = (j : ℕ) × (t : Tree) × (k ≡ length before + j) × (slice_get ts j ≡ Some t) × (first_after twice before ts ≡ Some (KnowledgeTwice role (term_text p t)))

  some_step : (before ts : List Tree) (t : Tree) (k : ℕ) (b : Bool) → is_among before t ≡ b → again_at before (t ∷ ts) ≡ Some k
      → (again_at (before ++ t ∷ []) ts ≡ Some k → Again (before ++ t ∷ []) ts k) → Again before (t ∷ ts) k
  some_step before ts t k true w e next =
      let h : Some (length before) ≡ Some k = sym (ap (λ v. cond v (Some (length before)) (again_at (before ++ t ∷ []) ts)) w) ∙ e in
      let s : length before ≡ k = cc in
      (0, t, omega arith, refl, ap (λ v. option_or (refuse_if v (KnowledgeTwice role (term_text p t))) (first_after twice (before ++ t ∷ []) ts)) w)
  some_step before ts t k false w e next =
      let f = next (sym (ap (λ v. cond v (Some (length before)) (again_at (before ++ t ∷ []) ts)) w) ∙ e) in
      (suc f.0, f.1, omega (arith, f.2, length-append before (t ∷ [])), f.3, ap (λ v. option_or (refuse_if v (KnowledgeTwice role (term_text p t))) (first_after twice (before ++ t ∷ []) ts)) w ∙ f.4)

  again_some : (before ts : List Tree) (k : ℕ) → again_at before ts ≡ Some k → Again before ts k
  again_some before [] k e = absurd (cc)
  again_some before (t ∷ ts) k e = some_step before ts t k (is_among before t) refl e (again_some (before ++ t ∷ []) ts k)

  pub known_more : (ts : List Tree) (k : ℕ) (t : Tree) → again_at [] ts ≡ Some k → slice_get ts k ≡ Some t → known_again p (role, ts) ≡ Some (KnowledgeTwice role (term_text p t))
  known_more ts k t e g =
      let f = again_some [] ts k e in
      let at : k ≡ f.0 = omega (arith, f.2) in
      let h : Some f.1 ≡ Some t = sym f.3 ∙ sym (ap (slice_get ts) at) ∙ g in
      let same : f.1 ≡ t = cc in
      f.4 ∙ ap (λ u. Some (KnowledgeTwice role (term_text p u))) same

-- the message of an action is formed
pub formed_message : (p : ProtocolValue) (acts : List ActionValue) (i : ℕ) (a : ActionValue) → i < length acts → a ≡ get_or acts i a → AllByRecursion (IsTermOf p) (messages acts) → IsFormed (has_operator p.formats) a.message
formed_message p [] i a h e all = absurd (omega arith)
formed_message p (x ∷ acts) zero a h e all = let P : ActionValue → Type 0 = λ y. IsFormed (has_operator p.formats) y.message in subst P (sym e) (formed p x.message all.0)
formed_message p (x ∷ acts) (suc i) a h e all = formed_message p acts i a (omega arith) e all.1

pub get_or_same : {X : Type 0} (xs : List X) (i : ℕ) (d x : X) → i < length xs → get_or xs i d ≡ get_or xs i x
get_or_same [] i d x h = absurd (omega arith)
get_or_same (y ∷ ys) zero d x h = refl
get_or_same (y ∷ ys) (suc i) d x h = get_or_same ys i d x (omega arith)
