-- Widths within a bound.
use Rattle.std.proofs.Common.{◌≡◌, ℕ, suc, ◌+◌, ◌-◌, ◌<◌, ◌≤◌, List, [], ◌∷◌, ◌++◌, length, get_or, ap, sym, ◌∙◌, subst, arith, refl, Bool, true, false, cond, Option, Some, None, Vec, Global}
use Rattle.std.specs.Prelude.{◌&&◌, nat_le, is_some}
use Rattle.std.specs.Option.{option_and_then}
use Rattle.std.specs.List.{AllByRecursion}
use Rattle.std.proofs.lemmas.Bool.{leb-true, le-leb}
use Rattle.anb_format.specs.Formats.{FormatValue}
use Rattle.anb_term.specs.declared.term.Op.{Op}
use Rattle.anb_term.specs.Value.{cons_both}
use Rattle.anb_term.specs.Tree.{Tree, leaf, node, Trees, none, more, trees_of, list_of}
use Rattle.anb_protocol.specs.Widths.{at_most, op_width, sealed_width, width, widths, fits_width, fit_width, all_fit_width, width_if, widths_if}

pub last_width : (w : ℕ) (ws : List ℕ) → sealed_width (w ∷ ws) ≡ get_or (w ∷ ws) (length ws) 0 + 32
last_width w [] = refl
last_width w (v ∷ ws) = last_width v ws

pub sealed_last : (ws : List ℕ) → 0 < length ws → sealed_width ws ≡ get_or ws (length ws - 1) 0 + 32
sealed_last [] h = absurd (omega arith)
sealed_last (w ∷ ws) h = let n : length ws ≡ length (w ∷ ws) - 1 = omega arith in last_width w ws ∙ ap (λ k. get_or (w ∷ ws) k 0 + 32) n

pub at_most_some : (most w : ℕ) → w ≤ most → at_most most w ≡ Some w
at_most_some most w h = ap (λ b. cond b (Some w) None) (le-leb w most h)

pub at_most_none : (most w : ℕ) → most < w → at_most most w ≡ None
at_most_none most w h = ap (λ b. cond b (Some w) None) (false_le w most h)
  where
    by_test : (w most : ℕ) (b : Bool) → nat_le w most ≡ b → most < w → b ≡ false
    by_test w most true e h = let l = leb-true w most e in absurd (omega arith)
    by_test w most false e h = refl

    false_le : (w most : ℕ) → most < w → nat_le w most ≡ false
    false_le w most h = by_test w most (nat_le w most) refl h

-- ---- the widths that the code finds

seen : (most w : ℕ) (b : Bool) → nat_le w most ≡ b → is_some (at_most most w) ≡ b
seen most w b e = ap (λ v. is_some (cond v (Some w) None)) e ∙ plain b
  where
    plain : (v : Bool) → is_some (cond v (Some w) None) ≡ v
    plain true = refl
    plain false = refl

-- what is found is the width, where all is within the bound; and else nothing is found
abbrev Tells : {A : Type 0} → Option A → Bool → A → Type 0
Tells o true w = o ≡ Some w
Tells o false w = o ≡ None

at_most_tells : (most w : ℕ) (b : Bool) → nat_le w most ≡ b → Tells (at_most most w) b w
at_most_tells most w true e = ap (λ v. cond v (Some w) None) e
at_most_tells most w false e = ap (λ v. cond v (Some w) None) e

module _ (least : ℕ) (formats : List FormatValue) (most : ℕ) where
  node_tells : (o : Op) (ws : List ℕ) (found : Option (List ℕ)) (b d : Bool) → Tells found b ws → nat_le (op_width least formats o ws) most ≡ d
      → Tells (option_and_then (λ vs. at_most most (op_width least formats o vs)) found) (b && d) (op_width least formats o ws)
  node_tells o ws found true true t e = ap (option_and_then (λ vs. at_most most (op_width least formats o vs))) t ∙ at_most_tells most (op_width least formats o ws) true e
  node_tells o ws found true false t e = ap (option_and_then (λ vs. at_most most (op_width least formats o vs))) t ∙ at_most_tells most (op_width least formats o ws) false e
  node_tells o ws found false d t e = ap (option_and_then (λ vs. at_most most (op_width least formats o vs))) t

  cons_tells : (w : ℕ) (ws : List ℕ) (one : Option ℕ) (others : Option (List ℕ)) (b d : Bool) → Tells one b w → Tells others d ws → Tells (cons_both one others) (b && d) (w ∷ ws)
  cons_tells w ws one others true true s t = ap (λ o. cons_both o others) s ∙ ap (λ o. cons_both (Some w) o) t
  cons_tells w ws one others true false s t = ap (λ o. cons_both o others) s ∙ ap (λ o. cons_both (Some w) o) t
  cons_tells w ws one others false d s t = ap (λ o. cons_both o others) s

  mutual
    pub width_tells : (t : Tree) → Tells (width_if least formats most t) (fits_width least formats most t) (width least formats t)
    width_tells (leaf a) = at_most_tells most least (nat_le least most) refl
    width_tells (node o ts) = node_tells o (widths least formats ts) (widths_if least formats most ts) (fit_width least formats most ts) (nat_le (op_width least formats o (widths least formats ts)) most) (widths_tell ts) refl

    pub widths_tell : (ts : Trees) → Tells (widths_if least formats most ts) (fit_width least formats most ts) (widths least formats ts)
    widths_tell none = refl
    widths_tell (more t ts) = cons_tells (width least formats t) (widths least formats ts) (width_if least formats most t) (widths_if least formats most ts) (fits_width least formats most t) (fit_width least formats most ts) (width_tells t) (widths_tell ts)

  tells_some : {A : Type 0} (o : Option A) (b : Bool) (w : A) → Tells o b w → is_some o ≡ b
  tells_some o true w t = ap is_some t
  tells_some o false w t = ap is_some t

  pub found_width : (t : Tree) → is_some (width_if least formats most t) ≡ fits_width least formats most t
  found_width t = tells_some _ (fits_width least formats most t) (width least formats t) (width_tells t)

  all_of : (ts : List Tree) → fit_width least formats most (trees_of ts) ≡ all_fit_width least formats most ts
  all_of [] = refl
  all_of (t ∷ ts) = ap (λ b. fits_width least formats most t && b) (all_of ts)

  pub found_widths : (ts : List Tree) → is_some (widths_if least formats most (trees_of ts)) ≡ all_fit_width least formats most ts
  found_widths ts = tells_some _ (fit_width least formats most (trees_of ts)) (widths least formats (trees_of ts)) (widths_tell (trees_of ts)) ∙ all_of ts

-- what was found before, and the rest
abbrev pub behind : List ℕ → List ℕ → List ℕ
behind before ws = before ++ ws

at_most_is : (most w v : ℕ) (b : Bool) → nat_le w most ≡ b → at_most most w ≡ Some v → v ≤ most
at_most_is most w v true e f = let h : Some w ≡ Some v = sym (ap (λ c. cond c (Some w) None) e) ∙ f in let s : w ≡ v = cc in let l = leb-true w most e in omega arith
at_most_is most w v false e f = let h : None ≡ Some v = sym (ap (λ c. cond c (Some w) None) e) ∙ f in absurd (cc)

module _ (least : ℕ) (formats : List FormatValue) (most : ℕ) where
  then_some : (o : Op) (found : Option (List ℕ)) (v : ℕ) → option_and_then (λ vs. at_most most (op_width least formats o vs)) found ≡ Some v → v ≤ most
  then_some o None v e = absurd (cc)
  then_some o (Some ws) v e = at_most_is most (op_width least formats o ws) v (nat_le (op_width least formats o ws) most) refl e

  width_low : (t : Tree) (v : ℕ) → width_if least formats most t ≡ Some v → v ≤ most
  width_low (leaf a) v e = at_most_is most least v (nat_le least most) refl e
  width_low (node o ts) v e = then_some o (widths_if least formats most ts) v e

  both_some : (x : Option ℕ) (xs : Option (List ℕ)) (vs : List ℕ) → cons_both x xs ≡ Some vs → (v : ℕ) × (us : List ℕ) × (x ≡ Some v) × (xs ≡ Some us) × (vs ≡ v ∷ us)
  both_some None xs vs e = absurd (cc)
  both_some (Some v) None vs e = absurd (cc)
  both_some (Some v) (Some us) vs e = let h : v ∷ us ≡ vs = cc in (v, us, refl, refl, sym h)

  pub length_found : (ts : Trees) (ws : List ℕ) → widths_if least formats most ts ≡ Some ws → length ws ≡ length (list_of ts)
  length_found none ws e = let h : [] ≡ ws = cc in ap length (sym h)
  length_found (more t ts) ws e =
      let s = both_some (width_if least formats most t) (widths_if least formats most ts) ws e in
      ap length s.4 ∙ ap (λ n. suc n) (length_found ts s.1 s.3)

  pub low_found : (ts : Trees) (ws : List ℕ) → widths_if least formats most ts ≡ Some ws → AllByRecursion (λ w. w ≤ most) ws
  low_found none ws e = let h : [] ≡ ws = cc in let P : List ℕ → Type 0 = λ l. AllByRecursion (λ w. w ≤ most) l in subst P h tt
  low_found (more t ts) ws e =
      let s = both_some (width_if least formats most t) (widths_if least formats most ts) ws e in
      let P : List ℕ → Type 0 = λ l. AllByRecursion (λ w. w ≤ most) l in
      subst P (sym s.4) (width_low t s.0 s.2, low_found ts s.1 s.3)

abbrev pub items_of : Vec ℕ Global → List ℕ
items_of v = v.items
