-- Checks that are given.
use Rattle.std.proofs.Common.{◌≡◌, ℕ, zero, suc, ◌+◌, ◌<◌, ◌≤◌, List, [], ◌∷◌, ◌++◌, length, drop, get_or, Bool, true, false, Some, refl, sym, ap, ◌∙◌, subst, arith, ◌⊎◌, ⊎_elim, append_assoc, length-append}
use Rattle.std.specs.Prelude.{slice_get}
use Rattle.std.proofs.Math.ListN.{set, length-set}
use Rattle.std.proofs.lemmas.List.{append-nil}
use Rattle.anb_lemmas.proofs.Numbers.{below_or_last}
use Rattle.anb_lemmas.proofs.Lists.{get_seam, got_within}
use Rattle.anb_term.specs.declared.term.Op.{Op}
use Rattle.anb_term.specs.Tree.{Tree, list_of}
use Rattle.anb_close.specs.declared.entry.Entry.{Entry}
use Rattle.anb_close.specs.declared.entry.Origin.TheVariants.{Label, Part}
use Rattle.anb_term.specs.Operator.{keys}
use Rattle.anb_close.specs.Entries.{rows, IsKnown, part_entries}
use Rattle.anb_close.proofs.Finding.{rows_length}
use Rattle.anb_term.proofs.Lists.{slice_get-at, slice_get-last, slice_get-append, set-at, set-same}
use Rattle.anb_basis.specs.declared.check.Check.TheVariants.{Open}
use Rattle.anb_basis.specs.declared.check.Check.{Check}
use Rattle.anb_basis.specs.Checks.{Fits, entry_of, trues, IsGiven, OpensMarked, EqualsMarked, IsComparedWith, MarksStay, After}

pub set_stays : (xs : List Bool) (i : ℕ) → MarksStay xs (set xs i true)
set_stays [] i j e = cc
set_stays (x ∷ xs) zero zero e = refl
set_stays (x ∷ xs) zero (suc j) e = e
set_stays (x ∷ xs) (suc i) zero e = e
set_stays (x ∷ xs) (suc i) (suc j) e = set_stays xs i j e

trues_set : (xs : List Bool) (i : ℕ) → slice_get xs i ≡ Some false → trues (set xs i true) ≡ suc (trues xs)
trues_set [] i e = cc
trues_set (true ∷ xs) zero e = cc
trues_set (false ∷ xs) zero e = refl
trues_set (true ∷ xs) (suc i) e = ap suc (trues_set xs i e)
trues_set (false ∷ xs) (suc i) e = trues_set xs i e

pub trues_few : (xs : List Bool) → trues xs ≤ length xs
trues_few [] = omega arith
trues_few (true ∷ xs) = omega (arith, trues_few xs)
trues_few (false ∷ xs) = omega (arith, trues_few xs)

pub marked_now : (ms : List Bool) (i : ℕ) (b : Bool) → slice_get ms i ≡ Some b → slice_get (set ms i true) i ≡ Some true
marked_now ms i b e = set-same ms i true b e

-- a further check
pub given_more : (es : List Entry) (cs cs' : List Check) (ms : List Bool) (at : ℕ) (c : Check) → IsGiven es cs ms → Fits es c → entry_of c ≡ at → slice_get ms at ≡ Some false → cs' ≡ cs ++ c ∷ [] → IsGiven es cs' (set ms at true)
given_more es cs cs' ms at c g fits of free is =
    subst (λ l. IsGiven es l (set ms at true)) (sym is) (record {
      fits = λ k d e. ⊎_elim (λ old. g.fits k d old) (λ (a, b). subst (Fits es) b fits) (slice_get-last cs c d k e);
      long = length-set ms at true ∙ g.long;
      of_check = λ k d e. ⊎_elim
          (λ old. set_stays ms at (entry_of d) (g.of_check k d old))
          (λ (a, b). let n : at ≡ entry_of d = sym of ∙ ap entry_of b in subst (λ i. slice_get (set ms at true) i ≡ Some true) n (set-same ms at true false free))
          (slice_get-last cs c d k e);
      of_mark = λ i e. ⊎_elim
          (λ (a, v). (length cs, c, get_seam cs [] c, of ∙ sym a))
          (λ old. let m = g.of_mark i old in (m.0, m.1, slice_get-append cs (c ∷ []) m.0 m.1 m.2, m.3))
          (set-at ms at i true true e);
      once = λ k j d f a b same. ⊎_elim
          (λ old. ⊎_elim
          (λ old'. g.once k j d f old old' same)
          (λ (n, is_c). let x = g.of_check k d old in let y : entry_of d ≡ at = same ∙ sym (ap entry_of is_c) ∙ of in let z : slice_get ms at ≡ Some true = subst (λ i. slice_get ms i ≡ Some true) y x in cc)
          (slice_get-last cs c f j b))
          (λ (n, is_c). ⊎_elim
          (λ old'. let x = g.of_check j f old' in let y : entry_of f ≡ at = sym same ∙ sym (ap entry_of is_c) ∙ of in let z : slice_get ms at ≡ Some true = subst (λ i. slice_get ms i ≡ Some true) y x in cc)
          (λ (n', is_c'). n ∙ sym n')
          (slice_get-last cs c f j b))
          (slice_get-last cs c d k a);
      counted = omega (arith, trues_set ms at free, g.counted, length-append cs (c ∷ []));
    })

pub after_none : {A : Type 0} (xs : List A) → After xs xs
after_none xs = ([], sym (append-nil xs))

pub after_more : {A : Type 0} (xs ys zs : List A) → After xs ys → After ys zs → After xs zs
after_more xs ys zs a b = (a.0 ++ b.0, b.1 ∙ ap (λ l. l ++ b.0) a.1 ∙ append_assoc xs a.0 b.0)

pub opens_next : (es : List Entry) (ms ms' : List Bool) (f : ℕ) → OpensMarked es ms f → MarksStay ms ms' → ((e : Entry) (o : Op) (ks : List Tree) (i : ℕ) → slice_get es f ≡ Some e → e.origin ≡ Part o 0 ks i → slice_get ms' i ≡ Some true) → OpensMarked es ms' (f + 1)
opens_next es ms ms' f before stay now g e o ks i h at is = ⊎_elim (λ l. stay i (before g e o ks i l at is)) (λ z. now e o ks i (subst (λ n. slice_get es n ≡ Some e) z at) is) (below_or_last g f h)

pub equals_next : (es : List Entry) (ms ms' : List Bool) (n : ℕ) → EqualsMarked es ms n → MarksStay ms ms' → ((c : Tree) → IsComparedWith es n c → slice_get ms' n ≡ Some true) → EqualsMarked es ms' (n + 1)
equals_next es ms ms' n before stay now i c h k = ⊎_elim (λ l. stay i (before i c l k)) (λ z. subst (λ j. slice_get ms' j ≡ Some true) (sym z) (now c (subst (λ j. IsComparedWith es j c) z k))) (below_or_last i n h)

-- the entry that stands at a place
pub entry_here : (es : List Entry) (f : ℕ) (x e : Entry) → f < length es → x ≡ get_or es f x → slice_get es f ≡ Some e → x ≡ e
entry_here es f x e h own at = let a = slice_get-at es f x h own in cc

pub not_first : (es : List Entry) (f : ℕ) (x e : Entry) (n : ℕ) (o : Op) (ks : List Tree) (i : ℕ) → f < length es → x ≡ get_or es f x → x.origin ≡ Label n → slice_get es f ≡ Some e → e.origin ≡ Part o 0 ks i → ⊥
not_first es f x e n o ks i h own label at is = let s = ap (λ (y : Entry). y.origin) (entry_here es f x e h own at) in cc

pub first_here : (es : List Entry) (f : ℕ) (x e : Entry) (p : Op) (j : ℕ) (qs : List Tree) (m : ℕ) (o : Op) (ks : List Tree) (i : ℕ) → f < length es → x ≡ get_or es f x → x.origin ≡ Part p j qs m → slice_get es f ≡ Some e → e.origin ≡ Part o 0 ks i → (j ≡ 0) × (m ≡ i)
first_here es f x e p j qs m o ks i h own part at is =
    let s = ap (λ (y : Entry). y.origin) (entry_here es f x e h own at) in
    let w : Part p j qs m ≡ Part o 0 ks i = sym part ∙ s ∙ is in
    let a : j ≡ 0 = cc in
    let b : m ≡ i = cc in
    (a, b)

pub of_within : (es : List Entry) (f : ℕ) (x : Entry) (p : Op) (j : ℕ) (qs : List Tree) (m : ℕ) → IsKnown es → f < length es → x ≡ get_or es f x → x.origin ≡ Part p j qs m → m < length es
of_within es f x p j qs m known h own part =
    let k = known.parted f x p j qs m (slice_get-at es f x h own) part in
    let o = k.opened in
    omega (arith, got_within (rows o.front) m _ o.own, rows_length o.front, ap length o.lies, length-append o.front (part_entries o.op o.keys_made m 0 (drop (keys o.op) (list_of o.operands)) ++ o.back))

pub fits_here : (es : List Entry) (f : ℕ) (x : Entry) (p : Op) (j : ℕ) (qs ks : List Tree) (m : ℕ) → f < length es → x ≡ get_or es f x → x.origin ≡ Part p j qs m → j ≡ 0 → ks ≡ qs → Fits es (Open (record { op = p; keys = ks; of = m; first = f }))
fits_here es f x p j qs ks m h own part z same = (x, slice_get-at es f x h own, part ∙ ap (λ n. Part p n qs m) z ∙ ap (λ l. Part p 0 l m) (sym same))

pub mark_is : (ms : List Bool) (i : ℕ) (b c : Bool) → i < length ms → b ≡ get_or ms i b → b ≡ c → slice_get ms i ≡ Some c
mark_is ms i b c h own is = slice_get-at ms i b h own ∙ ap Some is
