-- The entries that are listed to be opened.
use Rattle.std.proofs.Common.{◌≡◌, ℕ, suc, ◌+◌, ◌<◌, ◌≤◌, List, [], ◌∷◌, ◌++◌, length, Option, Some, None, sym, ap, ◌∙◌, subst, arith, inl, inr, ◌⊎◌, ⊎_elim, append_assoc}
use Rattle.std.specs.Prelude.{slice_get}
use Rattle.anb_lemmas.proofs.Numbers.{below_or_not, below_or_last}
use Rattle.anb_lemmas.proofs.Lists.{got_within}
use Rattle.anb_term.specs.Operator.{keys}
use Rattle.anb_term.specs.Tree.{Tree, node}
use Rattle.anb_term.proofs.Lists.{slice_get-append}
use Rattle.anb_close.specs.Rows.{rows_of}
use Rattle.anb_close.specs.Listed.{AreTouched}
use Rattle.anb_close.specs.declared.entry.Entry.{Entry}
use Rattle.anb_close.specs.Entries.{rows, terms_of, keys_for, CanOpen, NoKeys, IsRest, Extends, HasTouched, HasShut, AreDue, unopened}
use Rattle.anb_close.proofs.Rows.{optional}
use Rattle.anb_close.proofs.Finding.{rows_length}
use Rattle.anb_close.proofs.Indexing.{front_get}
use Rattle.anb_close.proofs.Linking.{listed_more, listed_behind}

-- what was touched
are_touched : (rs rs' rs'' : List (Option Tree)) (ks ls : List ℕ) → AreTouched rs rs' ks → AreTouched rs' rs'' ls → AreTouched rs rs'' (ks ++ ls)
are_touched rs rs' rs'' ks ls a b i o us n ms row made = ⊎_elim
    (λ (row', made'). ⊎_elim (λ before. inl before) (λ l. inr (listed_more ks ls i l)) (a i o us n ms row' made'))
    (λ l. inr (listed_behind ks ls i l))
    (b i o us n ms row made)

pub touched_more : (es es' es'' : List Entry) (ks ks' ks'' : List ℕ) → HasTouched es ks es' ks' → HasTouched es' ks' es'' ks'' → HasTouched es ks es'' ks''
touched_more es es' es'' ks ks' ks'' a b = record {
  later = a.later ++ b.later;
  is = b.is ∙ ap (λ l. l ++ b.later) a.is ∙ append_assoc ks a.later b.later;
  touched = are_touched (rows es) (rows es') (rows es'') a.later b.later a.touched b.touched;
}

pub touched_rows : (es es' : List Entry) (ts ts' : List Tree) (ks ks' : List ℕ) → ts ≡ terms_of es → ts' ≡ terms_of es' → (later : List ℕ) × (ks' ≡ ks ++ later) × AreTouched (rows_of ts) (rows_of ts') later → HasTouched es ks es' ks'
touched_rows es es' ts ts' ks ks' is is' (later, more, touched) = record {
  later = later;
  is = more;
  touched = subst (λ l. AreTouched (rows es) (rows_of l) later) is' (subst (λ l. AreTouched (rows_of l) (rows_of ts') later) is touched);
}

pub touched_all : (es es' : List Entry) (ks : List ℕ) → HasTouched es [] es' ks → AreTouched (rows es) (rows es') ks
touched_all es es' ks t = subst (AreTouched (rows es) (rows es')) (sym t.is) t.touched

behind : (ks later : List ℕ) (k i : ℕ) → slice_get later k ≡ Some i → slice_get (ks ++ later) (length ks + k) ≡ Some i
behind [] later k i e = let q : k ≡ 0 + k = omega arith in subst (λ m. slice_get later m ≡ Some i) q e
behind (x ∷ ks) later k i e = let q : suc (length ks + k) ≡ length (x ∷ ks) + k = omega arith in subst (λ m. slice_get (x ∷ (ks ++ later)) m ≡ Some i) q (behind ks later k i e)

-- what can be opened is listed
pub due_first : (es es' : List Entry) (fs fs' : List ℕ) (more : List Entry) (ks : List ℕ) → IsRest es fs → Extends es fs es' fs' more → HasTouched es [] es' ks → AreDue es' fs' ks 0
due_first es es' fs fs' more ks rest extends touched i o us ms can made = ⊎_elim
    (λ (row, before).
    let h = got_within (rows es) i (Some (node o us)) row in
    let shut : slice_get fs i ≡ Some 0 = front_get fs (unopened more) i 0 (omega (arith, h, rows_length es, rest.grown.long)) (subst (λ l. slice_get l i ≡ Some 0) extends.firsts can.closed) in
    let none = rest.shut i o us (record { own = row; can = can.can; some_part = can.some_part; closed = shut }) in
    let no : None ≡ Some ms = sym none ∙ before in
    absurd (let z : ⊥ = cc in z))
    (λ (k, at). (k, omega arith, at))
    (touched_all es es' ks touched i o us (keys o) ms can.own made)

module _ (es es' : List Entry) (fs fs' ks ks' : List ℕ) (from after of : ℕ) (long : length fs ≡ length es) (due : AreDue es fs ks from)
    (passed : (k i : ℕ) → from ≤ k → k < after → slice_get ks k ≡ Some i → (i ≡ of) ⊎ NoKeys es fs i) (within : after ≤ length ks) (touched : HasTouched es ks es' ks') (shut : HasShut fs of fs') where
  pub due_next : AreDue es' fs' ks' after
  due_next i o us ms can made = ⊎_elim
      (λ (row, before).
      let h = got_within (rows es) i (Some (node o us)) row in
      let s = shut i (omega (arith, h, rows_length es, long)) can.closed in
      let could : CanOpen es fs i o us = record { own = row; can = can.can; some_part = can.some_part; closed = s.1 } in
      let d = due i o us ms could before in
      ⊎_elim
      (λ l. ⊎_elim
      (λ same. absurd (s.0 same))
      (λ none. let no : None ≡ Some ms = sym (none o us could) ∙ before in absurd (let z : ⊥ = cc in z))
      (passed d.0 i d.1 l d.2))
      (λ l. (d.0, l, ap (λ x. slice_get x d.0) touched.is ∙ slice_get-append ks touched.later d.0 i d.2))
      (below_or_not d.0 after))
      (λ (k, at). (length ks + k, omega (arith, within), ap (λ x. slice_get x (length ks + k)) touched.is ∙ behind ks touched.later k i at))
      (touched.touched i o us (keys o) ms can.own made)

-- where none that is listed can be opened, none can
pub none_due : (es : List Entry) (fs ks : List ℕ) (from : ℕ) → AreDue es fs ks from → ((k i : ℕ) → from ≤ k → slice_get ks k ≡ Some i → NoKeys es fs i) → (i : ℕ) → NoKeys es fs i
none_due es fs ks from due each i o us can = ⊎_elim
    (λ (ms, made). let d = due i o us ms can made in each d.0 i d.1 d.2 o us can)
    (λ none. none)
    (optional (keys_for es o us))

-- one that is listed is passed
pub none_next : (es : List Entry) (fs ks : List ℕ) (from n x : ℕ) → ((k i : ℕ) → from ≤ k → k < n → slice_get ks k ≡ Some i → NoKeys es fs i) → slice_get ks n ≡ Some x → NoKeys es fs x → (k i : ℕ) → from ≤ k → k < n + 1 → slice_get ks k ≡ Some i → NoKeys es fs i
none_next es fs ks from n x so_far here shut k i h l at = ⊎_elim
    (λ a. so_far k i h a at)
    (λ b.
    let q : slice_get ks n ≡ Some i = subst (λ m. slice_get ks m ≡ Some i) b at in
    let s : x ≡ i = cc in
    subst (NoKeys es fs) s shut)
    (below_or_last k n l)

-- and one that can be opened is found
pub found_next : (es : List Entry) (fs ks : List ℕ) (from n x : ℕ) → ((k i : ℕ) → from ≤ k → k < n → slice_get ks k ≡ Some i → NoKeys es fs i) → slice_get ks n ≡ Some x → (k i : ℕ) → from ≤ k → k < n + 1 → slice_get ks k ≡ Some i → (i ≡ x) ⊎ NoKeys es fs i
found_next es fs ks from n x so_far here k i h l at = ⊎_elim
    (λ a. inr (so_far k i h a at))
    (λ b. let q : slice_get ks n ≡ Some i = subst (λ m. slice_get ks m ≡ Some i) b at in inl (let s : i ≡ x = cc in s))
    (below_or_last k n l)
