-- What a border found stays so while a code goes on, and shows that it is enough.
use Rattle.std.proofs.Common.{◌≡◌, ℕ, zero, suc, ◌+◌, ◌<◌, ◌≤◌, List, [], ◌∷◌, ◌++◌, length, set, Bool, true, false, Option, Some, None, refl, sym, ap, ◌∙◌, subst, inl, inr, ◌⊎◌, ⊎_elim, arith, length-append}
use Rattle.std.specs.Prelude.{slice_get, replicate, ◌↔◌, ◌==◌, if◌then◌else◌}
use Rattle.std.proofs.lemmas.Bool.{eqb-true, eq-eqb}
use Rattle.anb_basis.specs.Checks.{MarksStay}
use Rattle.anb_lemmas.proofs.Bools.{never_both}
use Rattle.anb_lemmas.proofs.Numbers.{below_or_not, below_or_it}
use Rattle.anb_lemmas.proofs.Lists.{get_last, got_within}
use Rattle.anb_term.specs.Tree.{Tree, leaf}
use Rattle.anb_term.proofs.Lists.{slice_get-append, slice_get-last, slice_get-there}
use Rattle.anb_intern.specs.declared.node.NodeId.{NodeId}
use Rattle.anb_plays.specs.Codes.{Work, make, undo, equal}
use Rattle.anb_certify.specs.Classes.{in_class, AreNamed}
use Rattle.anb_certify.specs.Numbered.{AreBelow, AreGrouped, AreSeen, AreSettled, IsFirst, IsKnown, Passes}
use Rattle.anb_certify.specs.Progress.{wanted_test, AreCovered, IsCovered, AreQuiet, AreSet, HasFound, HasRoom, HaveKnown, IsProgress, ProgressValue}
use Rattle.anb_certify.specs.Tied.{AreEnough, Did, KeepsRules, Tied, Ties}
use Rattle.anb_certify.proofs.Classing.{classes_are_tied}
use Rattle.anb_certify.proofs.Grouping.{seen_next, set_long}
use Rattle.anb_certify.proofs.Ruling.{firsts_saturated, passes_keeps}

-- ---- more work

did_wider : (did ds : List (ℕ × Work)) (at : ℕ) (w : Work) → Did did at w → Did (did ++ ds) at w
did_wider [] ds at w d = absurd d
did_wider (y ∷ did) ds at w (inl d) = inl d
did_wider (y ∷ did) ds at w (inr d) = inr (did_wider did ds at w d)

ties_of : (did ds : List (ℕ × Work)) (Q : ℕ → ℕ → Bool) → Ties (did ++ ds) Q → Ties did Q
ties_of did ds Q t = record {
  itself = t.itself;
  turned = t.turned;
  joined = t.joined;
  compared = λ at a b d. t.compared at a b (did_wider did ds at (equal a b) d);
  built = λ at bt o ns ms d e. t.built at bt o ns ms (did_wider did ds at (make o ns) d) (did_wider did ds bt (make o ms) e);
  undone = λ at bt o ks ls n k j d e. t.undone at bt o ks ls n k j (did_wider did ds at (undo o ks n) d) (did_wider did ds bt (undo o ls k) e);
}

tied_wider : (did ds : List (ℕ × Work)) (a b : ℕ) → Tied did a b → Tied (did ++ ds) a b
tied_wider did ds a b h = λ Q t. h Q (ties_of did ds Q t)

known_wider : (did ds : List (ℕ × Work)) (names : List ℕ) (c : ℕ) → IsKnown did names c → IsKnown (did ++ ds) names c
known_wider did ds names c (inl k) = inl (k.0, k.1, k.2, did_wider did ds k.0 (make k.1 k.2) k.3, k.4)
known_wider did ds names c (inr k) = inr (k.0, k.1, k.2, k.3, did_wider did ds k.0 (undo k.1 k.2 k.3) k.4, k.5)

-- what was found stays so while work is done
pub work_on : (ids : List NodeId) (ts : List Tree) (did ds : List (ℕ × Work)) (p : ProgressValue) → IsProgress ids ts did p → IsProgress ids ts (did ++ ds) p
work_on ids ts did ds p h = (
  record {
    few = h.0.few;
    flags_long = h.0.flags_long;
    known_long = h.0.known_long;
    under = h.0.under;
    seen = h.0.seen;
    settled = λ i f a b. tied_wider did ds i f (h.0.settled i f a b);
    known = λ c e. known_wider did ds p.firsts c (h.0.known c e);
    covered = h.0.covered;
    below = h.0.below;
  },
  h.1,
)

-- ---- more registers

module _ (ids is : List NodeId) where
  old_get : (i : ℕ) (id : NodeId) → i < length ids → slice_get (ids ++ is) i ≡ Some id → slice_get ids i ≡ Some id
  old_get i id l e =
      let x = slice_get-there ids i l in
      let f : Some x.0 ≡ Some id = sym (slice_get-append ids is i x.0 x.1) ∙ e in
      x.1 ∙ f

  first_wider : (i f : ℕ) → i < length ids → IsFirst ids i f → IsFirst (ids ++ is) i f
  first_wider i f l x =
      let a = slice_get-there ids i l in
      let here = slice_get-append ids is i a.0 a.1 in
      record {
        here = omega (arith, x.here, length-append ids is);
        same = slice_get-append ids is f a.0 (x.same ∙ a.1) ∙ sym here;
        least = λ k s less. x.least k (old_get k a.0 (omega (arith, less, x.here)) (s ∙ here) ∙ sym a.1) less;
      }

  seen_wider : (seen : List (Option ℕ)) (firsts : List ℕ) → length firsts ≤ length ids → AreSeen ids (length firsts) seen firsts → AreSeen (ids ++ is) (length firsts) seen firsts
  seen_wider seen firsts few h = record {
    some = λ k f e. let s = h.some k f e in (s.0, slice_get-append ids is f s.0 s.1, s.2, s.3);
    least = λ k f i id e there same l. let s = h.some k f e in h.least k f i id e (old_get i id (omega (arith, l, s.3, few)) there) same l;
    none = λ k i id e there same l. h.none k i id e (old_get i id (omega (arith, l, few)) there) same l;
    each = λ i f e. first_wider i f (omega (arith, got_within firsts i f e, few)) (h.each i f e);
  }

covered_wider : (ts us : List Tree) (firsts : List ℕ) (known : List Bool) (pending : List ℕ) → AreCovered ts firsts known pending → AreCovered (ts ++ us) firsts known pending
covered_wider ts us firsts known pending h f e =
    ⊎_elim (λ a. inl a) (λ b. inr (⊎_elim (λ c. inl (c.0, slice_get-append ts us f (leaf c.0) c.1)) (λ d. inr d) b)) (h f e)

-- what was found stays so while registers are written
pub registers_on : (ids is : List NodeId) (ts us : List Tree) (did : List (ℕ × Work)) (p : ProgressValue) → IsProgress ids ts did p → IsProgress (ids ++ is) (ts ++ us) did p
registers_on ids is ts us did p h = (
  record {
    few = omega (arith, h.0.few, length-append ids is);
    flags_long = h.0.flags_long;
    known_long = h.0.known_long;
    under = λ i id l e. h.0.under i id l (old_get ids is i id (omega (arith, l, h.0.few)) e);
    seen = seen_wider ids is p.seen p.firsts h.0.few h.0.seen;
    settled = h.0.settled;
    known = h.0.known;
    covered = covered_wider ts us p.firsts p.known p.pending h.0.covered;
    below = h.0.below;
  },
  h.1,
)

pub registers_come : (ids ids2 is : List NodeId) (ts ts2 us : List Tree) (did : List (ℕ × Work)) (p : ProgressValue) → ids2 ≡ ids ++ is → ts2 ≡ ts ++ us → IsProgress ids ts did p → IsProgress ids2 ts2 did p
registers_come ids ids2 is ts ts2 us did p a b h =
    let A : List NodeId → Type 0 = λ l. IsProgress l (ts ++ us) did p in
    let B : List Tree → Type 0 = λ l. IsProgress ids2 l did p in
    subst B (sym b) (subst A (sym a) (registers_on ids is ts us did p h))

pub work_comes : (ids : List NodeId) (ts : List Tree) (did did2 ds : List (ℕ × Work)) (p : ProgressValue) → did2 ≡ did ++ ds → IsProgress ids ts did p → IsProgress ids ts did2 p
work_comes ids ts did did2 ds p e h =
    let D : List (ℕ × Work) → Type 0 = λ l. IsProgress ids ts l p in
    subst D (sym e) (work_on ids ts did ds p h)

-- ---- one register more

abbrev none_yet : Option ℕ
none_yet = None

known_names : (did : List (ℕ × Work)) (names ns : List ℕ) (c : ℕ) → IsKnown did names c → IsKnown did (names ++ ns) c
known_names did names ns c (inl k) = inl (k.0, k.1, k.2, k.3, slice_get-append names ns k.0 c k.4)
known_names did names ns c (inr k) = inr (k.0, k.1, k.2, k.3, k.4, slice_get-append names ns k.3 c k.5)

pub no_room : (seen : List (Option ℕ)) → HasRoom seen seen
no_room seen = record { kept = λ n o e. e; only = λ n f e. e }

pub room_next : (old new : List (Option ℕ)) → HasRoom old new → HasRoom old (new ++ None ∷ [])
room_next old new h = record {
  kept = λ n o e. slice_get-append new (none_yet ∷ []) n o (h.kept n o e);
  only = λ n f e. ⊎_elim (λ a. h.only n f a) (λ b. (let s : none_yet ≡ Some f = b.1 in absurd (let none : ⊥ = cc in none))) (slice_get-last new none_yet (Some f) n e);
}

-- places of numbers that no register has yet
pub seen_room : (ids : List NodeId) (ts : List Tree) (did : List (ℕ × Work)) (v : ProgressValue) (seen : List (Option ℕ)) → HasRoom v.seen seen → HasFound ids ts did v
    → HasFound ids ts did (record { seen = seen; firsts = v.firsts; flags = v.flags; known = v.known; pending = v.pending })
seen_room ids ts did v seen room h = record {
  few = h.few;
  flags_long = h.flags_long;
  known_long = h.known_long;
  under = λ i id l e. let x = slice_get-there v.seen id.0 (h.under i id l e) in got_within seen id.0 x.0 (room.kept id.0 x.0 x.1);
  seen = record {
    some = λ n f e. h.seen.some n f (room.only n f e);
    least = λ n f i id e. h.seen.least n f i id (room.only n f e);
    none = λ n i id e there same l. (let x = slice_get-there v.seen n (subst (λ z. z < length v.seen) same (h.under i id l there)) in
        let f : Some x.0 ≡ Some none_yet = sym (room.kept n x.0 x.1) ∙ e in
        h.seen.none n i id (x.1 ∙ f) there same l);
    each = h.seen.each;
  };
  settled = h.settled;
  known = h.known;
  covered = h.covered;
  below = h.below;
}

pub found_same : (ids : List NodeId) (ts : List Tree) (did : List (ℕ × Work)) (v w : ProgressValue) → w.seen ≡ v.seen → w.firsts ≡ v.firsts → w.flags ≡ v.flags → w.known ≡ v.known → w.pending ≡ v.pending
    → HasFound ids ts did v → HasFound ids ts did w
found_same ids ts did v w a b c d e h =
    let A : List (Option ℕ) → Type 0 = λ l. HasFound ids ts did (record { seen = l; firsts = v.firsts; flags = v.flags; known = v.known; pending = v.pending }) in
    let B : List ℕ → Type 0 = λ l. HasFound ids ts did (record { seen = w.seen; firsts = l; flags = v.flags; known = v.known; pending = v.pending }) in
    let C : List Bool → Type 0 = λ l. HasFound ids ts did (record { seen = w.seen; firsts = w.firsts; flags = l; known = v.known; pending = v.pending }) in
    let D : List Bool → Type 0 = λ l. HasFound ids ts did (record { seen = w.seen; firsts = w.firsts; flags = w.flags; known = l; pending = v.pending }) in
    let E : List ℕ → Type 0 = λ l. HasFound ids ts did (record { seen = w.seen; firsts = w.firsts; flags = w.flags; known = w.known; pending = l }) in
    subst E (sym e) (subst D (sym d) (subst C (sym c) (subst B (sym b) (subst A (sym a) h))))

module _ (ids : List NodeId) (ts : List Tree) (did : List (ℕ × Work)) (v : ProgressValue) (i : ℕ) (id : NodeId) (here : slice_get ids i ≡ Some id) (long : length v.firsts ≡ i)
    (below : id.0 < length v.seen) (h : HasFound ids ts did v) where
  -- it is listed where it is the first with its number
  abbrev Joins : ℕ → List ℕ → Type 0
  Joins first pending = ((first ≡ i) × (pending ≡ v.pending ++ first ∷ [])) ⊎ ((first ≡ i → ⊥) × (pending ≡ v.pending))

  joins : (first : ℕ) (b : Bool) (pending : List ℕ) → (first == i) ≡ b → pending ≡ (if b then v.pending ++ first ∷ [] else v.pending) → Joins first pending
  joins first true pending e is = inl (eqb-true first i e, is)
  joins first false pending e is = inr (λ s. (let f : true ≡ false = sym (eq-eqb first i s) ∙ e in let none : ⊥ = cc in none), is)

  pub enter_next : (first : ℕ) (o : Option ℕ) (b : Bool) (pending : List ℕ) → slice_get v.seen id.0 ≡ Some o → (o ≡ Some first) ⊎ ((o ≡ None) × (first ≡ i)) → (b ≡ true → first ≡ i)
      → Joins first pending
      → HasFound ids ts did (record { seen = set v.seen id.0 (Some first); firsts = v.firsts ++ first ∷ []; flags = v.flags ++ b ∷ []; known = v.known ++ false ∷ []; pending = pending })
  enter_next first o b pending at is flag case = record {
    few = omega (arith, count, got_within ids i id here);
    flags_long = omega (arith, h.flags_long, length-append v.flags (b ∷ []), length-append v.firsts (first ∷ []));
    known_long = omega (arith, h.known_long, length-append v.known (false ∷ []), length-append v.firsts (first ∷ []));
    under = λ k j l e. subst (λ n. j.0 < n) (sym (set_long v.seen id.0 (Some first))) (⊎_elim (λ less. h.under k j (omega (arith, less, long)) e) (λ s. (let f : Some id ≡ Some j = sym here ∙ ap (slice_get ids) s ∙ e in let q : id ≡ j = cc in subst (λ (z : NodeId). z.0 < length v.seen) q below)) (below_or_it k i (omega (arith, l, count))));
    seen = subst (λ n. AreSeen ids n (set v.seen id.0 (Some first)) (v.firsts ++ first ∷ [])) (sym count) (seen_next ids i id v.seen v.firsts here long (subst (λ n. AreSeen ids n v.seen v.firsts) long h.seen) first o at is);
    settled = λ k f a e. ⊎_elim (λ x. ⊎_elim (λ y. h.settled k f x y) (λ y. absurd (omega (arith, y.0, got_within v.flags k true x, h.flags_long))) (slice_get-last v.firsts first f k e))
        (λ x. ⊎_elim (λ y. absurd (omega (arith, x.0, got_within v.firsts k f y, h.flags_long))) (λ y. itself k f (x.0 ∙ h.flags_long ∙ long ∙ sym (flag x.1) ∙ y.1)) (slice_get-last v.firsts first f k e)) (slice_get-last v.flags b true k a);
    known = λ c e. ⊎_elim (λ x. known_names did v.firsts (first ∷ []) c (h.known c x)) (λ x. (let s : false ≡ true = x.1 in absurd (let none : ⊥ = cc in none))) (slice_get-last v.known false true c e);
    covered = λ f e. ⊎_elim (λ x. was_covered f (h.covered f x)) (λ x. inr (inr (listed f (x.1 ∙ x.0 ∙ long) (x.1)))) (slice_get-last v.firsts first f f e);
    below = below_next case;
  } where
    count : length (v.firsts ++ first ∷ []) ≡ i + 1
    count = omega (arith, length-append v.firsts (first ∷ []), long)

    itself : (a c : ℕ) → a ≡ c → Tied did a c
    itself a c e = λ Q s. subst (λ z. Q a z ≡ true) e (s.itself a)

    was_listed : (f : ℕ) → Joins first pending → (k : ℕ) × (slice_get v.pending k ≡ Some f) → (k : ℕ) × (slice_get pending k ≡ Some f)
    was_listed f (inl c) k = (k.0, ap (λ l. slice_get l k.0) c.1 ∙ slice_get-append v.pending (first ∷ []) k.0 f k.1)
    was_listed f (inr c) k = (k.0, ap (λ l. slice_get l k.0) c.1 ∙ k.1)

    was_covered : (f : ℕ) → (slice_get v.known f ≡ Some true) ⊎ (((m : ℕ) × (slice_get ts f ≡ Some (leaf m))) ⊎ ((k : ℕ) × (slice_get v.pending k ≡ Some f)))
        → (slice_get (v.known ++ false ∷ []) f ≡ Some true) ⊎ (((m : ℕ) × (slice_get ts f ≡ Some (leaf m))) ⊎ ((k : ℕ) × (slice_get pending k ≡ Some f)))
    was_covered f (inl k) = inl (slice_get-append v.known (false ∷ []) f true k)
    was_covered f (inr (inl m)) = inr (inl m)
    was_covered f (inr (inr k)) = inr (inr (was_listed f case k))

    listed_by : (f : ℕ) → first ≡ i → first ≡ f → Joins first pending → (k : ℕ) × (slice_get pending k ≡ Some f)
    listed_by f e s (inl c) = (length v.pending, ap (λ l. slice_get l (length v.pending)) c.1 ∙ get_last v.pending first ∙ ap Some s)
    listed_by f e s (inr c) = absurd (c.0 e)

    listed : (f : ℕ) → first ≡ i → first ≡ f → (k : ℕ) × (slice_get pending k ≡ Some f)
    listed f e s = listed_by f e s case

    below_next : Joins first pending → AreBelow (length (v.firsts ++ first ∷ [])) pending
    below_next (inl c) k x e = ⊎_elim (λ y. omega (arith, h.below k x y, count, long)) (λ y. omega (arith, y.1, c.0, count)) (slice_get-last v.pending first x k (ap (λ l. slice_get l k) (sym c.1) ∙ e))
    below_next (inr c) k x e = omega (arith, h.below k x (ap (λ l. slice_get l k) (sym c.1) ∙ e), count, long)

  pub entered : (first : ℕ) → (slice_get v.seen id.0 ≡ Some (Some first)) ⊎ ((slice_get v.seen id.0 ≡ Some None) × (first ≡ i))
      → HasFound ids ts did (record { seen = set v.seen id.0 (Some first); firsts = v.firsts ++ first ∷ []; flags = v.flags ++ (first == i) ∷ []; known = v.known ++ false ∷ []; pending = if first == i then v.pending ++ first ∷ [] else v.pending })
  entered first (inl e) = enter_next first (Some first) (first == i) _ e (inl refl) (eqb-true first i) (joins first (first == i) _ refl refl)
  entered first (inr e) = enter_next first None (first == i) _ e.0 (inr (refl, e.1)) (eqb-true first i) (joins first (first == i) _ refl refl)

-- ---- what is left of the list

-- a register of the list was looked at
pub left_on : (ts : List Tree) (known : List Bool) (pending left left2 : List ℕ) (i r : ℕ) → slice_get pending i ≡ Some r
    → (left2 ≡ left ++ r ∷ []) ⊎ ((left2 ≡ left) × ((slice_get known r ≡ Some true) ⊎ ((m : ℕ) × (slice_get ts r ≡ Some (leaf m)))))
    → ((k f : ℕ) → k < i → slice_get pending k ≡ Some f → IsCovered ts known left f) → (k f : ℕ) → k < i + 1 → slice_get pending k ≡ Some f → IsCovered ts known left2 f
left_on ts known pending left left2 i r here case h k f l e = ⊎_elim (λ less. old case (h k f less e)) (λ s. (let g : Some r ≡ Some f = sym here ∙ ap (slice_get pending) s ∙ e in let same : r ≡ f = cc in subst (IsCovered ts known left2) same (own case))) (below_or_it k i l) where
  old : (left2 ≡ left ++ r ∷ []) ⊎ ((left2 ≡ left) × ((slice_get known r ≡ Some true) ⊎ ((m : ℕ) × (slice_get ts r ≡ Some (leaf m))))) → IsCovered ts known left f → IsCovered ts known left2 f
  old c (inl a) = inl a
  old c (inr (inl a)) = inr (inl a)
  old (inl s) (inr (inr a)) = inr (inr (a.0, ap (λ l. slice_get l a.0) s ∙ slice_get-append left (r ∷ []) a.0 f a.1))
  old (inr s) (inr (inr a)) = inr (inr (a.0, ap (λ l. slice_get l a.0) s.0 ∙ a.1))

  own : (left2 ≡ left ++ r ∷ []) ⊎ ((left2 ≡ left) × ((slice_get known r ≡ Some true) ⊎ ((m : ℕ) × (slice_get ts r ≡ Some (leaf m))))) → IsCovered ts known left2 r
  own (inl s) = inr (inr (length left, ap (λ l. slice_get l (length left)) s ∙ get_last left r))
  own (inr s) = ⊎_elim (λ a. inl a) (λ a. inr (inl a)) s.1

pub below_last : (n : ℕ) (left left2 : List ℕ) (r : ℕ) → left2 ≡ left ++ r ∷ [] → r < n → AreBelow n left → AreBelow n left2
below_last n left left2 r s l h k c e = ⊎_elim (λ a. h k c a) (λ a. subst (λ z. z < n) a.1 l) (slice_get-last left r c k (ap (λ q. slice_get q k) (sym s) ∙ e))

-- what is listed later covers as well
pub covered_on : (ts : List Tree) (firsts : List ℕ) (known known2 : List Bool) (pending : List ℕ) → MarksStay known known2 → AreCovered ts firsts known pending → AreCovered ts firsts known2 pending
covered_on ts firsts known known2 pending stay h f e = ⊎_elim (λ a. inl (stay f a)) (λ b. inr b) (h f e)

pub covered_left : (ts : List Tree) (firsts : List ℕ) (known : List Bool) (pending left : List ℕ) → ((k f : ℕ) → k < length pending → slice_get pending k ≡ Some f → IsCovered ts known left f) → AreCovered ts firsts known pending → AreCovered ts firsts known left
covered_left ts firsts known pending left h all f e = go (all f e) where
  go : IsCovered ts known pending f → IsCovered ts known left f
  go (inl a) = inl a
  go (inr (inl a)) = inr (inl a)
  go (inr (inr a)) = h a.0 f (got_within pending a.0 f a.1) a.1

-- ---- flags

-- those that were set stay so, and the new ones are set
pub set_by_parts : (old new : List Bool) → AreSet old → MarksStay old new → ((i : ℕ) (b : Bool) → length old ≤ i → slice_get new i ≡ Some b → b ≡ true) → AreSet new
set_by_parts old new was stay all i b e = ⊎_elim (λ l. (let x = slice_get-there old i l in let f : Some true ≡ Some b = sym (stay i (x.1 ∙ ap Some (was i x.0 x.1))) ∙ e in cc))
    (λ l. all i b l e) (below_or_not i (length old))

-- ---- enough

module _ (ts : List Tree) (did : List (ℕ × Work)) (firsts : List ℕ) (flags known : List Bool) (pending : List ℕ) (g : AreGrouped ts did firsts) (long : length flags ≡ length firsts)
    (settled : AreSettled did firsts flags) (all : AreSet flags) (knows : HaveKnown did firsts known) (covered : AreCovered ts firsts known pending) (quiet : AreQuiet ts pending) where
  named : AreNamed did firsts
  named i c e =
      let x = slice_get-there flags i (omega (arith, got_within firsts i c e, long)) in
      settled i c (x.1 ∙ ap Some (all i x.0 x.1)) e

  exact : (a b : ℕ) → Tied did a b ↔ (in_class firsts a b ≡ true)
  exact = classes_are_tied did firsts (firsts_saturated did ts firsts g) named

  passes : (i : ℕ) (t : Tree) → slice_get ts i ≡ Some t → Passes firsts firsts known (wanted_test ts t) i
  passes i t here =
      let x = slice_get-there firsts i (omega (arith, got_within ts i t here, g.long)) in
      let f = x.0 in
      let at : slice_get ts f ≡ Some t = g.there i f x.1 ∙ here in
      let own : slice_get firsts f ≡ Some f = g.alike f i (at ∙ sym here) ∙ x.1 in
      record {
        first = f;
        class = f;
        is_first = x.1;
        of_first = own;
        of_it = x.1;
        as_wanted = λ w. ⊎_elim (λ a. a)
            (λ b. ⊎_elim (λ c. absurd (let s : Some t ≡ Some (leaf c.0) = sym at ∙ c.1 in let e : t ≡ leaf c.0 = cc in never_both (wanted_test ts t) w (ap (wanted_test ts) e))) (λ d. absurd (never_both (wanted_test ts t) w (quiet d.0 f t d.1 at))) b)
            (covered f own);
      }

  keeps : (n i : ℕ) → i < n → i < length ts → KeepsRules did ts i
  keeps zero i l w = absurd (omega (arith, l))
  keeps (suc n) i l w =
      let x = slice_get-there ts i w in
      passes_keeps did ts firsts firsts known g exact refl i x.0 x.1 (λ k less. keeps n k (omega (arith, l, less)) (omega (arith, less, w))) knows (passes i x.0 x.1)

  pub enough : AreEnough did ts
  enough i w = keeps (suc i) i (omega arith) w

-- where the code is enough, each register is tied to the first of its term
pub all_settled : (ids : List NodeId) (ts : List Tree) (did : List (ℕ × Work)) (firsts : List ℕ) (flags : List Bool) → AreGrouped ts did firsts → AreEnough did ts → AreSettled did firsts flags
all_settled ids ts did firsts flags g enough i f a e =
    let w = got_within firsts i f e in
    let t = slice_get-there ts i (omega (arith, w, g.long)) in
    ⊎_elim (λ l. λ Q s. s.turned f i ((enough i (omega (arith, w, g.long))).alike f t.0 l (g.there i f e ∙ t.1) t.1 Q s)) (λ s. λ Q q. subst (λ z. Q i z ≡ true) (sym s) (q.itself i)) (below f i (g.least i f e)) where
      below : (f k : ℕ) → f < suc k → (f < k) ⊎ (f ≡ k)
      below zero zero l = inr refl
      below zero (suc k) l = inl (omega arith)
      below (suc f) zero l = absurd (omega (arith, l))
      below (suc f) (suc k) l = ⊎_elim (λ a. inl (omega (arith, a))) (λ b. inr (ap suc b)) (below f k (omega (arith, l)))

pub all_set : (n : ℕ) → AreSet (replicate n true)
all_set zero i b e = cc
all_set (suc n) zero b e = (let f : Some true ≡ Some b = e in cc)
all_set (suc n) (suc i) b e = all_set n i b e
