-- Flags tell which atoms were seen.
use Rattle.std.proofs.Common.{◌≡◌, ℕ, zero, suc, ◌<◌, List, [], ◌∷◌, ◌++◌, length, get_or, set, Bool, true, false, cond, sym, ap, ◌∙◌, refl, arith, replicate}
use Rattle.std.specs.Prelude.{◌||◌, ◌&&◌, not, filter, nat_eq, ◌==◌}
use Rattle.std.specs.List.{list_any}
use Rattle.std.specs.List.{AllByRecursion}
use Rattle.std.specs.Option.{option_map_or}
use Rattle.std.specs.Prelude.{slice_get}
use Rattle.std.proofs.lemmas.List.{length-set, length-replicate}
use Rattle.std.proofs.lemmas.List.Elements.{filter-append}
use Rattle.anb_lemmas.proofs.Bools.{or_false, or_assoc}
use Rattle.anb_lemmas.proofs.Lists.{unflagged, flag_set}
use Rattle.anb_term.specs.Tree.{Tree}
use Rattle.anb_protocol.specs.Choices.{each_after}
use Rattle.anb_protocol.specs.Names.{distinct, first_new}
use Rattle.anb_protocol.specs.Protocols.{ActionValue, ProtocolValue}
use Rattle.anb_protocol.specs.Texts.{atoms_in, atoms_in_each, known_terms}
use Rattle.anb_protocol.specs.Plans.{messages, occurs, names_number_or_key, is_made, made}
use Rattle.anb_protocol.specs.Seen.{marked, new_among, AreSeen}
use Rattle.anb_protocol.proofs.Afters.{any-append}

or-swap : (a b c : Bool) → (a || (b || c)) ≡ (b || (a || c))
or-swap true true c = refl
or-swap true false c = refl
or-swap false true c = refl
or-swap false false c = refl

-- a flag is set where it was, or its atom is among those marked
pub flag-marked : (flags : List Bool) (atoms : List ℕ) (a : ℕ) → get_or (marked flags atoms) a true ≡ (list_any (λ b. b == a) atoms || get_or flags a true)
flag-marked flags [] a = refl
flag-marked flags (b ∷ atoms) a =
    flag-marked (set flags b true) atoms a ∙ ap (λ v. list_any (λ b. b == a) atoms || v) (flag_set flags b a)
    ∙ or-swap (list_any (λ b. b == a) atoms) (b == a) (get_or flags a true) ∙ sym (or_assoc (b == a) (list_any (λ b. b == a) atoms) (get_or flags a true))

pub length-marked : (flags : List Bool) (atoms : List ℕ) → length (marked flags atoms) ≡ length flags
length-marked flags [] = refl
length-marked flags (b ∷ atoms) = length-marked (set flags b true) atoms ∙ length-set flags b true

-- atoms that are new are those that neither are flagged nor stand before
abbrev pub unseen : List Bool → List ℕ → ℕ → List ℕ
unseen flags before a = cond (list_any (λ b. b == a) before || get_or flags a true) [] (a ∷ [])

marked-last : (fs : List Bool) (bs : List ℕ) (b : ℕ) → marked fs (bs ++ b ∷ []) ≡ set (marked fs bs) b true
marked-last fs [] b = refl
marked-last fs (c ∷ bs) b = marked-last (set fs c true) bs b

set-same : (flags : List Bool) (a : ℕ) → get_or flags a true ≡ true → set flags a true ≡ flags
set-same [] a e = refl
set-same (f ∷ flags) zero e = ap (λ g. g ∷ flags) (sym e)
set-same (f ∷ flags) (suc a) e = ap (λ l. f ∷ l) (set-same flags a e)

new_step : (flags : List Bool) (before atoms : List ℕ) (a : ℕ) (v : Bool) → get_or (marked flags before) a true ≡ v
    → new_among (marked flags (before ++ a ∷ [])) atoms ≡ each_after (unseen flags) (before ++ a ∷ []) atoms
    → new_among (marked flags before) (a ∷ atoms) ≡ each_after (unseen flags) before (a ∷ atoms)
new_step flags before atoms a true e ih =
    let now = marked flags before in
    let rest = each_after (unseen flags) (before ++ a ∷ []) atoms in
    let e1 = ap (λ v. cond v (new_among now atoms) (a ∷ new_among (set now a true) atoms)) e in
    let e2 = ap (λ fs. new_among fs atoms) (sym (marked-last flags before a ∙ set-same now a e)) in
    let e3 : unseen flags before a ≡ [] = ap (λ v. cond v [] (a ∷ [])) (sym (flag-marked flags before a) ∙ e) in
    e1 ∙ e2 ∙ ih ∙ ap (λ l. l ++ rest) (sym e3)
new_step flags before atoms a false e ih =
    let now = marked flags before in
    let rest = each_after (unseen flags) (before ++ a ∷ []) atoms in
    let e1 = ap (λ v. cond v (new_among now atoms) (a ∷ new_among (set now a true) atoms)) e in
    let e2 = ap (λ fs. new_among fs atoms) (sym (marked-last flags before a)) in
    let e3 : unseen flags before a ≡ a ∷ [] = ap (λ v. cond v [] (a ∷ [])) (sym (flag-marked flags before a) ∙ e) in
    e1 ∙ ap (λ l. a ∷ l) (e2 ∙ ih) ∙ ap (λ l. l ++ rest) (sym e3)

new_is : (flags : List Bool) (before atoms : List ℕ) → new_among (marked flags before) atoms ≡ each_after (unseen flags) before atoms
new_is flags before [] = refl
new_is flags before (a ∷ atoms) = new_step flags before atoms a (get_or (marked flags before) a true) refl (new_is flags (before ++ a ∷ []) atoms)

-- a thing that is there stands below the length
pub in_range : {X : Type 0} (f : X → Bool) (xs : List X) (a : ℕ) → option_map_or f (slice_get xs a) false ≡ true → a < length xs
in_range f [] a e = cc
in_range f (x ∷ xs) zero e = omega arith
in_range f (x ∷ xs) (suc a) e = omega (arith, in_range f xs a e)

-- of one atom: whether it is made
one_made : (q b k m s : Bool) (a : ℕ) (r t : ℕ → Bool) → r a ≡ q → t a ≡ (q && not k && not m) → (q ≡ true → s ≡ (k || m))
    → filter r (cond (b || s) [] (a ∷ [])) ≡ filter t (cond b [] (a ∷ []))
one_made q true k m s a r t er et es = refl
one_made true false k m true a r t er et es = picks t a false (et ∙ cases k m (sym (es refl)))
  where
    cases : (k m : Bool) → (k || m) ≡ true → (true && not k && not m) ≡ false
    cases true m e = refl
    cases false true e = refl
    cases false false e = cc

    picks : (t : ℕ → Bool) (a : ℕ) (v : Bool) → t a ≡ false → [] ≡ filter t (a ∷ [])
    picks t a v e = sym (ap (λ b. cond b (a ∷ []) []) e)
one_made true false k m false a r t er et es = ap (λ b. cond b (a ∷ []) []) (er ∙ sym (et ∙ cases k m (sym (es refl))))
  where
    cases : (k m : Bool) → (k || m) ≡ false → (true && not k && not m) ≡ true
    cases true m e = cc
    cases false true e = cc
    cases false false e = refl
one_made false false k m true a r t er et es = sym (ap (λ b. cond b (a ∷ []) []) et)
one_made false false k m false a r t er et es = ap (λ b. cond b (a ∷ []) []) (er ∙ sym et)

module _ (p : ProtocolValue) (before : List ActionValue) (flags : List Bool) (seen : AreSeen p before flags) where
  made_among : (bef atoms : List ℕ) → filter (names_number_or_key p) (each_after (unseen flags) bef atoms) ≡ filter (is_made p before) (each_after (first_new nat_eq) bef atoms)
  made_among bef [] = refl
  made_among bef (a ∷ atoms) =
      let one = one_made (names_number_or_key p a) (list_any (λ b. b == a) bef) (occurs (known_terms p) a) (occurs (messages before) a) (get_or flags a true) a
      (names_number_or_key p) (is_made p before) refl refl (λ e. seen.told a (in_range _ p.atoms a e)) in
      filter-append (names_number_or_key p) (unseen flags bef a) (each_after (unseen flags) (bef ++ a ∷ []) atoms)
      ∙ ap (λ l. l ++ filter (names_number_or_key p) (each_after (unseen flags) (bef ++ a ∷ []) atoms)) one
      ∙ ap (λ l. filter (is_made p before) (first_new nat_eq bef a) ++ l) (made_among (bef ++ a ∷ []) atoms)
      ∙ sym (filter-append (is_made p before) (first_new nat_eq bef a) (each_after (first_new nat_eq) (bef ++ a ∷ []) atoms))

  -- what the flags give is what the sender of a message makes
  pub new-made : (t : Tree) → filter (names_number_or_key p) (new_among flags (atoms_in t)) ≡ made p before t
  new-made t = ap (filter (names_number_or_key p)) (new_is flags [] (atoms_in t)) ∙ made_among [] (atoms_in t)

pub occurs-append : (ts us : List Tree) (a : ℕ) → occurs (ts ++ us) a ≡ (occurs ts a || occurs us a)
occurs-append [] us a = refl
occurs-append (t ∷ ts) us a =
    any-append (λ b. b == a) (atoms_in t) (atoms_in_each (ts ++ us)) ∙ ap (λ v. list_any (λ b. b == a) (atoms_in t) || v) (occurs-append ts us a)
    ∙ sym (or_assoc (list_any (λ b. b == a) (atoms_in t)) (occurs ts a) (occurs us a))
    ∙ ap (λ v. v || occurs us a) (sym (any-append (λ b. b == a) (atoms_in t) (atoms_in_each ts)))

messages-append : (xs ys : List ActionValue) → messages (xs ++ ys) ≡ messages xs ++ messages ys
messages-append [] ys = refl
messages-append (x ∷ xs) ys = ap (λ l. x.message ∷ l) (messages-append xs ys)

-- the flags after one more action
pub seen_more : (p : ProtocolValue) (before : List ActionValue) (flags : List Bool) (x : ActionValue) → AreSeen p before flags → AreSeen p (before ++ x ∷ []) (marked flags (atoms_in x.message))
seen_more p before flags x seen = record {
  sized = length-marked flags (atoms_in x.message) ∙ seen.sized;
  told = λ a h.
      let here = list_any (λ b. b == a) (atoms_in x.message) in
      let later : occurs (messages (before ++ x ∷ [])) a ≡ (occurs (messages before) a || here) =
      ap (λ ts. occurs ts a) (messages-append before (x ∷ [])) ∙ occurs-append (messages before) (x.message ∷ []) a
      ∙ ap (λ v. occurs (messages before) a || v) (any-append (λ b. b == a) (atoms_in x.message) [] ∙ or_false here) in
      flag-marked flags (atoms_in x.message) a ∙ ap (λ v. here || v) (seen.told a h) ∙ joined here (occurs (known_terms p) a) (occurs (messages before) a)
      ∙ ap (λ v. occurs (known_terms p) a || v) (sym later);
}
  where
    joined : (h k m : Bool) → (h || (k || m)) ≡ (k || (m || h))
    joined true true m = refl
    joined true false true = refl
    joined true false false = refl
    joined false true m = refl
    joined false false true = refl
    joined false false false = refl

-- the flags before the first action
pub seen_first : (p : ProtocolValue) → AreSeen p [] (marked (replicate (length p.atoms) false) (atoms_in_each (known_terms p)))
seen_first p = record {
  sized = length-marked (replicate (length p.atoms) false) (atoms_in_each (known_terms p)) ∙ length-replicate (length p.atoms) false;
  told = λ a h. flag-marked (replicate (length p.atoms) false) (atoms_in_each (known_terms p)) a ∙ ap (λ v. occurs (known_terms p) a || v) (unflagged (length p.atoms) a h);
}

-- without flags each atom below the length is new where it stands first
pub new-distinct : (n : ℕ) (before atoms : List ℕ) → AllByRecursion (λ a. a < n) atoms → each_after (unseen (replicate n false)) before atoms ≡ each_after (first_new nat_eq) before atoms
new-distinct n before [] all = refl
new-distinct n before (a ∷ atoms) all =
    let here : unseen (replicate n false) before a ≡ first_new nat_eq before a = ap (λ v. cond v [] (a ∷ [])) (ap (λ v. list_any (λ b. b == a) before || v) (unflagged n a all.0) ∙ or_false (list_any (λ b. b == a) before)) in
    ap (λ l. l ++ each_after (unseen (replicate n false)) (before ++ a ∷ []) atoms) here
    ∙ ap (λ l. first_new nat_eq before a ++ l) (new-distinct n (before ++ a ∷ []) atoms all.1)

pub new_all : (n : ℕ) (atoms : List ℕ) → AllByRecursion (λ a. a < n) atoms → new_among (replicate n false) atoms ≡ distinct nat_eq atoms
new_all n atoms all = new_is (replicate n false) [] atoms ∙ new-distinct n [] atoms all
