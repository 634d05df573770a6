-- Each term is built once.
use Rattle.std.proofs.Common.{◌≡◌, ℕ, ◌+◌, ◌≤◌, List, [], ◌∷◌, ◌++◌, length, map, Bool, true, false, cond, Option, Some, None, refl, sym, ap, ◌∙◌, subst, arith, inl, inr}
use Rattle.std.specs.Prelude.{slice_get, count_by, option_and_then}
use Rattle.std.specs.List.{AllByRecursion, IsDistinct}
use Rattle.std.specs.Set.{is_member, unique_keys, distinct_count}
use Rattle.std.specs.Cmp.{IsEquivalence}
use Rattle.std.proofs.lemmas.Bool.{or_left, or_right, or_cases}
use Rattle.std.proofs.lemmas.List.Folds.{list_any-append}
use Rattle.std.proofs.lemmas.List.Sums.{sum_by-append, sum_by-cons}
use Rattle.std.proofs.lemmas.Map.Made.{length-le_from_is_member}
use Rattle.anb_lemmas.proofs.Options.{mapped_from}
use Rattle.anb_term.specs.declared.term.Op.{Op}
use Rattle.anb_term.specs.Tree.{Tree, leaf, node, Trees, none, more, trees_of, list_of, tree_eqb}
use Rattle.anb_term.specs.TreeSame.{tree_same, tree_itself}
use Rattle.anb_close.specs.Rows.{place, made_for, mades_for}
use Rattle.anb_close.specs.declared.entry.Entry.{Entry}
use Rattle.anb_close.specs.Entries.{rows, terms_of}
use Rattle.anb_close.proofs.Rows.{optional, both_some, built_some, mades_later}
use Rattle.anb_close.proofs.Finding.{rows_append}
use Rattle.anb_basis.specs.declared.check.Check.{Check}
use Rattle.anb_code.specs.declared.instr.Instr.{Instr}
use Rattle.anb_code.specs.declared.instr.Instr.TheVariants.{Take, Fresh, Recv}
use Rattle.anb_protocol.specs.Plans.{PlanEvent, to_know, to_make, to_send, to_receive, term_in}
use Rattle.anb_protocol.specs.Plays.{event_of}
use Rattle.anb_compile.specs.Writing.{Context}
use Rattle.anb_compile.proofs.Laying.{IsLabelling}
use Rattle.anb_compile.specs.declared.built.Built.{Built}
use Rattle.anb_compile.specs.declared.writer.Writer.{Writer}
use Rattle.anb_compile.specs.Counted.{is_building, subterms, subterms_of}
use Rattle.anb_compile.specs.Sharing.{key, register_at}
use Rattle.anb_compile.specs.Once.{IsMade, Builds, BuiltStays, both_registers, register_of, registers_of, WasBuilt, IsSharing, IsChosen, AreChosen, Shares, SharesEach, IsChosenCheck, SharesChecks, event_term, subterms_in, AllAmong, EachAmong}

-- ---- trees are told apart

pub trees_equal : IsEquivalence tree_eqb
trees_equal = record { refl = tree_itself; symm = λ x y. turned (tree_eqb x y) (tree_eqb y x) x y refl refl; congr = λ x y z e. ap (λ q. tree_eqb q z) (tree_same x y e) }
  where
    turned : (a b : Bool) (x y : Tree) → tree_eqb x y ≡ a → tree_eqb y x ≡ b → a ≡ b
    turned true true x y e f = refl
    turned false false x y e f = refl
    turned true false x y e f = let t : tree_eqb y x ≡ true = ap (λ q. tree_eqb q x) (sym (tree_same x y e)) ∙ tree_itself x in cc
    turned false true x y e f = let t : tree_eqb x y ≡ true = ap (λ q. tree_eqb q y) (sym (tree_same y x f)) ∙ tree_itself y in cc

-- whatever is there is among those that differ
module _ (q : Tree) where
  one_kept : (b : Bool) (x : Tree) (xs kept : List Tree) → is_member tree_eqb xs x ≡ b → (is_member tree_eqb xs q ≡ true → is_member tree_eqb kept q ≡ true) → is_member tree_eqb (x ∷ xs) q ≡ true
      → is_member tree_eqb (cond b kept (x ∷ kept)) q ≡ true
  one_kept true x xs kept is next e = elim (or_cases (tree_eqb q x) (is_member tree_eqb xs q) e) [
    | inl a ↦ next (let P : Tree → Type 0 = λ t. is_member tree_eqb xs t ≡ true in subst P (sym (tree_same q x a)) is)
    | inr a ↦ next a
  ]
  one_kept false x xs kept is next e = elim (or_cases (tree_eqb q x) (is_member tree_eqb xs q) e) [ inl a ↦ rw a refl | inr a ↦ or_right (tree_eqb q x) (is_member tree_eqb kept q) (next a) ]

  still_there : (xs : List Tree) → is_member tree_eqb xs q ≡ true → is_member tree_eqb (unique_keys tree_eqb xs) q ≡ true
  still_there [] e = e
  still_there (x ∷ xs) e = one_kept (is_member tree_eqb xs x) x xs (unique_keys tree_eqb xs) refl (still_there xs) e

pub few_differ : (terms ts : List Tree) → IsDistinct tree_eqb terms → ((t : Tree) → is_member tree_eqb terms t ≡ true → is_member tree_eqb ts t ≡ true) → length terms ≤ distinct_count tree_eqb ts
few_differ terms ts differ among = length-le_from_is_member trees_equal terms (unique_keys tree_eqb ts) differ (λ q h. still_there q ts (among q h))

-- ---- registers of compositions

both_are : (o : Option ℕ) (p : Option (List ℕ)) (rs : List ℕ) → both_registers o p ≡ Some rs → (r : ℕ) × (ns : List ℕ) × (o ≡ Some r) × (p ≡ Some ns) × (rs ≡ r ∷ ns)
both_are None p rs e = cc
both_are (Some r) None rs e = cc
both_are (Some r) (Some ns) rs e = (r, ns, refl, refl, cc)

are_both : (o : Option ℕ) (p : Option (List ℕ)) (r : ℕ) (ns : List ℕ) → o ≡ Some r → p ≡ Some ns → both_registers o p ≡ Some (r ∷ ns)
are_both o p r ns e f = rw (e, f) refl

then_some : (o : Option (List ℕ)) (f : List ℕ → Option ℕ) (r : ℕ) → option_and_then f o ≡ Some r → (ns : List ℕ) × (o ≡ Some ns) × (f ns ≡ Some r)
then_some None f r e = cc
then_some (Some ns) f r e = (ns, refl, e)

-- one that has a register keeps it
module _ (places later : List ℕ) (b c : Built) (entries : (n k : ℕ) → slice_get places n ≡ Some k → slice_get later n ≡ Some k) (stays : (q : List ℕ) (s : ℕ) → register_at b q ≡ Some s → register_at c q ≡ Some s) where
  mutual
    pub register_stays : (m : Tree) (r : ℕ) → register_of places b m ≡ Some r → register_of later c m ≡ Some r
    register_stays (leaf n) r e = entries n r e
    register_stays (node o ms) r e =
        let h = then_some (registers_of places b ms) (λ ns. register_at b (key o ns)) r e in
        ap (option_and_then (λ ns. register_at c (key o ns))) (registers_stay ms h.0 h.1) ∙ stays (key o h.0) r h.2

    pub registers_stay : (ms : Trees) (rs : List ℕ) → registers_of places b ms ≡ Some rs → registers_of later c ms ≡ Some rs
    registers_stay none rs e = e
    registers_stay (more m ms) rs e =
        let h = both_are (register_of places b m) (registers_of places b ms) rs e in
        are_both (register_of later c m) (registers_of later c ms) h.0 h.1 (register_stays m h.0 h.2) (registers_stay ms h.1 h.3) ∙ ap Some (sym h.4)

registers_more : (places : List ℕ) (b : Built) (ms : List Tree) (m : Tree) (ns : List ℕ) (r : ℕ) → registers_of places b (trees_of ms) ≡ Some ns → register_of places b m ≡ Some r
    → registers_of places b (trees_of (ms ++ m ∷ [])) ≡ Some (ns ++ r ∷ [])
registers_more places b [] m ns r e f = let s : [] ≡ ns = cc in are_both (register_of places b m) (Some []) r [] f refl ∙ ap (λ l. Some (l ++ r ∷ [])) s
registers_more places b (x ∷ ms) m ns r e f =
    let h = both_are (register_of places b x) (registers_of places b (trees_of ms)) ns e in
    are_both (register_of places b x) (registers_of places b (trees_of (ms ++ m ∷ []))) h.0 (h.1 ++ r ∷ []) h.2 (registers_more places b ms m h.1 r h.3 f) ∙ ap (λ l. Some (l ++ r ∷ [])) (sym h.4)

-- ---- what was built was built

were_stay : (rs rs' : List (Option Tree)) (old new : Writer) → ((ts ms : Trees) → mades_for rs ts ≡ Some ms → mades_for rs' ts ≡ Some ms)
    → ((n k : ℕ) → slice_get old.places.items n ≡ Some k → slice_get new.places.items n ≡ Some k) → BuiltStays old new
    → (terms : List Tree) → AllByRecursion (WasBuilt rs old) terms → AllByRecursion (WasBuilt rs' new) terms
were_stay rs rs' old new mades entries stays [] all = tt
were_stay rs rs' old new mades entries stays (t ∷ terms) all =
    let a = all.0 in (
      record {
        op = a.op;
        operands = a.operands;
        made = a.made;
        register = a.register;
        is = a.is;
        chosen = mades a.operands a.made a.chosen;
        here = register_stays old.places.items new.places.items old.built new.built entries stays (node a.op a.made) a.register a.here;
      },
      were_stay rs rs' old new mades entries stays terms all.1,
    )

-- nothing was built since
pub sharing_on : (ts : List Tree) (rs rs' : List (Option Tree)) (old new : Writer) → ((us ms : Trees) → mades_for rs us ≡ Some ms → mades_for rs' us ≡ Some ms)
    → ((n k : ℕ) → slice_get old.places.items n ≡ Some k → slice_get new.places.items n ≡ Some k) → new.built ≡ old.built → count_by is_building new.code.items ≡ count_by is_building old.code.items
    → IsSharing ts rs old → IsSharing ts rs' new
sharing_on ts rs rs' old new mades entries same count s = record {
  terms = s.terms;
  counted = count ∙ s.counted;
  differ = s.differ;
  among = s.among;
  were = were_stay rs rs' old new mades entries (λ q r e. let P : Built → Type 0 = λ b. register_at b q ≡ Some r in subst P (sym same) e) s.terms s.were;
}

pub count_put : (is is' : List Instr) (x : Instr) (b : Bool) → is' ≡ is ++ x ∷ [] → is_building x ≡ b → count_by is_building is' ≡ count_by is_building is + cond b 1 0
count_put is is' x b e f =
    let one : count_by is_building (x ∷ []) ≡ cond b 1 0 = counted x b f in
    ap (count_by is_building) e ∙ sum_by-append (λ i. cond {A = ℕ} (is_building i) 1 0) is (x ∷ []) ∙ ap (λ n. count_by is_building is + n) one
  where
    counted : (x : Instr) (b : Bool) → is_building x ≡ b → count_by is_building (x ∷ []) ≡ cond b 1 0
    counted x b f = rw f (let n : 0 + cond {A = ℕ} b 1 0 ≡ cond {A = ℕ} b 1 0 = omega arith in n)

pub none_put : (is is' : List Instr) (x : Instr) → is' ≡ is ++ x ∷ [] → is_building x ≡ false → count_by is_building is' ≡ count_by is_building is
none_put is is' x e f = omega (arith, count_put is is' x false e f)

-- ---- compositions

pub entry_shares : (w : Writer) (n k : ℕ) → slice_get w.places.items n ≡ Some k → Shares w w (leaf n) k
entry_shares w n k e ts rs chosen s = record { sharing = s; here = e }

chosen_front : (ts : List Tree) (rs : List (Option Tree)) (ms : List Tree) (m : Tree) → AreChosen ts rs (trees_of (ms ++ m ∷ [])) → AreChosen ts rs (trees_of ms) × IsChosen ts rs m
chosen_front ts rs [] m h = (tt, h.0)
chosen_front ts rs (x ∷ ms) m h = let a = chosen_front ts rs ms m h.1 in ((h.0, a.0), a.1)

pub more_share : (old mid new : Writer) (ms : List Tree) (ns : List ℕ) (m : Tree) (r : ℕ) → SharesEach old mid ms ns → Shares mid new m r → new.places ≡ mid.places → BuiltStays mid new
    → SharesEach old new (ms ++ m ∷ []) (ns ++ r ∷ [])
more_share old mid new ms ns m r each one same stays ts rs chosen s =
    let c = chosen_front ts rs ms m chosen in
    let a = each ts rs c.0 s in
    let b = one ts rs c.1 a.sharing in
    let entries : (n k : ℕ) → slice_get mid.places.items n ≡ Some k → slice_get new.places.items n ≡ Some k = λ n k e. ap (λ p. slice_get p.items n) same ∙ e in
    record {
      sharing = b.sharing;
      here = registers_more new.places.items new.built ms m ns r (registers_stay mid.places.items new.places.items mid.built new.built entries stays (trees_of ms) ns a.here) b.here;
    }

-- what has a register now had none before, and so is new
is_new : (b : Bool) (rs : List (Option Tree)) (w : Writer) (o : Op) (us ms : Trees) (ns : List ℕ) (terms : List Tree) → tree_eqb (node o us) (node o us) ≡ true → mades_for rs us ≡ Some ms
    → registers_of w.places.items w.built ms ≡ Some ns → register_at w.built (key o ns) ≡ None → AllByRecursion (WasBuilt rs w) terms → AllByRecursion (λ y. tree_eqb (node o us) y ≡ false) terms
is_new b rs w o us ms ns [] self chosen here absent all = tt
is_new b rs w o us ms ns (t ∷ terms) self chosen here absent all = (other (tree_eqb (node o us) t) t refl all.0, is_new b rs w o us ms ns terms self chosen here absent all.1)
  where
    none_here : register_of w.places.items w.built (node o ms) ≡ None
    none_here = ap (option_and_then (λ l. register_at w.built (key o l))) here ∙ absent

    was : (a : WasBuilt rs w (node o us)) → tree_eqb (node o us) (node o us) ≡ false
    was a =
        let ops : o ≡ a.op = (let q = a.is in cc) in
        let operands : us ≡ a.operands = (let q = a.is in cc) in
        let made : ms ≡ a.made = (let p = a.chosen in let q = ap (mades_for rs) operands in cc) in
        let P : Op → Type 0 = λ p. register_of w.places.items w.built (node p ms) ≡ None in
        let Q : Trees → Type 0 = λ l. register_of w.places.items w.built (node a.op l) ≡ None in
        let n = subst Q made (subst P ops none_here) in
        let h = a.here in
        cc

    other : (c : Bool) (t : Tree) → tree_eqb (node o us) t ≡ c → WasBuilt rs w t → tree_eqb (node o us) t ≡ false
    other false t e a = e
    other true t e a =
        let s = tree_same (node o us) t e in
        let P : Tree → Type 0 = λ q. WasBuilt rs w q in
        let Q : Tree → Type 0 = λ q. tree_eqb (node o us) q ≡ false in
        subst Q s (was (subst P (sym s) a))

made_shares : (ts : List Tree) (rs : List (Option Tree)) (mid new : Writer) (o : Op) (us ms : Trees) (ns : List ℕ) (r : ℕ) → is_member tree_eqb ts (node o us) ≡ true → mades_for rs us ≡ Some ms
    → IsMade mid new o ns r → IsSharing ts rs mid → registers_of mid.places.items mid.built ms ≡ Some ns → IsSharing ts rs new × (register_of new.places.items new.built (node o ms) ≡ Some r)
unfolding IsDistinct
made_shares ts rs mid new o us ms ns r member chosen m s here =
    let t = node o us in
    let entries : (n k : ℕ) → slice_get mid.places.items n ≡ Some k → slice_get new.places.items n ≡ Some k = λ n k e. ap (λ p. slice_get p.items n) m.places ∙ e in
    let stays = m.keeps.stays in
    let now : register_of new.places.items new.built (node o ms) ≡ Some r =
    ap (option_and_then (λ l. register_at new.built (key o l))) (registers_stay mid.places.items new.places.items mid.built new.built entries stays ms ns here) ∙ m.keeps.here in (
      record {
        terms = t ∷ s.terms;
        counted = omega (arith, count_put mid.code.items new.code.items m.instr true m.code m.building, s.counted);
        differ = (is_new true rs mid o us ms ns s.terms (tree_itself t) chosen here m.absent s.were, s.differ);
        among = λ q e. elim (or_cases (tree_eqb q t) (is_member tree_eqb s.terms q) e) [
          | inl a ↦ (let P : Tree → Type 0 = λ x. is_member tree_eqb ts x ≡ true in subst P (sym (tree_same q t a)) member)
          | inr a ↦ s.among q a
        ];
        were = (
          record { op = o; operands = us; made = ms; register = r; is = refl; chosen = chosen; here = now },
          were_stay rs rs mid new (λ vs l e. e) entries stays s.terms s.were,
        );
      },
      now,
    )

pub built_shares : (old mid new : Writer) (o : Op) (ms : List Tree) (ns : List ℕ) (r : ℕ) → SharesEach old mid ms ns → Builds mid new o ns r → Shares old new (node o (trees_of ms)) r
built_shares old mid new o ms ns r each (inl f) ts rs chosen s =
    let a = each ts rs chosen.1 s in
    let P : Writer → Type 0 = λ w. IsSharing ts rs w in
    let Q : Writer → Type 0 = λ w. register_of w.places.items w.built (node o (trees_of ms)) ≡ Some r in
    let here : register_of mid.places.items mid.built (node o (trees_of ms)) ≡ Some r = ap (option_and_then (λ l. register_at mid.built (key o l))) a.here ∙ f.here in
    record { sharing = subst P (sym f.same) a.sharing; here = subst Q (sym f.same) here }
built_shares old mid new o ms ns r each (inr m) ts rs chosen s =
    let a = each ts rs chosen.1 s in
    let c = chosen.0 in
    let b = made_shares ts rs mid new o c.0 (trees_of ms) ns r c.1 c.2 m a.sharing a.here in
    record { sharing = b.0; here = b.1 }

pub builds_stay : (mid new : Writer) (o : Op) (ns : List ℕ) (r : ℕ) → Builds mid new o ns r → BuiltStays mid new
builds_stay mid new o ns r (inl f) q s e = let P : Writer → Type 0 = λ w. register_at w.built q ≡ Some s in subst P (sym f.same) e
builds_stay mid new o ns r (inr m) q s e = m.keeps.stays q s e

-- ---- checks

pub none_shares_checks : (w : Writer) → SharesChecks w w []
none_shares_checks w ts rs chosen s = s

chosen_checks_front : (ts : List Tree) (rs : List (Option Tree)) (xs : List Check) (x : Check) → AllByRecursion (IsChosenCheck ts rs) (xs ++ x ∷ []) → AllByRecursion (IsChosenCheck ts rs) xs × IsChosenCheck ts rs x
chosen_checks_front ts rs [] x all = (tt, all.0)
chosen_checks_front ts rs (y ∷ xs) x all = let a = chosen_checks_front ts rs xs x all.1 in ((all.0, a.0), a.1)

pub more_share_checks : (old mid new : Writer) (xs : List Check) (x : Check) → SharesChecks old mid xs → SharesChecks mid new (x ∷ []) → SharesChecks old new (xs ++ x ∷ [])
more_share_checks old mid new xs x all one ts rs chosen s = let c = chosen_checks_front ts rs xs x chosen in one ts rs (c.1, tt) (all ts rs c.0 s)

-- ---- chosen compositions

mutual
  pub made_chosen : (ts : List Tree) (rs : List (Option Tree)) (t m : Tree) → made_for rs t ≡ Some m → AllAmong ts t → IsChosen ts rs m
  made_chosen ts rs (leaf n) m e h = let a = mapped_from leaf (place rs (leaf n)) m e in subst (IsChosen ts rs) a.2 tt
  made_chosen ts rs (node o us) m e h = elim (optional (place rs (node o us))) [
    | inl a ↦ (let s : leaf a.0 ≡ m = (let q = rw (a.1) at e in cc) in subst (IsChosen ts rs) s tt)
    | inr p ↦
        let a = built_some o _ (mades_for rs us) m (rw p at e) in
        subst (IsChosen ts rs) a.3 ((us, h.0, a.2), mades_chosen ts rs us a.1 a.2 h.1)
  ]

  pub mades_chosen : (ts : List Tree) (rs : List (Option Tree)) (us ms : Trees) → mades_for rs us ≡ Some ms → EachAmong ts us → AreChosen ts rs ms
  mades_chosen ts rs none ms e h = let s : none ≡ ms = cc in subst (AreChosen ts rs) s tt
  mades_chosen ts rs (more t us) ms e h =
      let a = both_some (made_for rs t) (mades_for rs us) ms e in
      subst (AreChosen ts rs) a.4 (made_chosen ts rs t a.0 a.2 h.0, mades_chosen ts rs us a.1 a.3 h.1)

-- more entries came
pub mades_kept : (es later es' : List Entry) → es' ≡ es ++ later → (us ms : Trees) → mades_for (rows es) us ≡ Some ms → mades_for (rows es') us ≡ Some ms
mades_kept es later es' is us ms e = ap (λ rs. mades_for rs us) (ap rows is ∙ rows_append es later) ∙ mades_later (rows es) (terms_of later) us ms e

pub built_chosen : (ts : List Tree) (rs : List (Option Tree)) (o : Op) (us ms : Trees) → mades_for rs us ≡ Some ms → AllAmong ts (node o us) → IsChosen ts rs (node o ms)
built_chosen ts rs o us ms e h = ((us, h.0, e), mades_chosen ts rs us ms e h.1)

-- ---- the subterms of a plan's terms

member_append : (xs ys : List Tree) (q : Tree) → is_member tree_eqb xs q ≡ true → is_member tree_eqb (xs ++ ys) q ≡ true
member_append xs ys q e = list_any-append (tree_eqb q) xs ys ∙ or_left (is_member tree_eqb xs q) (is_member tree_eqb ys q) e

member_behind : (xs ys : List Tree) (q : Tree) → is_member tree_eqb ys q ≡ true → is_member tree_eqb (xs ++ ys) q ≡ true
member_behind xs ys q e = list_any-append (tree_eqb q) xs ys ∙ or_right (is_member tree_eqb xs q) (is_member tree_eqb ys q) e

mutual
  has_subterms : (ts : List Tree) (t : Tree) → ((q : Tree) → is_member tree_eqb (subterms t) q ≡ true → is_member tree_eqb ts q ≡ true) → AllAmong ts t
  has_subterms ts (leaf n) h = h (leaf n) (rw (tree_itself (leaf n)) refl)
  has_subterms ts (node o us) h = (h (node o us) (rw (tree_itself (node o us)) refl), have_subterms ts us (λ q e. h q (or_right (tree_eqb q (node o us)) _ e)))

  have_subterms : (ts : List Tree) (us : Trees) → ((q : Tree) → is_member tree_eqb (subterms_of us) q ≡ true → is_member tree_eqb ts q ≡ true) → EachAmong ts us
  have_subterms ts none h = tt
  have_subterms ts (more t us) h = (has_subterms ts t (λ q e. h q (member_append (subterms t) (subterms_of us) q e)), have_subterms ts us (λ q e. h q (member_behind (subterms t) (subterms_of us) q e)))

each_item : (ts : List Tree) (us : Trees) → EachAmong ts us → AllByRecursion (AllAmong ts) (list_of us)
each_item ts none h = tt
each_item ts (more t us) h = (h.0, each_item ts us h.1)

pub operands_among : (ts : List Tree) (o : Op) (us : Trees) → AllAmong ts (node o us) → AllByRecursion (AllAmong ts) (list_of us)
operands_among ts o us h = each_item ts us h.1

pub all_among : (ts us : List Tree) → AllByRecursion (AllAmong ts) us → EachAmong ts (trees_of us)
all_among ts [] all = tt
all_among ts (u ∷ us) all = (all.0, all_among ts us all.1)

each_of : (ts us : List Tree) → EachAmong ts (trees_of us) → AllByRecursion (AllAmong ts) us
each_of ts [] h = tt
each_of ts (u ∷ us) h = (h.0, each_of ts us h.1)

-- each of some terms, with all its subterms, is among the subterms of all
pub subterms_among : (us : List Tree) → AllByRecursion (AllAmong (subterms_of (trees_of us))) us
subterms_among us = each_of (subterms_of (trees_of us)) us (have_subterms (subterms_of (trees_of us)) (trees_of us) (λ q e. e))

-- ---- a plan

terms_same : (plan : List PlanEvent) → map event_term (map event_of plan) ≡ map term_in plan
terms_same [] = refl
terms_same (to_know t ∷ es) = ap (λ l. t ∷ l) (terms_same es)
terms_same (to_make t ∷ es) = ap (λ l. t ∷ l) (terms_same es)
terms_same (to_send i t ∷ es) = ap (λ l. t ∷ l) (terms_same es)
terms_same (to_receive i t ∷ es) = ap (λ l. t ∷ l) (terms_same es)

pub plan_subterms : (c : Context) (plan : List PlanEvent) → c.plan ≡ map event_of plan → subterms_in c ≡ subterms_of (trees_of (map term_in plan))
plan_subterms c plan e = ap (λ l. subterms_of (trees_of l)) (ap (map event_term) e ∙ terms_same plan)

unmapped : (P : Tree → Type 0) (plan : List PlanEvent) → AllByRecursion P (map term_in plan) → AllByRecursion (λ e. P (term_in e)) plan
unmapped P [] all = tt
unmapped P (e ∷ es) all = (all.0, unmapped P es all.1)

pub plan_among : (c : Context) (plan : List PlanEvent) → c.plan ≡ map event_of plan → AllByRecursion (λ e. AllAmong (subterms_in c) (term_in e)) plan
plan_among c plan e =
    let P : List Tree → Type 0 = λ ts. AllByRecursion (λ x. AllAmong ts (term_in x)) plan in
    subst P (sym (plan_subterms c plan e)) (unmapped (AllAmong (subterms_of (trees_of (map term_in plan)))) plan (subterms_among (map term_in plan)))

-- ---- the instructions of labels

pub labels_build_none : (i : Instr) → IsLabelling i → is_building i ≡ false
labels_build_none Fresh is = refl
labels_build_none Recv is = refl
labels_build_none i is = absurd is

pub takes_build_none : (texts : List (List ℕ)) → count_by is_building (map Take texts) ≡ 0
takes_build_none [] = refl
takes_build_none (t ∷ texts) = omega (arith, takes_build_none texts, sum_by-cons (λ i. cond {A = ℕ} (is_building i) 1 0) (Take t) (map Take texts))

pub none_sharing : (ts : List Tree) (rs : List (Option Tree)) (w : Writer) → count_by is_building w.code.items ≡ 0 → IsSharing ts rs w
unfolding IsDistinct
none_sharing ts rs w zero_built = record { terms = []; counted = zero_built; differ = tt; among = λ t e. cc; were = tt }
