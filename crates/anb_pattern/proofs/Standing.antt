-- What stands at the first places of variables, one place more.
use Rattle.std.proofs.Common.{◌≡◌, ℕ, suc, ◌+◌, ◌<◌, ◌≤◌, List, [], ◌∷◌, ◌++◌, length, map, drop, get_or, Bool, true, false, cond, refl, sym, ap, ◌∙◌, arith, append_assoc, length-append}
use Rattle.std.specs.Prelude.{◌==◌, filter}
use Rattle.std.specs.List.{AllByRecursion}
use Rattle.std.proofs.lemmas.List.{append-nil, length-map, drop_all}
use Rattle.anb_lemmas.proofs.Each.{each_in_both}
use Rattle.anb_term.specs.declared.term.Term.{Term}
use Rattle.anb_term.specs.Tree.{Tree, leaf, node, Trees, none, more, trees_of}
use Rattle.anb_term.specs.View.{tree_of}
use Rattle.anb_term.proofs.Lists.{split_at}
use Rattle.anb_protocol.specs.Plans.{messages}
use Rattle.anb_protocol.specs.Protocols.{ActionValue, ProtocolValue}
use Rattle.anb_protocol.specs.Texts.{IsTermOf, AreTermsOf}
use Rattle.anb_pattern.specs.Variables.{Place, places, places_all, places_each, stand_for, picked_from}

stand_on : (next : ℕ) (xs ys : List Place) → stand_for next (xs ++ ys) ≡ stand_for next xs ++ stand_for (next + length (stand_for next xs)) ys
stand_on next [] ys = let z : next ≡ next + 0 = omega arith in ap (λ n. stand_for n ys) z
stand_on next (x ∷ xs) ys = by (x.atom == next) (stand_on (next + 1) xs ys) (stand_on next xs ys)
  where
    by : (b : Bool) → stand_for (next + 1) (xs ++ ys) ≡ stand_for (next + 1) xs ++ stand_for (next + 1 + length (stand_for (next + 1) xs)) ys → stand_for next (xs ++ ys) ≡ stand_for next xs ++ stand_for (next + length (stand_for next xs)) ys
        → cond b (x.term ∷ stand_for (next + 1) (xs ++ ys)) (stand_for next (xs ++ ys))
        ≡ cond b (x.term ∷ stand_for (next + 1) xs) (stand_for next xs) ++ stand_for (next + length (cond b (x.term ∷ stand_for (next + 1) xs) (stand_for next xs))) ys
    by true here other =
        let z : next + 1 + length (stand_for (next + 1) xs) ≡ next + suc (length (stand_for (next + 1) xs)) = omega arith in
        ap (λ l. x.term ∷ l) (here ∙ ap (λ n. stand_for (next + 1) xs ++ stand_for n ys) z)
    by false here other = other

pub place_next : (names : ℕ) (out new : List Term) (ps rs : List Place) (whole : List Tree) → map tree_of new ≡ map tree_of out ++ stand_for (names + length out) ps
    → map tree_of out ++ stand_for (names + length out) (ps ++ rs) ≡ whole → map tree_of new ++ stand_for (names + length new) rs ≡ whole
place_next names out new ps rs whole put before =
    let came = stand_for (names + length out) ps in
    let long : length new ≡ length out + length came = sym (length-map new tree_of) ∙ ap length put ∙ length-append (map tree_of out) came ∙ ap (λ n. n + length came) (length-map out tree_of) in
    let z : names + length new ≡ names + length out + length came = omega (arith, long) in
    ap (λ l. l ++ stand_for (names + length new) rs) put ∙ append_assoc (map tree_of out) came (stand_for (names + length new) rs) ∙ ap (λ n. map tree_of out ++ (came ++ stand_for n rs)) z
    ∙ ap (λ l. map tree_of out ++ l) (sym (stand_on (names + length out) ps rs)) ∙ before

pub places_first : (ps ts : List Term) (i : ℕ) (p t : Term) → i < length ps → p ≡ get_or ps i p → i < length ts → t ≡ get_or ts i t
    → places_all (trees_of (map tree_of (drop i ps))) (trees_of (map tree_of (drop i ts)))
    ≡ places (tree_of p) (tree_of t) ++ places_all (trees_of (map tree_of (drop (i + 1) ps))) (trees_of (map tree_of (drop (i + 1) ts)))
places_first ps ts i p t h e g f = ap (λ l. places_all (trees_of l) (trees_of (map tree_of (drop i ts)))) (split_at ps i p h e) ∙ ap (λ l. places_all (trees_of (tree_of p ∷ map tree_of (drop (i + 1) ps))) (trees_of l)) (split_at ts i t g f)

no_places : (ps : Trees) → places_all ps none ≡ []
no_places none = refl
no_places (more p ps) = refl

-- nothing is left of the narrated terms
pub places_over : (ps ts : List Term) (i : ℕ) → length ts ≤ i → places_all (trees_of (map tree_of (drop i ps))) (trees_of (map tree_of (drop i ts))) ≡ []
places_over ps ts i h = ap (λ l. places_all (trees_of (map tree_of (drop i ps))) (trees_of (map tree_of l))) (drop_all i ts h) ∙ no_places (trees_of (map tree_of (drop i ps)))

-- nothing is left of the patterns
pub places_done : (ps ts : List Term) (i : ℕ) → length ps ≤ i → places_all (trees_of (map tree_of (drop i ps))) (trees_of (map tree_of (drop i ts))) ≡ []
places_done ps ts i h = ap (λ l. places_all (trees_of (map tree_of l)) (trees_of (map tree_of (drop i ts)))) (drop_all i ps h)

pub placed_whole : (names : ℕ) (out : List Term) (ps : List Place) (whole : List Tree) → ps ≡ [] → map tree_of out ++ stand_for (names + length out) ps ≡ whole → map tree_of out ≡ whole
placed_whole names out ps whole e h = sym (append-nil (map tree_of out)) ∙ ap (λ l. map tree_of out ++ stand_for (names + length out) l) (sym e) ∙ h

-- ---- these are terms of the protocol

mutual
  places_ours : (p : ProtocolValue) (q t : Tree) → IsTermOf p t → AllByRecursion (λ (x : Place). IsTermOf p x.term) (places q t)
  places_ours p (leaf n) t h = (h, tt)
  places_ours p (node o qs) (leaf n) h = tt
  places_ours p (node o qs) (node r ts) h = all_places_ours p qs ts h.2

  all_places_ours : (p : ProtocolValue) (qs ts : Trees) → AreTermsOf p ts → AllByRecursion (λ (x : Place). IsTermOf p x.term) (places_all qs ts)
  all_places_ours p none ts h = tt
  all_places_ours p (more q qs) none h = tt
  all_places_ours p (more q qs) (more t ts) h = each_in_both (λ (x : Place). IsTermOf p x.term) (places q t) (places_all qs ts) (places_ours p q t h.0) (all_places_ours p qs ts h.1)

stand_ours : (p : ProtocolValue) (next : ℕ) (xs : List Place) → AllByRecursion (λ (x : Place). IsTermOf p x.term) xs → AllByRecursion (IsTermOf p) (stand_for next xs)
stand_ours p next [] h = tt
stand_ours p next (x ∷ xs) h = by (x.atom == next) (stand_ours p (next + 1) xs h.1) (stand_ours p next xs h.1)
  where
    by : (b : Bool) → AllByRecursion (IsTermOf p) (stand_for (next + 1) xs) → AllByRecursion (IsTermOf p) (stand_for next xs) → AllByRecursion (IsTermOf p) (cond b (x.term ∷ stand_for (next + 1) xs) (stand_for next xs))
    by true here other = (h.0, here)
    by false here other = other

are_terms : (p : ProtocolValue) (ts : List Tree) → AllByRecursion (IsTermOf p) ts → AreTermsOf p (trees_of ts)
are_terms p [] h = tt
are_terms p (t ∷ ts) h = (h.0, are_terms p ts h.1)

pub meanings_ours : (p : ProtocolValue) (names : ℕ) (qs ts : List Tree) → AllByRecursion (IsTermOf p) ts → AllByRecursion (IsTermOf p) (stand_for names (places_each qs ts))
meanings_ours p names qs ts h = stand_ours p names (places_each qs ts) (all_places_ours p (trees_of qs) (trees_of ts) (are_terms p ts h))

pub picked_ours : (p : ProtocolValue) (test : ℕ → Bool) (v : ℕ) (ts : List Tree) → AllByRecursion (IsTermOf p) ts → AllByRecursion (IsTermOf p) (picked_from test v ts)
picked_ours p test v [] h = tt
picked_ours p test v (t ∷ ts) h = by (test v) (picked_ours p test (v + 1) ts h.1)
  where
    by : (b : Bool) → AllByRecursion (IsTermOf p) (picked_from test (v + 1) ts) → AllByRecursion (IsTermOf p) (cond b (t ∷ []) [] ++ picked_from test (v + 1) ts)
    by true others = (h.0, others)
    by false others = others

pub filtered_ours : (p : ProtocolValue) (test : ActionValue → Bool) (actions : List ActionValue) → AllByRecursion (IsTermOf p) (messages actions) → AllByRecursion (IsTermOf p) (messages (filter test actions))
filtered_ours p test [] h = tt
filtered_ours p test (a ∷ actions) h = by (test a) (filtered_ours p test actions h.1)
  where
    by : (b : Bool) → AllByRecursion (IsTermOf p) (messages (filter test actions)) → AllByRecursion (IsTermOf p) (messages (cond b (a ∷ filter test actions) (filter test actions)))
    by true others = (h.0, others)
    by false others = others
