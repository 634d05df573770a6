-- The numbers of a term's parts, and which of them are listed.
use Rattle.std.proofs.Common.{◌≡◌, ℕ, ◌+◌, ◌<◌, List, [], ◌∷◌, ◌++◌, length, map, take, drop, get_or, set, Bool, true, false, Some, refl, sym, ap, ◌∙◌, subst, append-nil, append_assoc}
use Rattle.std.specs.Prelude.{◌||◌, ◌==◌, not, cond, filter, slice_get, unwrap_or}
use Rattle.std.proofs.lemmas.Bool.{eqb-true, eq-eqb, or_parts}
use Rattle.std.proofs.lemmas.List.{drop_more, take_more, map-append}
use Rattle.std.proofs.lemmas.List.Elements.{filter-append}
use Rattle.std.proofs.lemmas.Option.{slice_get-get_or}
use Rattle.anb_lemmas.proofs.Bools.{or_false, or_true}
use Rattle.anb_term.specs.declared.term.Op.{Op}
use Rattle.anb_term.specs.Tree.{Tree, leaf, node, trees_of, tree_eqb}
use Rattle.anb_term.specs.View.{tree_of}
use Rattle.anb_term.specs.declared.term.Term.{Term}
use Rattle.anb_term.specs.TreeSame.{tree_same}
use Rattle.anb_term.proofs.Lists.{set-other, set-same, slice_get-map}
use Rattle.anb_intern.specs.declared.node.NodeId.{NodeId}
use Rattle.anb_intern.specs.declared.node.Node.{Node}
use Rattle.anb_intern.specs.declared.node.Node.TheVariants.{Atom}
use Rattle.anb_intern.specs.Nodes.{AreDistinct, operands_at, tree_at}
use Rattle.anb_intern.proofs.Putting.{operands_last}
use Rattle.anb_protocol.specs.Names.{distinct, first_new}
use Rattle.anb_protocol.proofs.Afters.{any-append, each_after_last}
use Rattle.anb_reason.specs.Decided.{composes, is_among}
use Rattle.anb_reason.proofs.Flagging.{among_last as among_itself, among_other}
use Rattle.anb_lack.specs.Listing.{IsListing}
use Rattle.anb_lack.specs.Parts.{lacks, parts, parts_of_all}

-- ---- numbers of parts

pub same_tree : (ts : List Tree) (i : ℕ) (t u : Tree) → slice_get ts i ≡ Some t → slice_get ts i ≡ Some u → t ≡ u
same_tree ts i t u e f = let same : Some t ≡ Some u = sym e ∙ f in cc

-- a number that came last
pub last_part : (ts : List Tree) (ids ids' : List NodeId) (id : NodeId) (t : Tree) → slice_get ts id.0 ≡ Some t → ids' ≡ ids ++ id ∷ [] → operands_at ts ids' ≡ operands_at ts ids ++ t ∷ []
last_part ts ids ids' id t at is =
    ap (operands_at ts) is ∙ operands_last ts ids id ∙ ap (λ o. operands_at ts ids ++ unwrap_or o (leaf 0) ∷ []) at

pub atom_parts : (ts : List Tree) (ids ids' : List NodeId) (id : NodeId) (n : ℕ) (k : Node) (t : Tree) → slice_get ts id.0 ≡ Some (tree_at ts k) → k ≡ Atom n → ids' ≡ ids ++ id ∷ []
    → slice_get ts id.0 ≡ Some t → operands_at ts ids' ≡ operands_at ts ids ++ parts t
atom_parts ts ids ids' id n k t stands is pushed at =
    let own : t ≡ leaf n = same_tree ts id.0 t (tree_at ts k) at stands ∙ ap (tree_at ts) is in
    last_part ts ids ids' id t at pushed ∙ ap (λ u. operands_at ts ids ++ u ∷ []) own ∙ ap (λ u. operands_at ts ids ++ parts u) (sym own)

pub node_parts : (ts : List Tree) (ids ids' ids'' below : List NodeId) (id : NodeId) (o : Op) (t : Tree) → slice_get ts id.0 ≡ Some (node o (trees_of (operands_at ts below))) → ids' ≡ ids ++ id ∷ []
    → operands_at ts ids'' ≡ operands_at ts ids' ++ parts_of_all (trees_of (operands_at ts below)) → slice_get ts id.0 ≡ Some t → operands_at ts ids'' ≡ operands_at ts ids ++ parts t
node_parts ts ids ids' ids'' below id o t stands pushed on at =
    let us = trees_of (operands_at ts below) in
    let own : t ≡ node o us = same_tree ts id.0 t (node o us) at stands in
    on ∙ ap (λ l. l ++ parts_of_all us) (last_part ts ids ids' id t at pushed) ∙ append_assoc (operands_at ts ids) (t ∷ []) (parts_of_all us)
    ∙ ap (λ u. operands_at ts ids ++ (u ∷ parts_of_all us)) own ∙ ap (λ u. operands_at ts ids ++ parts u) (sym own)

-- one of some numbers, and those behind it
pub parts_next : (ts : List Tree) (ids out out' : List NodeId) (i : ℕ) (d : NodeId) (t : Tree) (whole : List Tree) → i < length ids → slice_get ts (get_or ids i d).0 ≡ Some t
    → operands_at ts out' ≡ operands_at ts out ++ parts t → operands_at ts out ++ parts_of_all (trees_of (operands_at ts (drop i ids))) ≡ whole
    → operands_at ts out' ++ parts_of_all (trees_of (operands_at ts (drop (i + 1) ids))) ≡ whole
parts_next ts ids out out' i d t whole h at put so_far =
    let rest = parts_of_all (trees_of (operands_at ts (drop (i + 1) ids))) in
    let split : operands_at ts (drop i ids) ≡ t ∷ operands_at ts (drop (i + 1) ids) =
    ap (operands_at ts) (drop_more ids i d h) ∙ ap (λ o. unwrap_or o (leaf 0) ∷ operands_at ts (drop (i + 1) ids)) at in
    ap (λ l. l ++ rest) put ∙ append_assoc (operands_at ts out) (parts t) rest ∙ ap (λ us. operands_at ts out ++ parts_of_all (trees_of us)) (sym split) ∙ so_far

-- ---- each once

-- whether a thing that comes last is new
distinct_last : (xs : List Tree) (u : Tree) (b : Bool) → is_among xs u ≡ b → distinct tree_eqb (xs ++ u ∷ []) ≡ distinct tree_eqb xs ++ cond b [] (u ∷ [])
distinct_last xs u b is = each_after_last (first_new tree_eqb) [] xs u ∙ ap (λ c. distinct tree_eqb xs ++ cond c [] (u ∷ [])) is

among_last : (xs : List Tree) (x u : Tree) → is_among (xs ++ x ∷ []) u ≡ (is_among xs u || tree_eqb x u)
among_last xs x u = any-append (λ e. tree_eqb e u) xs (x ∷ []) ∙ ap (λ b. is_among xs u || b) (or_false (tree_eqb x u))

-- one that is there already changes nothing
among_again : (xs : List Tree) (x u : Tree) → is_among xs x ≡ true → is_among (xs ++ x ∷ []) u ≡ is_among xs u
among_again xs x u there = among_last xs x u ∙ by (tree_eqb x u) refl where
  by : (b : Bool) → tree_eqb x u ≡ b → (is_among xs u || b) ≡ is_among xs u
  by true e = or_true (is_among xs u) ∙ sym there ∙ ap (is_among xs) (tree_same x u e)
  by false e = or_false (is_among xs u)

module _ (S ts : List Tree) where
  abbrev lacking_of : List Tree → List Tree
  lacking_of seen = filter (lacks S) seen

  -- one that composes is passed over, and one that doesn't stands last
  filter_last : (seen : List Tree) (u : Tree) (b : Bool) → composes S u ≡ b → lacking_of (seen ++ u ∷ []) ≡ lacking_of seen ++ cond (not b) (u ∷ []) []
  filter_last seen u b is = filter-append (lacks S) seen (u ∷ []) ∙ ap (λ c. lacking_of seen ++ cond (not c) (u ∷ []) []) is

  abbrev Told : List Bool → List Tree → ℕ → Tree → Type 0
  Told flags lacks_now m v = slice_get flags m ≡ Some (composes S v || is_among lacks_now v)

  module _ (once : AreDistinct ts) (flags : List Bool) (seen listed : List Tree) (listing : IsListing S ts flags seen listed) (n : ℕ) (u : Tree) (at : slice_get ts n ≡ Some u) where
    flag_now : (b : Bool) → slice_get flags n ≡ Some b → (composes S u || is_among (lacking_of seen) u) ≡ b
    flag_now b is = let same : Some (composes S u || is_among (lacking_of seen) u) ≡ Some b = sym (listing.told n u at) ∙ is in cc

    told_marked : slice_get flags n ≡ Some false → (m : ℕ) (v : Tree) → slice_get ts m ≡ Some v → (b : Bool) → (n == m) ≡ b → Told (set flags n true) (lacking_of seen ++ u ∷ []) m v
    told_marked off m v h true e =
        let same : n ≡ m = eqb-true n m e in
        let own : v ≡ u = same_tree ts m v u h (subst (λ (k : ℕ). slice_get ts k ≡ Some u) same at) in
        subst (λ (k : ℕ). slice_get (set flags n true) k ≡ Some true) same (set-same flags n true false off)
        ∙ ap Some (sym (ap (λ b. composes S v || b) (ap (is_among (lacking_of seen ++ u ∷ [])) own ∙ among_itself (lacking_of seen) u) ∙ or_true (composes S v)))
    told_marked off m v h false e =
        let apart : n ≡ m → ⊥ = λ same. (let on = eq-eqb n m same in cc) in
        let other : u ≡ v → ⊥ = λ same. apart (once n m u at (h ∙ ap Some (sym same))) in
        set-other flags n m true (composes S v || is_among (lacking_of seen) v) (listing.told m v h) apart
        ∙ ap (λ b. Some (composes S v || b)) (sym (among_other (lacking_of seen) u v other))

    -- a part that has no flag is listed, and has it then
    pub listed_next : (flags' : List Bool) (listed' : List Tree) → slice_get flags n ≡ Some false → flags' ≡ set flags n true → listed' ≡ listed ++ u ∷ [] → IsListing S ts flags' (seen ++ u ∷ []) listed'
    listed_next flags' listed' off marked pushed =
        let both = or_parts (composes S u) (is_among (lacking_of seen) u) (flag_now false off) in
        let now : lacking_of (seen ++ u ∷ []) ≡ lacking_of seen ++ u ∷ [] = filter_last seen u false both.0 in
        record {
          told = λ m v h. ap (λ l. slice_get l m) marked ∙ told_marked off m v h (n == m) refl ∙ ap (λ l. Some (composes S v || is_among l v)) (sym now);
          listed = pushed ∙ ap (λ l. l ++ u ∷ []) listing.listed ∙ sym (distinct_last (lacking_of seen) u false both.1) ∙ ap (distinct tree_eqb) (sym now);
        }

    -- one that has it is passed over
    pub passed_next : slice_get flags n ≡ Some true → IsListing S ts flags (seen ++ u ∷ []) listed
    passed_next on = by (composes S u) refl (flag_now true on) where
      by : (b : Bool) → composes S u ≡ b → (b || is_among (lacking_of seen) u) ≡ true → IsListing S ts flags (seen ++ u ∷ []) listed
      by true is there =
          let now : lacking_of (seen ++ u ∷ []) ≡ lacking_of seen = filter_last seen u true is ∙ append-nil (lacking_of seen) in
          record { told = λ m v h. listing.told m v h ∙ ap (λ l. Some (composes S v || is_among l v)) (sym now); listed = listing.listed ∙ ap (distinct tree_eqb) (sym now) }
      by false is there =
          let now : lacking_of (seen ++ u ∷ []) ≡ lacking_of seen ++ u ∷ [] = filter_last seen u false is in
          record {
            told = λ m v h. listing.told m v h ∙ ap (λ b. Some (composes S v || b)) (sym (among_again (lacking_of seen) u v there)) ∙ ap (λ l. Some (composes S v || is_among l v)) (sym now);
            listed = listing.listed ∙ sym (append-nil (distinct tree_eqb (lacking_of seen))) ∙ sym (distinct_last (lacking_of seen) u true there) ∙ ap (distinct tree_eqb) (sym now);
          }

  -- before any part
  pub listing_begins : (flags : List Bool) → flags ≡ map (composes S) ts → IsListing S ts flags [] []
  listing_begins flags is = record { told = λ n u h. ap (λ l. slice_get l n) is ∙ slice_get-map (composes S) ts n u h ∙ ap Some (sym (or_false (composes S u))); listed = refl }

-- one more number
pub seen_more : (ts : List Tree) (ids : List NodeId) (i : ℕ) (d : NodeId) (t : Tree) → i < length ids → slice_get ts (get_or ids i d).0 ≡ Some t
    → operands_at ts (take (i + 1) ids) ≡ operands_at ts (take i ids) ++ t ∷ []
seen_more ts ids i d t h at =
    ap (operands_at ts) (take_more ids i d h) ∙ operands_last ts (take i ids) (get_or ids i d) ∙ ap (λ o. operands_at ts (take i ids) ++ unwrap_or o (leaf 0) ∷ []) at

-- a term that was listed last
pub listed_last : (ts : List Tree) (n : ℕ) (u : Tree) (xs xs' : List Term) (x : Term) → slice_get ts n ≡ Some u → slice_get ts n ≡ Some (tree_of x) → xs' ≡ xs ++ x ∷ [] → map tree_of xs' ≡ map tree_of xs ++ u ∷ []
listed_last ts n u xs xs' x at own pushed =
    ap (map tree_of) pushed ∙ map-append tree_of xs (x ∷ []) ∙ ap (λ t. map tree_of xs ++ t ∷ []) (same_tree ts n (tree_of x) u own at)

-- what a flag is, read by its place
pub flag_read : (flags : List Bool) (n : ℕ) (d b : Bool) → n < length flags → get_or flags n d ≡ b → slice_get flags n ≡ Some b
flag_read flags n d b h is = slice_get-get_or flags n d h ∙ ap Some is
