-- What comes out of terms, by the numbers of a pool.
use Rattle.std.proofs.Common.{◌≡◌, ℕ, zero, suc, ◌+◌, ◌<◌, List, [], ◌∷◌, ◌++◌, length, map, take, drop, get_or, Bool, true, false, ◌&&◌, Some, refl, sym, ap, ◌∙◌, arith, append-nil, append_assoc}
use Rattle.std.specs.Prelude.{cond, replicate, slice_get, unwrap_or}
use Rattle.std.specs.List.{flat_map, list_all}
use Rattle.std.proofs.lemmas.List.{drop_more, length-map, map-append}
use Rattle.anb_lemmas.proofs.Lists.{got_within}
use Rattle.anb_term.specs.declared.term.Op.{Op}
use Rattle.anb_term.specs.Operator.{keys, undoable}
use Rattle.anb_term.specs.Tree.{Tree, leaf, node, trees_of}
use Rattle.anb_term.specs.TreeSame.{list_of-trees_of}
use Rattle.anb_term.proofs.Lists.{map-drop, slice_get-map, slice_get-there}
use Rattle.anb_intern.specs.declared.node.NodeId.{NodeId}
use Rattle.anb_intern.specs.declared.node.Node.{Node}
use Rattle.anb_intern.specs.declared.node.Node.TheVariants.{Atom}
use Rattle.anb_intern.specs.Nodes.{operands_at, tree_at, AreUnder}
use Rattle.anb_intern.proofs.Nodes.{operands_take, under_take}
use Rattle.anb_intern.proofs.Putting.{under_at}
use Rattle.anb_reason.specs.Decided.{composes, is_among}
use Rattle.anb_reason.specs.Flags.{all_flagged}
use Rattle.anb_reason.proofs.Flagging.{flags_are, kept, operands_drop}
use Rattle.anb_lack.specs.Opened.{all_of, are_had, come_out, comes_out, inside, opened}
use Rattle.anb_lack.proofs.Parting.{flag_read, last_part, same_tree, seen_more}

-- ---- lists

come_out_each : (has : Tree → Bool) (us : List Tree) → come_out has (trees_of us) ≡ map (comes_out has) us
come_out_each has [] = refl
come_out_each has (u ∷ us) = ap (λ l. comes_out has u ∷ l) (come_out_each has us)

all_of_map : (f : Tree → List Tree) (us : List Tree) → all_of (map f us) ≡ flat_map f us
all_of_map f [] = refl
all_of_map f (u ∷ us) = ap (λ l. f u ++ l) (all_of_map f us)

-- what comes out of the operands behind the first ones
pub out_behind : (has : Tree → Bool) (n : ℕ) (us : List Tree) → all_of (drop n (come_out has (trees_of us))) ≡ flat_map (comes_out has) (drop n us)
out_behind has n us =
    ap (λ ls. all_of (drop n ls)) (come_out_each has us) ∙ ap all_of (sym (map-drop (comes_out has) n us)) ∙ all_of_map (comes_out has) (drop n us)

-- ---- whether a node is opened

-- the keys' flags
pub keys_flagged : (has : Tree → Bool) (ts : List Tree) (flags : List Bool) (o : Op) (ids : List NodeId) → flags ≡ map has ts → AreUnder (length ts) ids
    → all_flagged flags (take (keys o) ids) ≡ are_had has o (trees_of (operands_at ts ids))
keys_flagged has ts flags o ids is under =
    flags_are has ts flags is (take (keys o) ids) (under_take (length ts) (keys o) ids under) ∙ ap (list_all has) (operands_take ts (keys o) ids ∙ ap (take (keys o)) (sym (list_of-trees_of (operands_at ts ids))))

module _ (has : Tree → Bool) (ts : List Tree) (ids ids' : List NodeId) (id : NodeId) (k : Node) (t : Tree)
    (stands : slice_get ts id.0 ≡ Some (tree_at ts k)) (pushed : ids' ≡ ids ++ id ∷ []) (at : slice_get ts id.0 ≡ Some t) where
  own : t ≡ tree_at ts k
  own = same_tree ts id.0 t (tree_at ts k) at stands

  first : operands_at ts ids' ≡ operands_at ts ids ++ tree_at ts k ∷ []
  first = last_part ts ids ids' id t at pushed ∙ ap (λ u. operands_at ts ids ++ u ∷ []) own

  pub atom_out : (n : ℕ) → k ≡ Atom n → operands_at ts ids' ≡ operands_at ts ids ++ comes_out has t
  atom_out n is =
      let leaf_is : tree_at ts k ≡ leaf n = ap (tree_at ts) is in
      first ∙ ap (λ u. operands_at ts ids ++ u ∷ []) leaf_is ∙ ap (λ u. operands_at ts ids ++ comes_out has u) (sym (own ∙ leaf_is))

  module _ (o : Op) (below : List NodeId) (is : tree_at ts k ≡ node o (trees_of (operands_at ts below))) where
    abbrev us : List Tree
    us = operands_at ts below

    abbrev behind : List Tree
    behind = all_of (drop (keys o) (come_out has (trees_of us)))

    node_out : (b : Bool) → (undoable o && are_had has o (trees_of us)) ≡ b → comes_out has t ≡ node o (trees_of us) ∷ cond b behind []
    node_out b opens = ap (comes_out has) (own ∙ is) ∙ ap (λ c. node o (trees_of us) ∷ cond c behind []) opens

    pub shut_out : (undoable o && are_had has o (trees_of us)) ≡ false → operands_at ts ids' ≡ operands_at ts ids ++ comes_out has t
    shut_out shut = first ∙ ap (λ u. operands_at ts ids ++ u ∷ []) is ∙ ap (λ l. operands_at ts ids ++ l) (sym (node_out false shut))

    pub open_out : (all : List NodeId) → (undoable o && are_had has o (trees_of us)) ≡ true
        → operands_at ts all ≡ operands_at ts ids' ++ flat_map (comes_out has) (operands_at ts (drop (keys o) below)) → operands_at ts all ≡ operands_at ts ids ++ comes_out has t
    open_out all opens put =
        let rest : flat_map (comes_out has) (operands_at ts (drop (keys o) below)) ≡ behind = ap (flat_map (comes_out has)) (operands_drop ts (keys o) below) ∙ sym (out_behind has (keys o) us) in
        put ∙ ap (λ l. operands_at ts ids' ++ l) rest ∙ ap (λ l. l ++ behind) (first ∙ ap (λ u. operands_at ts ids ++ u ∷ []) is)
        ∙ append_assoc (operands_at ts ids) (node o (trees_of us) ∷ []) behind ∙ ap (λ l. operands_at ts ids ++ l) (sym (node_out true opens))

-- one of some numbers, and those behind it
pub out_next : (has : Tree → Bool) (ts : List Tree) (ids out out' : List NodeId) (i : ℕ) (d : NodeId) (t : Tree) (whole : List Tree) → i < length ids → slice_get ts (get_or ids i d).0 ≡ Some t
    → operands_at ts out' ≡ operands_at ts out ++ comes_out has t → operands_at ts out ++ flat_map (comes_out has) (operands_at ts (drop i ids)) ≡ whole
    → operands_at ts out' ++ flat_map (comes_out has) (operands_at ts (drop (i + 1) ids)) ≡ whole
out_next has ts ids out out' i d t whole h at put so_far =
    let rest = flat_map (comes_out has) (operands_at ts (drop (i + 1) ids)) in
    let split : operands_at ts (drop i ids) ≡ t ∷ operands_at ts (drop (i + 1) ids) =
    ap (operands_at ts) (drop_more ids i d h) ∙ ap (λ o. unwrap_or o (leaf 0) ∷ operands_at ts (drop (i + 1) ids)) at in
    ap (λ l. l ++ rest) put ∙ append_assoc (operands_at ts out) (comes_out has t) rest ∙ ap (λ us. operands_at ts out ++ flat_map (comes_out has) us) (sym split) ∙ so_far

-- ---- flags by place

pub flag_is : (P : Tree → Bool) (ts : List Tree) (flags : List Bool) (n : ℕ) (k : Tree) (d b : Bool) → flags ≡ map P ts → slice_get ts n ≡ Some k → get_or flags n d ≡ b → P k ≡ b
flag_is P ts flags n k d b is at got =
    let within = got_within ts n k at in
    let read : slice_get flags n ≡ Some b = flag_read flags n d b (omega (arith, within, ap length is, length-map ts P)) got in
    let there : slice_get flags n ≡ Some (P k) = ap (λ l. slice_get l n) is ∙ slice_get-map P ts n k at in
    let both : Some (P k) ≡ Some b = sym there ∙ read in cc

pub flag_next : (P : Tree → Bool) (ts : List Tree) (flags : List Bool) (ids : List NodeId) (i : ℕ) (d : NodeId) (e : Bool) (out out' : List Bool) → AreUnder (length ts) ids → i < length ids → flags ≡ map P ts
    → out' ≡ out ++ get_or flags (get_or ids i d).0 e ∷ [] → out ≡ map P (operands_at ts (take i ids)) → out' ≡ map P (operands_at ts (take (i + 1) ids))
flag_next P ts flags ids i d e out out' under h is pushed so_far =
    let there = slice_get-there ts (get_or ids i d).0 (under_at (length ts) ids i d under h) in
    let flag : P there.0 ≡ get_or flags (get_or ids i d).0 e = flag_is P ts flags (get_or ids i d).0 there.0 e (get_or flags (get_or ids i d).0 e) is there.1 refl in
    pushed ∙ ap (λ l. l ++ get_or flags (get_or ids i d).0 e ∷ []) so_far ∙ ap (λ b. map P (operands_at ts (take i ids)) ++ b ∷ []) (sym flag)
    ∙ sym (map-append P (operands_at ts (take i ids)) (there.0 ∷ [])) ∙ ap (map P) (sym (seen_more ts ids i d there.0 h there.1))

-- ---- numbers that stay while terms are put in

-- two lists of terms, one put in after the other
pub record AreBoth (pool : List Tree) (one other : List NodeId) (ts us : List Tree) : Type 0 where
  pub under : AreUnder (length pool) one
  pub are : operands_at pool one ≡ ts
  pub under_other : AreUnder (length pool) other
  pub others_are : operands_at pool other ≡ us

pub put_both : (p q m : List Tree) (one other : List NodeId) (ts us : List Tree) → q ≡ p ++ m → AreUnder (length p) one → operands_at p one ≡ ts → AreUnder (length q) other → operands_at q other ≡ us → AreBoth q one other ts us
put_both p q m one other ts us is under are under_other others_are =
    let k = kept p q m one is under in
    record { under = k.0; are = k.1 ∙ are; under_other = under_other; others_are = others_are }

-- which of some terms come out of others, step by step
module _ (pool ts us : List Tree) (one other : List NodeId) (both : AreBoth pool one other ts us) (listed composing : List Bool)
    (marked : listed ≡ map (is_among (operands_at pool one)) pool) (composed : (S : List Tree) → listed ≡ map (is_among S) pool → composing ≡ map (composes S) pool) where
  pub composing_is : composing ≡ map (composes ts) pool
  composing_is = composed ts (marked ∙ ap (λ S. map (is_among S) pool) both.are)

  pub opened_marks : (from out : List NodeId) (marks : List Bool) (ws : List Tree) → operands_at pool from ≡ ws
      → ((has : Tree → Bool) → composing ≡ map has pool → operands_at pool out ≡ flat_map (comes_out has) (operands_at pool from))
      → marks ≡ map (is_among (operands_at pool out)) pool → marks ≡ map (is_among (opened ts ws)) pool
  opened_marks from out marks ws are opens is =
      is ∙ ap (λ S. map (is_among S) pool) (opens (composes ts) composing_is ∙ ap (flat_map (comes_out (composes ts))) are)

-- and three
pub record AreThree (pool : List Tree) (one other third : List NodeId) (ts us ws : List Tree) : Type 0 where
  pub under : AreUnder (length pool) one
  pub are : operands_at pool one ≡ ts
  pub under_other : AreUnder (length pool) other
  pub others_are : operands_at pool other ≡ us
  pub under_third : AreUnder (length pool) third
  pub third_are : operands_at pool third ≡ ws

pub put_three : (q r m : List Tree) (one other third : List NodeId) (ts us ws : List Tree) → r ≡ q ++ m → AreBoth q one other ts us → AreUnder (length r) third → operands_at r third ≡ ws → AreThree r one other third ts us ws
put_three q r m one other third ts us ws is both under are =
    let k = kept q r m one is both.under in
    let l = kept q r m other is both.under_other in
    record { under = k.0; are = k.1 ∙ both.are; under_other = l.0; others_are = l.1 ∙ both.others_are; under_third = under; third_are = are }

-- the term of a number by its place
pub operand_is : (ts : List Tree) (ids : List NodeId) (i : ℕ) (d : NodeId) (u : Tree) → AreUnder (length ts) ids → i < length ids → slice_get (operands_at ts ids) i ≡ Some u → slice_get ts (get_or ids i d).0 ≡ Some u
operand_is ts [] i d u under h at = absurd (omega (arith, h))
operand_is ts (j ∷ ids) zero d u under h at =
    let there = slice_get-there ts j.0 under.0 in
    let own : unwrap_or (slice_get ts j.0) (leaf 0) ≡ u = cc in
    there.1 ∙ ap Some (sym (ap (λ o. unwrap_or o (leaf 0)) there.1) ∙ own)
operand_is ts (j ∷ ids) (suc i) d u under h at = operand_is ts ids i d u under.1 (omega (arith, h)) at

-- all have the flag
pub all_flags : (ts : List Tree) → replicate (length ts) true ≡ map (λ t. true) ts
all_flags [] = refl
all_flags (t ∷ ts) = ap (λ l. true ∷ l) (all_flags ts)

-- ---- what stands in a term

module _ (ts : List Tree) (out : List NodeId) (id : NodeId) (k : Node) (t : Tree) (stands : slice_get ts id.0 ≡ Some (tree_at ts k)) (at : slice_get ts id.0 ≡ Some t) where
  pub atom_inside : (n : ℕ) → k ≡ Atom n → operands_at ts out ≡ operands_at ts out ++ inside t
  atom_inside n is =
      let leaf_is : t ≡ leaf n = same_tree ts id.0 t (tree_at ts k) at stands ∙ ap (tree_at ts) is in
      sym (append-nil (operands_at ts out)) ∙ ap (λ u. operands_at ts out ++ inside u) (sym leaf_is)

  pub node_inside : (o : Op) (below all : List NodeId) → tree_at ts k ≡ node o (trees_of (operands_at ts below))
      → operands_at ts all ≡ operands_at ts out ++ flat_map (comes_out (λ u. true)) (operands_at ts (drop (keys o) below)) → operands_at ts all ≡ operands_at ts out ++ inside t
  node_inside o below all is put =
      let node_is : t ≡ node o (trees_of (operands_at ts below)) = same_tree ts id.0 t (tree_at ts k) at stands ∙ is in
      let rest = ap (flat_map (comes_out (λ u. true))) (operands_drop ts (keys o) below) ∙ sym (out_behind (λ u. true) (keys o) (operands_at ts below)) in
      put ∙ ap (λ l. operands_at ts out ++ l) rest ∙ ap (λ u. operands_at ts out ++ inside u) (sym node_is)
