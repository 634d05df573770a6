-- The counts of a narration are below the bytes that its parts take.
use Rattle.std.proofs.Common.{◌≡◌, ℕ, ◌+◌, ◌*◌, ◌<◌, ◌≤◌, ◌^◌, List, [], ◌∷◌, ◌++◌, length, map, arith, refl, Bool, true, false, cond}
use Rattle.std.specs.List.{AllByRecursion, sum_by, flat_map, list_any}
use Rattle.std.specs.Str.{bytes_eq}
use Rattle.std.proofs.lemmas.List.{length-map, length-append}
use Rattle.std.proofs.lemmas.List.Sums.{sum_by-append, sum_by-cons}
use Rattle.anb_lemmas.proofs.Each.{each_by}
use Rattle.anb_syntax.specs.Grammar.{Tree, atom, apply, hash, mac, seal, wrap, Trees, none, more, list_of, TypeItem, FormatItem, KnowItem, ActionItem, Narration, IsName, IsTree, AreTrees, IsKnowItem, IsActionItem, IsSpellable}
use Rattle.anb_syntax.specs.declared.narration.Sort.{Sort}
use Rattle.anb_syntax.specs.Words.{is_name}
use Rattle.anb_syntax.specs.Sizes.{tree_size, trees_size, name_size, type_size, format_size, know_size, action_size, size}
use Rattle.anb_protocol.specs.declared.parts.Atom.{Atom}
use Rattle.anb_protocol.specs.Choices.{each_after}
use Rattle.anb_protocol.specs.Names.{Use, as_role, as_atom, as_format, used_name, all_names, declared_names, uses, tree_uses, trees_uses, know_uses, action_uses, item_atoms, line_names, action_roles, roles, terms, first_new}
use Rattle.anb_protocol.specs.Checks.{tree_nodes, trees_nodes}
use Rattle.anb_resolve.specs.Laws.{SmallIsCountable}

-- each is no more than all together
each_low : {X : Type 0} (f : X → ℕ) (xs : List X) (most : ℕ) → sum_by f xs ≤ most → AllByRecursion (λ x. f x ≤ most) xs
each_low f [] most h = tt
each_low f (x ∷ xs) most h = (omega (arith, h, sum_by-cons f x xs), each_low f xs most (omega (arith, h, sum_by-cons f x xs)))

name_length : (x : List ℕ) → IsName x → 1 ≤ length x
unfolding is_name
name_length [] e = absurd (cc)
name_length (b ∷ x) e = omega arith

-- ---- names

abbrev used_length : Use → ℕ
used_length u = length (used_name u)

abbrev used_lengths : List Use → ℕ
used_lengths us = sum_by used_length us

mutual
  tree_used : (t : Tree) → used_lengths (tree_uses t) ≤ tree_size t
  tree_used (atom x) = omega (arith, sum_by-cons used_length (as_atom x) [])
  tree_used (apply x ts) = omega (arith, trees_used ts, sum_by-cons used_length (as_format x (length (list_of ts))) (trees_uses ts))
  tree_used (hash t) = omega (arith, tree_used t)
  tree_used (mac t u) = omega (arith, tree_used t, tree_used u, sum_by-append used_length (tree_uses t) (tree_uses u))
  tree_used (seal t u) = omega (arith, tree_used t, tree_used u, sum_by-append used_length (tree_uses t) (tree_uses u))
  tree_used (wrap t u v) = omega (arith, tree_used t, tree_used u, tree_used v, sum_by-append used_length (tree_uses t ++ tree_uses u) (tree_uses v), sum_by-append used_length (tree_uses t) (tree_uses u))

  trees_used : (ts : Trees) → used_lengths (trees_uses ts) ≤ trees_size ts
  trees_used none = omega arith
  trees_used (more t ts) = omega (arith, tree_used t, trees_used ts, sum_by-append used_length (tree_uses t) (trees_uses ts))

knows_used : (ks : List KnowItem) → used_lengths (flat_map know_uses ks) ≤ sum_by know_size ks
knows_used [] = omega arith
knows_used (k ∷ ks) =
    omega (arith, trees_used k.terms, knows_used ks, sum_by-append used_length (know_uses k) (flat_map know_uses ks), sum_by-cons used_length (as_role k.role) (trees_uses k.terms), sum_by-cons know_size k ks)

actions_used : (acts : List ActionItem) → used_lengths (flat_map action_uses acts) ≤ sum_by action_size acts
actions_used [] = omega arith
actions_used (a ∷ acts) =
    omega (
      arith,
      tree_used a.message,
      actions_used acts,
      sum_by-append used_length (action_uses a) (flat_map action_uses acts),
      sum_by-cons used_length (as_role a.from) (as_role a.to ∷ tree_uses a.message),
      sum_by-cons used_length (as_role a.to) (tree_uses a.message),
      sum_by-cons action_size a acts,
    )

abbrev bytes : List ℕ → ℕ
bytes x = length x

item_bytes : (names : List (List ℕ)) → sum_by bytes names + length names ≤ sum_by name_size names
item_bytes [] = omega arith
item_bytes (x ∷ names) = omega (arith, item_bytes names, sum_by-cons bytes x names, sum_by-cons name_size x names)

types_bytes : (types : List TypeItem) → sum_by bytes (flat_map (λ (i : TypeItem). i.names) types) ≤ sum_by type_size types
types_bytes [] = omega arith
types_bytes (i ∷ types) = omega (arith, item_bytes i.names, types_bytes types, sum_by-cons type_size i types, sum_by-append bytes i.names (flat_map (λ (i : TypeItem). i.names) types))

titles_bytes : (fs : List FormatItem) → sum_by bytes (map (λ (f : FormatItem). f.title) fs) ≤ sum_by format_size fs
titles_bytes [] = omega arith
titles_bytes (f ∷ fs) = omega (arith, titles_bytes fs, sum_by-cons bytes f.title (map (λ (g : FormatItem). g.title) fs), sum_by-cons format_size f fs)

used_bytes : (us : List Use) → sum_by bytes (map used_name us) ≡ used_lengths us
used_bytes [] = refl
used_bytes (u ∷ us) = omega (arith, used_bytes us, sum_by-cons bytes (used_name u) (map used_name us), sum_by-cons used_length u us)

names_bytes : (n : Narration) → sum_by bytes (all_names n) ≤ size n
names_bytes n =
    omega (
      arith,
      sum_by-cons bytes n.title (declared_names n ++ map used_name (uses n)),
      types_bytes n.types,
      titles_bytes n.formats,
      used_bytes (uses n),
      knows_used n.knows,
      actions_used n.actions,
      sum_by-append used_length (flat_map know_uses n.knows) (flat_map action_uses n.actions),
      sum_by-append bytes (flat_map (λ (i : TypeItem). i.names) n.types) (map (λ (f : FormatItem). f.title) n.formats),
      sum_by-append bytes (declared_names n) (map used_name (uses n)),
    )

-- ---- counts

abbrev atom_of : Sort → List ℕ → Atom
atom_of sort x = record { name = x; sort = sort }

atoms_length : (sort : Sort) (names : List (List ℕ)) → length (map (λ x. atom_of sort x) names) ≡ length names
atoms_length sort names = length-map names (atom_of sort)

typed_low : (types : List TypeItem) → length (flat_map item_atoms types) ≤ sum_by type_size types
typed_low [] = omega arith
typed_low (i ∷ types) =
    omega (arith, sum_by-cons type_size i types, typed_low types, item_bytes i.names, length-append (item_atoms i) (flat_map item_atoms types), atoms_length i.sort i.names)

formats_low : (fs : List FormatItem) → length fs ≤ sum_by format_size fs
formats_low [] = omega arith
formats_low (f ∷ fs) = omega (arith, formats_low fs, sum_by-cons format_size f fs)

knows_low : (ks : List KnowItem) → length ks ≤ sum_by know_size ks
knows_low [] = omega arith
knows_low (k ∷ ks) = omega (arith, knows_low ks, sum_by-cons know_size k ks)

-- an action has two names
actions_low : (acts : List ActionItem) → AllByRecursion IsActionItem acts → 2 * length acts ≤ sum_by action_size acts
actions_low [] a = omega arith
actions_low (x ∷ acts) a = omega (arith, sum_by-cons action_size x acts, name_length x.from a.0.0, actions_low acts a.1)

ends_length : (acts : List ActionItem) → length (flat_map action_roles acts) ≡ 2 * length acts
ends_length [] = omega arith
ends_length (a ∷ acts) = omega (arith, ends_length acts, length-append (action_roles a) (flat_map action_roles acts))

distinct_low : (before xs : List (List ℕ)) → length (each_after (first_new bytes_eq) before xs) ≤ length xs
distinct_low before [] = omega arith
distinct_low before (x ∷ xs) =
    omega (arith, one (list_any (λ y. bytes_eq y x) before), distinct_low (before ++ x ∷ []) xs, length-append (first_new bytes_eq before x) (each_after (first_new bytes_eq) (before ++ x ∷ []) xs))
  where
    one : (b : Bool) → length (cond b [] (x ∷ [])) ≤ 1
    one true = omega arith
    one false = omega arith

roles_low : (n : Narration) → AllByRecursion IsActionItem n.actions → length (roles n) ≤ size n
roles_low n a =
    omega (
      arith,
      distinct_low [] (line_names n ++ flat_map action_roles n.actions),
      length-append (line_names n) (flat_map action_roles n.actions),
      length-map n.knows (λ (k : KnowItem). k.role),
      knows_low n.knows,
      ends_length n.actions,
      actions_low n.actions a,
    )

-- ---- nodes

mutual
  tree_low : (t : Tree) → IsTree t → tree_nodes t ≤ tree_size t
  tree_low (atom x) h = name_length x h
  tree_low (apply x ts) h = omega (arith, name_length x h.0, trees_low ts h.1)
  tree_low (hash t) h = omega (arith, tree_low t h)
  tree_low (mac t u) h = omega (arith, tree_low t h.0, tree_low u h.1)
  tree_low (seal t u) h = omega (arith, tree_low t h.0, tree_low u h.1)
  tree_low (wrap t u v) h = omega (arith, tree_low t h.0, tree_low u h.1, tree_low v h.2)

  trees_low : (ts : Trees) → AreTrees ts → trees_nodes ts ≤ trees_size ts
  trees_low none h = omega arith
  trees_low (more t ts) h = omega (arith, tree_low t h.0, trees_low ts h.1)

listed_nodes : (ts : Trees) → sum_by tree_nodes (list_of ts) ≡ trees_nodes ts
listed_nodes none = refl
listed_nodes (more t ts) = omega (arith, listed_nodes ts, sum_by-cons tree_nodes t (list_of ts))

known_low : (ks : List KnowItem) → AllByRecursion IsKnowItem ks → sum_by tree_nodes (flat_map (λ (k : KnowItem). list_of k.terms) ks) ≤ sum_by know_size ks
known_low [] a = omega arith
known_low (k ∷ ks) a =
    omega (arith, sum_by-cons know_size k ks, trees_low k.terms a.0.1, listed_nodes k.terms, known_low ks a.1, sum_by-append tree_nodes (list_of k.terms) (flat_map (λ (k : KnowItem). list_of k.terms) ks))

sent_low : (acts : List ActionItem) → AllByRecursion IsActionItem acts → sum_by tree_nodes (map (λ (a : ActionItem). a.message) acts) ≤ sum_by action_size acts
sent_low [] a = omega arith
sent_low (x ∷ acts) a = omega (arith, sum_by-cons action_size x acts, sum_by-cons tree_nodes x.message (map (λ (a : ActionItem). a.message) acts), tree_low x.message a.0.2, sent_low acts a.1)

nodes_low : (n : Narration) → IsSpellable n → sum_by tree_nodes (terms n) ≤ size n
nodes_low n s =
    omega (
      arith,
      known_low n.knows s.valid.knows,
      sent_low n.actions s.valid.actions,
      sum_by-append tree_nodes (flat_map (λ (k : KnowItem). list_of k.terms) n.knows) (map (λ (a : ActionItem). a.message) n.actions),
    )

pub small_countable : SmallIsCountable
small_countable = λ n s low. record {
  names = each_by (λ (x : List ℕ). length x ≤ size n) (λ (x : List ℕ). length x < 2 ^ 32) (λ x h. omega (arith, h, low)) (all_names n) (each_low bytes (all_names n) (size n) (names_bytes n));
  typed = omega (arith, low, typed_low n.types);
  formats = omega (arith, low, formats_low n.formats);
  pieces = each_by (λ (f : FormatItem). format_size f ≤ size n) (λ (f : FormatItem). length f.pieces < 2 ^ 32) (λ f h. omega (arith, h, low)) n.formats (each_low format_size n.formats (size n) (omega arith));
  roles = omega (arith, low, roles_low n s.valid.actions);
  actions = omega (arith, low, actions_low n.actions s.valid.actions);
  nodes = omega (arith, low, nodes_low n s);
}
