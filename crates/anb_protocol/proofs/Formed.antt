-- The terms of a narration whose names are right are terms of its protocol.
use Rattle.std.proofs.Common.{◌≡◌, ℕ, suc, ◌+◌, ◌<◌, List, [], ◌∷◌, ◌++◌, length, map, ap, sym, ◌∙◌, subst, arith, refl, Bool, true, false, cond, Some, None}
use Rattle.std.specs.Prelude.{◌||◌, ◌&&◌, ◌==◌, slice_get, unwrap_or, IsTrue}
use Rattle.std.specs.Option.{option_map_or}
use Rattle.std.specs.List.{AllByRecursion, list_any, flat_map, position_from}
use Rattle.std.specs.Str.{bytes_eq}
use Rattle.std.proofs.lemmas.Bool.{eqb-true, eq-eqb, and_from, not-false}
use Rattle.anb_index.specs.Places.{among}
use Rattle.anb_lemmas.proofs.Each.{each_in_both, each_in_parts, each_by}
use Rattle.anb_format.specs.Formats.{FormatValue, field_count, is_sound}
use Rattle.anb_term.specs.declared.term.Op.TheVariants.{Format}
use Rattle.anb_term.specs.Operator.{arity}
use Rattle.anb_term.specs.Tree as term
use Rattle.anb_algebra.specs.ByteMeaning.{has_operator}
use Rattle.anb_syntax.specs.Grammar.{Tree, atom, apply, hash, mac, seal, wrap, Trees, none, more, list_of, TypeItem, FormatItem, KnowItem, ActionItem, Narration}
use Rattle.anb_protocol.specs.declared.parts.Atom.{Atom}
use Rattle.anb_protocol.specs.Names.{Use, as_format, used_name, atoms, item_atoms, declared_names, tree_uses, trees_uses, know_uses, action_uses, uses, roles}
use Rattle.anb_protocol.specs.Protocols.{atom_number, format_number, fields_at, format_op, resolved, resolved_all, format_value, formats_of, line_of, action_of, protocol_of}
use Rattle.anb_protocol.specs.Texts.{IsTermOf, AreTermsOf, known_terms}
use Rattle.anb_protocol.specs.Plans.{messages}
use Rattle.anb_protocol.specs.Checks.{names_format, is_missorted, is_miscounted, has_count, unknown, wrong_sort, wrong_count}
use Rattle.anb_protocol.proofs.Faultless.{refused_none, first_none, all_both}
use Rattle.anb_protocol.proofs.Afters.{any-append}

abbrev pub Found : {X : Type 0} → (X → Bool) → ℕ → List X → Type 0
Found {X} p k xs = (j : ℕ) × (x : X) × (position_from p k xs ≡ Some (k + j)) × (slice_get xs j ≡ Some x) × (j < length xs)

found_step : {X : Type 0} (p : X → Bool) (k : ℕ) (x : X) (xs : List X) (b : Bool) → p x ≡ b → list_any p (x ∷ xs) ≡ true → (list_any p xs ≡ true → Found p (k + 1) xs) → Found p k (x ∷ xs)
found_step p k x xs true t e next =
    let here : k ≡ k + 0 = omega arith in
    (0, x, ap (λ v. cond v (Some k) (position_from p (k + 1) xs)) t ∙ ap (λ n. Some n) here, refl, omega arith)
found_step p k x xs false t e next =
    let f = next (sym (ap (λ v. v || list_any p xs) t) ∙ e) in
    let there : (k + 1) + f.0 ≡ k + suc f.0 = omega arith in
    (suc f.0, f.1, ap (λ v. cond v (Some k) (position_from p (k + 1) xs)) t ∙ f.2 ∙ ap (λ n. Some n) there, f.3, omega (arith, f.4))

-- where something passes, the first has a place
pub found : {X : Type 0} (p : X → Bool) (k : ℕ) (xs : List X) → list_any p xs ≡ true → Found p k xs
found p k [] e = absurd (cc)
found p k (x ∷ xs) e = found_step p k x xs (p x) refl e (found p (k + 1) xs)

pub number_below : (all : List Atom) (x : List ℕ) → list_any (λ (a : Atom). bytes_eq a.name x) all ≡ true → atom_number all x < length all
number_below all x e =
    let f = found (λ (a : Atom). bytes_eq a.name x) 0 all e in
    let is : atom_number all x ≡ 0 + f.0 = ap (λ o. unwrap_or o 0) f.2 in
    omega (arith, is, f.4)

pub any-map : {X Y : Type 0} (q : Y → Bool) (f : X → Y) (xs : List X) → list_any q (map f xs) ≡ list_any (λ x. q (f x)) xs
any-map q f [] = refl
any-map q f (x ∷ xs) = ap (λ b. q (f x) || b) (any-map q f xs)

any-names : (types : List TypeItem) (x : List ℕ) → list_any (λ y. bytes_eq y x) (flat_map (λ (i : TypeItem). i.names) types) ≡ list_any (λ (a : Atom). bytes_eq a.name x) (flat_map item_atoms types)
any-names [] x = refl
any-names (i ∷ types) x =
    any-append (λ y. bytes_eq y x) i.names (flat_map (λ (i : TypeItem). i.names) types)
    ∙ ap (λ b. list_any (λ y. bytes_eq y x) i.names || b) (any-names types x)
    ∙ ap (λ b. b || list_any (λ (a : Atom). bytes_eq a.name x) (flat_map item_atoms types)) (sym (any-map (λ (a : Atom). bytes_eq a.name x) (λ y. record { name = y; sort = i.sort }) i.names))
    ∙ sym (any-append (λ (a : Atom). bytes_eq a.name x) (item_atoms i) (flat_map item_atoms types))

or_left : (a b : Bool) → (a || b) ≡ true → b ≡ false → a ≡ true
or_left true b e f = refl
or_left false b e f = cc

-- a declared name that isn't a format's is an atom's
atom_there : (n : Narration) (x : List ℕ) → among (declared_names n) x ≡ true → names_format n.formats x ≡ false → list_any (λ (a : Atom). bytes_eq a.name x) (atoms n) ≡ true
atom_there n x d f =
    sym (any-names n.types x)
    ∙ or_left _ (list_any (λ y. bytes_eq y x) (map (λ (g : FormatItem). g.title) n.formats))
    (sym (any-append (λ y. bytes_eq y x) (flat_map (λ (i : TypeItem). i.names) n.types) (map (λ (g : FormatItem). g.title) n.formats)) ∙ d)
    (any-map (λ y. bytes_eq y x) (λ (g : FormatItem). g.title) n.formats ∙ f)

abbrev IsSoundItem : FormatItem → Type 0
IsSoundItem f = is_sound f.pieces ≡ true

abbrev FoundFormat : List ℕ → ℕ → ℕ → List FormatItem → Type 0
FoundFormat x count k fs = (j : ℕ) × (f : FormatItem) × (position_from (λ (v : FormatValue). bytes_eq v.name x) k (map format_value fs) ≡ Some (k + j))
    × (slice_get (map format_value fs) j ≡ Some (format_value f)) × (field_count f.pieces ≡ count) × IsSoundItem f

format_step : (x : List ℕ) (count k : ℕ) (f : FormatItem) (fs : List FormatItem) (b : Bool) → bytes_eq f.title x ≡ b → has_count (f ∷ fs) x count ≡ true → IsSoundItem f
    → (has_count fs x count ≡ true → FoundFormat x count (k + 1) fs) → FoundFormat x count k (f ∷ fs)
format_step x count k f fs true t e s next =
    let here : k ≡ k + 0 = omega arith in
    let counted : (field_count f.pieces == count) ≡ true = sym (ap (λ v. cond v (field_count f.pieces == count) (has_count fs x count)) t) ∙ e in
    (0, f, ap (λ v. cond v (Some k) (position_from (λ (v : FormatValue). bytes_eq v.name x) (k + 1) (map format_value fs))) t ∙ ap (λ n. Some n) here, refl, eqb-true (field_count f.pieces) count counted, s)
format_step x count k f fs false t e s next =
    let g = next (sym (ap (λ v. cond v (field_count f.pieces == count) (has_count fs x count)) t) ∙ e) in
    let there : (k + 1) + g.0 ≡ k + suc g.0 = omega arith in
    (suc g.0, g.1, ap (λ v. cond v (Some k) (position_from (λ (v : FormatValue). bytes_eq v.name x) (k + 1) (map format_value fs))) t ∙ g.2 ∙ ap (λ n. Some n) there, g.3, g.4, g.5)

format_found : (x : List ℕ) (count k : ℕ) (fs : List FormatItem) → AllByRecursion IsSoundItem fs → has_count fs x count ≡ true → FoundFormat x count k fs
format_found x count k [] s e = absurd (cc)
format_found x count k (f ∷ fs) s e = format_step x count k f fs (bytes_eq f.title x) refl e s.0 (format_found x count (k + 1) fs s.1)

op_there : (formats : List FormatValue) (i : ℕ) (f : FormatValue) → slice_get formats i ≡ Some f → is_sound f.pieces ≡ true → has_operator formats (Format i (fields_at formats i)) ≡ true
op_there formats i f e s =
    ap (λ o. option_map_or (λ (g : FormatValue). is_sound g.pieces && (field_count g.pieces == option_map_or (λ (h : FormatValue). field_count h.pieces) o 0)) o false) e
    ∙ and_from (is_sound f.pieces) (field_count f.pieces == field_count f.pieces) s (eq-eqb (field_count f.pieces) (field_count f.pieces) refl)

length-resolved : (all : List Atom) (formats : List FormatValue) (ts : Trees) → length (term.list_of (resolved_all all formats ts)) ≡ length (list_of ts)
length-resolved all formats none = refl
length-resolved all formats (more t ts) = ap (λ n. suc n) (length-resolved all formats ts)

-- the use of a name is right
abbrev pub Right : Narration → Use → Type 0
Right n u = (among (declared_names n) (used_name u) ≡ true) × (is_missorted (atoms n) n.formats u ≡ false) × (is_miscounted n.formats u ≡ false)

format_right : (n : Narration) (x : List ℕ) (ts : Trees) → AllByRecursion IsSoundItem n.formats → Right n (as_format x (length (list_of ts)))
    → IsTrue (has_operator (formats_of n) (format_op (formats_of n) x)) × (length (term.list_of (resolved_all (atoms n) (formats_of n) ts)) ≡ arity (format_op (formats_of n) x))
format_right n x ts s r =
    let f = format_found x (length (list_of ts)) 0 n.formats s (not-false _ r.2) in
    let is : format_number (formats_of n) x ≡ 0 + f.0 = ap (λ o. unwrap_or o 0) f.2 in
    let num : format_number (formats_of n) x ≡ f.0 = omega (arith, is) in
    let P : ℕ → Type 0 = λ i. has_operator (formats_of n) (Format i (fields_at (formats_of n) i)) ≡ true in
    let fields : fields_at (formats_of n) (format_number (formats_of n) x) ≡ length (list_of ts) =
    ap (fields_at (formats_of n)) num ∙ ap (λ o. option_map_or (λ (h : FormatValue). field_count h.pieces) o 0) f.3 ∙ f.4 in
    (subst P (sym num) (op_there (formats_of n) f.0 (format_value f.1) f.3 f.5), length-resolved (atoms n) (formats_of n) ts ∙ sym fields)

module _ (n : Narration) (s : AllByRecursion IsSoundItem n.formats) where
  mutual
    unfolding protocol_of

    tree_right : (t : Tree) → AllByRecursion (Right n) (tree_uses t) → IsTermOf (protocol_of n) (resolved (atoms n) (formats_of n) t)
    tree_right (atom x) r = number_below (atoms n) x (atom_there n x r.0.0 r.0.1)
    tree_right (apply x ts) r = let o = format_right n x ts s r.0 in (o.0, o.1, trees_right ts r.1)
    tree_right (hash t) r = (refl, refl, (tree_right t r, tt))
    tree_right (mac t u) r = let p = each_in_parts (Right n) (tree_uses t) (tree_uses u) r in (refl, refl, (tree_right t p.0, (tree_right u p.1, tt)))
    tree_right (seal t u) r = let p = each_in_parts (Right n) (tree_uses t) (tree_uses u) r in (refl, refl, (tree_right t p.0, (tree_right u p.1, tt)))
    tree_right (wrap t u v) r =
        let p = each_in_parts (Right n) (tree_uses t ++ tree_uses u) (tree_uses v) r in
        let q = each_in_parts (Right n) (tree_uses t) (tree_uses u) p.0 in
        (refl, refl, (tree_right t q.0, (tree_right u q.1, (tree_right v p.1, tt))))

    trees_right : (ts : Trees) → AllByRecursion (Right n) (trees_uses ts) → AreTermsOf (protocol_of n) (resolved_all (atoms n) (formats_of n) ts)
    trees_right none r = tt
    trees_right (more t ts) r = let p = each_in_parts (Right n) (tree_uses t) (trees_uses ts) r in (tree_right t p.0, trees_right ts p.1)

  list_right : (ts : term.Trees) → AreTermsOf (protocol_of n) ts → AllByRecursion (IsTermOf (protocol_of n)) (term.list_of ts)
  list_right term.none a = tt
  list_right (term.more t ts) a = (a.0, list_right ts a.1)

  line_right : (ks : List KnowItem) (role : List ℕ) → AllByRecursion (Right n) (flat_map know_uses ks) → AreTermsOf (protocol_of n) (resolved_all (atoms n) (formats_of n) (line_of ks role))
  line_right [] role r = tt
  line_right (k ∷ ks) role r =
      let p = each_in_parts (Right n) (know_uses k) (flat_map know_uses ks) r in
      choose k.terms (line_of ks role) (bytes_eq k.role role) (trees_right k.terms p.0.1) (line_right ks role p.1)
    where
      choose : (t u : Trees) (b : Bool) → AreTermsOf (protocol_of n) (resolved_all (atoms n) (formats_of n) t) → AreTermsOf (protocol_of n) (resolved_all (atoms n) (formats_of n) u) → AreTermsOf (protocol_of n) (resolved_all (atoms n) (formats_of n) (cond b t u))
      choose t u true a b = a
      choose t u false a b = b

  knows_right : (names : List (List ℕ)) → AllByRecursion (Right n) (flat_map know_uses n.knows)
      → AllByRecursion (IsTermOf (protocol_of n)) (flat_map (λ (ts : List term.Tree). ts) (map (λ role. term.list_of (resolved_all (atoms n) (formats_of n) (line_of n.knows role))) names))
  knows_right [] r = tt
  knows_right (x ∷ names) r = each_in_both (IsTermOf (protocol_of n)) _ _ (list_right _ (line_right n.knows x r)) (knows_right names r)

  actions_right : (acts : List ActionItem) → AllByRecursion (Right n) (flat_map action_uses acts) → AllByRecursion (IsTermOf (protocol_of n)) (messages (map (action_of (atoms n) (formats_of n) (roles n)) acts))
  actions_right [] r = tt
  actions_right (a ∷ acts) r = let p = each_in_parts (Right n) (action_uses a) (flat_map action_uses acts) r in (tree_right a.message p.0.1.1, actions_right acts p.1)

  -- all terms of the protocol are its terms
  pub terms_right : AllByRecursion (Right n) (uses n) → AllByRecursion (IsTermOf (protocol_of n)) (known_terms (protocol_of n) ++ messages (protocol_of n).actions)
  unfolding protocol_of
  terms_right r =
      let p = each_in_parts (Right n) (flat_map know_uses n.knows) (flat_map action_uses n.actions) r in
      each_in_both (IsTermOf (protocol_of n)) _ _ (knows_right (roles n) p.0) (actions_right n.actions p.1)

-- where no check of names finds anything, each use is right
pub uses_right : (n : Narration) → unknown n ≡ None → wrong_sort n ≡ None → wrong_count n ≡ None → AllByRecursion (Right n) (uses n)
uses_right n a b d =
    let known = each_by _ (λ u. among (declared_names n) (used_name u) ≡ true) (λ u e. not-false _ (refused_none _ _ e)) (uses n) (first_none _ (uses n) a) in
    let sorted = each_by _ (λ u. is_missorted (atoms n) n.formats u ≡ false) (λ u e. refused_none _ _ e) (uses n) (first_none _ (uses n) b) in
    let counted = each_by _ (λ u. is_miscounted n.formats u ≡ false) (λ u e. refused_none _ _ e) (uses n) (first_none _ (uses n) d) in
    each_by _ (Right n) (λ u h. (h.0, h.1.0, h.1.1)) (uses n)
    (all_both (λ u. among (declared_names n) (used_name u) ≡ true) (λ u. (is_missorted (atoms n) n.formats u ≡ false) × (is_miscounted n.formats u ≡ false)) (uses n) known
    (all_both (λ u. is_missorted (atoms n) n.formats u ≡ false) (λ u. is_miscounted n.formats u ≡ false) (uses n) sorted counted))
