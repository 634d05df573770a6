-- All that holds of a protocol.
use Rattle.std.proofs.Common.{◌≡◌, ℕ, zero, suc, ◌+◌, ◌<◌, ◌≤◌, List, [], ◌∷◌, ◌++◌, length, map, ap, sym, ◌∙◌, subst, arith, refl, Bool, true, false, cond, Some, None, append_assoc}
use Rattle.std.specs.Prelude.{slice_get, not, ◌||◌, ◌==◌}
use Rattle.std.specs.List.{AllByRecursion, flat_map, sum_by, zip}
use Rattle.std.specs.Str.{bytes_eq}
use Rattle.std.proofs.lemmas.List.{length-append}
use Rattle.std.proofs.lemmas.List.Sums.{sum_by-append, sum_by-cons}
use Rattle.std.proofs.lemmas.Bool.{and_parts, eq-eqb, not-false}
use Rattle.std.proofs.lemmas.Slice.Eq.{bytes_eq-Decides}
use Rattle.anb_index.specs.Places.{among}
use Rattle.anb_lemmas.proofs.Options.{or_is_none}
use Rattle.anb_lemmas.proofs.Each.{each_in_both, each_in_parts, each_by, each_of_map}
use Rattle.anb_lemmas.proofs.Lists.{get_front}
use Rattle.anb_base.specs.declared.TheConstants.{ARRIVAL, WIDE}
use Rattle.anb_format.specs.Formats.{FormatValue, AreApart, IsSound}
use Rattle.anb_format.proofs.BuiltLemmas.{sound_test}
use Rattle.anb_term.specs.Tree as term
use Rattle.anb_term.specs.Tree.{tree_size, trees_size, nodes, IsFormed}
use Rattle.anb_algebra.specs.ByteMeaning.{has_operator}
use Rattle.anb_syntax.specs.Grammar.{Tree, atom, apply, hash, mac, seal, wrap, Trees, none, more, list_of, FormatItem, KnowItem, ActionItem, Narration, IsSpellable}
use Rattle.anb_protocol.specs.declared.parts.Atom.{Atom}
use Rattle.anb_protocol.specs.declared.refusals.ResolveNo.TheVariants.{Overlap, Wide, SelfSend}
use Rattle.anb_protocol.specs.declared.refusals.Item.TheVariants.{Know, Action}
use Rattle.anb_protocol.specs.declared.refusals.Kind.TheVariants.{AllNodes, TermNodes}
use Rattle.anb_protocol.specs.Choices.{refuse_if, first_after, each_after}
use Rattle.anb_protocol.specs.Names.{atoms, roles, terms, line_names, action_roles, first_new}
use Rattle.anb_protocol.specs.Protocols.{ProtocolValue, ActionValue, resolved, resolved_all, format_value, formats_of, line_of, action_of, protocol_of}
use Rattle.anb_protocol.specs.Texts.{IsTermOf, known_terms}
use Rattle.anb_protocol.specs.Plans.{messages}
use Rattle.anb_protocol.specs.Widths.{fits_width, all_fit_width}
use Rattle.anb_protocol.specs.Checks.{tree_nodes, trees_nodes, declared_twice, are_apart, overlaps, overlap, misshapen, self_send, known_twice, wide_knowledge, wide_message, name_limit, format_limit, field_limit, role_limit, action_limit, term_limit, all_limit}
use Rattle.anb_protocol.specs.WellFormed.{IsProtocol}
use Rattle.anb_protocol.specs.Laws.{HoldsOf, IsActionOf}
use Rattle.anb_protocol.proofs.Afters.{any-append}
use Rattle.anb_protocol.proofs.Faultless.{refused_none, first_none, at_most, all_both, IsFaultless, stages}
use Rattle.anb_protocol.proofs.Holding.{few_formats, sound_items, IsSoundItem, facts_of_narration}
use Rattle.anb_protocol.proofs.ApartLemmas.{apart_from}
use Rattle.anb_protocol.proofs.KnowLemmas.{formed, all_of}
use Rattle.anb_protocol.proofs.Building.{ends_below, tos_below}
use Rattle.anb_protocol.proofs.Distinct.{pairs_by}
use Rattle.anb_protocol.proofs.EachTerm.{of_knowledge, of_messages}
use Rattle.anb_protocol.proofs.Differing.{names_of_narration}

-- ---- formats are apart

at_place : {X : Type 0} (P : X → Type 0) (xs : List X) (k : ℕ) (x : X) → slice_get xs k ≡ Some x → AllByRecursion P xs → P x
at_place P [] k x e a = absurd (cc)
at_place P (y ∷ xs) zero x e a = let s : y ≡ x = cc in subst P s a.0
at_place P (y ∷ xs) (suc k) x e a = at_place P xs k x e a.1

one_apart : (before : List FormatValue) (g : FormatValue) (k : ℕ) (f : FormatValue) → overlaps before g ≡ None → slice_get before k ≡ Some f → AreApart f.pieces g.pieces
one_apart before g k f e s =
    let all = each_by _ (λ (x : FormatValue). are_apart x.pieces g.pieces ≡ true) (λ x h. not-false _ (refused_none (not (are_apart x.pieces g.pieces)) (Overlap x.name g.name) h)) before (first_none _ before e) in
    apart_from f.pieces g.pieces (at_place (λ (x : FormatValue). are_apart x.pieces g.pieces ≡ true) before k f s all)

apart_all : (before fs : List FormatValue) → first_after overlaps before fs ≡ None → (k j : ℕ) (f g : FormatValue) → slice_get (before ++ fs) k ≡ Some f → k < length before + j → slice_get fs j ≡ Some g → AreApart f.pieces g.pieces
apart_all before [] e k j f g a h b = absurd (cc)
apart_all before (x ∷ fs) e k zero f g a h b =
    let s : x ≡ g = cc in
    let o = or_is_none (overlaps before x) _ e in
    one_apart before g k f (ap (overlaps before) (sym s) ∙ o.0) (sym (get_front before (x ∷ fs) k (omega arith)) ∙ a)
apart_all before (x ∷ fs) e k (suc j) f g a h b =
    let o = or_is_none (overlaps before x) _ e in
    apart_all (before ++ x ∷ []) fs o.1 k j f g (ap (λ l. slice_get l k) (append_assoc before (x ∷ []) fs) ∙ a) (omega (arith, length-append before (x ∷ []))) b

-- ---- nodes

module _ (all : List Atom) (formats : List FormatValue) where
  mutual
    size_resolved : (t : Tree) → tree_size (resolved all formats t) ≡ tree_nodes t
    size_resolved (atom x) = refl
    size_resolved (apply x ts) = omega (arith, sizes_resolved ts)
    size_resolved (hash t) = omega (arith, size_resolved t)
    size_resolved (mac t u) = omega (arith, size_resolved t, size_resolved u)
    size_resolved (seal t u) = omega (arith, size_resolved t, size_resolved u)
    size_resolved (wrap t u v) = omega (arith, size_resolved t, size_resolved u, size_resolved v)

    sizes_resolved : (ts : Trees) → trees_size (resolved_all all formats ts) ≡ trees_nodes ts
    sizes_resolved none = refl
    sizes_resolved (more t ts) = omega (arith, size_resolved t, sizes_resolved ts)

  nodes_list : (ts : term.Trees) → nodes (term.list_of ts) ≡ trees_size ts
  nodes_list term.none = refl
  nodes_list (term.more t ts) = omega (arith, nodes_list ts)

  nodes-append : (ts us : List term.Tree) → nodes (ts ++ us) ≡ nodes ts + nodes us
  nodes-append [] us = omega arith
  nodes-append (t ∷ ts) us = omega (arith, nodes-append ts us)

  sum_list : (ts : Trees) → sum_by tree_nodes (list_of ts) ≡ trees_nodes ts
  sum_list none = refl
  sum_list (more t ts) = omega (arith, sum_list ts, sum_by-cons tree_nodes t (list_of ts))

  abbrev one_if : Bool → ℕ
  one_if b = cond b 1 0

  -- how often a name stands in a list
  abbrev times : List ℕ → List (List ℕ) → ℕ
  times x [] = 0
  times x (y ∷ ys) = one_if (bytes_eq x y) + times x ys

  same_eq : (x y : List ℕ) (b d : Bool) → bytes_eq x y ≡ b → bytes_eq y x ≡ d → b ≡ d
  same_eq x y true true e f = refl
  same_eq x y false false e f = refl
  same_eq x y true false e f = let s : x ≡ y = (bytes_eq-Decides x y).0 e in let h : bytes_eq y x ≡ true = (bytes_eq-Decides y x).1 (sym s) in cc
  same_eq x y false true e f = let s : y ≡ x = (bytes_eq-Decides y x).0 f in let h : bytes_eq x y ≡ true = (bytes_eq-Decides x y).1 (sym s) in cc

  -- each name once at most, and none that stands before
  once_step : (before xs : List (List ℕ)) (x y : List ℕ) (a b d : Bool) → among before x ≡ a → bytes_eq x y ≡ b → among before y ≡ d
      → times y (each_after (first_new bytes_eq) (before ++ x ∷ []) xs) ≤ cond (d || (b || false)) 0 1
      → times y (cond a [] (x ∷ []) ++ each_after (first_new bytes_eq) (before ++ x ∷ []) xs) ≤ cond d 0 1
  once_step before xs x y true true d ea eb ed low =
      let s : x ≡ y = (bytes_eq-Decides x y).0 eb in
      let t : d ≡ true = sym ed ∙ ap (among before) (sym s) ∙ ea in
      let P : Bool → Type 0 = λ v. times y (each_after (first_new bytes_eq) (before ++ x ∷ []) xs) ≤ cond (v || (true || false)) 0 1 → times y (each_after (first_new bytes_eq) (before ++ x ∷ []) xs) ≤ cond v 0 1 in
      subst P (sym t) (λ h. h) low
  once_step before xs x y true false true ea eb ed low = low
  once_step before xs x y true false false ea eb ed low = low
  once_step before xs x y false true true ea eb ed low =
      let s : x ≡ y = (bytes_eq-Decides x y).0 eb in absurd (cc (ap (among before) s, ea, ed))
  once_step before xs x y false true false ea eb ed low =
      let e : bytes_eq y x ≡ true = sym (same_eq x y true (bytes_eq y x) eb refl) in
      let n = ap one_if e in omega (arith, n, low)
  once_step before xs x y false false true ea eb ed low =
      let e : bytes_eq y x ≡ false = sym (same_eq x y false (bytes_eq y x) eb refl) in
      let n = ap one_if e in omega (arith, n, low)
  once_step before xs x y false false false ea eb ed low =
      let e : bytes_eq y x ≡ false = sym (same_eq x y false (bytes_eq y x) eb refl) in
      let n = ap one_if e in omega (arith, n, low)

  once : (before xs : List (List ℕ)) (y : List ℕ) → times y (each_after (first_new bytes_eq) before xs) ≤ cond (among before y) 0 1
  once before [] y = omega arith
  once before (x ∷ xs) y =
      let P : Bool → Type 0 = λ v. times y (each_after (first_new bytes_eq) (before ++ x ∷ []) xs) ≤ cond v 0 1 in
      once_step before xs x y (among before x) (bytes_eq x y) (among before y) refl refl refl (subst P (any-append (λ z. bytes_eq z y) before (x ∷ [])) (once (before ++ x ∷ []) xs y))

  abbrev known_sum : List KnowItem → List (List ℕ) → ℕ
  known_sum ks [] = 0
  known_sum ks (x ∷ names) = trees_nodes (line_of ks x) + known_sum ks names

  chosen : (k : KnowItem) (ks : List KnowItem) (x : List ℕ) (b : Bool) → bytes_eq k.role x ≡ b → trees_nodes (line_of (k ∷ ks) x) ≡ cond b (trees_nodes k.terms) (trees_nodes (line_of ks x))
  chosen k ks x true e = ap (λ v. trees_nodes (cond v k.terms (line_of ks x))) e
  chosen k ks x false e = ap (λ v. trees_nodes (cond v k.terms (line_of ks x))) e

  zero_step : (k : KnowItem) (ks : List KnowItem) (x : List ℕ) (names : List (List ℕ)) (b : Bool) → bytes_eq k.role x ≡ b → one_if b + times k.role names ≤ 0
      → (times k.role names ≤ 0 → known_sum (k ∷ ks) names ≤ known_sum ks names) → known_sum (k ∷ ks) (x ∷ names) ≤ known_sum ks (x ∷ names)
  zero_step k ks x names true e h next = absurd (omega (arith, h))
  zero_step k ks x names false e h next = omega (arith, chosen k ks x false e, next (omega (arith, h)))

  no_times : (k : KnowItem) (ks : List KnowItem) (names : List (List ℕ)) → times k.role names ≤ 0 → known_sum (k ∷ ks) names ≤ known_sum ks names
  no_times k ks [] h = omega arith
  no_times k ks (x ∷ names) h = zero_step k ks x names (bytes_eq k.role x) refl h (no_times k ks names)

  once_more : (k : KnowItem) (ks : List KnowItem) (x : List ℕ) (names : List (List ℕ)) (b : Bool) → bytes_eq k.role x ≡ b → one_if b + times k.role names ≤ 1
      → (times k.role names ≤ 1 → known_sum (k ∷ ks) names ≤ trees_nodes k.terms + known_sum ks names) → known_sum (k ∷ ks) (x ∷ names) ≤ trees_nodes k.terms + known_sum ks (x ∷ names)
  once_more k ks x names true e h next = omega (arith, chosen k ks x true e, no_times k ks names (omega (arith, h)))
  once_more k ks x names false e h next = omega (arith, chosen k ks x false e, next (omega (arith, h)))

  one_time : (k : KnowItem) (ks : List KnowItem) (names : List (List ℕ)) → times k.role names ≤ 1 → known_sum (k ∷ ks) names ≤ trees_nodes k.terms + known_sum ks names
  one_time k ks [] h = omega arith
  one_time k ks (x ∷ names) h = once_more k ks x names (bytes_eq k.role x) refl h (one_time k ks names)

  nothing_known : (names : List (List ℕ)) → known_sum [] names ≡ 0
  nothing_known [] = refl
  nothing_known (x ∷ names) = omega (arith, nothing_known names)

  known_low : (ks : List KnowItem) (names : List (List ℕ)) → ((x : List ℕ) → times x names ≤ 1) → known_sum ks names ≤ sum_by tree_nodes (flat_map (λ (k : KnowItem). list_of k.terms) ks)
  known_low [] names h = omega (arith, nothing_known names)
  known_low (k ∷ ks) names h =
      omega (arith, one_time k ks names (h k.role), known_low ks names h, sum_list k.terms, sum_by-append tree_nodes (list_of k.terms) (flat_map (λ (k : KnowItem). list_of k.terms) ks))

  known_nodes : (ks : List KnowItem) (names : List (List ℕ)) → nodes (all_of (map (λ role. term.list_of (resolved_all all formats (line_of ks role))) names)) ≡ known_sum ks names
  known_nodes ks [] = refl
  known_nodes ks (x ∷ names) =
      omega (
        arith,
        nodes-append (term.list_of (resolved_all all formats (line_of ks x))) (all_of (map (λ role. term.list_of (resolved_all all formats (line_of ks role))) names)),
        nodes_list (resolved_all all formats (line_of ks x)),
        sizes_resolved (line_of ks x),
        known_nodes ks names,
      )

  sent_nodes : (names : List (List ℕ)) (acts : List ActionItem) → nodes (messages (map (action_of all formats names) acts)) ≡ sum_by tree_nodes (map (λ (a : ActionItem). a.message) acts)
  sent_nodes names [] = refl
  sent_nodes names (a ∷ acts) = omega (arith, sum_by-cons tree_nodes a.message (map (λ (a : ActionItem). a.message) acts), size_resolved a.message, sent_nodes names acts)

-- ---- widths and ends

each_fits : (least most : ℕ) (formats : List FormatValue) (ts : List term.Tree) → all_fit_width least formats most ts ≡ true → AllByRecursion (λ t. fits_width least formats most t ≡ true) ts
each_fits least most formats [] e = tt
each_fits least most formats (t ∷ ts) e = let h = and_parts (fits_width least formats most t) (all_fit_width least formats most ts) e in (h.0, each_fits least most formats ts h.1)

known_fit : (formats : List FormatValue) (names : List (List ℕ)) (knows : List (List term.Tree)) → length knows ≡ length names
    → AllByRecursion (λ (k : List ℕ × List term.Tree). all_fit_width ARRIVAL formats WIDE k.1 ≡ true) (zip names knows) → AllByRecursion (λ t. fits_width ARRIVAL formats WIDE t ≡ true) (all_of knows)
known_fit formats [] [] l a = tt
known_fit formats [] (ts ∷ knows) l a = absurd (omega (arith, l))
known_fit formats (x ∷ names) [] l a = tt
known_fit formats (x ∷ names) (ts ∷ knows) l a = each_in_both _ ts (all_of knows) (each_fits ARRIVAL WIDE formats ts a.0) (known_fit formats names knows (omega (arith, l)) a.1)

sent_fit : (formats : List FormatValue) (before acts : List ActionValue)
    → first_after (λ before (a : ActionValue). refuse_if (not (fits_width ARRIVAL formats WIDE a.message)) (Wide (Action (length before + 1)))) before acts ≡ None
    → AllByRecursion (λ t. fits_width ARRIVAL formats WIDE t ≡ true) (messages acts)
sent_fit formats before [] e = tt
sent_fit formats before (a ∷ acts) e = let h = or_is_none _ _ e in (not-false _ (refused_none (not (fits_width ARRIVAL formats WIDE a.message)) (Wide (Action (length before + 1))) h.0), sent_fit formats (before ++ a ∷ []) acts h.1)

others : (before acts : List ActionValue) → first_after (λ before (a : ActionValue). refuse_if (a.from == a.to) (SelfSend (length before + 1))) before acts ≡ None → AllByRecursion (λ (a : ActionValue). a.from ≡ a.to → ⊥) acts
others before [] e = tt
others before (a ∷ acts) e =
    let h = or_is_none _ _ e in
    ((λ s. let t : (a.from == a.to) ≡ true = eq-eqb a.from a.to s in cc (refused_none (a.from == a.to) (SelfSend (length before + 1)) h.0, t)), others (before ++ a ∷ []) acts h.1)

-- ---- all

abbrev IsSmall : term.Tree → Type 0
IsSmall t = tree_size t ≤ 1024

small_resolved : (n : Narration) (t : Tree) → tree_nodes t ≤ 1024 → IsSmall (resolved (atoms n) (formats_of n) t)
small_resolved n t h = omega (arith, h, size_resolved (atoms n) (formats_of n) t)

pub holds_of_narration : (n : Narration) → IsSpellable n → IsFaultless ARRIVAL WIDE n → HoldsOf (protocol_of n)
unfolding protocol_of
holds_of_narration n s st =
    let p = protocol_of n in
    let m = or_is_none (misshapen n) _ st.formats in
    let o = or_is_none (overlap n) _ m.1 in
    let f = facts_of_narration n s st.limits st.names m.0 in
    let few = few_formats n st.limits in
    let x1 = or_is_none (self_send p) _ st.protocol in
    let x2 = or_is_none (known_twice p) _ x1.1 in
    let x3 = or_is_none (wide_knowledge ARRIVAL WIDE p) _ x2.1 in
    let x4 = or_is_none (wide_message ARRIVAL WIDE p) _ x3.1 in
    let l1 = or_is_none (name_limit n) _ st.limits in
    let l2 = or_is_none (format_limit n) _ l1.1 in
    let l3 = or_is_none (field_limit n) _ l2.1 in
    let l4 = or_is_none (role_limit n) _ l3.1 in
    let l5 = or_is_none (action_limit n) _ l4.1 in
    let l6 = or_is_none (term_limit n) _ l5.1 in
    let l7 = or_is_none (all_limit n) _ l6.1 in
    let each = each_by _ (λ t. tree_nodes t ≤ 1024) (λ t h. at_most 1024 TermNodes (tree_nodes t) h) (terms n) (first_none _ (terms n) l6.0) in
    let low = each_in_parts (λ t. tree_nodes t ≤ 1024) (flat_map (λ (k : KnowItem). list_of k.terms) n.knows) (map (λ (a : ActionItem). a.message) n.actions) each in
    let count = at_most 65536 AllNodes (sum_by tree_nodes (terms n)) l7.0 in
    let ends = all_both (λ (a : ActionValue). a.from < length p.roles) (λ (a : ActionValue). (a.to < length p.roles) × (a.from ≡ a.to → ⊥)) p.actions (ends_below n)
    (all_both (λ (a : ActionValue). a.to < length p.roles) (λ (a : ActionValue). a.from ≡ a.to → ⊥) p.actions (tos_below n) (others [] p.actions x1.0)) in
    let wide = each_by _ (λ (k : List ℕ × List term.Tree). all_fit_width ARRIVAL p.formats WIDE k.1 ≡ true) (λ k h. not-false _ (refused_none (not (all_fit_width ARRIVAL p.formats WIDE k.1)) (Wide (Know k.0)) h)) (zip p.roles p.knows) (first_none _ (zip p.roles p.knows) x3.0) in
    record {
      formats = few.formats;
      titles = pairs_by (λ (f : FormatValue). f.name) p.formats (names_of_narration n s (or_is_none (declared_twice n) _ st.names).0).formats_apart;
      fields = few.fields;
      sound = each_of_map (λ (v : FormatValue). IsSound v.pieces) format_value n.formats (each_by IsSoundItem (λ (i : FormatItem). IsSound i.pieces) (λ i h. sound_test i.pieces h) n.formats (sound_items n m.0 s.valid.formats));
      apart = λ i j v w h a b. apart_all [] (formats_of n) o.0 i j v w a (omega (arith, h)) b;
      roles = f.roles;
      knows = f.knows;
      actions = f.actions;
      ends = each_by _ (IsActionOf p) (λ a h. record { from = h.0; to = h.1.0; apart = h.1.1 }) p.actions ends;
      terms = f.terms;
      formed = each_by (IsTermOf p) (IsFormed (has_operator p.formats)) (λ t h. formed p t h) (known_terms p ++ messages p.actions) f.terms;
      sizes = each_in_both IsSmall (known_terms p) (messages p.actions)
          (of_knowledge (atoms n) (formats_of n) (λ t. tree_nodes t ≤ 1024) IsSmall (small_resolved n) n.knows (roles n) low.0)
          (of_messages (atoms n) (formats_of n) (λ t. tree_nodes t ≤ 1024) IsSmall (small_resolved n) (roles n) n.actions low.1);
      nodes = omega (
        arith,
        count,
        nodes-append (atoms n) (formats_of n) (known_terms p) (messages p.actions),
        known_nodes (atoms n) (formats_of n) n.knows (roles n),
        sent_nodes (atoms n) (formats_of n) (roles n) n.actions,
        known_low (atoms n) (formats_of n) n.knows (roles n) (λ x. once (atoms n) (formats_of n) [] (line_names n ++ flat_map action_roles n.actions) x),
        sum_by-append tree_nodes (flat_map (λ (k : KnowItem). list_of k.terms) n.knows) (map (λ (a : ActionItem). a.message) n.actions),
      );
      widths = each_in_both (λ t. fits_width ARRIVAL p.formats WIDE t ≡ true) (known_terms p) (messages p.actions) (known_fit p.formats p.roles p.knows f.knows wide) (sent_fit p.formats [] p.actions x4.0);
    }

pub holds : (p : ProtocolValue) → IsProtocol p → HoldsOf p
holds p i = let P : ProtocolValue → Type 0 = λ q. HoldsOf q in subst P (sym i.is) (holds_of_narration i.narration i.spellable (stages ARRIVAL WIDE i.narration i.well_formed))
