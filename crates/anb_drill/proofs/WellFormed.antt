-- The narration of a drill is well formed.
use Rattle.std.proofs.Common.{◌≡◌, ℕ, ◌+◌, ◌*◌, ◌≤◌, List, [], ◌∷◌, ◌++◌, length, map, Bool, true, false, cond, not, Option, None, refl, sym, ap, ◌∙◌, subst, arith, codes}
use Rattle.std.specs.Prelude.{◌==◌, ◌||◌, nat_lt, unwrap_or}
use Rattle.std.specs.Option.{option_or}
use Rattle.std.specs.List.{AllByRecursion, flat_map, range_with_len, sum_by, zip}
use Rattle.std.specs.Str.{bytes_eq}
use Rattle.std.proofs.lemmas.Bool.Decides.{nat_tests}
use Rattle.std.proofs.lemmas.List.{length-map}
use Rattle.std.proofs.lemmas.List.FromFn.{length-map-range_with_len}
use Rattle.std.proofs.lemmas.List.Sums.{sum_by-append, sum_by-cons}
use Rattle.anb_index.specs.Places.{among}
use Rattle.anb_base.specs.declared.TheConstants.{ARRIVAL, WIDE}
use Rattle.anb_format.specs.Formats.{FormatValue}
use Rattle.anb_lemmas.proofs.Each.{each_in_both, each_by, each_of_map}
use Rattle.anb_lemmas.proofs.Items.{bytes_differ}
use Rattle.anb_term.specs.Tree as term
use Rattle.anb_syntax.specs.Grammar.{ActionItem, KnowItem, Tree, list_of}
use Rattle.anb_syntax.specs.declared.narration.Sort.TheVariants.{Number}
use Rattle.anb_gen.specs.Drill.{closing, drill_actions, drill_know, drill_narration, exchange, number_name, role_names}
use Rattle.anb_gen.proofs.Alternating.{how_many}
use Rattle.anb_gen.proofs.Each.{either_way}
use Rattle.anb_protocol.specs.declared.parts.Atom.{Atom}
use Rattle.anb_protocol.specs.declared.refusals.Kind.{Kind}
use Rattle.anb_protocol.specs.declared.refusals.Kind.TheVariants as kind
use Rattle.anb_protocol.specs.declared.refusals.Item.TheVariants.{Know, Action}
use Rattle.anb_protocol.specs.declared.refusals.ResolveNo.{ResolveNo}
use Rattle.anb_protocol.specs.declared.refusals.ResolveNo.TheVariants.{KnowledgeTwice, Limit, SelfSend, Unknown, Wide, WrongCount, WrongSort}
use Rattle.anb_protocol.specs.Choices.{each_after, first, refuse_if, first_after}
use Rattle.anb_protocol.specs.Checks.{IsWellFormed, above, action_limit, all_limit, declared_twice, fault, field_limit, first_fault, format_checks, format_limit, is_miscounted, is_missorted, known_again, known_twice, limit_checks, line_twice, name_checks, name_limit, protocol_checks, role_limit, self_send, term_limit, tree_nodes, unknown, wide_knowledge, wide_message, wrong_count, wrong_sort}
use Rattle.anb_protocol.specs.Names.{action_roles, all_names, atoms, declared_names, first_new, roles, terms, used_name, uses}
use Rattle.anb_protocol.specs.Protocols.{ActionValue, ProtocolValue, action_of, atom_number, formats_of, line_of, protocol_of, resolved_all}
use Rattle.anb_protocol.specs.Texts.{term_text}
use Rattle.anb_protocol.specs.Widths.{all_fit_width, fits_width}
use Rattle.anb_protocol.proofs.Afters.{any-append}
use Rattle.anb_protocol.proofs.Distinct.{AllApart}
use Rattle.anb_drill.proofs.Lists.{none_first, none_first_after, none_twice, not_here, over_flat, over_from}
use Rattle.anb_drill.proofs.Names.{IsRight, all_declared, declared_apart, declared_are, number_short, numbers, other_than_numbers, uses_right}

-- ---- roles

none_new : (before xs : List (List ℕ)) → AllByRecursion (λ x. among before x ≡ true) xs → each_after (first_new bytes_eq) before xs ≡ []
none_new before [] all = refl
none_new before (x ∷ xs) all =
    ap (λ b. cond b [] (x ∷ []) ++ each_after (first_new bytes_eq) (before ++ x ∷ []) xs) all.0
    ∙ none_new (before ++ x ∷ []) xs (each_by (λ y. among before y ≡ true) (λ y. among (before ++ x ∷ []) y ≡ true) (λ y e. any-append (λ z. bytes_eq z y) before (x ∷ []) ∙ ap (λ b. b || among (x ∷ []) y) e) xs all.1)

abbrev Known : ActionItem → Type 0
Known a = AllByRecursion (λ x. among role_names x ≡ true) (action_roles a)

all_known : (n : ℕ) → AllByRecursion Known (drill_actions n)
all_known n = (
  (refl, (refl, tt)),
  each_in_both Known (map exchange (range_with_len 1 n)) (closing ∷ []) (over_from Known exchange 1 n (λ i _ _. either_way Known i (refl, (refl, tt)) (refl, (refl, tt)))) ((refl, (refl, tt)), tt),
)

pub roles_are : (n : ℕ) → roles (drill_narration n) ≡ role_names
unfolding drill_narration
roles_are n = ap (λ l. codes "A" ∷ codes "B" ∷ l) (none_new role_names (flat_map action_roles (drill_actions n)) (over_flat (λ x. among role_names x ≡ true) action_roles (drill_actions n) (all_known n)))

-- ---- atoms

abbrev pub number_atoms : ℕ → List Atom
number_atoms n = map (λ x. record { name = x; sort = Number }) (numbers 0 (n + 1))

abbrev pub has_name : List ℕ → Atom → Bool
has_name x a = bytes_eq a.name x

pub no_number : (x : ℕ) (rest : List ℕ) (from count : ℕ) → (x ≡ 78 → ⊥) → AllByRecursion (λ (a : Atom). has_name (x ∷ rest) a ≡ false) (map (λ y. record { name = y; sort = Number }) (numbers from count))
no_number x rest from count other =
    each_of_map (λ (a : Atom). has_name (x ∷ rest) a ≡ false) (λ y. record { name = y; sort = Number }) (numbers from count)
    (over_from (λ y. bytes_eq y (x ∷ rest) ≡ false) number_name from count (λ i _ _. bytes_differ (number_name i) (x ∷ rest) (λ e. other_than_numbers x rest i other (sym e))))

pub many : (n : ℕ) → length (number_atoms n) ≡ n + 1
many n = length-map (numbers 0 (n + 1)) (λ x. record { name = x; sort = Number }) ∙ length-map-range_with_len number_name 0 (n + 1)

pub k_is : (n : ℕ) → atom_number (atoms (drill_narration n)) (codes "K") ≡ n + 3
unfolding drill_narration
k_is n =
    let at : 2 + length (number_atoms n) ≡ n + 3 = omega (arith, many n) in
    ap (λ o. unwrap_or o 0) (not_here (has_name (codes "K")) 2 (number_atoms n) _ (no_number 75 [] 0 (n + 1) (λ e. omega (arith, e)))) ∙ at

-- ---- limits

within : (most : ℕ) (kind : Kind) (count : ℕ) → count ≤ most → above most kind count ≡ None
within most kind count less = let e : nat_lt most count ≡ false = grind (arith, nat_tests, less) in ap (λ b. refuse_if b (Limit kind count)) e

abbrev Short : List ℕ → Type 0
Short x = above 64 kind.Name (length x) ≡ None

declared_short : (n : ℕ) → n ≤ 200 → AllByRecursion Short (all_declared n)
declared_short n most = (
  refl,
  (
    refl,
    each_in_both Short (numbers 0 (n + 1)) (codes "K" ∷ codes "L" ∷ codes "p" ∷ [])
        (over_from Short number_name 0 (n + 1) (λ i _ below. within 64 kind.Name (length (number_name i)) (number_short i (omega (arith, below, most))))) (refl, (refl, (refl, tt))),
  ),
)

titled : (n : ℕ) → Short (drill_narration n).title
unfolding drill_narration
titled n = refl

short_names : (n : ℕ) → n ≤ 200 → name_limit (drill_narration n) ≡ None
short_names n most =
    none_first (λ (x : List ℕ). above 64 kind.Name (length x)) (all_names (drill_narration n)) (
      titled n,
      each_in_both Short (declared_names (drill_narration n)) (map used_name (uses (drill_narration n))) (subst (λ (l : List (List ℕ)). AllByRecursion Short l) (sym (declared_are n)) (declared_short n most))
          (each_of_map Short used_name (uses (drill_narration n)) (each_by (IsRight n) (λ u. Short (used_name u)) (λ u r. within 64 kind.Name (length (used_name u)) r.short) (uses (drill_narration n)) (uses_right n most))),
    )

few_roles : (n : ℕ) → role_limit (drill_narration n) ≡ None
few_roles n = ap (λ l. above 32 kind.Roles (length l)) (roles_are n)

few_actions : (n : ℕ) → n ≤ 200 → action_limit (drill_narration n) ≡ None
unfolding drill_narration
few_actions n most = within 256 kind.Actions (length (drill_actions n)) (omega (arith, how_many n, most))

abbrev message : ActionItem → Tree
message a = a.message

abbrev Light : ActionItem → Type 0
Light a = tree_nodes a.message ≤ 6

all_light : (n : ℕ) → AllByRecursion Light (drill_actions n)
all_light n = (
  omega arith,
  each_in_both Light (map exchange (range_with_len 1 n)) (closing ∷ []) (over_from Light exchange 1 n (λ i _ _. either_way Light i (omega arith) (omega arith))) (omega arith, tt),
)

few_nodes : (xs : List ActionItem) → AllByRecursion Light xs → sum_by tree_nodes (map message xs) ≤ 6 * length xs
few_nodes [] all = omega arith
few_nodes (x ∷ xs) all = let one = all.0 in let rest = few_nodes xs all.1 in let s = sum_by-cons tree_nodes x.message (map message xs) in omega (arith, one, rest, s)

abbrev known_to_roles : List Tree
known_to_roles = flat_map (λ (k : KnowItem). list_of k.terms) (map drill_know role_names)

few_in_terms : (n : ℕ) → n ≤ 200 → all_limit (drill_narration n) ≡ None
unfolding drill_narration
few_in_terms n most =
    let sums = few_nodes (drill_actions n) (all_light n) in
    let count = how_many n in
    let six : sum_by tree_nodes known_to_roles ≡ 6 = refl in
    let all = sum_by-append tree_nodes known_to_roles (map message (drill_actions n)) in
    within 65536 kind.AllNodes (sum_by tree_nodes (terms (drill_narration n))) (omega (arith, sums, count, six, all, most))

small_terms : (n : ℕ) → term_limit (drill_narration n) ≡ None
unfolding drill_narration
small_terms n =
    none_first (λ t. above 1024 kind.TermNodes (tree_nodes t)) (terms (drill_narration n)) (
      refl,
      (
        refl,
        (
          refl,
          (
            refl,
            (
              refl,
              (
                refl,
                each_of_map (λ t. above 1024 kind.TermNodes (tree_nodes t) ≡ None) message (drill_actions n)
                    (each_by Light (λ a. above 1024 kind.TermNodes (tree_nodes a.message) ≡ None) (λ a light. within 1024 kind.TermNodes (tree_nodes a.message) (omega (arith, light))) (drill_actions n) (all_light n)),
              ),
            ),
          ),
        ),
      ),
    )

one_format : (n : ℕ) → format_limit (drill_narration n) ≡ None
unfolding drill_narration
one_format n = refl

two_fields : (n : ℕ) → field_limit (drill_narration n) ≡ None
unfolding drill_narration
two_fields n = refl

pub in_limits : (n : ℕ) → n ≤ 200 → first_fault limit_checks (drill_narration n) ≡ None
in_limits n most =
    none_first (λ check. check (drill_narration n)) limit_checks (short_names n most, (one_format n, (two_fields n, (few_roles n, (few_actions n most, (small_terms n, (few_in_terms n most, tt)))))))

-- ---- names and formats

two_lines : (n : ℕ) → line_twice (drill_narration n) ≡ None
unfolding drill_narration
two_lines n = refl

pub in_names : (n : ℕ) → n ≤ 200 → first_fault name_checks (drill_narration n) ≡ None
in_names n most = none_first (λ check. check (drill_narration n)) name_checks (once, (two_lines n, (all_known_names, (all_sorted, (all_counted, tt))))) where
  once : declared_twice (drill_narration n) ≡ None
  once = none_twice (declared_names (drill_narration n)) (subst (λ (l : List (List ℕ)). AllApart l) (sym (declared_are n)) (declared_apart n most))

  all_known_names : unknown (drill_narration n) ≡ None
  all_known_names =
      none_first (λ u. refuse_if (not (among (declared_names (drill_narration n)) (used_name u))) (Unknown (used_name u))) (uses (drill_narration n))
      (each_by (IsRight n) (λ u. refuse_if (not (among (declared_names (drill_narration n)) (used_name u))) (Unknown (used_name u)) ≡ None)
      (λ u r. ap (λ b. refuse_if (not b) (Unknown (used_name u))) (ap (λ (l : List (List ℕ)). among l (used_name u)) (declared_are n) ∙ r.declared)) (uses (drill_narration n)) (uses_right n most))

  all_sorted : wrong_sort (drill_narration n) ≡ None
  all_sorted =
      none_first (λ u. refuse_if (is_missorted (atoms (drill_narration n)) (drill_narration n).formats u) (WrongSort (used_name u))) (uses (drill_narration n))
      (each_by (IsRight n) (λ u. refuse_if (is_missorted (atoms (drill_narration n)) (drill_narration n).formats u) (WrongSort (used_name u)) ≡ None)
      (λ u r. ap (λ b. refuse_if b (WrongSort (used_name u))) r.sorted) (uses (drill_narration n)) (uses_right n most))

  all_counted : wrong_count (drill_narration n) ≡ None
  all_counted =
      none_first (λ u. refuse_if (is_miscounted (drill_narration n).formats u) (WrongCount (used_name u))) (uses (drill_narration n))
      (each_by (IsRight n) (λ u. refuse_if (is_miscounted (drill_narration n).formats u) (WrongCount (used_name u)) ≡ None)
      (λ u r. ap (λ b. refuse_if b (WrongCount (used_name u))) r.counted) (uses (drill_narration n)) (uses_right n most))

pub in_formats : (n : ℕ) → first_fault format_checks (drill_narration n) ≡ None
unfolding drill_narration
in_formats n = refl

-- ---- the protocol

abbrev pub made_action : ℕ → ActionItem → ActionValue
made_action n a = action_of (atoms (drill_narration n)) (formats_of (drill_narration n)) role_names a

pub actions_are : (n : ℕ) → (protocol_of (drill_narration n)).actions ≡ map (made_action n) (drill_actions n)
unfolding protocol_of drill_narration
actions_are n = ap (λ (l : List (List ℕ)). map (action_of (atoms (drill_narration n)) (formats_of (drill_narration n)) l) (drill_actions n)) (roles_are n)

abbrev GoesToAnother : ℕ → ActionItem → Type 0
GoesToAnother n a = ((made_action n a).from == (made_action n a).to) ≡ false

go_to_another : (n : ℕ) → AllByRecursion (GoesToAnother n) (drill_actions n)
go_to_another n = (
  refl,
  each_in_both (GoesToAnother n) (map exchange (range_with_len 1 n)) (closing ∷ []) (over_from (GoesToAnother n) exchange 1 n (λ i _ _. either_way (GoesToAnother n) i refl refl)) (refl, tt),
)

none_to_itself : (n : ℕ) → self_send (protocol_of (drill_narration n)) ≡ None
none_to_itself n =
    ap (first_after (λ before (a : ActionValue). refuse_if (a.from == a.to) (SelfSend (length before + 1))) []) (actions_are n)
    ∙ none_first_after (λ before (a : ActionValue). refuse_if (a.from == a.to) (SelfSend (length before + 1))) [] (map (made_action n) (drill_actions n))
    (each_of_map (λ (a : ActionValue). (others : List ActionValue) → refuse_if (a.from == a.to) (SelfSend (length others + 1)) ≡ None) (made_action n) (drill_actions n)
    (each_by (GoesToAnother n) (λ a. (others : List ActionValue) → refuse_if ((made_action n a).from == (made_action n a).to) (SelfSend (length others + 1)) ≡ None)
    (λ a e others. ap (λ b. refuse_if b (SelfSend (length others + 1))) e) (drill_actions n) (go_to_another n)))

abbrev Fits : ℕ → ActionItem → Type 0
Fits n a = fits_width ARRIVAL (formats_of (drill_narration n)) WIDE (made_action n a).message ≡ true

all_fit : (n : ℕ) → AllByRecursion (Fits n) (drill_actions n)
unfolding drill_narration
all_fit n = (refl, each_in_both (Fits n) (map exchange (range_with_len 1 n)) (closing ∷ []) (over_from (Fits n) exchange 1 n (λ i _ _. either_way (Fits n) i refl refl)) (refl, tt))

formats_are : (n : ℕ) → (protocol_of (drill_narration n)).formats ≡ formats_of (drill_narration n)
unfolding protocol_of
formats_are n = refl

none_wide : (n : ℕ) → wide_message ARRIVAL WIDE (protocol_of (drill_narration n)) ≡ None
none_wide n =
    let f : List ActionValue → ActionValue → Option ResolveNo = λ before a. refuse_if (not (fits_width ARRIVAL (protocol_of (drill_narration n)).formats WIDE a.message)) (Wide (Action (length before + 1))) in
    ap (first_after f []) (actions_are n)
    ∙ none_first_after f [] (map (made_action n) (drill_actions n))
    (each_of_map (λ (a : ActionValue). (others : List ActionValue) → f others a ≡ None) (made_action n) (drill_actions n)
    (each_by (Fits n) (λ a. (others : List ActionValue) → f others (made_action n a) ≡ None)
    (λ a e others. ap (λ b. refuse_if (not b) (Wide (Action (length others + 1)))) (ap (λ (formats : List FormatValue). fits_width ARRIVAL formats WIDE (made_action n a).message) (formats_are n) ∙ e)) (drill_actions n) (all_fit n)))

abbrev pub known_to_both : ℕ → List term.Tree
known_to_both n = term.leaf 0 ∷ term.leaf 1 ∷ term.leaf (n + 3) ∷ []

pub knows_are : (n : ℕ) → (protocol_of (drill_narration n)).knows ≡ known_to_both n ∷ known_to_both n ∷ []
unfolding protocol_of drill_narration
knows_are n =
    ap (map (λ role. term.list_of (resolved_all (atoms (drill_narration n)) (formats_of (drill_narration n)) (line_of (drill_narration n).knows role)))) (roles_are n)
    ∙ ap (λ k. (term.leaf 0 ∷ term.leaf 1 ∷ term.leaf k ∷ []) ∷ (term.leaf 0 ∷ term.leaf 1 ∷ term.leaf k ∷ []) ∷ []) (k_is n)

pub protocol_roles_are : (n : ℕ) → (protocol_of (drill_narration n)).roles ≡ role_names
unfolding protocol_of
protocol_roles_are n = roles_are n

apart_leaves : (p : ProtocolValue) (x : List ℕ) (n : ℕ) → known_again p (x, known_to_both n) ≡ None
apart_leaves p x n =
    let a : (0 == n + 3) ≡ false = grind (arith, nat_tests) in
    let b : (1 == n + 3) ≡ false = grind (arith, nat_tests) in
    let why = KnowledgeTwice x (term_text p (term.leaf (n + 3))) in
    ap (λ v. option_or (refuse_if (v || ((1 == n + 3) || false)) why) None) a ∙ ap (λ v. option_or (refuse_if (v || false) why) None) b

none_known_twice : (n : ℕ) → known_twice (protocol_of (drill_narration n)) ≡ None
none_known_twice n =
    let p = protocol_of (drill_narration n) in
    ap (λ (names : List (List ℕ)). first (known_again p) (zip names p.knows)) (protocol_roles_are n) ∙ ap (λ (k : List (List term.Tree)). first (known_again p) (zip role_names k)) (knows_are n)
    ∙ ap (λ o. option_or o (option_or (known_again p (codes "B", known_to_both n)) None)) (apart_leaves p (codes "A") n) ∙ ap (λ o. option_or o None) (apart_leaves p (codes "B") n)

no_wide_knowledge : (n : ℕ) → wide_knowledge ARRIVAL WIDE (protocol_of (drill_narration n)) ≡ None
no_wide_knowledge n =
    let p = protocol_of (drill_narration n) in
    let f : List ℕ × List term.Tree → Option ResolveNo = λ k. refuse_if (not (all_fit_width ARRIVAL p.formats WIDE k.1)) (Wide (Know k.0)) in
    ap (λ (names : List (List ℕ)). first f (zip names p.knows)) (protocol_roles_are n) ∙ ap (λ (k : List (List term.Tree)). first f (zip role_names k)) (knows_are n)

pub in_protocol : (n : ℕ) → first_fault (protocol_checks ARRIVAL WIDE) (protocol_of (drill_narration n)) ≡ None
in_protocol n =
    none_first (λ check. check (protocol_of (drill_narration n))) (protocol_checks ARRIVAL WIDE) (none_to_itself n, (none_known_twice n, (no_wide_knowledge n, (none_wide n, tt))))

pub well_formed : (n : ℕ) → n ≤ 200 → IsWellFormed ARRIVAL WIDE (drill_narration n)
unfolding fault
well_formed n most =
    ap (λ o. option_or o (option_or (first_fault name_checks (drill_narration n)) (option_or (first_fault format_checks (drill_narration n)) (first_fault (protocol_checks ARRIVAL WIDE) (protocol_of (drill_narration n)))))) (in_limits n most)
    ∙ ap (λ o. option_or o (option_or (first_fault format_checks (drill_narration n)) (first_fault (protocol_checks ARRIVAL WIDE) (protocol_of (drill_narration n))))) (in_names n most)
    ∙ ap (λ o. option_or o (first_fault (protocol_checks ARRIVAL WIDE) (protocol_of (drill_narration n)))) (in_formats n) ∙ in_protocol n
