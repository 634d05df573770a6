-- A code that fits a role of a protocol can be written as a role file: its names are names of the grammar.
use Rattle.std.proofs.Common.{◌≡◌, ◌≢◌, ◌<◌, ◌≤◌, ◌+◌, ◌^◌, ℕ, zero, suc, Bool, true, false, List, [], ◌∷◌, ◌++◌, length, map, Some, refl, sym, subst, arith, IsTrue}
use Rattle.std.specs.Prelude.{not, slice_get}
use Rattle.std.specs.List.{AllByRecursion, flat_map, list_all, list_any, range_with_len}
use Rattle.std.specs.Option.{option_map_or}
use Rattle.std.specs.Str.{bytes_eq}
use Rattle.std.proofs.lemmas.Bool.{and_parts}
use Rattle.std.proofs.lemmas.Bool.Decides.{nat_tests}
use Rattle.std.proofs.lemmas.List.{length-append}
use Rattle.std.proofs.lemmas.List.Elements.{All-from_recursion, recursion_from_All}
use Rattle.std.proofs.lemmas.List.Sums.{sum_by_push, sum_by-cons}
use Rattle.anb_lemmas.proofs.Each.{each_in_both, each_in_parts}
use Rattle.anb_base.specs.declared.TheConstants.{ARRIVAL, WIDE}
use Rattle.anb_format.specs.Formats.{FormatValue, IsBytesPiece, head}
use Rattle.anb_format.specs.declared.pieces.Piece.{Piece}
use Rattle.anb_format.specs.declared.pieces.Piece.TheVariants.{Lit, Field}
use Rattle.anb_term.specs.declared.term.Op.{Op}
use Rattle.anb_term.specs.declared.term.Op.TheVariants.{Hash, Mac, Seal, Wrap, Format}
use Rattle.anb_term.specs.Operator.{arity}
use Rattle.anb_term.specs.Tree as term
use Rattle.anb_algebra.specs.ByteMeaning.{has_operator}
use Rattle.anb_syntax.specs.Canon.{canon_tree, word_bytes, words_bytes}
use Rattle.anb_syntax.specs.Grammar.{Tree, atom, apply, hash, mac, seal, wrap, Trees, none, more, ActionItem, KnowItem, Narration, IsActionItem, IsKnowItem, IsName, IsTree, AreTrees, spell_tree, spell_trees, spell_others}
use Rattle.anb_syntax.specs.Words.{Word, close_sign, comma, is_letter, is_name, is_name_byte, is_spelled, open_sign, reserved_words}
use Rattle.anb_values.specs.Lines.{IsLabel, is_label_byte}
use Rattle.anb_code.specs.CodeValue.{CodeValue}
use Rattle.anb_code.specs.Registers.{count_written, operands}
use Rattle.anb_code.specs.Spelling.{name_at, name_of, raw_instr, raw_instrs, raw_of, what_of}
use Rattle.anb_code.specs.Table.{HasCounts}
use Rattle.anb_code.specs.Taking.{take_texts}
use Rattle.anb_code.specs.Verified.{EachAfter, HasItsFormat, IsFormatAfter, IsInstrAfter, IsVerifiedCode, count_registers}
use Rattle.anb_code.specs.declared.instr.Instr.{Instr}
use Rattle.anb_code.specs.declared.instr.Instr.TheVariants as instr
use Rattle.anb_code.proofs.Spelled.{spelled_code}
use Rattle.anb_compile.specs.Fitting.{FitsRole}
use Rattle.anb_protocol.specs.Choices.{each_after}
use Rattle.anb_protocol.specs.Names.{action_roles, first_new, line_names}
use Rattle.anb_protocol.specs.Protocols.{ProtocolValue, protocol_of}
use Rattle.anb_protocol.specs.Texts.{IsTermOf, AreTermsOf, known_by, known_terms, known_texts, spelled, spelled_all, term_text, written}
use Rattle.anb_protocol.specs.Plans.{messages}
use Rattle.anb_protocol.specs.WellFormed.{IsProtocol}
use Rattle.anb_protocol.specs.declared.parts.Atom.{Atom}
use Rattle.anb_protocol.proofs.Differing.{names_of}
use Rattle.anb_protocol.proofs.Holding.{facts, known_ours}
use Rattle.anb_protocol.proofs.ReadOnce.{HasNames}
use Rattle.anb_text.specs.Lines.{IsFormat, IsInstr, IsNameFor}
use Rattle.anb_text.specs.RoleFiles.{IsSpellable}

-- ---- the text of a term is a label text

name_byte : (b : ℕ) → is_name_byte b ≡ true → is_label_byte b ≡ true
name_byte b h = grind (arith, nat_tests)

letter_byte : (b : ℕ) → is_letter b ≡ true → is_label_byte b ≡ true
letter_byte b h = grind (arith, nat_tests)

name_bytes : (n : List ℕ) → list_all is_name_byte n ≡ true → AllByRecursion (λ b. is_label_byte b ≡ true) n
name_bytes [] h = tt
name_bytes (b ∷ n) h = let k = and_parts (is_name_byte b) (list_all is_name_byte n) h in (name_byte b k.0, name_bytes n k.1)

spelled_bytes : (n : List ℕ) → is_spelled n ≡ true → AllByRecursion (λ b. is_label_byte b ≡ true) n × (0 < length n)
spelled_bytes [] h = absurd (cc)
spelled_bytes (b ∷ n) h = let k = and_parts (is_letter b) (list_all is_name_byte n) h in ((letter_byte b k.0, name_bytes n k.1), omega arith)

pub name_is : (n : List ℕ) → IsName n → AllByRecursion (λ b. is_label_byte b ≡ true) n × (0 < length n)
unfolding is_name
name_is n h = spelled_bytes n (and_parts (is_spelled n) (not (list_any (bytes_eq n) reserved_words)) h).0

abbrev IsPlain : Word → Type 0
IsPlain w = AllByRecursion (λ b. is_label_byte b ≡ true) (word_bytes w)

plain_bytes : (ws : List Word) → AllByRecursion IsPlain ws → AllByRecursion (λ b. is_label_byte b ≡ true) (words_bytes ws)
plain_bytes [] all = tt
plain_bytes (w ∷ ws) all = each_in_both (λ b. is_label_byte b ≡ true) (word_bytes w) (words_bytes ws) all.0 (plain_bytes ws all.1)

both : (ws vs : List Word) → AllByRecursion IsPlain ws → AllByRecursion IsPlain vs → AllByRecursion IsPlain (ws ++ vs)
both ws vs all also = each_in_both IsPlain ws vs all also

mutual
  plain_tree : (t : Tree) → IsTree t → AllByRecursion IsPlain (spell_tree t)
  plain_tree (atom n) is = ((name_is n is).0, tt)
  plain_tree (apply n ts) is = ((name_is n is.0).0, ((refl, tt), plain_trees ts is.1))
  plain_tree (hash t) is = ((refl, tt), ((refl, tt), both (spell_tree t) (close_sign ∷ []) (plain_tree t is) ((refl, tt), tt)))
  plain_tree (mac t u) is =
      let last = both (spell_tree u) (close_sign ∷ []) (plain_tree u is.1) ((refl, tt), tt) in
      let rest = both (spell_tree t) (comma ∷ spell_tree u ++ close_sign ∷ []) (plain_tree t is.0) ((refl, tt), last) in
      ((refl, (refl, (refl, tt))), ((refl, tt), rest))
  plain_tree (seal t u) is =
      let last = both (spell_tree u) (close_sign ∷ []) (plain_tree u is.1) ((refl, tt), tt) in
      let rest = both (spell_tree t) (comma ∷ spell_tree u ++ close_sign ∷ []) (plain_tree t is.0) ((refl, tt), last) in
      ((refl, (refl, (refl, (refl, (refl, (refl, tt)))))), ((refl, tt), rest))
  plain_tree (wrap t u v) is =
      let last = both (spell_tree v) (close_sign ∷ []) (plain_tree v is.2) ((refl, tt), tt) in
      let others = both (spell_tree u) (comma ∷ spell_tree v ++ close_sign ∷ []) (plain_tree u is.1) ((refl, tt), last) in
      let rest = both (spell_tree t) (comma ∷ spell_tree u ++ (comma ∷ spell_tree v ++ close_sign ∷ [])) (plain_tree t is.0) ((refl, tt), others) in
      ((refl, (refl, (refl, (refl, tt)))), ((refl, tt), rest))

  plain_trees : (ts : Trees) → AreTrees ts → AllByRecursion IsPlain (spell_trees close_sign ts)
  plain_trees none is = ((refl, tt), tt)
  plain_trees (more t ts) is = both (spell_tree t) (spell_others close_sign ts) (plain_tree t is.0) (plain_others ts is.1)

  plain_others : (ts : Trees) → AreTrees ts → AllByRecursion IsPlain (spell_others close_sign ts)
  plain_others none is = ((refl, tt), tt)
  plain_others (more t ts) is = ((refl, tt), both (spell_tree t) (spell_others close_sign ts) (plain_tree t is.0) (plain_others ts is.1))

some_name : (n rest : List ℕ) → IsName n → 0 < length (n ++ rest)
some_name n rest is = let some = (name_is n is).1 in omega (arith, some, length-append n rest)

some_bytes : (t : Tree) → IsTree t → 0 < length (canon_tree t)
some_bytes (atom n) is = some_name n [] is
some_bytes (apply n ts) is = some_name n (words_bytes (open_sign ∷ spell_trees close_sign ts)) is.0
some_bytes (hash t) is = omega arith
some_bytes (mac t u) is = omega arith
some_bytes (seal t u) is = omega arith
some_bytes (wrap t u v) is = omega arith

tree_label : (t : Tree) → IsTree t → IsLabel (canon_tree t)
tree_label t is = (some_bytes t is, All-from_recursion (λ b. is_label_byte b ≡ true) (canon_tree t) (plain_bytes (spell_tree t) (plain_tree t is)))

-- ---- a protocol's terms are of the grammar

it_is : (b : Bool) → IsTrue b → b ≡ true
it_is b h = h

module _ (p : ProtocolValue) (names : HasNames p) where
  atom_named : (atoms : List Atom) (a : ℕ) → a < length atoms → AllByRecursion (λ (x : Atom). IsName x.name) atoms → IsName (option_map_or (λ (x : Atom). x.name) (slice_get atoms a) [])
  atom_named [] a h all = absurd (omega (arith, h))
  atom_named (x ∷ atoms) zero h all = all.0
  atom_named (x ∷ atoms) (suc a) h all = atom_named atoms a (omega (arith, h)) all.1

  format_named : (formats : List FormatValue) (i a : ℕ) → has_operator formats (Format i a) ≡ true → AllByRecursion (λ (f : FormatValue). IsName f.name) formats → IsName (option_map_or (λ (f : FormatValue). f.name) (slice_get formats i) [])
  format_named [] i a h all = absurd (cc)
  format_named (f ∷ formats) zero a h all = all.0
  format_named (f ∷ formats) (suc i) a h all = format_named formats i a h all.1

  mutual
    spelled_tree : (t : term.Tree) → IsTermOf p t → IsTree (spelled p t)
    spelled_tree (term.leaf a) is = atom_named p.atoms a is names.atoms
    spelled_tree (term.node o ts) is = written_tree o ts (spelled_trees ts is.2) is.0 is.1

    spelled_trees : (ts : term.Trees) → AreTermsOf p ts → AreTrees (spelled_all p ts)
    spelled_trees term.none is = tt
    spelled_trees (term.more t ts) is = (spelled_tree t is.0, spelled_trees ts is.1)

    written_tree : (o : Op) (ts : term.Trees) → AreTrees (spelled_all p ts) → IsTrue (has_operator p.formats o) → length (term.list_of ts) ≡ arity o → IsTree (written p o (spelled_all p ts))
    written_tree Hash (term.more t term.none) are has count = are.0
    written_tree Mac (term.more t (term.more u term.none)) are has count = (are.0, are.1.0)
    written_tree Seal (term.more t (term.more u term.none)) are has count = (are.0, are.1.0)
    written_tree Wrap (term.more t (term.more u (term.more v term.none))) are has count = (are.0, are.1.0, are.1.1.0)
    written_tree (Format i a) ts are has count = (format_named p.formats i a (it_is (has_operator p.formats (Format i a)) has) names.formats, are)
    written_tree Hash term.none are has count = absurd (omega (arith, count))
    written_tree Hash (term.more t (term.more u ts)) are has count = absurd (omega (arith, count))
    written_tree Mac term.none are has count = absurd (omega (arith, count))
    written_tree Mac (term.more t term.none) are has count = absurd (omega (arith, count))
    written_tree Mac (term.more t (term.more u (term.more v ts))) are has count = absurd (omega (arith, count))
    written_tree Seal term.none are has count = absurd (omega (arith, count))
    written_tree Seal (term.more t term.none) are has count = absurd (omega (arith, count))
    written_tree Seal (term.more t (term.more u (term.more v ts))) are has count = absurd (omega (arith, count))
    written_tree Wrap term.none are has count = absurd (omega (arith, count))
    written_tree Wrap (term.more t term.none) are has count = absurd (omega (arith, count))
    written_tree Wrap (term.more t (term.more u term.none)) are has count = absurd (omega (arith, count))
    written_tree Wrap (term.more t (term.more u (term.more v (term.more w ts)))) are has count = absurd (omega (arith, count))

  label_texts : (ts : List term.Tree) → AllByRecursion (IsTermOf p) ts → AllByRecursion IsLabel (map (term_text p) ts)
  label_texts [] all = tt
  label_texts (t ∷ ts) all = (tree_label (spelled p t) (spelled_tree t all.0), label_texts ts all.1)

pub known_labels : (p : ProtocolValue) → IsProtocol p → (role : ℕ) → AllByRecursion IsLabel (known_texts p role)
known_labels p is role =
    label_texts p (names_of p is) (known_by p role) (known_ours p role (each_in_parts (IsTermOf p) (known_terms p) (messages p.actions) (facts p is).terms).0)

-- ---- the names of a protocol and of its roles

first_named : (before : List (List ℕ)) (x : List ℕ) → IsName x → AllByRecursion IsName (first_new bytes_eq before x)
first_named before x is = by (list_any (λ y. bytes_eq y x) before) refl where
  by : (b : Bool) → list_any (λ y. bytes_eq y x) before ≡ b → AllByRecursion IsName (first_new bytes_eq before x)
  by true e = rw e tt
  by false e = rw e (is, tt)

each_named : (before xs : List (List ℕ)) → AllByRecursion IsName xs → AllByRecursion IsName (each_after (first_new bytes_eq) before xs)
each_named before [] all = tt
each_named before (x ∷ xs) all = each_in_both IsName (first_new bytes_eq before x) (each_after (first_new bytes_eq) (before ++ x ∷ []) xs) (first_named before x all.0) (each_named (before ++ x ∷ []) xs all.1)

named_lines : (knows : List KnowItem) → AllByRecursion IsKnowItem knows → AllByRecursion IsName (map (λ (k : KnowItem). k.role) knows)
named_lines [] all = tt
named_lines (k ∷ knows) all = (all.0.0, named_lines knows all.1)

named_ends : (actions : List ActionItem) → AllByRecursion IsActionItem actions → AllByRecursion IsName (flat_map action_roles actions)
named_ends [] all = tt
named_ends (a ∷ actions) all = (all.0.0, (all.0.1, named_ends actions all.1))

record AreNamed (p : ProtocolValue) : Type 0 where
  protocol : IsName p.name
  roles : AllByRecursion IsName p.roles

named_narration : (n : Narration) → IsName n.title → AllByRecursion IsKnowItem n.knows → AllByRecursion IsActionItem n.actions → AreNamed (protocol_of n)
unfolding protocol_of
named_narration n title knows actions = record {
  protocol = title;
  roles = each_named [] (line_names n ++ flat_map action_roles n.actions) (each_in_both IsName (line_names n) (flat_map action_roles n.actions) (named_lines n.knows knows) (named_ends n.actions actions));
}

named : (p : ProtocolValue) → IsProtocol p → AreNamed p
named p is =
    let valid = is.spellable.valid in
    subst AreNamed (sym is.is) (named_narration is.narration valid.title valid.knows valid.actions)

name_there : (names : List (List ℕ)) (i : ℕ) (x : List ℕ) → AllByRecursion IsName names → slice_get names i ≡ Some x → IsName x
name_there [] i x all e = absurd (cc)
name_there (y ∷ names) zero x all e = let same : y ≡ x = cc in subst IsName same all.0
name_there (y ∷ names) (suc i) x all e = name_there names i x all.1 e

is_true : (b : Bool) → b ≡ true → IsTrue b
is_true b e = e

-- ---- the code

some_pieces : (pieces : List Piece) → head pieces ≢ [] → 0 < length pieces
some_pieces [] some = absurd (some refl)
some_pieces (piece ∷ pieces) some = omega arith

formats_are : (before formats : List FormatValue) → EachAfter IsFormatAfter before formats → AllByRecursion (λ (f : FormatValue). IsName f.name) formats → AllByRecursion IsFormat formats
formats_are before [] each names = tt
formats_are before (f ∷ formats) each names = (
  record { name = is_true (is_name f.name) names.0; some = some_pieces f.pieces each.0.sound.head_stands; pieces = each.0.sound.literals },
  formats_are (before ++ f ∷ []) formats each.1 names.1,
)

format_there : (formats : List FormatValue) (f : ℕ) (format : FormatValue) → slice_get formats f ≡ Some format → AllByRecursion (λ (x : FormatValue). IsName x.name) formats → IsName (name_at formats f)
format_there [] f format e all = absurd (cc)
format_there (x ∷ formats) zero format e all = all.0
format_there (x ∷ formats) (suc f) format e all = format_there formats f format e all.1

-- what a take's text must be
abbrev IsTaken : Instr → Type 0
IsTaken (instr.Take text) = IsLabel text
IsTaken i = Unit {0}

all_taken : (instrs : List Instr) → AllByRecursion IsLabel (take_texts instrs) → AllByRecursion IsTaken instrs
all_taken [] all = tt
all_taken (instr.Take text ∷ instrs) all = (all.0, all_taken instrs all.1)
all_taken (instr.Fresh ∷ instrs) all = (tt, all_taken instrs all)
all_taken (instr.Recv ∷ instrs) all = (tt, all_taken instrs all)
all_taken (instr.Hash r ∷ instrs) all = (tt, all_taken instrs all)
all_taken (instr.Mac k b ∷ instrs) all = (tt, all_taken instrs all)
all_taken (instr.Seal k b ∷ instrs) all = (tt, all_taken instrs all)
all_taken (instr.Unseal k c ∷ instrs) all = (tt, all_taken instrs all)
all_taken (instr.Wrap k d b ∷ instrs) all = (tt, all_taken instrs all)
all_taken (instr.Unwrap k d c ∷ instrs) all = (tt, all_taken instrs all)
all_taken (instr.Build f rs ∷ instrs) all = (tt, all_taken instrs all)
all_taken (instr.Parse f r ∷ instrs) all = (tt, all_taken instrs all)
all_taken (instr.Equal a b ∷ instrs) all = (tt, all_taken instrs all)
all_taken (instr.Send r ∷ instrs) all = (tt, all_taken instrs all)

-- registers from a on are below a bound
in_range : (a n m : ℕ) → a + n ≤ m → AllByRecursion (λ r. r < m) (range_with_len a n)
in_range a zero m h = tt
in_range a (suc n) m h = (omega (arith, h), in_range (a + 1) n m (omega (arith, h)))

below : (a m : ℕ) (rs : List ℕ) → a ≤ m → AllByRecursion (λ r. r < a) rs → AllByRecursion (λ r. r < m) rs
below a m [] h all = tt
below a m (r ∷ rs) h all = let here = all.0 in (omega (arith, h, here), below a m rs h all.1)

module _ (formats : List FormatValue) (names : AllByRecursion (λ (f : FormatValue). IsName f.name) formats) (most : ℕ) (few : most + 1 < 2 ^ 32) where
  name_for : (i : Instr) → HasItsFormat formats i → IsTaken i → IsNameFor (what_of i) (name_of formats i)
  name_for (instr.Take text) has taken = taken
  name_for (instr.Build f rs) has taken = is_true (is_name (name_at formats f)) (format_there formats f has.0 has.1 names)
  name_for (instr.Parse f r) has taken = is_true (is_name (name_at formats f)) (format_there formats f has.0 has.1 names)
  name_for instr.Fresh has taken = refl
  name_for instr.Recv has taken = refl
  name_for (instr.Hash r) has taken = refl
  name_for (instr.Mac k b) has taken = refl
  name_for (instr.Seal k b) has taken = refl
  name_for (instr.Unseal k c) has taken = refl
  name_for (instr.Wrap k d b) has taken = refl
  name_for (instr.Unwrap k d c) has taken = refl
  name_for (instr.Equal a b) has taken = refl
  name_for (instr.Send r) has taken = refl

  instr_is : (before : List Instr) (i : Instr) (n : ℕ) → n ≡ count_registers formats before → IsInstrAfter formats before i → IsTaken i → HasCounts (raw_instr formats n i) → n + count_written formats i ≤ most → IsInstr (raw_instr formats n i)
  instr_is before i n at is taken counts within = record {
    counts = counts;
    name = name_for i is.format taken;
    to = All-from_recursion (λ r. r < 2 ^ 32) (range_with_len n (count_written formats i)) (in_range n (count_written formats i) (2 ^ 32) (omega (arith, within, few)));
    args = All-from_recursion (λ r. r < 2 ^ 32) (operands i) (below (count_registers formats before) (2 ^ 32) (operands i) (omega (arith, at, within, few))
        (recursion_from_All (λ r. r < count_registers formats before) (operands i) is.written));
  }

  instrs_are : (before instrs : List Instr) (n : ℕ) → n ≡ count_registers formats before → EachAfter (IsInstrAfter formats) before instrs → AllByRecursion IsTaken instrs
      → AllByRecursion HasCounts (raw_instrs formats n instrs) → n + count_registers formats instrs ≤ most → AllByRecursion IsInstr (raw_instrs formats n instrs)
  instrs_are before [] n at each taken counts within = tt
  instrs_are before (i ∷ instrs) n at each taken counts within =
      let cons = sum_by-cons (count_written formats) i instrs in
      let push = sum_by_push (count_written formats) before i in (
        instr_is before i n at each.0 taken.0 counts.0 (omega (arith, within, cons)),
        instrs_are (before ++ i ∷ []) instrs (n + count_written formats i) (omega (arith, at, push)) each.1 taken.1 counts.1 (omega (arith, within, cons)),
      )

-- a code that fits a role of a protocol, and is verified, can be written
pub spellable : (p : ProtocolValue) → IsProtocol p → (role : ℕ) (code : CodeValue) → FitsRole p role code → IsVerifiedCode ARRIVAL WIDE code → IsSpellable (raw_of code)
spellable p is role code fits verified =
    let names = subst (AllByRecursion (λ (f : FormatValue). IsName f.name)) (sym fits.formats) (names_of p is).formats in
    let own = named p is in
    let texts = subst (AllByRecursion IsLabel) (sym fits.texts) (known_labels p is role) in
    let counts = recursion_from_All HasCounts (raw_of code).code (spelled_code ARRIVAL WIDE code verified).counts in
    let few : count_registers code.formats code.instrs + 1 < 2 ^ 32 = verified.few_registers in
    record {
      protocol = is_true (is_name code.protocol) (subst IsName (sym fits.protocol) own.protocol);
      role = is_true (is_name code.role) (name_there p.roles role code.role own.roles fits.name);
      formats = formats_are [] code.formats verified.formats names;
      code = instrs_are code.formats names (count_registers code.formats code.instrs) few [] code.instrs 0 refl verified.instrs (all_taken code.instrs texts) counts (omega arith);
    }
