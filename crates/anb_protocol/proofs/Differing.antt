-- The names of a protocol differ, and so do the texts of what a role knows.
use Rattle.std.proofs.Common.{◌≡◌, ℕ, zero, suc, List, [], ◌∷◌, ◌++◌, length, map, ap, sym, ◌∙◌, subst, arith, refl, None}
use Rattle.std.specs.Prelude.{slice_get}
use Rattle.std.specs.Option.{option_map_or}
use Rattle.std.specs.List.{AllByRecursion, flat_map, zip}
use Rattle.std.specs.Str.{bytes_eq}
use Rattle.std.proofs.lemmas.List.{map-append}
use Rattle.anb_lemmas.proofs.Options.{or_is_none}
use Rattle.anb_lemmas.proofs.Items.{bytes_eq-same}
use Rattle.anb_lemmas.proofs.Each.{each_in_both, each_in_parts, each_by, each_of_map}
use Rattle.anb_base.specs.declared.TheConstants.{ARRIVAL, WIDE}
use Rattle.anb_format.specs.Formats.{FormatValue}
use Rattle.anb_term.specs.Tree as term
use Rattle.anb_term.specs.TreeSame.{tree_itself}
use Rattle.anb_syntax.specs.declared.narration.Sort.{Sort}
use Rattle.anb_syntax.specs.Grammar.{TypeItem, FormatItem, Narration, IsName, AreNames, IsTypeItem, IsFormatItem, IsSpellable}
use Rattle.anb_protocol.specs.declared.parts.Atom.{Atom}
use Rattle.anb_protocol.specs.declared.refusals.ResolveNo.TheVariants.{Twice, KnowledgeTwice}
use Rattle.anb_protocol.specs.Choices.{first}
use Rattle.anb_protocol.specs.Names.{item_atoms, declared_names}
use Rattle.anb_protocol.specs.Protocols.{ProtocolValue, format_value, protocol_of}
use Rattle.anb_protocol.specs.Texts.{IsTermOf, term_text, known_by, known_terms, known_texts}
use Rattle.anb_protocol.specs.Plans.{messages}
use Rattle.anb_protocol.specs.Checks.{declared_twice, known_again, known_twice, self_send}
use Rattle.anb_protocol.specs.WellFormed.{IsProtocol}
use Rattle.anb_protocol.specs.Laws.{KnownTextsDiffer}
use Rattle.anb_protocol.proofs.Faultless.{stages, IsFaultless}
use Rattle.anb_protocol.proofs.Distinct.{AllApart, apart_all, apart_parts, apart-map, pairs}
use Rattle.anb_protocol.proofs.Holding.{facts, known_ours}
use Rattle.anb_protocol.proofs.ReadOnce.{HasNames, text_once}

-- ---- names

item_names : (sort : Sort) (names : List (List ℕ)) → map (λ (a : Atom). a.name) (map (λ x. record { name = x; sort = sort }) names) ≡ names
item_names sort [] = refl
item_names sort (x ∷ names) = ap (λ l. x ∷ l) (item_names sort names)

atom_names : (types : List TypeItem) → map (λ (a : Atom). a.name) (flat_map item_atoms types) ≡ flat_map (λ (i : TypeItem). i.names) types
atom_names [] = refl
atom_names (i ∷ types) =
    map-append (λ (a : Atom). a.name) (item_atoms i) (flat_map item_atoms types)
    ∙ ap (λ l. l ++ map (λ (a : Atom). a.name) (flat_map item_atoms types)) (item_names i.sort i.names)
    ∙ ap (λ l. i.names ++ l) (atom_names types)

title_names : (fs : List FormatItem) → map (λ (f : FormatValue). f.name) (map format_value fs) ≡ map (λ (f : FormatItem). f.title) fs
title_names [] = refl
title_names (f ∷ fs) = ap (λ l. f.title ∷ l) (title_names fs)

named_item : (sort : Sort) (names : List (List ℕ)) → AllByRecursion IsName names → AllByRecursion (λ (a : Atom). IsName a.name) (map (λ x. record { name = x; sort = sort }) names)
named_item sort [] a = tt
named_item sort (x ∷ names) a = (a.0, named_item sort names a.1)

one_or_more : (names : List (List ℕ)) → AreNames names → AllByRecursion IsName names
one_or_more [] a = tt
one_or_more (x ∷ names) a = a

named_atoms : (types : List TypeItem) → AllByRecursion IsTypeItem types → AllByRecursion (λ (a : Atom). IsName a.name) (flat_map item_atoms types)
named_atoms [] a = tt
named_atoms (i ∷ types) a = each_in_both (λ (a : Atom). IsName a.name) (item_atoms i) (flat_map item_atoms types) (named_item i.sort i.names (one_or_more i.names a.0)) (named_atoms types a.1)

pub names_of_narration : (n : Narration) → IsSpellable n → declared_twice n ≡ None → HasNames (protocol_of n)
unfolding protocol_of
names_of_narration n s e =
    let apart = apart_parts (flat_map (λ (i : TypeItem). i.names) n.types) (map (λ (f : FormatItem). f.title) n.formats) (apart_all bytes_eq bytes_eq-same (λ x. Twice x) (declared_names n) e) in
    let P : List (List ℕ) → Type 0 = λ l. AllApart l in
    record {
      atoms = named_atoms n.types s.valid.types;
      formats = each_of_map (λ (f : FormatValue). IsName f.name) format_value n.formats (each_by IsFormatItem (λ (f : FormatItem). IsName f.title) (λ f h. h.0) n.formats s.valid.formats);
      atoms_apart = subst P (sym (atom_names n.types)) apart.0;
      formats_apart = subst P (sym (title_names n.formats)) apart.1;
    }

pub faultless : (p : ProtocolValue) → (i : IsProtocol p) → IsFaultless ARRIVAL WIDE i.narration
faultless p i = stages ARRIVAL WIDE i.narration i.well_formed

pub names_of : (p : ProtocolValue) → IsProtocol p → HasNames p
names_of p i =
    let P : ProtocolValue → Type 0 = λ q. HasNames q in
    subst P (sym i.is) (names_of_narration i.narration i.spellable (or_is_none (declared_twice i.narration) _ (faultless p i).names).0)

-- ---- what a role knows

-- no role knows a term twice
known_apart : (p : ProtocolValue) (names : List (List ℕ)) (knows : List (List term.Tree)) (role : ℕ) → length knows ≡ length names → first (known_again p) (zip names knows) ≡ None
    → AllApart (option_map_or (λ (ts : List term.Tree). ts) (slice_get knows role) [])
known_apart p names [] role l e = tt
known_apart p [] (ts ∷ knows) role l e = absurd (omega (arith, l))
known_apart p (x ∷ names) (ts ∷ knows) zero l e =
    apart_all (λ u t. term.tree_eqb u t) tree_itself (λ t. KnowledgeTwice x (term_text p t)) ts (or_is_none (known_again p (x, ts)) (first (known_again p) (zip names knows)) e).0
known_apart p (x ∷ names) (ts ∷ knows) (suc role) l e = known_apart p names knows role (omega (arith, l)) (or_is_none (known_again p (x, ts)) (first (known_again p) (zip names knows)) e).1

known_once : (p : ProtocolValue) → IsProtocol p → known_twice p ≡ None
known_once p i =
    let P : ProtocolValue → Type 0 = λ q. known_twice q ≡ None in
    let q = protocol_of i.narration in
    subst P (sym i.is) (or_is_none (known_twice q) _ (or_is_none (self_send q) _ (faultless p i).protocol).1).0

pub known_texts_apart : KnownTextsDiffer
known_texts_apart = λ p role i.
    let f = facts p i in
    let ours = known_ours p role (each_in_parts (IsTermOf p) (known_terms p) (messages p.actions) f.terms).0 in
    pairs (known_texts p role) (apart-map (IsTermOf p) (term_text p) (text_once p (names_of p i)) (known_by p role) ours (known_apart p p.roles p.knows role f.knows (known_once p i)))
