-- The algebra of byte strings obeys the laws.
use Rattle.std.specs.Prelude.{◌≡◌, ℕ, List, [], ◌∷◌, ◌++◌, length, true, false, ◌&&◌, ◌==◌, IsTrue, refl, Option, Some, None, slice_get}
use Rattle.std.specs.Option.{option_map, option_map_or}
use Rattle.std.specs.List.{AllByRecursion}
use Rattle.std.proofs.Common.{sym, ap, subst, ◌∙◌, arith}
use Rattle.std.proofs.lemmas.Bool.{eqb-true, and_parts}
use Rattle.std.proofs.lemmas.List.Elements.{recursion_from_All, All-from_recursion}
use Rattle.std.proofs.lemmas.Slice.Eq.{bytes_eq-Decides}
use Rattle.anb_base.specs.Bytes.{IsBytes, is_bytes, IsBytes-pass, is_bytes-IsBytes}
use Rattle.anb_base.specs.declared.content.Suite.{Suite}
use Rattle.anb_format.specs.Formats.{FormatValue, field_count, format_bytes, is_sound, pieces_at}
use Rattle.anb_format.proofs.Facts.{parts_of-format_bytes, IsBytes-format_bytes}
use Rattle.anb_format.proofs.BuiltLemmas.{sound_test}
use Rattle.anb_format.proofs.ReadingLemmas.{parts_of-builds}
use Rattle.anb_seal.specs.Primitives.{sealed, unsealed, wrapped, unwrapped}
use Rattle.anb_seal.proofs.ByteLemmas.{bytes-hash_of, bytes-mac_of}
use Rattle.anb_seal.proofs.SealLemmas.{unsealed_exactly, unwrapped_exactly, bytes-sealed, bytes-unsealed, bytes-wrapped, bytes-unwrapped}
use Rattle.anb_term.specs.declared.term.Op.{Op}
use Rattle.anb_term.specs.declared.term.Op.TheVariants.{Hash, Mac, Seal, Wrap, Format}
use Rattle.anb_term.specs.Operator.{arity, keys, undoable}
use Rattle.anb_term.specs.Lawful.{Lawful}
use Rattle.anb_algebra.specs.ByteMeaning.{has_operator, built_bytes, undone_bytes, byte_meaning}

all_strings : (bs : List (List ℕ)) → AllByRecursion (λ b. IsTrue (is_bytes b)) bs → AllByRecursion IsBytes bs
all_strings [] all = tt
all_strings (b ∷ bs) all = (IsBytes-pass b all.0, all_strings bs all.1)

all_tests : (bs : List (List ℕ)) → AllByRecursion IsBytes bs → AllByRecursion (λ b. IsTrue (is_bytes b)) bs
all_tests [] all = tt
all_tests (b ∷ bs) all = (is_bytes-IsBytes b all.0, all_tests bs all.1)

format_there : (o : Option FormatValue) (fields : ℕ) → option_map_or (λ (format : FormatValue). is_sound format.pieces && (field_count format.pieces == fields)) o false ≡ true
    → (is_sound (option_map_or (λ (format : FormatValue). format.pieces) o []) ≡ true) × (field_count (option_map_or (λ (format : FormatValue). format.pieces) o []) ≡ fields)
format_there None fields e = absurd (cc)
format_there (Some format) fields e =
    let parts = and_parts (is_sound format.pieces) (field_count format.pieces == fields) e in (parts.0, eqb-true (field_count format.pieces) fields parts.1)

-- ---- the laws

abbrev AllBytes : List (List ℕ) → Type 0
AllBytes bs = AllByRecursion (λ b. IsTrue (is_bytes b)) bs

builds_bytes : (formats : List FormatValue) (suite : Suite) (op : Op) (xs : List (List ℕ)) → has_operator formats op ≡ true → length xs ≡ arity op → AllBytes xs → is_bytes (built_bytes formats suite op xs) ≡ true
builds_bytes formats suite (Format i fields) xs h n v =
    let there = format_there (slice_get formats i) fields h in
    is_bytes-IsBytes (format_bytes (pieces_at formats i) xs) (IsBytes-format_bytes (pieces_at formats i) xs (sound_test (pieces_at formats i) there.0) (all_strings xs v))
builds_bytes formats suite Hash (m ∷ []) h n v = bytes-hash_of suite m
builds_bytes formats suite Mac (k ∷ m ∷ []) h n v = bytes-mac_of suite k m
builds_bytes formats suite Seal (k ∷ m ∷ []) h n v = bytes-sealed suite k m v.1.0
builds_bytes formats suite Wrap (k ∷ d ∷ m ∷ []) h n v = bytes-wrapped suite k d m v.1.1.0
builds_bytes formats suite _ _ h n v = absurd (omega (arith, n))

-- the one part of an opened message
one_part : (o : Option (List ℕ)) (ps : List (List ℕ)) → option_map (λ m. m ∷ []) o ≡ Some ps → (m : List ℕ) × (o ≡ Some m) × (m ∷ [] ≡ ps)
one_part None ps e = absurd (cc)
one_part (Some m) ps e = (m, refl, cc)

abbrev Undoes : List FormatValue → Suite → Op → List (List ℕ) → List ℕ → List (List ℕ) → Type 0
Undoes formats suite op ks v ps = (built_bytes formats suite op (ks ++ ps) ≡ v) × (length (ks ++ ps) ≡ arity op) × AllBytes ps

undoes_bytes : (formats : List FormatValue) (suite : Suite) (op : Op) (ks ps : List (List ℕ)) (v : List ℕ) → undoable op ≡ true → has_operator formats op ≡ true → length ks ≡ keys op → is_bytes v ≡ true
    → undone_bytes formats suite op ks v ≡ Some ps → Undoes formats suite op ks v ps
undoes_bytes formats suite Hash ks ps v u h n vv e = absurd (cc u)
undoes_bytes formats suite Mac ks ps v u h n vv e = absurd (cc u)
undoes_bytes formats suite Seal (k ∷ []) ps v u h n vv e =
    let part = one_part (unsealed suite k v) ps e in
    let P : List (List ℕ) → Type 0 = λ qs. Undoes formats suite Seal (k ∷ []) v qs in
    subst P part.2 ((unsealed_exactly suite k v part.0).0 part.1, refl, (bytes-unsealed suite k v part.0 vv part.1, tt))
undoes_bytes formats suite Wrap (k ∷ d ∷ []) ps v u h n vv e =
    let part = one_part (unwrapped suite k d v) ps e in
    let P : List (List ℕ) → Type 0 = λ qs. Undoes formats suite Wrap (k ∷ d ∷ []) v qs in
    subst P part.2 ((unwrapped_exactly suite k d v part.0).0 part.1, refl, (bytes-unwrapped suite k d v part.0 vv part.1, tt))
undoes_bytes formats suite (Format i fields) [] ps v u h n vv e =
    let there = format_there (slice_get formats i) fields h in
    let parts = parts_of-builds (pieces_at formats i) v ps e in
    (parts.built, parts.count ∙ there.1, all_tests ps parts.strings)
undoes_bytes formats suite _ _ ps v u h n vv e = absurd (omega (arith, n))

undone_of_bytes : (formats : List FormatValue) (suite : Suite) (op : Op) (ks ps : List (List ℕ)) → undoable op ≡ true → has_operator formats op ≡ true → length ks ≡ keys op → length (ks ++ ps) ≡ arity op → AllBytes ps
    → undone_bytes formats suite op ks (built_bytes formats suite op (ks ++ ps)) ≡ Some ps
undone_of_bytes formats suite Hash ks ps u h n c v = absurd (cc u)
undone_of_bytes formats suite Mac ks ps u h n c v = absurd (cc u)
undone_of_bytes formats suite Seal (k ∷ []) (m ∷ []) u h n c v = ap (option_map (λ m. m ∷ [])) ((unsealed_exactly suite k (sealed suite k m) m).1 refl)
undone_of_bytes formats suite Wrap (k ∷ d ∷ []) (m ∷ []) u h n c v = ap (option_map (λ m. m ∷ [])) ((unwrapped_exactly suite k d (wrapped suite k d m) m).1 refl)
undone_of_bytes formats suite (Format i fields) [] ps u h n c v =
    let there = format_there (slice_get formats i) fields h in
    parts_of-format_bytes (pieces_at formats i) ps (sound_test (pieces_at formats i) there.0) (c ∙ sym there.1) (all_strings ps v)
undone_of_bytes formats suite _ _ _ u h n c v = absurd (omega (arith, n, c))

never_bytes : (formats : List FormatValue) (suite : Suite) (op : Op) (ks : List (List ℕ)) (v : List ℕ) → undoable op ≡ false → undone_bytes formats suite op ks v ≡ None
never_bytes formats suite Hash ks v u = refl
never_bytes formats suite Mac ks v u = refl
never_bytes formats suite Seal ks v u = absurd (cc u)
never_bytes formats suite Wrap ks v u = absurd (cc u)
never_bytes formats suite (Format i fields) ks v u = absurd (cc u)

counts_bytes : (formats : List FormatValue) (suite : Suite) (op : Op) (ks ps : List (List ℕ)) (v : List ℕ) → undoable op ≡ true → has_operator formats op ≡ true → length ks ≡ keys op
    → undone_bytes formats suite op ks v ≡ Some ps → length (ks ++ ps) ≡ arity op
counts_bytes formats suite Hash ks ps v u h n e = absurd (cc u)
counts_bytes formats suite Mac ks ps v u h n e = absurd (cc u)
counts_bytes formats suite Seal (k ∷ []) ps v u h n e = let part = one_part (unsealed suite k v) ps e in ap (λ (qs : List (List ℕ)). length (k ∷ qs)) (sym part.2)
counts_bytes formats suite Wrap (k ∷ d ∷ []) ps v u h n e = let part = one_part (unwrapped suite k d v) ps e in ap (λ (qs : List (List ℕ)). length (k ∷ d ∷ qs)) (sym part.2)
counts_bytes formats suite (Format i fields) [] ps v u h n e = (parts_of-builds (pieces_at formats i) v ps e).count ∙ (format_there (slice_get formats i) fields h).1
counts_bytes formats suite _ _ ps v u h n e = absurd (omega (arith, n))

pub bytes_are_lawful : (formats : List FormatValue) (suite : Suite) → Lawful (byte_meaning formats suite)
bytes_are_lawful formats suite = record {
  builds = λ op xs h n v. builds_bytes formats suite op xs h n (recursion_from_All (λ b. IsTrue (is_bytes b)) xs v);
  undoes = λ op ks ps v u h n vk vv e.
      let done = undoes_bytes formats suite op ks ps v u h n vv e in (done.0, done.1, All-from_recursion (λ b. IsTrue (is_bytes b)) ps done.2);
  undone_of = λ op ks ps u h n c vk vp. undone_of_bytes formats suite op ks ps u h n c (recursion_from_All (λ b. IsTrue (is_bytes b)) ps vp);
  never = never_bytes formats suite;
  counts = counts_bytes formats suite;
  tells = λ x y e. (bytes_eq-Decides x y).0 e;
  itself = λ x. (bytes_eq-Decides x x).1 refl;
}
