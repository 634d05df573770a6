-- What an instruction writes is within its widths.
use Rattle.std.proofs.Common.{◌≡◌, ◌<◌, ◌≤◌, ◌+◌, ◌^◌, ℕ, zero, suc, List, [], ◌∷◌, length, map, get_or, slice_index, replicate, Bool, true, false, cond, Option, Some, None, option_map, refl, ap, subst, arith, All}
use Rattle.std.specs.Prelude.{slice_get}
use Rattle.std.specs.List.{AllByRecursion}
use Rattle.std.proofs.lemmas.List.Elements.{recursion_from_All}
use Rattle.anb_base.specs.declared.TheConstants.{ARRIVAL, WIDE}
use Rattle.anb_base.specs.declared.content.Suite.{Suite}
use Rattle.anb_format.specs.Formats.{FormatValue, field_count, pieces_at}
use Rattle.anb_format.specs.Laws.{AreWithin}
use Rattle.anb_format.proofs.Narrow.{built_narrow, parts_narrow}
use Rattle.anb_format.proofs.ReadingLemmas.{parts_of-builds}
use Rattle.anb_seal.specs.Primitives.{hash_of, mac_of, key_for, sealed, unsealed, wrapped, unwrapped}
use Rattle.anb_seal.proofs.Macs.{hash_of-within_block, block_of-longest}
use Rattle.anb_seal.proofs.Closed.{length-closed}
use Rattle.anb_seal.proofs.SealLemmas.{unsealed_exactly, unwrapped_exactly}
use Rattle.anb_algebra.specs.ByteMeaning.{byte_meaning, has_operator}
use Rattle.anb_term.specs.Lawful.{picked}
use Rattle.anb_plays.specs.Codes.{Act, works}
use Rattle.anb_plays.specs.Exec.{worked}
use Rattle.anb_code.specs.declared.instr.Instr.{Instr}
use Rattle.anb_code.specs.declared.instr.Instr.TheVariants.{Hash, Mac, Seal, Unseal, Wrap, Unwrap, Build, Parse, Equal}
use Rattle.anb_code.specs.Meaning.{act_of}
use Rattle.anb_machine.specs.Keeping.{IsBound, new_widths}
use Rattle.anb_machine.specs.Standing.{IsWorkReady}

-- ---- lengths

hash_short : (suite : Suite) (m : List ℕ) → length (hash_of suite m) ≤ ARRIVAL
hash_short suite m = omega (arith, hash_of-within_block suite m, block_of-longest suite)

mac_short : (suite : Suite) (k m : List ℕ) → length (mac_of suite k m) ≤ ARRIVAL
unfolding mac_of
mac_short suite k m = hash_short suite _

seal_long : (suite : Suite) (k m : List ℕ) → length (sealed suite k m) ≡ length m + 32
unfolding sealed
seal_long suite k m = length-closed suite (key_for suite 1 k) (key_for suite 2 k) [] m

wrap_long : (suite : Suite) (k d m : List ℕ) → length (wrapped suite k d m) ≡ length m + 32
unfolding wrapped
wrap_long suite k d m = length-closed suite (key_for suite 3 k) (key_for suite 4 k) (hash_of suite d) m

unsealed_short : (suite : Suite) (k c m : List ℕ) (w : ℕ) → length c ≤ w → unsealed suite k c ≡ Some m → length m ≤ w
unsealed_short suite k c m w h e = let is = (unsealed_exactly suite k c m).0 e in omega (arith, h, seal_long suite k m, ap length is)

unwrapped_short : (suite : Suite) (k d c m : List ℕ) (w : ℕ) → length c ≤ w → unwrapped suite k d c ≡ Some m → length m ≤ w
unwrapped_short suite k d c m w h e = let is = (unwrapped_exactly suite k d c m).0 e in omega (arith, h, wrap_long suite k d m, ap length is)

-- ---- lists of values

one_within : (b : List ℕ) (ws : List (List ℕ)) (w : ℕ) → Some (b ∷ []) ≡ Some ws → length b ≤ w → AreWithin ws (w ∷ [])
one_within b ws w e h = let is : b ∷ [] ≡ ws = cc in subst (λ l. AreWithin l (w ∷ [])) is (h, tt)

opened_within : (o : Option (List ℕ)) (ws : List (List ℕ)) (w : ℕ) → option_map (λ m. m ∷ []) o ≡ Some ws → ((m : List ℕ) → o ≡ Some m → length m ≤ w) → AreWithin ws (w ∷ [])
opened_within None ws w e h = cc
opened_within (Some m) ws w e h = one_within m ws w e (h m refl)

all_within : (ws : List (List ℕ)) (n w : ℕ) → length ws ≡ n → AllByRecursion (λ b. length b ≤ w) ws → AreWithin ws (replicate n w)
all_within [] zero w e h = tt
all_within [] (suc n) w e h = absurd (omega (arith, e))
all_within (b ∷ ws) zero w e h = absurd (omega (arith, e))
all_within (b ∷ ws) (suc n) w e h = (h.0, all_within ws n w (omega (arith, e)) h.1)

none_within : (b : Bool) (ws : List (List ℕ)) → cond b (Some []) None ≡ Some ws → AreWithin ws []
none_within true ws e = let is : [] ≡ ws = cc in subst (λ l. AreWithin l []) is tt
none_within false ws e = cc

pub narrow_at : (widths : List ℕ) (r : ℕ) → AllByRecursion (λ w. w ≤ WIDE) widths → slice_index widths r ≤ WIDE
narrow_at [] r h = omega arith
narrow_at (w ∷ widths) zero h = h.0
narrow_at (w ∷ widths) (suc r) h = narrow_at widths r h.1

there : (table : List (List ℕ)) (r : ℕ) → r < length table → slice_get table r ≡ Some (get_or table r [])
there [] r h = absurd (omega (arith, h))
there (b ∷ table) zero h = refl
there (b ∷ table) (suc r) h = there table r (omega (arith, h))

-- ---- instructions

abbrev pub HasWritten : List FormatValue → Suite → List (List ℕ) → Act → List (List ℕ) → Type 0
HasWritten formats suite table (works w) ws = worked (byte_meaning formats suite) table w ≡ Some ws
HasWritten formats suite table act ws = ⊥

module _ (formats : List FormatValue) (suite : Suite) (table : List (List ℕ)) (widths : List ℕ) (bound : IsBound table widths) (narrow : All (λ w. w ≤ WIDE) widths) where
  narrow_of : (r : ℕ) → slice_index widths r < 2 ^ 64
  narrow_of r = omega (arith, narrow_at widths r (recursion_from_All (λ w. w ≤ WIDE) widths narrow))

  pick_within : (ns : List ℕ) → AllByRecursion (λ n. n < length table) ns → AreWithin (picked table ns) (map (slice_index widths) ns)
  pick_within [] h = tt
  pick_within (n ∷ ns) h = rw (there table n h.0) (bound n, pick_within ns h.1)

  narrow_all : (ns : List ℕ) → AllByRecursion (λ w. w < 2 ^ 64) (map (slice_index widths) ns)
  narrow_all [] = tt
  narrow_all (n ∷ ns) = (narrow_of n, narrow_all ns)

  abbrev Reads : List ℕ → Type 0
  Reads ns = All (λ n. n < length table) ns

  read : (ns : List ℕ) → Reads ns → AllByRecursion (λ n. n < length table) ns
  read ns h = recursion_from_All (λ n. n < length table) ns h

  pub work_within : (x : Instr) (ws : List (List ℕ)) → IsWorkReady (has_operator formats) (length table) (act_of formats x) → HasWritten formats suite table (act_of formats x) ws
      → AreWithin ws (new_widths formats widths x)
  work_within (Hash r) ws ready e =
      let reads = read (r ∷ []) ready.2 in
      one_within _ ws ARRIVAL e (rw (there table r reads.0) (hash_short suite (get_or table r [])))
  work_within (Mac k b) ws ready e =
      let reads = read (k ∷ b ∷ []) ready.2 in
      one_within _ ws ARRIVAL e (rw (there table k reads.0, there table b reads.1.0) (mac_short suite (get_or table k []) (get_or table b [])))
  work_within (Seal k b) ws ready e =
      let reads = read (k ∷ b ∷ []) ready.2 in
      one_within _ ws (slice_index widths b + 32) e (rw (there table k reads.0, there table b reads.1.0) (omega (arith, seal_long suite (get_or table k []) (get_or table b []), bound b)))
  work_within (Unseal k c) ws ready e =
      let reads = read (k ∷ []) ready.2 in
      let h = rw (there table k reads.0, there table c ready.3) at e in
      opened_within (unsealed suite (get_or table k []) (get_or table c [])) ws (slice_index widths c) h (λ m o. unsealed_short suite (get_or table k []) (get_or table c []) m (slice_index widths c) (bound c) o)
  work_within (Wrap k d b) ws ready e =
      let reads = read (k ∷ d ∷ b ∷ []) ready.2 in
      one_within _ ws (slice_index widths b + 32) e (rw (there table k reads.0, there table d reads.1.0, there table b reads.1.1.0) (omega (arith, wrap_long suite (get_or table k []) (get_or table d []) (get_or table b []), bound b)))
  work_within (Unwrap k d c) ws ready e =
      let reads = read (k ∷ d ∷ []) ready.2 in
      let h = rw (there table k reads.0, there table d reads.1.0, there table c ready.3) at e in
      opened_within (unwrapped suite (get_or table k []) (get_or table d []) (get_or table c [])) ws (slice_index widths c) h
      (λ m o. unwrapped_short suite (get_or table k []) (get_or table d []) (get_or table c []) m (slice_index widths c) (bound c) o)
  work_within (Build f rs) ws ready e =
      one_within _ ws _ e (built_narrow ARRIVAL (pieces_at formats f) (picked table rs) (map (slice_index widths) rs) (pick_within rs (read rs ready.2)) (narrow_all rs))
  work_within (Parse f r) ws ready e =
      let h = rw (there table r ready.3) at e in
      let parts = parts_of-builds (pieces_at formats f) (get_or table r []) ws h in
      all_within ws (field_count (pieces_at formats f)) (slice_index widths r) parts.count (wider ws (parts_narrow (pieces_at formats f) (get_or table r []) ws parts)) where
        wider : (bs : List (List ℕ)) → AllByRecursion (λ b. length b ≤ length (get_or table r [])) bs → AllByRecursion (λ b. length b ≤ slice_index widths r) bs
        wider [] all = tt
        wider (b ∷ bs) all = (omega (arith, all.0, bound r), wider bs all.1)
  work_within (Equal a b) ws ready e = none_within _ ws e
  work_within x ws ready e = absurd e
