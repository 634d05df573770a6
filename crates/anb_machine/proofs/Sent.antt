-- What a run sends is within the widths of its messages.
use Rattle.std.proofs.Common.{◌≡◌, ◌<◌, ◌≤◌, ◌+◌, ◌-◌, ◌*◌, ℕ, zero, suc, List, [], ◌∷◌, ◌++◌, length, map, take, slice_index, replicate, Option, Some, None, refl, sym, ap, ◌∙◌, subst, arith, All}
use Rattle.std.specs.Prelude.{slice_get}
use Rattle.std.specs.List.{AllByRecursion}
use Rattle.std.proofs.lemmas.List.{append-nil, length-append, length-replicate}
use Rattle.std.proofs.lemmas.List.Elements.{recursion_from_All, All-from_recursion}
use Rattle.anb_base.specs.declared.TheConstants.{ARRIVAL, WIDE}
use Rattle.anb_base.specs.declared.content.Suite.{Suite}
use Rattle.anb_format.specs.Formats.{FormatValue, field_count, pieces_at}
use Rattle.anb_format.specs.Laws.{AreWithin}
use Rattle.anb_seal.specs.Streams.{draw_of}
use Rattle.anb_seal.proofs.Words.{length-stream_bytes}
use Rattle.anb_algebra.specs.ByteMeaning.{byte_meaning, has_operator}
use Rattle.anb_algebra.specs.ByteLawful.{bytes_are_lawful}
use Rattle.anb_term.specs.declared.term.Op.{Op}
use Rattle.anb_term.specs.declared.term.Op.TheVariants as op
use Rattle.anb_term.specs.Lawful.{picked}
use Rattle.anb_term.proofs.Lists.{slice_get-there}
use Rattle.anb_plays.specs.Plays.{Played, End, ends, stopped}
use Rattle.anb_plays.specs.Exec.{exec, on_written, IsVerified, HasTakes}
use Rattle.anb_plays.specs.Runs.{says_if}
use Rattle.anb_plays.proofs.Exec.{exec_is_run, takes_ready}
use Rattle.anb_code.specs.declared.instr.Instr.{Instr}
use Rattle.anb_code.specs.declared.instr.Instr.TheVariants.{Take, Fresh, Recv, Hash, Mac, Seal, Unseal, Wrap, Unwrap, Build, Parse, Equal, Send}
use Rattle.anb_code.specs.Meaning.{act_of, acts_of}
use Rattle.anb_code.specs.Registers.{register_widths}
use Rattle.anb_machine.specs.ByteRuns.{run_bytes}
use Rattle.anb_machine.specs.Keeping.{IsBound, later_widths, new_widths}
use Rattle.anb_machine.specs.Laws.{message_widths, RunsSendWithin}
use Rattle.anb_machine.proofs.Lean.{front_all, get_got, grown_bound, later_more, short_at, takes_same, within_longer}
use Rattle.anb_machine.proofs.Verified.{has_takes}
use Rattle.anb_machine.specs.Standing.{IsWorkReady}
use Rattle.anb_machine.proofs.Written.{HasWritten, narrow_at, work_within}

-- sent so far is within the first widths of the messages to come
abbrev Sends : List ℕ → List Instr → List (List ℕ) → Type 0
Sends total instrs sent = AreWithin sent (take (length sent) (message_widths total instrs))

front_width : (widths more : List ℕ) (r : ℕ) → r < length widths → slice_index (widths ++ more) r ≡ slice_index widths r
front_width [] more r h = absurd (omega (arith, h))
front_width (w ∷ widths) more zero h = refl
front_width (w ∷ widths) more (suc r) h = front_width widths more r (omega (arith, h))

sends_if : (total : List ℕ) (instrs : List Instr) (r : ℕ) (o : Option (List ℕ)) (b : List ℕ) (p : Played (List ℕ)) → o ≡ Some b → length b ≤ slice_index total r → Sends total instrs p.sent → Sends total (Send r ∷ instrs) (says_if o p).sent
sends_if total instrs r o b p is fits rest = subst (λ (x : Option (List ℕ)). Sends total (Send r ∷ instrs) (says_if x p).sent) (sym is) (fits, rest)

sends_on : (total : List ℕ) (instrs : List Instr) (o : Option (List (List ℕ))) (next : List (List ℕ) → Played (List ℕ)) (end : End) (unused : List (List ℕ))
    → ((ws : List (List ℕ)) → o ≡ Some ws → Sends total instrs (next ws).sent) → Sends total instrs (on_written o next (ends end unused)).sent
sends_on total instrs None next end unused on = tt
sends_on total instrs (Some ws) next end unused on = on ws refl

module _ (formats : List FormatValue) (suite : Suite) (draw : ℕ → List ℕ) (brief : (i : ℕ) → length (draw i) ≤ ARRIVAL) where
  -- the registers so far, and what is known of them
  record Knows (instrs : List Instr) (table : List (List ℕ)) (widths : List ℕ) : Type 0 where
    count : length widths ≡ length table
    bound : IsBound table widths
    narrow : AllByRecursion (λ w. w ≤ WIDE) (later_widths formats widths instrs)
    verified : IsVerified (has_operator formats) (map (act_of formats) instrs) (length table)

  -- behind an instruction that wrote k values
  knows_more : (x : Instr) (instrs : List Instr) (table ws : List (List ℕ)) (widths : List ℕ) (k : ℕ) → Knows (x ∷ instrs) table widths → AreWithin ws (new_widths formats widths x) → length (new_widths formats widths x) ≡ k
      → IsVerified (has_operator formats) (map (act_of formats) instrs) (length table + k) → Knows instrs (table ++ ws) (widths ++ new_widths formats widths x)
  knows_more x instrs table ws widths k known within size verified =
      let more = within_longer ws (new_widths formats widths x) within in
      let long : length table + k ≡ length (table ++ ws) = omega (arith, more, size, length-append table ws) in record {
        count = omega (arith, more, known.count, length-append widths (new_widths formats widths x), length-append table ws);
        bound = grown_bound table widths ws (new_widths formats widths x) known.count known.bound within;
        narrow = known.narrow;
        verified = subst (IsVerified (has_operator formats) (map (act_of formats) instrs)) long verified;
      }

  -- behind one that wrote none
  knows_still : (x : Instr) (instrs : List Instr) (table : List (List ℕ)) (widths : List ℕ) → Knows (x ∷ instrs) table widths → new_widths formats widths x ≡ []
      → IsVerified (has_operator formats) (map (act_of formats) instrs) (length table) → Knows instrs table (widths ++ new_widths formats widths x)
  knows_still x instrs table widths known none verified =
      let same : widths ++ new_widths formats widths x ≡ widths = ap (λ l. widths ++ l) none ∙ append-nil widths in record {
        count = ap length same ∙ known.count;
        bound = subst (IsBound table) (sym same) known.bound;
        narrow = known.narrow;
        verified = verified;
      }

  narrow_now : (instrs : List Instr) (table : List (List ℕ)) (widths : List ℕ) → Knows instrs table widths → All (λ w. w ≤ WIDE) widths
  narrow_now instrs table widths known =
      let more = later_more formats widths instrs in
      All-from_recursion (λ w. w ≤ WIDE) widths (front_all (λ w. w ≤ WIDE) widths more.0 (subst (AllByRecursion (λ w. w ≤ WIDE)) more.1 known.narrow))

  within_total : (instrs : List Instr) (table : List (List ℕ)) (widths : List ℕ) (r : ℕ) (b : List ℕ) → Knows instrs table widths → r < length table → slice_get table r ≡ Some b → length b ≤ slice_index (later_widths formats widths instrs) r
  within_total instrs table widths r b known less is =
      let more = later_more formats widths instrs in
      let total : slice_index (later_widths formats widths instrs) r ≡ slice_index widths r = ap (λ l. slice_index l r) more.1 ∙ front_width widths more.0 r (omega (arith, less, known.count)) in
      omega (arith, total, known.bound r, ap length (get_got table r b is))

  -- what an operator makes
  abbrev made : List (List ℕ) → Op → List ℕ → List (List ℕ)
  made table o ns = (byte_meaning formats suite).built o (picked table ns) ∷ []

  abbrev Runs : List Instr → List (List ℕ) → List ℕ → ℕ → ℕ → ℕ → List (List ℕ) → Type 0
  Runs instrs table widths e at i arrivals = Sends (later_widths formats widths instrs) instrs (exec (byte_meaning formats suite) draw (map (act_of formats) instrs) table e at i arrivals).sent

  -- behind one that works
  knows_work : (x : Instr) (instrs : List Instr) (table ws : List (List ℕ)) (widths : List ℕ) (k : ℕ) → Knows (x ∷ instrs) table widths → IsWorkReady (has_operator formats) (length table) (act_of formats x)
      → HasWritten formats suite table (act_of formats x) ws → length (new_widths formats widths x) ≡ k → IsVerified (has_operator formats) (map (act_of formats) instrs) (length table + k)
      → Knows instrs (table ++ ws) (widths ++ new_widths formats widths x)
  knows_work x instrs table ws widths k known ready is size verified =
      knows_more x instrs table ws widths k known (work_within formats suite table widths known.bound (narrow_now (x ∷ instrs) table widths known) x ws ready is) size verified

  sends : (instrs : List Instr) (table : List (List ℕ)) (widths : List ℕ) (e at i : ℕ) (arrivals : List (List ℕ)) → Knows instrs table widths → AllByRecursion (λ b. length b ≤ ARRIVAL) arrivals → Runs instrs table widths e at i arrivals
  sends [] table widths e at i arrivals known short = tt
  sends (Take text ∷ instrs) table widths e at i arrivals known short = sends instrs table (widths ++ []) e (at + 1) i arrivals (knows_still (Take text) instrs table widths known refl known.verified) short
  sends (Fresh ∷ instrs) table widths e at i arrivals known short =
      sends instrs (table ++ draw i ∷ []) (widths ++ ARRIVAL ∷ []) e (at + 1) (i + 1) arrivals (knows_more Fresh instrs table (draw i ∷ []) widths 1 known (brief i, tt) refl known.verified) short
  sends (Recv ∷ instrs) table widths e at i [] known short = tt
  sends (Recv ∷ instrs) table widths e at i (b ∷ arrivals) known short =
      sends instrs (table ++ b ∷ []) (widths ++ ARRIVAL ∷ []) (e + 1) (at + 1) i arrivals (knows_more Recv instrs table (b ∷ []) widths 1 known (short.0, tt) refl known.verified) short.1
  sends (Send r ∷ instrs) table widths e at i arrivals known short =
      let v = slice_get-there table r known.verified.0 in
      sends_if (later_widths formats widths (Send r ∷ instrs)) instrs r (slice_get table r) v.0 _ v.1 (within_total (Send r ∷ instrs) table widths r v.0 known known.verified.0 v.1)
      (sends instrs table (widths ++ []) (e + 1) (at + 1) i arrivals (knows_still (Send r) instrs table widths known refl known.verified.1) short)
  sends (Equal a b ∷ instrs) table widths e at i arrivals known short =
      sends_on _ instrs _ _ (stopped e (at + 1)) arrivals (λ ws is. sends instrs (table ++ ws) (widths ++ new_widths formats widths (Equal a b)) e (at + 1) i arrivals (knows_work (Equal a b) instrs table ws widths 0 known known.verified.0 is refl known.verified.1) short)
  sends (Parse f r ∷ instrs) table widths e at i arrivals known short =
      sends_on _ instrs _ _ (stopped e (at + 1)) arrivals (λ ws is. sends instrs (table ++ ws) (widths ++ new_widths formats widths (Parse f r)) e (at + 1) i arrivals (knows_work (Parse f r) instrs table ws widths (field_count (pieces_at formats f) - 0) known known.verified.0 is (let size = length-replicate {A = ℕ} (field_count (pieces_at formats f)) (slice_index widths r) in omega (arith, size)) known.verified.1) short)
  sends (Hash r ∷ instrs) table widths e at i arrivals known short =
      sends instrs (table ++ made table op.Hash (r ∷ [])) (widths ++ new_widths formats widths (Hash r)) e (at + 1) i arrivals (knows_work (Hash r) instrs table (made table op.Hash (r ∷ [])) widths 1 known known.verified.0 refl refl known.verified.1) short
  sends (Mac k b ∷ instrs) table widths e at i arrivals known short =
      sends instrs (table ++ made table op.Mac (k ∷ b ∷ [])) (widths ++ new_widths formats widths (Mac k b)) e (at + 1) i arrivals (knows_work (Mac k b) instrs table (made table op.Mac (k ∷ b ∷ [])) widths 1 known known.verified.0 refl refl known.verified.1) short
  sends (Seal k b ∷ instrs) table widths e at i arrivals known short =
      sends instrs (table ++ made table op.Seal (k ∷ b ∷ [])) (widths ++ new_widths formats widths (Seal k b)) e (at + 1) i arrivals (knows_work (Seal k b) instrs table (made table op.Seal (k ∷ b ∷ [])) widths 1 known known.verified.0 refl refl known.verified.1) short
  sends (Unseal k c ∷ instrs) table widths e at i arrivals known short =
      sends_on _ instrs _ _ (stopped e (at + 1)) arrivals (λ ws is. sends instrs (table ++ ws) (widths ++ new_widths formats widths (Unseal k c)) e (at + 1) i arrivals (knows_work (Unseal k c) instrs table ws widths 1 known known.verified.0 is refl known.verified.1) short)
  sends (Wrap k d b ∷ instrs) table widths e at i arrivals known short =
      sends instrs (table ++ made table op.Wrap (k ∷ d ∷ b ∷ [])) (widths ++ new_widths formats widths (Wrap k d b)) e (at + 1) i arrivals (knows_work (Wrap k d b) instrs table (made table op.Wrap (k ∷ d ∷ b ∷ [])) widths 1 known known.verified.0 refl refl known.verified.1) short
  sends (Unwrap k d c ∷ instrs) table widths e at i arrivals known short =
      sends_on _ instrs _ _ (stopped e (at + 1)) arrivals (λ ws is. sends instrs (table ++ ws) (widths ++ new_widths formats widths (Unwrap k d c)) e (at + 1) i arrivals (knows_work (Unwrap k d c) instrs table ws widths 1 known known.verified.0 is refl known.verified.1) short)
  sends (Build f rs ∷ instrs) table widths e at i arrivals known short =
      sends instrs (table ++ made table (op.Format f (length rs)) rs) (widths ++ new_widths formats widths (Build f rs)) e (at + 1) i arrivals (knows_work (Build f rs) instrs table (made table (op.Format f (length rs)) rs) widths 1 known known.verified.0 refl refl known.verified.1) short

-- widths that are narrow bound what is within them
all_narrow : (total : List ℕ) (instrs : List Instr) (sent : List (List ℕ)) → AllByRecursion (λ w. w ≤ WIDE) total → Sends total instrs sent → AllByRecursion (λ b. length b ≤ WIDE) sent
all_narrow total instrs [] narrow h = tt
all_narrow total [] (b ∷ sent) narrow h = absurd h
all_narrow total (Send r ∷ instrs) (b ∷ sent) narrow h = (omega (arith, h.0, narrow_at total r narrow), all_narrow total instrs sent narrow h.1)
all_narrow total (x ∷ instrs) (b ∷ sent) narrow h = all_narrow total instrs (b ∷ sent) narrow h

pub sends_within : RunsSendWithin
sends_within code verified init count short seed session arrivals brief =
    let formats = code.formats in
    let has = has_operator formats in
    let widths : List ℕ = replicate (length init) ARRIVAL in
    let taking = subst (λ (n : ℕ). HasTakes has (acts_of code) 0 n) (sym count) (has_takes ARRIVAL WIDE code verified) in
    let total : later_widths formats widths code.instrs ≡ register_widths ARRIVAL formats code.instrs =
    ap (λ (n : ℕ). later_widths formats (replicate n ARRIVAL) code.instrs) count ∙ sym (takes_same formats [] [] code.instrs verified.instrs) in
    let narrow = recursion_from_All (λ w. w ≤ WIDE) _ verified.narrow in
    let few = recursion_from_All (λ b. length b ≤ ARRIVAL) init short in
    let drawn : (i : ℕ) → length (draw_of seed session i) ≤ ARRIVAL = λ i. let size : length (draw_of seed session i) ≡ 4 * 8 = length-stream_bytes _ session (8 * i) 8 in omega (arith, size) in
    let known : Knows formats code.suite (draw_of seed session) drawn code.instrs init widths = record {
      count = length-replicate {A = ℕ} (length init) ARRIVAL;
      bound = λ r. short_at init r few;
      narrow = subst (AllByRecursion (λ w. w ≤ WIDE)) (sym total) narrow;
      verified = takes_ready has (acts_of code) 0 (length init) taking;
    } in
    let run = exec_is_run (byte_meaning formats code.suite) (bytes_are_lawful formats code.suite) (draw_of seed session) (acts_of code) init arrivals taking in
    let sent = sends formats code.suite (draw_of seed session) drawn code.instrs init widths 0 0 0 arrivals known (recursion_from_All (λ b. length b ≤ ARRIVAL) arrivals brief) in
    let each = subst (λ l. Sends l code.instrs (run_bytes code init seed session arrivals).sent) total
    (subst (λ (p : Played (List ℕ)). Sends (later_widths formats widths code.instrs) code.instrs p.sent) run sent) in
    record {
      each = each;
      narrow = All-from_recursion (λ b. length b ≤ WIDE) _ (all_narrow (register_widths ARRIVAL formats code.instrs) code.instrs _ narrow each);
    }
