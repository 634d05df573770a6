-- Why the record of a role's session is short: what it uses and what it knows is bounded.
use Rattle.std.proofs.Common.{◌≡◌, ℕ, ◌+◌, ◌*◌, ◌≤◌, ◌<◌, ◌^◌, Bool, true, false, cond, List, [], ◌∷◌, ◌++◌, length, Option, Some, None, refl, ap, ◌∙◌, arith, length-append}
use Rattle.std.specs.List.{sum_by}
use Rattle.anb_base.specs.declared.TheConstants.{ARRIVAL}
use Rattle.anb_base.specs.declared.content.Suite.TheVariants.{One}
use Rattle.anb_code.specs.CodeValue.{CodeValue}
use Rattle.anb_code.specs.Meaning.{acts_of}
use Rattle.anb_command.specs.declared.limits.TheConstants.{RECORD_LIMIT, VALUES_LIMIT}
use Rattle.anb_compile.specs.Fitting.{FitsRole}
use Rattle.anb_frame.specs.Frames.{frames, length_bytes}
use Rattle.anb_frame.proofs.Lengths.{length-length_bytes}
use Rattle.anb_machine.specs.ByteRuns.{meaning_of}
use Rattle.anb_park.specs.Lives.{IsParked, LiveValue}
use Rattle.anb_park.specs.Records.{IsWaiting, Parked, after, body_of, count_takes, marker, record_of}
use Rattle.anb_plays.specs.Plans.{Event, know, fresh, send, recv}
use Rattle.anb_plays.specs.Plays.{Played, ends, stopped}
use Rattle.anb_plays.specs.Codes.{Act, takes, draws, receives, sends, works, at_register, demands, writes}
use Rattle.anb_plays.specs.Fits.{Place, Along, AnyBorder, AnySend, AnyWork, after_label, after_take, after_work, start}
use Rattle.anb_plays.specs.Runs.{run_from, says_if}
use Rattle.anb_protocol.specs.Laws.{HoldsOf}
use Rattle.anb_protocol.specs.Plays.{events_of}
use Rattle.anb_protocol.specs.Protocols.{ProtocolValue}
use Rattle.anb_seal.specs.Laws.{SealsLonger}
use Rattle.anb_seal.specs.Streams.{draw_of}
use Rattle.anb_term.specs.Demand.{all_hold}
use Rattle.anb_term.specs.Value.{Meaning, RecipeTree, label, value}
use Rattle.anb_park_commands.specs.Going.{FitsFrame, IsSmall, RunsRole, begun}
use Rattle.anb_park_commands.proofs.Bounds.{few_receives, length_frames, sum_short}
use Rattle.anb_park_commands.proofs.Walking.{count_receives}

-- ---- how many arrivals a code uses

says_left : {A : Type 0} (b : Option A) (p : Played A) → (says_if b p).left ≡ p.left
says_left None p = refl
says_left (Some x) p = refl

module _ {A : Type 0} (m : Meaning A) (draw : ℕ → A) where
  goes_or_stops : (most : ℕ) (arrivals : List A) (p : Played A) (e at : ℕ) (b : Bool) → length arrivals ≤ most + length p.left → length arrivals ≤ most + length (cond b p (ends (stopped e at) arrivals)).left
  goes_or_stops most arrivals p e at true few = few
  goes_or_stops most arrivals p e at false few = omega arith

  -- one that keeps a plan's order uses as many as the plan waits for, at most
  uses_few : (acts : List Act) (es : List Event) (s : Place) (regs : List RecipeTree) (vs : List A) (e at i : ℕ) (arrivals : List A) → Along AnySend AnyWork AnyBorder acts es s
      → length arrivals ≤ count_receives es + length (run_from m draw acts regs vs e at i arrivals).left
  uses_few [] [] s regs vs e at i arrivals along = omega arith
  uses_few (works w ∷ acts) es s regs vs e at i arrivals along =
      goes_or_stops (count_receives es) arrivals (run_from m draw acts (regs ++ writes regs w) vs e (at + 1) i arrivals) e (at + 1) (all_hold m vs (demands regs w))
      (uses_few acts es (after_work s w) (regs ++ writes regs w) vs e (at + 1) i arrivals along.1)
  uses_few (takes ∷ acts) (know t ∷ es) s regs vs e at i arrivals along = uses_few acts es (after_take s) (regs ++ label (length regs) ∷ []) vs e (at + 1) i arrivals along
  uses_few (draws ∷ acts) (fresh t ∷ es) s regs vs e at i arrivals along =
      uses_few acts es (after_label s t) (regs ++ label (length vs) ∷ []) (vs ++ draw i ∷ []) e (at + 1) (i + 1) arrivals along
  uses_few (receives ∷ acts) (recv t ∷ es) s regs vs e at i [] along = omega arith
  uses_few (receives ∷ acts) (recv t ∷ es) s regs vs e at i (x ∷ arrivals) along =
      let rest = uses_few acts es (after_label s t) (regs ++ label (length vs) ∷ []) (vs ++ x ∷ []) (e + 1) (at + 1) i arrivals along.1 in omega (arith, rest)
  uses_few (sends n ∷ acts) (send t ∷ es) s regs vs e at i arrivals along =
      let p = run_from m draw acts regs vs (e + 1) (at + 1) i arrivals in
      let rest = uses_few acts es s regs vs (e + 1) (at + 1) i arrivals along.2 in
      let same : length (says_if (value m vs (at_register regs n)) p).left ≡ length p.left = ap length (says_left (value m vs (at_register regs n)) p) in
      omega (arith, rest, same)
  uses_few (act ∷ acts) es s regs vs e at i arrivals along = absurd along
  uses_few [] (v ∷ es) s regs vs e at i arrivals along = absurd along

-- a session that waits has used them all
pub few_arrivals : (p : ProtocolValue) (role : ℕ) (code : CodeValue) → HoldsOf p → FitsRole p role code → (s : Parked) → IsWaiting code s → length s.arrivals ≤ 256
few_arrivals p role code holds fits s (e, end, left) =
    let few = uses_few (meaning_of code) (draw_of s.seed s.session) (acts_of code) (events_of p role) (start (events_of p role)) [] s.init 0 0 0 s.arrivals fits.fits.order in
    let none : length _ ≡ 0 = ap length left in
    omega (arith, few, none, few_receives p role, holds.actions)

-- ---- how long a body is

pub body_size : (id seed : List ℕ) (session : ℕ) (initial heard : List ℕ) → length id ≡ 32 → length seed ≡ 32
    → length (marker ++ id ++ seed ++ length_bytes session ++ initial ++ heard) ≡ 71 + (length initial + length heard)
body_size id seed session initial heard id_is seed_is =
    omega (
      arith,
      length-append (marker ++ id ++ seed ++ length_bytes session ++ initial) heard,
      length-append (marker ++ id ++ seed ++ length_bytes session) initial,
      length-append (marker ++ id ++ seed) (length_bytes session),
      length-append (marker ++ id) seed,
      length-append marker id,
      length-length_bytes session,
      id_is,
      seed_is,
    )

-- ---- the sessions of a role

module _ (p : ProtocolValue) (role : ℕ) (code : CodeValue) (runs : RunsRole p role code) where
  pub small_begun : (id seed : List ℕ) (initial : List (List ℕ)) → length initial ≡ count_takes code → sum_by length initial ≤ VALUES_LIMIT → IsSmall code (begun id seed initial)
  small_begun id seed initial count total = record {
    initial = omega (arith, length_frames initial, count, runs.known, total);
    few = λ more waits. runs.few (after (begun id seed initial) more) waits;
  }

  pub small_awake : (s : Parked) (key bytes : List ℕ) → SealsLonger → bytes ≡ record_of key s → length bytes ≤ RECORD_LIMIT → IsSmall code s
  small_awake s key bytes longer is short = record {
    initial = omega (
      arith,
      short,
      ap length is,
      longer One key (body_of s),
      length-append (marker ++ s.id ++ s.seed ++ length_bytes s.session ++ frames s.init) (frames s.arrivals),
      length-append (marker ++ s.id ++ s.seed ++ length_bytes s.session) (frames s.init),
    );
    few = λ more waits. runs.few (after s more) waits;
  }

-- and so its record fits a frame wherever it waits
pub fits_frame : (code : CodeValue) (s : Parked) → IsSmall code s → (more : List (List ℕ)) (live : LiveValue) → IsParked code (after s more) live → FitsFrame live
fits_frame code s small more live parked =
    let heard = s.arrivals ++ more in
    let sizes = parked.stands.sizes in
    let size = body_size s.id s.seed s.session (frames s.init) (frames heard) sizes.id sizes.seed in
    omega (arith, ap length parked.stands.body, size, small.initial, small.few more parked.waiting, length_frames heard, sum_short ARRIVAL heard sizes.arrivals)
