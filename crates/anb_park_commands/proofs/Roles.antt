-- A role's code, and its sessions as plays tell them.
use Rattle.std.proofs.Common.{◌≡◌, ◌↔◌, ℕ, List, [], ◌∷◌, ◌++◌, length, refl, ap, sym, ◌∙◌, subst, arith}
use Rattle.std.proofs.lemmas.List.{length-map}
use Rattle.std.specs.List.{AllByRecursion}
use Rattle.anb_base.specs.Bytes.{IsBytes, IsBytes-pass, is_bytes-IsBytes}
use Rattle.anb_base.specs.declared.content.Suite.TheVariants.{One}
use Rattle.anb_base.proofs.Strings.{bytes_left, bytes_right}
use Rattle.anb_code.specs.CodeValue.{CodeValue}
use Rattle.anb_compile.specs.Fitting.{FitsRole}
use Rattle.anb_compile.specs.Laws.{FittingCodesPlay}
use Rattle.anb_frame.specs.Frames.{frames, length_bytes}
use Rattle.anb_park.specs.Records.{IsWaiting, Parked, after, body_of, count_takes, marker, play_of}
use Rattle.anb_plays.specs.Plays.{Played}
use Rattle.anb_plays.specs.Runs.{no_place, without_place}
use Rattle.anb_plays.proofs.Runs.{waiting_placeless}
use Rattle.anb_protocol.specs.Laws.{HoldsOf}
use Rattle.anb_protocol.specs.Protocols.{ProtocolValue}
use Rattle.anb_protocol.specs.Texts.{known_by, term_text}
use Rattle.anb_seal.specs.Laws.{GivesBytes, UnsealsExactly}
use Rattle.anb_seal.specs.Primitives.{sealed}
use Rattle.anb_command.proofs.Cutting.{bytes_in_frames}
use Rattle.anb_park_commands.specs.Going.{HaveBytes, RunsRole}
use Rattle.anb_park_commands.specs.Sessions.{IsPlayOf, WaitsIn}
use Rattle.anb_park_commands.proofs.Bounds.{few_known}
use Rattle.anb_park_commands.proofs.Small.{few_arrivals}

pub runs_role : (p : ProtocolValue) (role : ℕ) (code : CodeValue) → HoldsOf p → FittingCodesPlay p → FitsRole p role code → RunsRole p role code
runs_role p role code holds law fits = record {
  takes = ap length fits.texts;
  known = omega (arith, ap length fits.texts, few_known p role holds);
  few = few_arrivals p role code holds fits;
  plays = plays;
} where
  plays : (s : Parked) → length s.init ≡ count_takes code → HaveBytes s → (play : Played (List ℕ)) → IsPlayOf p role s play ↔ (play ≡ without_place (play_of code s))
  plays s each bytes play =
      let count : length s.init ≡ length (known_by p role) = each ∙ ap length fits.texts ∙ length-map (known_by p role) (term_text p) in
      let both = law role code s.init s.seed s.session s.arrivals fits count bytes.init bytes.arrivals in
      (λ is. both.1 play is, λ is. subst (λ (q : Played (List ℕ)). IsPlayOf p role s q) (sym is) both.0)

-- ---- bytes

pub all_both : (xs ys : List (List ℕ)) → AllByRecursion IsBytes xs → AllByRecursion IsBytes ys → AllByRecursion IsBytes (xs ++ ys)
all_both [] ys all also = also
all_both (x ∷ xs) ys all also = (all.0, all_both xs ys all.1 also)

pub bytes_after : (s : Parked) (more : List (List ℕ)) → HaveBytes s → AllByRecursion IsBytes more → HaveBytes (after s more)
bytes_after s more bytes also = record { init = bytes.init; arrivals = all_both s.arrivals more bytes.arrivals also }

-- what a record of bytes holds is bytes
pub record_bytes : GivesBytes → UnsealsExactly → (key bytes m : List ℕ) (s : Parked) → IsBytes bytes → sealed One key m ≡ bytes → m ≡ body_of s → HaveBytes s
record_bytes gives exact key bytes m s are is whole =
    let held : IsBytes m = IsBytes-pass m (gives.unseals One key bytes m (is_bytes-IsBytes bytes are) ((exact One key bytes m).1 is)) in
    let body : IsBytes (body_of s) = subst IsBytes whole held in
    let front : IsBytes (marker ++ s.id ++ s.seed ++ length_bytes s.session ++ frames s.init) = bytes_left (marker ++ s.id ++ s.seed ++ length_bytes s.session ++ frames s.init) (frames s.arrivals) body in
    record {
      init = bytes_in_frames s.init (bytes_right (marker ++ s.id ++ s.seed ++ length_bytes s.session) (frames s.init) front);
      arrivals = bytes_in_frames s.arrivals (bytes_right (marker ++ s.id ++ s.seed ++ length_bytes s.session ++ frames s.init) (frames s.arrivals) body);
    }

-- ---- waiting

module _ (p : ProtocolValue) (role : ℕ) (code : CodeValue) (runs : RunsRole p role code) (s : Parked) (count : length s.init ≡ count_takes code) (bytes : HaveBytes s) where
  pub waits_in_play : IsWaiting code s → WaitsIn p role s
  waits_in_play (e, ends, left) = (without_place (play_of code s), (runs.plays s count bytes (without_place (play_of code s))).1 refl, (e, ap no_place ends), left)

  pub waits_in_code : WaitsIn p role s → IsWaiting code s
  waits_in_code (play, is, (e, ends), left) =
      let same : play ≡ without_place (play_of code s) = (runs.plays s count bytes play).0 is in
      (e, waiting_placeless (play_of code s).end e (ap (λ (q : Played (List ℕ)). q.end) (sym same) ∙ ends), ap (λ (q : Played (List ℕ)). q.left) (sym same) ∙ left)
