-- What a code that says names tells of their values.
use Rattle.std.proofs.Common.{◌≡◌, ◌≢◌, ◌<◌, ℕ, List, [], ◌∷◌, ◌++◌, length, map, take, Bool, true, false, cond, Option, Some, None, refl, sym, ap, ◌∙◌, subst, arith}
use Rattle.std.specs.Prelude.{◌==◌}
use Rattle.std.specs.List.{AllByRecursion}
use Rattle.std.proofs.lemmas.List.{map-append}
use Rattle.std.proofs.lemmas.Bool.Decides.{nat_tests}
use Rattle.anb_lemmas.proofs.Each.{each_in_both}
use Rattle.anb_base.specs.Bytes.{IsBytes}
use Rattle.anb_term.specs.Tree.{Tree, leaf}
use Rattle.anb_term.specs.Value.{Meaning}
use Rattle.anb_term.specs.Agree.{Agree, Gives, HasRecipe}
use Rattle.anb_algebra.specs.ByteMeaning.{has_operator}
use Rattle.anb_seal.specs.Streams.{draw_of}
use Rattle.anb_seal.proofs.ByteLemmas.{bytes-draw_of}
use Rattle.anb_code.specs.CodeValue.{CodeValue}
use Rattle.anb_code.specs.Meaning.{act_of}
use Rattle.anb_code.specs.Uses.{is_among}
use Rattle.anb_plays.specs.Fits.{Fits}
use Rattle.anb_plays.specs.Plans as terms
use Rattle.anb_plays.specs.Plays.{done, Played, Play}
use Rattle.anb_plays.specs.Honest.{heard}
use Rattle.anb_plays.specs.Statements.{RunsAsPlayed}
use Rattle.anb_plays.specs.Runs.{without_place}
use Rattle.anb_machine.specs.ByteRuns.{run_bytes}
use Rattle.anb_protocol.specs.Laws.{HoldsOf, PlansKnowFirst, TermsOfPlans}
use Rattle.anb_protocol.specs.Plans.{plan_of}
use Rattle.anb_protocol.specs.Plays.{events_of, meaning_of}
use Rattle.anb_protocol.specs.Protocols.{ProtocolValue}
use Rattle.anb_protocol.specs.Texts.{known_by}
use Rattle.anb_protocol.specs.WellFormed.{IsProtocol}
use Rattle.anb_compile.specs.Emitting.{known_in}
use Rattle.anb_compile.proofs.Events.{known_events}
use Rattle.anb_compile.proofs.Protocols.{known_of_plan, plan_is}
use Rattle.anb_transcript.specs.declared.transcript.TranscriptLine.{TranscriptLine}
use Rattle.anb_judge.specs.Observed.{observed}
use Rattle.anb_judge.specs.Verdicts.{Judged, line_bytes, up_to}
use Rattle.anb_judge.proofs.Begun.{cut_known}
use Rattle.anb_judge.proofs.SeenPlays.{one_judgement, values}
use Rattle.anb_draws.specs.Draws.{Tells, bytes_by, gone_over, names_by, terms_by, value_in}
use Rattle.anb_draws.specs.Laws.{DrawsOne}
use Rattle.anb_draws.specs.Telling.{AreOpen, IsTeller, frame_by, name_of, named, value_among, value_of}
use Rattle.anb_draws.specs.declared.draws.Drawn.{Drawn}
use Rattle.anb_draws.proofs.Among.{untold_apart, untold_parts}
use Rattle.anb_draws.proofs.Known.{both_given, known_given, named_within}
use Rattle.anb_draws.proofs.Plans.{known_are_terms, labels_by, says, telling_events}
use Rattle.anb_draws.proofs.Walking.{GivesEach, all_said, known_says, says_is_new}

-- ---- the run of the code

pub teller_plays : (p : ProtocolValue) (role n : ℕ) (known : List Drawn) (names : List ℕ) (code : CodeValue) (init : List (List ℕ)) (seed : List ℕ) (arrivals : List (List ℕ)) → RunsAsPlayed (meaning_of p) → PlansKnowFirst
    → IsTeller p role n known names code → length init ≡ length (known_by p role) → AllByRecursion IsBytes init → AllByRecursion IsBytes arrivals
    → Play (meaning_of p) (draw_of seed 0) (observed (up_to n (events_of p role)) ++ map says names) init arrivals (without_place (run_bytes code init seed 0 arrivals))
teller_plays p role n known names code init seed arrivals law first teller count bytes strings =
    let m = meaning_of p in
    let plan = plan_of p role in
    let own = events_of p role in
    let es = observed (up_to n own) ++ map says names in
    let acts = map (act_of p.formats) code.instrs in
    let emits = teller.emits in
    let fits : Fits m acts es = subst (Fits m acts) (telling_events n names plan) emits.fits in
    let same = known_says (up_to n own) names ∙ cut_known n own (first p role) ∙ known_events plan ∙ known_of_plan p role in
    let go = law (draw_of seed 0) acts es init arrivals fits (says_is_new (up_to n own) names) (λ i. bytes-draw_of seed 0 i) (values init bytes) (values arrivals strings) (count ∙ sym (ap length same)) in
    subst (λ (c : CodeValue). Play m (draw_of seed 0) es init arrivals (without_place (run_bytes c init seed 0 arrivals))) (sym teller.names_are) go.0

abbrev pub saying : List (List ℕ) → Played (List ℕ)
saying bs = record { sent = bs; end = done; left = [] }

-- what it says, and that all that is had agrees
pub gives_each : (p : ProtocolValue) (role n : ℕ) (known : List Drawn) (names : List ℕ) (code : CodeValue) (init : List (List ℕ)) (seed : List ℕ) (arrivals bs : List (List ℕ)) → RunsAsPlayed (meaning_of p) → PlansKnowFirst
    → IsTeller p role n known names code → length init ≡ length (known_by p role) → AllByRecursion IsBytes init → AllByRecursion IsBytes arrivals → run_bytes code init seed 0 arrivals ≡ saying bs
    → GivesEach (meaning_of p) (terms.known (events_of p role) ++ heard (observed (up_to n (events_of p role)))) (init ++ arrivals) names bs
    × Agree (meaning_of p) (terms.known (events_of p role) ++ heard (observed (up_to n (events_of p role)))) (init ++ arrivals)
gives_each p role n known names code init seed arrivals bs law first teller count bytes strings ran =
    let m = meaning_of p in
    let cut = up_to n (events_of p role) in
    let play = teller_plays p role n known names code init seed arrivals law first teller count bytes strings in
    let so : Play m (draw_of seed 0) (observed cut ++ map says names) init arrivals (saying bs) =
    subst (λ (r : Played (List ℕ)). Play m (draw_of seed 0) (observed cut ++ map says names) init arrivals (without_place r)) ran play in
    subst (λ l. GivesEach m (l ++ heard (observed cut)) (init ++ arrivals) names bs × Agree m (l ++ heard (observed cut)) (init ++ arrivals)) (cut_known n (events_of p role) (first p role))
    (all_said m (draw_of seed 0) names cut init arrivals (saying bs) so refl refl)

-- ---- the value of a name

module _ (m : Meaning (List ℕ)) (F : List Tree) (vs : List (List ℕ)) (P : ℕ → Type 0) where
  told_in : (draws : List Drawn) → AllByRecursion P (map name_of draws) → GivesEach m F vs (map name_of draws) (map value_of draws) → (name : ℕ) (b : List ℕ) → value_among draws name ≡ Some b
      → P name × Gives m F vs (leaf name) b
  told_in [] all each name b is = absurd (let never = is in cc)
  told_in (d ∷ draws) all each name b is = by (d.name == name) refl (λ e. told_in draws all.1 each.1 name b e) is where
    by : (t : Bool) → (d.name == name) ≡ t → (value_among draws name ≡ Some b → P name × Gives m F vs (leaf name) b) → cond t (Some d.value) (value_among draws name) ≡ Some b → P name × Gives m F vs (leaf name) b
    by true e later is =
        let same : d.name ≡ name = grind (arith, nat_tests, e) in
        let value : d.value ≡ b = cc in
        (subst P same all.0, subst (λ v. Gives m F vs (leaf name) v) value (subst (λ a. Gives m F vs (leaf a) d.value) same each.0))
    by false e later is = later is

module _ (p : ProtocolValue) (role : ℕ) (initial : List (List ℕ)) (lines : List TranscriptLine) (n : ℕ) where
  abbrev pub asked : Judged
  asked = record { protocol = p; role = role; initial = initial; lines = lines }

  -- nothing is asked for
  pub tells_none : names_by n (events_of p role) ≡ [] → (name : ℕ) → Tells asked n name (value_among [] name)
  tells_none none name = λ is has. is.0 none

  pub tells : (draws : List Drawn) → names_by n (events_of p role) ≢ [] → AllByRecursion (λ a. a < length p.atoms) (map name_of draws)
      → GivesEach (meaning_of p) (terms_by asked n) (bytes_by asked n) (map name_of draws) (map value_of draws)
      → ((name : ℕ) → name < length p.atoms → value_among draws name ≡ None → HasRecipe (has_operator p.formats) (terms_by asked n) (leaf name) → ⊥)
      → (name : ℕ) → Tells asked n name (value_among draws name)
  tells draws some within each hidden name = by (value_among draws name) refl where
    by : (v : Option (List ℕ)) → value_among draws name ≡ v → Tells asked n name v
    by (Some b) e = let h = told_in (meaning_of p) (terms_by asked n) (bytes_by asked n) (λ a. a < length p.atoms) draws within each name b e in ((some, h.0), h.1)
    by None e = λ is has. hidden name is.1 e has

  -- what is known, and what was asked for
  pub both_told : (known others : List Drawn) (names : List ℕ) → known ≡ named (known_in (plan_of p role)) initial → map name_of others ≡ names
      → GivesEach (meaning_of p) (terms_by asked n) (bytes_by asked n) names (map value_of others) → Agree (meaning_of p) (terms_by asked n) (bytes_by asked n)
      → GivesEach (meaning_of p) (terms_by asked n) (bytes_by asked n) (map name_of (known ++ others)) (map value_of (known ++ others))
  both_told known others names is same each agree =
      let m = meaning_of p in
      let F = terms_by asked n in
      let vs = bytes_by asked n in
      let front = known_in (plan_of p role) in
      let back = heard (observed (up_to n (events_of p role))) in
      let lead : F ≡ front ++ back = ap (λ l. l ++ back) (known_events (plan_of p role)) in
      let own = known_given m front back initial (map line_bytes (take n lines)) (subst (λ (l : List Tree). Agree m l vs) lead agree) in
      let one : GivesEach m F vs (map name_of known) (map value_of known) =
      subst (λ (l : List Tree). GivesEach m l vs (map name_of known) (map value_of known)) (sym lead)
      (subst (λ (l : List Drawn). GivesEach m (front ++ back) vs (map name_of l) (map value_of l)) (sym is) own) in
      let other : GivesEach m F vs (map name_of others) (map value_of others) = subst (λ l. GivesEach m F vs l (map value_of others)) (sym same) each in
      subst (λ l. GivesEach m F vs l (map value_of (known ++ others))) (sym (map-append name_of known others))
      (subst (λ l. GivesEach m F vs (map name_of known ++ map name_of others) l) (sym (map-append value_of known others))
      (both_given m F vs (map name_of known) (map name_of others) (map value_of known) (map value_of others) one other))

  pub both_within : (known others : List Drawn) (names : List ℕ) → TermsOfPlans → IsProtocol p → known ≡ named (known_in (plan_of p role)) initial → map name_of others ≡ names → AllByRecursion (λ a. a < length p.atoms) names
      → AllByRecursion (λ a. a < length p.atoms) (map name_of (known ++ others))
  both_within known others names terms protocol is same within =
      let P : ℕ → Type 0 = λ a. a < length p.atoms in
      let own = named_within p (known_in (plan_of p role)) initial (known_are_terms p (plan_of p role) (terms p role protocol)) in
      let one = subst (λ (l : List Drawn). AllByRecursion P (map name_of l)) (sym is) own in
      subst (AllByRecursion P) (sym (map-append name_of known others)) (each_in_both P (map name_of known) (map name_of others) one (subst (AllByRecursion P) (sym same) within))

-- no recipe has a name that none of these is
pub none_has : (p : ProtocolValue) (role n : ℕ) (known others : List Drawn) (names : List ℕ) → HoldsOf p → AreOpen p (frame_by p role n) known (length p.atoms) names → map name_of others ≡ names
    → (name : ℕ) → name < length p.atoms → value_among (known ++ others) name ≡ None
    → HasRecipe (has_operator p.formats) (terms.known (events_of p role) ++ heard (observed (up_to n (events_of p role)))) (leaf name) → ⊥
none_has p role n known others names holds left same name within none has =
    let parts = untold_parts known others name none in
    let apart : is_among names name ≡ false = subst (λ l. is_among l name ≡ false) same (untold_apart others name parts.1) in
    left.others name within parts.0 apart (subst (λ F. HasRecipe (has_operator p.formats) F (leaf name)) (sym (labels_by n (plan_of p role) (plan_is p role holds).leads)) has)

-- ---- one value at most

module _ (judged : Judged) (n name : ℕ) where
  one_value : (v w : Option (List ℕ)) → Tells judged n name v → Tells judged n name w → v ≡ w
  one_value None None v w = refl
  one_value (Some b) None (is, gives) w = absurd (w is gives.0)
  one_value None (Some b) v (is, gives) = absurd (v is gives.0)
  one_value (Some b) (Some c) (is, gives) (is_too, gives_too) = sym (gives.1 gives.0.0 gives.0.1) ∙ gives_too.1 gives.0.0 gives.0.1

pub one_drawing : DrawsOne
one_drawing judged one other x y name =
    let same = one_judgement judged x.end y.end x.judges y.judges in
    let n = length judged.lines in
    one_value judged (gone_over y.end n) name (value_in one name) (value_in other name)
    (subst (λ e. Tells judged (gone_over e n) name (value_in one name)) same (x.tells name)) (y.tells name)
