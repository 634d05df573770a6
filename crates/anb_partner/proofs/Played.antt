-- The run of a partner's code is the play of its plan.
use Rattle.std.proofs.Common.{◌≡◌, ℕ, ◌+◌, ◌*◌, List, [], ◌∷◌, ◌++◌, length, map, Bool, true, false, Option, Some, None, refl, sym, ap, ◌∙◌, subst, IsTrue}
use Rattle.std.specs.Prelude.{if◌then◌else◌}
use Rattle.std.specs.List.{AllByRecursion, All}
use Rattle.std.proofs.lemmas.List.Elements.{All-from_recursion}
use Rattle.anb_lemmas.proofs.Each.{each_in_both}
use Rattle.anb_base.specs.Bytes.{IsBytes, is_bytes}
use Rattle.anb_base.specs.declared.content.Suite.{Suite}
use Rattle.anb_format.specs.Formats.{FormatValue}
use Rattle.anb_term.specs.Tree.{Tree}
use Rattle.anb_seal.specs.Streams.{draw_of}
use Rattle.anb_seal.proofs.ByteLemmas.{bytes-stream}
use Rattle.anb_algebra.specs.ByteMeaning.{byte_meaning}
use Rattle.anb_algebra.proofs.Picks.{tests}
use Rattle.anb_code.specs.CodeValue.{CodeValue}
use Rattle.anb_code.specs.Meaning.{act_of, acts_of}
use Rattle.anb_plays.specs.Fits.{Fits}
use Rattle.anb_plays.specs.Plans.{known, IsFreshAfter, FreshIsNew}
use Rattle.anb_plays.specs.Plays.{Played}
use Rattle.anb_plays.specs.Runs.{run, without_place}
use Rattle.anb_plays.specs.Statements.{RunsAsPlayed}
use Rattle.anb_protocol.specs.Plans.{PlanEvent, to_know, to_make, to_send, to_receive, plan_of, is_to_make}
use Rattle.anb_protocol.specs.Plays.{event_of, meaning_of}
use Rattle.anb_protocol.specs.Protocols.{ProtocolValue}
use Rattle.anb_protocol.specs.Texts.{known_by}
use Rattle.anb_compile.proofs.Events.{known_events}
use Rattle.anb_partner.specs.Plans.{IsPartner, Script, handed_terms, has_atom, hook, mirrored, partner_plan}
use Rattle.anb_partner.specs.Laws.{IsPartnersPlay, PartnersPlay}
use Rattle.anb_partner.proofs.Planned.{apart, by_if, heard_part, mirror, partner_knows}

-- ---- nothing is made

abbrev MakesNone : List PlanEvent → Type 0
MakesNone es = AllByRecursion (λ e. is_to_make e ≡ false) es

none_known : (ts : List Tree) → MakesNone (map to_know ts)
none_known [] = tt
none_known (t ∷ ts) = (refl, none_known ts)

none_heard : (ts : List Tree) → MakesNone (map (to_receive 0) ts)
none_heard [] = tt
none_heard (t ∷ ts) = (refl, none_heard ts)

none_hooked : (spare line : ℕ) (right : Option Tree) → MakesNone (hook spare line right)
none_hooked spare line None = tt
none_hooked spare line (Some t) = (refl, (refl, tt))

none_mirrored : (spare : ℕ) (right : Option Tree) (line : ℕ) (es : List PlanEvent) (ins ms : List Tree) → MakesNone (mirrored spare right line es ins ms)
none_mirrored spare right line [] ins ms = tt
none_mirrored spare right line (to_know t ∷ es) ins ms = none_mirrored spare right line es ins ms
none_mirrored spare right line (to_make t ∷ es) ins ms = none_mirrored spare right line es ins ms
none_mirrored spare right line (to_send i t ∷ es) ins [] = tt
none_mirrored spare right line (to_send i t ∷ es) ins (m ∷ ms) = (refl, none_mirrored spare right (line + 1) es ins ms)
none_mirrored spare right line (to_receive i t ∷ es) [] ms = tt
none_mirrored spare right line (to_receive i t ∷ es) (a ∷ ins) ms =
    by_if MakesNone (has_atom spare a) (hook spare line right ++ to_send line a ∷ mirrored spare None (line + 1) es ins ms) (to_send line a ∷ mirrored spare right (line + 1) es ins ms)
    (each_in_both (λ e. is_to_make e ≡ false) (hook spare line right) (to_send line a ∷ mirrored spare None (line + 1) es ins ms) (none_hooked spare line right) (refl, none_mirrored spare None (line + 1) es ins ms))
    (refl, none_mirrored spare right (line + 1) es ins ms)

none_made : (s : Script) → MakesNone (partner_plan s)
none_made s =
    let none : PlanEvent → Type 0 = λ e. is_to_make e ≡ false in
    subst (AllByRecursion none) (sym (apart s))
    (each_in_both none (map to_know (known_by s.protocol s.role)) (heard_part s) (none_known (known_by s.protocol s.role))
    (each_in_both none (map (to_receive 0) (handed_terms s.protocol s.role)) (mirror s) (none_heard (handed_terms s.protocol s.role))
    (none_mirrored (length s.protocol.atoms) s.right 1 (plan_of s.protocol s.role) s.arrivals s.messages)))

none_is_new : (es : List PlanEvent) (frame : List Tree) → MakesNone es → IsFreshAfter frame (map event_of es)
none_is_new [] frame none = tt
none_is_new (to_know t ∷ es) frame none = none_is_new es frame none.1
none_is_new (to_make t ∷ es) frame none = cc
none_is_new (to_send i t ∷ es) frame none = none_is_new es frame none.1
none_is_new (to_receive i t ∷ es) frame none = none_is_new es (frame ++ t ∷ []) none.1

-- ---- plays

pub partners_play : (p : ProtocolValue) → RunsAsPlayed (meaning_of p) → PartnersPlay p
partners_play p law s code init arrivals seed session same is long bytes strings =
    let values : (bs : List (List ℕ)) → AllByRecursion IsBytes bs → All (λ b. IsTrue (is_bytes b)) bs = λ bs all. All-from_recursion (λ b. IsTrue (is_bytes b)) bs (tests bs all) in
    let plan = partner_plan s in
    let count : length init ≡ length (known (map event_of plan)) = long ∙ ap (λ (q : ProtocolValue). length (known_by q s.role)) (sym same) ∙ sym (ap length (known_events plan ∙ partner_knows s)) in
    let formats : code.formats ≡ s.protocol.formats = ap (λ (c : CodeValue). c.formats) is.names in
    let suite : code.suite ≡ s.protocol.suite = ap (λ (c : CodeValue). c.suite) is.names in
    let here : RunsAsPlayed (meaning_of s.protocol) = subst (λ (q : ProtocolValue). RunsAsPlayed (meaning_of q)) (sym same) law in
    let fits : Fits (meaning_of s.protocol) (acts_of code) (map event_of plan) =
    subst (λ (f : List FormatValue). Fits (meaning_of s.protocol) (map (act_of f) code.instrs) (map event_of plan)) (sym formats) is.emits.fits in
    let go = here (draw_of seed session) (acts_of code) (map event_of plan) init arrivals fits (none_is_new plan (known (map event_of plan)) (none_made s)) (λ i. bytes-stream _ session (8 * i) 8) (values init bytes) (values arrivals strings) count in
    let P : List FormatValue → Suite → Type 0 = λ f u. (let r = without_place (run (byte_meaning f u) (draw_of seed session) (acts_of code) init arrivals) in
    IsPartnersPlay s init seed session arrivals r × ((q : Played (List ℕ)) → IsPartnersPlay s init seed session arrivals q → q ≡ r)) in
    subst (λ u. P code.formats u) (sym suite) (subst (λ f. P f s.protocol.suite) (sym formats) go)
