-- The values that a role's partner is handed are the bytes of names.
use Rattle.std.proofs.Common.{◌≡◌, ℕ, zero, suc, ◌+◌, ◌<◌, ◌≤◌, List, [], ◌∷◌, ◌++◌, length, map, Bool, true, false, cond, Some, refl, sym, ap, ◌∙◌, arith}
use Rattle.std.specs.Prelude.{count_by, slice_get, ◌==◌}
use Rattle.std.specs.List.{AllByRecursion, flat_map, range_with_len}
use Rattle.std.proofs.lemmas.List.{map-append}
use Rattle.std.proofs.lemmas.List.Sums.{sum_by-cons}
use Rattle.anb_base.specs.Bytes.{IsBytes}
use Rattle.anb_seal.specs.Streams.{draw_of}
use Rattle.anb_term.specs.Tree.{Tree}
use Rattle.anb_plays.specs.Honest.{made}
use Rattle.anb_plays.specs.Plans.{Event, know, known}
use Rattle.anb_protocol.specs.Laws.{KnowsFirst, PlansKnowFirst}
use Rattle.anb_protocol.specs.Plans.{PlanEvent, to_know, to_make, to_send, to_receive, is_to_make, plan_of}
use Rattle.anb_protocol.specs.Plays.{event_of, events_of, honest_bytes}
use Rattle.anb_protocol.specs.Protocols.{ProtocolValue}
use Rattle.anb_protocol.specs.Texts.{known_by}
use Rattle.anb_honest.specs.Honest.{AreHonest}
use Rattle.anb_honest.specs.Joint.{Cast, cast, known_atoms}
use Rattle.anb_honest.proofs.Existing.{are_honest, honest_atom}
use Rattle.anb_honest.proofs.Playing.{initial_honest}
use Rattle.anb_partner.specs.Plans.{begins, handed_by}
use Rattle.anb_partner.specs.Values.{handed_values_by, initial_values, made_values}
use Rattle.anb_tries.proofs.Narrated.{role_known}
use Rattle.anb_dues.specs.Laws.{AreOfNames}
use Rattle.anb_dues.proofs.Firsts.{Text}

-- ---- what a role begins with

begins_made : (es : List PlanEvent) → known (map event_of es) ≡ [] → begins es ≡ made (map event_of es)
begins_made [] none = refl
begins_made (to_know t ∷ es) none = absurd (cc)
begins_made (to_make t ∷ es) none = ap (λ l. t ∷ l) (begins_made es none)
begins_made (to_send i t ∷ es) none = begins_made es none
begins_made (to_receive i t ∷ es) none = begins_made es none

begins_behind : (es : List PlanEvent) (ts : List Tree) (rest : List Event) → map event_of es ≡ map know ts ++ rest → known rest ≡ [] → begins es ≡ known (map event_of es) ++ made (map event_of es)
begins_behind es [] rest is none = (let nothing : known (map event_of es) ≡ [] = ap known is ∙ none in begins_made es nothing ∙ ap (λ l. l ++ made (map event_of es)) (sym nothing))
begins_behind [] (t ∷ ts) rest is none = absurd (cc)
begins_behind (to_know u ∷ es) (t ∷ ts) rest is none = (let tails : map event_of es ≡ map know ts ++ rest = cc in ap (λ l. u ∷ l) (begins_behind es ts rest tails none))
begins_behind (to_make u ∷ es) (t ∷ ts) rest is none = absurd (cc)
begins_behind (to_send i u ∷ es) (t ∷ ts) rest is none = absurd (cc)
begins_behind (to_receive i u ∷ es) (t ∷ ts) rest is none = absurd (cc)

-- it knows, and then makes
begins_are : (es : List PlanEvent) → KnowsFirst (map event_of es) → begins es ≡ known (map event_of es) ++ made (map event_of es)
begins_are es first = begins_behind es first.0 first.1 first.2 first.3

-- as many as it makes
makes_count : (es : List PlanEvent) → count_by is_to_make es ≡ length (made (map event_of es))
makes_count [] = refl
makes_count (to_know t ∷ es) = makes_count es
makes_count (to_make t ∷ es) = omega (arith, makes_count es, sum_by-cons (λ (e : PlanEvent). cond (is_to_make e) 1 0) (to_make t) es)
makes_count (to_send i t ∷ es) = makes_count es
makes_count (to_receive i t ∷ es) = makes_count es

drawn_are : (f : ℕ → Text) (g : Tree → Text) (ts : List Tree) (k : ℕ) → ((i : ℕ) (t : Tree) → slice_get ts i ≡ Some t → f (k + i) ≡ g t) → map f (range_with_len k (length ts)) ≡ map g ts
drawn_are f g [] k each = refl
drawn_are f g (t ∷ ts) k each =
    let here : k + 0 ≡ k = omega arith in
    let later : map f (range_with_len (k + 1) (length ts)) ≡ map g ts =
    drawn_are f g ts (k + 1) (λ i u at. let next : k + 1 + i ≡ k + suc i = omega arith in ap f next ∙ each (suc i) u at) in
    ap (λ x. x ∷ map f (range_with_len (k + 1) (length ts))) (ap f (sym here) ∙ each 0 t refl) ∙ ap (λ l. g t ∷ l) later

-- ---- all of it

module _ (p : ProtocolValue) (values : List Text) (seed : Text) (count : length values ≡ length (known_atoms p)) (bytes : AllByRecursion IsBytes values) (first : PlansKnowFirst) where
  abbrev all : Cast
  all = cast p [] values seed

  abbrev atoms : ℕ → Text
  atoms n = honest_atom all n

  abbrev by : Tree → Text
  by t = honest_bytes p atoms t

  are : AreHonest all atoms
  are = are_honest all count bytes

  initial_is : (role : ℕ) → initial_values p values seed role ≡ map by (known_by p role)
  initial_is role = initial_honest all atoms are role

  made_is : (role : ℕ) → role < length p.roles → made_values p values seed role ≡ map by (made (events_of p role))
  made_is role less =
      ap (λ n. map (draw_of seed role) (range_with_len 0 n)) (makes_count (plan_of p role))
      ∙ drawn_are (draw_of seed role) by (made (events_of p role)) 0 (λ i t at. let same : 0 + i ≡ i = omega arith in ap (draw_of seed role) same ∙ are.made role i t less at)

  begins_is : (role : ℕ) → role < length p.roles → initial_values p values seed role ++ made_values p values seed role ≡ map by (begins (plan_of p role))
  begins_is role less =
      ap (λ l. l ++ made_values p values seed role) (initial_is role) ∙ ap (λ l. map by (known_by p role) ++ l) (made_is role less)
      ∙ sym (map-append by (known_by p role) (made (events_of p role)))
      ∙ ap (λ l. map by (l ++ made (events_of p role))) (sym (role_known p role))
      ∙ ap (map by) (sym (begins_are (plan_of p role) (first p role)))

  handed_one : (role other : ℕ) → other < length p.roles → handed_values_by p values seed role other ≡ map by (handed_by p role other)
  handed_one role other less = one (other == role) where
    one : (b : Bool) → cond b [] (initial_values p values seed other ++ made_values p values seed other) ≡ map by (cond b [] (begins (plan_of p other)))
    one true = refl
    one false = begins_is other less

  handed_from : (role k n : ℕ) → k + n ≤ length p.roles → flat_map (handed_values_by p values seed role) (range_with_len k n) ≡ map by (flat_map (handed_by p role) (range_with_len k n))
  handed_from role k zero within = refl
  handed_from role k (suc n) within =
      ap (λ l. l ++ flat_map (handed_values_by p values seed role) (range_with_len (k + 1) n)) (handed_one role k (omega (arith, within)))
      ∙ ap (λ l. map by (handed_by p role k) ++ l) (handed_from role (k + 1) n (omega (arith, within)))
      ∙ sym (map-append by (handed_by p role k) (flat_map (handed_by p role) (range_with_len (k + 1) n)))

  pub of_names : (role : ℕ) → AreOfNames p role (initial_values p values seed role) (flat_map (handed_values_by p values seed role) (range_with_len 0 (length p.roles)))
  of_names role = record { atoms = atoms; bytes = are.strings; begins = initial_is role; hands = handed_from role 0 (length p.roles) (omega arith) }
