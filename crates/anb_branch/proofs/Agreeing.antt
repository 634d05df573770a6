-- The plays of a role in two arms agree up to the arrival that tells the arm.
use Rattle.std.proofs.Common.{◌≡◌, ℕ, ◌+◌, ◌≤◌, List, [], ◌∷◌, ◌++◌, length, map, Bool, true, false, Option, Some, None, refl, sym, ap, ◌∙◌, subst, arith, append-nil, inl, inr}
use Rattle.std.specs.Prelude.{slice_get, not, ◌||◌, if◌then◌else◌}
use Rattle.std.specs.Option.{option_map, option_map_or}
use Rattle.std.specs.List.{AllByRecursion, list_any}
use Rattle.std.specs.Str.{bytes_eq}
use Rattle.std.proofs.lemmas.List.{take-append-drop, map-append}
use Rattle.anb_index.specs.Places.{among}
use Rattle.anb_lemmas.proofs.Options.{none_mapped}
use Rattle.anb_lemmas.proofs.Each.{each_got, each_as}
use Rattle.anb_base.specs.declared.content.Suite.{Suite}
use Rattle.anb_format.specs.Formats.{FormatValue}
use Rattle.anb_term.specs.Tree.{Tree}
use Rattle.anb_term.specs.Value.{Meaning}
use Rattle.anb_seal.specs.Streams.{draw_of}
use Rattle.anb_algebra.specs.ByteMeaning.{byte_meaning}
use Rattle.anb_plays.specs.Plans.{Event, know, recv, known}
use Rattle.anb_plays.specs.Plays.{Played, Judge, Walk, Play}
use Rattle.anb_plays.proofs.Plays.{known-append}
use Rattle.anb_protocol.specs.Choices.{refuse_if}
use Rattle.anb_protocol.specs.Protocols.{ProtocolValue, role_number}
use Rattle.anb_protocol.specs.Plans.{PlanEvent, to_know, to_make, to_send, to_receive}
use Rattle.anb_protocol.specs.Plays.{event_of, events_of, meaning_of, IsPlay}
use Rattle.anb_protocol.proofs.PlanLaws.{knows_first}
use Rattle.anb_choice.specs.Lawful.{BranchedValue, IsLawful, IsLike, AreAlike, roles_in, plan_named, stem_len, stem_part, arm_part, is_free, received_format, told_by, tells, unseen_in, blind_in}
use Rattle.anb_branch.specs.Taken.{count_receives, receives_in}
use Rattle.anb_branch.specs.Laws.{ArmsPlayAlike}
use Rattle.anb_branch.proofs.Members.{of_among, none_first, none_after}

-- ---- walks

module _ {A : Type 0} (m : Meaning A) (draw : ℕ → A) (t u : Tree) (es fs : List Event) where
  -- with no more arrivals than these events receive, what is behind the next receive doesn't matter
  walk_alike : (S : List PlanEvent) (frame : List Tree) (vs : List A) (e i : ℕ) (arrivals : List A) (p : Played A) → length arrivals ≤ count_receives S
      → Walk m draw (map event_of S ++ (recv t ∷ es)) frame vs e i arrivals p → Walk m draw (map event_of S ++ (recv u ∷ fs)) frame vs e i arrivals p
  walk_alike [] frame vs e i [] p few w = w
  walk_alike [] frame vs e i (x ∷ arrivals) p few w = absurd (omega (arith, few))
  walk_alike (to_know v ∷ S) frame vs e i arrivals p few w = walk_alike S frame vs e i arrivals p few w
  walk_alike (to_make v ∷ S) frame vs e i arrivals p few w = walk_alike S (frame ++ v ∷ []) (vs ++ draw i ∷ []) e (i + 1) arrivals p few w
  walk_alike (to_send k v ∷ S) frame vs e i arrivals p few (b, q, gives, w, is) = (b, q, gives, walk_alike S frame vs (e + 1) i arrivals q few w, is)
  walk_alike (to_receive k v ∷ S) frame vs e i [] p few w = w
  walk_alike (to_receive k v ∷ S) frame vs e i (x ∷ arrivals) p few (inl (agree, w)) =
      inl (agree, walk_alike S (frame ++ v ∷ []) (vs ++ x ∷ []) (e + 1) i arrivals p (omega (arith, few)) w)
  walk_alike (to_receive k v ∷ S) frame vs e i (x ∷ arrivals) p few (inr stop) = inr stop

-- ---- what is known

tail_known : (ts : List Tree) (rest S es : List Event) (t : Tree) → map know ts ++ rest ≡ S ++ (recv t ∷ es) → known rest ≡ [] → known es ≡ []
tail_known [] rest S es t is none = last (known S) (known es) (sym (known-append S (recv t ∷ es)) ∙ ap known (sym is) ∙ none) where
  last : (xs ys : List Tree) → xs ++ ys ≡ [] → ys ≡ []
  last [] ys e = e
  last (x ∷ xs) ys e = cc
tail_known (v ∷ ts) rest [] es t is none = cc
tail_known (v ∷ ts) rest (s ∷ S) es t is none = (let e : map know ts ++ rest ≡ S ++ (recv t ∷ es) = cc in tail_known ts rest S es t e none)

known_part : (S es : List Event) (t : Tree) → known es ≡ [] → known (S ++ (recv t ∷ es)) ≡ known S
known_part S es t none = known-append S (recv t ∷ es) ∙ ap (λ l. known S ++ l) none ∙ append-nil (known S)

-- ---- where a role sees the arm

-- the plan of the role goes on behind the stem with a receive
pub record Sees (stem : ℕ) (role : List ℕ) (arm : ProtocolValue) : Type 0 where
  pub action : ℕ
  pub message : Tree
  pub after : List PlanEvent
  pub is : arm_part stem (plan_named arm role) ≡ to_receive action message ∷ after

seen : (es : List PlanEvent) (i : ℕ) → received_format es ≡ Some i → (action : ℕ) × (t : Tree) × (after : List PlanEvent) × (es ≡ to_receive action t ∷ after)
seen [] i e = cc
seen (to_know t ∷ es) i e = cc
seen (to_make t ∷ es) i e = cc
seen (to_send k t ∷ es) i e = cc
seen (to_receive k t ∷ es) i e = (k, t, es, refl)

sees_by : (stem : ℕ) (role : List ℕ) (arm : ProtocolValue) → ((i : ℕ) × (told_by stem role arm ≡ Some i)) → Sees stem role arm
sees_by stem role arm (i, is) =
    let (action, t, after, e) = seen (arm_part stem (plan_named arm role)) i is in
    record { action = action; message = t; after = after; is = e }

unseen_none : (told : List (Option ℕ)) (chooser free : Bool) → chooser ≡ false → free ≡ true → (if chooser || not free then None else unseen_in told) ≡ None → unseen_in told ≡ None
unseen_none told chooser free e f h = rw (e, f) at h

tells_each : (before : List (Option ℕ)) (o : Option ℕ) → refuse_if (not (tells before o)) (length before + 1) ≡ None → (i : ℕ) × (o ≡ Some i)
tells_each before None h = cc
tells_each before (Some i) h = (i, refl)

mapped_each : {X Y : Type 0} (f : X → Y) (P : Y → Type 0) (xs : List X) → AllByRecursion P (map f xs) → AllByRecursion (λ x. P (f x)) xs
mapped_each f P [] all = tt
mapped_each f P (x ∷ xs) all = (all.0, mapped_each f P xs all.1)

-- ---- arms of a lawful branched text

-- the role sees each arm
pub sees_each : (b : BranchedValue) (role : List ℕ) → IsLawful b → among (roles_in b) role ≡ true → bytes_eq role b.chooser ≡ false → list_any (is_free b.stem role) b.arms ≡ true
    → AllByRecursion (Sees b.stem role) b.arms
sees_each b role law is other free =
    let none : blind_in b role ≡ None = none_mapped (λ arm. (role, arm)) (blind_in b role) (none_first (λ r. option_map (λ arm. (r, arm)) (blind_in b r)) (roles_in b) role law.seeing is) in
    let told = map (told_by b.stem role) b.arms in
    let Told : Option ℕ → Type 0 = λ o. (i : ℕ) × (o ≡ Some i) in
    let all = none_after (λ before x. refuse_if (not (tells before x)) (length before + 1)) [] told Told (λ before x h. tells_each before x h)
    (unseen_none told (bytes_eq role b.chooser) (list_any (is_free b.stem role) b.arms) other free none) in
    each_as (λ arm. Told (told_by b.stem role arm)) (Sees b.stem role) b.arms (λ arm h. sees_by b.stem role arm h) (mapped_each (told_by b.stem role) Told b.arms all)

-- an arm has the formats, the suite and the names of the first, and the role the same stem
pub record HasStem (stem : ℕ) (role : List ℕ) (one arm : ProtocolValue) : Type 0 where
  pub formats : arm.formats ≡ one.formats
  pub suite : arm.suite ≡ one.suite
  pub atoms : arm.atoms ≡ one.atoms
  pub part : stem_part stem (plan_named arm role) ≡ stem_part stem (plan_named one role)

have_stem : (stem : ℕ) (role : List ℕ) (one : ProtocolValue) (others : List ProtocolValue) → among one.roles role ≡ true → AllByRecursion (IsLike stem one) others → AllByRecursion (HasStem stem role one) others
have_stem stem role one [] is all = tt
have_stem stem role one (p ∷ others) is (like, all) = (
  record { formats = like.formats; suite = like.suite; atoms = like.atoms; part = of_among (λ r. stem_part stem (plan_named p r) ≡ stem_part stem (plan_named one r)) one.roles role is like.plans },
  have_stem stem role one others is all,
)

-- ---- plays

module _ (stem : ℕ) (role : List ℕ) where
  pub split_plan : (arm : ProtocolValue) (sees : Sees stem role arm)
      → events_of arm (role_number arm.roles role) ≡ map event_of (stem_part stem (plan_named arm role)) ++ (recv sees.message ∷ map event_of sees.after)
  split_plan arm sees =
      let plan = plan_named arm role in
      ap (map event_of) (sym (take-append-drop (stem_len stem plan) plan) ∙ ap (λ l. stem_part stem plan ++ l) sees.is)
      ∙ map-append event_of (stem_part stem plan) (to_receive sees.action sees.message ∷ sees.after)

  known_after : (arm : ProtocolValue) (sees : Sees stem role arm) → known (map event_of sees.after) ≡ []
  known_after arm sees =
      let (ts, rest, is, none) = knows_first arm (role_number arm.roles role) in
      tail_known ts rest (map event_of (stem_part stem (plan_named arm role))) (map event_of sees.after) sees.message (sym is ∙ split_plan arm sees) none

  -- what is known is what the stem knows
  pub known_stem : (arm : ProtocolValue) → Sees stem role arm → known (events_of arm (role_number arm.roles role)) ≡ known (map event_of (stem_part stem (plan_named arm role)))
  known_stem arm sees =
      ap known (split_plan arm sees) ∙ known_part (map event_of (stem_part stem (plan_named arm role))) (map event_of sees.after) sees.message (known_after arm sees)

  module _ (init : List (List ℕ)) (seed : List ℕ) (session : ℕ) (arrivals : List (List ℕ)) (played : Played (List ℕ)) where
    abbrev AtStem : List FormatValue → Suite → List PlanEvent → List Event → Type 0
    AtStem formats suite S tail =
        Judge (byte_meaning formats suite) (known (map event_of S)) init 0 arrivals played
        (Walk (byte_meaning formats suite) (draw_of seed session) (map event_of S ++ tail) (known (map event_of S)) init 0 0 arrivals played)

    to_stem : (arm : ProtocolValue) (sees : Sees stem role arm) → IsPlay arm (role_number arm.roles role) init seed session arrivals played
        → AtStem arm.formats arm.suite (stem_part stem (plan_named arm role)) (recv sees.message ∷ map event_of sees.after)
    to_stem arm sees h =
        let S = stem_part stem (plan_named arm role) in
        let tail = recv sees.message ∷ map event_of sees.after in
        let P : List Event → Type 0 = λ plan. Play (meaning_of arm) (draw_of seed session) plan init arrivals played in
        let Q : List Tree → Type 0 = λ k. Judge (meaning_of arm) k init 0 arrivals played (Walk (meaning_of arm) (draw_of seed session) (map event_of S ++ tail) k init 0 0 arrivals played) in
        subst Q (sym (ap known (split_plan arm sees)) ∙ known_stem arm sees) (subst P (split_plan arm sees) h)

    from_stem : (arm : ProtocolValue) (sees : Sees stem role arm) → AtStem arm.formats arm.suite (stem_part stem (plan_named arm role)) (recv sees.message ∷ map event_of sees.after)
        → IsPlay arm (role_number arm.roles role) init seed session arrivals played
    from_stem arm sees h =
        let S = stem_part stem (plan_named arm role) in
        let tail = recv sees.message ∷ map event_of sees.after in
        let P : List Event → Type 0 = λ plan. Play (meaning_of arm) (draw_of seed session) plan init arrivals played in
        let Q : List Tree → Type 0 = λ k. Judge (meaning_of arm) k init 0 arrivals played (Walk (meaning_of arm) (draw_of seed session) (map event_of S ++ tail) k init 0 0 arrivals played) in
        subst P (sym (split_plan arm sees)) (subst Q (sym (known_stem arm sees) ∙ ap known (split_plan arm sees)) h)

    -- both arms have the stem of the same first one
    pub same_plays : (one p q : ProtocolValue) → HasStem stem role one p → HasStem stem role one q → Sees stem role p → Sees stem role q
        → length arrivals ≤ receives_in stem role one → IsPlay p (role_number p.roles role) init seed session arrivals played → IsPlay q (role_number q.roles role) init seed session arrivals played
    same_plays one p q hp hq sp sq few h =
        let S = stem_part stem (plan_named one role) in
        let mine = recv sp.message ∷ map event_of sp.after in
        let other = recv sq.message ∷ map event_of sq.after in
        let A : List FormatValue → Type 0 = λ f. AtStem f p.suite (stem_part stem (plan_named p role)) mine in
        let B : Suite → Type 0 = λ s. AtStem one.formats s (stem_part stem (plan_named p role)) mine in
        let C : List PlanEvent → Type 0 = λ l. AtStem one.formats one.suite l mine in
        let at : AtStem one.formats one.suite S mine = subst C hp.part (subst B hp.suite (subst A hp.formats (to_stem p sp h))) in
        let go : AtStem one.formats one.suite S other = elim at [
          | inl w ↦ inl (w.0, walk_alike (byte_meaning one.formats one.suite) (draw_of seed session) sp.message sq.message (map event_of sp.after) (map event_of sq.after) S (known (map event_of S)) init 0 0 arrivals played few w.1)
          | inr w ↦ inr w
        ] in
        let D : List FormatValue → Type 0 = λ f. AtStem f q.suite (stem_part stem (plan_named q role)) other in
        let E : Suite → Type 0 = λ s. AtStem one.formats s (stem_part stem (plan_named q role)) other in
        let F : List PlanEvent → Type 0 = λ l. AtStem one.formats one.suite l other in
        from_stem q sq (subst D (sym hq.formats) (subst E (sym hq.suite) (subst F (sym hq.part) go)))

-- ---- any two arms

-- the first arm, whose stem all have
pub record First (b : BranchedValue) (role : List ℕ) : Type 0 where
  pub one : ProtocolValue
  pub at : slice_get b.arms 0 ≡ Some one
  pub stems : AllByRecursion (HasStem b.stem role one) b.arms

pub first_arm : (b : BranchedValue) (role : List ℕ) → IsLawful b → among (roles_in b) role ≡ true → First b role
first_arm b role law is =
    let (one, at, stems) = go b.arms law.few law.alike is in record { one = one; at = at; stems = stems }
  where
    go : (arms : List ProtocolValue) → 2 ≤ length arms → AreAlike b.stem arms → among (option_map_or (λ (p : ProtocolValue). p.roles) (slice_get arms 0) []) role ≡ true
        → (one : ProtocolValue) × (slice_get arms 0 ≡ Some one) × AllByRecursion (HasStem b.stem role one) arms
    go [] few alike at = absurd (omega (arith, few))
    go (one ∷ others) few alike at = (one, refl, (record { formats = refl; suite = refl; atoms = refl; part = refl }, have_stem b.stem role one others at alike))

pub arms_alike : ArmsPlayAlike
arms_alike b role law must i j p q at_p at_q init seed session arrivals few played plays =
    let f = first_arm b role law must.is_role in
    let sees = sees_each b role law must.is_role must.other must.free in
    let short : length arrivals ≤ receives_in b.stem role f.one = omega (arith, few, ap (λ o. option_map_or (receives_in b.stem role) o 0) f.at) in
    same_plays b.stem role init seed session arrivals played f.one p q (each_got (HasStem b.stem role f.one) b.arms i p f.stems at_p) (each_got (HasStem b.stem role f.one) b.arms j q f.stems at_q)
    (each_got (Sees b.stem role) b.arms i p sees at_p) (each_got (Sees b.stem role) b.arms j q sees at_q) short plays
