-- Over the values of a case: the code stops at the opening, and who takes the narrated parts goes on.
use Rattle.std.proofs.Common.{◌≡◌, ℕ, ◌+◌, ◌-◌, List, [], ◌∷◌, ◌++◌, length, map, take, drop, Bool, Some, None, sym, ap, ◌∙◌, subst, arith, length-append}
use Rattle.std.specs.Prelude.{slice_get}
use Rattle.std.specs.Option.{option_and_then}
use Rattle.std.proofs.lemmas.List.{length-map, length-take-le}
use Rattle.anb_lemmas.proofs.Lists.{got_within}
use Rattle.anb_term.specs.declared.term.Op.{Op}
use Rattle.anb_term.specs.Operator.{arity, keys}
use Rattle.anb_term.specs.Tree.{Tree, leaf, node, trees_of, AreFormed, IsFormed}
use Rattle.anb_term.specs.TreeSame.{list_of-trees_of}
use Rattle.anb_term.specs.Value.{Meaning}
use Rattle.anb_term.specs.Lawful.{Lawful, picked}
use Rattle.anb_term.specs.FreeAlgebra.{terms}
use Rattle.anb_term.proofs.Lists.{map-append, slice_get-map}
use Rattle.anb_plays.specs.Plans.{Event, know, fresh, send, recv, known}
use Rattle.anb_plays.specs.Plays.{Played, stopped}
use Rattle.anb_plays.specs.Codes.{Act, works, undo}
use Rattle.anb_plays.specs.Exec.{exec, worked, IsVerified, HasTakes}
use Rattle.anb_plays.specs.Honest.{honest, made, LabelsAreFormed}
use Rattle.anb_plays.specs.Statements.{ExecIsRun, HonestAgree}
use Rattle.anb_plays.proofs.Exec.{takes_ready}
use Rattle.anb_probe.specs.Laws.{run_over}
use Rattle.anb_openings.specs.Steps.{Progress, begun, writing, after_all}
use Rattle.anb_openings.specs.Openings.{OpeningValue}
use Rattle.anb_openings.specs.Laws.{IsPlayed, ShutStops, GoesOn, TakenGoesOn}
use Rattle.anb_openings.proofs.Picking.{picked_mapped}
use Rattle.anb_openings.proofs.Readying.{ready_before, ready_behind, ready_on}
use Rattle.anb_openings.proofs.Stepping.{parted, stops_behind}
use Rattle.anb_openings.proofs.Valued.{all_went, formed_both, formed_parts, mapped_back, seen, AllWent}

known_formed : (has : Op → Bool) (plan : List Event) → LabelsAreFormed has plan → AreFormed has (trees_of (known plan))
known_formed has [] f = tt
known_formed has (know t ∷ es) f = (f.0, known_formed has es f.1)
known_formed has (fresh t ∷ es) f = known_formed has es f.1
known_formed has (send t ∷ es) f = known_formed has es f
known_formed has (recv t ∷ es) f = known_formed has es f.1

made_formed : (has : Op → Bool) (plan : List Event) → LabelsAreFormed has plan → AreFormed has (trees_of (made plan))
made_formed has [] f = tt
made_formed has (know t ∷ es) f = made_formed has es f.1
made_formed has (fresh t ∷ es) f = (f.0, made_formed has es f.1)
made_formed has (send t ∷ es) f = made_formed has es f
made_formed has (recv t ∷ es) f = made_formed has es f.1

module _ {A : Type 0} (m : Meaning A) (lawful : Lawful m) (agrees : HonestAgree m) (names : ℕ) (plan : List Event) (code : List Act) (instruction : ℕ) (o : Op) (ks : List ℕ) (r : ℕ) (case : OpeningValue) (atoms draw : ℕ → A)
    (played : IsPlayed m names plan code instruction o ks r case atoms draw) where
  abbrev of : Tree → A
  of t = honest m atoms t

  abbrev at : ℕ
  at = played.opening.at

  abbrev before : Progress Tree
  before = played.is.before

  abbrev start : Progress Tree
  start = begun (known plan) case.arrivals

  abbrev front : List Act
  front = take at code

  abbrev as_seen : Progress Tree → Progress A
  as_seen s = seen m lawful agrees atoms played.values.values s

  abbrev Went : Progress Tree → Progress Tree → List Act → Type 0
  Went s t acts = AllWent m lawful agrees atoms played.values.values (made plan) (made_formed m.has plan played.formed) s t acts

  place : instruction - 1 ≡ at
  place = omega (arith, played.opening.counts)

  verified : IsVerified m.has code (length (known plan))
  verified = takes_ready m.has code 0 (length (known plan)) played.takes

  comes : after_all terms (made plan) front start ≡ Some before
  comes = subst (λ k. after_all terms (made plan) (take k code) start ≡ Some before) place played.is.comes

  came : Went start before front
  came =
      all_went m lawful agrees atoms played.values.values (made plan) (made_formed m.has plan played.formed) front start before (known_formed m.has plan played.formed) played.is.formed.1
      (ready_before m.has code at (length (known plan)) verified) comes

  -- ---- it stops

  keys_of : picked (map of before.table) ks ≡ map of played.is.keyed
  keys_of = picked_mapped of before.table ks ∙ ap (map of) played.is.keys_are

  pub stops : ExecIsRun m → m.undone o (map of played.is.keyed) (atoms names) ≡ None → (run_over m atoms draw plan code case.arrivals).end ≡ stopped case.event instruction
  stops runs none =
      let w = undo o ks r in
      let back = drop (at + 1) code in
      let whole : code ≡ front ++ works w ∷ back = parted code at (works w) played.opening.here in
      let finds : slice_get (map of before.table) r ≡ Some (atoms names) = slice_get-map of before.table r (leaf names) played.is.finds in
      let shut : worked m (map of before.table) w ≡ None =
      ap (option_and_then (m.undone o (picked (map of before.table) ks))) finds ∙ ap (λ l. m.undone o l (atoms names)) keys_of ∙ none in
      let drawn : (i : ℕ) (x : A) → slice_get (map of (made plan)) i ≡ Some x → draw i ≡ x = λ i x e. (let b = mapped_back of (made plan) i x e in played.values.drawn i b.0 b.1 ∙ b.2) in
      let init = map of (known plan) in
      let heard = map of case.arrivals in
      let long : length init ≡ length (known plan) = length-map (known plan) of in
      let run = runs draw code init heard (subst (HasTakes m.has code 0) (sym long) played.takes) in
      let ends = stops_behind m (map of (made plan)) draw drawn front back w init heard (as_seen before) came.valued shut in
      let count : length front ≡ at = length-take-le at code (omega (arith, got_within code at (works w) played.opening.here)) in
      let here : length front + 1 ≡ instruction = omega (arith, played.opening.counts, count) in
      sym (ap (λ (q : Played A). q.end) run) ∙ ap (λ l. (exec m draw l init 0 0 0 heard).end) whole ∙ ends ∙ ap (λ k. stopped before.event k) here ∙ ap (λ k. stopped k instruction) played.is.event

  -- ---- it goes on

  -- the opened term is formed, and so are its parts, which are as many as the opening writes
  opened_formed : IsFormed m.has (node o (trees_of (played.is.keyed ++ played.is.parts)))
  opened_formed = subst (IsFormed m.has) played.is.opens played.is.formed.0

  parts_formed : AreFormed m.has (trees_of played.is.parts)
  parts_formed = let f = opened_formed in (formed_parts m.has played.is.keyed played.is.parts f.2).1

  many : length played.is.parts ≡ arity o - keys o
  many =
      let f = opened_formed in
      let all : length (played.is.keyed ++ played.is.parts) ≡ arity o = sym (ap length (list_of-trees_of (played.is.keyed ++ played.is.parts))) ∙ f.1 in
      omega (arith, all, length-append played.is.keyed played.is.parts, played.is.count)

  abbrev with_parts : Progress Tree
  with_parts = writing played.is.parts before

  ready : IsVerified m.has (drop instruction code) (length with_parts.table)
  ready =
      let behind : IsVerified m.has (drop at code) (length before.table) = subst (IsVerified m.has (drop at code)) (sym came.long) (ready_behind m.has code at (length (known plan)) verified) in
      let on = ready_on m.has code at (length before.table) (length played.is.parts) o ks r played.opening.here many behind in
      subst (λ n. IsVerified m.has (drop instruction code) n) (sym (length-append before.table played.is.parts)) (subst (λ k. IsVerified m.has (drop k code) (length before.table + length played.is.parts)) (sym played.opening.counts) on)

  went_on : Went with_parts played.is.behind (drop instruction code)
  went_on =
      all_went m lawful agrees atoms played.values.values (made plan) (made_formed m.has plan played.formed) (drop instruction code) with_parts played.is.behind
      (formed_both m.has before.table played.is.parts came.table parts_formed) came.left ready played.is.goes_on

  pub goes_on : GoesOn m (map of (made plan)) (map of (known plan)) atoms played.is.parts code instruction case
  goes_on =
      let made_of = map of (made plan) in
      let ws = map of played.is.parts in
      let writes : writing ws (as_seen before) ≡ as_seen with_parts = ap (λ l. (let p : Progress A = record (as_seen before) { table = l } in p)) (sym (map-append of before.table played.is.parts)) in
      let first : after_all m made_of (take (instruction - 1) code) (as_seen start) ≡ Some (as_seen before) = subst (λ k. after_all m made_of (take k code) (as_seen start) ≡ Some (as_seen before)) (sym place) came.valued in
      record {
        end = as_seen played.is.behind;
        goes = ap (option_and_then (λ t. after_all m made_of (drop instruction code) (writing ws t))) first ∙ ap (after_all m made_of (drop instruction code)) writes ∙ went_on.valued;
        used = ap (map of) played.is.used;
        messages = ap (map of) played.is.messages;
      }

pub shut_stops : {A : Type 0} (m : Meaning A) → Lawful m → ExecIsRun m → HonestAgree m → ShutStops m
shut_stops m lawful runs agrees names plan code instruction o ks r case atoms draw played none = stops m lawful agrees names plan code instruction o ks r case atoms draw played runs none

pub taken_goes_on : {A : Type 0} (m : Meaning A) → Lawful m → HonestAgree m → TakenGoesOn m
taken_goes_on m lawful agrees names plan code instruction o ks r case atoms draw played = goes_on m lawful agrees names plan code instruction o ks r case atoms draw played
