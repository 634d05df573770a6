-- With the spare name in place of what is opened, the code has the narrated keys at the opening, and stops there.
use Rattle.std.proofs.Common.{◌≡◌, ◌<◌, ◌≤◌, ℕ, ◌+◌, ◌-◌, List, [], ◌∷◌, ◌++◌, length, map, take, drop, Bool, true, Some, refl, sym, ap, ◌∙◌, subst, arith}
use Rattle.std.specs.Prelude.{slice_get, unwrap_or}
use Rattle.std.specs.List.{AllByRecursion}
use Rattle.std.proofs.lemmas.List.{length-take-le}
use Rattle.anb_lemmas.proofs.Lists.{got_within}
use Rattle.anb_term.specs.declared.term.Op.{Op}
use Rattle.anb_term.specs.Lawful.{picked}
use Rattle.anb_term.specs.Tree.{Tree, leaf, node, trees_of, tree_size, trees_size, AreFormed}
use Rattle.anb_term.specs.FreeAlgebra.{terms, terms_over}
use Rattle.anb_term.specs.FreeLawful.{free_lawful}
use Rattle.anb_algebra.specs.ByteMeaning.{has_operator}
use Rattle.anb_plays.specs.Plans.{Event, known}
use Rattle.anb_plays.specs.Plays.{Played, stopped}
use Rattle.anb_plays.specs.Codes.{Act, works, undo}
use Rattle.anb_plays.specs.Exec.{exec, HasTakes}
use Rattle.anb_plays.specs.Honest.{honest, heard, made}
use Rattle.anb_plays.proofs.Exec.{exec_is_run, takes_ready}
use Rattle.anb_plays.proofs.Honest.{honest_agree}
use Rattle.anb_code.specs.CodeValue.{CodeValue}
use Rattle.anb_code.specs.Meaning.{acts_of}
use Rattle.anb_protocol.specs.Plans.{plan_of, term_in}
use Rattle.anb_protocol.specs.Plays.{events_of}
use Rattle.anb_protocol.specs.Protocols.{ProtocolValue}
use Rattle.anb_protocol.specs.Texts.{IsTermOf}
use Rattle.anb_protocol.proofs.KnowLemmas.{formed_list}
use Rattle.anb_compile.specs.Fitting.{FitsRole}
use Rattle.anb_explain.specs.Explained.{register_terms}
use Rattle.anb_probe.specs.Cases.{drawn, for_spare, run_in_terms}
use Rattle.anb_openings.specs.Steps.{Progress, begun, after_all}
use Rattle.anb_openings.specs.Openings.{spared, IsOpening}
use Rattle.anb_openings.proofs.Opened.{Undone, undone}
use Rattle.anb_openings.proofs.Picking.{picked_mapped}
use Rattle.anb_openings.proofs.Readying.{ready_before}
use Rattle.anb_openings.proofs.Spared.{all_formed_any, each_again, each_formed, each_kept, heard_terms, known_terms, made_terms, smaller_each}
use Rattle.anb_openings.proofs.Stepping.{all_same, name_is_shut, parted, stops_behind}
use Rattle.anb_openings.proofs.Valued.{all_went, seen}

size_front : (xs ys : List Tree) → trees_size (trees_of xs) ≤ trees_size (trees_of (xs ++ ys))
size_front [] ys = omega arith
size_front (x ∷ xs) ys = omega (arith, size_front xs ys)

module _ (p : ProtocolValue) (role : ℕ) (code : CodeValue) (instruction : ℕ) (o : Op) (ks : List ℕ) (r : ℕ) (opening : IsOpening (acts_of code) instruction o ks r) (fits : FitsRole p role code)
    (taking : HasTakes (has_operator p.formats) (acts_of code) 0 (length (known (events_of p role)))) (any : HasTakes (λ o. true) (acts_of code) 0 (length (known (events_of p role)))) (of_plan : AllByRecursion (λ e. IsTermOf p (term_in e)) (plan_of p role))
    (registers : List Tree) (explained : register_terms p role code ≡ Some registers) where
  abbrev has : Op → Bool
  has = has_operator p.formats

  abbrev names : ℕ
  names = length p.atoms

  abbrev plan : List Event
  plan = events_of p role

  abbrev acts : List Act
  acts = acts_of code

  abbrev at : ℕ
  at = opening.at

  pub told : Undone p role code opening.at o ks r registers
  told = undone p role code instruction o ks r registers opening fits taking explained

  place : instruction - 1 ≡ opening.at
  place = omega (arith, opening.counts)

  heard_ours : AllByRecursion (IsTermOf p) (heard plan)
  heard_ours = heard_terms p (plan_of p role) of_plan

  module _ (opened : Tree) (here : slice_get registers r ≡ Some opened) where
    abbrev back : Tree → Tree
    back t = honest terms (for_spare names opened) t

    abbrev came : List Tree
    came = map (spared names opened) (heard plan)

    pub opened_is : opened ≡ node o (trees_of (picked told.before.table ks ++ told.parts))
    opened_is = let q = sym here ∙ told.there in let same : opened ≡ told.opened = cc in same ∙ told.opens

    pub came_formed : AreFormed has (trees_of came)
    came_formed = each_formed names opened p refl (heard plan) heard_ours

    pub narrated : map back came ≡ heard plan
    narrated = each_again names opened p refl (heard plan) heard_ours

    module _ (before : Progress Tree) (comes : after_all terms (made plan) (take (instruction - 1) acts) (begun (known plan) came) ≡ Some before) where
      abbrev front : List Act
      front = take at acts

      abbrev start : Progress Tree
      start = begun (known plan) came

      pub there : after_all terms (made plan) front start ≡ Some before
      there = subst (λ k. after_all terms (made plan) (take k acts) start ≡ Some before) place comes

      abbrev as_seen : Progress Tree → Progress Tree
      as_seen s = seen terms (free_lawful (λ o. true)) (honest_agree terms (free_lawful (λ o. true))) (for_spare names opened) (λ n. refl) s

      -- where the opened term is put back, it is the narrated run
      is_narrated : as_seen before ≡ told.before
      is_narrated =
          let any_formed = λ (ts : List Tree) (h : AllByRecursion (IsTermOf p) ts). all_formed_any has (trees_of ts) (formed_list p ts h) in
          let known_ours = known_terms p (plan_of p role) of_plan in
          let made_ours = made_terms p (plan_of p role) of_plan in
          let ready = ready_before (λ o. true) acts at (length (known plan)) (takes_ready (λ o. true) acts 0 (length (known plan)) any) in
          let w = all_went terms (free_lawful (λ o. true)) (honest_agree terms (free_lawful (λ o. true))) (for_spare names opened) (λ n. refl) (made plan) (any_formed (made plan) made_ours) front start before
          (any_formed (known plan) known_ours) (all_formed_any has (trees_of came) came_formed) ready there in
          let drawn_back = subst (λ l. after_all terms l front (begun (map back (known plan)) (map back came)) ≡ Some (as_seen before)) (each_kept names opened p refl (made plan) made_ours) w.valued in
          let known_back = subst (λ l. after_all terms (made plan) front (begun l (map back came)) ≡ Some (as_seen before)) (each_kept names opened p refl (known plan) known_ours) drawn_back in
          let all_back = subst (λ l. after_all terms (made plan) front (begun (known plan) l) ≡ Some (as_seen before)) narrated known_back in
          let both = sym all_back ∙ told.comes in
          cc

      pub keys_are : picked before.table ks ≡ picked told.before.table ks
      keys_are =
          let table : map back before.table ≡ told.before.table = ap (λ (s : Progress Tree). s.table) is_narrated in
          let keyed : picked told.before.table ks ≡ map back (picked before.table ks) = ap (λ l. picked l ks) (sym table) ∙ picked_mapped back before.table ks in
          let whole : tree_size opened ≡ tree_size (node o (trees_of (picked told.before.table ks ++ told.parts))) = ap tree_size opened_is in
          let smaller : trees_size (trees_of (map back (picked before.table ks))) < tree_size opened =
          subst (λ l. trees_size (trees_of l) < tree_size opened) keyed (omega (arith, whole, size_front (picked told.before.table ks) told.parts)) in
          sym (smaller_each names opened (picked before.table ks) smaller) ∙ sym keyed

      -- the run stops at the opening
      pub stops : slice_get before.table r ≡ Some (leaf names) → (run_in_terms has plan acts came).end ≡ stopped before.event instruction
      stops finds =
          let back_acts = drop (at + 1) acts in
          let w = undo o ks r in
          let drawn_is : (i : ℕ) (x : Tree) → slice_get (made plan) i ≡ Some x → drawn plan i ≡ x = λ i x e. ap (λ t. unwrap_or t (leaf 0)) e in
          let run = exec_is_run (terms_over has) (free_lawful has) (drawn plan) acts (known plan) came taking in
          let ends = stops_behind (terms_over has) (made plan) (drawn plan) drawn_is front back_acts w (known plan) came before (all_same has (made plan) front start ∙ there) (name_is_shut has before.table o ks r names finds) in
          let count : length front ≡ at = length-take-le at acts (omega (arith, got_within acts at (works w) opening.here)) in
          let number : length front + 1 ≡ instruction = omega (arith, opening.counts, count) in
          sym (ap (λ (q : Played Tree). q.end) run) ∙ ap (λ l. (exec (terms_over has) (drawn plan) l (known plan) 0 0 0 came).end) (parted acts at (works w) opening.here) ∙ ends ∙ ap (stopped before.event) number
