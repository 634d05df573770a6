-- Going on behind the choice.
use Rattle.std.proofs.Common.{◌≡◌, ℕ, zero, suc, ◌≤◌, List, [], ◌∷◌, ◌++◌, length, drop, true, Some, None, refl, sym, ap, ◌∙◌, subst, arith}
use Rattle.std.specs.Prelude.{slice_get, if◌then◌else◌}
use Rattle.std.specs.Option.{option_map_or}
use Rattle.std.specs.List.{list_any}
use Rattle.std.proofs.lemmas.List.{append-nil}
use Rattle.anb_base.specs.Wires.{WireState}
use Rattle.anb_plays.specs.Plays.{Played, waiting, done, ends, Run}
use Rattle.anb_plays.specs.Runs.{without_place}
use Rattle.anb_plays.proofs.Runs.{waiting_placeless}
use Rattle.anb_code.specs.CodeValue.{CodeValue}
use Rattle.anb_machine.specs.ByteRuns.{run_bytes}
use Rattle.anb_machine.specs.Machines.{MachineValue, gives}
use Rattle.anb_session.specs.declared.PlayEnd.{PlayEnd}
use Rattle.anb_choice.specs.Lawful.{BranchedValue, is_free}
use Rattle.anb_session.specs.Turns.{Closes}
use Rattle.anb_session.proofs.Turning.{closes_behind}
use Rattle.anb_branch.specs.Taken.{place_begun, stem_receives, run_at, run_taken}
use Rattle.anb_branch.specs.Stems.{said, StandsBehind, AgreeUpTo, behind, Chooses, EndsBefore, RunsTo, WaitsAt}
use Rattle.anb_branch.specs.Choices.{goes_behind}
use Rattle.anb_branch.proofs.Behind.{behind_taken, over_now}
use Rattle.anb_branch.proofs.Turns.{closes_as}

pub slice_get_seam : {X : Type 0} (xs ys : List X) (x : X) (n : ℕ) → length xs ≡ n → slice_get (xs ++ (x ∷ ys)) n ≡ Some x
slice_get_seam [] ys x zero e = refl
slice_get_seam [] ys x (suc n) e = cc
slice_get_seam (y ∷ xs) ys x zero e = cc
slice_get_seam (y ∷ xs) ys x (suc n) e = slice_get_seam xs ys x n (omega (arith, e))

-- ---- a code that goes on behind what came before

pub waits_so : (F G : Run) (past : List (List ℕ)) → ((more : List (List ℕ)) → G more ≡ F more) → WaitsAt F past → WaitsAt G past
waits_so F G past same w = record {
  event = w.event;
  end = ap (λ (p : Played (List ℕ)). p.end) (same past) ∙ w.end;
  used = ap (λ (p : Played (List ℕ)). p.left) (same past) ∙ w.used;
}

pub closes_again : (F : Run) (past : List (List ℕ)) (b : List ℕ) (old new : MachineValue) (s t : WireState) (end : PlayEnd) → ((more : List (List ℕ)) → gives old more ≡ F more) → RunsTo old past new
    → Closes (λ more. without_place (gives new (b ∷ more))) s t end → Closes (goes_behind F past b) s t end
closes_again F past b old new s t end same to closes =
    let stands : StandsBehind F past to.sent new = record { comes = λ more. sym (same (past ++ more)) ∙ to.stands.comes more } in
    let now : F past ≡ said to.sent (gives new []) = ap F (sym (append-nil past)) ∙ stands.comes [] in
    let sent : (F past).sent ≡ to.sent = ap (λ (p : Played (List ℕ)). p.sent) (now ∙ ap (said to.sent) to.next) ∙ append-nil to.sent in
    let R : Run = λ xs. without_place (F xs) in
    closes_as (λ more. without_place (gives new (b ∷ more))) (goes_behind F past b) s t end
    (λ more. sym (ap (λ (l : List (List ℕ)). behind R past (length l) (b ∷ more)) sent ∙ behind_taken R F past to.sent b new (λ xs. refl) stands more)) closes

-- ---- the arm that an arrival tells

module _ (b : BranchedValue) (role : List ℕ) (init : List (List ℕ)) (seed : List ℕ) (codes : List CodeValue) (free : list_any (is_free b.stem role) b.arms ≡ true) where
  abbrev R : Run
  R = run_taken b role None init seed codes

  by_place : (arrivals : List (List ℕ)) (place : ℕ) (code : CodeValue) → option_map_or (place_begun b role) (slice_get arrivals (stem_receives b role)) 0 ≡ place → slice_get codes place ≡ Some code
      → R arrivals ≡ without_place (run_bytes code init seed 0 arrivals)
  by_place arrivals place code is at =
      ap (λ f. without_place (run_at codes (if f then option_map_or (place_begun b role) (slice_get arrivals (stem_receives b role)) 0 else 0) init seed arrivals)) free
      ∙ ap (λ k. without_place (run_at codes k init seed arrivals)) is
      ∙ ap (λ o. without_place (option_map_or (λ code. run_bytes code init seed 0 arrivals) o (ends done arrivals))) at

  pub taken_behind : (past : List (List ℕ)) (x : List ℕ) (place : ℕ) (code : CodeValue) → length past ≡ stem_receives b role → place ≡ place_begun b role x → slice_get codes place ≡ Some code
      → (more : List (List ℕ)) → R (past ++ (x ∷ more)) ≡ without_place (run_bytes code init seed 0 (past ++ (x ∷ more)))
  taken_behind past x place code all is at more =
      by_place (past ++ (x ∷ more)) place code
      (ap (λ o. option_map_or (place_begun b role) o 0) (slice_get_seam past more x (stem_receives b role) all) ∙ sym is) at

  pub ends_there : (n : ℕ) (code : CodeValue) (old new : MachineValue) (s t : WireState) (end : PlayEnd) → n ≡ stem_receives b role → AgreeUpTo (stem_receives b role) R (run_bytes code init seed 0)
      → ((more : List (List ℕ)) → gives old more ≡ run_bytes code init seed 0 more) → EndsBefore n old new s t end → Closes R s t end
  ends_there n code old new s t end is agree run before =
      let P : ℕ → Type 0 = λ k. AgreeUpTo k R (run_bytes code init seed 0) in
      before R (run_bytes code init seed 0) (subst P (sym is) agree) (λ more. sym (run more))

  module _ (n : ℕ) (code : CodeValue) (old new : MachineValue) (s t u : WireState) (past : List (List ℕ)) (x : List ℕ) (is : n ≡ stem_receives b role)
      (agree : AgreeUpTo (stem_receives b role) R (run_bytes code init seed 0)) (run : (more : List (List ℕ)) → gives old more ≡ run_bytes code init seed 0 more) (chooses : Chooses n old new s t past x) where
    abbrev G : Run
    G = run_bytes code init seed 0

    agree_n : AgreeUpTo n R G
    agree_n = (let P : ℕ → Type 0 = λ k. AgreeUpTo k R G in subst P (sym is) agree)

    pub goes_on_here : (end : PlayEnd) → 0 ≡ place_begun b role x → slice_get codes 0 ≡ Some code
        → Closes (λ more. without_place (gives new (x ∷ more))) t u end → Closes R s u end
    goes_on_here end place at closes =
        let (sent, stands, waits, passes) = chooses.each R G agree_n (λ more. sym (run more)) in
        let R' : Run = λ more. without_place (gives new (x ∷ more)) in
        closes_behind R R' s t u end (passes R' (behind_taken R G past sent x new (taken_behind past x 0 code (omega (arith, chooses.all, is)) place at) stands)) closes

    pub waits_there : (place : ℕ) (other : CodeValue) → AgreeUpTo (stem_receives b role) R (run_bytes other init seed 0) → WaitsAt (run_bytes other init seed 0) past
    waits_there place other agrees =
        let (sent, stands, (event, next), passes) = chooses.each R G agree_n (λ more. sym (run more)) in
        let F : Run = run_bytes other init seed 0 in
        let few : length past ≤ stem_receives b role = omega (arith, chooses.all, is) in
        let here : R past ≡ record { sent = sent; end = waiting event; left = [] } = over_now R G past sent new (waiting event) (agree past few chooses.past_bytes) stands next in
        let there : R past ≡ without_place (F past) = (agrees past few chooses.past_bytes).same in
        let both : without_place (F past) ≡ record { sent = sent; end = waiting event; left = [] } = sym there ∙ here in
        record {
          event = event;
          end = waiting_placeless (F past).end event (ap (λ (p : Played (List ℕ)). p.end) both);
          used = ap (λ (p : Played (List ℕ)). p.left) both;
        }

    pub goes_on_there : (end : PlayEnd) (place : ℕ) (other : CodeValue) → place ≡ place_begun b role x → slice_get codes place ≡ Some other → AgreeUpTo (stem_receives b role) R (run_bytes other init seed 0)
        → Closes (goes_behind (run_bytes other init seed 0) past x) t u end → Closes R s u end
    goes_on_there end place other begun at agrees closes =
        let (sent, stands, (event, next), passes) = chooses.each R G agree_n (λ more. sym (run more)) in
        let F : Run = run_bytes other init seed 0 in
        let few : length past ≤ stem_receives b role = omega (arith, chooses.all, is) in
        let here : R past ≡ record { sent = sent; end = waiting event; left = [] } = over_now R G past sent new (waiting event) (agree past few chooses.past_bytes) stands next in
        let there : R past ≡ without_place (F past) = (agrees past few chooses.past_bytes).same in
        let same : sent ≡ (F past).sent = ap (λ (p : Played (List ℕ)). p.sent) (sym here ∙ there) in
        let R' : Run = goes_behind F past x in
        let taken = taken_behind past x place other (omega (arith, chooses.all, is)) begun at in
        let comes : (more : List (List ℕ)) → behind R past (length sent) (x ∷ more) ≡ R' more =
        λ more. ap (λ (p : Played (List ℕ)). record p { sent = drop (length sent) p.sent }) (taken more)
        ∙ ap (λ (l : List (List ℕ)). behind (λ xs. without_place (F xs)) past (length l) (x ∷ more)) same in
        closes_behind R R' s t u end (passes R' comes) closes
