-- What comes of a run behind some arrivals and messages.
use Rattle.std.proofs.Common.{◌≡◌, ℕ, List, [], ◌∷◌, ◌++◌, length, drop, sym, ap, ◌∙◌, subst, append_assoc, inl, inr}
use Rattle.std.proofs.Math.Seq.{drop-append_seam}
use Rattle.std.proofs.lemmas.List.{append-nil}
use Rattle.anb_plays.specs.Plays.{Played, End, waiting, ends, says, Run}
use Rattle.anb_plays.specs.Runs.{no_place, without_place}
use Rattle.anb_machine.specs.Machines.{MachineValue, gives}
use Rattle.anb_branch.specs.Stems.{said, StandsBehind, AgreesAt, behind}

-- ---- where a machine stands

pub stands_saying : (G : Run) (past sent : List (List ℕ)) (b : List ℕ) (v v' : MachineValue) → StandsBehind G past sent v
    → ((xs : List (List ℕ)) → gives v xs ≡ says b (gives v' xs)) → StandsBehind G past (sent ++ b ∷ []) v'
stands_saying G past sent b v v' st says_so = record {
  comes = λ more. st.comes more ∙ ap (said sent) (says_so more)
      ∙ ap (λ (l : List (List ℕ)). record (gives v' more) { sent = l }) (sym (append_assoc sent (b ∷ []) (gives v' more).sent));
}

pub stands_same : (G : Run) (past sent : List (List ℕ)) (v v' : MachineValue) → StandsBehind G past sent v
    → ((xs : List (List ℕ)) → gives v xs ≡ gives v' xs) → StandsBehind G past sent v'
stands_same G past sent v v' st same = record { comes = λ more. st.comes more ∙ ap (said sent) (same more) }

pub stands_hearing : (G : Run) (past sent : List (List ℕ)) (b : List ℕ) (v v' : MachineValue) → StandsBehind G past sent v
    → ((xs : List (List ℕ)) → gives v (b ∷ xs) ≡ gives v' xs) → StandsBehind G (past ++ b ∷ []) sent v'
stands_hearing G past sent b v v' st hears = record {
  comes = λ more. ap G (append_assoc past (b ∷ []) more) ∙ st.comes (b ∷ more) ∙ ap (said sent) (hears more);
}

-- what it gave so far
stands_now : (G : Run) (past sent : List (List ℕ)) (v : MachineValue) → StandsBehind G past sent v → G past ≡ said sent (gives v [])
stands_now G past sent v st = subst (λ l. G l ≡ said sent (gives v [])) (append-nil past) (st.comes [])

-- ---- what the run gives there

still_sent : (R G : Run) (past sent s : List (List ℕ)) (b : List ℕ) → AgreesAt R G past → (G past).sent ≡ sent ++ (b ∷ s) → (more : List (List ℕ))
    → (t : List (List ℕ)) × ((R (past ++ more)).sent ≡ sent ++ (b ∷ t))
still_sent R G past sent s b a is more =
    let first : (R past).sent ≡ sent ++ (b ∷ s) = ap (λ (p : Played (List ℕ)). p.sent) a.same ∙ is in
    elim (a.grows more) [
      | inl w ↦ (s ++ w.3, w.4 ∙ ap (λ l. l ++ w.3) first ∙ append_assoc sent (b ∷ s) w.3)
      | inr w ↦ (s, ap (λ (p : Played (List ℕ)). p.sent) w.1 ∙ first)
    ]

says_next : (q : Played (List ℕ)) (sent t : List (List ℕ)) (b : List ℕ) → q.sent ≡ sent ++ (b ∷ t)
    → record q { sent = drop (length sent) q.sent } ≡ says b (record q { sent = drop (length (sent ++ b ∷ [])) q.sent })
says_next q sent t b is =
    let one : drop (length sent) q.sent ≡ b ∷ t = ap (drop (length sent)) is ∙ drop-append_seam sent (b ∷ t) in
    let two : drop (length (sent ++ b ∷ [])) q.sent ≡ t =
    ap (drop (length (sent ++ b ∷ []))) (is ∙ sym (append_assoc sent (b ∷ []) t)) ∙ drop-append_seam (sent ++ b ∷ []) t in
    ap (λ (l : List (List ℕ)). record q { sent = l }) (one ∙ ap (λ l. b ∷ l) (sym two))

pub behind_saying : (R G : Run) (past sent : List (List ℕ)) (b : List ℕ) (v v' : MachineValue) → AgreesAt R G past → StandsBehind G past sent v
    → ((xs : List (List ℕ)) → gives v xs ≡ says b (gives v' xs))
    → (more : List (List ℕ)) → behind R past (length sent) more ≡ says b (behind R past (length (sent ++ b ∷ [])) more)
behind_saying R G past sent b v v' a st says_so more =
    let now : (G past).sent ≡ sent ++ (b ∷ (gives v' []).sent) =
    ap (λ (p : Played (List ℕ)). p.sent) (stands_now G past sent v st ∙ ap (said sent) (says_so [])) in
    let w = still_sent R G past sent (gives v' []).sent b a now more in
    says_next (R (past ++ more)) sent w.0 b w.1

pub over_now : (R G : Run) (past sent : List (List ℕ)) (v : MachineValue) (x : End) → AgreesAt R G past → StandsBehind G past sent v
    → gives v [] ≡ ends x [] → R past ≡ record { sent = sent; end = no_place x; left = [] }
over_now R G past sent v x a st is =
    a.same ∙ ap without_place (stands_now G past sent v st ∙ ap (said sent) is)
    ∙ ap (λ (l : List (List ℕ)). record { sent = l; end = no_place x; left = [] }) (append-nil sent)

pub behind_waiting : (R G : Run) (past sent : List (List ℕ)) (v : MachineValue) (event : ℕ) → AgreesAt R G past → StandsBehind G past sent v
    → gives v [] ≡ ends (waiting event) [] → behind R past (length sent) [] ≡ ends (waiting event) []
behind_waiting R G past sent v event a st is =
    ap (λ (p : Played (List ℕ)). record p { sent = drop (length sent) p.sent }) (ap R (append-nil past) ∙ over_now R G past sent v (waiting event) a st is)
    ∙ ap (λ (l : List (List ℕ)). record { sent = l; end = waiting event; left = [] })
    (ap (drop (length sent)) (sym (append-nil sent)) ∙ drop-append_seam sent [])

pub behind_over : (R G : Run) (past sent : List (List ℕ)) (v : MachineValue) (x : End) → ((event : ℕ) → no_place x ≡ waiting event → ⊥)
    → AgreesAt R G past → StandsBehind G past sent v → ((xs : List (List ℕ)) → gives v xs ≡ ends x xs)
    → (more : List (List ℕ)) → behind R past (length sent) more ≡ ends (no_place x) more
behind_over R G past sent v x other a st is more =
    let now = over_now R G past sent v x a st (is []) in
    elim (a.grows more) [
      | inl w ↦ absurd (other w.0 (sym (ap (λ (p : Played (List ℕ)). p.end) now) ∙ w.1))
      | inr w ↦
          ap (λ (p : Played (List ℕ)). record p { sent = drop (length sent) p.sent })
          (w.1 ∙ ap (λ (p : Played (List ℕ)). record p { left = p.left ++ more }) now)
          ∙ ap (λ (l : List (List ℕ)). record { sent = l; end = no_place x; left = more })
          (ap (drop (length sent)) (sym (append-nil sent)) ∙ drop-append_seam sent [])
    ]

pub behind_hearing : (R : Run) (past : List (List ℕ)) (k : ℕ) (b : List ℕ) (more : List (List ℕ))
    → behind R past k (b ∷ more) ≡ behind R (past ++ b ∷ []) k more
behind_hearing R past k b more =
    ap (λ l. record (R l) { sent = drop k (R l).sent }) (sym (append_assoc past (b ∷ []) more))

-- Where R is another run F over what follows this arrival, and a machine stands behind the same messages of F, it
-- gives the rest of R.
pub behind_taken : (R F : Run) (past sent : List (List ℕ)) (b : List ℕ) (v : MachineValue)
    → ((more : List (List ℕ)) → R (past ++ (b ∷ more)) ≡ without_place (F (past ++ (b ∷ more)))) → StandsBehind F past sent v
    → (more : List (List ℕ)) → behind R past (length sent) (b ∷ more) ≡ without_place (gives v (b ∷ more))
behind_taken R F past sent b v is st more =
    ap (λ (p : Played (List ℕ)). record p { sent = drop (length sent) p.sent }) (is more ∙ ap without_place (st.comes (b ∷ more)))
    ∙ ap (λ (l : List (List ℕ)). record (without_place (gives v (b ∷ more))) { sent = l }) (drop-append_seam sent (gives v (b ∷ more)).sent)
