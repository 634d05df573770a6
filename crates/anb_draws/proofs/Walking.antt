-- What is said behind what is heard has the values of all recipes for it.
use Rattle.std.proofs.Common.{◌≡◌, ℕ, ◌+◌, List, [], ◌∷◌, ◌++◌, map, refl, sym, ap, ◌∙◌, subst, inl, inr, append_assoc}
use Rattle.std.proofs.lemmas.List.{append-nil}
use Rattle.anb_term.specs.Tree.{Tree, leaf}
use Rattle.anb_term.specs.Value.{Meaning}
use Rattle.anb_term.specs.Agree.{Agree, Gives}
use Rattle.anb_plays.specs.Plans.{Event, know, fresh, send, recv, known, IsFreshAfter, FreshIsNew}
use Rattle.anb_plays.specs.Plays.{End, stopped, waiting, done, Played, ends, Walk, Play}
use Rattle.anb_plays.specs.Honest.{heard}
use Rattle.anb_judge.specs.Observed.{observed}
use Rattle.anb_draws.proofs.Plans.{says}

-- ---- the plan

pub known_says : (es : List Event) (names : List ℕ) → known (observed es ++ map says names) ≡ known es
known_says [] names = none names where
  none : (cs : List ℕ) → known (map says cs) ≡ []
  none [] = refl
  none (a ∷ cs) = none cs
known_says (know t ∷ es) names = ap (λ l. t ∷ l) (known_says es names)
known_says (fresh t ∷ es) names = known_says es names
known_says (send t ∷ es) names = known_says es names
known_says (recv t ∷ es) names = known_says es names

new_from : (F : List Tree) (es : List Event) (names : List ℕ) → IsFreshAfter F (observed es ++ map says names)
new_from F [] names = none names where
  none : (cs : List ℕ) → IsFreshAfter F (map says cs)
  none [] = tt
  none (a ∷ cs) = none cs
new_from F (know t ∷ es) names = new_from F es names
new_from F (fresh t ∷ es) names = new_from F es names
new_from F (send t ∷ es) names = new_from (F ++ t ∷ []) es names
new_from F (recv t ∷ es) names = new_from (F ++ t ∷ []) es names

pub says_is_new : (es : List Event) (names : List ℕ) → FreshIsNew (observed es ++ map says names)
says_is_new es names = new_from (known (observed es ++ map says names)) es names

-- ---- its play

no_end : {A X : Type 0} (p : Played A) (x : End) (arrivals : List A) → (done ≡ x → ⊥) → p.end ≡ done → p ≡ ends x arrivals → X
no_end p x arrivals never end is = absurd (never (sym end ∙ ap (λ (q : Played _). q.end) is))

module _ {A : Type 0} (m : Meaning A) where
  -- each name is given as the value beside it
  abbrev pub GivesEach : (F : List Tree) (vs : List A) → List ℕ → List A → Type 0
  GivesEach F vs [] [] = Unit {0}
  GivesEach F vs [] (b ∷ bs) = ⊥
  GivesEach F vs (a ∷ names) [] = ⊥
  GivesEach F vs (a ∷ names) (b ∷ bs) = Gives m F vs (leaf a) b × GivesEach F vs names bs

  module _ (d : ℕ → A) (names : List ℕ) where
    said : (cs : List ℕ) (F : List Tree) (vs : List A) (e i : ℕ) (xs : List A) (p : Played A) → Walk m d (map says cs) F vs e i xs p → p.left ≡ [] → (xs ≡ []) × GivesEach F vs cs p.sent
    said [] F vs e i xs p walk left =
        (sym (ap (λ (q : Played A). q.left) walk) ∙ left, subst (GivesEach F vs []) (sym (ap (λ (q : Played A). q.sent) walk)) tt)
    said (a ∷ cs) F vs e i xs p (b, q, gives, walk, is) left =
        let later = said cs F vs (e + 1) i xs q walk (sym (ap (λ (r : Played A). r.left) is) ∙ left) in
        (later.0, subst (GivesEach F vs (a ∷ cs)) (sym (ap (λ (r : Played A). r.sent) is)) (gives, later.1))

    -- what is said has the values of all recipes over what was heard by then, which agrees
    abbrev Said : (F : List Tree) (vs : List A) → Played A → Type 0
    Said F vs p = GivesEach F vs names p.sent × Agree m F vs

    next : (t : Tree) (es : List Event) (F : List Tree) (vs : List A) (e i : ℕ) (xs : List A) (p : Played A)
        → ((G : List Tree) (ws : List A) (k : ℕ) (ys : List A) → Agree m G ws → Walk m d (observed es ++ map says names) G ws k i ys p → Said (G ++ heard (observed es)) (ws ++ ys) p)
        → Walk m d (recv t ∷ (observed es ++ map says names)) F vs e i xs p → p.end ≡ done → Said (F ++ t ∷ heard (observed es)) (vs ++ xs) p
    next t es F vs e i [] p later walk end = no_end p (waiting (e + 1)) [] (λ never. cc) end walk
    next t es F vs e i (x ∷ xs) p later (inr h) end = no_end p (stopped (e + 1) 0) xs (λ never. cc) end h.1
    next t es F vs e i (x ∷ xs) p later (inl h) end =
        subst (λ l. Said l (vs ++ x ∷ xs) p) (append_assoc F (t ∷ []) (heard (observed es)))
        (subst (λ l. Said ((F ++ t ∷ []) ++ heard (observed es)) l p) (append_assoc vs (x ∷ []) xs) (later (F ++ t ∷ []) (vs ++ x ∷ []) (e + 1) xs h.0 h.1))

    said_from : (es : List Event) (F : List Tree) (vs : List A) (e i : ℕ) (xs : List A) (p : Played A) → Agree m F vs → Walk m d (observed es ++ map says names) F vs e i xs p → p.end ≡ done → p.left ≡ []
        → Said (F ++ heard (observed es)) (vs ++ xs) p
    said_from [] F vs e i xs p agree walk end left =
        let h = said names F vs e i xs p walk left in
        subst (λ ys. Said (F ++ []) (vs ++ ys) p) (sym h.0)
        (subst (λ l. Said (F ++ []) l p) (sym (append-nil vs)) (subst (λ l. Said l vs p) (sym (append-nil F)) (h.1, agree)))
    said_from (know t ∷ es) F vs e i xs p agree walk end left = said_from es F vs e i xs p agree walk end left
    said_from (fresh t ∷ es) F vs e i xs p agree walk end left = said_from es F vs e i xs p agree walk end left
    said_from (send t ∷ es) F vs e i xs p agree walk end left = next t es F vs e i xs p (λ G ws k ys a w. said_from es G ws k i ys p a w end left) walk end
    said_from (recv t ∷ es) F vs e i xs p agree walk end left = next t es F vs e i xs p (λ G ws k ys a w. said_from es G ws k i ys p a w end left) walk end

    pub all_said : (es : List Event) (init xs : List A) (p : Played A) → Play m d (observed es ++ map says names) init xs p → p.end ≡ done → p.left ≡ []
        → Said (known es ++ heard (observed es)) (init ++ xs) p
    all_said es init xs p (inr h) end left = no_end p (stopped 0 0) xs (λ never. cc) end h.1
    all_said es init xs p (inl h) end left =
        let by = said_from es (known (observed es ++ map says names)) init 0 0 xs p h.0 h.1 end left in
        subst (λ l. Said (l ++ heard (observed es)) (init ++ xs) p) (known_says es names) by
