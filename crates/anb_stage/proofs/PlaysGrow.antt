-- A play over more arrivals sends what it sent, and may go on.
use Rattle.std.proofs.Common.{◌≡◌, ℕ, ◌+◌, List, [], ◌∷◌, ◌++◌, sym, ap, ◌∙◌, inl, inr}
use Rattle.anb_term.specs.Tree.{Tree}
use Rattle.anb_term.specs.Value.{Meaning}
use Rattle.anb_term.specs.Agree.{Gives}
use Rattle.anb_plays.specs.Plans.{Event, know, fresh, send, recv, known}
use Rattle.anb_plays.specs.Plays.{Played, Judge, Walk, Play}

-- a list begins with another
abbrev pub Begins : {A : Type 0} → List A → List A → Type 0
Begins {A} xs ys = (rest : List A) × (ys ≡ xs ++ rest)

begins_none : {A : Type 0} (xs ys : List A) → xs ≡ [] → Begins xs ys
begins_none xs ys none = (ys, ap (λ l. l ++ ys) (sym none))

begins_one : {A : Type 0} (b c : A) (xs ys zs ws : List A) → b ≡ c → Begins xs ys → zs ≡ b ∷ xs → ws ≡ c ∷ ys → Begins zs ws
begins_one b c xs ys zs ws same more is other =
    (more.0, other ∙ ap (λ x. x ∷ ys) (sym same) ∙ ap (λ l. b ∷ l) more.1 ∙ ap (λ l. l ++ more.0) (sym is))

module _ {A : Type 0} (m : Meaning A) where
  gives_one : (frame : List Tree) (vs : List A) (t : Tree) (b c : A) → Gives m frame vs t b → Gives m frame vs t c → b ≡ c
  gives_one frame vs t b c g h = let x = g.1 g.0.0 g.0.1 in let y = h.1 g.0.0 g.0.1 in cc

  judge_grows : (frame : List Tree) (vs : List A) (e : ℕ) (xs ys : List A) (p q : Played A) (X Y : Type 0) → (X → Y → Begins p.sent q.sent)
      → Judge m frame vs e xs p X → Judge m frame vs e ys q Y → Begins p.sent q.sent
  judge_grows frame vs e xs ys p q X Y f (inl x) (inl y) = f x.1 y.1
  judge_grows frame vs e xs ys p q X Y f (inl x) (inr y) = absurd (y.0 x.0)
  judge_grows frame vs e xs ys p q X Y f (inr x) y = begins_none p.sent q.sent (ap (λ (r : Played A). r.sent) x.1)

  module _ (draw : ℕ → A) where
    walk_grows : (es : List Event) (frame : List Tree) (vs : List A) (e i : ℕ) (xs ys : List A) (p q : Played A)
        → Walk m draw es frame vs e i xs p → Walk m draw es frame vs e i (xs ++ ys) q → Begins p.sent q.sent
    walk_grows [] frame vs e i xs ys p q x y = begins_none p.sent q.sent (ap (λ (r : Played A). r.sent) x)
    walk_grows (know t ∷ es) frame vs e i xs ys p q x y = walk_grows es frame vs e i xs ys p q x y
    walk_grows (fresh t ∷ es) frame vs e i xs ys p q x y = walk_grows es _ _ e (i + 1) xs ys p q x y
    walk_grows (send t ∷ es) frame vs e i xs ys p q x y =
        begins_one x.0 y.0 x.1.sent y.1.sent p.sent q.sent (gives_one frame vs t x.0 y.0 x.2 y.2)
        (walk_grows es frame vs (e + 1) i xs ys x.1 y.1 x.3 y.3) (ap (λ (r : Played A). r.sent) x.4) (ap (λ (r : Played A). r.sent) y.4)
    walk_grows (recv t ∷ es) frame vs e i [] ys p q x y = begins_none p.sent q.sent (ap (λ (r : Played A). r.sent) x)
    walk_grows (recv t ∷ es) frame vs e i (a ∷ xs) ys p q x y =
        judge_grows (frame ++ t ∷ []) (vs ++ a ∷ []) (e + 1) xs (xs ++ ys) p q _ _
        (walk_grows es (frame ++ t ∷ []) (vs ++ a ∷ []) (e + 1) i xs ys p q) x y

  pub play_grows : (draw : ℕ → A) (plan : List Event) (init xs ys : List A) (p q : Played A)
      → Play m draw plan init xs p → Play m draw plan init (xs ++ ys) q → Begins p.sent q.sent
  play_grows draw plan init xs ys p q x y =
      judge_grows (known plan) init 0 xs (xs ++ ys) p q _ _ (walk_grows draw plan (known plan) init 0 0 xs ys p q) x y
