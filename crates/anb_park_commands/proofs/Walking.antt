-- How a play uses its arrivals, and how it goes on over more of them.
use Rattle.std.proofs.Common.{◌≡◌, ℕ, ◌+◌, ◌≤◌, List, [], ◌∷◌, ◌++◌, length, refl, sym, ap, ◌∙◌, subst, inl, inr, arith}
use Rattle.anb_term.specs.Tree.{Tree}
use Rattle.anb_term.specs.Value.{Meaning}
use Rattle.anb_term.specs.Agree.{Gives}
use Rattle.anb_plays.specs.Plans.{Event, know, fresh, send, recv, known}
use Rattle.anb_plays.specs.Plays.{End, stopped, waiting, done, Played, ends, Walk, Play}

-- how many arrivals a plan waits for
abbrev pub count_receives : List Event → ℕ
count_receives [] = 0
count_receives (know t ∷ es) = count_receives es
count_receives (fresh t ∷ es) = count_receives es
count_receives (send t ∷ es) = count_receives es
count_receives (recv t ∷ es) = 1 + count_receives es

-- what was used of the arrivals; a play that waits has used them all
pub record Uses {A : Type 0} (arrivals : List A) (most : ℕ) (p : Played A) : Type 0 where
  pub used : List A
  pub is : arrivals ≡ used ++ p.left
  pub few : length used ≤ most
  pub all : (e : ℕ) → p.end ≡ waiting e → p.left ≡ []

-- q is what comes of a play that waited, p, over more arrivals
pub record WentOn {A : Type 0} (p q : Played A) (more : List A) : Type 0 where
  pub later : List A
  pub sent : q.sent ≡ p.sent ++ later
  pub used : List A
  pub is : more ≡ used ++ q.left

not_waiting : {A P : Type 0} (x : End) (arrivals : List A) (p : Played A) (e : ℕ) → ((k : ℕ) → x ≡ waiting k → ⊥) → p ≡ ends x arrivals → p.end ≡ waiting e → P
not_waiting x arrivals p e never is waits = absurd (never e (sym (ap (λ r. r.end) is) ∙ waits))

module _ {A : Type 0} (m : Meaning A) where
  gives_one : (frame : List Tree) (vs : List A) (t : Tree) (b c : A) → Gives m frame vs t b → Gives m frame vs t c → b ≡ c
  gives_one frame vs t b c g h = let x = g.1 g.0.0 g.0.1 in let y = h.1 g.0.0 g.0.1 in cc

  over : (x : End) (arrivals : List A) (most : ℕ) (p : Played A) → ((k : ℕ) → x ≡ waiting k → ⊥) → p ≡ ends x arrivals → Uses arrivals most p
  over x arrivals most p never is = record {
    used = [];
    is = sym (ap (λ (r : Played A). r.left) is);
    few = omega arith;
    all = λ e waits. not_waiting x arrivals p e never is waits;
  }

  module _ (draw : ℕ → A) where
    walk_uses : (es : List Event) (frame : List Tree) (vs : List A) (e i : ℕ) (arrivals : List A) (p : Played A) → Walk m draw es frame vs e i arrivals p → Uses arrivals (count_receives es) p
    walk_uses [] frame vs e i arrivals p w = over done arrivals 0 p (λ k never. cc) w
    walk_uses (know t ∷ es) frame vs e i arrivals p w = walk_uses es frame vs e i arrivals p w
    walk_uses (fresh t ∷ es) frame vs e i arrivals p w = walk_uses es _ _ e (i + 1) arrivals p w
    walk_uses (send t ∷ es) frame vs e i arrivals p w =
        let rest = walk_uses es frame vs (e + 1) i arrivals w.1 w.3 in
        subst (Uses arrivals (count_receives es)) (sym w.4) (record { used = rest.used; is = rest.is; few = rest.few; all = rest.all })
    walk_uses (recv t ∷ es) frame vs e i [] p w =
        subst (Uses [] (1 + count_receives es)) (sym w) (record { used = []; is = refl; few = omega arith; all = λ k waits. refl })
    walk_uses (recv t ∷ es) frame vs e i (x ∷ arrivals) p (inl w) =
        let rest = walk_uses es _ _ (e + 1) i arrivals p w.1 in
        record { used = x ∷ rest.used; is = ap (λ l. x ∷ l) rest.is; few = omega (arith, rest.few); all = rest.all }
    walk_uses (recv t ∷ es) frame vs e i (x ∷ arrivals) p (inr w) =
        record {
          used = x ∷ [];
          is = ap (λ (l : List A). x ∷ l) (sym (ap (λ (r : Played A). r.left) w.1));
          few = omega arith;
          all = λ k waits. not_waiting (stopped (e + 1) 0) arrivals p k (λ n never. cc) w.1 waits;
        }

    walk_on : (more : List A) (es : List Event) (frame : List Tree) (vs : List A) (e i : ℕ) (arrivals : List A) (p q : Played A) (at : ℕ) → Walk m draw es frame vs e i arrivals p → p.end ≡ waiting at
        → Walk m draw es frame vs e i (arrivals ++ more) q → WentOn p q more
    walk_on more [] frame vs e i arrivals p q at w waits v = not_waiting done arrivals p at (λ k never. cc) w waits
    walk_on more (know t ∷ es) frame vs e i arrivals p q at w waits v = walk_on more es frame vs e i arrivals p q at w waits v
    walk_on more (fresh t ∷ es) frame vs e i arrivals p q at w waits v = walk_on more es _ _ e (i + 1) arrivals p q at w waits v
    walk_on more (send t ∷ es) frame vs e i arrivals p q at w waits v =
        let same = gives_one frame vs t v.0 w.0 v.2 w.2 in
        let rest = walk_on more es frame vs (e + 1) i arrivals w.1 v.1 at w.3 (sym (ap (λ (r : Played A). r.end) w.4) ∙ waits) v.3 in
        record {
          later = rest.later;
          sent = ap (λ (r : Played A). r.sent) v.4 ∙ ap (λ (b : A). b ∷ v.1.sent) same ∙ ap (λ (l : List A). w.0 ∷ l) rest.sent ∙ ap (λ (r : Played A). r.sent ++ rest.later) (sym w.4);
          used = rest.used;
          is = rest.is ∙ ap (λ (r : Played A). rest.used ++ r.left) (sym v.4);
        }
    walk_on more (recv t ∷ es) frame vs e i [] p q at w waits v =
        let uses = walk_uses (recv t ∷ es) frame vs e i more q v in
        record { later = q.sent; sent = ap (λ (r : Played A). r.sent ++ q.sent) (sym w); used = uses.used; is = uses.is }
    walk_on more (recv t ∷ es) frame vs e i (x ∷ arrivals) p q at (inl w) waits (inl v) = walk_on more es _ _ (e + 1) i arrivals p q at w.1 waits v.1
    walk_on more (recv t ∷ es) frame vs e i (x ∷ arrivals) p q at (inl w) waits (inr v) = absurd (v.0 w.0)
    walk_on more (recv t ∷ es) frame vs e i (x ∷ arrivals) p q at (inr w) waits v = not_waiting (stopped (e + 1) 0) arrivals p at (λ n never. cc) w.1 waits

    pub play_uses : (plan : List Event) (init arrivals : List A) (p : Played A) → Play m draw plan init arrivals p → Uses arrivals (count_receives plan) p
    play_uses plan init arrivals p (inl w) = walk_uses plan (known plan) init 0 0 arrivals p w.1
    play_uses plan init arrivals p (inr w) = over (stopped 0 0) arrivals (count_receives plan) p (λ k never. cc) w.1

    pub play_on : (plan : List Event) (init arrivals more : List A) (p q : Played A) (at : ℕ) → Play m draw plan init arrivals p → p.end ≡ waiting at → Play m draw plan init (arrivals ++ more) q → WentOn p q more
    play_on plan init arrivals more p q at (inl w) waits (inl v) = walk_on more plan (known plan) init 0 0 arrivals p q at w.1 waits v.1
    play_on plan init arrivals more p q at (inl w) waits (inr v) = absurd (v.0 w.0)
    play_on plan init arrivals more p q at (inr w) waits v = not_waiting (stopped 0 0) arrivals p at (λ n never. cc) w.1 waits
