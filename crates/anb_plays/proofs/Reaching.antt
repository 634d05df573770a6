-- Codes made piece by piece.
use Rattle.std.proofs.Common.{ℕ, List, [], ◌∷◌, subst, sym}
use Rattle.anb_term.specs.Tree.{Tree}
use Rattle.anb_term.specs.Value.{Meaning}
use Rattle.anb_plays.specs.Plans.{Event, know, fresh, send, recv}
use Rattle.anb_plays.specs.Codes.{Act, takes, draws, receives, sends, works, Work}
use Rattle.anb_plays.specs.Fits.{Place, Along, after_take, after_label, after_work, start, AnySend, AnyWork, AnyBorder, SendsIt, IsSound, IsEnough}
use Rattle.anb_plays.specs.Reaches.{Reaches, ReachesOn, ReachesFit}

module _ {A : Type 0} (m : Meaning A) where
  pub reaches_on : ReachesOn m
  reaches_on [] ys [] fs s t u h k = let P : Place → Type 0 = λ p. Reaches m ys fs p u in subst P (sym h) k
  reaches_on [] ys (e ∷ es) fs s t u h k = absurd h
  reaches_on (works w ∷ xs) ys es fs s t u h k = (h.0, reaches_on xs ys es fs (after_work s w) t u h.1 k)
  reaches_on (takes ∷ xs) ys (know v ∷ es) fs s t u h k = reaches_on xs ys es fs (after_take s) t u h k
  reaches_on (draws ∷ xs) ys (fresh v ∷ es) fs s t u h k = reaches_on xs ys es fs (after_label s v) t u h k
  reaches_on (receives ∷ xs) ys (recv v ∷ es) fs s t u h k = (h.0, reaches_on xs ys es fs (after_label s v) t u h.1 k)
  reaches_on (sends n ∷ xs) ys (send v ∷ es) fs s t u h k = (h.0, h.1, reaches_on xs ys es fs s t u h.2 k)
  reaches_on (act ∷ xs) ys es fs s t u h k = absurd h

  -- what holds of sends, works and borders on the way holds along the whole
  along : (S : Place → ℕ → Tree → Type 0) (W : Place → Work → Type 0) (B : Place → Type 0)
      → ((s : Place) (n : ℕ) (t : Tree) → SendsIt m s n t → S s n t) → ((s : Place) (w : Work) → IsSound m s w → W s w) → ((s : Place) → IsEnough m s → B s)
      → (acts : List Act) (es : List Event) (s t : Place) → Reaches m acts es s t → IsEnough m t → Along S W B acts es s
  along S W B f g b [] [] s t h k = let P : Place → Type 0 = λ p. IsEnough m p in b s (subst P (sym h) k)
  along S W B f g b [] (e ∷ es) s t h k = absurd h
  along S W B f g b (works w ∷ acts) es s t h k = (g s w h.0, along S W B f g b acts es (after_work s w) t h.1 k)
  along S W B f g b (takes ∷ acts) (know v ∷ es) s t h k = along S W B f g b acts es (after_take s) t h k
  along S W B f g b (draws ∷ acts) (fresh v ∷ es) s t h k = along S W B f g b acts es (after_label s v) t h k
  along S W B f g b (receives ∷ acts) (recv v ∷ es) s t h k = (b s h.0, along S W B f g b acts es (after_label s v) t h.1 k)
  along S W B f g b (sends n ∷ acts) (send v ∷ es) s t h k = (b s h.0, f s n v h.1, along S W B f g b acts es s t h.2 k)
  along S W B f g b (act ∷ acts) es s t h k = absurd h

  pub reaches_fit : ReachesFit m
  reaches_fit code plan t h k = record {
    order = along AnySend AnyWork AnyBorder (λ s n u x. tt) (λ s w x. tt) (λ s x. tt) code plan (start plan) t h k;
    sends = along (SendsIt m) AnyWork AnyBorder (λ s n u x. x) (λ s w x. tt) (λ s x. tt) code plan (start plan) t h k;
    sound = along AnySend (IsSound m) AnyBorder (λ s n u x. tt) (λ s w x. x) (λ s x. tt) code plan (start plan) t h k;
    enough = along AnySend AnyWork (IsEnough m) (λ s n u x. tt) (λ s w x. tt) (λ s x. x) code plan (start plan) t h k;
  }
