-- What a machine says on its way to where it waits, or to its end.
use Rattle.std.proofs.Common.{◌≡◌, ℕ, List, [], ◌∷◌, ◌++◌, All, map, Bool, sym, ap, ◌∙◌}
use Rattle.std.proofs.lemmas.List.{append-nil, map-append}
use Rattle.std.proofs.lemmas.List.Elements.{All-append, All-cons, All-nil}
use Rattle.anb_plays.specs.Plays.{Played, End, ends, SendsFirst}
use Rattle.anb_host.specs.declared.event.Notice.{Notice}
use Rattle.anb_host.specs.declared.event.Notice.TheVariants.{Message}
use Rattle.anb_host.specs.Own.{is_over, end_notices, notices}
use Rattle.anb_host.specs.Hosts.{IsNarrow}

pub told_further : (s : ℕ) (told : List Notice) (sent : List (List ℕ)) (b : List ℕ) → told ≡ map (Message s) sent → told ++ Message s b ∷ [] ≡ map (Message s) (sent ++ b ∷ [])
told_further s told sent b e = ap (λ (l : List Notice). l ++ Message s b ∷ []) e ∙ sym (map-append (Message s) sent (b ∷ []))

pub narrow_further : (told : List Notice) (n : Notice) → All IsNarrow told → IsNarrow n → All IsNarrow (told ++ n ∷ [])
narrow_further told n all narrow = All-append IsNarrow told (n ∷ []) all (All-cons IsNarrow n [] narrow (All-nil IsNarrow))

-- after these messages it ends so
module _ (s : ℕ) (p : Played (List ℕ)) (sent : List (List ℕ)) (x : End) (f : SendsFirst p sent (ends x [])) where
  pub all_sent : p.sent ≡ sent
  all_sent = ap (λ (q : Played (List ℕ)). q.sent) f ∙ append-nil sent

  pub ended_so : p.end ≡ x
  ended_so = ap (λ (q : Played (List ℕ)). q.end) f

  pub over_so : (b : Bool) → is_over x ≡ b → is_over p.end ≡ b
  over_so b e = ap is_over ended_so ∙ e

  pub told_all : (told : List Notice) → told ≡ map (Message s) sent ++ end_notices s x → told ≡ notices s p.sent p.end
  told_all told e = e ∙ ap (λ (l : List (List ℕ)). map (Message s) l ++ end_notices s x) (sym all_sent) ∙ ap (λ (y : End). map (Message s) p.sent ++ end_notices s y) (sym ended_so)
