-- What somebody can make, event by event.
use Rattle.std.proofs.Common.{◌≡◌, ℕ, zero, suc, ◌+◌, List, [], ◌∷◌, ◌++◌, drop, Bool, refl, sym, ap, ◌∙◌, subst, arith, append_assoc}
use Rattle.std.proofs.lemmas.List.{append-nil}
use Rattle.anb_term.specs.declared.term.Op.{Op}
use Rattle.anb_term.specs.Tree.{Tree, trees_of, AreFormed}
use Rattle.anb_term.specs.Value.{Meaning}
use Rattle.anb_term.specs.FreeAlgebra.{terms_over}
use Rattle.anb_plays.specs.Plans.{Event, know, fresh, send, recv}
use Rattle.anb_judge.specs.Observed.{says_in}
use Rattle.anb_outsider.specs.Recordings.{messages_in}
use Rattle.anb_stranger.specs.Making.{MakesAll}
use Rattle.anb_stranger.specs.Reaching.{last_received}
use Rattle.anb_stranger.specs.Steps.{line_at, MakesAt}

pub messages_both : (xs ys : List Event) → messages_in (xs ++ ys) ≡ messages_in xs + messages_in ys
messages_both [] ys = omega arith
messages_both (know t ∷ xs) ys = messages_both xs ys
messages_both (fresh t ∷ xs) ys = messages_both xs ys
messages_both (send t ∷ xs) ys = omega (arith, messages_both xs ys)
messages_both (recv t ∷ xs) ys = omega (arith, messages_both xs ys)

pub last_both : (b l : ℕ) (xs ys : List Event) → last_received b l (xs ++ ys) ≡ last_received (b + messages_in xs) (last_received b l xs) ys
last_both b l [] ys = let z : b ≡ b + 0 = omega arith in ap (λ n. last_received n l ys) z
last_both b l (know t ∷ xs) ys = last_both b l xs ys
last_both b l (fresh t ∷ xs) ys = last_both b l xs ys
last_both b l (send t ∷ xs) ys =
    let z : b + 1 + messages_in xs ≡ b + suc (messages_in xs) = omega arith in
    last_both (b + 1) l xs ys ∙ ap (λ n. last_received n (last_received (b + 1) l xs) ys) z
last_both b l (recv t ∷ xs) ys =
    let z : b + 1 + messages_in xs ≡ b + suc (messages_in xs) = omega arith in
    last_both (b + 1) (b + 1) xs ys ∙ ap (λ n. last_received n (last_received (b + 1) (b + 1) xs) ys) z

says_none : {A : Type 0} (es : List Event) → says_in {A = A} es [] ≡ []
says_none [] = refl
says_none (know t ∷ es) = says_none es
says_none (fresh t ∷ es) = says_none es
says_none (send t ∷ es) = refl
says_none (recv t ∷ es) = refl

pub says_both : {A : Type 0} (xs ys : List Event) (lines : List A) → says_in (xs ++ ys) lines ≡ says_in xs lines ++ says_in ys (drop (messages_in xs) lines)
says_both [] ys lines = refl
says_both (know t ∷ xs) ys lines = says_both xs ys lines
says_both (fresh t ∷ xs) ys lines = says_both xs ys lines
says_both (send t ∷ xs) ys [] = sym (says_none ys)
says_both (send t ∷ xs) ys (line ∷ lines) = ap (λ l. line ∷ l) (says_both xs ys lines)
says_both (recv t ∷ xs) ys [] = sym (says_none ys)
says_both (recv t ∷ xs) ys (line ∷ lines) = says_both xs ys lines

-- what is said at a place
pub said_at : (t : Tree) (lines : List Tree) (n : ℕ) → says_in (send t ∷ []) (drop n lines) ≡ line_at lines n
said_at t [] zero = refl
said_at t [] (suc n) = refl
said_at t (x ∷ lines) zero = refl
said_at t (x ∷ lines) (suc n) = said_at t lines n

module _ {A : Type 0} (m : Meaning A) where
  none_made : (having : List A) (es : List Event) → MakesAll m having es []
  none_made having [] = tt
  none_made having (know t ∷ es) = none_made having es
  none_made having (fresh t ∷ es) = none_made having es
  none_made having (send t ∷ es) = tt
  none_made having (recv t ∷ es) = tt

  -- of first events and of later ones
  pub makes_both : (having : List A) (xs ys : List Event) (lines : List A) → MakesAll m having xs lines → MakesAll m (having ++ says_in xs lines) ys (drop (messages_in xs) lines) → MakesAll m having (xs ++ ys) lines
  makes_both having [] ys lines first rest = subst (λ l. MakesAll m l ys lines) (append-nil having) rest
  makes_both having (know t ∷ xs) ys lines first rest = makes_both having xs ys lines first rest
  makes_both having (fresh t ∷ xs) ys lines first rest = makes_both having xs ys lines first rest
  makes_both having (send t ∷ xs) ys [] first rest = tt
  makes_both having (send t ∷ xs) ys (line ∷ lines) first rest =
      makes_both (having ++ line ∷ []) xs ys lines first (subst (λ l. MakesAll m l ys (drop (messages_in xs) lines)) (sym (append_assoc having (line ∷ []) (says_in xs lines))) rest)
  makes_both having (recv t ∷ xs) ys [] first rest = tt
  makes_both having (recv t ∷ xs) ys (line ∷ lines) first rest = (first.0, makes_both having xs ys lines first.1 rest)

  pub makes_later : (having : List A) (xs ys : List Event) (lines : List A) → MakesAll m having (xs ++ ys) lines → MakesAll m (having ++ says_in xs lines) ys (drop (messages_in xs) lines)
  makes_later having [] ys lines all = subst (λ l. MakesAll m l ys lines) (sym (append-nil having)) all
  makes_later having (know t ∷ xs) ys lines all = makes_later having xs ys lines all
  makes_later having (fresh t ∷ xs) ys lines all = makes_later having xs ys lines all
  makes_later having (send t ∷ xs) ys [] all = none_made (having ++ []) ys
  makes_later having (send t ∷ xs) ys (line ∷ lines) all =
      subst (λ l. MakesAll m l ys (drop (messages_in xs) lines)) (append_assoc having (line ∷ []) (says_in xs lines)) (makes_later (having ++ line ∷ []) xs ys lines all)
  makes_later having (recv t ∷ xs) ys [] all = none_made (having ++ []) ys
  makes_later having (recv t ∷ xs) ys (line ∷ lines) all = makes_later having xs ys lines all.1

module _ (has : Op → Bool) (having : List Tree) (t : Tree) where
  pub made_at : (lines : List Tree) (n : ℕ) → MakesAt has having lines n → MakesAll (terms_over has) having (recv t ∷ []) (drop n lines)
  made_at [] zero h = tt
  made_at [] (suc n) h = tt
  made_at (x ∷ lines) zero h = (h, tt)
  made_at (x ∷ lines) (suc n) h = made_at lines n h

  pub at_made : (lines : List Tree) (n : ℕ) → MakesAll (terms_over has) having (recv t ∷ []) (drop n lines) → MakesAt has having lines n
  at_made [] zero h = tt
  at_made [] (suc n) h = tt
  at_made (x ∷ lines) zero h = h.0
  at_made (x ∷ lines) (suc n) h = at_made lines n h

-- what is said is formed
pub said_formed : (has : Op → Bool) (es : List Event) (lines : List Tree) → AreFormed has (trees_of lines) → AreFormed has (trees_of (says_in es lines))
said_formed has [] lines f = tt
said_formed has (know t ∷ es) lines f = said_formed has es lines f
said_formed has (fresh t ∷ es) lines f = said_formed has es lines f
said_formed has (send t ∷ es) [] f = tt
said_formed has (send t ∷ es) (x ∷ lines) f = (f.0, said_formed has es lines f.1)
said_formed has (recv t ∷ es) [] f = tt
said_formed has (recv t ∷ es) (x ∷ lines) f = said_formed has es lines f.1
