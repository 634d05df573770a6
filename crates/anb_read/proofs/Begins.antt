-- What tokens begin with.
use Rattle.std.proofs.Common.{◌≡◌, ◌+◌, List, [], ◌∷◌, ◌++◌, length, refl, sym, ap, ◌∙◌, subst, arith}
use Rattle.anb_syntax.specs.Words.{Word, Tok, head, Begins}

pub begins_joined : (w : List Tok) (a b : List Word) (m rest : List Tok) → Begins w a m → Begins m b rest → Begins w (a ++ b) rest
begins_joined w [] b m rest h k = subst (λ v. Begins v b rest) (sym h) k
begins_joined [] (x ∷ a) b m rest h k = absurd h
begins_joined (t ∷ w) (x ∷ a) b m rest h k = (h.0, begins_joined w a b m rest h.1 k)

pub begins_split : (w : List Tok) (a b : List Word) (rest : List Tok) → Begins w (a ++ b) rest → (m : List Tok) × Begins w a m × Begins m b rest
begins_split w [] b rest h = (w, refl, h)
begins_split [] (x ∷ a) b rest h = absurd h
begins_split (t ∷ w) (x ∷ a) b rest h = let k = begins_split w a b rest h.1 in (k.0, (h.0, k.1), k.2)

pub begins_length : (w : List Tok) (a : List Word) (rest : List Tok) → Begins w a rest → length w ≡ length a + length rest
begins_length w [] rest h = ap length h ∙ omega arith
begins_length [] (x ∷ a) rest h = absurd h
begins_length (t ∷ w) (x ∷ a) rest h = omega (arith, begins_length w a rest h.1)

-- tokens that begin alike and go on alike have the same first word
pub heads : (a : List Word) (w v rest others : List Tok) → Begins w a rest → Begins v a others → head others ≡ head rest → head v ≡ head w
heads [] w v rest others h k e = ap head k ∙ e ∙ ap head (sym h)
heads (x ∷ a) [] v rest others h k e = absurd h
heads (x ∷ a) (t ∷ w) [] rest others h k e = absurd k
heads (x ∷ a) (t ∷ w) (u ∷ v) rest others h k e = k.0 ∙ sym h.0
