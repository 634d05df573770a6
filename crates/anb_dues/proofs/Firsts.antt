-- The bytes of the first terms of a list.
use Rattle.std.proofs.Common.{◌≡◌, ℕ, ◌≤◌, List, [], ◌∷◌, ◌++◌, length, map, take, drop, refl, ap, ◌∙◌, arith}
use Rattle.std.specs.List.{AllByRecursion}
use Rattle.anb_term.specs.Tree.{Tree}

abbrev pub Text : Type 0
Text = List ℕ

module _ (of : Tree → Text) where
  -- these are the bytes of the first of these terms
  abbrev pub Are : List Text → List Tree → Type 0
  Are [] ts = Unit {0}
  Are (x ∷ xs) [] = ⊥
  Are (x ∷ xs) (t ∷ ts) = (x ≡ of t) × Are xs ts

  -- where they begin the bytes of all
  pub are_first : (xs rest : List Text) (ts : List Tree) (more : List Text) → xs ++ rest ≡ map of ts ++ more → length xs ≤ length ts → Are xs ts
  are_first [] rest ts more e few = tt
  are_first (x ∷ xs) rest [] more e few = absurd (omega (arith, few))
  are_first (x ∷ xs) rest (t ∷ ts) more e few =
      let first : x ≡ of t = cc in
      let later : xs ++ rest ≡ map of ts ++ more = cc in
      (first, are_first xs rest ts more later (omega (arith, few)))

  pub are_more : (xs : List Text) (ts us : List Tree) → Are xs ts → Are xs (ts ++ us)
  are_more [] ts us h = tt
  are_more (x ∷ xs) [] us h = absurd h
  are_more (x ∷ xs) (t ∷ ts) us h = (h.0, are_more xs ts us h.1)

  -- with those of the others behind them they are those of all
  pub are_all : (xs : List Text) (ts : List Tree) → Are xs ts → xs ++ map of (drop (length xs) ts) ≡ map of ts
  are_all [] ts h = refl
  are_all (x ∷ xs) [] h = absurd h
  are_all (x ∷ xs) (t ∷ ts) h = ap (λ y. y ∷ (xs ++ map of (drop (length xs) ts))) h.0 ∙ ap (λ l. of t ∷ l) (are_all xs ts h.1)

  -- those in front of others are too
  pub are_part : (xs ys : List Text) (ts : List Tree) → Are (xs ++ ys) ts → Are xs ts
  are_part [] ys ts h = tt
  are_part (x ∷ xs) ys [] h = absurd h
  are_part (x ∷ xs) ys (t ∷ ts) h = (h.0, are_part xs ys ts h.1)

  -- they are those of so many of the first
  pub are_taken : (xs : List Text) (ts : List Tree) → Are xs ts → xs ≡ map of (take (length xs) ts)
  are_taken [] [] h = refl
  are_taken [] (t ∷ ts) h = refl
  are_taken (x ∷ xs) [] h = absurd h
  are_taken (x ∷ xs) (t ∷ ts) h = ap (λ y. y ∷ xs) h.0 ∙ ap (λ l. of t ∷ l) (are_taken xs ts h.1)

  -- and behind the bytes of others they are those of all
  pub are_behind : (us : List Tree) (xs : List Text) (ts : List Tree) → Are xs ts → Are (map of us ++ xs) (us ++ ts)
  are_behind [] xs ts h = h
  are_behind (u ∷ us) xs ts h = (refl, are_behind us xs ts h)

-- by another meaning that they have alike
pub are_as : (of by : Tree → Text) (xs : List Text) (ts : List Tree) → AllByRecursion (λ t. of t ≡ by t) (take (length xs) ts) → Are of xs ts → Are by xs ts
are_as of by [] ts same h = tt
are_as of by (x ∷ xs) [] same h = absurd h
are_as of by (x ∷ xs) (t ∷ ts) same h = (h.0 ∙ same.0, are_as of by xs ts same.1 h.1)

-- they are those of other terms with the same bytes
pub are_mapped : (of by : Tree → Text) (f : Tree → Tree) → ((t : Tree) → of t ≡ by (f t)) → (xs : List Text) (ts : List Tree) → Are of xs ts → Are by xs (map f ts)
are_mapped of by f same [] ts h = tt
are_mapped of by f same (x ∷ xs) [] h = absurd h
are_mapped of by f same (x ∷ xs) (t ∷ ts) h = (h.0 ∙ same t, are_mapped of by f same xs ts h.1)
