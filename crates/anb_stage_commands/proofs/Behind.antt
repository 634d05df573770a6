-- The words behind the names, of which the first are programs.
use Rattle.std.proofs.Common.{◌≡◌, ◌≤◌, ◌+◌, ◌-◌, get_or, ℕ, Bool, true, false, cond, List, [], ◌∷◌, ◌++◌, length, take, drop, Option, Some, None, refl, sym, ap, ◌∙◌, subst, arith, append_assoc, length-append}
use Rattle.std.specs.Option.{option_map}
use Rattle.anb_stage_commands.specs.Asking.{casts_of}
use Rattle.anb_stage_commands.specs.Words.{Cast, Options, cast, is_cast, options_in, with_cast}

-- these programs in front
abbrev pub onto : List Cast → Options → Options
onto casts options = record options { casts = casts ++ options.casts }

-- of all words so many are the words of programs, and then comes the rest
pub record IsReadTo (words : List (List ℕ)) (count : ℕ) (rest : List (List ℕ)) : Type 0 where
  pub front : List (List ℕ)
  pub is : words ≡ front ++ rest
  pub size : length front ≡ count
  pub casts : (more : List (List ℕ)) → casts_of (front ++ more) ≡ casts_of front ++ casts_of more
  pub read : options_in words ≡ option_map (onto (casts_of front)) (options_in rest)

onto_none : (o : Option Options) → o ≡ option_map (onto []) o
onto_none None = refl
onto_none (Some options) = refl

pub read_to_none : (words : List (List ℕ)) → IsReadTo words 0 words
read_to_none words = record { front = []; is = refl; size = refl; casts = λ more. refl; read = onto_none (options_in words) }

onto_one : (casts : List Cast) (c : Cast) (o : Option Options) → option_map (onto casts) (option_map (with_cast c) o) ≡ option_map (onto (casts ++ c ∷ [])) o
onto_one casts c None = refl
onto_one casts c (Some options) = ap (λ (all : List Cast). Some (record options { casts = all })) (sym (append_assoc casts (c ∷ []) options.casts))

-- what a program is read as, and what is none
read_as : (casts : List Cast) (x : Option Options) (b : Bool) → b ≡ true → option_map (onto casts) (cond b x None) ≡ option_map (onto casts) x
read_as casts x true is = refl
read_as casts x false is = absurd (cc)

unread : (casts : List Cast) (x : Option Options) (b : Bool) → b ≡ false → option_map (onto casts) (cond b x None) ≡ None
unread casts x true is = absurd (cc)
unread casts x false is = refl

module _ (words : List (List ℕ)) (count : ℕ) (flag role program : List ℕ) (behind : List (List ℕ)) (r : IsReadTo words count (flag ∷ role ∷ program ∷ behind)) where
  -- one program more
  pub read_to_next : is_cast flag role program ≡ true → IsReadTo words (count + 3) behind
  read_to_next is =
      let own : List (List ℕ) = flag ∷ role ∷ program ∷ [] in
      let c = cast role program in
      let all : casts_of (r.front ++ own) ≡ casts_of r.front ++ c ∷ [] = r.casts own in
      record {
        front = r.front ++ own;
        is = r.is ∙ sym (append_assoc r.front own behind);
        size = omega (arith, r.size, length-append r.front own);
        casts = λ more.
            ap casts_of (append_assoc r.front own more) ∙ r.casts (flag ∷ role ∷ program ∷ more)
            ∙ sym (append_assoc (casts_of r.front) (c ∷ []) (casts_of more)) ∙ ap (λ l. l ++ casts_of more) (sym all);
        read = r.read ∙ read_as (casts_of r.front) (option_map (with_cast c) (options_in behind)) (is_cast flag role program) is ∙ onto_one (casts_of r.front) c (options_in behind)
            ∙ ap (λ l. option_map (onto l) (options_in behind)) (sym all);
      }

  -- what is no program is refused
  pub read_no_cast : is_cast flag role program ≡ false → None ≡ options_in words
  read_no_cast is = sym (r.read ∙ unread (casts_of r.front) (option_map (with_cast (cast role program)) (options_in behind)) (is_cast flag role program) is)

take_front : (front rest : List (List ℕ)) → take (length front) (front ++ rest) ≡ front
take_front [] [] = refl
take_front [] (x ∷ rest) = refl
take_front (x ∷ front) rest = ap (λ l. x ∷ l) (take_front front rest)

nothing : {A : Type 0} (l : List A) → l ++ [] ≡ l
nothing [] = refl
nothing (x ∷ l) = ap (λ r. x ∷ r) (nothing l)

take_whole : (xs : List (List ℕ)) (n : ℕ) → n ≡ length xs → take n xs ≡ xs
take_whole xs n is = ap (λ m. take m xs) is ∙ whole xs where
  whole : (ys : List (List ℕ)) → take (length ys) ys ≡ ys
  whole [] = refl
  whole (y ∷ ys) = ap (λ l. y ∷ l) (whole ys)

-- one program more, where the rest is looked at item by item
pub read_on : (words : List (List ℕ)) (count : ℕ) (rest : List (List ℕ)) (flag role program : List ℕ) → IsReadTo words count rest → 3 ≤ length rest
    → flag ≡ get_or rest 0 flag → role ≡ get_or rest 1 role → program ≡ get_or rest 2 program → is_cast flag role program ≡ true
    → IsReadTo words (count + 3) (take (length rest - 3) (drop 3 rest))
read_on words count [] flag role program r long at here there is = absurd (omega (arith, long))
read_on words count (a ∷ []) flag role program r long at here there is = absurd (omega (arith, long))
read_on words count (a ∷ b ∷ []) flag role program r long at here there is = absurd (omega (arith, long))
read_on words count (a ∷ b ∷ d ∷ behind) flag role program r long at here there is =
    subst (IsReadTo words (count + 3)) (sym (take_whole behind (length (a ∷ b ∷ d ∷ behind) - 3) (omega arith)))
    (read_to_next words count a b d behind r
    (subst (λ x. is_cast a b x ≡ true) there (subst (λ x. is_cast a x program ≡ true) here (subst (λ x. is_cast x role program ≡ true) at is))))
