-- Lines that are written before the next child is started.
use Rattle.std.proofs.Common.{◌≡◌, ◌≤◌, ◌<◌, ◌⊎◌, ℕ, List, [], ◌∷◌, ◌++◌, length, take, Option, ap, sym, ◌∙◌, subst, inl, inr, arith, append_assoc}
use Rattle.std.proofs.lemmas.Bool.{cases_order}
use Rattle.std.proofs.lemmas.List.{take-append-le}
use Rattle.anb_base.specs.Moves.{Put, PutPrefix}
use Rattle.anb_base.proofs.Joined.{Put-joined}
use Rattle.anb_base.proofs.Moving.{put_nothing}
use Rattle.anb_partner.specs.Trials.{Trial}
use Rattle.anb_probe_commands.specs.Plays.{AreInTime, CaseEnd, PutFirst}
use Rattle.anb_probe_commands.specs.Playing.{texts_of}
use Rattle.anb_probe_commands.specs.Probings.{Probing}
use Rattle.anb_probe_commands.specs.declared.cases.Prepared.{Prepared}
use Rattle.anb_probe_commands.proofs.Listing.{played_front}

-- the front of what was put, and then a part of something
first_further : (a b c : Option (List ℕ)) (x y front more : List ℕ) → x ≡ front ++ more → Put a b x → PutPrefix b c y → PutFirst a c front
first_further a b c x y front more is put (n, within, next) =
    let whole : Put a c (x ++ take n y) = Put-joined a b c x (take n y) put next in
    let text : x ++ take n y ≡ front ++ (more ++ take n y) = ap (λ (l : List ℕ). l ++ take n y) is ∙ append_assoc front more (take n y) in
    (more ++ take n y, subst (Put a c) text whole)

-- what is put first behind something stands first with it in front
first_behind : (a b c : Option (List ℕ)) (x y : List ℕ) → Put a b x → PutFirst b c y → PutFirst a c (x ++ y)
first_behind a b c x y put (more, next) =
    (more, subst (Put a c) (sym (append_assoc x y more)) (Put-joined a b c x (y ++ more) put next))

module _ (q : Probing) (x : Prepared) (old new : ℕ → Trial) where
  -- the lines of these cases were written, and then a part of something: so were those of the first of them
  front_of : (a b c : Option (List ℕ)) (y : List ℕ) (ends : List CaseEnd) → Put a b (texts_of q x ends) → PutPrefix b c y → (i : ℕ) → PutFirst a c (texts_of q x (take i ends))
  front_of a b c y ends put part i =
      let front = played_front q.protocol q.role x.scenes.items x.is_shown 1 x.cases.items ends i in
      first_further a b c (texts_of q x ends) y (texts_of q x (take i ends)) front.0 front.1 put part

  pub all_in_time : (a b c : Option (List ℕ)) (y : List ℕ) (ends : List CaseEnd) → Put a b (texts_of q x ends) → PutPrefix b c y → AreInTime (texts_of q x) ends old new a c
  all_in_time a b c y ends put part = λ i. inr (front_of a b c y ends put part i)

  -- and then nothing
  pub whole_in_time : (a b : Option (List ℕ)) (ends : List CaseEnd) → Put a b (texts_of q x ends) → AreInTime (texts_of q x) ends old new a b
  whole_in_time a b ends put = all_in_time a b b [] ends put (0, omega arith, put_nothing b)

  -- and then a part of those of one case more, behind whose child all are as they were
  pub one_in_time : (a b c : Option (List ℕ)) (y : List ℕ) (ends : List CaseEnd) (end : CaseEnd) → Put a b (texts_of q x ends) → PutPrefix b c y → ((i : ℕ) → length ends < i → new i ≡ old i)
      → AreInTime (texts_of q x) (ends ++ end ∷ []) old new a c
  one_in_time a b c y ends end put part others = λ i. by i (cases_order i (length ends)) where
    before : (i : ℕ) → i ≤ length ends → PutFirst a c (texts_of q x (take i (ends ++ end ∷ [])))
    before i within = subst (λ (l : List CaseEnd). PutFirst a c (texts_of q x l)) (sym (take-append-le i ends (end ∷ []) within)) (front_of a b c y ends put part i)

    by : (i : ℕ) → (i ≡ length ends) ⊎ ((i < length ends) ⊎ (length ends < i)) → (new i ≡ old i) ⊎ PutFirst a c (texts_of q x (take i (ends ++ end ∷ [])))
    by i (inl same) = inr (before i (omega (arith, same)))
    by i (inr (inl under)) = inr (before i (omega (arith, under)))
    by i (inr (inr over)) = inl (others i over)

  -- with a text in front of them all
  pub behind_in_time : (a b c : Option (List ℕ)) (first : List ℕ) (ends : List CaseEnd) → Put a b first → AreInTime (texts_of q x) ends old new b c
      → AreInTime (λ (some : List CaseEnd). first ++ texts_of q x some) ends old new a c
  behind_in_time a b c first ends put in_time = λ i. by i (in_time i) where
    by : (i : ℕ) → (new i ≡ old i) ⊎ PutFirst b c (texts_of q x (take i ends)) → (new i ≡ old i) ⊎ PutFirst a c (first ++ texts_of q x (take i ends))
    by i (inl same) = inl same
    by i (inr written) = inr (first_behind a b c first (texts_of q x (take i ends)) put written)
