-- A reader under a function, and a part that may be left out.
use Rattle.std.proofs.Common.{◌≡◌, ℕ, ◌+◌, List, [], Bool, true, false, Option, Some, None, Result, Ok, Err, refl, sym, ap, ◌∙◌, subst, inl, inr, ◌⊎◌}
use Rattle.std.specs.Prelude.{not}
use Rattle.std.proofs.lemmas.Bool.{not-true, not_from_false}
use Rattle.anb_read.specs.declared.refusal.ReadNo.{ReadNo}
use Rattle.anb_syntax.specs.Words.{Word, Tok, head, Begins}
use Rattle.anb_read.specs.Productions.{◌>>=◌, put, optional}
use Rattle.anb_read.proofs.Readers.{opens, closes, Shallow, Refuses, Again, IsRead, Reads}
use Rattle.anb_read.proofs.Binds.{bind_ok, bind_err}
use Rattle.anb_read.proofs.Parts.{always, nothing_at, reads_nothing, reads_as, reads_either}

again_put : {A B : Type 0} (b : Bool) (out : Result (A × List Tok) ReadNo) (g : A → B) (a : A) (rest : List Tok) → Again b out a rest → Again b (out >>= put g) (g a) rest
again_put true out g a rest h = rw h refl
again_put false out g a rest h = (h.0, rw h.1 refl)

module _ {A B : Type 0} (l m : ℕ) (p : List Tok → Result (A × List Tok) ReadNo) (V : A → Type 0) (f : A → Bool) (s : A → List Word) (t : A → Word → Bool)
    (U : B → Type 0) (e : B → Bool) (r : B → List Word) (u : B → Word → Bool) (g : A → B) (back : B → A)
    (hp : Reads l m p V f s t)
    (to : (a : A) → V a → U (g a)) (from : (b : B) → U b → V (back b)) (is : (b : B) → U b → g (back b) ≡ b)
    (fits : (a : A) → V a → f a ≡ e (g a)) (words : (a : A) → V a → s a ≡ r (g a)) (stops : (a : A) (x : Word) → V a → t a x ≡ u (g a) x) where
  abbrev pub mapped : List Tok → Result (B × List Tok) ReadNo
  mapped w = p w >>= put g

  mapped_sound : (w : List Tok) (v : B) (rest : List Tok) → mapped w ≡ Ok (v, rest) → IsRead l m mapped U e r u w v rest
  mapped_sound w v rest h =
      let x = bind_ok (p w) (put g) (v, rest) h in
      let i = hp.sound w x.0.0 x.0.1 x.1 in
      let k : (g x.0.0, x.0.1) ≡ (v, rest) = cc (x.2) in
      let P : B × List Tok → Type 0 = λ y. IsRead l m mapped U e r u w y.0 y.1 in
      let Q : List Word → Type 0 = λ xs. Begins w xs x.0.1 in
      let S : List Word → Type 0 = λ xs. Shallow l xs in
      subst P k (record { valid = to x.0.0 i.valid; fit = sym (fits x.0.0 i.valid) ∙ i.fit; begins = subst Q (words x.0.0 i.valid) i.begins; stop = sym (stops x.0.0 (head x.0.1) i.valid) ∙ i.stop; shallow = subst S (words x.0.0 i.valid) i.shallow })

  mapped_again : (w : List Tok) (v : B) (rest : List Tok) → U v → Begins w (r v) rest → u v (head rest) ≡ true → Again (e v) (mapped w) v rest
  mapped_again w v rest i b h =
      let j = from v i in
      let k = is v i in
      let P : List Word → Type 0 = λ xs. Begins w xs rest in
      let Q : Bool → Type 0 = λ c. Again c (mapped w) v rest in
      let R : B → Type 0 = λ y. Again (f (back v)) (mapped w) y rest in
      subst Q (fits (back v) j ∙ ap e k) (subst R k (again_put (f (back v)) (p w) g (back v) rest
      (hp.again w (back v) rest j (subst P (sym (words (back v) j ∙ ap r k)) b) (stops (back v) (head rest) j ∙ ap (λ y. u y (head rest)) k ∙ h))))

  mapped_refused : (w : List Tok) (y : ReadNo) → mapped w ≡ Err y → Refuses l mapped U r w y
  mapped_refused w y h = elim (bind_err (p w) (put g) y h) [
    | inl i ↦ let k = hp.refused w y i in record {
      front = k.front;
      rest = k.rest;
      begins = k.begins;
      is_deep = k.is_deep;
      is = k.is;
      value = g k.value;
      valid = to k.value k.valid;
      more = k.more;
      completes = sym (words k.value k.valid) ∙ k.completes;
      shallow = k.shallow;
      level = k.level;
      alike = λ v others b c. rw (k.alike v others b c) refl;
    }
    | inr x ↦ cc (x.2)
  ]

  pub reads_mapped : Reads l m mapped U e r u
  reads_mapped = record {
    sound = mapped_sound;
    again = mapped_again;
    refused = mapped_refused;
    balanced = λ v i.
        let P : List Word → Type 0 = λ xs. opens xs + m ≡ closes xs + l in
        subst P (words (back v) (from v i) ∙ ap r (is v i)) (hp.balanced (back v) (from v i));
    some = g hp.some;
    is_valid = to hp.some hp.is_valid;
  }

-- a part that a word begins, or nothing
abbrev pub IsMaybe : {A : Type 0} → (A → Type 0) → Option A → Type 0
IsMaybe V None = Unit {0}
IsMaybe V (Some a) = V a

abbrev pub IsThere : {A : Type 0} → (A → Type 0) → Option A → Type 0
IsThere V None = ⊥
IsThere V (Some a) = V a

abbrev pub maybe_fits : {A : Type 0} → (A → Bool) → Option A → Bool
maybe_fits f None = true
maybe_fits f (Some a) = f a

abbrev pub maybe_words : {A : Type 0} → (A → List Word) → Option A → List Word
maybe_words s None = []
maybe_words s (Some a) = s a

abbrev pub maybe_stops : {A : Type 0} → (A → Word → Bool) → (Word → Bool) → Option A → Word → Bool
maybe_stops t test None x = not (test x)
maybe_stops t test (Some a) x = t a x

abbrev pub there_stops : {A : Type 0} → (A → Word → Bool) → Option A → Word → Bool
there_stops t None x = true
there_stops t (Some a) x = t a x

module _ {A : Type 0} (l : ℕ) (p : List Tok → Result (A × List Tok) ReadNo) (V : A → Type 0) (f : A → Bool) (s : A → List Word) (t : A → Word → Bool) (test : Word → Bool)
    (hp : Reads l l p V f s t) (on : (a : A) (w rest : List Tok) → V a → Begins w (s a) rest → test (head w) ≡ true) where
  abbrev the : Option A → A
  the None = hp.some
  the (Some a) = a

  from_there : (o : Option A) → IsThere V o → V (the o)
  from_there None h = absurd h
  from_there (Some a) h = h

  is_there : (o : Option A) → IsThere V o → Some (the o) ≡ o
  is_there None h = absurd h
  is_there (Some a) h = refl

  reads_there : Reads l l (λ w. p w >>= put Some) (IsThere V) (maybe_fits f) (maybe_words s) (there_stops t)
  reads_there = reads_mapped l l p V f s t (IsThere V) (maybe_fits f) (maybe_words s) (there_stops t) Some the hp (λ a v. v) from_there is_there (λ a v. refl) (λ a v. refl) (λ a x v. refl)

  reads_left_out : Reads l l (nothing_at (Option A) None) (λ o. o ≡ None) (maybe_fits f) (maybe_words s) always
  reads_left_out = reads_as _ _ _ _ _ _ _ _ _ _ _ (reads_nothing (Option A) l None) (λ o v. v) (λ o v. v) (λ o v. rw v refl) (λ o v. rw v refl) (λ o x v. refl)

  there_on : (o : Option A) (w rest : List Tok) → IsThere V o → Begins w (maybe_words s o) rest → test (head w) ≡ true
  there_on None w rest v g = absurd v
  there_on (Some a) w rest v g = on a w rest v g

  there_same : (o : Option A) (x : Word) → IsThere V o → there_stops t o x ≡ maybe_stops t test o x
  there_same None x v = absurd v
  there_same (Some a) x v = refl

  stays : (o : Option A) (w rest : List Tok) → o ≡ None → Begins w (maybe_words s o) rest → w ≡ rest
  stays o w rest v g = let P : Option A → Type 0 = λ q. Begins w (maybe_words s q) rest in subst P v g

  out_stops : (o : Option A) (x : Word) → o ≡ None → maybe_stops t test o x ≡ not (test x)
  out_stops o x v = ap (λ q. maybe_stops t test q x) v

  all_maybe : (o : Option A) → IsThere V o ⊎ (o ≡ None) → IsMaybe V o
  all_maybe None v = tt
  all_maybe (Some a) (inl v) = v
  all_maybe (Some a) (inr v) = cc

  maybe_all : (o : Option A) → IsMaybe V o → IsThere V o ⊎ (o ≡ None)
  maybe_all None v = inr refl
  maybe_all (Some a) v = inl v

  pub reads_optional : Reads l l (optional test p) (IsMaybe V) (maybe_fits f) (maybe_words s) (maybe_stops t test)
  unfolding optional
  reads_optional = reads_as _ _ _ _ _ _ _ _ _ _ _
      (reads_either l l test (λ w. p w >>= put Some) (nothing_at (Option A) None) (IsThere V) (λ o. o ≡ None) (maybe_fits f) (maybe_words s) (there_stops t) always (maybe_stops t test) reads_there reads_left_out
      (λ o w rest v c g e. sym (there_same o (head rest) v) ∙ e)
      (λ o w rest v c g e. out_stops o (head rest) v ∙ not_from_false _ (ap (λ (u : List Tok). test (head u)) (sym (stays o w rest v g)) ∙ c))
      (λ o x v e. there_same o x v ∙ e) (λ o x v e. refl)
      (λ o w rest v g e. there_on o w rest v g)
      (λ o w rest v g e. ap (λ (u : List Tok). test (head u)) (stays o w rest v g) ∙ not-true _ (sym (out_stops o (head rest) v) ∙ e)))
      all_maybe maybe_all (λ o v. refl) (λ o v. refl) (λ o x v. refl)
