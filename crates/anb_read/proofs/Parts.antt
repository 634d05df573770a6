-- Readers of one token, of nothing, and by a first word.
use Rattle.std.proofs.Common.{◌≡◌, ℕ, ◌+◌, ◌<◌, List, [], ◌∷◌, Bool, true, false, Option, Some, None, Result, Ok, Err, refl, sym, ap, ◌∙◌, subst, inl, inr, ◌⊎◌, arith, cond}
use Rattle.anb_lemmas.proofs.Options.{side_taken}
use Rattle.anb_read.specs.declared.refusal.ReadNo.{ReadNo}
use Rattle.anb_syntax.specs.Words.{Word, bad, Tok, head, tail, Begins}
use Rattle.anb_read.specs.Productions.{fault, begins_term, taken, one}
use Rattle.anb_read.proofs.Readers.{opens, closes, Shallow, Refuses, Again, IsRead, Reads}
use Rattle.anb_read.proofs.Begins.{heads}
use Rattle.anb_read.proofs.Shallow.{shallow_none, shallow_one}

-- nothing stops it
abbrev pub always : {A : Type 0} → A → Word → Bool
always v x = true

abbrev pub yes : {A : Type 0} → A → Bool
yes v = true

-- what one word is read as
pub record OneWord {A : Type 0} (pick : Word → Option A) (Valid : A → Type 0) (word : A → Word) : Type 0 where
  pub gives : (v : A) → Valid v → pick (word v) ≡ Some v
  pub only : (x : Word) (v : A) → pick x ≡ Some v → (x ≡ word v) × Valid v
  pub some : A
  pub is_valid : Valid some

module _ {A : Type 0} (l m : ℕ) (pick : Word → Option A) (Valid : A → Type 0) (word : A → Word)
    (h : OneWord pick Valid word) (at_end : (v : A) → Valid v → word v ≡ bad → ⊥)
    (balanced : (v : A) → Valid v → opens (word v ∷ []) + m ≡ closes (word v ∷ []) + l)
    (above : (v : A) → Valid v → begins_term (word v) ≡ true → 0 < l) where
  abbrev words : A → List Word
  words v = word v ∷ []

  taken_ok : (o : Option A) (w : List Tok) (v : A) (rest : List Tok) → taken o w ≡ Ok (v, rest) → (o ≡ Some v) × (tail w ≡ rest)
  taken_ok None w v rest e = cc
  taken_ok (Some a) w v rest e = let i : (a, tail w) ≡ (v, rest) = cc in (ap (λ (x : A × List Tok). Some x.0) i, ap (λ (x : A × List Tok). x.1) i)

  taken_err : (o : Option A) (w : List Tok) (f : ReadNo) → taken o w ≡ Err f → (o ≡ None) × (f ≡ fault false w)
  taken_err None w f e = let i : fault false w ≡ f = cc in (refl, sym i)
  taken_err (Some a) w f e = cc

  one_sound : (w : List Tok) (v : A) (rest : List Tok) → one pick w ≡ Ok (v, rest) → IsRead l m (one pick) Valid yes words always w v rest
  one_sound [] v rest e =
      let t = taken_ok (pick bad) [] v rest e in
      let o = h.only bad v t.0 in absurd (at_end v o.1 (sym o.0))
  one_sound (t ∷ w) v rest e =
      let k = taken_ok (pick t.word) (t ∷ w) v rest e in
      let o = h.only t.word v k.0 in
      record { valid = o.1; fit = refl; begins = (o.0, k.1); stop = refl; shallow = shallow_one l (word v) (above v o.1) }

  one_again : (w : List Tok) (v : A) (rest : List Tok) → Valid v → Begins w (words v) rest → one pick w ≡ Ok (v, rest)
  one_again [] v rest i g = absurd g
  one_again (t ∷ w) v rest i g = rw (g.0, h.gives v i, g.1) refl

  one_refused : (w : List Tok) (f : ReadNo) → one pick w ≡ Err f → Refuses l (one pick) Valid words w f
  one_refused w f e =
      let k = taken_err (pick (head w)) w f e in
      record {
        front = [];
        rest = w;
        begins = refl;
        is_deep = false;
        is = k.1;
        value = h.some;
        valid = h.is_valid;
        more = words h.some;
        completes = refl;
        shallow = shallow_none l;
        level = tt;
        alike = λ v others g i.
            let same : pick (head v) ≡ None = ap (λ (u : List Tok). pick (head u)) g ∙ ap pick i ∙ k.0 in
            rw same (ap (λ (u : List Tok). Err (fault false u)) g);
      }

  pub reads_one : Reads l m (one pick) Valid yes words always
  reads_one = record {
    sound = one_sound;
    again = λ w v rest i g e. one_again w v rest i g;
    refused = one_refused;
    balanced = balanced;
    some = h.some;
    is_valid = h.is_valid;
  }

abbrev pub nothing_at : (A : Type 0) → A → List Tok → Result (A × List Tok) ReadNo
nothing_at A a w = Ok (a, w)

-- a value that needs no words
nothing_sound : (A : Type 0) (l : ℕ) (a : A) (w : List Tok) (v : A) (rest : List Tok) → nothing_at A a w ≡ Ok (v, rest) → IsRead l l (nothing_at A a) (λ b. b ≡ a) yes (λ b. []) always w v rest
nothing_sound A l a w v rest e =
    let i : (a, w) ≡ (v, rest) = cc in
    record { valid = sym (ap (λ (x : A × List Tok). x.0) i); fit = refl; begins = ap (λ (x : A × List Tok). x.1) i; stop = refl; shallow = shallow_none l }

pub reads_nothing : (A : Type 0) (l : ℕ) (a : A) → Reads l l (nothing_at A a) (λ b. b ≡ a) yes (λ b. []) always
reads_nothing A l a = record {
  sound = λ w v rest e. nothing_sound A l a w v rest e;
  again = λ w v rest i g e. rw (i, g) refl;
  refused = λ w f e. cc;
  balanced = λ v i. omega arith;
  some = a;
  is_valid = refl;
}

-- the same reader under other words for its values
module _ {A : Type 0} (l m : ℕ) (p : List Tok → Result (A × List Tok) ReadNo) (V U : A → Type 0) (f g : A → Bool) (s r : A → List Word) (t u : A → Word → Bool)
    (h : Reads l m p V f s t)
    (valid : (a : A) → V a → U a) (is_valid : (a : A) → U a → V a)
    (fits : (a : A) → V a → f a ≡ g a) (words : (a : A) → V a → s a ≡ r a) (stops : (a : A) (x : Word) → V a → t a x ≡ u a x) where
  pub reads_as : Reads l m p U g r u
  reads_as = record {
    sound = λ w v rest e. let i = h.sound w v rest e in record {
      valid = valid v i.valid;
      fit = sym (fits v i.valid) ∙ i.fit;
      begins = let P : List Word → Type 0 = λ xs. Begins w xs rest in subst P (words v i.valid) i.begins;
      stop = sym (stops v (head rest) i.valid) ∙ i.stop;
      shallow = let P : List Word → Type 0 = λ xs. Shallow l xs in subst P (words v i.valid) i.shallow;
    };
    again = λ w v rest i b e.
        let j = is_valid v i in
        let P : List Word → Type 0 = λ xs. Begins w xs rest in
        let Q : Bool → Type 0 = λ c. Again c (p w) v rest in
        subst Q (fits v j) (h.again w v rest j (subst P (sym (words v j)) b) (stops v (head rest) j ∙ e));
    refused = λ w y e. let k = h.refused w y e in record {
      front = k.front;
      rest = k.rest;
      begins = k.begins;
      is_deep = k.is_deep;
      is = k.is;
      value = k.value;
      valid = valid k.value k.valid;
      more = k.more;
      completes = sym (words k.value k.valid) ∙ k.completes;
      shallow = k.shallow;
      level = k.level;
      alike = k.alike;
    };
    balanced = λ v i. let j = is_valid v i in
        let P : List Word → Type 0 = λ xs. opens xs + m ≡ closes xs + l in subst P (words v j) (h.balanced v j);
    some = h.some;
    is_valid = valid h.some h.is_valid;
  }

-- one of two readers, by the first word
module _ {A : Type 0} (l m : ℕ) (test : Word → Bool) (p q : List Tok → Result (A × List Tok) ReadNo) (V U : A → Type 0) (f : A → Bool) (s : A → List Word) (t u : A → Word → Bool) (stop : A → Word → Bool)
    (hp : Reads l m p V f s t) (hq : Reads l m q U f s u)
    (stop_p : (a : A) (w rest : List Tok) → V a → test (head w) ≡ true → Begins w (s a) rest → t a (head rest) ≡ true → stop a (head rest) ≡ true)
    (stop_q : (a : A) (w rest : List Tok) → U a → test (head w) ≡ false → Begins w (s a) rest → u a (head rest) ≡ true → stop a (head rest) ≡ true)
    (back_p : (a : A) (x : Word) → V a → stop a x ≡ true → t a x ≡ true) (back_q : (a : A) (x : Word) → U a → stop a x ≡ true → u a x ≡ true)
    (on : (a : A) (w rest : List Tok) → V a → Begins w (s a) rest → stop a (head rest) ≡ true → test (head w) ≡ true)
    (off : (a : A) (w rest : List Tok) → U a → Begins w (s a) rest → stop a (head rest) ≡ true → test (head w) ≡ false) where
  abbrev either : List Tok → Result (A × List Tok) ReadNo
  either w = cond (test (head w)) (p w) (q w)

  abbrev E : A → Type 0
  E a = V a ⊎ U a

  pub reads_either : Reads l m either E f s stop
  reads_either = record {
    sound = λ w v rest e. elim (side_taken (test (head w)) (p w) (q w) (Ok (v, rest)) e) [
      | inl c ↦ let i = hp.sound w v rest c.1 in record { valid = inl i.valid; fit = i.fit; begins = i.begins; stop = stop_p v w rest i.valid c.0 i.begins i.stop; shallow = i.shallow }
      | inr c ↦ let i = hq.sound w v rest c.1 in record { valid = inr i.valid; fit = i.fit; begins = i.begins; stop = stop_q v w rest i.valid c.0 i.begins i.stop; shallow = i.shallow }
    ];
    again = λ w v rest i b e. elim i [
      | inl k ↦ rw (on v w rest k b e) (hp.again w v rest k b (back_p v (head rest) k e))
      | inr k ↦ rw (off v w rest k b e) (hq.again w v rest k b (back_q v (head rest) k e))
    ];
    refused = λ w y e. elim (side_taken (test (head w)) (p w) (q w) (Err y) e) [
      | inl c ↦ let k = hp.refused w y c.1 in record {
        front = k.front;
        rest = k.rest;
        begins = k.begins;
        is_deep = k.is_deep;
        is = k.is;
        value = k.value;
        valid = inl k.valid;
        more = k.more;
        completes = k.completes;
        shallow = k.shallow;
        level = k.level;
        alike = λ v others g i. let same : test (head v) ≡ true = ap test (heads k.front w v k.rest others k.begins g i) ∙ c.0 in rw same (k.alike v others g i);
      }
      | inr c ↦ let k = hq.refused w y c.1 in record {
        front = k.front;
        rest = k.rest;
        begins = k.begins;
        is_deep = k.is_deep;
        is = k.is;
        value = k.value;
        valid = inr k.valid;
        more = k.more;
        completes = k.completes;
        shallow = k.shallow;
        level = k.level;
        alike = λ v others g i. let same : test (head v) ≡ false = ap test (heads k.front w v k.rest others k.begins g i) ∙ c.0 in rw same (k.alike v others g i);
      }
    ];
    balanced = λ v i. elim i [ inl k ↦ hp.balanced v k | inr k ↦ hq.balanced v k ];
    some = hp.some;
    is_valid = inl hp.is_valid;
  }
