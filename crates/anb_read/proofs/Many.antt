-- As many as begin so.
use Rattle.std.proofs.Common.{◌≡◌, ℕ, zero, suc, ◌+◌, ◌≤◌, ◌<◌, List, [], ◌∷◌, ◌++◌, length, Bool, true, false, Result, Ok, Err, refl, sym, ap, ◌∙◌, subst, inl, inr, arith, cond, append_assoc}
use Rattle.std.specs.Prelude.{◌&&◌, not}
use Rattle.std.proofs.lemmas.List.{append-nil}
use Rattle.std.specs.List.{flat_map, list_all, AllByRecursion}
use Rattle.std.proofs.lemmas.Bool.{and_parts, not-true, not_from_false, and_from}
use Rattle.anb_lemmas.proofs.Options.{side_taken}
use Rattle.anb_read.specs.declared.refusal.ReadNo.{ReadNo}
use Rattle.anb_syntax.specs.Words.{Word, bad, Tok, head, Begins}
use Rattle.anb_read.specs.Productions.{◌>>=◌, many, many_within}
use Rattle.anb_read.proofs.Readers.{opens, closes, Refuses, Again, IsRead, Reads}
use Rattle.anb_read.proofs.Begins.{begins_joined, begins_split, heads}
use Rattle.anb_read.proofs.Binds.{bind_ok, bind_err, bind_same, again_bind}
use Rattle.anb_read.proofs.Shallow.{opens_joined, closes_joined, shallow_none, shallow_joined}
use Rattle.anb_read.proofs.Then.{deeper_behind}

module _ {A : Type 0} (starts : Word → Bool) (t : A → Word → Bool) where
  abbrev pub stops_after : A → List A → Word → Bool
  stops_after a [] x = t a x && not (starts x)
  stops_after a (b ∷ bs) x = stops_after b bs x

  -- where a list ends
  abbrev pub stops_many : List A → Word → Bool
  stops_many [] x = not (starts x)
  stops_many (a ∷ rest) x = stops_after a rest x

abbrev pub cons_to : {A : Type 0} → A → List A × List Tok → Result (List A × List Tok) ReadNo
cons_to a y = Ok (a ∷ y.0, y.1)

abbrev none_at : (A : Type 0) → List Tok → Result (List A × List Tok) ReadNo
none_at A w = Ok ([], w)

again_cons : {A : Type 0} (b : Bool) (out : Result (List A × List Tok) ReadNo) (a : A) (others : List A) (rest : List Tok) → Again b out others rest → Again b (out >>= cons_to a) (a ∷ others) rest
again_cons true out a others rest h = rw h refl
again_cons false out a others rest h = (h.0, rw h.1 refl)

module _ {A : Type 0} (l : ℕ) (starts : Word → Bool) (p : List Tok → Result (A × List Tok) ReadNo) (V : A → Type 0) (f : A → Bool) (s : A → List Word) (t : A → Word → Bool)
    (hp : Reads l l p V f s t)
    (on : (a : A) (w rest : List Tok) → V a → Begins w (s a) rest → starts (head w) ≡ true)
    (longer : (a : A) (w rest : List Tok) → V a → Begins w (s a) rest → length rest < length w)
    (goes_on : (a : A) (x : Word) → V a → starts x ≡ true → t a x ≡ true)
    (no_end : starts bad ≡ false) where
  shrinks : (w : List Tok) (x : A × List Tok) → p w ≡ Ok x → length x.1 < length w
  shrinks w x e = let i = hp.sound w x.0 x.1 e in longer x.0 w x.1 i.valid i.begins

  abbrev pub step : List Tok → Result (List A × List Tok) ReadNo
  step w = cond (starts (head w)) (p w >>= λ x. many starts p x.1 >>= cons_to x.0) (Ok ([], w))

  fuel : (j k : ℕ) (w : List Tok) → length w ≤ j → length w ≤ k → many_within starts p j w ≡ many_within starts p k w
  unfolding many_within
  fuel zero zero w a b = refl
  fuel zero (suc k) [] a b = rw no_end refl
  fuel zero (suc k) (u ∷ w) a b = absurd (omega arith)
  fuel (suc j) zero [] a b = rw no_end refl
  fuel (suc j) zero (u ∷ w) a b = absurd (omega arith)
  fuel (suc j) (suc k) w a b = ap (λ r. cond (starts (head w)) r (Ok ([], w))) (bind_same (p w) (λ x. many_within starts p j x.1 >>= cons_to x.0) (λ x. many_within starts p k x.1 >>= cons_to x.0)
      (λ x e. ap (λ r. r >>= cons_to x.0) (fuel j k x.1 (omega (arith, shrinks w x e)) (omega (arith, shrinks w x e)))))

  pub many_step : (w : List Tok) → many starts p w ≡ step w
  unfolding many many_within
  many_step [] = rw no_end refl
  many_step (u ∷ w) = ap (λ r. cond (starts u.word) r (Ok ([], u ∷ w))) (bind_same (p (u ∷ w)) (λ x. many_within starts p (length w) x.1 >>= cons_to x.0) (λ x. many_within starts p (length x.1) x.1 >>= cons_to x.0)
      (λ x e. ap (λ r. r >>= cons_to x.0) (fuel (length w) (length x.1) x.1 (omega (arith, shrinks (u ∷ w) x e)) (omega arith))))

  abbrev Vs : List A → Type 0
  Vs = AllByRecursion V

  abbrev ss : List A → List Word
  ss vs = flat_map s vs

  abbrev ts : List A → Word → Bool
  ts = stops_many starts t

  -- an item before it
  stops_before : (a : A) (vs : List A) (m rest : List Tok) → V a → Vs vs → Begins m (ss vs) rest → ts (a ∷ vs) (head rest) ≡ true → (t a (head m) ≡ true) × (ts vs (head rest) ≡ true)
  stops_before a [] m rest i js g e =
      let k = and_parts (t a (head rest)) (not (starts (head rest))) e in
      (ap (λ (u : List Tok). t a (head u)) g ∙ k.0, k.1)
  stops_before a (b ∷ vs) m rest i js g e = let d = begins_split m (s b) (ss vs) rest g in (goes_on a (head m) i (on b m d.0 js.0 d.1), e)

  stops_with : (a : A) (vs : List A) (m rest : List Tok) → Begins m (ss vs) rest → t a (head m) ≡ true → ts vs (head rest) ≡ true → ts (a ∷ vs) (head rest) ≡ true
  stops_with a [] m rest g e h = and_from _ _ (ap (λ (u : List Tok). t a (head u)) (sym g) ∙ e) h
  stops_with a (b ∷ vs) m rest g e h = h

  ended : (w : List Tok) (vs : List A) (rest : List Tok) → starts (head w) ≡ false → none_at A w ≡ Ok (vs, rest) → IsRead l l (many starts p) Vs (list_all f) ss ts w vs rest
  ended w vs rest c e =
      let P : List A × List Tok → Type 0 = λ y. IsRead l l (many starts p) Vs (list_all f) ss ts w y.0 y.1 in
      let i : ([], w) ≡ (vs, rest) = cc in
      subst P i (record { valid = tt; fit = refl; begins = refl; stop = not_from_false _ c; shallow = shallow_none l })

  cons_read : (w : List Tok) (a : A) (m : List Tok) (others : List A) (r : List Tok) (vs : List A) (rest : List Tok) → IsRead l l p V f s t w a m → IsRead l l (many starts p) Vs (list_all f) ss ts m others r
      → cons_to a (others, r) ≡ Ok (vs, rest) → IsRead l l (many starts p) Vs (list_all f) ss ts w vs rest
  cons_read w a m others r vs rest i j e =
      let P : List A × List Tok → Type 0 = λ y. IsRead l l (many starts p) Vs (list_all f) ss ts w y.0 y.1 in
      let h : (a ∷ others, r) ≡ (vs, rest) = cc in
      subst P h (record { valid = (i.valid, j.valid); fit = and_from _ _ i.fit j.fit; begins = begins_joined w (s a) (ss others) m r i.begins j.begins; stop = stops_with a others m r j.begins i.stop j.stop; shallow = shallow_joined l l (s a) (ss others) (hp.balanced a i.valid) i.shallow j.shallow })

  many_sound : (k : ℕ) (w : List Tok) (vs : List A) (rest : List Tok) → length w < k → many starts p w ≡ Ok (vs, rest) → IsRead l l (many starts p) Vs (list_all f) ss ts w vs rest
  many_sound zero w vs rest b e = absurd (omega arith)
  many_sound (suc k) w vs rest b e = elim (side_taken (starts (head w)) (p w >>= λ x. many starts p x.1 >>= cons_to x.0) (Ok ([], w)) (Ok (vs, rest)) (sym (many_step w) ∙ e)) [
    | inl c ↦
        let x = bind_ok (p w) (λ x. many starts p x.1 >>= cons_to x.0) (vs, rest) c.1 in
        let y = bind_ok (many starts p x.0.1) (cons_to x.0.0) (vs, rest) x.2 in
        let i = many_sound k x.0.1 y.0.0 y.0.1 (omega (arith, shrinks w x.0 x.1)) y.1 in
        cons_read w x.0.0 x.0.1 y.0.0 y.0.1 vs rest (hp.sound w x.0.0 x.0.1 x.1) i y.2
    | inr c ↦ ended w vs rest c.0 c.1
  ]

  -- what the list is where an item comes
  goes : (w : List Tok) → starts (head w) ≡ true → many starts p w ≡ (p w >>= λ x. many starts p x.1 >>= cons_to x.0)
  goes w c = many_step w ∙ rw c refl

  many_again : (vs : List A) (w rest : List Tok) → Vs vs → Begins w (ss vs) rest → ts vs (head rest) ≡ true → Again (list_all f vs) (many starts p w) vs rest
  many_again [] w rest i g e =
      let c : starts (head w) ≡ false = ap (λ (u : List Tok). starts (head u)) g ∙ not-true _ e in
      many_step w ∙ rw c (ap (λ (u : List Tok). Ok ([], u)) g)
  many_again (a ∷ vs) w rest i g e =
      let d = begins_split w (s a) (ss vs) rest g in
      let k = stops_before a vs d.0 rest i.0 i.1 d.2 e in
      let Q : Result (List A × List Tok) ReadNo → Type 0 = λ out. Again (f a && list_all f vs) out (a ∷ vs) rest in
      subst Q (sym (goes w (on a w d.0 i.0 d.1)))
      (again_bind (f a) (list_all f vs) (p w) a d.0 (λ x. many starts p x.1 >>= cons_to x.0) (a ∷ vs) rest
      (hp.again w a d.0 i.0 d.1 k.0) (again_cons (list_all f vs) (many starts p d.0) a vs rest (many_again vs d.0 rest i.1 d.2 k.1)))

  refused_item : (w : List Tok) (y : ReadNo) → starts (head w) ≡ true → Refuses l p V s w y → Refuses l (many starts p) Vs ss w y
  refused_item w y c r = record {
    front = r.front;
    rest = r.rest;
    begins = r.begins;
    is_deep = r.is_deep;
    is = r.is;
    value = r.value ∷ [];
    valid = (r.valid, tt);
    more = r.more;
    completes = append-nil (s r.value) ∙ r.completes;
    shallow = r.shallow;
    level = r.level;
    alike = λ v others g e.
        let h : starts (head v) ≡ true = ap starts (heads r.front w v r.rest others r.begins g e) ∙ c in
        goes v h ∙ rw (r.alike v others g e) refl;
  }

  refused_later : (w : List Tok) (y : ReadNo) (a : A) (c : List Tok) → starts (head w) ≡ true → IsRead l l p V f s t w a c → Refuses l (many starts p) Vs ss c y → Refuses l (many starts p) Vs ss w y
  refused_later w y a c first i r = record {
    front = s a ++ r.front;
    rest = r.rest;
    begins = begins_joined w (s a) r.front c r.rest i.begins r.begins;
    is_deep = r.is_deep;
    is = r.is;
    value = a ∷ r.value;
    valid = (i.valid, r.valid);
    more = r.more;
    completes = ap (λ (xs : List Word). s a ++ xs) r.completes ∙ sym (append_assoc (s a) r.front r.more);
    shallow = shallow_joined l l (s a) r.front (hp.balanced a i.valid) i.shallow r.shallow;
    level = deeper_behind r.is_deep l l (s a) r.front (head r.rest) r.more (hp.balanced a i.valid) r.level;
    alike = λ v others g e.
        let d = begins_split v (s a) r.front others g in
        let k : t a (head d.0) ≡ true = ap (t a) (heads r.front c d.0 r.rest others r.begins d.2 e) ∙ i.stop in
        let Q : Bool → Type 0 = λ b. Again b (p v) a d.0 in
        let o : p v ≡ Ok (a, d.0) = subst Q i.fit (hp.again v a d.0 i.valid d.1 k) in
        goes v (on a v d.0 i.valid d.1) ∙ rw (o, r.alike d.0 others d.2 e) refl;
  }

  many_refused : (k : ℕ) (w : List Tok) (y : ReadNo) → length w < k → many starts p w ≡ Err y → Refuses l (many starts p) Vs ss w y
  many_refused zero w y b e = absurd (omega arith)
  many_refused (suc k) w y b e = elim (side_taken (starts (head w)) (p w >>= λ x. many starts p x.1 >>= cons_to x.0) (Ok ([], w)) (Err y) (sym (many_step w) ∙ e)) [
    | inl c ↦ elim (bind_err (p w) (λ x. many starts p x.1 >>= cons_to x.0) y c.1) [
      | inl h ↦ refused_item w y c.0 (hp.refused w y h)
      | inr x ↦ elim (bind_err (many starts p x.0.1) (cons_to x.0.0) y x.2) [
        | inl h ↦ refused_later w y x.0.0 x.0.1 c.0 (hp.sound w x.0.0 x.0.1 x.1) (many_refused k x.0.1 y (omega (arith, shrinks w x.0 x.1)) h)
        | inr z ↦ cc (z.2)
      ]
    ]
    | inr c ↦ cc (c.1)
  ]

  balanced_all : (vs : List A) → Vs vs → opens (ss vs) + l ≡ closes (ss vs) + l
  balanced_all [] i = refl
  balanced_all (a ∷ vs) i = omega (arith, opens_joined (s a) (ss vs), closes_joined (s a) (ss vs), hp.balanced a i.0, balanced_all vs i.1)

  pub reads_many : Reads l l (many starts p) Vs (list_all f) ss ts
  reads_many = record {
    sound = λ w vs rest e. many_sound (suc (length w)) w vs rest (omega arith) e;
    again = λ w vs rest i g e. many_again vs w rest i g e;
    refused = λ w y e. many_refused (suc (length w)) w y (omega arith) e;
    balanced = balanced_all;
    some = [];
    is_valid = tt;
  }
