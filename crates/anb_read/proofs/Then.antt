-- One reader after another.
use Rattle.std.proofs.Common.{◌≡◌, ℕ, ◌+◌, List, ◌++◌, Bool, true, false, Result, Ok, Err, refl, sym, ap, ◌∙◌, subst, inl, inr, arith, append_assoc}
use Rattle.std.specs.Prelude.{◌&&◌}
use Rattle.std.proofs.lemmas.Bool.{and_from}
use Rattle.anb_read.specs.declared.refusal.ReadNo.{ReadNo}
use Rattle.anb_syntax.specs.Words.{Word, Tok, head, Begins}
use Rattle.anb_read.specs.Productions.{◌>>=◌}
use Rattle.anb_read.proofs.Readers.{opens, closes, Shallow, TooDeep, IfDeep, Refuses, Again, IsRead, Reads}
use Rattle.anb_read.proofs.Begins.{begins_joined, begins_split, heads}
use Rattle.anb_read.proofs.Shallow.{opens_joined, closes_joined, shallow_joined}
use Rattle.anb_read.proofs.Binds.{bind_ok, bind_err, again_bind}

-- more words after the completion
pub deeper : (deep : Bool) (l : ℕ) (front : List Word) (x : Word) (more others : List Word) → IfDeep deep (TooDeep l front x more) → IfDeep deep (TooDeep l front x (more ++ others))
deeper true l front x more others h = record { starts = h.starts; nested = h.nested; others = h.others ++ others; goes_on = ap (λ (m : List Word). m ++ others) h.goes_on }
deeper false l front x more others h = tt

-- balanced words before it
pub deeper_behind : (deep : Bool) (l m : ℕ) (a front : List Word) (x : Word) (more : List Word) → opens a + m ≡ closes a + l → IfDeep deep (TooDeep m front x more) → IfDeep deep (TooDeep l (a ++ front) x more)
deeper_behind true l m a front x more e h = record { starts = h.starts; nested = omega (arith, opens_joined a front, closes_joined a front, h.nested); others = h.others; goes_on = h.goes_on }
deeper_behind false l m a front x more e h = tt

module _ {A B : Type 0} (l m n : ℕ)
    (p : List Tok → Result (A × List Tok) ReadNo) (Vp : A → Type 0) (fp : A → Bool) (sp : A → List Word) (tp : A → Word → Bool)
    (q : A → List Tok → Result (B × List Tok) ReadNo) (Vq : A → B → Type 0) (fq : B → Bool) (sq : B → List Word) (tq : B → Word → Bool)
    (first : B → A)
    (hp : Reads l m p Vp fp sp tp) (hq : (a : A) → Reads m n (q a) (Vq a) fq sq tq)
    (is_first : (a : A) (b : B) → Vq a b → first b ≡ a)
    (follows : (a : A) (b : B) (w rest : List Tok) → Vq a b → Begins w (sq b) rest → tq b (head rest) ≡ true → tp a (head w) ≡ true) where
  abbrev both : List Tok → Result (B × List Tok) ReadNo
  both w = p w >>= λ x. q x.0 x.1

  abbrev V : B → Type 0
  V b = Vp (first b) × Vq (first b) b

  abbrev f : B → Bool
  f b = fp (first b) && fq b

  abbrev s : B → List Word
  s b = sp (first b) ++ sq b

  both_sound : (w : List Tok) (b : B) (rest : List Tok) → both w ≡ Ok (b, rest) → IsRead l n both V f s tq w b rest
  both_sound w b rest e =
      let x = bind_ok (p w) (λ x. q x.0 x.1) (b, rest) e in
      let i = hp.sound w x.0.0 x.0.1 x.1 in
      let j = (hq x.0.0).sound x.0.1 b rest x.2 in
      let same : x.0.0 ≡ first b = sym (is_first x.0.0 b j.valid) in
      record {
        valid = (subst Vp same i.valid, subst (λ a. Vq a b) same j.valid);
        fit = and_from _ _ (subst (λ a. fp a ≡ true) same i.fit) j.fit;
        begins = begins_joined w (sp (first b)) (sq b) x.0.1 rest (subst (λ a. Begins w (sp a) x.0.1) same i.begins) j.begins;
        stop = j.stop;
        shallow = shallow_joined l m (sp (first b)) (sq b) (hp.balanced (first b) (subst Vp same i.valid)) (subst (λ a. Shallow l (sp a)) same i.shallow) j.shallow;
      }

  both_again : (w : List Tok) (b : B) (rest : List Tok) → V b → Begins w (s b) rest → tq b (head rest) ≡ true → Again (f b) (both w) b rest
  both_again w b rest v g e =
      let c = begins_split w (sp (first b)) (sq b) rest g in
      again_bind (fp (first b)) (fq b) (p w) (first b) c.0 (λ x. q x.0 x.1) b rest
      (hp.again w (first b) c.0 v.0 c.1 (follows (first b) b c.0 rest v.1 c.2 e))
      ((hq (first b)).again c.0 b rest v.1 c.2 e)

  refused_first : (w : List Tok) (y : ReadNo) → Refuses l p Vp sp w y → Refuses l both V s w y
  refused_first w y r =
      let h = hq r.value in
      let same = sym (is_first r.value h.some h.is_valid) in
      record {
        front = r.front;
        rest = r.rest;
        begins = r.begins;
        is_deep = r.is_deep;
        is = r.is;
        value = h.some;
        valid = (subst Vp same r.valid, subst (λ a. Vq a h.some) same h.is_valid);
        more = r.more ++ sq h.some;
        completes = ap (λ a. sp a ++ sq h.some) (sym same) ∙ ap (λ (xs : List Word). xs ++ sq h.some) r.completes ∙ append_assoc r.front r.more (sq h.some);
        shallow = r.shallow;
        level = deeper r.is_deep l r.front (head r.rest) r.more (sq h.some) r.level;
        alike = λ v others g e. rw (r.alike v others g e) refl;
      }

  refused_second : (w : List Tok) (y : ReadNo) (a : A) (c : List Tok) → IsRead l m p Vp fp sp tp w a c → Refuses m (q a) (Vq a) sq c y → Refuses l both V s w y
  refused_second w y a c i r =
      let same = sym (is_first a r.value r.valid) in
      record {
        front = sp a ++ r.front;
        rest = r.rest;
        begins = begins_joined w (sp a) r.front c r.rest i.begins r.begins;
        is_deep = r.is_deep;
        is = r.is;
        value = r.value;
        valid = (subst Vp same i.valid, subst (λ x. Vq x r.value) same r.valid);
        more = r.more;
        completes = ap (λ x. sp x ++ sq r.value) (sym same) ∙ ap (λ (xs : List Word). sp a ++ xs) r.completes ∙ sym (append_assoc (sp a) r.front r.more);
        shallow = shallow_joined l m (sp a) r.front (hp.balanced a i.valid) i.shallow r.shallow;
        level = deeper_behind r.is_deep l m (sp a) r.front (head r.rest) r.more (hp.balanced a i.valid) r.level;
        alike = λ v others g e.
            let d = begins_split v (sp a) r.front others g in
            let k : tp a (head d.0) ≡ true = ap (tp a) (heads r.front c d.0 r.rest others r.begins d.2 e) ∙ i.stop in
            let o : p v ≡ Ok (a, d.0) = let Q : Bool → Type 0 = λ b. Again b (p v) a d.0 in subst Q i.fit (hp.again v a d.0 i.valid d.1 k) in
            rw o (r.alike d.0 others d.2 e);
      }

  both_refused : (w : List Tok) (y : ReadNo) → both w ≡ Err y → Refuses l both V s w y
  both_refused w y e = elim (bind_err (p w) (λ x. q x.0 x.1) y e) [
    | inl h ↦ refused_first w y (hp.refused w y h)
    | inr x ↦ refused_second w y x.0.0 x.0.1 (hp.sound w x.0.0 x.0.1 x.1) ((hq x.0.0).refused x.0.1 y x.2)
  ]

  pub reads_then : Reads l n both V f s tq
  reads_then =
      let h = hq hp.some in
      let same = sym (is_first hp.some h.some h.is_valid) in
      record {
        sound = both_sound;
        again = both_again;
        refused = both_refused;
        balanced = λ b v. omega (arith, opens_joined (sp (first b)) (sq b), closes_joined (sp (first b)) (sq b), hp.balanced (first b) v.0, (hq (first b)).balanced b v.1);
        some = h.some;
        is_valid = (subst Vp same hp.is_valid, subst (λ a. Vq a h.some) same h.is_valid);
      }
