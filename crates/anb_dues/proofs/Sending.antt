-- What a run sends that goes on: what it sent so far, and what is sent from further on.
use Rattle.std.proofs.Common.{◌≡◌, ℕ, suc, ◌+◌, List, [], ◌∷◌, ◌++◌, length, Some, refl, sym, ap, ◌∙◌, subst, arith, append-nil, append_assoc}
use Rattle.std.specs.Prelude.{slice_get}
use Rattle.anb_lemmas.proofs.Options.{mapped_from}
use Rattle.anb_term.specs.Value.{Meaning}
use Rattle.anb_term.proofs.Steps.{bound}
use Rattle.anb_plays.specs.Plays.{Played, stopped, ends}
use Rattle.anb_plays.specs.Codes.{Act, takes, draws, receives, sends, works}
use Rattle.anb_plays.specs.Runs.{says_if}
use Rattle.anb_plays.specs.Exec.{on_written, worked, exec}
use Rattle.anb_openings.specs.Steps.{Progress, begun, writing, drawing, saying, hearing, after, after_all}

module _ {A : Type 0} (m : Meaning A) (made : List A) (draw : ℕ → A) (drawn : (i : ℕ) (x : A) → slice_get made i ≡ Some x → draw i ≡ x) where
  -- all that is sent
  abbrev in_all : List Act → ℕ → Progress A → List A
  in_all acts at s = s.sent ++ (exec m draw acts s.table s.event at s.drawn s.left).sent

  hears : (acts : List Act) (s t : Progress A) (at : ℕ) (left : List A) → hearing left s ≡ Some t → s.sent ++ (exec m draw (receives ∷ acts) s.table s.event at s.drawn left).sent ≡ in_all acts (at + 1) t
  hears acts s t at [] e = cc
  hears acts s t at (x ∷ left) e =
      let same : record s { table = s.table ++ x ∷ []; event = s.event + 1; left = left } ≡ t = cc in
      subst (λ (u : Progress A). s.sent ++ (exec m draw (receives ∷ acts) s.table s.event at s.drawn (x ∷ left)).sent ≡ in_all acts (at + 1) u) same refl

  one : (act : Act) (acts : List Act) (s t : Progress A) (at : ℕ) → after m made act s ≡ Some t → in_all (act ∷ acts) at s ≡ in_all acts (at + 1) t
  one takes acts s t at e = let same : s ≡ t = cc in subst (λ u. in_all (takes ∷ acts) at s ≡ in_all acts (at + 1) u) same refl
  one draws acts s t at e =
      let f = mapped_from (λ x. drawing x s) (slice_get made s.drawn) t e in
      subst (λ u. in_all (draws ∷ acts) at s ≡ in_all acts (at + 1) u) f.2
      (ap (λ x. s.sent ++ (exec m draw acts (s.table ++ x ∷ []) s.event (at + 1) (s.drawn + 1) s.left).sent) (drawn s.drawn f.0 f.1))
  one receives acts s t at e = hears acts s t at s.left e
  one (sends r) acts s t at e =
      let f = mapped_from (λ x. saying x s) (slice_get s.table r) t e in
      let next : Played A = exec m draw acts s.table (s.event + 1) (at + 1) s.drawn s.left in
      subst (λ u. in_all (sends r ∷ acts) at s ≡ in_all acts (at + 1) u) f.2
      (ap (λ o. s.sent ++ (says_if o next).sent) f.1 ∙ sym (append_assoc s.sent (f.0 ∷ []) next.sent))
  one (works w) acts s t at e =
      let f = mapped_from (λ ws. writing ws s) (worked m s.table w) t e in
      subst (λ u. in_all (works w ∷ acts) at s ≡ in_all acts (at + 1) u) f.2
      (ap (λ o. s.sent ++ (on_written o (λ ws. exec m draw acts (s.table ++ ws) s.event (at + 1) s.drawn s.left) (ends (stopped s.event (at + 1)) s.left)).sent) f.1)

  all : (front acts : List Act) (s t : Progress A) (at : ℕ) → after_all m made front s ≡ Some t → in_all (front ++ acts) at s ≡ in_all acts (at + length front) t
  all [] acts s t at e =
      let same : s ≡ t = cc in
      let here : at ≡ at + 0 = omega arith in
      ap (in_all acts at) same ∙ ap (λ k. in_all acts k t) here
  all (act ∷ front) acts s t at e =
      let b = bound (after_all m made front) (after m made act s) t e in
      let here : at + 1 + length front ≡ at + suc (length front) = omega arith in
      one act (front ++ acts) s b.0 at b.1 ∙ all front acts b.0 t (at + 1) b.2 ∙ ap (λ k. in_all acts k t) here

  -- a run whose first acts go on sends what they sent first
  pub sends_first : (front back : List Act) (known arrivals : List A) (t : Progress A) → after_all m made front (begun known arrivals) ≡ Some t
      → (rest : List A) × ((exec m draw (front ++ back) known 0 0 0 arrivals).sent ≡ t.sent ++ rest)
  sends_first front back known arrivals t e =
      ((exec m draw back t.table t.event (0 + length front) t.drawn t.left).sent, all front back (begun known arrivals) t 0 e)

-- ---- what was sent stays

module _ {A : Type 0} (m : Meaning A) (made : List A) where
  heard : (s t : Progress A) (left : List A) → hearing left s ≡ Some t → t.sent ≡ s.sent
  heard s t [] e = cc
  heard s t (x ∷ left) e =
      let same : record s { table = s.table ++ x ∷ []; event = s.event + 1; left = left } ≡ t = cc in
      sym (ap (λ (u : Progress A). u.sent) same)

  -- nothing more was sent
  no_more : (s t : Progress A) → t.sent ≡ s.sent → (rest : List A) × (t.sent ≡ s.sent ++ rest)
  no_more s t e = ([], e ∙ sym (append-nil s.sent))

  more_sent : (act : Act) (s t : Progress A) → after m made act s ≡ Some t → (rest : List A) × (t.sent ≡ s.sent ++ rest)
  more_sent takes s t e = let same : s ≡ t = cc in no_more s t (sym (ap (λ (u : Progress A). u.sent) same))
  more_sent draws s t e = let f = mapped_from (λ x. drawing x s) (slice_get made s.drawn) t e in no_more s t (sym (ap (λ (u : Progress A). u.sent) f.2))
  more_sent receives s t e = no_more s t (heard s t s.left e)
  more_sent (sends r) s t e = let f = mapped_from (λ x. saying x s) (slice_get s.table r) t e in (f.0 ∷ [], sym (ap (λ (u : Progress A). u.sent) f.2))
  more_sent (works w) s t e = let f = mapped_from (λ ws. writing ws s) (worked m s.table w) t e in no_more s t (sym (ap (λ (u : Progress A). u.sent) f.2))

  pub sent_stays : (acts : List Act) (s t : Progress A) → after_all m made acts s ≡ Some t → (rest : List A) × (t.sent ≡ s.sent ++ rest)
  sent_stays [] s t e = let same : s ≡ t = cc in no_more s t (sym (ap (λ (u : Progress A). u.sent) same))
  sent_stays (act ∷ acts) s t e =
      let b = bound (after_all m made acts) (after m made act s) t e in
      let one = more_sent act s b.0 b.1 in
      let more = sent_stays acts b.0 t b.2 in
      (one.0 ++ more.0, more.1 ∙ ap (λ l. l ++ more.0) one.1 ∙ append_assoc s.sent one.0 more.0)
