-- Steps along a code.
use Rattle.std.proofs.Common.{◌≡◌, ℕ, suc, ◌+◌, ◌<◌, ◌^◌, List, [], ◌∷◌, ◌++◌, length, drop, Bool, true, false, Option, Some, None, refl, sym, ap, ◌∙◌, subst, inl, inr, arith, length-append}
use Rattle.std.specs.Prelude.{slice_get}
use Rattle.anb_lemmas.proofs.Lists.{get_last, drop_got}
use Rattle.anb_term.specs.declared.term.Op.{Op}
use Rattle.anb_term.specs.Tree.{Tree}
use Rattle.anb_term.specs.Value.{label, values, recipe_trees}
use Rattle.anb_term.specs.FreeAlgebra.{terms, terms_over}
use Rattle.anb_term.specs.FreeLawful.{free_lawful}
use Rattle.anb_term.proofs.Lists.{slice_get-there, values_length}
use Rattle.anb_term.proofs.Frames.{values_more}
use Rattle.anb_algebra.specs.ByteMeaning.{has_operator}
use Rattle.anb_plays.specs.Plans.{Event, know, fresh, send, recv, known}
use Rattle.anb_plays.specs.Codes.{Act, takes, draws, receives, sends, works, Work, writes}
use Rattle.anb_plays.specs.Exec.{worked, IsReady, IsVerified, NoTakes, HasTakes, count_written}
use Rattle.anb_plays.specs.Fits.{Along, AnySend, AnyWork, AnyBorder, after_take, after_label, after_work, SendsIt}
use Rattle.anb_plays.proofs.Registers.{values_join, register, work}
use Rattle.anb_plays.proofs.Growing.{goes_on, no_next}
use Rattle.anb_code.specs.CodeValue.{CodeValue}
use Rattle.anb_protocol.specs.Protocols.{ProtocolValue}
use Rattle.anb_protocol.specs.Plays.{meaning_of}
use Rattle.anb_outcomes.specs.declared.certificates.CertifyNo.{CertifyNo}
use Rattle.anb_outcomes.specs.declared.certificates.CertifyNo.TheVariants.{Untrue, Sent, Loose}
use Rattle.anb_certify.specs.Along.{IsTight, IsFirstLoose, Finds}
use Rattle.anb_certify.specs.Certified.{FindsOf, Refuses}
use Rattle.anb_certify.specs.Numbered.{TableValue, HasWorked, IsLoose}
use Rattle.anb_certify.specs.Tied.{AreEnough}
use Rattle.anb_certify.specs.Walking.{Stands, written_in}
use Rattle.anb_certify.proofs.Telling.{worked_any, told_more, told_next}

-- a term more, and what was done is the same
abbrev pub heard : TableValue → Tree → TableValue
heard v t = record { terms = v.terms ++ t ∷ []; did = v.did }

abbrev worked_on : TableValue → List Tree → Work → TableValue
worked_on v ws w = record { terms = v.terms ++ ws; did = v.did ++ (length v.terms, w) ∷ [] }

pub value_is : (v u : TableValue) → v.terms ≡ u.terms → v.did ≡ u.did → v ≡ u
value_is v u e f =
    let T : List Tree → TableValue = λ l. record { terms = l; did = v.did } in
    let D : List (ℕ × Work) → TableValue = λ l. record { terms = u.terms; did = l } in
    ap T e ∙ ap D f

-- an act that does an event
abbrev pub does_one : Act → Bool
does_one (works w) = false
does_one takes = true
does_one draws = true
does_one receives = true
does_one (sends n) = true

module _ (p : ProtocolValue) (role : ℕ) (code : CodeValue) where
  abbrev has : Op → Bool
  has = has_operator p.formats

  abbrev At : List Act → List Event → ℕ → TableValue → Type 0
  At acts es n v = Stands p role code acts es n v

  -- ---- works

  pub work_ready : (acts : List Act) (es : List Event) (n : ℕ) (v : TableValue) (w : Work) → At (works w ∷ acts) es n v → IsReady has (length v.terms) w
  work_ready acts es n v w s = let r = s.ready in subst (λ k. IsReady has k w) (sym r.0) r.1.0

  -- the registers so far are few
  pub few_now : (acts : List Act) (es : List Event) (n : ℕ) (v : TableValue) → At acts es n v → length v.terms < 2 ^ 32
  few_now acts es n v s = omega (arith, s.few)

  pub untrue : (acts : List Act) (es : List Event) (n : ℕ) (v : TableValue) (w : Work) → At (works w ∷ acts) es n v → worked terms v.terms w ≡ None → Refuses p role code (Untrue n)
  untrue acts es n v w s none =
      elim (work (terms_over has) s.place.frame (free_lawful has) s.place.regs v.terms s.have w (work_ready acts es n v w s)) [
        | inl f ↦ (s.framed, s.goes_on (Some (Untrue n)) (inr ((λ h. let a = f.0 in cc), refl)))
        | inr k ↦ (let a = k.2 in let b = worked_any has v.terms w in cc)
      ]

  after_done : (acts : List Act) (es : List Event) (n : ℕ) (v : TableValue) (w : Work) (ws : List Tree) → At (works w ∷ acts) es n v → worked terms v.terms w ≡ Some ws → At acts es (n + 1) (worked_on v ws w)
  after_done acts es n v w ws s is =
      elim (work (terms_over has) s.place.frame (free_lawful has) s.place.regs v.terms s.have w (work_ready acts es n v w s)) [
        | inl f ↦ (let a = f.1 in let b = worked_any has v.terms w in absurd (let e : None ≡ Some ws = sym a ∙ b ∙ is in let none : ⊥ = cc in none))
        | inr k ↦ (
            let r = s.ready in
            let same : k.0 ≡ ws = (let a = k.2 in let b = worked_any has v.terms w in let e : Some k.0 ≡ Some ws = sym a ∙ b ∙ is in cc) in
            let V : List Tree → Type 0 = λ l. values (terms_over has) s.place.frame (recipe_trees (writes s.place.regs w)) ≡ Some l in
            let long : length (v.terms ++ ws) ≡ length v.terms + count_written w = length-append v.terms ws ∙ ap (λ j. length v.terms + j) (sym (ap length same) ∙ k.4) in
            let verified : IsVerified has acts (length (v.terms ++ ws)) = (let P : ℕ → Type 0 = λ j. IsVerified has acts (j + count_written w) in subst (IsVerified has acts) (sym long) (subst P (sym r.0) r.1.1)) in
            let regs : length v.terms ≡ length s.place.regs = values_length (terms_over has) s.place.frame s.place.regs v.terms s.have in
            let few : length v.terms + (count_written w + written_in acts) < 2 ^ 32 = s.few in
            record {
              framed = s.framed;
              place = after_work s.place w;
              few = omega (arith, few, long);
              have = values_join (terms_over has) s.place.frame s.place.regs (writes s.place.regs w) v.terms ws s.have (subst V same k.3);
              told = told_next has v.terms ws v.did w s.told (work_ready acts es n v w s) is;
              order = s.order.1;
              count = length (v.terms ++ ws);
              ready = goes_on has acts (length (v.terms ++ ws)) verified r.2;
              takes_next = λ later e. no_next has acts later r.2 e;
              goes_on = λ found f.
                  let P : ℕ → Type 0 = λ j. Finds (meaning_of p) acts es (after_work s.place w) (v.did ++ (j, w) ∷ []) (n + 1) found in
                  s.goes_on found (inl (k.1, subst P regs f));
            }
            )
      ]

  pub done_work : (acts : List Act) (es : List Event) (n : ℕ) (v u : TableValue) (w : Work) → HasWorked v w u → At (works w ∷ acts) es n v → At acts es (n + 1) u
  done_work acts es n v u w h s = subst (At acts es (n + 1)) (sym (value_is u (worked_on v h.wrote w) h.terms h.did)) (after_done acts es n v w h.wrote s h.worked)

  -- ---- events

  take_on : (acts : List Act) (t : Tree) (es : List Event) (n : ℕ) (v : TableValue) → At (takes ∷ acts) (know t ∷ es) n v → At acts es (n + 1) (heard v t)
  take_on acts t es n v s =
      let regs : length v.terms ≡ length s.place.regs = values_length (terms_over has) s.place.frame s.place.regs v.terms s.have in
      let next = drop_got s.place.frame (known es) (length v.terms) t (s.takes_next acts refl) in
      let at : slice_get s.place.frame (length s.place.regs) ≡ Some t = ap (slice_get s.place.frame) (sym regs) ∙ next.0 in
      let one : values (terms_over has) s.place.frame (recipe_trees (label (length s.place.regs) ∷ [])) ≡ Some (t ∷ []) = rw at refl in
      let long : length (v.terms ++ t ∷ []) ≡ length v.terms + 1 = length-append v.terms (t ∷ []) in
      let more : suc (length v.terms) ≡ length (v.terms ++ t ∷ []) = omega (arith, long) in
      let few : length v.terms + (1 + written_in acts) < 2 ^ 32 = s.few in
      record {
        framed = s.framed;
        place = after_take s.place;
        few = omega (arith, few, long);
        have = values_join (terms_over has) s.place.frame s.place.regs (label (length s.place.regs) ∷ []) v.terms (t ∷ []) s.have one;
        told = told_more v.terms (t ∷ []) v.did s.told;
        order = s.order;
        count = s.count;
        ready = subst (λ k. HasTakes has acts k s.count) more s.ready;
        takes_next = λ later e. ap (λ k. drop k s.place.frame) long ∙ next.1;
        goes_on = λ found f. s.goes_on found f;
      }

  label_comes : (act : Act) (acts : List Act) (e : Event) (t : Tree) (es : List Event) (n : ℕ) (v : TableValue) (s : At (act ∷ acts) (e ∷ es) n v)
      → length v.terms + (1 + written_in acts) < 2 ^ 32
      → Along AnySend AnyWork AnyBorder acts es (after_label s.place t) → IsVerified has acts (length v.terms + 1) → NoTakes has acts
      → ((found : Option CertifyNo) → Finds (meaning_of p) acts es (after_label s.place t) v.did (n + 1) found → FindsOf p role code found) → At acts es (n + 1) (heard v t)
  label_comes act acts e t es n v s few order verified none on =
      let frame = s.place.frame ++ t ∷ [] in
      let long : length (v.terms ++ t ∷ []) ≡ length v.terms + 1 = length-append v.terms (t ∷ []) in
      let one : values (terms_over has) frame (recipe_trees (label (length s.place.frame) ∷ [])) ≡ Some (t ∷ []) = rw (get_last s.place.frame t) refl in
      record {
        framed = s.framed;
        place = after_label s.place t;
        few = omega (arith, few, long);
        have = values_join (terms_over has) frame s.place.regs (label (length s.place.frame) ∷ []) v.terms (t ∷ []) (values_more (terms_over has) s.place.frame (t ∷ []) (recipe_trees s.place.regs) v.terms s.have) one;
        told = told_more v.terms (t ∷ []) v.did s.told;
        order = order;
        count = length (v.terms ++ t ∷ []);
        ready = goes_on has acts (length (v.terms ++ t ∷ [])) (subst (IsVerified has acts) (sym long) verified) none;
        takes_next = λ later e. no_next has acts later none e;
        goes_on = on;
      }

  tight : (acts : List Act) (es : List Event) (n : ℕ) (v : TableValue) (s : At acts es n v) → AreEnough v.did v.terms → IsTight (meaning_of p) s.place v.did
  tight acts es n v s enough = (v.terms, s.have, enough)

  first_loose : (acts : List Act) (es : List Event) (n : ℕ) (v : TableValue) (s : At acts es n v) (i : ℕ) → IsLoose v.did v.terms i → IsFirstLoose (meaning_of p) s.place v.did i
  first_loose acts es n v s i l = (v.terms, s.have, l.within, l.breaks, l.first)

  -- a known term, whatever the act
  pub know_on : (act : Act) (acts : List Act) (t : Tree) (es : List Event) (n : ℕ) (v : TableValue) → does_one act ≡ true → At (act ∷ acts) (know t ∷ es) n v → At acts es (n + 1) (heard v t)
  know_on takes acts t es n v d s = take_on acts t es n v s
  know_on draws acts t es n v d s = absurd s.order
  know_on receives acts t es n v d s = absurd s.order
  know_on (sends r) acts t es n v d s = absurd s.order
  know_on (works w) acts t es n v d s = cc

  pub fresh_on : (act : Act) (acts : List Act) (t : Tree) (es : List Event) (n : ℕ) (v : TableValue) → does_one act ≡ true → At (act ∷ acts) (fresh t ∷ es) n v → At acts es (n + 1) (heard v t)
  fresh_on draws acts t es n v d s =
      let r = s.ready in
      let P : ℕ → Type 0 = λ k. IsVerified has acts (k + 1) in
      label_comes draws acts (fresh t) t es n v s s.few s.order (subst P (sym r.0) r.1) r.2 (λ found f. s.goes_on found f)
  fresh_on takes acts t es n v d s = absurd s.order
  fresh_on receives acts t es n v d s = absurd s.order
  fresh_on (sends r) acts t es n v d s = absurd s.order
  fresh_on (works w) acts t es n v d s = cc

  pub receive_on : (act : Act) (acts : List Act) (t : Tree) (es : List Event) (n : ℕ) (v : TableValue) → does_one act ≡ true → AreEnough v.did v.terms → At (act ∷ acts) (recv t ∷ es) n v → At acts es (n + 1) (heard v t)
  receive_on receives acts t es n v d enough s =
      let r = s.ready in
      let P : ℕ → Type 0 = λ k. IsVerified has acts (k + 1) in
      label_comes receives acts (recv t) t es n v s s.few s.order.1 (subst P (sym r.0) r.1) r.2 (λ found f. s.goes_on found (inl (tight (receives ∷ acts) (recv t ∷ es) n v s enough, f)))
  receive_on takes acts t es n v d enough s = absurd s.order
  receive_on draws acts t es n v d enough s = absurd s.order
  receive_on (sends r) acts t es n v d enough s = absurd s.order
  receive_on (works w) acts t es n v d enough s = cc

  pub receive_loose : (act : Act) (acts : List Act) (t : Tree) (es : List Event) (n : ℕ) (v : TableValue) (i : ℕ) → does_one act ≡ true → IsLoose v.did v.terms i → At (act ∷ acts) (recv t ∷ es) n v → Refuses p role code (Loose n i)
  receive_loose receives acts t es n v i d loose s =
      (s.framed, s.goes_on (Some (Loose n i)) (inr (i, first_loose (receives ∷ acts) (recv t ∷ es) n v s i loose, refl)))
  receive_loose takes acts t es n v i d loose s = absurd s.order
  receive_loose draws acts t es n v i d loose s = absurd s.order
  receive_loose (sends r) acts t es n v i d loose s = absurd s.order
  receive_loose (works w) acts t es n v i d loose s = cc

  -- ---- sends

  pub is_send : (act : Act) (acts : List Act) (t : Tree) (es : List Event) (n : ℕ) (v : TableValue) → does_one act ≡ true → At (act ∷ acts) (send t ∷ es) n v → (r : ℕ) × (act ≡ sends r)
  is_send (sends r) acts t es n v d s = (r, refl)
  is_send takes acts t es n v d s = absurd s.order
  is_send draws acts t es n v d s = absurd s.order
  is_send receives acts t es n v d s = absurd s.order
  is_send (works w) acts t es n v d s = cc

  pub send_there : (acts : List Act) (r : ℕ) (t : Tree) (es : List Event) (n : ℕ) (v : TableValue) → At (sends r ∷ acts) (send t ∷ es) n v → r < length v.terms
  send_there acts r t es n v s = let q = s.ready in omega (arith, q.0, q.1.0)

  sends_it : (acts : List Act) (r : ℕ) (t : Tree) (es : List Event) (n : ℕ) (v : TableValue) (s : At (sends r ∷ acts) (send t ∷ es) n v) → slice_get v.terms r ≡ Some t → SendsIt (meaning_of p) s.place r t
  sends_it acts r t es n v s at = register (terms_over has) s.place.frame s.place.regs v.terms r t s.have at

  pub sent : (acts : List Act) (r : ℕ) (t : Tree) (es : List Event) (n : ℕ) (v : TableValue) → (slice_get v.terms r ≡ Some t → ⊥) → At (sends r ∷ acts) (send t ∷ es) n v → Refuses p role code (Sent n)
  sent acts r t es n v not s =
      let x = slice_get-there v.terms r (send_there acts r t es n v s) in
      let has_it = register (terms_over has) s.place.frame s.place.regs v.terms r x.0 s.have x.1 in
      (s.framed, s.goes_on (Some (Sent n)) (inr ((λ it. not (x.1 ∙ sym has_it ∙ it)), refl)))

  pub send_on : (acts : List Act) (r : ℕ) (t : Tree) (es : List Event) (n : ℕ) (v : TableValue) → slice_get v.terms r ≡ Some t → AreEnough v.did v.terms → At (sends r ∷ acts) (send t ∷ es) n v → At acts es (n + 1) v
  send_on acts r t es n v at enough s =
      let q = s.ready in
      let few : length v.terms + (0 + written_in acts) < 2 ^ 32 = s.few in
      record {
        framed = s.framed;
        place = s.place;
        few = omega (arith, few);
        have = s.have;
        told = s.told;
        order = s.order.2;
        count = length v.terms;
        ready = goes_on has acts (length v.terms) (subst (IsVerified has acts) (sym q.0) q.1.1) q.2;
        takes_next = λ later e. no_next has acts later q.2 e;
        goes_on = λ found f. s.goes_on found (inl (sends_it acts r t es n v s at, inl (tight (sends r ∷ acts) (send t ∷ es) n v s enough, f)));
      }

  pub send_loose : (acts : List Act) (r : ℕ) (t : Tree) (es : List Event) (n : ℕ) (v : TableValue) (i : ℕ) → slice_get v.terms r ≡ Some t → IsLoose v.did v.terms i → At (sends r ∷ acts) (send t ∷ es) n v → Refuses p role code (Loose n i)
  send_loose acts r t es n v i at loose s =
      (s.framed, s.goes_on (Some (Loose n i)) (inl (sends_it acts r t es n v s at, inr (i, first_loose (sends r ∷ acts) (send t ∷ es) n v s i loose, refl))))

  -- ---- the end

  end_on : (es : List Event) (n : ℕ) (v : TableValue) (s : At [] es n v) → es ≡ []
  end_on [] n v s = refl
  end_on (e ∷ es) n v s = absurd s.order

  pub ends_well : (es : List Event) (n : ℕ) (v : TableValue) → AreEnough v.did v.terms → At [] es n v → FindsOf p role code None
  ends_well es n v enough s0 =
      let s : At [] [] n v = subst (λ l. At [] l n v) (end_on es n v s0) s0 in
      s.goes_on None (inl (tight [] [] n v s enough, refl))

  pub ends_loose : (es : List Event) (n : ℕ) (v : TableValue) (i : ℕ) → IsLoose v.did v.terms i → At [] es n v → Refuses p role code (Loose n i)
  ends_loose es n v i loose s0 =
      let s : At [] [] n v = subst (λ l. At [] l n v) (end_on es n v s0) s0 in
      (s.framed, s.goes_on (Some (Loose n i)) (inr (i, first_loose [] [] n v s i loose, refl)))
