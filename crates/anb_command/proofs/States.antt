-- What single calls leave of all that a wire tells.
use Rattle.std.proofs.Common.{◌≡◌, ℕ, ◌≤◌, List, [], ◌∷◌, Option, Result, Ok, Err, OnOk, OnErr, refl, ap, sym, ◌∙◌, subst}
use Rattle.anb_base.specs.Moves.{Rose, Put, PutPrefix}
use Rattle.anb_base.specs.Places.{line_of}
use Rattle.anb_base.specs.Wires.{WireState}
use Rattle.anb_base.specs.declared.content.Failed.{Failed}
use Rattle.anb_base.specs.declared.place.Place.{Place}
use Rattle.anb_text.specs.declared.writing.WriteNo.{WriteNo}
use Rattle.anb_text.specs.Writing.{IsWritten}
use Rattle.anb_command.specs.OverWire.{DidNotReach, HasReached, OnlyWrites}

-- what stands beside a side of a wire
abbrev Side : Type 0
Side = Option (List ℕ) × ℕ

abbrev beside : Side → Side → Side → List Side
beside x y z = x ∷ y ∷ z ∷ []

first : (x y : Side) (xs ys : List Side) → x ∷ xs ≡ y ∷ ys → x ≡ y
first x y xs ys e = cc

rest : (x y : Side) (xs ys : List Side) → x ∷ xs ≡ y ∷ ys → xs ≡ ys
rest x y xs ys e = cc

-- all that a wire tells
abbrev pub telling : (left taken_at : Option (List ℕ)) (read_faults : ℕ) (written : Option (List ℕ)) (write_faults : ℕ) (reached : Option (List ℕ)) (reach_faults : ℕ) → WireState
telling left taken_at read_faults written write_faults reached reach_faults = record {
  left = left;
  taken_at = taken_at;
  read_faults = read_faults;
  written = written;
  write_faults = write_faults;
  reached = reached;
  reach_faults = reach_faults;
}

module _ (l m t u w x p q : Option (List ℕ)) (a b c d e f : ℕ) (S T : WireState) (is : S ≡ telling l t a w c p e) (js : T ≡ telling m u b x d q f) where
  -- ---- an attempt to reach a place

  module _ (left : m ≡ l) (taken : u ≡ t) (reads : b ≡ a) (written : x ≡ w) (writes : d ≡ c) (never_falls : e ≤ f) where
    tried : telling m u b x d q f ≡ telling l t a w c q f
    tried = rw (left, taken, reads, written, writes) refl

    parts_reached : (place : Place) → Put p q (line_of place) → f ≡ e → HasReached place (telling l t a w c p e) (telling m u b x d q f)
    parts_reached place put quiet = record { same = tried ∙ ap (λ r. telling l t a w c q r) quiet; told = put }

    parts_failed : q ≡ p → Rose e f → DidNotReach (telling l t a w c p e) (telling m u b x d q f)
    parts_failed untold cause = record { same = tried ∙ ap (λ r. telling l t a w c r f) untold; cause = cause; never_falls = never_falls }

    pub has_reached : (r : Result (Unit {0}) Failed) (place : Place) → OnOk r (Put p q (line_of place)) → OnOk r (f ≡ e) → OnOk r (HasReached place S T)
    has_reached (Ok y) place put quiet =
        subst (λ (V : WireState). HasReached place V T) (sym is) (subst (λ (V : WireState). HasReached place (telling l t a w c p e) V) (sym js) (parts_reached place put quiet))
    has_reached (Err y) place put quiet = tt

    pub did_not_reach : (r : Result (Unit {0}) Failed) → OnErr r (q ≡ p) → OnErr r (Rose e f) → OnErr r (DidNotReach S T)
    did_not_reach (Ok y) untold cause = tt
    did_not_reach (Err y) untold cause =
        subst (λ (V : WireState). DidNotReach V T) (sym is) (subst (λ (V : WireState). DidNotReach (telling l t a w c p e) V) (sym js) (parts_failed untold cause))

  -- ---- writing

  module _ (kept : beside (m, b) (q, f) (u, 0) ≡ beside (l, a) (p, e) (t, 0)) (never_falls : c ≤ d) where
    pub only_writes : OnlyWrites S T
    only_writes = subst (λ (V : WireState). OnlyWrites V T) (sym is) (subst (λ (V : WireState). OnlyWrites (telling l t a w c p e) V) (sym js) (record { same = same; never_falls = never_falls })) where
      same : telling m u b x d q f ≡ telling l t a x d p e
      same =
          let front = first (m, b) (l, a) _ _ kept in
          let behind = rest (m, b) (l, a) _ _ kept in
          let second = first (q, f) (p, e) _ _ behind in
          let third = first (u, 0) (t, 0) _ _ (rest (q, f) (p, e) _ _ behind) in
          let left : m ≡ l = ap (λ (y : Side). y.0) front in
          let reads : b ≡ a = ap (λ (y : Side). y.1) front in
          let reached : q ≡ p = ap (λ (y : Side). y.0) second in
          let reaches : f ≡ e = ap (λ (y : Side). y.1) second in
          let taken : u ≡ t = ap (λ (y : Side). y.0) third in
          rw (left, taken, reads, reached, reaches) refl

  written_is : S.written ≡ w
  written_is = ap (λ (V : WireState). V.written) is

  written_now_is : T.written ≡ x
  written_now_is = ap (λ (V : WireState). V.written) js

  write_faults_is : S.write_faults ≡ c
  write_faults_is = ap (λ (V : WireState). V.write_faults) is

  write_faults_now_is : T.write_faults ≡ d
  write_faults_now_is = ap (λ (V : WireState). V.write_faults) js

  pub puts : (r : Result (Unit {0}) Failed) (text : List ℕ) → OnOk r (Put w x text) → OnOk r (Put S.written T.written text)
  puts (Ok y) text put = subst (λ (v : Option (List ℕ)). Put v T.written text) (sym written_is) (subst (λ (v : Option (List ℕ)). Put w v text) (sym written_now_is) put)
  puts (Err y) text put = tt

  pub puts_prefix : (r : Result (Unit {0}) Failed) (text : List ℕ) → OnErr r (PutPrefix w x text) → OnErr r (PutPrefix S.written T.written text)
  puts_prefix (Ok y) text put = tt
  puts_prefix (Err y) text put = subst (λ (v : Option (List ℕ)). PutPrefix v T.written text) (sym written_is) (subst (λ (v : Option (List ℕ)). PutPrefix w v text) (sym written_now_is) put)

  pub write_rose : (r : Result (Unit {0}) Failed) → OnErr r (Rose c d) → OnErr r (Rose S.write_faults T.write_faults)
  write_rose (Ok y) rose = tt
  write_rose (Err y) rose = subst (λ (n : ℕ). Rose n T.write_faults) (sym write_faults_is) (subst (λ (n : ℕ). Rose c n) (sym write_faults_now_is) rose)

  pub write_quiet : (r : Result (Unit {0}) Failed) → OnOk r (d ≡ c) → OnOk r (T.write_faults ≡ S.write_faults)
  write_quiet (Ok y) same = write_faults_now_is ∙ same ∙ sym write_faults_is
  write_quiet (Err y) same = tt

-- a text that is written, seen in all that the wire tells
text_moved : (text : List ℕ) (r : Result (Unit {0}) WriteNo) (w x w' x' : Option (List ℕ)) (c d c' d' : ℕ) → w' ≡ w → x' ≡ x → c' ≡ c → d' ≡ d → IsWritten text r w x c d → IsWritten text r w' x' c' d'
text_moved text r w x w' x' c d c' d' e1 e2 e3 e4 is = rw (e1, e2, e3, e4) is

pub told_written_by : (l m t u w x p q : Option (List ℕ)) (a b c d e f : ℕ) (S T : WireState) → S ≡ telling l t a w c p e → T ≡ telling m u b x d q f
    → (text : List ℕ) (r : Result (Unit {0}) WriteNo) → IsWritten text r w x c d → IsWritten text r S.written T.written S.write_faults T.write_faults
told_written_by l m t u w x p q a b c d e f S T is js text r written =
    text_moved text r w x S.written T.written c d S.write_faults T.write_faults (ap (λ (V : WireState). V.written) is) (ap (λ (V : WireState). V.written) js) (ap (λ (V : WireState). V.write_faults) is) (ap (λ (V : WireState). V.write_faults) js) written
