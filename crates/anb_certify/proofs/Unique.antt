-- A code has at most one finding.
use Rattle.std.proofs.Common.{◌≡◌, ◌≢◌, ℕ, ◌+◌, ◌<◌, List, [], ◌∷◌, length, Option, Some, None, refl, sym, ap, ◌∙◌, subst, inl, inr}
use Rattle.std.proofs.lemmas.Bool.{cases_order}
use Rattle.std.proofs.lemmas.Option.{same_Some}
use Rattle.anb_term.specs.Tree.{Tree}
use Rattle.anb_term.specs.Value.{Meaning}
use Rattle.anb_plays.specs.Plans.{Event, know, fresh, send, recv}
use Rattle.anb_plays.specs.Codes.{Act, takes, draws, receives, sends, works, Work}
use Rattle.anb_plays.specs.Fits.{Place, start, after_take, after_label, after_work}
use Rattle.anb_code.specs.CodeValue.{CodeValue}
use Rattle.anb_code.specs.Meaning.{acts_of}
use Rattle.anb_protocol.specs.Plays.{events_of, meaning_of}
use Rattle.anb_protocol.specs.Protocols.{ProtocolValue}
use Rattle.anb_outcomes.specs.declared.certificates.CertifyNo.{CertifyNo}
use Rattle.anb_outcomes.specs.declared.certificates.CertifyNo.TheVariants.{Frame, Untrue, Sent, Loose, NoMemory}
use Rattle.anb_certify.specs.Along.{AtBorder, Finds, HaveTerms, IsFirstLoose, IsTight, then_did}
use Rattle.anb_certify.specs.Certified.{FindsOf, HasFrame, IsCertified, Refuses}
use Rattle.anb_certify.specs.Statements.{NoneIsBoth, RefusalsAreUnique}
use Rattle.anb_certify.specs.Tied.{KeepsRules}

module _ {A : Type 0} (m : Meaning A) where
  module _ (s : Place) (did : List (ℕ × Work)) where
    same_terms : (ts us : List Tree) → HaveTerms m s ts → HaveTerms m s us → ts ≡ us
    same_terms ts us x y = same_Some ts us (sym x ∙ y)

    never_both : (i : ℕ) → IsTight m s did → IsFirstLoose m s did i → ⊥
    never_both i (ts, have, enough) (us, has, within, loose, before) =
        let e : us ≡ ts = same_terms us ts has have in
        loose (subst (λ (l : List Tree). KeepsRules did l i) (sym e) (enough i (subst (λ (l : List Tree). i < length l) e within)))

    keeps_in : (i k : ℕ) → k < i → (l : IsFirstLoose m s did i) → (us : List Tree) → HaveTerms m s us → KeepsRules did us k
    keeps_in i k less (ts, have, within, loose, before) us has = subst (λ (l : List Tree). KeepsRules did l k) (same_terms ts us have has) (before k less)

    same_loose : (i j : ℕ) → IsFirstLoose m s did i → IsFirstLoose m s did j → i ≡ j
    same_loose i j one two = elim (cases_order i j) [
      | inl same ↦ same
      | inr apart ↦ elim apart [
        | inl less ↦ absurd (one.3 (keeps_in j i less two one.0 one.1))
        | inr more ↦ absurd (two.3 (keeps_in i j more one two.0 two.1))
      ]
    ]

    border_one : (n : ℕ) (f g : Option CertifyNo) (P Q : Type 0) → (P → Q → f ≡ g) → AtBorder m s did n f P → AtBorder m s did n g Q → f ≡ g
    border_one n f g P Q on (inl (tight, p)) (inl (also, q)) = on p q
    border_one n f g P Q on (inl (tight, p)) (inr (j, loose, d)) = absurd (never_both j tight loose)
    border_one n f g P Q on (inr (i, loose, e)) (inl (tight, q)) = absurd (never_both i tight loose)
    border_one n f g P Q on (inr (i, loose, e)) (inr (j, also, d)) = e ∙ ap (λ k. Some (Loose n k)) (same_loose i j loose also) ∙ sym d

  finding_one : (acts : List Act) (es : List Event) (s : Place) (did : List (ℕ × Work)) (n : ℕ) (f g : Option CertifyNo) → Finds m acts es s did n f → Finds m acts es s did n g → f ≡ g
  finding_one [] [] s did n f g x y = border_one s did n f g _ _ (λ p q. p ∙ sym q) x y
  finding_one (works w ∷ acts) es s did n f g (inl (is, x)) (inl (also, y)) = finding_one acts es (after_work s w) (then_did did s w) (n + 1) f g x y
  finding_one (works w ∷ acts) es s did n f g (inl (is, x)) (inr (never, d)) = absurd (never is)
  finding_one (works w ∷ acts) es s did n f g (inr (never, e)) (inl (is, y)) = absurd (never is)
  finding_one (works w ∷ acts) es s did n f g (inr (never, e)) (inr (also, d)) = e ∙ sym d
  finding_one (takes ∷ acts) (know t ∷ es) s did n f g x y = finding_one acts es (after_take s) did (n + 1) f g x y
  finding_one (draws ∷ acts) (fresh t ∷ es) s did n f g x y = finding_one acts es (after_label s t) did (n + 1) f g x y
  finding_one (receives ∷ acts) (recv t ∷ es) s did n f g x y = border_one s did n f g _ _ (λ p q. finding_one acts es (after_label s t) did (n + 1) f g p q) x y
  finding_one (sends r ∷ acts) (send t ∷ es) s did n f g (inl (is, x)) (inl (also, y)) = border_one s did n f g _ _ (λ p q. finding_one acts es s did (n + 1) f g p q) x y
  finding_one (sends r ∷ acts) (send t ∷ es) s did n f g (inl (is, x)) (inr (never, d)) = absurd (never is)
  finding_one (sends r ∷ acts) (send t ∷ es) s did n f g (inr (never, e)) (inl (is, y)) = absurd (never is)
  finding_one (sends r ∷ acts) (send t ∷ es) s did n f g (inr (never, e)) (inr (also, d)) = e ∙ sym d
  finding_one [] (e ∷ es) s did n f g x y = absurd x
  finding_one (act ∷ acts) es s did n f g x y = absurd x

module _ (p : ProtocolValue) (role : ℕ) (code : CodeValue) where
  found_one : (f g : Option CertifyNo) → FindsOf p role code f → FindsOf p role code g → f ≡ g
  found_one f g x y = finding_one (meaning_of p) (acts_of code) (events_of p role) (start (events_of p role)) [] 1 f g x y

  same_frame : (i j : ℕ) → Refuses p role code (Frame i) → Refuses p role code (Frame j) → i ≡ j
  same_frame i j (inl (never, x)) (inl (also, y)) = x ∙ sym y
  same_frame i j (inl (never, x)) (inr (named, y)) = absurd (never named)
  same_frame i j (inr (named, x)) (inl (never, y)) = absurd (never named)
  same_frame i j (inr (named, x)) (inr (also, y)) = same_Some i j (sym x ∙ y)

  framed : (n : ℕ) → HasFrame p role code → Refuses p role code (Frame n) → ⊥
  framed n frame (inl (never, x)) = never frame.0
  framed n frame (inr (named, x)) = let e : Some n ≡ None = sym x ∙ frame.1 in absurd (cc)

  one_finding : (one other : CertifyNo) → FindsOf p role code (Some one) → FindsOf p role code (Some other) → one ≡ other
  one_finding one other x y = same_Some one other (found_one (Some one) (Some other) x y)

  unique : (one other : CertifyNo) → one ≢ NoMemory → other ≢ NoMemory → Refuses p role code one → Refuses p role code other → one ≡ other
  unique NoMemory other some also x y = absurd (some refl)
  unique one NoMemory some also x y = absurd (also refl)
  unique (Frame i) (Frame j) some also x y = ap Frame (same_frame i j x y)
  unique (Frame i) (Untrue j) some also x y = absurd (framed i y.0 x)
  unique (Frame i) (Sent j) some also x y = absurd (framed i y.0 x)
  unique (Frame i) (Loose j r) some also x y = absurd (framed i y.0 x)
  unique (Untrue i) (Frame j) some also x y = absurd (framed j x.0 y)
  unique (Sent i) (Frame j) some also x y = absurd (framed j x.0 y)
  unique (Loose i r) (Frame j) some also x y = absurd (framed j x.0 y)
  unique (Untrue i) (Untrue j) some also x y = one_finding (Untrue i) (Untrue j) x.1 y.1
  unique (Untrue i) (Sent j) some also x y = one_finding (Untrue i) (Sent j) x.1 y.1
  unique (Untrue i) (Loose j r) some also x y = one_finding (Untrue i) (Loose j r) x.1 y.1
  unique (Sent i) (Untrue j) some also x y = one_finding (Sent i) (Untrue j) x.1 y.1
  unique (Sent i) (Sent j) some also x y = one_finding (Sent i) (Sent j) x.1 y.1
  unique (Sent i) (Loose j r) some also x y = one_finding (Sent i) (Loose j r) x.1 y.1
  unique (Loose i r) (Untrue j) some also x y = one_finding (Loose i r) (Untrue j) x.1 y.1
  unique (Loose i r) (Sent j) some also x y = one_finding (Loose i r) (Sent j) x.1 y.1
  unique (Loose i r) (Loose j q) some also x y = one_finding (Loose i r) (Loose j q) x.1 y.1

  nothing_found : (no : CertifyNo) → IsCertified p role code → FindsOf p role code (Some no) → no ≡ NoMemory
  nothing_found why certified x = let e : Some why ≡ None = found_one (Some why) None x certified.1 in absurd (cc)

  never_refused : (no : CertifyNo) → IsCertified p role code → Refuses p role code no → no ≡ NoMemory
  never_refused (Frame n) certified x = absurd (framed n certified.0 x)
  never_refused (Untrue n) certified x = nothing_found (Untrue n) certified x.1
  never_refused (Sent n) certified x = nothing_found (Sent n) certified x.1
  never_refused (Loose n r) certified x = nothing_found (Loose n r) certified x.1
  never_refused NoMemory certified x = refl

pub refusals_are_unique : RefusalsAreUnique
refusals_are_unique p role code one other some also x y = unique p role code one other some also x y

pub none_is_both : NoneIsBoth
none_is_both p role code why certified x = never_refused p role code why certified x
