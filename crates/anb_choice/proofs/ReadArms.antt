-- The arms of a text that were read, one after another.
use Rattle.std.proofs.Common.{◌≡◌, ℕ, ◌+◌, ◌<◌, List, [], ◌∷◌, ◌++◌, length, take, drop, get_or, sym, ap, subst, ◌∙◌, arith}
use Rattle.std.specs.List.{AllZip}
use Rattle.std.proofs.lemmas.List.{drop_more, get_or_default, length-map, length-take-le, take-append-drop}
use Rattle.std.proofs.Math.ListN.{get_or-map}
use Rattle.anb_lemmas.proofs.Each.{take_next, zip_and_last}
use Rattle.anb_protocol.specs.Protocols.{ProtocolValue}
use Rattle.anb_outcomes.specs.declared.choices.BranchNo.{BranchNo}
use Rattle.anb_outcomes.specs.declared.choices.BranchNo.TheVariants.{Token, Shape, ArmRead, ArmResolve, Roles, Chooser, Blind, NoMemory}
use Rattle.anb_choice.specs.declared.marks.Mark.{Mark}
use Rattle.anb_choice.specs.declared.order.Span.{Span}
use Rattle.anb_choice.specs.Branching.{ArmIsRefused, Tells, straights}
use Rattle.anb_choice.specs.Order.{bytes_between, stem_end, straight}
use Rattle.anb_choice.specs.ArmRefusals.{IsRefusedAs}

-- an arm is refused behind others that weren't
pub refused_at : (texts : List (List ℕ)) (i : ℕ) (text : List ℕ) (arms : List ProtocolValue) (why : BranchNo)
    → i < length texts → text ≡ get_or texts i text → AllZip Tells (take i texts) arms → IsRefusedAs text (i + 1) why → ArmIsRefused texts why
refused_at texts i text arms (Token at) h e told r = absurd r
refused_at texts i text arms (Shape at) h e told r = absurd r
refused_at texts i text arms (ArmRead arm why) h e told r = record {
  before = take i texts;
  text = text;
  others = drop (i + 1) texts;
  are = sym (take-append-drop i texts) ∙ ap (λ l. take i texts ++ l) (drop_more texts i text h ∙ ap (λ y. y ∷ drop (i + 1) texts) (sym e));
  is = r.0 ∙ ap (λ n. n + 1) (sym (length_front texts i h));
  arms = arms;
  told = told;
  refused = r.1;
}
  where
    length_front : (xs : List (List ℕ)) (n : ℕ) → n < length xs → length (take n xs) ≡ n
    length_front xs n k = length-take-le n xs (omega (arith, k))
refused_at texts i text arms (ArmResolve arm why) h e told r = record {
  before = take i texts;
  text = text;
  others = drop (i + 1) texts;
  are = sym (take-append-drop i texts) ∙ ap (λ l. take i texts ++ l) (drop_more texts i text h ∙ ap (λ y. y ∷ drop (i + 1) texts) (sym e));
  is = r.0 ∙ ap (λ n. n + 1) (sym (length_front texts i h));
  arms = arms;
  told = told;
  refused = r.1;
}
  where
    length_front : (xs : List (List ℕ)) (n : ℕ) → n < length xs → length (take n xs) ≡ n
    length_front xs n k = length-take-le n xs (omega (arith, k))
refused_at texts i text arms (Roles arm) h e told r = absurd r
refused_at texts i text arms Chooser h e told r = absurd r
refused_at texts i text arms (Blind role arm) h e told r = absurd r
refused_at texts i text arms NoMemory h e told r = absurd r

-- ---- the arms of a text, one after another

module _ (x : List ℕ) (ms : List Mark) (spans : List Span) (i : ℕ) (d : Span) (n : ℕ) (text items : List ℕ) (h : i < length spans) (stem : n ≡ stem_end ms)
    (made : items ≡ take n x ++ 10 ∷ bytes_between x (get_or spans i d).from (get_or spans i d).to) (same : text ≡ items) where
  within : i < length (straights x ms spans)
  within = omega (arith, h, length-map spans (straight x ms))

  made_so : text ≡ straight x ms (get_or spans i d)
  made_so = same ∙ made ∙ ap (λ k. take k x ++ 10 ∷ bytes_between x (get_or spans i d).from (get_or spans i d).to) stem

  at_place : text ≡ get_or (straights x ms spans) i text
  at_place = made_so ∙ sym (get_or-map (straight x ms) spans i d) ∙ get_or_default (straights x ms spans) i (straight x ms d) text within

  pub next_arm : (p : ProtocolValue) (arms : List ProtocolValue) → Tells text p → AllZip Tells (take i (straights x ms spans)) arms → AllZip Tells (take (i + 1) (straights x ms spans)) (arms ++ p ∷ [])
  next_arm p arms tells told =
      subst (λ (l : List (List ℕ)). AllZip Tells l (arms ++ p ∷ [])) (sym (take_next (straights x ms spans) i text within at_place))
      (zip_and_last Tells (take i (straights x ms spans)) arms text p told tells)

  pub first_refused : (arms : List ProtocolValue) (why : BranchNo) → AllZip Tells (take i (straights x ms spans)) arms → IsRefusedAs text (i + 1) why → ArmIsRefused (straights x ms spans) why
  first_refused arms why told r = refused_at (straights x ms spans) i text arms why within at_place told r
