-- A suite that grows part by part.
use Rattle.std.proofs.Common.{◌≡◌, ℕ, ◌+◌, ◌<◌, List, [], ◌∷◌, ◌++◌, length, take, drop, true, false, refl, sym, ap, ◌∙◌, subst, arith, length-append, append_assoc}
use Rattle.std.specs.List.{flat_map}
use Rattle.std.proofs.lemmas.List.{append-nil, take-append-drop}
use Rattle.std.proofs.lemmas.Grind.{flat_map-append}
use Rattle.anb_attempts.specs.declared.attempts.TheConstants.{MOST}
use Rattle.anb_attempts.specs.declared.attempts.Attempt.{Attempt}
use Rattle.anb_attempts.specs.declared.attempts.Gap.{Gap}
use Rattle.anb_attempts.specs.declared.attempts.Scene.{Scene}
use Rattle.anb_attempts.specs.declared.attempts.Suite.{Suite}
use Rattle.anb_attempts.specs.Attempts.{AreParts, ComesOf, Covers, HasAdded, IsJoined, PartValue}
use Rattle.anb_attempts.specs.Parts.{HasPut}

abbrev pub scenes_in : List PartValue → List Scene
scenes_in parts = flat_map (λ (part : PartValue). part.scenes) parts

abbrev pub attempts_in : List PartValue → List Attempt
attempts_in parts = flat_map (λ (part : PartValue). part.attempts) parts

abbrev pub gaps_in : List PartValue → List Gap
gaps_in parts = flat_map (λ (part : PartValue). part.gaps) parts

-- one more at the end of what was there before
and_last : {A : Type 0} (f : PartValue → List A) (old mid new : List A) (parts : List PartValue) (part : PartValue) → mid ≡ old ++ flat_map f parts → new ≡ mid ++ f part → new ≡ old ++ flat_map f (parts ++ part ∷ [])
and_last f old mid new parts part e g =
    g ∙ ap (λ l. l ++ f part) e ∙ append_assoc old (flat_map f parts) (f part)
    ∙ ap (λ l. old ++ (flat_map f parts ++ l)) (sym (append-nil (f part))) ∙ ap (λ l. old ++ l) (sym (flat_map-append f parts (part ∷ [])))

module _ {X : Type 0} (Is : ℕ → X → PartValue → Type 0) where
  one_more : (n : ℕ) (xs : List X) (parts : List PartValue) (x : X) (part : PartValue) → AreParts Is n xs parts → Is (n + length (scenes_in parts)) x part → AreParts Is n (xs ++ x ∷ []) (parts ++ part ∷ [])
  one_more n [] [] x part are is = (subst (λ k. Is k x part) (let e : n + 0 ≡ n = omega arith in e) is, tt)
  one_more n [] (q ∷ qs) x part are is = absurd are
  one_more n (y ∷ ys) [] x part are is = absurd are
  one_more n (y ∷ ys) (q ∷ qs) x part are is =
      let e : n + length (q.scenes ++ scenes_in qs) ≡ (n + length q.scenes) + length (scenes_in qs) = omega (arith, length-append q.scenes (scenes_in qs)) in
      (are.0, one_more (n + length q.scenes) ys qs x part are.1 (subst (λ k. Is k x part) e is))

  -- of one, and of one more
  pub comes_of_one : (n : ℕ) (x : X) (part : PartValue) → Is n x part → ComesOf Is n (x ∷ []) part
  comes_of_one n x part is = record {
    parts = part ∷ [];
    are = (is, tt);
    scenes = sym (append-nil part.scenes);
    attempts = sym (append-nil part.attempts);
    gaps = sym (append-nil part.gaps);
  }

  pub comes_of_more : (n : ℕ) (xs : List X) (x : X) (part more both : PartValue) → ComesOf Is n xs part → Is (n + length part.scenes) x more → IsJoined part more both → ComesOf Is n (xs ++ x ∷ []) both
  comes_of_more n xs x part more both c is joined = record {
    parts = c.parts ++ more ∷ [];
    are = one_more n xs c.parts x more c.are (subst (λ k. Is k x more) (ap (λ l. n + length l) c.scenes) is);
    scenes = and_last (λ (q : PartValue). q.scenes) [] part.scenes both.scenes c.parts more c.scenes joined.scenes;
    attempts = and_last (λ (q : PartValue). q.attempts) [] part.attempts both.attempts c.parts more c.attempts joined.attempts;
    gaps = and_last (λ (q : PartValue). q.gaps) [] part.gaps both.gaps c.parts more c.gaps joined.gaps;
  }

  pub none_added : (old new : Suite) → new.scenes.items ≡ old.scenes.items → new.attempts.items ≡ old.attempts.items → new.gaps.items ≡ old.gaps.items → HasAdded Is [] old new
  none_added old new s a g = record {
    parts = [];
    are = tt;
    scenes = s ∙ sym (append-nil old.scenes.items);
    attempts = a ∙ sym (append-nil old.attempts.items);
    gaps = g ∙ sym (append-nil old.gaps.items);
  }

  pub one_added : (xs : List X) (x : X) (old mid new : Suite) (part : PartValue) → HasAdded Is xs old mid → Is (length mid.scenes.items) x part → HasPut part mid new → HasAdded Is (xs ++ x ∷ []) old new
  one_added xs x old mid new part h is put =
      let e : length mid.scenes.items ≡ length old.scenes.items + length (scenes_in h.parts) = ap length h.scenes ∙ length-append old.scenes.items (scenes_in h.parts) in
      record {
        parts = h.parts ++ part ∷ [];
        are = one_more (length old.scenes.items) xs h.parts x part h.are (subst (λ k. Is k x part) e is);
        scenes = and_last (λ (q : PartValue). q.scenes) old.scenes.items mid.scenes.items new.scenes.items h.parts part h.scenes put.scenes;
        attempts = and_last (λ (q : PartValue). q.attempts) old.attempts.items mid.attempts.items new.attempts.items h.parts part h.attempts put.attempts;
        gaps = and_last (λ (q : PartValue). q.gaps) old.gaps.items mid.gaps.items new.gaps.items h.parts part h.gaps put.gaps;
      }

  pub all_covered : (xs : List X) (old new : Suite) → HasAdded Is xs old new → new.more ≡ false → Covers Is xs old new
  all_covered xs old new h more = record {
    tried = xs;
    left = [];
    all = sym (append-nil xs);
    added = h;
    whole = λ e. refl;
    full = λ e. absurd (cc);
  }

  -- and the attempts of the next one are too many
  pub front_covered : (xs : List X) (i : ℕ) (x : X) (old mid new : Suite) (part : PartValue) → drop i xs ≡ x ∷ drop (i + 1) xs
      → HasAdded Is (take i xs) old mid → new.scenes.items ≡ mid.scenes.items → new.attempts.items ≡ mid.attempts.items → new.gaps.items ≡ mid.gaps.items → new.more ≡ true
      → Is (length mid.scenes.items) x part → MOST < length mid.attempts.items + length part.attempts → Covers Is xs old new
  front_covered xs i x old mid new part split h s a g more is many = record {
    tried = take i xs;
    left = drop i xs;
    all = sym (take-append-drop i xs);
    added = record { parts = h.parts; are = h.are; scenes = s ∙ h.scenes; attempts = a ∙ h.attempts; gaps = g ∙ h.gaps };
    whole = λ e. absurd (cc);
    full = λ e. record {
      next = x;
      behind = drop (i + 1) xs;
      left_is = split;
      part = part;
      is = subst (λ l. Is (length l) x part) (sym s) is;
      many = subst (λ l. MOST < length l + length part.attempts) (sym a) many;
    };
  }
