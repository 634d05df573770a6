-- Whether some role makes a name.
use Rattle.std.proofs.Common.{◌≡◌, ℕ, zero, suc, ◌+◌, ◌<◌, List, [], ◌∷◌, ◌++◌, length, map, take, drop, get_or, ap, sym, ◌∙◌, subst, arith, append_assoc, append-nil, refl, Bool, true, false, cond}
use Rattle.std.specs.Prelude.{◌||◌, ◌==◌, filter}
use Rattle.std.specs.List.{list_any, AllByRecursion}
use Rattle.std.proofs.lemmas.Bool.{eq-eqb, eqb-true, eqb-false, or_right}
use Rattle.anb_lemmas.proofs.Lists.{both_empty}
use Rattle.anb_term.specs.Tree.{Tree, leaf}
use Rattle.anb_protocol.specs.Choices.{each_after}
use Rattle.anb_protocol.specs.Protocols.{ActionValue, ProtocolValue}
use Rattle.anb_protocol.specs.Texts.{atoms_in, known_by}
use Rattle.anb_protocol.specs.Plans.{to_know, to_make, to_send, to_receive, events_at, own_events, made, made_at, names_number_or_key, plan_of, is_to_make, MakesNames}
use Rattle.anb_protocol.specs.Seen.{AreSeen, new_among}
use Rattle.anb_protocol.proofs.Afters.{any-append, each_step}
use Rattle.anb_protocol.proofs.SeenLemmas.{new-made}

none_known : (ts : List Tree) → list_any is_to_make (map to_know ts) ≡ false
none_known [] = refl
none_known (t ∷ ts) = none_known ts

-- what is made at some place is made among all
any_at : {X Y : Type 0} (f : List X → X → List Y) (q : Y → Bool) (before acts : List X) (i : ℕ) (x : X) → i < length acts → x ≡ get_or acts i x
    → list_any q (f (before ++ take i acts) x) ≡ true → list_any q (each_after f before acts) ≡ true
any_at f q before [] i x h e t = absurd (omega arith)
any_at f q before (a ∷ acts) zero x h e t =
    any-append q (f before a) (each_after f (before ++ a ∷ []) acts)
    ∙ ap (λ v. v || list_any q (each_after f (before ++ a ∷ []) acts)) (ap (λ y. list_any q (f before y)) (sym e) ∙ ap (λ l. list_any q (f l x)) (sym (append-nil before)) ∙ t)
any_at f q before (a ∷ acts) (suc i) x h e t =
    any-append q (f before a) (each_after f (before ++ a ∷ []) acts)
    ∙ or_right (list_any q (f before a)) _ (any_at f q (before ++ a ∷ []) acts i x (omega arith) e (ap (λ l. list_any q (f l x)) (append_assoc before (a ∷ []) (take i acts)) ∙ t))

some_made : (role number : ℕ) (names : List ℕ) (x : ActionValue) → x.from ≡ role → (names ≡ [] → ⊥) → list_any is_to_make (own_events role number names x) ≡ true
some_made role number [] x e some = absurd (some refl)
some_made role number (a ∷ names) x e some =
    ap (λ b. list_any is_to_make (cond b (map (λ y. to_make (leaf y)) (a ∷ names) ++ to_send number x.message ∷ []) (cond (x.to == role) (to_receive number x.message ∷ []) []))) (eq-eqb x.from role e)

-- where an action's sender makes a name, some role does
pub makes : (p : ProtocolValue) (i : ℕ) (x : ActionValue) → i < length p.actions → x ≡ get_or p.actions i x → x.from < length p.roles → (made p (take i p.actions) x.message ≡ [] → ⊥) → MakesNames p
unfolding plan_of
makes p i x h e low some = (
  x.from,
  low,
  any-append is_to_make (map to_know (known_by p x.from)) (each_after (events_at p x.from) [] p.actions)
      ∙ ap (λ v. v || list_any is_to_make (each_after (events_at p x.from) [] p.actions)) (none_known (known_by p x.from))
      ∙ any_at (events_at p x.from) is_to_make [] p.actions i x h e (some_made x.from (length (take i p.actions) + 1) (made p (take i p.actions) x.message) x refl some),
)

none_made : (role number : ℕ) (x : ActionValue) (b d : Bool)
    → list_any is_to_make (cond b (map (λ y. to_make (leaf y)) [] ++ to_send number x.message ∷ []) (cond d (to_receive number x.message ∷ []) [])) ≡ false
none_made role number x true d = refl
none_made role number x false true = refl
none_made role number x false false = refl

none_of : (p : ProtocolValue) (role : ℕ) (before acts : List ActionValue) → each_after (made_at p) before acts ≡ [] → list_any is_to_make (each_after (events_at p role) before acts) ≡ false
none_of p role before [] e = refl
none_of p role before (x ∷ acts) e =
    let parts = both_empty (made p before x.message) (each_after (made_at p) (before ++ x ∷ []) acts) e in
    any-append is_to_make (events_at p role before x) (each_after (events_at p role) (before ++ x ∷ []) acts)
    ∙ ap (λ v. v || list_any is_to_make (each_after (events_at p role) (before ++ x ∷ []) acts))
    (ap (λ ns. list_any is_to_make (own_events role (length before + 1) ns x)) parts.0 ∙ none_made role (length before + 1) x (x.from == role) (x.to == role))
    ∙ none_of p role (before ++ x ∷ []) acts parts.1

-- where no action's sender makes one, no role does
pub makes_none : (p : ProtocolValue) → each_after (made_at p) [] p.actions ≡ [] → MakesNames p → ⊥
unfolding plan_of
makes_none p e m =
    let none : list_any is_to_make (plan_of p m.0) ≡ false =
    any-append is_to_make (map to_know (known_by p m.0)) (each_after (events_at p m.0) [] p.actions)
    ∙ ap (λ v. v || list_any is_to_make (each_after (events_at p m.0) [] p.actions)) (none_known (known_by p m.0))
    ∙ none_of p m.0 [] p.actions e in
    cc (none, m.2)

pub is_nothing : {X : Type 0} (xs : List X) → (length xs == 0) ≡ true → xs ≡ []
is_nothing [] e = refl
is_nothing (x ∷ xs) e = let l = eqb-true (length (x ∷ xs)) 0 e in absurd (omega arith)

pub is_something : {X : Type 0} (xs : List X) → (length xs == 0) ≡ false → xs ≡ [] → ⊥
is_something xs e n = eqb-false (length xs) 0 e (ap length n)

-- an action whose sender makes nothing
pub made_none : (p : ProtocolValue) (acts : List ActionValue) (i : ℕ) (x : ActionValue) (flags : List Bool) (names : List ℕ) (all : List ℕ) → i < length acts → x ≡ get_or acts i x
    → AreSeen p (take i acts) flags → names ≡ filter (names_number_or_key p) (new_among flags (atoms_in x.message)) → names ≡ []
    → all ≡ each_after (made_at p) (take i acts) (drop i acts) → all ≡ each_after (made_at p) (take (i + 1) acts) (drop (i + 1) acts)
made_none p acts i x flags names all h e seen n none a =
    let nothing : made p (take i acts) x.message ≡ [] = sym (new-made p (take i acts) flags seen x.message) ∙ sym n ∙ none in
    a ∙ each_step (made_at p) acts i x h e ∙ ap (λ l. l ++ each_after (made_at p) (take (i + 1) acts) (drop (i + 1) acts)) nothing

-- an action whose sender makes something
pub made_some : (p : ProtocolValue) (i : ℕ) (x : ActionValue) (flags : List Bool) (names : List ℕ) → i < length p.actions → x ≡ get_or p.actions i x
    → AreSeen p (take i p.actions) flags → names ≡ filter (names_number_or_key p) (new_among flags (atoms_in x.message)) → (names ≡ [] → ⊥)
    → AllByRecursion (λ (a : ActionValue). a.from < length p.roles) p.actions → MakesNames p
made_some p i x flags names h e seen n some low =
    let here : AllByRecursion (λ (a : ActionValue). a.from < length p.roles) (x ∷ []) = (each_holds (λ (a : ActionValue). a.from < length p.roles) p.actions i x h e low, tt) in
    makes p i x h e here.0 (λ none. some (n ∙ new-made p (take i p.actions) flags seen x.message ∙ none))
  where
    each_holds : {X : Type 0} (P : X → Type 0) (xs : List X) (i : ℕ) (x : X) → i < length xs → x ≡ get_or xs i x → AllByRecursion P xs → P x
    each_holds P [] i x h e all = absurd (omega arith)
    each_holds P (y ∷ ys) zero x h e all = subst P (sym e) all.0
    each_holds P (y ∷ ys) (suc i) x h e all = each_holds P ys i x (omega arith) e all.1
