-- Pieces that are written one after another, and the line that they make.
use Rattle.std.proofs.Common.{◌≡◌, ℕ, ◌+◌, ◌<◌, ◌≤◌, List, [], ◌∷◌, ◌++◌, length, take, drop, get_or, suc, Option, Result, Ok, Err, OnOk, OnErr, codes, decimal, refl, ap, sym, ◌∙◌, inl, inr, arith, append_assoc, length-append}
use Rattle.std.specs.Borrow.{Bor}
use Rattle.std.proofs.Math.Seq.{take-append-add, drop-cons}
use Rattle.std.proofs.lemmas.List.{take-append-le, take-append-drop}
use Rattle.std.proofs.lemmas.Grind.{flat_map-append}
use Rattle.anb_base.specs.Moves.{Rose, Put, PutPrefix}
use Rattle.anb_base.specs.declared.content.Failed.{Failed}
use Rattle.anb_base.proofs.Joined.{Put-joined}
use Rattle.anb_status.specs.Lines.{Tells}
use Rattle.anb_status.specs.Pieces.{joined}
use Rattle.anb_status.specs.Statuses.{line_of, text_of}
use Rattle.anb_status.specs.declared.status.Status.{Status}
use Rattle.anb_status.specs.declared.status.Status.TheVariants.{Done, Usage, CannotSend, Spent, ArmCannotSend, BadArm, ChildCut, ChildSilent}

-- what was put, and then a prefix of what comes next, are a prefix of the whole
pub prefix_within : (a b c : Option (List ℕ)) (front next rest whole : List ℕ) → whole ≡ front ++ (next ++ rest) → Put a b front → PutPrefix b c next → PutPrefix a c whole
prefix_within a b c front next rest whole is put (n, within, more) =
    let size : length front + n ≤ length whole = rw is (omega (arith, length-append front (next ++ rest), length-append next rest)) in
    let taken : take (length front + n) whole ≡ front ++ take n next =
    rw is (take-append-add front (next ++ rest) n ∙ ap (λ (t : List ℕ). front ++ t) (take-append-le n next rest within)) in
    (length front + n, size, rw taken (Put-joined a b c front (take n next) put more))

-- the pieces are those so far, the next one, and the rest
pub joined_at : (pieces : List (Bor (List ℕ))) (i : ℕ) (d : Bor (List ℕ)) → i < length pieces
    → joined pieces ≡ joined (take i pieces) ++ ((get_or pieces i d).now ++ joined (drop (suc i) pieces))
joined_at pieces i d within =
    ap joined (sym (take-append-drop i pieces)) ∙ flat_map-append (λ (piece : Bor (List ℕ)). piece.now) (take i pieces) (drop i pieces)
    ∙ ap (λ (after : List (Bor (List ℕ))). joined (take i pieces) ++ joined after) (drop-cons pieces i d within)

-- the line is told where its pieces are written, or as many as could be
pub told : (r : Result (Unit {0}) Failed) (old new : Option (List ℕ)) (before now : ℕ) (line : List ℕ)
    → OnOk r (Put old new line) → OnErr r (PutPrefix old new line) → OnErr r (Rose before now) → before ≤ now → Tells line old new before now
told (Ok x) old new before now line put failed cause more = record { told = inl put; never_falls = more }
told (Err e) old new before now line put failed cause more = record { told = inr (cause, failed); never_falls = more }

-- the line of a status other than Done
pub line_of-other : (status : Status) → (status ≡ Done → ⊥) → line_of status ≡ codes "anb: " ++ text_of status ++ 10 ∷ []
line_of-other Done other = absurd (other refl)
line_of-other Usage other = refl
line_of-other _ other = refl

-- the line of a status is its pieces
pub line_is : (status : Status) (a b c d e f g : List ℕ) → (status ≡ Done → ⊥) → text_of status ≡ a ++ (b ++ (c ++ (d ++ (e ++ (f ++ g)))))
    → codes "anb: " ++ (a ++ (b ++ (c ++ (d ++ (e ++ (f ++ (g ++ (10 ∷ [])))))))) ≡ line_of status
line_is status a b c d e f g other text = sym (rw (line_of-other status other, text) (simp append_assoc))

-- the text of a message that can't be composed
pub cannot_send_text : (s : Status) (action : ℕ) (role name digits : List ℕ) → s ≡ CannotSend action role → name ≡ role → digits ≡ decimal action
    → text_of s ≡ name ++ (codes " can't compose the message of action " ++ digits)
cannot_send_text s action role name digits is name_is digits_are = rw (is, name_is, digits_are) refl

-- the same of one that can't be composed in an arm
pub arm_cannot_send_text : (s : Status) (arm action : ℕ) (role name digits number : List ℕ) → s ≡ ArmCannotSend arm action role
    → name ≡ role → digits ≡ decimal action → number ≡ decimal arm
    → text_of s ≡ name ++ (codes " can't compose the message of action " ++ (digits ++ (codes " in arm " ++ number)))
arm_cannot_send_text s arm action role name digits number is name_is digits_are number_is = rw (is, name_is, digits_are, number_is) refl

-- the text of frames that were handled
pub spent_text : (s : Status) (frames : ℕ) (digits : List ℕ) → s ≡ Spent frames → digits ≡ decimal frames
    → text_of s ≡ digits ++ codes " frames handled"
spent_text s frames digits is digits_are = rw (is, digits_are) refl

-- the text of an arm that doesn't fit
pub bad_arm_text : (s : Status) (arm : ℕ) (digits : List ℕ) → s ≡ BadArm arm → digits ≡ decimal arm
    → text_of s ≡ codes "arm " ++ (digits ++ codes " doesn't fit")
bad_arm_text s arm digits is digits_are = rw (is, digits_are) refl

-- the text of a message that a child's output ends in
pub child_cut_text : (s : Status) (action have need : ℕ) (a h n : List ℕ) → s ≡ ChildCut action have need
    → a ≡ decimal action → h ≡ decimal have → n ≡ decimal need
    → text_of s ≡ codes "message of action " ++ (a ++ (codes " ends after " ++ (h ++ (codes " of " ++ (n ++ codes " bytes")))))
child_cut_text s action have need a h n is a_is h_is n_is = rw (is, a_is, h_is, n_is) refl

-- the text of a child that was silent
pub child_silent_text : (s : Status) (seconds : ℕ) (role name digits : List ℕ) → s ≡ ChildSilent role seconds → name ≡ role → digits ≡ decimal seconds
    → text_of s ≡ codes "child " ++ (name ++ (codes " was silent for " ++ (digits ++ codes " seconds")))
child_silent_text s seconds role name digits is name_is digits_are = rw (is, name_is, digits_are) refl

pub on_err : {P : Type 0} (r : Result (Unit {0}) Failed) → P → OnErr r P
on_err (Ok x) p = tt
on_err (Err e) p = p
