-- What is left of an output that is told, in frames.
use Rattle.std.proofs.Common.{◌≡◌, ℕ, ◌≤◌, ◌<◌, ◌^◌, List, [], ◌∷◌, ◌++◌, length, Option, Some, None, refl, sym, ap, ◌∙◌, subst, arith, append_assoc, append-nil}
use Rattle.std.specs.List.{AllByRecursion}
use Rattle.std.proofs.lemmas.List.Elements.{All-from_recursion}
use Rattle.anb_base.specs.Moves.{Took}
use Rattle.anb_base.specs.declared.TheConstants.{ARRIVAL}
use Rattle.anb_frame.specs.Frames.{frame, frames, length_bytes}
use Rattle.anb_frame.specs.Cuts.{Tail, End, Short, Long, Cut, CutLeft}
use Rattle.anb_frame.specs.Cuts as cuts
use Rattle.anb_frame.proofs.Cuts.{cut_of_frame, cut_of_tail, length_said}

abbrev Text : Type 0
Text = List ℕ

arrival_fits : ARRIVAL < 2 ^ 32
arrival_fits = omega arith

-- frames alone are a cut
pub whole_cut : (bs : List Text) → AllByRecursion (λ b. length b ≤ ARRIVAL) bs → Cut ARRIVAL (frames bs) bs End
whole_cut bs short = ([], sym (append-nil (frames bs)), All-from_recursion (λ b. length b ≤ ARRIVAL) bs short, refl)

-- behind some frames is the cut of what is left
pub cut_behind : (ms : List Text) (left : Text) (bs : List Text) (tail : Tail) → AllByRecursion (λ b. length b ≤ ARRIVAL) ms → Cut ARRIVAL (frames ms ++ left) bs tail
    → (rest : List Text) × (bs ≡ ms ++ rest) × Cut ARRIVAL left rest tail
cut_behind [] left bs tail short cut = (bs, refl, cut)
cut_behind (m ∷ ms) left bs tail short cut =
    let one = cut_of_frame ARRIVAL m (frames ms ++ left) bs tail arrival_fits short.0 (subst (λ x. Cut ARRIVAL x bs tail) (append_assoc (frame m) (frames ms) left) cut) in
    let more = cut_behind ms left one.0 tail short.1 one.2 in
    (more.0, one.1 ∙ ap (λ l. m ∷ l) more.1, more.2)

-- What a source that tells these bytes has left.
pub record LeftOf (old : Text) (new : Option Text) (taken : Text) : Type 0 where
  pub left : Text
  pub is : new ≡ Some left
  pub all : old ≡ taken ++ left

pub left_of : (old : Text) (new : Option Text) (taken : Text) → Took (Some old) new taken → LeftOf old new taken
left_of old None taken took = absurd took
left_of old (Some left) taken took = record { left = left; is = refl; all = took }

-- nothing is no frame, and no part of one
pub none_framed : (bs : List Text) (xs : Text) → [] ≡ frames bs ++ xs → (bs ≡ []) × (xs ≡ [])
none_framed [] xs is = (refl, sym is)
none_framed (b ∷ bs) xs is =
    let whole : [] ≡ length_bytes (length b) ++ (b ++ (frames bs ++ xs)) = is ∙ append_assoc (frame b) (frames bs) xs ∙ append_assoc (length_bytes (length b)) b (frames bs ++ xs) in
    absurd (omega (arith, ap length whole, length_said (length b) (b ++ (frames bs ++ xs))))

pub no_part : (xs : Text) (have need : ℕ) → cuts.Ends ARRIVAL xs (Short have need) → xs ≡ [] → ⊥
no_part xs have need ends none = omega (arith, ends.0, ap length none)

pub no_length : (len : ℕ) (xs : Text) → [] ≡ length_bytes len ++ xs → ⊥
no_length len xs is = omega (arith, ap length is, length_said len xs)

-- where frames are left, no part of one, and no length that is too long is next
pub frames_no_part : (left part rest : Text) (bs : List Text) (have need : ℕ) → Cut ARRIVAL left bs End → left ≡ part ++ rest → rest ≡ [] → cuts.Ends ARRIVAL part (Short have need) → ⊥
frames_no_part left part rest bs have need cut is none ends =
    let same : left ≡ part = is ∙ ap (λ l. part ++ l) none ∙ append-nil part in
    let tail = cut_of_tail ARRIVAL part (Short have need) bs End arrival_fits ends (subst (λ x. Cut ARRIVAL x bs End) same cut) in
    not_short tail.1 where
      not_short : End ≡ Short have need → ⊥
      not_short e = cc

pub frames_no_length : (left rest : Text) (bs : List Text) (len : ℕ) → Cut ARRIVAL left bs End → left ≡ length_bytes len ++ rest → ARRIVAL < len → len < 2 ^ 32 → ⊥
frames_no_length left rest bs len cut is above small =
    let tail = cut_of_tail ARRIVAL left (Long len) bs End arrival_fits (rest, is, above, small) cut in
    not_long tail.1 where
      not_long : End ≡ Long len → ⊥
      not_long e = cc

-- where no frame is left, nothing is
pub none_left : (left : Text) → Cut ARRIVAL left [] End → left ≡ []
none_left left cut = cut.1 ∙ cut.3
